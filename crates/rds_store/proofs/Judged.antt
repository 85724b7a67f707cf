-- The code of a message, told element by element.
use Rattle.std.proofs.Common.{◌≡◌, ◌≢◌, ℕ, List, [], ◌∷◌, length, refl, sym, ap, ◌∙◌, Ok, Err}
use Rattle.uecp_elements.specs.declared.code.Code.{Code}
use Rattle.uecp_elements.specs.declared.code.Code.TheVariants.{Applied, UnknownElement, DataSet, Service, OutOfRange}
use Rattle.uecp_elements.specs.declared.code.Code.TheVariants.{ElementLength, NotHere, BufferFull}
use Rattle.uecp_elements.specs.declared.fault.ElementFault.{ElementFault}
use Rattle.uecp_elements.specs.Grammar.{Element}
use Rattle.uecp_elements.specs.Reading.{Item}
use Rattle.uecp_elements.specs.Folding.{folded, where_applied}
use Rattle.rds_store.specs.Value.{Store}
use Rattle.rds_store.specs.Refusals.{code_of}
use Rattle.rds_store.specs.Put.{put}
use Rattle.rds_store.proofs.LawProofs.{keeps_sets_and_services}
use Rattle.rds_store.proofs.MessageLaws.{where_first}

-- What is left of the items decides, put into a store with these sets and services where so many groups wait.
abbrev pub Left : (self : Store) (all rest : List Item) (waiting : ℕ) → Type 0
Left self all rest waiting = (w : Store) × (w.sets ≡ self.sets) × (w.services ≡ self.services)
    × (length w.groups ≡ waiting) × ((folded put self all).1 ≡ (folded put w rest).1)

stops_first : (done : Store × Code) (others : Store → Store × Code) → done.1 ≢ Applied
    → where_applied done others ≡ done
stops_first (w, Applied) others h = absurd (h refl)
stops_first (w, UnknownElement) others h = refl
stops_first (w, DataSet) others h = refl
stops_first (w, Service) others h = refl
stops_first (w, OutOfRange) others h = refl
stops_first (w, ElementLength) others h = refl
stops_first (w, NotHere) others h = refl
stops_first (w, BufferFull) others h = refl

module _ (self : Store) (all : List Item) where
  pub left_at_first : Left self all all (length self.groups)
  left_at_first = (self, refl, refl, refl, refl)

  pub left_on : (e : Element) (rest : List Item) (waiting after : ℕ) → Left self all (Ok e ∷ rest) waiting
      → ((v : Store) → v.sets ≡ self.sets → v.services ≡ self.services → length v.groups ≡ waiting
      → (code_of v e ≡ Applied) × (length (put v e).0.groups ≡ after))
      → Left self all rest after
  unfolding folded
  left_on e rest waiting after (w, sets, services, groups, decides) judged =
      let here = judged w sets services groups in
      let kept = keeps_sets_and_services w e in (
        (put w e).0,
        kept.0 ∙ sets,
        kept.1 ∙ services,
        here.1,
        decides ∙ ap (λ r. r.1) (where_first (put w e) (λ x. folded put x rest) here.0),
      )

  pub left_refused : (e : Element) (rest : List Item) (waiting : ℕ) (code : Code)
      → Left self all (Ok e ∷ rest) waiting
      → ((v : Store) → v.sets ≡ self.sets → v.services ≡ self.services → length v.groups ≡ waiting
      → (code_of v e ≡ code) × (code ≢ Applied))
      → (folded put self all).1 ≡ code
  unfolding folded
  left_refused e rest waiting code (w, sets, services, groups, decides) judged =
      let here = judged w sets services groups in
      decides ∙ ap (λ r. r.1) (stops_first (put w e) (λ x. folded put x rest) (λ k. here.1 (sym here.0 ∙ k))) ∙ here.0

  pub left_fault : (fault : ElementFault) (rest : List Item) (waiting : ℕ) → Left self all (Err fault ∷ rest) waiting
      → (folded put self all).1 ≡ fault.code
  unfolding folded
  left_fault fault rest waiting (w, sets, services, groups, decides) = decides

  pub left_end : (waiting : ℕ) → Left self all [] waiting → (folded put self all).1 ≡ Applied
  unfolding folded
  left_end waiting (w, sets, services, groups, decides) = decides
