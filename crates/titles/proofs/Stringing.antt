-- A string that is read part by part, by what is left of it.
use Rattle.std.proofs.Common.{◌≡◌, ◌⊎◌, ℕ, List, [], ◌∷◌, ◌++◌, true, refl, sym, ap, ◌∙◌, subst}
use Rattle.std.specs.List.{list_all}
use Rattle.std.proofs.lemmas.List.{append_assoc}
use Rattle.unicode_normalization.specs.Forms.{nfc}
use Rattle.titles.specs.Fitting.{AreFitted, Puts}
use Rattle.titles.specs.Strings.{IsEscape, IsNoEscape, IsNoString, SaysFitted, is_plain}
use Rattle.titles.specs.Parts.{PutsRun, PutsString}

-- the string was read up to what is left of it: whatever that says, behind what was added, is what all of it says
pub record Goes (body left before now : List ℕ) : Type 0 where
  pub done : List ℕ
  pub whole : body ≡ done ++ left
  pub leads : (inner says : List ℕ) → SaysFitted inner says → Puts (SaysFitted (done ++ inner)) before (now ++ says)

pub goes_from : (body before : List ℕ) → Goes body body before before
goes_from body before = record {
  done = [];
  whole = refl;
  leads = λ inner says is. (says, is, refl);
}

pub goes_on : (body left more before now next run escape first : List ℕ) (byte : ℕ) → Goes body left before now
    → left ≡ run ++ (escape ++ more) → list_all is_plain run ≡ true → AreFitted (nfc run) first
    → IsEscape escape byte → next ≡ now ++ (first ++ byte ∷ []) → Goes body more before next
goes_on body left more before now next run escape first byte goes is plain are escaped put = record {
  done = goes.done ++ (run ++ escape);
  whole = goes.whole ∙ ap (λ k. goes.done ++ k) (is ∙ sym (append_assoc run escape more))
      ∙ sym (append_assoc goes.done (run ++ escape) more);
  leads = λ inner says said.
      let front : goes.done ++ (run ++ (escape ++ inner)) ≡ (goes.done ++ (run ++ escape)) ++ inner =
      ap (λ k. goes.done ++ k) (sym (append_assoc run escape inner))
      ∙ sym (append_assoc goes.done (run ++ escape) inner) in
      let back : now ++ (first ++ (byte ∷ says)) ≡ next ++ says =
      ap (λ k. now ++ k) (sym (append_assoc first (byte ∷ []) says))
      ∙ sym (append_assoc now (first ++ byte ∷ []) says) ∙ ap (λ k. k ++ says) (sym put) in
      let both : SaysFitted (run ++ (escape ++ inner)) (first ++ (byte ∷ says)) =
      (escape ∷ said.0, (run, inner, first, says, byte, refl, plain, are, escaped, refl, said.1)) in
      subst (λ k. Puts (SaysFitted ((goes.done ++ (run ++ escape)) ++ inner)) before k) back
      (subst (λ k. Puts (SaysFitted k) before (now ++ (first ++ (byte ∷ says)))) front
      (goes.leads (run ++ (escape ++ inner)) (first ++ (byte ∷ says)) both));
}

-- the last characters
last_run : (body left before now next run rest : List ℕ) → (goes : Goes body left before now) → left ≡ run ++ rest
    → PutsRun run now next → (body ≡ (goes.done ++ run) ++ rest) × Puts (SaysFitted (goes.done ++ run)) before next
last_run body left before now next run rest goes is (plain, (bytes, are, put)) = (
  goes.whole ∙ ap (λ k. goes.done ++ k) is ∙ sym (append_assoc goes.done run rest),
  subst (λ k. Puts (SaysFitted (goes.done ++ run)) before k) (sym put) (goes.leads run bytes ([], (plain, are))),
)

pub goes_to_end : (body left behind before now next run : List ℕ) → Goes body left before now
    → left ≡ run ++ 0x22 ∷ behind → PutsRun run now next → PutsString body behind before next
goes_to_end body left behind before now next run goes is put =
    let (whole, said) = last_run body left before now next run (0x22 ∷ behind) goes is put in
    (goes.done ++ run, whole, said)

pub goes_nowhere : (body left before now next run rest : List ℕ) → Goes body left before now → left ≡ run ++ rest
    → PutsRun run now next → (rest ≡ []) ⊎ IsNoEscape rest → IsNoString body
goes_nowhere body left before now next run rest goes is put none =
    let (whole, said) = last_run body left before now next run rest goes is put in
    (goes.done ++ run, rest, said.0, whole, said.1, none)
