-- A switch: where tokens stop to be one, and what it says in other words.
use Rattle.std.proofs.Common.{◌≡◌, ℕ, Bool, List, [], ◌∷◌, refl, ap}
use Rattle.uecp_elements.specs.Grammar.{TaTp, spelling}
use Rattle.rds_text.specs.declared.programme_type.Region.{Region}
use Rattle.phrase_tokens.specs.Tokens.{Token, Word}
use Rattle.uecp_phrases.specs.declared.head.Head.TheVariants as head
use Rattle.uecp_phrases.specs.declared.expectation.Expectation.{Expectation}
use Rattle.uecp_phrases.specs.declared.expectation.Expectation.TheVariants as what
use Rattle.uecp_phrases.specs.Phrases.{switch_word, announcing, giving}
use Rattle.uecp_phrases.specs.Expecting.{MayStand, IsNext, IsStop}
use Rattle.uecp_phrases.specs.Stops.{Told, IsStuck, IsSwitched, IsEnd}
use Rattle.uecp_phrases.proofs.Stopping.{Same, behind_stop, stuck_stop}

-- ---- Where tokens stop to be one.

switch_next : (region : Region) → IsNext region IsSwitched [] what.Switch
switch_next region = record { only = only; may = may; ends = ends; may_end = λ m. absurd m }
  where
    only : (t : Token) (more : List Token) → IsSwitched (t ∷ more) → MayStand region what.Switch t
    only t more (on, e) = (on, cc)

    may : (t : Token) → MayStand region what.Switch t → (more : List Token) × IsSwitched (t ∷ more)
    may t (on, is) = ([], (on, ap (λ x. x ∷ []) is))

    ends : IsSwitched [] → ⊥
    ends (on, e) = cc e

pub no_switch : (region : Region) (tokens : List Token) (w : Expectation) (left : ℕ)
    → IsStuck region what.Switch tokens w left → IsStop region IsSwitched tokens w left
no_switch region tokens w left stuck =
    stuck_stop region IsSwitched what.Switch tokens w left (λ m. m) (switch_next region) stuck

-- Behind the word nothing is left.
switch_behind : (t : Token) (on : Bool) → t ≡ Word (switch_word on) → Same (λ l. IsSwitched (t ∷ l)) IsEnd
switch_behind t on is = record { to = to; from = from }
  where
    to : (l : List Token) → IsSwitched (t ∷ l) → IsEnd l
    to l (other, e) = cc

    from : (l : List Token) → IsEnd l → IsSwitched (t ∷ l)
    from l e = (on, cc)

pub switch_stop : (region : Region) (t : Token) (on : Bool) (tokens rest : List Token) (w : Expectation) (left : ℕ)
    → t ≡ Word (switch_word on) → tokens ≡ t ∷ rest → IsStop region IsEnd rest w left
    → IsStop region IsSwitched tokens w left
switch_stop region t on tokens rest w left word is stop =
    behind_stop region IsSwitched IsEnd t tokens rest w left is (switch_behind t on word) stop

-- ---- Such a phrase tells a switch.

pub ta_told : (region : Region) → Same (Told region head.Ta) IsSwitched
ta_told region = record {
  to = λ l r. (r.1.0, r.1.1);
  from = λ l s. (spelling (TaTp 0 0 (announcing s.0)), (s.0, s.1, refl));
}

pub tp_told : (region : Region) → Same (Told region head.Tp) IsSwitched
tp_told region = record {
  to = λ l r. (r.1.0, r.1.1);
  from = λ l s. (spelling (TaTp 0 0 (giving s.0)), (s.0, s.1, refl));
}
