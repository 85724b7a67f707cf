-- Whether a line of an input was no object of ours.
use Rattle.std.proofs.Common.{◌≡◌, ℕ, Bool, true, false, List, [], ◌∷◌, Option, Some, None, refl, ◌∙◌}
use Rattle.std.proofs.Common.{suc, sym, subst, arith}
use Rattle.std.proofs.lemmas.List.Elements.{All-nil, All-cons}
use Rattle.serde_json.specs.Data.{Data}
use Rattle.serde_json.specs.Read.{read}
use Rattle.json.specs.Lex.{lex, punctuate}
use Rattle.json.specs.Json.{value}
use Rattle.page.specs.declared.state.page.Took.TheVariants.{Ours, Other}
use Rattle.page.specs.Taking.{IsOurs}
use Rattle.page.specs.Lines.{AreAll}
use Rattle.page.specs.Intake.{Board}
use Rattle.page.specs.Input.{at_start, bytes_left, TakesAll, AllTaken, IsOurLine, HasOther}

-- no bytes are no object
nothing_read : (d : Data) → read [] ≡ Some d → ⊥
unfolding lex punctuate value
nothing_read d same = absurd (cc)

-- once a line was no object of ours, that is remembered
stays : (out : List (Option (List ℕ))) (before behind : Board) → TakesAll out before behind → before.refused ≡ true
    → behind.refused ≡ true
stays [] before behind same refused = subst (λ b. b.refused ≡ true) (sym same) refused
stays (told ∷ out) before behind (came, next, taken, (Ours text, takes, (adds, kept), count), rest) refused =
    stays out next behind rest (kept ∙ refused)
stays (told ∷ out) before behind (came, next, taken, (Other, takes, (is, past, kept), count), rest) refused =
    stays out next behind rest kept

is_ours : (told : Option (List ℕ)) (d : Data) → IsOurs (bytes_left told) d → IsOurLine told
is_ours None d ours = nothing_read d ours.1
is_ours (Some line) d ours = (d, ours)

is_other : (told : Option (List ℕ)) → ((d : Data) → IsOurs (bytes_left told) d → ⊥) → IsOurLine told → ⊥
is_other None none is = is
is_other (Some line) none (d, ours) = none d ours

more : (told : Option (List ℕ)) (out : List (Option (List ℕ))) (refused : Bool) → IsOurLine told → HasOther out refused
    → HasOther (told ∷ out) refused
more told out true is some = (suc some.0, some.1, omega (arith, some.2), some.3, some.4)
more told out false is all = All-cons IsOurLine told out is all

has_other : (out : List (Option (List ℕ))) (before behind : Board) → TakesAll out before behind
    → before.refused ≡ false → HasOther out behind.refused
has_other [] before behind same fresh =
    subst (λ b. HasOther [] b.refused) (sym same) (subst (HasOther []) (sym fresh) (All-nil IsOurLine))
has_other (told ∷ out) before behind
    (came, next, taken, (Ours text, (d, ours, shown, said, again), (adds, kept), count), rest) fresh =
    more told out behind.refused (is_ours told d ours) (has_other out next behind rest (kept ∙ fresh))
has_other (told ∷ out) before behind (came, next, taken, (Other, (shown, none), (is, past, kept), count), rest) fresh =
    subst (HasOther (told ∷ out)) (sym (stays out next behind rest kept))
    (0, told, omega arith, refl, is_other told none)

pub refused_exactly : (first : ℕ) (bytes : List ℕ) (behind : Board) → AllTaken first bytes behind
    → (out : List (Option (List ℕ))) × AreAll bytes out × HasOther out behind.refused
refused_exactly first bytes behind all =
    (all.out, all.are_all, has_other all.out (at_start first) behind all.taken refl)
