-- Where nothing waits.
use Rattle.std.proofs.Common.{◌≡◌, ℕ, ◌-◌, List, [], ◌∷◌, Some, None, ◌∙◌, sym, subst, ap, arith}
use Rattle.live_edges.specs.declared.patience.Patience.{Patience}
use Rattle.live_edges.specs.declared.patience.Wait.{Wait}
use Rattle.live_edges.specs.Waiting.{IsGivenUp, IsLate, IsReached, since_or}
use Rattle.live_edges.specs.Waiting.{Happening, Wanted, Used, Made, Refused, Closed, after_one, after_all}

nothing_passed : (w : Wait) (now : ℕ) → w.since ≡ None → now - since_or w.since now ≡ 0
nothing_passed w now none = ap (λ s. now - since_or s now) none ∙ (omega arith)

pub never_given_up_lem : (p : Patience) (now : ℕ) (w : Wait) → w.since ≡ None → (IsReached p.give_up 0 → ⊥)
    → IsGivenUp p now w → ⊥
never_given_up_lem p now w none limit up =
    limit (subst (IsReached p.give_up) (nothing_passed w now none) up.1)

pub never_late_lem : (p : Patience) (now : ℕ) (w : Wait) → w.since ≡ None → IsLate p now w → ⊥
never_late_lem p now w none late = let same = sym none ∙ late.1 in cc

since_stays : (since : ℕ) (h : Happening) (w : Wait) → w.since ≡ Some since → (after_one h w).since ≡ Some since
since_stays since (Wanted now) w is = ap (λ s. Some (since_or s now)) is
since_stays since (Used now) w is = ap (λ s. Some (since_or s now)) is
since_stays since (Made now) w is = is
since_stays since (Refused longest) w is = is
since_stays since (Closed is_answered is_broken longest) w is = is

since_stays_on : (since : ℕ) (hs : List Happening) (w : Wait) → w.since ≡ Some since
    → (after_all hs w).since ≡ Some since
since_stays_on since [] w is = is
since_stays_on since (h ∷ hs) w is = since_stays_on since hs (after_one h w) (since_stays since h w is)

pub in_time_lem : (p : Patience) (since now : ℕ) (w : Wait) (between : List Happening) → w.since ≡ Some since
    → IsReached p.give_up (now - since) → IsLate p now (after_all between w)
in_time_lem p since now w between is reached = (since, since_stays_on since between w is, reached)
