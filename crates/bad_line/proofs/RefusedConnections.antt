-- Rules one after another, and connections that are refused.
use Rattle.std.proofs.Common.{◌≡◌, ℕ, zero, suc, List, [], ◌∷◌, ◌++◌, refl, subst, Option, Some}
use Rattle.bad_line.specs.declared.rules.rule.Rule.{Rule}
use Rattle.bad_line.specs.declared.rules.rule.Rule.TheVariants.{Lose, Repeat, Damage, BreakAfter, Delay, Pace}
use Rattle.bad_line.specs.declared.rules.rule.Rule.TheVariants.{RefuseConnections, LoseByChance, DamageByChance}
use Rattle.bad_line.specs.declared.rules.rule.Rule.TheVariants.{RestartAfter}
use Rattle.bad_line.specs.Connections.{with_restarts, Refuses, Line, AsksRestart, is_restart}
use Rattle.std.proofs.Common.{None, Bool, false, MatchOption, sym}
use Rattle.std.specs.List.{list_any}
use Rattle.bad_line.specs.Fates.{Passing}

pub with_restarts-cons : (rule : Rule) (rules : List Rule)
    → with_restarts (rule ∷ rules) ≡ with_restarts (rule ∷ []) ++ with_restarts rules
with_restarts-cons (Lose way span) rules = refl
with_restarts-cons (Repeat way span) rules = refl
with_restarts-cons (Damage way number place) rules = refl
with_restarts-cons (BreakAfter way number) rules = refl
with_restarts-cons (Delay milliseconds from) rules = refl
with_restarts-cons (Pace milliseconds from) rules = refl
with_restarts-cons (RefuseConnections milliseconds) rules = refl
with_restarts-cons (LoseByChance percent from) rules = refl
with_restarts-cons (DamageByChance percent from) rules = refl
with_restarts-cons (RestartAfter number) rules = refl

pub refuses_more : {C I O : Type 0} (opens : C → Option (I × O) → C → Type 0) (closes : C → I → O → C → Type 0)
    (count : ℕ) (a b : C) (input : I) (output : O) (between c : C) → Refuses opens closes count a b
    → opens b (Some (input, output)) between → closes between input output c → Refuses opens closes (suc count) a c
refuses_more opens closes zero a b input output between c same opened closed =
    (input, output, between, c, subst (λ from. opens from (Some (input, output)) between) same opened, closed, refl)
refuses_more opens closes (suc count) a b input output between c (i, o, m, n, first, then, rest) opened closed =
    (i, o, m, n, first, then, refuses_more opens closes count n b input output between c rest opened closed)

-- It was asked whether the encoder begins anew, while no connection is open.
pub asks_some : {C : Type 0} (line line' : Line C) (frames : Passing) (result : Bool) → line.frames ≡ Some frames
    → result ≡ list_any (is_restart line.asked frames.passed) line.rules
    → line' ≡ record line { asked = frames.passed } → AsksRestart line result line'
asks_some line line' frames result is due now =
    subst (λ f. MatchOption f ((result ≡ false) × (line' ≡ line))
    (λ faults. (result ≡ list_any (is_restart line.asked faults.passed) line.rules)
    × (line' ≡ record line { asked = faults.passed }))) (sym is) (due, now)

-- While one is open.
pub asks_none : {C : Type 0} (line : Line C) → line.frames ≡ None → AsksRestart line false line
asks_none line is =
    subst (λ f. MatchOption f ((false ≡ false) × (line ≡ line))
    (λ faults. (false ≡ list_any (is_restart line.asked faults.passed) line.rules)
    × (line ≡ record line { asked = faults.passed }))) (sym is) (refl, refl)
