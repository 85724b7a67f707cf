use Rattle.std.proofs.Common.{sym, ap, ◌∙◌, is_some, ◌&&◌, nat_le, ◌==◌, Option, Bor, Some, None, ◌≡◌, refl}
use Rattle.std.specs.List.{list_any}
use Rattle.std.specs.Map.{keys_of}
use Rattle.std.specs.Option.{option_and_then, option_copied}
use Rattle.std.specs.FinMap as places
use Rattle.rds_store.specs.Kept.{in_set}
use Rattle.rds_store.proofs.Places.{get-all_places, some_at, zero_not_listed}
use Rattle.rds_store.proofs.store.RdsStore.service.Goals as goal

pub returns-in-Some-clause-value : goal.returns-in-Some-clause-value
returns-in-Some-clause-value c =
    c.get-in-Some.ensures
    ∙ ap (option_and_then (λ held. in_set 1 held c.args.set)) c.in-Some.ensures.value
    ∙ sym (get-all_places c.self-inside.inside.0.0.sets c.args.set c.args.psn c.self-inside.inside.0.0.services.entries
    c.self-inside.invariant.all_sets)
    ∙ ap (λ v. places.get v.places (c.args.set, c.args.psn)) (ap (λ w. w.main) c.self-inside.view_is ∙ c.self.view_is)

pub returns-in-None-clause-value : goal.returns-in-None-clause-value
returns-in-None-clause-value c =
    ap (option_and_then (λ held. in_set 1 held c.args.set)) c.in-None.ensures.value
    ∙ sym (get-all_places c.self-inside.inside.0.0.sets c.args.set c.args.psn c.self-inside.inside.0.0.services.entries
    c.self-inside.invariant.all_sets)
    ∙ ap (λ v. places.get v.places (c.args.set, c.args.psn)) (ap (λ w. w.main) c.self-inside.view_is ∙ c.self.view_is)

some_copied : {A : Type 0} (o : Option (Bor A)) → is_some o ≡ is_some (option_copied o)
some_copied None = refl
some_copied (Some x) = refl

pub returns-in-Some-clause-there : goal.returns-in-Some-clause-there
returns-in-Some-clause-there c =
    some_copied c.get-in-Some.result
    ∙ ap is_some (c.get-in-Some.ensures ∙ ap (option_and_then (λ held. in_set 1 held c.args.set))
    c.in-Some.ensures.value)
    ∙ some_at c.self-inside.inside.0.0.sets c.args.set c.args.psn c.self-inside.inside.0.0.services.entries
    c.self-inside.invariant.all_sets
    ∙ ap (λ v. list_any (λ s. c.args.psn == s) v.services && (nat_le 1 c.args.set && nat_le c.args.set v.sets))
    (ap (λ w. w.main) c.self-inside.view_is ∙ c.self.view_is)

pub returns-in-None-clause-there : goal.returns-in-None-clause-there
returns-in-None-clause-there c =
    ap is_some (ap (option_and_then (λ held. in_set 1 held c.args.set)) c.in-None.ensures.value)
    ∙ some_at c.self-inside.inside.0.0.sets c.args.set c.args.psn c.self-inside.inside.0.0.services.entries
    c.self-inside.invariant.all_sets
    ∙ ap (λ v. list_any (λ s. c.args.psn == s) v.services && (nat_le 1 c.args.set && nat_le c.args.set v.sets))
    (ap (λ w. w.main) c.self-inside.view_is ∙ c.self.view_is)

pub returns-in-Some-clause-zero : goal.returns-in-Some-clause-zero
returns-in-Some-clause-zero c = λ zero.
    some_copied c.get-in-Some.result
    ∙ ap is_some (c.get-in-Some.ensures ∙ ap (option_and_then (λ held. in_set 1 held c.args.set))
    c.in-Some.ensures.value)
    ∙ some_at c.self-inside.inside.0.0.sets c.args.set c.args.psn c.self-inside.inside.0.0.services.entries
    c.self-inside.invariant.all_sets
    ∙ ap (λ b. b && (nat_le 1 c.args.set && nat_le c.args.set c.self-inside.inside.0.0.sets))
    (zero_not_listed c.args.psn (keys_of c.self-inside.inside.0.0.services.entries) zero
    c.self-inside.invariant.no_zero)
