use Rattle.std.proofs.Common.{◌==◌, false, sym, ap, ◌∙◌}
use Rattle.std.specs.Option.{option_map_or}
use Rattle.rds_store.specs.Names.{names_set}
use Rattle.rds_store.specs.Refusals.{is_full}
use Rattle.rds_store.proofs.OneSet.{same_full, full_in}
use Rattle.rds_store.proofs.in_sets.ServiceInSets.is_full.Goals as goal

pub returns-in-Some-get : goal.returns-in-Some-get
returns-in-Some-get c =
    let set = c.in-Some.set in
    c.is_full.ensures ∙ sym (same_full (names_set c.args.named.dsn c.args.named.current) (λ k. k == set)
    c.in-Some.ensures.named 1 c.args.self.now ∙ full_in set 1 c.args.self.now
    ∙ ap (λ o. option_map_or is_full o false) (sym c.in-Some-get.ensures))

pub returns-in-None-get : goal.returns-in-None-get
returns-in-None-get c =
    let set = c.in-Some.set in
    sym (same_full (names_set c.args.named.dsn c.args.named.current) (λ k. k == set)
    c.in-Some.ensures.named 1 c.args.self.now ∙ full_in set 1 c.args.self.now
    ∙ ap (λ o. option_map_or is_full o false) (sym c.in-None-get.ensures))
