-- The table of the code is that of the definition.
use Rattle.std.proofs.Common.{Some, sym, ap, ◌∙◌}
use Rattle.std.proofs.lemmas.Option.{slice_get_past, slice_get-get_or}
use Rattle.rds_text.specs.BasicSet.{upper}
use Rattle.rds_text.proofs.basic_set.upper_at.Goals as goal

pub returns-then-place : goal.returns-then-place
unfolding upper
returns-then-place c =
    sym (slice_get-get_or upper c.args.place c.index-place-place.result c.if-place.true
    ∙ ap (λ x. Some x) (sym c.index-place-place.is))

pub returns-else-place : goal.returns-else-place
unfolding upper
returns-else-place c = sym (slice_get_past upper c.args.place c.if-place.false)
