use Rattle.std.proofs.Common.{◌∙◌}
use Rattle.std.proofs.lemmas.Slice.Eq.{bytes_eq-Decides}
use Rattle.rds_groups.proofs.LineProofs.{reads_as}
use Rattle.rds_groups.proofs.group_line.read_line.Goals as goal

pub returns-else-is_line-clause-none : goal.returns-else-is_line-clause-none
returns-else-is_line-clause-none c group ok e =
    let same = reads_as group ok c.args.text.now e c.number_at.result c.number_at-2.result c.number_at-3.result
    c.number_at-4.result c.number_at.ensures c.number_at-2.ensures c.number_at-3.ensures c.number_at-4.ensures in
    let is_equal = (bytes_eq-Decides c.as_slice.result.now c.args.text.now).1
    (c.as_slice.ensures ∙ c.line-written.ensures ∙ same) in
    let compared = c.eq-is_line.ensures in
    let is_other = c.if-is_line.false in
    cc
