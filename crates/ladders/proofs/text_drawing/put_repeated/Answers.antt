use Rattle.std.proofs.Common.{◌-◌, ◌+◌, arith}
use Rattle.uecp_text.proofs.Public.{leads_on, leads_end}
use Rattle.ladders.specs.Text.{repeated}
use Rattle.ladders.proofs.Left.{no_part_left, part_left}
use Rattle.ladders.proofs.text_drawing.put_repeated.Goals as goal

pub loop-at-preserved : goal.loop-at-preserved
loop-at-preserved c =
    let count = c.args.count in
    let part = c.args.part.now in
    let at = c.loop-at._at in
    leads_on c.args.output.now c.loop-at.output c.text.new.self part (repeated (count - at) part)
    (repeated (count - (at + 1)) part) (repeated count part) c.loop-at.invariant
    (part_left count at part c.loop-at-test.true) c.text.ensures.added

pub returns : goal.returns
returns c =
    let count = c.args.count in
    let part = c.args.part.now in
    let at = c.loop-at._at in
    leads_end c.args.output.now c.loop-at.output (repeated (count - at) part) (repeated count part) c.loop-at.invariant
    (no_part_left count at part (omega (arith, c.loop-at-test.false)))
