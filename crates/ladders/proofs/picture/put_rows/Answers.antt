use Rattle.std.proofs.Common.{◌+◌, arith, drop}
use Rattle.uecp_text.proofs.Public.{leads_on, leads_end}
use Rattle.ladders.specs.Picture.{picture_rows}
use Rattle.ladders.proofs.Left.{no_row_left, picture_left}
use Rattle.ladders.proofs.picture.put_rows.Goals as goal

pub loop-place-preserved : goal.loop-place-preserved
loop-place-preserved c =
    let rows = c.args.rows.now in
    let place = c.loop-place.place in
    leads_on c.args.output.now c.loop-place.output c.put_row.new.output _ (picture_rows place (drop place rows))
    (picture_rows (place + 1) (drop (place + 1) rows)) (picture_rows 0 rows) c.loop-place.invariant
    (picture_left rows place _ c.loop-place-test.true) c.put_row.ensures

pub returns : goal.returns
returns c =
    let rows = c.args.rows.now in
    let place = c.loop-place.place in
    leads_end c.args.output.now c.loop-place.output (picture_rows place (drop place rows)) (picture_rows 0 rows)
    c.loop-place.invariant (no_row_left rows place (omega (arith, c.loop-place-test.false)))
