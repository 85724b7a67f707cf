use Rattle.std.proofs.Common.{flat_map, refl}
use Rattle.uecp_text.proofs.Public.{leads_from}
use Rattle.ladders.specs.Text.{text_head, text_ladder, text_row}
use Rattle.ladders.proofs.text_drawing.put_text.Goals as goal

pub loop-row-init : goal.loop-row-init
loop-row-init c =
    leads_from c.args.output.now c.text.new.self text_head (flat_map text_row c.args.rows.now)
    (text_ladder c.args.rows.now) c.text.ensures.added refl
