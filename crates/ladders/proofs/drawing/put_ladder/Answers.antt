use Rattle.std.proofs.Common.{subst, sym}
use Rattle.uecp_text.specs.Written.{Adds}
use Rattle.uecp_text.proofs.Public.{adds_then}
use Rattle.ladders.specs.Drawing.{ladder}
use Rattle.ladders.proofs.drawing.put_ladder.Goals as goal

pub returns-in-Text : goal.returns-in-Text
returns-in-Text c =
    subst (λ form. Adds c.args.output.now c.put_totals.new.output (ladder form c.args.rows.now c.args.line.now))
    (sym c.in-Text.is)
    (adds_then c.args.output.now c.put_text.new.output c.put_totals.new.output _ _ c.put_text.ensures
    c.put_totals.ensures)
