use Rattle.std.proofs.Common.{subst, ◌+◌}
use Rattle.uecp_text.specs.Written.{Adds}
use Rattle.uecp_text.proofs.Public.{adds_then}
use Rattle.ladders.specs.Drawing.{totals_of}
use Rattle.ladders.specs.Picture.{head, foot}
use Rattle.ladders.proofs.picture.put_picture.Goals as goal

pub returns : goal.returns
returns c =
    let above = subst (λ high. Adds c.args.output.now c.put_head.new.output (head high)) c.height.ensures
    c.put_head.ensures in
    let below = subst (λ deep. Adds c.put_rows.new.output c.put_foot.new.output (foot (deep + 14)
    (totals_of c.args.line.now))) c.depth.ensures c.put_foot.ensures in
    adds_then c.args.output.now c.put_head.new.output c.put_foot.new.output _ _ above
    (adds_then c.put_head.new.output c.put_rows.new.output c.put_foot.new.output _ _ c.put_rows.ensures below)
