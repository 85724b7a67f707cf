use Rattle.uecp_text.proofs.Public.{adds_then}
use Rattle.ladders.proofs.picture.put_foot.Goals as goal

pub returns : goal.returns
returns c =
    adds_then c.args.output.now c.text.new.self c.text-3.new.self _ _ c.text.ensures.added
    (adds_then c.text.new.self c.put_number.new.output c.text-3.new.self _ _ c.put_number.ensures
    (adds_then c.put_number.new.output c.text-2.new.self c.text-3.new.self _ _ c.text-2.ensures.added
    (adds_then c.text-2.new.self c.put_totals.new.output c.text-3.new.self _ _ c.put_totals.ensures
    c.text-3.ensures.added)))
