use Rattle.std.proofs.Common.{subst, decimal}
use Rattle.uecp_text.specs.Written.{Adds}
use Rattle.uecp_text.proofs.Public.{adds_then}
use Rattle.ladders.proofs.picture.put_row.Goals as goal

pub returns : goal.returns
returns c =
    let at = subst (λ depth. Adds c.text.new.self c.put_number.new.output (decimal depth)) c.depth.ensures
    c.put_number.ensures in
    let shape = subst (Adds c.text-2.new.self c.text-3.new.self) c.shape_name.ensures c.text-3.ensures.added in
    adds_then c.args.output.now c.text.new.self c.text-6.new.self _ _ c.text.ensures.added
    (adds_then c.text.new.self c.put_number.new.output c.text-6.new.self _ _ at
    (adds_then c.put_number.new.output c.text-2.new.self c.text-6.new.self _ _ c.text-2.ensures.added
    (adds_then c.text-2.new.self c.text-3.new.self c.text-6.new.self _ _ shape
    (adds_then c.text-3.new.self c.text-4.new.self c.text-6.new.self _ _ c.text-4.ensures.added
    (adds_then c.text-4.new.self c.put_label.new.output c.text-6.new.self _ _ c.put_label.ensures
    (adds_then c.put_label.new.output c.text-5.new.self c.text-6.new.self _ _ c.text-5.ensures.added
    (adds_then c.text-5.new.self c.put_said.new.output c.text-6.new.self _ _ c.put_said.ensures
    c.text-6.ensures.added)))))))
