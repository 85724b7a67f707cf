use Rattle.uecp_text.proofs.Public.{adds_then}
use Rattle.ladders.proofs.picture.put_head.Goals as goal

pub returns : goal.returns
returns c =
    adds_then c.args.output.now c.text.new.self c.text-7.new.self _ _ c.text.ensures.added
    (adds_then c.text.new.self c.put_number.new.output c.text-7.new.self _ _ c.put_number.ensures
    (adds_then c.put_number.new.output c.text-2.new.self c.text-7.new.self _ _ c.text-2.ensures.added
    (adds_then c.text-2.new.self c.put_number-2.new.output c.text-7.new.self _ _ c.put_number-2.ensures
    (adds_then c.put_number-2.new.output c.text-3.new.self c.text-7.new.self _ _ c.text-3.ensures.added
    (adds_then c.text-3.new.self c.text-4.new.self c.text-7.new.self _ _ c.text-4.ensures.added
    (adds_then c.text-4.new.self c.text-5.new.self c.text-7.new.self _ _ c.text-5.ensures.added
    (adds_then c.text-5.new.self c.put_number-3.new.output c.text-7.new.self _ _ c.put_number-3.ensures
    (adds_then c.put_number-3.new.output c.text-6.new.self c.text-7.new.self _ _ c.text-6.ensures.added
    (adds_then c.text-6.new.self c.put_number-4.new.output c.text-7.new.self _ _ c.put_number-4.ensures
    c.text-7.ensures.added)))))))))
