use Rattle.std.proofs.Common.{◌+◌, ◌++◌, codes}
use Rattle.uecp_text.specs.Digits.{decimal_word}
use Rattle.uecp_text.proofs.Public.{adds_then}
use Rattle.conformance_command.proofs.report.put_tally.Goals as goal

pub returns : goal.returns
returns c =
    let kept = decimal_word c.args.tally.kept in
    let others = decimal_word (c.args.tally.not_kept + c.args.tally.profile_not_kept) in
    let own = decimal_word c.args.tally.profile_not_kept in
    let end = c.text-4.new.self in
    adds_then c.args.output.now c.text.new.self end (codes "#")
    (kept ++ (codes " kept," ++ (others ++ (codes " not kept," ++ (own ++ codes " of them profile\n")))))
    c.text.ensures.added
    (adds_then c.text.new.self c.decimal.new.self end kept
    (codes " kept," ++ (others ++ (codes " not kept," ++ (own ++ codes " of them profile\n")))) c.decimal.ensures.added
    (adds_then c.decimal.new.self c.text-2.new.self end (codes " kept,")
    (others ++ (codes " not kept," ++ (own ++ codes " of them profile\n"))) c.text-2.ensures.added
    (adds_then c.text-2.new.self c.decimal-2.new.self end others
    (codes " not kept," ++ (own ++ codes " of them profile\n")) c.decimal-2.ensures.added
    (adds_then c.decimal-2.new.self c.text-3.new.self end (codes " not kept,") (own ++ codes " of them profile\n")
    c.text-3.ensures.added
    (adds_then c.text-3.new.self c.decimal-3.new.self end own (codes " of them profile\n") c.decimal-3.ensures.added
    c.text-4.ensures.added)))))
