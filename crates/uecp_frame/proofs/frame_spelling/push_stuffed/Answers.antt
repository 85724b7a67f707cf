use Rattle.std.proofs.Common.{◌++◌, ◌∙◌, ap, sym, rules, length, take, arith, length-append}
use Rattle.std.proofs.lemmas.List.{append-nil}
use Rattle.std.proofs.lemmas.Grind.{common_steps}
use Rattle.uecp_frame.specs.Stuffing.{stuffed}
use Rattle.uecp_frame.proofs.Codes.{stuffed-nil, stuffed_more, length-stuffed-more}
use Rattle.uecp_frame.proofs.frame_spelling.push_stuffed.Goals as goal

pub loop-byte-init : goal.loop-byte-init
loop-byte-init g c = sym (ap (λ x. c.args.bytes.now.items ++ x) stuffed-nil ∙ append-nil c.args.bytes.now.items)

pub push_code-requires : goal.push_code-requires
push_code-requires g c =
    let plain = c.args.plain.now in
    let i = c.loop-byte.byte-index in
    let sent = ap length c.loop-byte.invariant ∙ length-append c.args.bytes.now.items (stuffed (take i plain)) in
    let more = length-stuffed-more plain i c.loop-byte-test.true in (search rules, omega (arith, sent, more))

pub loop-byte-preserved : goal.loop-byte-preserved
loop-byte-preserved g c = grind (arith, common_steps, stuffed_more, c.push_code.ensures, c.loop-byte.invariant)
