use Rattle.std.proofs.Common.{◌++◌, ◌∙◌, ap, sym, arith}
use Rattle.std.proofs.lemmas.List.{append-nil}
use Rattle.std.proofs.lemmas.Grind.{common_steps}
use Rattle.uecp_frame.proofs.Public.{stuffed-nil, stuffed_more}
use Rattle.conformance.proofs.case_bytes.put_stuffed.Goals as goal

pub loop-byte-init : goal.loop-byte-init
loop-byte-init c = sym (ap (λ x. c.args.bytes.now.items ++ x) stuffed-nil ∙ append-nil c.args.bytes.now.items)

pub loop-byte-preserved : goal.loop-byte-preserved
loop-byte-preserved c = grind (arith, common_steps, stuffed_more, c.in_ok-put_code.ensures, c.loop-byte.invariant)
