use Rattle.std.proofs.Common.{◌<◌, get_or, length, ap, sym, subst, arith}
use Rattle.uecp_text.specs.Written.{Adds}
use Rattle.uecp_elements.specs.declared.code.Code.TheVariants.{Applied}
use Rattle.uecp_jobs.specs.Batches.{acknowledged_line}
use Rattle.uecp_jobs.proofs.BatchLines.{adds_on, batch_on}
use Rattle.uecp_jobs.proofs.batches.put_settled.Goals as goal

pub loop-code-preserved : goal.loop-code-preserved
loop-code-preserved c =
    let told = c.args.settled.now.codes.items in
    let within : c.loop-code.code-index < length told =
    omega (arith, c.loop-code-test.true, ap length c.as_slice-code-items.ensures.value) in
    subst (Adds c.args.output.now c.put_acknowledged.new.output)
    (sym (batch_on told c.loop-code.code-index Applied c.args.settled.now.tries within))
    (adds_on c.args.output.now c.loop-code.output c.put_acknowledged.new.output _ _ c.loop-code.invariant
    (subst (λ l. Adds c.loop-code.output c.put_acknowledged.new.output
    (acknowledged_line (get_or l c.loop-code.code-index Applied) c.args.settled.now.tries))
    c.as_slice-code-items.ensures.value c.put_acknowledged.ensures))
