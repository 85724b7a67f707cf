use Rattle.std.proofs.Common.{rules, ◌≡◌, Err, IfErr, ◌++◌, take, sym, subst}
use Rattle.std.proofs.KnownBytes.{Consumes-trans}
use Rattle.uecp_text.specs.declared.run_fault.RunFault.TheVariants.{OutOfMemory}
use Rattle.uecp_text.specs.Run.{IsUnread}
use Rattle.uecp_text.proofs.input.read_all.Goals as goal

pub returns-in_err-extend_from_slice-in-Ok-clause-refused : goal.returns-in_err-extend_from_slice-in-Ok-clause-refused
returns-in_err-extend_from_slice-in-Ok-clause-refused g c =
    let left = g.R.Read.remaining in
    let so_far = c.loop-buffer.all.items in
    let piece = take c.in-Ok.count c.read.new.buf in
    let wanting : c.from_residual.result ≡ Err OutOfMemory = search rules in
    subst (λ result. IfErr result (IsUnread (left c.args.reader.now) (left c.read.new.self))) (sym wanting) (
      so_far ++ piece,
      Consumes-trans (left c.args.reader.now) (left c.loop-buffer.reader) (left c.read.new.self) so_far
          piece c.loop-buffer.invariant.1 c.in-Ok.ensures.bytes.0,
      tt,
    )
