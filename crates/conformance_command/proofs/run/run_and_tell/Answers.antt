use Rattle.std.proofs.Common.{refl, subst}
use Rattle.conformance_command.specs.Running.{RunsNot}
use Rattle.conformance_command.proofs.Chain.{no_line, not_heard}
use Rattle.conformance_command.proofs.run.run_and_tell.Goals as goal

pub returns-in-NotHeard-clause-some : goal.returns-in-NotHeard-clause-some
returns-in-NotHeard-clause-some g c = (
  refl,
  not_heard g.C.Connections.opens g.C.Connections.closes g.C.Input.Read.remaining g.C.Output.Write.contents
      c.args.manner.now.way c.args.number c.args.case.now c.in-Ok.outcome.went c.in-Ok.outcome.left
      c.in-Ok.outcome.came.items c.args.connect.now c.run_case.new.connect (g.W.Write.contents c.args.writer.now)
      c.in-Ok.ensures.runs,
)

pub returns-clause-some : goal.returns-clause-some
returns-clause-some g c = (
  refl,
  no_line g.C.Connections.opens g.C.Connections.closes g.C.Input.Read.remaining g.C.Output.Write.contents
      c.args.manner.now.way c.args.number c.args.case.now c.args.connect.now c.run_case.new.connect
      (g.W.Write.contents c.args.writer.now) (g.W.Write.contents c.tell_bail.new.writer) c.tell_bail.result
      (subst (λ why. RunsNot g.C.Connections.opens c.args.connect.now c.run_case.new.connect why)
      c.in-Err-NoLine.field-0-is c.in-Err-NoLine.ensures.not) c.tell_bail.ensures,
)
