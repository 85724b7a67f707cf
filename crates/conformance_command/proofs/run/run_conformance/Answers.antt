use Rattle.std.proofs.Common.{ℕ, List, Bor}
use Rattle.std.specs.Option.{option_map}
use Rattle.conformance_command.specs.Conformance.{way_of, only_of}
use Rattle.conformance_command.proofs.Chain.{breaks_as}
use Rattle.conformance_command.proofs.run.run_conformance.Goals as goal

pub returns-in-Err-clause-failed : goal.returns-in-Err-clause-failed
returns-in-Err-clause-failed g c = λ _. (
  c.in-Err.fault,
  breaks_as g.C.Connections.opens g.C.Connections.closes g.C.Input.Read.remaining g.C.Output.Write.contents
      c.way_of.result (way_of c.args.job.now)
      (option_map {T = Bor (List ℕ)} {U = List ℕ} (λ name. name.now) c.only_of-only.result) (only_of c.args.job.now)
      c.args.cases.now c.in-Err.fault (record {
        connect = c.args.connect.now;
        held = g.W.Write.contents c.args.writer.now;
      }) (record {
        connect = c.run_all.new.connect;
        held =
            g.W.Write.contents c.run_all.new.writer;
      }) c.way_of.ensures.value c.only_of-only.ensures c.in-Err.ensures.some.1,
  c.fail.ensures.said,
)
