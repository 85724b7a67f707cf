use Rattle.std.proofs.Common.{rules}
use Rattle.uecp_net.specs.Sending.{unused}
use Rattle.conformance.specs.Sending.{case_sent, case_wants}
use Rattle.conformance_command.specs.Running.{all_failed}
use Rattle.conformance_command.proofs.Heard.{went_as}
use Rattle.conformance_command.proofs.case_run.run_case.Goals as goal

pub returns-clause-runs : goal.returns-clause-runs
returns-clause-runs g c = record {
  input = c.in-Some.input;
  output = c.in-Some.output;
  between = c.open.new.self;
  opened = search rules;
  server = c.join-pass.new.server;
  pass = c.join-pass.result;
  input_joined = c.join-pass.new.reader;
  output_joined = c.join-pass.new.writer;
  behind = c.join-pass.new.behind;
  joined = search rules;
  input_left = c.go_on-outcome.new.input;
  output_left = c.go_on-outcome.new.output;
  went_on = went_as g.C.Input.Read.remaining g.C.Output.Write.contents c.args.way.now.own c.args.way.now.patience
      c.args.way.now.silent c.as_slice-3.result.now (case_sent c.args.way.now.own c.args.case.now.steps.items)
      c.as_slice-4.result.now (case_wants c.args.case.now.steps.items) c.join-pass.result c.is_unheard-unheard.result
      (all_failed c.join-pass.result c.join-pass.new.reader.calls c.join-pass.new.reader.failures) c.new-input.result
      (unused c.join-pass.new.reader.device) c.go_on-outcome.new.input c.join-pass.new.writer c.go_on-outcome.new.output
      c.go_on-outcome.result.went c.go_on-outcome.result.left c.go_on-outcome.result.came.items (search rules)
      (search rules) (search rules) (search rules) c.go_on-outcome.ensures;
  closed = search rules;
}
