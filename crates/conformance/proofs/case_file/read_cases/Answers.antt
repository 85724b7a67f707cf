use Rattle.std.proofs.Common.{arith}
use Rattle.uecp_link.proofs.Public.{empty_is}
use Rattle.conformance.proofs.SoFar.{read_more, read_all}
use Rattle.conformance.proofs.case_file.read_cases.Goals as goal

pub loop-rest-preserved : goal.loop-rest-preserved
loop-rest-preserved c = (
  omega (arith, c.loop-rest.invariant.0, c.first_input_line.ensures.shorter),
  read_more c.args.text.now c.loop-rest.rest.now c.first_input_line.result.0.now c.first_input_line.result.1.now
      c.loop-rest.cases.items c.take_line.new.cases.items c.loop-rest.begun c.in-Ok.next c.loop-rest.invariant.1
      c.first_input_line.ensures.lines c.in-Ok.ensures,
)

pub returns-in-Ok-finish : goal.returns-in-Ok-finish
returns-in-Ok-finish c = record {
  spelled = read_all c.args.text.now c.loop-rest.rest.now c.loop-rest.cases.items c.finish.new.cases.items
      c.loop-rest.begun c.loop-rest.invariant.1 (empty_is c.loop-rest.rest.now c.loop-rest-test.ensures)
      c.in-Ok-finish.ensures;
}
