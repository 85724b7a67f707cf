use Rattle.std.proofs.Common.{ap}
use Rattle.bad_line.proofs.Coming.{may_come}
use Rattle.bad_line.proofs.rules.line_faults.LineFaults.pass.Goals as goal

pub returns-clause-fate : goal.returns-clause-fate
returns-clause-fate c =
    may_come c.self.inside.rules.items c.as_slice.result.now c.as_slice-2.result.now c.as_slice-3.result.now
    c.args.self.now c.self.inside.way c.saturating_add-self-inside.result c.args.length c.draws_loss-lost.result
    c.draws_place-place.result c.fate_in.result c.as_slice.ensures.value c.as_slice-2.ensures.value
    c.as_slice-3.ensures.value (ap (λ v. v.rules) c.self.view_is) (ap (λ v. v.way) c.self.view_is)
    c.draws_loss-lost.ensures c.draws_place-place.ensures c.fate_in.ensures
