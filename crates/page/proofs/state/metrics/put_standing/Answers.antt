use Rattle.std.proofs.lemmas.Result.{on_ok_weaker}
use Rattle.page.proofs.Whole.{in_three}
use Rattle.page.proofs.state.metrics.put_standing.Goals as goal

pub returns : goal.returns
returns c =
    on_ok_weaker c.put_gauge-3.result (λ last.
    in_three _ _ _ _ _ _ _ c.in_ok-put_gauge.ensures c.in_ok-put_gauge-2.ensures last) c.put_gauge-3.ensures
