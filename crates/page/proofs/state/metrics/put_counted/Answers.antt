use Rattle.std.proofs.lemmas.Result.{on_ok_weaker}
use Rattle.page.proofs.Whole.{in_eight}
use Rattle.page.proofs.state.metrics.put_counted.Goals as goal

pub returns : goal.returns
returns c =
    on_ok_weaker c.put_count-6.result (λ last.
    in_eight _ _ _ _ _ _ _ _ _ _ _ _ _ _ _ _ _ c.in_ok-put_count.ensures c.in_ok-put_both.ensures
    c.in_ok-put_both-2.ensures c.in_ok-put_count-2.ensures c.in_ok-put_count-3.ensures c.in_ok-put_count-4.ensures
    c.in_ok-put_count-5.ensures last) c.put_count-6.ensures
