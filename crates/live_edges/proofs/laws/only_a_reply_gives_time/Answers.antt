use Rattle.live_edges.proofs.Waiting.{in_time_lem}
use Rattle.live_edges.proofs.laws.only_a_reply_gives_time.Goals as goal

pub returns : goal.returns
returns c = λ p since now w between is reached. in_time_lem p since now w between is reached
