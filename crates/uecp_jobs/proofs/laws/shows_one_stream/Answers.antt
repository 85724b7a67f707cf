use Rattle.uecp_jobs.proofs.Streams.{shows_one_stream_lem}
use Rattle.uecp_jobs.proofs.laws.shows_one_stream.Goals as goal

pub returns : goal.returns
returns c = shows_one_stream_lem
