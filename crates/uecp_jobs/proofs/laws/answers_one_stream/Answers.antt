use Rattle.uecp_jobs.proofs.Streams.{answers_one_stream_lem}
use Rattle.uecp_jobs.proofs.laws.answers_one_stream.Goals as goal

pub returns : goal.returns
returns c = answers_one_stream_lem
