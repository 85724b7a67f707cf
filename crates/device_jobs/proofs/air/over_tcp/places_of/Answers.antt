use Rattle.std.proofs.Common.{refl, inl}
use Rattle.device_jobs.proofs.air.over_tcp.places_of.Goals as goal

pub returns-in_default : goal.returns-in_default
returns-in_default g c = inl (c.in_default.is, refl, c.fail_state.ensures.said)
