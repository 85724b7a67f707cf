-- The limits of a device (profile).
use Rattle.std.specs.Prelude.{ℕ, ◌^◌, ◌-◌, ◌==◌, Option, None, Some, unwrap_or, if◌then◌else◌}
use Rattle.commands.specs.declared.encoder_options.EncoderOptions.{EncoderOptions}
use Rattle.uecp_jobs.specs.Setups.{Options}

-- How many connections are served: without end as many as can be counted.
abbrev pub connections_of : EncoderOptions → ℕ
connections_of job = if job.forever then 2 ^ 64 - 1 else job.connections

-- How many reads one may take: without end as many as can be counted.
abbrev pub turns_of : EncoderOptions → ℕ
turns_of job = if job.forever then 2 ^ 32 - 1 else job.turns

-- The options of the job's encoder.
abbrev pub options_of : EncoderOptions → Options
options_of job =
    record { site = job.site; encoder = job.encoder; sets = job.sets; services = job.services.items }

-- A limit of so many seconds; none where that is 0.
abbrev pub limit_of : (seconds : ℕ) → Option ℕ
limit_of seconds = if seconds == 0 then None else Some seconds

-- After how many seconds a connection gives way to one that waits, 0 for never: ten where the job doesn't say.
abbrev pub yield_seconds : EncoderOptions → ℕ
yield_seconds job = unwrap_or job.yield_after 10
