-- The ranges of the numbers on the command line (profile).
use Rattle.std.specs.Prelude.{ℕ, ◌≤◌, IfSome}
use Rattle.commands.specs.declared.conformance_options.ConformanceOptions.{ConformanceOptions}
use Rattle.commands.specs.declared.encoder_options.EncoderOptions.{EncoderOptions}
use Rattle.commands.specs.declared.job.Job.{Job}
use Rattle.commands.specs.declared.job.Job.TheVariants.{AnswerWith, LineWith, EncoderWith, ServerWith, Send}
use Rattle.commands.specs.declared.job.Job.TheVariants.{Conformance}
use Rattle.commands.specs.declared.send_options.SendOptions.{SendOptions}
use Rattle.commands.specs.declared.server_options.ServerOptions.{ServerOptions}
use Rattle.commands.specs.Jobs.{in_full}

-- A number lies from the least to the greatest.
abbrev pub Lies : (least greatest number : ℕ) → Type 0
Lies least greatest number = (least ≤ number) × (number ≤ greatest)

-- A site is 1 to 1023, and an encoder's number 1 to 63.
abbrev pub IsPlaceInRange : ℕ → ℕ → Type 0
IsPlaceInRange site encoder = Lies 1 1023 site × Lies 1 63 encoder

-- An encoder has a place, and 1 to 8 data sets.
abbrev pub IsSetupInRange : ℕ → ℕ → ℕ → Type 0
IsSetupInRange site encoder sets = IsPlaceInRange site encoder × Lies 1 8 sets

-- Each number of what is sent for as long as lines come.
abbrev pub IsLiveInRange : SendOptions → Type 0
IsLiveInRange job = IsPlaceInRange job.site job.encoder × Lies 1 65535 job.port × Lies 1 100 job.tries
    × Lies 1 60000 job.timeout × Lies 1 1000 job.turns × Lies 1 8 job.window × Lies 1 3600 job.retry_every
    × Lies 0 1000000 job.give_up × Lies 1 86400 job.silent × Lies 1 4294967295 job.from_line

-- Each number of what an encoder does.
abbrev pub IsEncoderInRange : EncoderOptions → Type 0
IsEncoderInRange o = IsSetupInRange o.site o.encoder o.sets × IfSome o.port (Lies 1 65535)
    × IfSome o.air (Lies 1 65535)
    × Lies 1 1000 o.connections × Lies 1 1000000 o.turns × Lies 0 86400 o.idle × IfSome o.yield_after (Lies 0 86400)
    × IfSome o.log_wait (Lies 0 86400) × Lies 0 1000000000 o.seed

-- Each number of what a server sends.
abbrev pub IsServerInRange : ServerOptions → Type 0
IsServerInRange o = IsPlaceInRange o.site o.encoder × Lies 1 65535 o.port × Lies 1 100 o.tries × Lies 1 60000 o.timeout
    × Lies 1 1000 o.turns × Lies 0 100 o.reconnects × Lies 1 8 o.window

-- Each number of conformance cases.
abbrev pub IsConformanceInRange : ConformanceOptions → Type 0
IsConformanceInRange o = IsPlaceInRange o.site o.encoder × Lies 1 60000 o.timeout × Lies 1 60000 o.quiet
    × Lies 1 86400 o.silent

-- Each number of a job with all options of its command.
abbrev pub IsFullInRange : Job → Type 0
IsFullInRange (AnswerWith o) = IsSetupInRange o.site o.encoder o.sets × IfSome o.air (Lies 1 1000000)
IsFullInRange (LineWith o) = IsSetupInRange o.site o.encoder o.sets
IsFullInRange (EncoderWith o) = IsEncoderInRange o
IsFullInRange (ServerWith o) = IsServerInRange o
IsFullInRange (Send o) = IsLiveInRange o
IsFullInRange (Conformance o) = IsConformanceInRange o
IsFullInRange job = Unit {0}

-- Each number of the job is in its range.
abbrev pub IsInRange : Job → Type 0
IsInRange job = IsFullInRange (in_full job)
