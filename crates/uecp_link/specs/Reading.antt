-- What reading a reader came to; a reader has to believe it. Source: profile.
use Rattle.std.specs.Prelude.{◌≡◌, ℕ, ◌+◌, ◌*◌, ◌^◌, ◌<◌, ◌≤◌, Bool, true, false, List, length, Option, Result, Ok, Err}
use Rattle.std.specs.Prelude.{if◌then◌else◌}
use Rattle.std.specs.Io.KnownBytes.{Consumes}
use Rattle.uecp_encoder.specs.Metered.{Metered, counted}
use Rattle.uecp_link.specs.declared.driving.DriveFault.{DriveFault}
use Rattle.uecp_link.specs.declared.driving.DriveFault.TheVariants.{WriteFailed, Closed, TriesSpent}

-- So many reads, of at most 64 bytes each, brought these bytes, and so many of them failed. Where the input ended one
-- of them brought nothing; else none did.
pub record Reads {R : Type 0} (remaining : R → Option (List ℕ)) (reader reader' : Metered R) (read : List ℕ)
    (reads failed : ℕ) (ended : Bool) : Type 0 where
  pub consumed : Consumes (remaining reader.device) (remaining reader'.device) read
  pub few_bytes : length read ≤ 64 * reads
  pub calls : reader.calls + reads < 2 ^ 128 → reader'.calls ≡ reader.calls + reads
  pub failures : reader.failures + failed < 2 ^ 128 → reader'.failures ≡ reader.failures + failed
  pub empties : reader'.empty ≡ (if ended then counted reader.empty else reader.empty)

-- Whether a call came to the end of its input.
abbrev pub is_closed : {A : Type 0} → Result A DriveFault → Bool
is_closed (Ok done) = false
is_closed (Err (WriteFailed w)) = false
is_closed (Err Closed) = true
is_closed (Err TriesSpent) = false

-- The writer's failures after a call: one more at `WriteFailed`.
abbrev pub write_failures : {A : Type 0} → Result A DriveFault → ℕ → ℕ
write_failures (Ok done) failures = failures
write_failures (Err (WriteFailed w)) failures = counted failures
write_failures (Err Closed) failures = failures
write_failures (Err TriesSpent) failures = failures
