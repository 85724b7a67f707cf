-- One case over a connection (profile).
use Rattle.std.specs.Prelude.{◌≡◌, ◌≢◌, ◌<◌, ◌≤◌, ◌+◌, ◌-◌, ◌==◌, ℕ, Bool, true, false, List, [], length, take}
use Rattle.std.specs.Prelude.{Option, Some, None, MatchBool, Result, Ok}
use Rattle.std.specs.Io.KnownBytes.{Appends}
use Rattle.uecp_frame.specs.Findings.{found}
use Rattle.uecp_encoder.specs.Metered.{Metered}
use Rattle.uecp_link.specs.declared.driving.DriveFault.{DriveFault}
use Rattle.uecp_link.specs.declared.joining.Joining.{Joining}
use Rattle.uecp_link.specs.declared.joining.Joining.TheVariants.{Joined, Spent}
use Rattle.uecp_link.specs.Joining.{MakesPass}
use Rattle.uecp_link.specs.Reading.{Reads}
use Rattle.uecp_link.specs.Server.{ServerState, idle_at}
use Rattle.uecp_net.specs.Sending.{unused}
use Rattle.conformance.specs.declared.case.Step.{Step}
use Rattle.conformance.specs.declared.verdict.Expected.{Expected}
use Rattle.conformance.specs.declared.verdict.Verdict.{Verdict}
use Rattle.conformance.specs.declared.verdict.Verdict.TheVariants as verdict
use Rattle.conformance.specs.Sending.{case_sent, case_wants}
use Rattle.conformance.specs.Judging.{IsJudged}
use Rattle.conformance_command.specs.declared.went.Went.{Went}
use Rattle.conformance_command.specs.declared.went.Went.TheVariants.{Judged, NotJoined, Silent, Floods, NotSent}
use Rattle.conformance_command.specs.declared.went.Went.TheVariants.{NotQuiet, NotHeard}
use Rattle.conformance_command.specs.declared.case_run.NotRun.{NotRun}
use Rattle.conformance_command.specs.declared.case_run.NotRun.TheVariants.{NoLine, OutOfMemory}

-- The most reads that are made to join an encoder, and to hear what comes of a case.
abbrev pub most_reads : ℕ
most_reads = 16384

-- The verdict says that a reply is missing.
abbrev pub IsMissing : Verdict → Type 0
IsMissing (verdict.Missing reply) = Unit {0}
IsMissing other = ⊥

-- Nothing more is waited for behind what came: it is at its end; or nothing came for the quiet time, and no reply is
-- missing, or this was so as often as is allowed.
abbrev pub IsAwaited : (patience failed : ℕ) → (ended : Bool) → Verdict → Type 0
IsAwaited patience failed true verdict = Unit {0}
IsAwaited patience failed false verdict = (1 ≤ failed) × (IsMissing verdict → failed ≡ patience)

-- What came was read, these bytes, and it went so: it was judged, once nothing more was waited for; or there was still
-- something to read when the most reads were made; or there was no memory for all of it.
abbrev pub Hears : {I : Type 0} → (remaining : I → Option (List ℕ)) → (own patience : ℕ) → (replies : List Expected)
    → (input input' : Metered I) → Went → (came : List ℕ) → Type 0
Hears remaining own patience replies input input' (Judged verdict) came =
    (reads failed : ℕ) × (ended : Bool) × Reads remaining input input' came reads failed ended
    × (reads ≤ most_reads) × (failed ≤ patience) × IsAwaited patience failed ended verdict
    × IsJudged own replies (found came) verdict
Hears remaining own patience replies input input' NotQuiet came =
    (failed : ℕ) × Reads remaining input input' came most_reads failed false × (failed < patience)
Hears remaining own patience replies input input' NotHeard came =
    (all : List ℕ) × (reads failed : ℕ) × Reads remaining input input' all reads failed false
    × (reads ≤ most_reads) × (failed < patience)
Hears remaining own patience replies input input' other came = ⊥

-- ---- What stands between joining and the case.

-- Nothing came of a pass that ended so, with so many reads, of which so many failed: it was spent, and all failed.
abbrev pub all_failed : Result Joining DriveFault → (reads failures : ℕ) → Bool
all_failed (Ok Spent) reads failures = reads == failures
all_failed pass reads failures = false

-- Where nothing came of joining, it was waited for by so many reads more. Silent: all of them failed. Else one brought
-- something or met the end, and those before it failed.
abbrev pub WaitsOn : {I : Type 0} → (remaining : I → Option (List ℕ)) → (most : ℕ) → (input input' : Metered I)
    → (silent : Bool) → Type 0
WaitsOn remaining most input input' true = Reads remaining input input' [] most most false
WaitsOn remaining most input input' false = (came : List ℕ) × (failed : ℕ) × (ended : Bool)
    × Reads remaining input input' came (failed + 1) failed ended × (failed < most)

-- A case whose encoder was not joined went so: silent where nothing came, neither of joining nor of so many reads more.
-- Where something had come no more were made.
abbrev pub IsUnjoined : {I : Type 0} → (remaining : I → Option (List ℕ)) → (most : ℕ) → (unheard : Bool)
    → (input input' : Metered I) → Went → Type 0
IsUnjoined remaining most unheard input input' NotJoined =
    MatchBool unheard (WaitsOn remaining most input input' false) (input' ≡ input)
IsUnjoined remaining most unheard input input' Silent = (unheard ≡ true) × WaitsOn remaining most input input' true
IsUnjoined remaining most unheard input input' went = ⊥

-- What joining left on the connection, so many bytes, was read away. Quiet: until a read failed, or the input was at
-- its end. Else each of the most reads brought something.
abbrev pub ReadsAway : {I : Type 0} → (remaining : I → Option (List ℕ)) → (input input' : Metered I) → (left : ℕ)
    → (quiet : Bool) → Type 0
ReadsAway remaining input input' left true = (bytes : List ℕ) × (reads failed : ℕ) × (ended : Bool)
    × Reads remaining input input' bytes reads failed ended × (left ≡ length bytes) × (reads ≤ most_reads)
    × MatchBool ended (failed ≡ 0) (failed ≡ 1)
ReadsAway remaining input input' left false =
    (bytes : List ℕ) × Reads remaining input input' bytes most_reads 0 false × (left ≡ length bytes)

-- ---- A case.

-- What was done on the two ends of a connection behind a pass that ended so, of which nothing came or something: where
-- the encoder was not joined, no more than that a byte was waited for where none had come, up to so many quiet times in
-- all. Else what joining left was read away; then these bytes were written, and what came then was heard; or a first
-- part of them, where a write failed, and nothing more was read; or none, where it never was quiet.
abbrev pub WentOn : {I O : Type 0} → (remaining : I → Option (List ℕ)) → (contents : O → Option (List ℕ))
    → (own patience silent : ℕ) → (bytes : List ℕ) → (replies : List Expected) → Result Joining DriveFault
    → (unheard : Bool) → (input input' : Metered I) → (output output' : Metered O) → Went → (left : ℕ)
    → (came : List ℕ) → Type 0
WentOn remaining contents own patience silent bytes replies pass unheard input input' output output' NotJoined left
    came = (pass ≢ Ok Joined) × (output' ≡ output) × (left ≡ 0) × (came ≡ [])
    × IsUnjoined remaining (silent - patience) unheard input input' NotJoined
WentOn remaining contents own patience silent bytes replies pass unheard input input' output output' Silent left came =
    (pass ≢ Ok Joined) × (output' ≡ output) × (left ≡ 0) × (came ≡ [])
    × IsUnjoined remaining (silent - patience) unheard input input' Silent
WentOn remaining contents own patience silent bytes replies pass unheard input input' output output' Floods left came =
    (pass ≡ Ok Joined) × (output' ≡ output) × (came ≡ []) × ReadsAway remaining input input' left false
WentOn remaining contents own patience silent bytes replies pass unheard input input' output output' (NotSent written)
    left came = (pass ≡ Ok Joined) × (came ≡ []) × ReadsAway remaining input input' left true
    × (written < length bytes) × Appends (contents output.device) (contents output'.device) (take written bytes)
WentOn {I = I} remaining contents own patience silent bytes replies pass unheard input input' output output' went left
    came =
    (pass ≡ Ok Joined) × ((quiet : Metered I) × ReadsAway remaining input quiet left true
    × Hears remaining own patience replies quiet input' went came)
    × Appends (contents output.device) (contents output'.device) bytes

-- A case was run: a connection was opened, a new server for the encoder made one pass over its two ends, then this was
-- done on them, and they were given back; and nothing else was done. A read of the pass is one that was made again as
-- often as is allowed, where nothing came.
pub record RunsCase {C I O : Type 0} (opens : C → Option (I × O) → C → Type 0) (closes : C → I → O → C → Type 0)
    (remaining : I → Option (List ℕ)) (contents : O → Option (List ℕ)) (own patience silent : ℕ) (steps : List Step)
    (old new : C) (went : Went) (left : ℕ) (came : List ℕ) : Type 0 where
  pub input : I
  pub output : O
  pub between : C
  pub opened : opens old (Some (input, output)) between
  pub server : ServerState
  pub pass : Result Joining DriveFault
  pub behind : ℕ
  pub input_joined : Metered I
  pub output_joined : Metered O
  pub joined : MakesPass remaining contents 0 behind (idle_at own) server (unused input) input_joined (unused output)
      output_joined most_reads pass
  pub input_left : Metered I
  pub output_left : Metered O
  pub went_on : WentOn remaining contents own patience silent (case_sent own steps) (case_wants steps) pass
      (all_failed pass input_joined.calls input_joined.failures) (unused input_joined.device) input_left output_joined
      output_left went left came
  pub closed : closes between input_left.device output_left.device new

-- A case was not run: there was no connection to be had; or no memory, and then none was asked for.
abbrev pub RunsNot : {C I O : Type 0} → (opens : C → Option (I × O) → C → Type 0) → (old new : C) → NotRun → Type 0
RunsNot opens old new NoLine = opens old None new
RunsNot opens old new OutOfMemory = new ≡ old
