-- What is told of a control line as it is read (profile).
use Rattle.std.specs.Prelude.{◌≡◌, ◌<◌, ◌≤◌, ◌⊎◌, ℕ, Bool, true, false, Option, List, [], ◌∷◌, ◌++◌}
use Rattle.std.specs.Prelude.{flat_map, length, codes}
use Rattle.std.specs.Prelude.{Result, MatchResult}
use Rattle.std.specs.List.{concat}
use Rattle.std.specs.Io.KnownBytes.{Consumes, IsAtEnd, Appends}
use Rattle.serde_json.specs.Data.{string}
use Rattle.uecp_frame.specs.Findings.{Finding, OpenPart, Closed, open_part, found}
use Rattle.uecp_frame.specs.Beyond.{found_beyond, open_beyond}
use Rattle.uecp_text.specs.declared.run_fault.RunFault.{RunFault}
use Rattle.uecp_text.specs.declared.run_fault.RunFault.TheVariants.{Reading, Writing, OutOfMemory}
use Rattle.uecp_text.specs.Written.{Begins}
use Rattle.json_lines.specs.Objects.{line_of}
use Rattle.json_lines.specs.Stamps.{IsStamp}
use Rattle.output_forms.specs.declared.form.Form.{Form}
use Rattle.output_forms.specs.declared.form.Form.TheVariants.{Lines, Words, Json}
use Rattle.output_forms.specs.Forms.{found_lines, remark}

-- The line of a time: a remark, or an object of JSON (profile).
abbrev pub time_line : Form → (stamp : List ℕ) → List ℕ
time_line Lines stamp = remark (stamp ++ codes "\n")
time_line (Words region) stamp = remark (stamp ++ codes "\n")
time_line Json stamp = line_of (codes "time") ((codes "time", string stamp) ∷ [])

-- The time before what a read brought: a line with some stamp, and nothing where there is no clock (profile).
abbrev pub IsTime : Form → (timed : Bool) → List ℕ → Type 0
IsTime form false time = time ≡ []
IsTime form true time = (stamp : List ℕ) × IsStamp stamp × (time ≡ time_line form stamp)

-- The lines of a read that ended segments: the time, and then the lines of its findings in order (profile).
abbrev pub IsTimed : Form → (timed : Bool) → List Finding → List ℕ → Type 0
IsTimed form timed findings lines =
    (time : List ℕ) × IsTime form timed time × (lines ≡ time ++ flat_map (found_lines form) findings)

-- The lines of a read: none where it ended no segment, not even the time (profile).
abbrev pub IsTold : Form → (timed : Bool) → List Finding → List ℕ → Type 0
IsTold form timed [] lines = lines ≡ []
IsTold form timed (finding ∷ findings) lines = IsTimed form timed (finding ∷ findings) lines

-- A read brought 1 to 4096 bytes (profile).
abbrev pub IsRead : List ℕ → Type 0
IsRead bytes = (0 < length bytes) × (length bytes ≤ 4096)

-- The lines of some reads one after another, each behind the part that those before it left open (profile).
abbrev pub AreTold : Form → (timed : Bool) → OpenPart → (reads : List (List ℕ)) → List ℕ → Type 0
AreTold form timed part [] lines = lines ≡ []
AreTold form timed part (bytes ∷ reads) lines =
    (now : List ℕ) × (later : List ℕ) × IsRead bytes × IsTold form timed (found_beyond part bytes) now
    × (lines ≡ now ++ later) × AreTold form timed (open_beyond part bytes) reads later

-- All that was read so far is told: it came in these reads, and the writer got their lines (profile).
pub record HasTold (form : Form) (timed : Bool) (unread unread' held held' : Option (List ℕ)) : Type 0 where
  pub reads : List (List ℕ)
  pub lines : List ℕ
  pub told : AreTold form timed Closed reads lines
  pub consumed : Consumes unread unread' (concat reads)
  pub written : Appends held held' lines

-- What a writer got of the lines of a read whose telling failed for this: nothing where memory was wanting, else a
-- beginning (profile).
abbrev pub BreaksIn : (held held' : Option (List ℕ)) → List ℕ → RunFault → Type 0
BreaksIn held held' lines fault =
    ((fault ≡ OutOfMemory) × (held' ≡ held)) ⊎ ((fault ≡ Writing) × Begins held held' lines)

-- Telling the findings of a read, at least one, failed for this (profile).
pub record FailsToTell (form : Form) (timed : Bool) (findings : List Finding) (held held' : Option (List ℕ))
    (fault : RunFault) : Type 0 where
  pub first : Finding
  pub others : List Finding
  pub some : findings ≡ first ∷ others
  pub lines : List ℕ
  pub told : IsTimed form timed findings lines
  pub broken : BreaksIn held held' lines fault

-- Telling a read failed for this, and all that was read before it is told (profile).
pub record HasFailed (form : Form) (timed : Bool) (unread unread' held held' : Option (List ℕ)) (fault : RunFault)
    : Type 0 where
  pub between : Option (List ℕ)
  pub before : Option (List ℕ)
  pub told : HasTold form timed unread between held before
  pub last : List ℕ
  pub is_read : IsRead last
  pub consumed : Consumes between unread' last
  pub failed : FailsToTell form timed (found_beyond (open_part (concat told.reads)) last) before held' fault

-- How watching ends: at the end of what is read; where a read failed; or where telling failed. But for the last all
-- that was read is told (profile).
abbrev pub Watches : Form → (timed : Bool) → (unread unread' held held' : Option (List ℕ)) → Result (Unit {0}) RunFault
    → Type 0
Watches form timed unread unread' held held' result =
    MatchResult result
    (λ _. HasTold form timed unread unread' held held' × IsAtEnd unread')
    (λ fault. ((fault ≡ Reading) × HasTold form timed unread unread' held held')
    ⊎ HasFailed form timed unread unread' held held' fault)

-- Law: without a clock the lines of reads are those of all their bytes as one stream, however they were cut.
abbrev pub IsOneStream : Type 0
IsOneStream = (form : Form) (reads : List (List ℕ)) (lines : List ℕ) → AreTold form false Closed reads lines
    → lines ≡ flat_map (found_lines form) (found (concat reads))
