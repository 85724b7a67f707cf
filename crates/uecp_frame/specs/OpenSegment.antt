-- A segment that is read as its bytes come.
use Rattle.std.specs.Prelude.{◌≡◌, ℕ, ◌<◌, ◌≤◌, Bool, true, false, if◌then◌else◌, List, [], ◌∷◌, length, take, Option}
use Rattle.std.specs.Prelude.{Some, None}
use Rattle.uecp_frame.specs.declared.fault.FrameFault.{FrameFault}
use Rattle.uecp_frame.specs.declared.fed.Found.{Found}
use Rattle.uecp_frame.specs.declared.fed.Found.TheVariants as owned
use Rattle.uecp_frame.specs.declared.fed.Fed.{Fed}
use Rattle.uecp_frame.specs.declared.open_segment.OpenSegment.{OpenSegment}
use Rattle.uecp_frame.specs.declared.open_segment.Ended.{Ended}
use Rattle.uecp_frame.specs.declared.open_segment.Ended.TheVariants as ended
use Rattle.uecp_frame.specs.declared.open_segment.Advanced.{Advanced}
use Rattle.uecp_frame.specs.Stuffing.{stuffed}
use Rattle.uecp_frame.specs.Segment.{frame_of, number_at}
use Rattle.uecp_frame.specs.Findings.{OpenPart, Closed, Doomed, Part}
use Rattle.uecp_frame.specs.Feeding.{findings_of}
use Rattle.uecp_frame.specs.Beyond.{found_beyond, open_beyond}

-- What is read of an open segment is its fault where that is certain, or else its plain bytes, and an FD whose next
-- byte has yet to come (profile).
abbrev pub inside_of : Option FrameFault → List ℕ → Bool → OpenPart
inside_of (Some fault) plain is_escaping = Doomed fault
inside_of None plain is_escaping = Part (record { plain = plain; rest = if is_escaping then 0xFD ∷ [] else [] })

-- The open part is what is read, where a segment is open (profile).
abbrev pub part_of : OpenSegment → OpenPart
part_of s = if s.is_open then inside_of s.fault s.plain.items s.is_escaping else Closed

-- While no fault is certain, the bytes that the plain ones were sent as are counted. After an FD there is room for a
-- plain byte (profile).
pub record IsOpenSegment (s : OpenSegment) : Type 0 where
  pub counted : s.fault ≡ None → s.sent ≡ length (stuffed s.plain.items)
  pub room : s.is_escaping ≡ true → length s.plain.items ≤ 260

-- A byte below FD is a plain one more where a segment is open, its fault is not certain, no FD waits for its next byte,
-- and there is room (profile).
pub record TakesPlain (s : OpenSegment) (byte : ℕ) : Type 0 where
  pub opened : s.is_open ≡ true
  pub certain : s.fault ≡ None
  pub plain : s.is_escaping ≡ false
  pub below : byte < 0xFD
  pub room : length s.plain.items < 261

-- What was ended stands for what was found, a frame being that of the plain bytes (profile).
abbrev pub found_ended : Ended → List ℕ → Found
found_ended ended.Nothing plain = owned.Nothing
found_ended ended.Frame plain = owned.Frame (frame_of plain)
found_ended (ended.Refused fault) plain = owned.Refused fault

-- It is the answer with as many used bytes (profile).
abbrev pub fed_ended : Advanced → List ℕ → Fed
fed_ended advanced plain = record { used = advanced.used; found = found_ended advanced.ended plain }

-- The plain bytes of a frame are those of its body and its check.
abbrev pub IsWhole : Ended → List ℕ → Type 0
IsWhole e plain = e ≡ ended.Frame → 6 ≤ length plain

-- The address of a frame is in the first two of its plain bytes.
abbrev pub IsAddressOf : Ended → List ℕ → ℕ → Type 0
IsAddressOf e plain address = e ≡ ended.Frame → address ≡ number_at plain 0

-- One step from an open part uses bytes of which none but the last comes to a finding; what it answers is what they
-- find, and what is left open is what they leave (profile).
pub record Takes (old : OpenPart) (rest : List ℕ) (fed : Fed) (new : OpenPart) : Type 0 where
  pub some : 0 < fed.used
  pub fits : fed.used ≤ length rest
  pub answer : found_beyond old (take fed.used rest) ≡ findings_of fed.found
  pub first : (k : ℕ) → k < fed.used → found_beyond old (take k rest) ≡ []
  pub left : open_beyond old (take fed.used rest) ≡ new
