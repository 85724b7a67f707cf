-- How a server that knows nothing of an encoder joins it: by a pass of empty messages, and the replies to two of them;
-- a reader has to believe it, but for what is marked private. Source: profile.
use Rattle.std.specs.Prelude.{◌≡◌, ◌≢◌, ℕ, ◌+◌, ◌-◌, ◌<◌, ◌≤◌, ◌==◌, nat_lt, max, ◌||◌, ◌⊎◌, List, [], ◌∷◌, ◌++◌}
use Rattle.std.specs.Prelude.{length, map, take, filter_map, false, Option, None, Result, Ok, Err, if◌then◌else◌}
use Rattle.std.specs.List.{concat}
use Rattle.std.specs.Option.{option_map}
use Rattle.std.specs.Io.KnownBytes.{Appends, IsAtEnd}
use Rattle.uecp_frame.specs.Frame.{spelling}
use Rattle.uecp_frame.specs.Findings.{Finding, OpenPart, Closed as NothingOpen}
use Rattle.uecp_frame.specs.Beyond.{found_beyond, open_beyond}
use Rattle.reply_ring.specs.Ring.{newest}
use Rattle.uecp_encoder.specs.Target.{Step}
use Rattle.uecp_encoder.specs.State.{EncoderState, opening, next_after, fed}
use Rattle.uecp_encoder.specs.Answering.{answers}
use Rattle.uecp_encoder.specs.Laws.{Happening, after_happenings}
use Rattle.uecp_encoder.specs.Joining.{rising, falling}
use Rattle.uecp_encoder.specs.Metered.{Metered}
use Rattle.uecp_link.specs.declared.driving.DriveFault.{DriveFault}
use Rattle.uecp_link.specs.declared.driving.DriveFault.TheVariants.{WriteFailed, Closed, TriesSpent}
use Rattle.uecp_link.specs.declared.joining.Joining.{Joining}
use Rattle.uecp_link.specs.declared.joining.Joining.TheVariants.{Joined, Spent}
use Rattle.uecp_link.specs.declared.joining.Replies.{Replies}
use Rattle.uecp_link.specs.declared.joining.Seen.{Seen}
use Rattle.uecp_link.specs.declared.joining.Seen.TheVariants.{Neither, First, Both}
use Rattle.uecp_link.specs.Frames.{frame_under}
use Rattle.uecp_link.specs.Reading.{Reads, is_closed, write_failures}
use Rattle.uecp_link.specs.Server.{ServerState, reply_from, heard}

-- ---- What is sent.

-- Each of these twice, one behind the other.
abbrev pub twice : List ℕ → List ℕ
twice [] = []
twice (counter ∷ counters) = counter ∷ counter ∷ twice counters

-- The last counters of a pass that goes on behind this one: FF, and behind one of 81 .. FE the counter 81 once more
-- before it, as whoever has joined has the replies to both from one connection. So two replies are enough there.
abbrev pub last_behind : (behind : ℕ) → List ℕ
last_behind behind = if nat_lt behind 0x81 then 0xFF ∷ [] else 0x81 ∷ 0xFF ∷ []

-- The counters of a pass that goes on behind this one, in the order in which their frames are sent. Behind 00 it is a
-- whole one: 01, 02 .. FF, each once. Behind another one something was lost before, so those above it come twice, up to
-- FE: of two frames in a row one may be lost. FF comes once and last, so that behind the reply to it nothing is still
-- to come. (profile; SPB 490, sequence counter)
abbrev pub counters_behind : (behind : ℕ) → List ℕ
counters_behind behind =
    if behind == 0 then rising 1 255 else twice (rising (behind + 1) (254 - behind)) ++ last_behind behind

-- The frames of such a pass: an empty message under each of these counters. (profile; SPB 490, frame format)
unfoldable pub frames_behind : (address behind : ℕ) → List (List ℕ)
frames_behind address behind =
    map (λ counter. spelling (frame_under address (counter, []))) (counters_behind behind)

-- What is sent of it: its frames, one after another.
abbrev pub sent_behind : (address behind : ℕ) → List ℕ
sent_behind address behind = concat (frames_behind address behind)

-- A whole pass.
abbrev pub pass_sent : (address : ℕ) → List ℕ
pass_sent address = sent_behind address 0

-- ---- What is read.

-- The counter that a finding replies to, where it is a reply of the encoder at this address, whatever its code.
abbrev pub reply_counter : (address : ℕ) → Finding → Option ℕ
reply_counter address (Err fault) = None
reply_counter address (Ok f) = option_map (λ reply. reply.0) (reply_from address f)

-- The counters of the replies that some bytes bring after this open part, in order.
abbrev pub reply_counters : (address : ℕ) → OpenPart → List ℕ → List ℕ
reply_counters address part bytes = filter_map (reply_counter address) (found_beyond part bytes)

-- Of these counters one is 81, and one after it is FF.
pub record IsJoinedBy (counters : List ℕ) : Type 0 where
  pub before : List ℕ
  pub between : List ℕ
  pub after : List ℕ
  pub are : counters ≡ before ++ 0x81 ∷ (between ++ 0xFF ∷ after)

-- Some bytes of a new connection bring the reply to 81 and, after it, the reply to FF.
abbrev pub BringsBoth : (address : ℕ) → List ℕ → Type 0
BringsBoth address bytes = IsJoinedBy (reply_counters address NothingOpen bytes)

-- ---- Where a pass goes on.

-- The highest of these counters, and of this one.
abbrev pub highest_of : (so_far : ℕ) → List ℕ → ℕ
highest_of so_far [] = so_far
highest_of so_far (counter ∷ counters) = highest_of (max so_far counter) counters

-- Behind which counter the next part of a pass goes on, where one behind this counter got replies, the highest of them
-- to this one, or to none (0): behind the highest so far; from 01 again where none came, or one to FF.
abbrev pub goes_on_behind : (behind highest : ℕ) → ℕ
goes_on_behind behind highest = if highest == 0 || highest == 0xFF then 0 else max behind highest

-- ---- What a call does.

-- A server as it begins anew: its next message will have counter 01, it holds none, and nothing is open. Its counts
-- stay. (profile)
abbrev pub anew : ServerState → ServerState
anew s = record s { last = 0; held = []; part = NothingOpen }

-- A server that began anew and heard some bytes is still so, but for its open part and its counts of stray frames and
-- dropped segments.
abbrev pub IsStillNew : (old new : ServerState) → Type 0
IsStillNew old new = new ≡ record (anew old) {
  counts = record new.counts { acknowledged = old.counts.acknowledged };
  part = new.part;
}

-- How the reads of a pass ended. Joined: both replies were read, and not so 64 bytes before. Spent: they were not, and
-- one read failed, or none and all turns were made. Closed: they were not, and the input is at its end.
abbrev pub RepliesEnd : (address : ℕ) → (read : List ℕ) → (unread : Option (List ℕ)) → (turns reads failed : ℕ)
    → Result Joining DriveFault → Type 0
RepliesEnd address read unread turns reads failed (Ok Joined) =
    BringsBoth address read × (BringsBoth address (take (length read - 64) read) → ⊥) × (failed ≡ 0) × (1 ≤ reads)
RepliesEnd address read unread turns reads failed (Ok Spent) =
    (BringsBoth address read → ⊥) × (((failed ≡ 1) × (1 ≤ reads)) ⊎ ((failed ≡ 0) × (reads ≡ turns)))
RepliesEnd address read unread turns reads failed (Err Closed) =
    (BringsBoth address read → ⊥) × (failed ≡ 0) × (1 ≤ reads) × IsAtEnd unread
RepliesEnd address read unread turns reads failed (Err (WriteFailed w)) = ⊥
RepliesEnd address read unread turns reads failed (Err TriesSpent) = ⊥

-- What comes of a pass that went on behind this counter, where its reads ended so. It was sent to its end, and that is
-- told; or a write failed: the first w bytes of it were sent, not all, and this is told.
abbrev pub PassEnds : (address behind : ℕ) → (sent : List ℕ) → (ended told : Result Joining DriveFault) → Type 0
PassEnds address behind sent ended told =
    ((sent ≡ sent_behind address behind) × (told ≡ ended))
    ⊎ ((w : ℕ) × (sent ≡ take w (sent_behind address behind)) × (w < length (sent_behind address behind))
    × (told ≡ Err (WriteFailed w)))

-- A pass that goes on behind the one counter, and behind the other of which the next goes on, from one state of the
-- server to another, over a reader and a writer before and after it: what was sent and read, by how many reads, how
-- these ended, and what is told. Also where a write failed, what came by then is read. The server begins anew and hears
-- all that was read; as it holds nothing, each reply counts as stray. Where the reads ended as `Closed` one of them
-- brought nothing, else none did.
pub record MakesPass {R W : Type 0} (remaining : R → Option (List ℕ)) (contents : W → Option (List ℕ))
    (behind behind' : ℕ) (old new : ServerState) (reader reader' : Metered R) (writer writer' : Metered W) (turns : ℕ)
    (result : Result Joining DriveFault) : Type 0 where
  pub read : List ℕ
  pub sent : List ℕ
  pub reads : ℕ
  pub failed : ℕ
  pub ended : Result Joining DriveFault
  pub reading : Reads remaining reader reader' read reads failed (is_closed ended)
  pub appended : Appends (contents writer.device) (contents writer'.device) sent
  pub state : new ≡ heard (anew old) read
  pub reads_end : RepliesEnd old.address read (remaining reader'.device) turns reads failed ended
  pub ends : PassEnds old.address behind sent ended result
  pub goes_on : behind' ≡ goes_on_behind behind (highest_of 0 (reply_counters old.address NothingOpen read))
  pub few_reads : reads ≤ turns
  pub write_failures : writer'.failures ≡ write_failures result writer.failures

-- ---- Both directions of one connection.

-- An encoder that has joined, with this value at its target: it keeps replies to FF, FE .. 81 and no other, the next is
-- 01, and nothing is open.
pub record HasJoinedWith {V : Type 0} (e : EncoderState V) (value : V) : Type 0 where
  pub value_is : e.value ≡ value
  pub kept : map (λ pair. pair.0) e.ring ≡ falling 0xFF 127
  pub next : next_after (newest e.ring) ≡ 1
  pub closed : e.part ≡ NothingOpen

-- The encoder got some bytes of a pass, the others were coming; some bytes of its replies were read, the others not. Of
-- the pass and of the replies nothing is still to come; the encoder has joined, its target as it was; and nothing is
-- open at the server either.
pub record IsOver {V : Type 0} (step : Step V) (e : EncoderState V) (got coming read unread : List ℕ) : Type 0 where
  pub pass : coming ≡ []
  pub replies : unread ≡ []
  pub encoder : HasJoinedWith (fed step e got) e.value
  pub server : open_beyond NothingOpen read ≡ NothingOpen

-- On a line that keeps the order of each direction and loses nothing but its end: where an empty message leaves the
-- target as it is, and whatever happened to an encoder since it was new, if nothing is open at it, a pass is sent to
-- it, whole or behind whatever counter, and what was read of its replies brings both, then all is over. So nothing of
-- what was answered on other connections counts, nor what came to the encoder between them.
abbrev pub JoinsOverALine : {V : Type 0} → Step V → Type 0
JoinsOverALine {V} step =
    ((v : V) → (step v []).0 ≡ v) →
    (address behind : ℕ) (value : V) (before : List (Happening V)) (got coming read unread : List ℕ) →
    let e : EncoderState V = after_happenings step (opening address value) before in
    e.part ≡ NothingOpen →
    behind ≤ 0xFE →
    got ++ coming ≡ sent_behind address behind →
    read ++ unread ≡ answers step e got →
    BringsBoth address read →
    IsOver step e got coming read unread

-- Where nothing is lost, neither of the pass nor of the replies to it, both replies come, from wherever the encoder
-- was: one pass is enough.
abbrev pub WholePassBringsBoth : {V : Type 0} → Step V → Type 0
WholePassBringsBoth {V} step =
    (address : ℕ) (value : V) (before : List (Happening V)) →
    let e : EncoderState V = after_happenings step (opening address value) before in
    e.part ≡ NothingOpen →
    BringsBoth address (answers step e (pass_sent address))

-- ---- How far the replies have come, piece by piece (private).

-- After one counter more.
abbrev pub seen_with : Seen → ℕ → Seen
seen_with Neither counter = if counter == 0x81 then First else Neither
seen_with First counter = if counter == 0xFF then Both else First
seen_with Both counter = Both

-- After counters, one after another.
abbrev pub seen_after : Seen → List ℕ → Seen
seen_after seen [] = seen
seen_after seen (counter ∷ counters) = seen_after (seen_with seen counter) counters

-- What was read of the replies, after one to this counter more.
abbrev pub replies_with : Replies → ℕ → Replies
replies_with replies counter =
    record { seen = seen_with replies.seen counter; highest = max replies.highest counter }

-- And after counters, one after another.
abbrev pub replies_after : Replies → List ℕ → Replies
replies_after replies [] = replies
replies_after replies (counter ∷ counters) = replies_after (replies_with replies counter) counters

-- No reply.
abbrev pub no_replies : Replies
no_replies = record { seen = Neither; highest = 0 }

-- The reads of a pass from a server with nothing open and nothing held (private).
pub record ReadsReplies {R : Type 0} (remaining : R → Option (List ℕ)) (old new : ServerState)
    (reader reader' : Metered R) (turns : ℕ) (replies : Replies) (result : Result Joining DriveFault) : Type 0 where
  pub read : List ℕ
  pub reads : ℕ
  pub failed : ℕ
  pub reading : Reads remaining reader reader' read reads failed (is_closed result)
  pub state : new ≡ heard old read
  pub ends : RepliesEnd old.address read (remaining reader'.device) turns reads failed result
  pub replies_are : replies ≡ replies_after no_replies (reply_counters old.address old.part read)
  pub few_reads : reads ≤ turns

-- So many reads, none of which failed or brought nothing, after which the two replies were not both read (private).
pub record ReadSoFar {R : Type 0} (remaining : R → Option (List ℕ)) (old new : ServerState) (reader reader' : Metered R)
    (replies : Replies) (reads : ℕ) : Type 0 where
  pub read : List ℕ
  pub reading : Reads remaining reader reader' read reads 0 false
  pub state : new ≡ heard old read
  pub idle : new.held ≡ []
  pub replies_are : replies ≡ replies_after no_replies (reply_counters old.address old.part read)
  pub waits : replies.seen ≢ Both

-- A piece is heard up to its rest, which brings what is left of the replies (private).
pub record HearsOn (old new : ServerState) (piece rest : List ℕ) (replies replies' : Replies) : Type 0 where
  pub state : heard new rest ≡ heard old piece
  pub idle : new.held ≡ []
  pub replies_are : replies_after replies' (reply_counters new.address new.part rest)
      ≡ replies_after replies (reply_counters old.address old.part piece)
