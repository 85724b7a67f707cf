-- From a line that is taken to what a receiver shows (profile).
use Rattle.std.specs.Prelude.{◌≡◌, ◌≢◌, ℕ, zero, suc, ◌+◌, ◌*◌, ◌/◌, ◌<◌, ◌≤◌, Bool, true, List, [], ◌∷◌, length, Some}
use Rattle.std.specs.List.{AllByRecursion}
use Rattle.uecp_elements.specs.Grammar.{AreBytes}
use Rattle.uecp_frame.specs.Findings.{Closed}
use Rattle.uecp_encoder.specs.State.{EncoderState}
use Rattle.uecp_link.specs.Server.{ServerState}
use Rattle.uecp_link.specs.History.{Act, messages_in, numbers_below}
use Rattle.uecp_link.specs.Fold.{value_after}
use Rattle.uecp_link.specs.Kept.{IsReady}
use Rattle.rds_store.specs.Value.{Store, StoredText}
use Rattle.rds_store.specs.declared.group.Group.{Group as StoredGroup}
use Rattle.rds_store.specs.Step.{step, group_taken}
use Rattle.store_phrases.specs.Station.{IsStation}
use Rattle.rds_groups.specs.Shown.{Receiver, text_shown}
use Rattle.carousel.specs.Carousel.{Carousel, blanks_left}
use Rattle.carousel.specs.Texts.{line_up, segment_count}
use Rattle.carousel.specs.Next.{aired}
use Rattle.carousel.specs.Service.{main_service}
use Rattle.promises.specs.OnAir.{after}
use Rattle.promises.specs.AirLaws.{Shows, up_to_return, waiting}
use Rattle.promises.specs.Station.{DiskEvent, FitsOnDisks, run_on_disks, station_from}
use Rattle.promises.specs.Epochs.{Epoch, comes_to, AreEpochs}
use Rattle.promises.specs.Ends.{Ends, EndEvent, IsNewServer, ends_from, run_ends, MayAll}
use Rattle.promises.specs.EachLine.{IsEachOnce}

-- The stores of so many groups that go out one after another while nothing comes: each group that waits goes out once.
abbrev pub on_air : (groups : ℕ) → Store → Carousel → List Store
on_air zero v c = []
on_air (suc n) v c = v ∷ on_air n (aired v c).1 (aired v c).2

-- A group that a receiver does not take for the station's own: it is of another type than 0, 2 and 15B. (IEC 62106,
-- group types)
pub record IsApart (g : StoredGroup) : Type 0 where
  pub not_type_0 : g.kind / 2 ≢ 0
  pub not_type_2 : g.kind / 2 ≢ 2
  pub not_15b : g.kind ≢ 31

-- Wherever the carousel stands, and whatever a receiver has heard before: where such groups alone wait, it shows the
-- main service of this store once 16 groups came; and its text, where that is one or none, after two groups for each of
-- its segments, each group in whose turn another waits, and each empty text that a start has left.
pub record IsOnDisplay (v : Store) : Type 0 where
  pub service : (groups : ℕ) (c : Carousel) (r : Receiver) → AllByRecursion IsApart v.groups → 16 ≤ groups
      → Shows (main_service v) (after (on_air groups v c) c r)
  pub text : (t : StoredText) (groups : ℕ) (c : Carousel) (r : Receiver) → AllByRecursion IsApart v.groups
      → line_up (main_service v).texts ≡ t ∷ []
      → 2 * (blanks_left c + segment_count t.bytes + waiting (on_air groups v c)) ≤ groups
      → text_shown (after (on_air groups v c) c r) ≡ Some (up_to_return t.bytes)

-- The first of these messages, so many of them, made this store of another, each once and in order, with the groups
-- that were taken between: all of them, where each is acknowledged. It is one that can be, and what a receiver shows.
pub record MakeWhatIsShown (sent : List (List ℕ)) (acknowledged : ℕ → Bool) (before after : Store) : Type 0 where
  pub applied : ℕ
  pub acts : List Act
  pub some : applied ≤ length sent
  pub all : ((k : ℕ) → k < length sent → acknowledged k ≡ true) → applied ≡ length sent
  pub order : messages_in acts ≡ numbers_below applied
  pub makes : after ≡ value_after step group_taken sent before acts
  pub station : IsStation after
  pub shown : IsOnDisplay after

-- Law: so it is over every list of events and crashes of either end, from an encoder that is ready and a store that can
-- be, where each message that was sent is of bytes.
abbrev pub WhatIsTakenIsShown : Type 0
WhatIsTakenIsShown =
    (e : EncoderState Store) (before : ℕ) → IsReady e.ring → e.part ≡ Closed → IsStation e.value
    → (events : List DiskEvent) → AllByRecursion FitsOnDisks events
    → let s = run_on_disks step group_taken e.address (station_from e before) events in
    AllByRecursion AreBytes s.world.once.sent
    → MakeWhatIsShown s.world.once.sent s.world.once.acknowledged e.value s.world.encoder.value

-- Over epochs: each message that was sent is of bytes.
abbrev pub AreOfBytes : (before : ℕ) → List (Epoch Store) → Type 0
AreOfBytes before [] = Unit {0}
AreOfBytes before (x ∷ xs) =
    AllByRecursion AreBytes (comes_to step group_taken before x).world.once.sent
    × AreOfBytes (comes_to step group_taken before x).server_file.taken xs

-- In each the messages that were sent in it made what is shown then, of the store with which it began.
abbrev pub MakeEach : (before : ℕ) → List (Epoch Store) → Type 0
MakeEach before [] = Unit {0}
MakeEach before (x ∷ xs) =
    (let s = comes_to step group_taken before x in
    MakeWhatIsShown s.world.once.sent s.world.once.acknowledged x.encoder.value s.world.encoder.value)
    × MakeEach (comes_to step group_taken before x).server_file.taken xs

-- Law: so it is in each of epochs that follow one another, from stores that can be.
abbrev pub ShownOverEpochs : Type 0
ShownOverEpochs =
    (address : ℕ) (opening : Store) (before : ℕ) (left : Store) (epochs : List (Epoch Store))
    → AreEpochs step group_taken address opening before left epochs → IsStation opening → IsStation left
    → AreOfBytes before epochs → MakeEach before epochs

-- Each line is there once; and the store is one that can be, and what a receiver shows.
pub record IsOnceAndShown (e : EncoderState Store) (before : ℕ) (x : Ends Store) : Type 0 where
  pub once : IsEachOnce step group_taken e before x
  pub station : IsStation x.transmitter.encoder.value
  pub shown : IsOnDisplay x.transmitter.encoder.value

-- Law: so it is over both ends and the bytes between them, whatever happened.
abbrev pub EachLineIsShown : Type 0
EachLineIsShown =
    (e : EncoderState Store) (server : ServerState) (before : ℕ) → IsReady e.ring → e.part ≡ Closed → IsStation e.value
    → IsNewServer e.address server → (events : List EndEvent)
    → MayAll step group_taken (ends_from e server before) events
    → let x = run_ends step group_taken (ends_from e server before) events in
    AllByRecursion AreBytes x.studio.sent → IsOnceAndShown e before x
