-- What the edge of an encoder on the air does; a reader has to believe it (profile).
use Rattle.std.specs.Prelude.{◌≡◌, ◌⊎◌, ◌-◌, ◌*◌, ◌^◌, ◌<◌, ◌≤◌, ℕ, zero, suc, min, leb, Bool, true, false, ◌&&◌}
use Rattle.std.specs.Prelude.{List, [], ◌∷◌, ◌++◌, length, codes, Option, Some, None}
use Rattle.std.specs.List.{list_any}
use Rattle.rds_groups.specs.declared.group.Group.{Group}
use Rattle.uecp_text.specs.Written.{Begins}
use Rattle.device_edges.specs.Place.{room_line}
use Rattle.seats.specs.Seats.{IsSeatGiven, NoSeatGiven}
use Rattle.device_serving.specs.declared.air.moments.Moment.{Moment}
use Rattle.device_serving.specs.declared.air.moments.Moment.TheVariants.{Connected, Readable, Due, Over}
use Rattle.air_edges.specs.declared.form.AirForm.{AirForm}
use Rattle.air_edges.specs.declared.hears.Taken.{Taken}
use Rattle.air_edges.specs.declared.sockets.Came.{Came}
use Rattle.air_edges.specs.Pace as pace
use Rattle.air_edges.specs.AirBytes.{air_bytes}
use Rattle.air_edges.specs.Hearers.{Hearing, joined, hearers_most, is_behind, seats_of, replaced, GoesOut}

-- The edge of an encoder on the air: its sockets and clock; the form in which groups go out; after how many seconds
-- without a byte a connection is given up, if so; when the next group is due; when something came on the connection
-- last, in milliseconds; who listens, in the order in which they came; and what was said, with whether it was said that
-- too many listen, that too many do from one address, and that the system has no room for one more connection.
pub record Edge (S H : Type 0) : Type 0 where
  pub sockets : S
  pub form : AirForm
  pub idle : Option ℕ
  pub next : ℕ
  pub heard : ℕ
  pub hearers : List (Hearing H)
  pub is_full_told : Bool
  pub is_crowd_told : Bool
  pub is_out_told : Bool
  pub told : Option (List ℕ)

-- At first: the first group is due at once, nobody listens, and nothing was said.
abbrev pub edge_at_first : {S H : Type 0} → S → AirForm → (idle : Option ℕ) → (told : Option (List ℕ)) → Edge S H
edge_at_first sockets form idle told = record {
  sockets = sockets;
  form = form;
  idle = idle;
  next = 0;
  heard = 0;
  hearers = [];
  is_full_told = false;
  is_crowd_told = false;
  is_out_told = false;
  told = told;
}

-- ---- Time.

-- Whether a connection on which something came last then was silent for too long now.
abbrev pub is_silent : (idle : Option ℕ) → (heard now : ℕ) → Bool
is_silent None heard now = false
is_silent (Some seconds) heard now = leb (seconds * 1000) (now - heard)

-- For how many milliseconds is waited at most: until the next group is due; and where a connection is open, no longer
-- than it may be silent still.
abbrev pub wait_limit : (is_open : Bool) → (idle : Option ℕ) → (heard next now : ℕ) → ℕ
wait_limit false idle heard next now = pace.wait next now
wait_limit true None heard next now = pace.wait next now
wait_limit true (Some seconds) heard next now = min (pace.wait next now) (seconds * 1000 - (now - heard))

-- ---- Who listens.

-- What is said where one more than may listen wants to.
abbrev pub full_line : List ℕ
full_line = codes "uecp: air: too many listen, and one more is not taken\n"

-- What is said of one who is let go as slow.
abbrev pub slow_line : List ℕ
slow_line = codes "uecp: air: one who listens does not keep up, and is closed\n"

-- What is said of one who is let go since more listen from where it comes than from where another does.
abbrev pub crowd_line : List ℕ
crowd_line = codes "uecp: air: too many listen from one address, and one of them is closed\n"

-- It is said once until there is room.
abbrev pub TellsOnce : (line : List ℕ) → (told_before : Bool) → (told told' : Option (List ℕ)) → Type 0
TellsOnce line true told told' = told' ≡ told
TellsOnce line false told told' = Begins told told' line

-- The system had no room for one more connection, or had: that it had none is said once until it has.
abbrev pub TellsOut : {S H : Type 0} → (is_out : Bool) → (e e' : Edge S H) → Type 0
TellsOut true e e' = TellsOnce room_line e.is_out_told e.told e'.told
    × (e' ≡ record e { is_out_told = true; told = e'.told })
TellsOut false e e' = e' ≡ record e { is_out_told = false }

-- It is said of so many, or begun to be said.
abbrev pub TellsSlow : (count : ℕ) → (told told' : Option (List ℕ)) → Type 0
TellsSlow zero told told' = told' ≡ told
TellsSlow (suc count) told told' =
    (between : Option (List ℕ)) × TellsSlow count told between × Begins between told' slow_line

-- One more listens in the place of the one at this place, who is let go. Who is behind is let go as slow, and another
-- for the crowd that it is of; that is said.
abbrev pub TakesPlace : {S H : Type 0} → (is_slow : Bool) → (place : ℕ) → H → (origin : ℕ) → (e e' : Edge S H)
    → Type 0
TakesPlace true place output origin e e' = TellsOnce slow_line e.is_full_told e.told e'.told
    × (e' ≡ record e { hearers = replaced place output origin e.hearers; is_full_told = true; told = e'.told })
TakesPlace false place output origin e e' = TellsOnce crowd_line e.is_crowd_told e.told e'.told
    × (e' ≡ record e { hearers = replaced place output origin e.hearers; is_crowd_told = true; told = e'.told })

-- One who was accepted, and comes from there, listens where as many do as may: in the place of the one that gives it.
-- That is the first that is behind; where none is, the first of those from whose origin most listen, where from there
-- fewer do. Or none gives its place, and it is not taken, which is said.
abbrev pub JoinsFull : {S H : Type 0} → H → (origin : ℕ) → (e e' : Edge S H) → Type 0
JoinsFull output origin e e' =
    ((place : ℕ) × IsSeatGiven origin place (seats_of e.hearers)
    × TakesPlace (list_any is_behind e.hearers) place output origin e e')
    ⊎ (NoSeatGiven origin (seats_of e.hearers) × TellsOnce full_line e.is_full_told e.told e'.told
    × (e' ≡ record e { is_full_told = true; told = e'.told }))

-- One who was accepted, and comes from there, listens from the next group on, behind the others. Nobody is let go for
-- it while there is room.
abbrev pub Joins : {S H : Type 0} → H → (origin : ℕ) → (e e' : Edge S H) → Type 0
Joins output origin e e' =
    ((length e.hearers < hearers_most) × (e' ≡ record e { hearers = e.hearers ++ joined output origin ∷ [] }))
    ⊎ ((hearers_most ≤ length e.hearers) × JoinsFull output origin e e')

-- A group goes out, in the form that was asked for, to all who listen.
abbrev pub SendsGroup : {S H : Type 0} → (takes : H → List ℕ → Taken → H → Type 0)
    → (contents : H → Option (List ℕ)) → Edge S H → Group → Edge S H → Type 0
SendsGroup takes contents e group e' =
    (slow : ℕ) × GoesOut takes contents (air_bytes e.form group) slow e.hearers e'.hearers
    × TellsSlow slow e.told e'.told
    × (e' ≡ record e {
      hearers = e'.hearers;
      is_full_told = e.is_full_told && leb hearers_most (length e'.hearers);
      is_crowd_told = e.is_crowd_told && leb hearers_most (length e'.hearers);
      told = e'.told;
    })

-- The two ends of a connection are given back to the sockets, and nothing else is done.
abbrev pub ClosesEnds : {S H I O : Type 0} → (closes : S → I → O → S → Type 0) → Edge S H → I → O → Edge S H → Type 0
ClosesEnds closes e input output e' =
    closes e.sockets input output e'.sockets × (e' ≡ record e { sockets = e'.sockets })

-- ---- A wait.

-- Nothing is to be done at this time: no group is due, and no connection is open that was silent for too long.
abbrev pub IsEarly : {S H : Type 0} → (is_open : Bool) → Edge S H → (now : ℕ) → Type 0
IsEarly is_open e now =
    (pace.is_due e.next now ≡ false) × ((is_open && is_silent e.idle e.heard now) ≡ false)

-- Where one came who wants to listen it is accepted, if it is there still.
abbrev pub Accepts : {S H : Type 0} → (joins : S → Option (H × ℕ) → S → Type 0) → (came : Bool)
    → (e e' : Edge S H) → Type 0
Accepts joins false e e' = e' ≡ e
Accepts {S} {H} joins true e e' = (sockets : S)
    × ((joins e.sockets None sockets × (e' ≡ record e { sockets = sockets }))
    ⊎ ((output : H) × (origin : ℕ) × joins e.sockets (Some (output, origin)) sockets
    × Joins output origin (record e { sockets = sockets }) e'))

module _ {S H I O : Type 0} (reads : S → ℕ → S → Type 0) (waits : S → Bool → ℕ → Option Came → S → Type 0)
    (opens : S → Option (I × O) → S → Type 0) (joins : S → Option (H × ℕ) → S → Type 0) where
  -- The sockets were waited for at a time at which nothing was to be done, and for no longer than until something is;
  -- this came, what there is to say of room was said, and one who wants to listen was accepted.
  pub record Looks (is_open : Bool) (e : Edge S H) (now : ℕ) (came : Came) (e' : Edge S H) : Type 0 where
    pub waited : S
    pub told : Edge S H
    pub early : IsEarly is_open e now
    pub waits_so : waits e.sockets is_open (wait_limit is_open e.idle e.heard e.next now) (Some came) waited
    pub tells : TellsOut came.is_out (record e { sockets = waited }) told
    pub accepts : Accepts joins came.air told e'

  -- What a look at this time brings.
  --
  -- Something came on the connection that is open. A connection of the studio came, where none is open: its two ends
  -- are those that were accepted. Or nothing more can be waited for.
  abbrev pub LookBrings : (is_open : Bool) → (now : ℕ) → Edge S H → Moment I O → Edge S H → Type 0
  LookBrings is_open now e (Connected input output) e' = (came : Came) × (y : Edge S H) × Looks is_open e now came y
      × (is_open ≡ false) × (came.studio ≡ true) × opens y.sockets (Some (input, output)) e'.sockets
      × (e' ≡ record y { sockets = e'.sockets; heard = now })
  LookBrings is_open now e Readable e' = (came : Came) × (y : Edge S H) × Looks is_open e now came y
      × (is_open ≡ true) × (came.studio ≡ true) × (e' ≡ record y { heard = now })
  LookBrings is_open now e Due e' = ⊥
  LookBrings is_open now e Over e' = IsEarly is_open e now
      × waits e.sockets is_open (wait_limit is_open e.idle e.heard e.next now) None e'.sockets
      × (e' ≡ record e { sockets = e'.sockets })

  -- A look that brings nothing: nothing came of the studio; or no connection was to be had though one was told of.
  abbrev pub LookPasses : (is_open : Bool) → (now : ℕ) → (e e' : Edge S H) → Type 0
  LookPasses is_open now e e' = (came : Came) × (y : Edge S H) × Looks is_open e now came y
      × (((came.studio ≡ false) × (e' ≡ y))
      ⊎ ((is_open ≡ false) × (came.studio ≡ true) × opens y.sockets None e'.sockets
      × (e' ≡ record y { sockets = e'.sockets })))

  -- What is to be done at this time: a group is due, and the next one a group's time later; or the connection that is
  -- open was silent for too long, and is to be read.
  abbrev pub TimeBrings : (is_open : Bool) → (now : ℕ) → Edge S H → Moment I O → Edge S H → Type 0
  TimeBrings is_open now e (Connected input output) e' = ⊥
  TimeBrings is_open now e Readable e' = (pace.is_due e.next now ≡ false) × (is_open ≡ true)
      × (is_silent e.idle e.heard now ≡ true) × (e' ≡ record e { heard = now })
  TimeBrings is_open now e Due e' =
      (pace.is_due e.next now ≡ true) × (e' ≡ record e { next = pace.after e.next now })
  TimeBrings is_open now e Over e' = ⊥

  -- The clock is read, and what is to be done at its time is done; where nothing is, one look is taken.
  abbrev pub Brings : (is_open : Bool) → Edge S H → Moment I O → Edge S H → Type 0
  Brings is_open e moment e' = (now : ℕ) × (read : S) × reads e.sockets now read
      × (TimeBrings is_open now (record e { sockets = read }) moment e'
      ⊎ LookBrings is_open now (record e { sockets = read }) moment e')

  -- The same, and nothing came of it.
  abbrev pub Passes : (is_open : Bool) → (e e' : Edge S H) → Type 0
  Passes is_open e e' = (now : ℕ) × (read : S) × reads e.sockets now read
      × LookPasses is_open now (record e { sockets = read }) e'

  -- So many times, one after another.
  abbrev pub PassesFor : (is_open : Bool) → (many : ℕ) → (e e' : Edge S H) → Type 0
  PassesFor is_open zero e e' = e' ≡ e
  PassesFor is_open (suc many) e e' = (y : Edge S H) × PassesFor is_open many e y × Passes is_open y e'

  -- A wait: some times nothing came of it, and then this did. Or that was 2^64 - 1 times, and nothing more is waited
  -- for.
  abbrev pub Waits : Edge S H → (is_open : Bool) → Moment I O → Edge S H → Type 0
  Waits e is_open moment e' = (many : ℕ) × (y : Edge S H) × PassesFor is_open many e y
      × (Brings is_open y moment e' ⊎ ((many ≡ 2 ^ 64 - 1) × (moment ≡ Over) × (e' ≡ y)))
