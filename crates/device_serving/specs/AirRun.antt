-- What an encoder does that is on the air, and how it ends; a reader has to believe it (profile).
use Rattle.std.specs.Prelude.{◌≡◌, ◌⊎◌, ℕ, zero, suc, ◌-◌, ◌^◌, ◌<◌, Bool, true, false, List, Option, Some, None}
use Rattle.std.specs.Prelude.{is_some}
use Rattle.std.specs.Prelude.{Ok, Err}
use Rattle.rds_groups.specs.declared.group.Group.{Group}
use Rattle.rds_store.specs.Value.{Store}
use Rattle.rds_store.specs.Step.{step as store_step}
use Rattle.carousel.specs.Carousel.{Carousel}
use Rattle.carousel.specs.Next.{is_queued, aired}
use Rattle.uecp_frame.specs.Findings.{Closed}
use Rattle.uecp_encoder.specs.State.{EncoderState}
use Rattle.uecp_text.specs.declared.run_fault.RunFault.TheVariants as run
use Rattle.uecp_encoder.specs.declared.serving.KeptFault.TheVariants as kept
use Rattle.uecp_encoder.specs.Keeping.{Kept, kept_of, Settled, Outlives}
use Rattle.uecp_encoder.specs.ServingWith.{Ended, StaysSettled}
use Rattle.kept_jobs.specs.declared.stop.KeptStop.{KeptStop}
use Rattle.kept_jobs.specs.declared.stop.KeptStop.TheVariants.{Run, StateFailed}
use Rattle.kept_jobs.specs.Stops.{Went, Then}
use Rattle.device_serving.specs.ConnectionLines.{ended_lines}
use Rattle.device_serving.specs.Logging.{Log, Logs, LogsEvent, LogsOpening}
use Rattle.device_serving.specs.DeviceRun.{TellsStore, went_after, tells_first}
use Rattle.device_serving.specs.declared.air.line.Sent.{Sent}
use Rattle.device_serving.specs.declared.air.line.OpenLine.{OpenLine}
use Rattle.device_serving.specs.declared.air.moments.Moment.{Moment}
use Rattle.device_serving.specs.declared.air.moments.Moment.TheVariants.{Connected, Readable, Due, Over}
use Rattle.device_serving.specs.AirLines.{ReadsOnce, unread, ended_over, is_over}

-- Where a device on the air stands: its encoder, where that is kept, its log, what it waits for and sends to, what of
-- its store is on the air, the connection that is open, and how many are left to be served, with that.
pub record OnAir (K M I O : Type 0) : Type 0 where
  pub encoder : EncoderState Store
  pub keeper : K
  pub log : Log
  pub moments : M
  pub carousel : Carousel
  pub line : Option (OpenLine I O)
  pub left : ℕ

-- ---- A connection came.

-- It is the one that is open now, and so many reads are left to it: the encoder forgets what the one before left open,
-- and the log is told. Where one is open it is given back unused.
abbrev pub Connects : {K M I O : Type 0} → (closes : M → I → O → M → Type 0) → (turns : ℕ) → Option (OpenLine I O) → I
    → O
    → (x x' : OnAir K M I O) → Went → Type 0
Connects closes turns None input output x x' went =
    LogsOpening x.log x'.log × (x' ≡ record x {
      encoder = record x.encoder { part = Closed };
      log = x'.log;
      line = Some (unread turns input output);
    }) × (went ≡ Ok tt)
Connects closes turns (Some line) input output x x' went =
    closes x.moments input output x'.moments × (x' ≡ record x { moments = x'.moments }) × (went ≡ Ok tt)

-- ---- Something came on the connection.

-- The connection goes on; or its two ends are given back, the log is told how it ended, and the run goes on, but where
-- a save failed or the log has ended.
abbrev pub GoesOnOrEnds : {K M I O : Type 0} → (closes : M → I → O → M → Type 0) → (over : Bool) → (sent : Sent)
    → (line' : OpenLine I O) → Ended → (told : Log) → (x x' : OnAir K M I O) → Went → Type 0
GoesOnOrEnds closes false sent line' ended told x x' went =
    (x' ≡ record x { encoder = x'.encoder; keeper = x'.keeper; log = told; line = Some line' }) × (went ≡ Ok tt)
GoesOnOrEnds closes true sent line' ended told x x' went =
    closes x.moments line'.input line'.output x'.moments
    × Logs (λ stamp. ended_lines told.form stamp told.number (ended_over sent ended)) told x'.log
    × (x' ≡ record x {
      encoder = x'.encoder;
      keeper = x'.keeper;
      log = x'.log;
      moments = x'.moments;
      line = None;
      left = x.left - 1;
    }) × (went ≡ went_after x'.log.fault ended)

module _ {K M I O : Type 0} (most room : ℕ) (leaves : K → Kept Store → Type 0) (is_clean : K → Type 0)
    (saves fails : K → Kept Store → K → Type 0) (closes : M → I → O → M → Type 0)
    (remaining : I → Option (List ℕ)) (contents : O → Option (List ℕ)) where
  -- What a crash may leave after a read that ended so: where it was the encoder before, it is the encoder now, unless a
  -- save failed. The premise reaches back.
  pub record KeepsOn (ended : Ended) (x x' : OnAir K M I O) : Type 0 where
    pub settled : Settled (leaves x.keeper) x.encoder → is_clean x'.keeper
        → StaysSettled (leaves x'.keeper) x'.encoder ended
    pub clean : is_clean x'.keeper → is_clean x.keeper

  -- One read of the connection, and what became of that.
  pub record ReadsLine (line : OpenLine I O) (x x' : OnAir K M I O) (went : Went) : Type 0 where
    pub ended : Ended
    pub line' : OpenLine I O
    pub told : Log
    pub reads : ReadsOnce most room store_step leaves is_clean saves fails LogsEvent remaining contents x.encoder
        x'.encoder x.keeper x'.keeper x.log told line line' ended
    pub keeps : KeepsOn ended x x'
    pub goes : GoesOnOrEnds closes (is_over line'.left ended) line.sent line' ended told x x' went

  -- So where one is open, and else nothing is done.
  abbrev pub ReadsOpen : Option (OpenLine I O) → (x x' : OnAir K M I O) → Went → Type 0
  ReadsOpen None x x' went = (x' ≡ x) × (went ≡ Ok tt)
  ReadsOpen (Some line) x x' went = ReadsLine line x x' went

-- ---- A group is due.

-- A group goes out where the run goes on, and else nothing does.
abbrev pub SendsIf : {M : Type 0} → (sends : M → Group → M → Type 0) → Went → Group → (m m' : M) → Type 0
SendsIf sends (Ok done) group m m' = sends m group m'
SendsIf sends (Err stop) group m m' = m' ≡ m

module _ {K M I O : Type 0} (most room : ℕ) (leaves : K → Kept Store → Type 0) (is_clean : K → Type 0)
    (saves fails : K → Kept Store → K → Type 0) (sends : M → Group → M → Type 0) where
  -- A group that waited in the store was taken, and the encoder saved as it is without that; or the save failed. What a
  -- crash may leave is that encoder; where the save failed it may be the one before.
  pub record KeepsTaken (x x' : OnAir K M I O) (went : Went) : Type 0 where
    pub saved : (saves x.keeper (kept_of x'.encoder) x'.keeper × (went ≡ Ok tt))
        ⊎ (fails x.keeper (kept_of x'.encoder) x'.keeper × (went ≡ Err StateFailed))
    pub settled : went ≡ Ok tt → is_clean x'.keeper → Settled (leaves x'.keeper) x'.encoder
    pub either : Settled (leaves x.keeper) x.encoder → is_clean x'.keeper → (left : Kept Store) → leaves x'.keeper left
        → (left ≡ kept_of x.encoder) ⊎ (left ≡ kept_of x'.encoder)
    pub clean : is_clean x'.keeper → is_clean x.keeper

  -- It was so where the group is one that waited, and else nothing was saved.
  abbrev pub KeepsIf : (queued : Bool) → (x x' : OnAir K M I O) → Went → Type 0
  KeepsIf true x x' went = KeepsTaken x x' went
  KeepsIf false x x' went = (x'.keeper ≡ x.keeper) × (went ≡ Ok tt)

  -- The next group of the store is on the air: where it waited it is taken and that is saved, and then it goes out,
  -- once.
  abbrev pub Airs : (x x' : OnAir K M I O) → Went → Type 0
  Airs x x' went =
      KeepsIf (is_queued x.encoder.value x.carousel) x x' went
      × SendsIf sends went (aired x.encoder.value x.carousel).0 x.moments x'.moments
      × (x' ≡ record x {
        encoder = record x.encoder { value = (aired x.encoder.value x.carousel).1 };
        keeper = x'.keeper;
        moments = x'.moments;
        carousel = (aired x.encoder.value x.carousel).2;
      })

-- ---- Moment after moment.

-- The two ends of the connection that is open are given back, if one is.
abbrev pub HangsUp : {K M I O : Type 0} → (closes : M → I → O → M → Type 0) → Option (OpenLine I O)
    → (x x' : OnAir K M I O) → Type 0
HangsUp closes None x x' = x' ≡ x
HangsUp closes (Some line) x x' =
    closes x.moments line.input line.output x'.moments × (x' ≡ record x { moments = x'.moments; line = None })

-- The store was told, where that is asked for, and nothing else changed.
abbrev pub TellsOnly : {K M I O : Type 0} → (asked : Bool) → (x x' : OnAir K M I O) → Went → Type 0
TellsOnly asked x x' end =
    TellsStore asked x.encoder.value x.log x'.log end × (x' ≡ record x { log = x'.log })

module _ {K M I O : Type 0} (most room : ℕ) (leaves : K → Kept Store → Type 0) (is_clean : K → Type 0)
    (saves fails : K → Kept Store → K → Type 0) (waits : M → Bool → Moment I O → M → Type 0)
    (closes : M → I → O → M → Type 0) (sends : M → Group → M → Type 0) (remaining : I → Option (List ℕ))
    (contents : O → Option (List ℕ)) (turns : ℕ) where
  -- What is done at a moment.
  abbrev pub Does : Moment I O → (x x' : OnAir K M I O) → Went → Type 0
  Does (Connected input output) x x' went = Connects closes turns x.line input output x x' went
  Does Readable x x' went = ReadsOpen most room leaves is_clean saves fails closes remaining contents x.line x x' went
  Does Due x x' went = Airs most room leaves is_clean saves fails sends x x' went
  Does Over x x' went = (x' ≡ x) × (went ≡ Err (Run run.Listening))

  -- It waited, once, and did what the moment that came asks for, and nothing else.
  abbrev pub DoesNext : (x x' : OnAir K M I O) → Went → Type 0
  DoesNext x x' went =
      (moment : Moment I O) × (between : M) × waits x.moments (is_some x.line) moment between
      × Does moment (record x { moments = between }) x' went

  -- So many moments, one after another, each from where the one before ended, and the run goes on: each time some
  -- connection was left to be served.
  abbrev pub GoesOnFor : (many : ℕ) → (x x' : OnAir K M I O) → Type 0
  GoesOnFor zero x x' = x' ≡ x
  GoesOnFor (suc n) x x' = (y : OnAir K M I O) × GoesOnFor n x y × (0 < y.left) × DoesNext y x' (Ok tt)

  -- The end: all connections were served; or the run stopped at a moment. Or there were 2^63 moments, and it waits for
  -- no more.
  abbrev pub Ends : (many : ℕ) → (x x' : OnAir K M I O) → Went → Type 0
  Ends many x x' went =
      ((x.left ≡ 0) × (x' ≡ x) × (went ≡ Ok tt))
      ⊎ ((stop : KeptStop) × (0 < x.left) × DoesNext x x' (Err stop) × (went ≡ Err stop))
      ⊎ ((many ≡ 2 ^ 63) × (x' ≡ x) × (went ≡ Err (Run run.Listening)))

  -- Moment after moment, up to the end.
  abbrev pub DoesAll : (x x' : OnAir K M I O) → Went → Type 0
  DoesAll x x' went = (many : ℕ) × (y : OnAir K M I O) × GoesOnFor many x y × Ends many y x' went

  -- All that, and then no connection is open.
  abbrev pub Serves : (x x' : OnAir K M I O) → Went → Type 0
  Serves x x' went = (y : OnAir K M I O) × DoesAll x y went × HangsUp closes y.line y x'

  -- A whole run: the store is told, where the log tells it first; then so many connections and the groups of the store;
  -- and then the store is told, where that is asked for; or it stopped before.
  abbrev pub RunsOnAir : (store : Bool) → (x x' : OnAir K M I O) → Went → Type 0
  RunsOnAir store = Then (λ x y. TellsOnly (tells_first x.log) x y) (Then Serves (TellsOnly store))

  -- ---- What a crash leaves.

  -- A save failed at the last moment. It was for a reply: this is what is to be kept of the encoder once some first
  -- bytes of what was read then were taken, and only replies to those were sent. Or it was for a group, which did not
  -- go out: it is the encoder before that was taken.
  pub record LastRead (x' : OnAir K M I O) (left : Kept Store) : Type 0 where
    pub before : OnAir K M I O
    pub told : Log
    pub line : OpenLine I O
    pub line' : OpenLine I O
    pub reads : ReadsOnce most room store_step leaves is_clean saves fails LogsEvent remaining contents before.encoder
        x'.encoder before.keeper x'.keeper before.log told line line' (Err kept.StateFailed)
    pub outlives : Outlives store_step before.encoder reads.read reads.sent left

  pub record LastTaken (x' : OnAir K M I O) (left : Kept Store) : Type 0 where
    pub before : OnAir K M I O
    pub queued : is_queued before.encoder.value before.carousel ≡ true
    pub taken : x'.encoder ≡ record before.encoder { value = (aired before.encoder.value before.carousel).1 }
    pub failed : fails before.keeper (kept_of x'.encoder) x'.keeper
    pub outlives : left ≡ kept_of before.encoder

  -- What a crash left after a run: the encoder as it is; or where a save failed at the last moment, as above.
  abbrev pub OutlivesRun : (x' : OnAir K M I O) → Kept Store → Type 0
  OutlivesRun x' left = (left ≡ kept_of x'.encoder) ⊎ LastRead x' left ⊎ LastTaken x' left
