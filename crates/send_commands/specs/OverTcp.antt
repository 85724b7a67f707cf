-- The job `send` over TCP (profile).
use Rattle.std.specs.Prelude.{◌≡◌, ◌⊎◌, ℕ, ◌≤◌, ◌==◌, List, [], Option, Some, None, Result, Bool, true, false}
use Rattle.std.specs.Prelude.{if◌then◌else◌}
use Rattle.std.specs.Prelude.{is_some, option_map}
use Rattle.std.specs.Io.KnownBytes.{Appends, Keeps}
use Rattle.std.specs.String.{string_bytes}
use Rattle.uecp_text.specs.declared.run_fault.RunFault.TheVariants.{OutOfMemory}
use Rattle.uecp_text.specs.Faults.{error_lines}
use Rattle.notices.specs.Told.{Told, Says}
use Rattle.uecp_link.specs.Server.{ServerState}
use Rattle.uecp_net.specs.declared.saved.keep.Progress.{Progress}
use Rattle.uecp_net.specs.Keeping.{KeptServer}
use Rattle.uecp_net.specs.Tcp.{Dials, DialsAgain}
use Rattle.state_files.specs.declared.fault.StateFault.{StateFault}
use Rattle.line_feed.specs.Reading.{Reads, Looks, ReadsNoMore}
use Rattle.line_feed.specs.Reading.{unread as feed_unread}
use Rattle.live_edges.specs.Heard.{Heard}
use Rattle.live_edges.specs.Patience.{Dialled, OpensAtLast, GivesBack}
use Rattle.live_edges.specs.declared.patience.Patience.{Patience}
use Rattle.commands.specs.declared.send_options.SendOptions.{SendOptions}
use Rattle.send_commands.specs.declared.ledger.LedgerFault.{LedgerFault}
use Rattle.send_commands.specs.Passing.{Asks, Kept, PassesTo, Takes, TellsFault, not_kept_line}
use Rattle.send_commands.specs.Ended.{TellsEnd}
use Rattle.send_commands.specs.Job.{HasSentLive}
use Rattle.send_commands.specs.StationFile.{IsStationOf}

-- A limit of so many seconds; none where that is 0.
abbrev pub limit_of : (seconds : ℕ) → Option ℕ
limit_of seconds = if seconds == 0 then None else Some seconds

-- For how long the line is waited for: the longest pause between two tries, after how long it is given up, after how
-- long the encoder is told to be silent, and whether it is joined anew then.
abbrev pub patience_of : SendOptions → Patience
patience_of job = record {
  retry_every = job.retry_every;
  give_up = limit_of job.give_up;
  silent = job.silent;
  stop_when_silent = job.rejoin;
}

-- The host and the port of the job are dialled, with its limit of time, for as long as it says; so much was said
-- before.
abbrev pub DialsLive : SendOptions → (told : Option (List ℕ)) → Dialled Dials → Type 0
DialsLive job told dialled =
    dialled ≡ record {
      connect = record {
        host = string_bytes job.host;
        port = job.port;
        timeout = job.timeout;
        failed = None;
      };
      patience = patience_of job;
      told = told;
    }

-- The file of the job that keeps lines that are passed over could not be opened, and that was said.
pub record HasNoLedger (job : SendOptions) (said said' : Told) : Type 0 where
  pub path : List ℕ
  pub fault : LedgerFault
  pub is_path : option_map string_bytes job.pass_over ≡ Some path
  pub told : Says said said' (not_kept_line path fault)

-- The messages of the job's station could not be had, or there was no memory for the feed of its lines, or what keeps
-- those that are passed over could not be opened: nothing was taken or written, and no connection opened. Where the job
-- has no file for a station it is memory or that file alone, and that was said.
pub record HasNotBegun (job : SendOptions) (held held' : Option (List ℕ)) (said said' : Told) (status : ℕ) : Type
    0 where
  pub same : held' ≡ held
  pub at_least : 2 ≤ status
  pub at_most : status ≤ 3
  pub why : job.station ≡ None → (status ≡ 3) × (Says said said' (error_lines OutOfMemory) ⊎ HasNoLedger job said said')

-- Where the job has no file for a station, no message makes one, and nothing was said yet. Where it has one, these are
-- the messages of all lines of a file.
pub record IsBegun (job : SendOptions) (station : List (List ℕ)) (said begun : Told) : Type 0 where
  pub none : job.station ≡ None → (station ≡ []) × (begun ≡ said)
  pub all : is_some job.station ≡ true → (left : Option (List ℕ)) × IsStationOf job.region left station

-- A feed over an input of which so much is left, that was not read yet, with this to keep lines that are passed over.
abbrev pub begun_with : {A L : Type 0} → (arrival : A) → (left : Option (List ℕ)) → Option L → Kept (Reads A) L
begun_with arrival left ledger = record {
  feed = record { held = []; reader = record { left = left; ended = false; failed = false }; arrival = arrival };
  ledger = ledger;
  fault = None;
}

module _ {A I O K : Type 0} (answers : A → (milliseconds : Option ℕ) → Bool → A → Type 0)
    (opens : Dialled Dials → Option (I × O) → Dialled Dials → Type 0)
    (closes : Dialled Dials → I → O → Dialled Dials → Type 0) (remaining : I → Option (List ℕ))
    (contents : O → Option (List ℕ))
    (gives : (path : List ℕ) → ServerState → Progress → K → Type 0) (refuses : List ℕ → StateFault → Type 0)
    (ends : K → Result (Unit {0}) StateFault → Type 0) (leaves : K → KeptServer → Type 0) (is_clean : K → Type 0)
    (saves fails : K → KeptServer → K → Type 0) where
  -- The job was done with the lines of the input, of which so much was left, in a feed over it that was begun with
  -- this arrival and keeps those that are refused where the job has a file for them, and with the messages of the
  -- station, as `run_send` says, over connections to the job's host and port, from where this had been said; and then
  -- it was told why a line could not be kept, if so.
  abbrev pub HasSentOver : SendOptions → (arrival : A) → (told unread held held' : Option (List ℕ))
      → (said said' : Told) → (status : ℕ)
      → Type 0
  HasSentOver job arrival told unread held held' said said' status =
      ((station : List (List ℕ)) × (dialled : Dialled Dials) × (dialled' : Dialled Dials)
      × (ledger : Option (Option (List ℕ))) × (feed' : Kept (Reads A) (Option (List ℕ)))
      × (begun : Told) × (between : Told) × DialsLive job told dialled × IsBegun job station said begun
      × (is_some ledger ≡ is_some job.pass_over)
      × HasSentLive (λ p. feed_unread p.feed) (Takes (λ f answer line f'. ReadsNoMore f f')) (Asks (Looks answers))
      (PassesTo (λ l bytes l'. Appends l l' bytes) (λ l l'. Keeps l l'))
      opens closes remaining contents gives refuses ends leaves is_clean saves fails job station dialled
      dialled' (begun_with arrival unread ledger) feed' held held' begun between status
      × TellsFault (option_map string_bytes job.pass_over) feed'.fault between said')
      ⊎ HasNotBegun job held held' said said' status

-- So over TCP: each connection is dialled as the job says, and nothing more is known of it.
module _ {A J O K : Type 0} (answers : A → (milliseconds : Option ℕ) → Bool → A → Type 0)
    (remaining : J → Option (List ℕ)) (contents : O → Option (List ℕ))
    (gives : (path : List ℕ) → ServerState → Progress → K → Type 0) (refuses : List ℕ → StateFault → Type 0)
    (ends : K → Result (Unit {0}) StateFault → Type 0) (leaves : K → KeptServer → Type 0) (is_clean : K → Type 0)
    (saves fails : K → KeptServer → K → Type 0) where
  abbrev pub HasRunTcp : SendOptions → (arrival : A) → (told unread held held' : Option (List ℕ)) → (said said' : Told)
      → (status : ℕ)
      → Type 0
  HasRunTcp =
      HasSentOver {I = Heard J} {O = O} answers (λ d given d'. OpensAtLast DialsAgain d given d')
      (λ d input output d'. GivesBack (λ c _ _ c'. c' ≡ c) d input output d') (λ heard. remaining heard.reader) contents
      gives refuses ends leaves is_clean saves fails

  -- So; and then, in JSON, it was told with which status it ended, also where it had not begun.
  abbrev pub HasSentTcp : SendOptions → (arrival : A) → (told unread held held' : Option (List ℕ)) → (said said' : Told)
      → (status : ℕ)
      → Type 0
  HasSentTcp job arrival told unread held held' said said' status =
      (between : Option (List ℕ)) × (run : Told)
      × HasRunTcp job arrival told unread held between said run status
      × TellsEnd job.form status between held' run said'
