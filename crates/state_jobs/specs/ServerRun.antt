-- What the job `server` does whose state is kept (profile).
use Rattle.std.specs.Prelude.{◌≡◌, ◌⊎◌, ℕ, ◌<◌, ◌^◌, Bool, true, false, List, [], length, Option, Err}
use Rattle.uecp_text.specs.declared.run_fault.RunFault.{RunFault}
use Rattle.uecp_text.specs.declared.run_fault.RunFault.TheVariants as run
use Rattle.uecp_text.specs.Input.{texts_of}
use Rattle.uecp_text.specs.Run.{IsInput, IsUnread}
use Rattle.uecp_link.specs.Server.{ServerState}
use Rattle.uecp_net.specs.declared.sender.Limits.{Limits}
use Rattle.uecp_net.specs.Keeping.{KeptServer}
use Rattle.uecp_jobs.specs.Messages.{messages_first, refusal_in}
use Rattle.uecp_jobs.specs.Batches.{batch_size}
use Rattle.kept_jobs.specs.declared.stop.KeptStop.TheVariants.{Run}
use Rattle.kept_jobs.specs.Stops.{Went}
use Rattle.kept_jobs.specs.ServerRun.{Standing}
use Rattle.line_batches.specs.declared.taking.After.TheVariants.{GoesOn}
use Rattle.sending.specs.declared.account.Account.TheVariants.{Batches}
use Rattle.sending.specs.declared.options.RunOptions.{RunOptions}
use Rattle.state_jobs.specs.Lists.{Listing, FromList, ended_by}
use Rattle.sending.specs.Run.{LivesFrom}

-- How such a server runs: it tells batch by batch, takes its encoder for a new one at no time, and has no station.
pub record IsOfServer (window : ℕ) (join : Bool) (limits : Limits) (options : RunOptions) : Type 0 where
  pub limits_are : options.limits ≡ limits
  pub is_size : options.size ≡ batch_size window
  pub joins : options.join ≡ join
  pub never_rejoins : options.rejoin ≡ false
  pub tells_batches : options.account ≡ Batches
  pub has_no_station : options.station.now ≡ []

module _ {C I O K : Type 0} (opens : C → Option (I × O) → C → Type 0) (closes : C → I → O → C → Type 0)
    (remaining : I → Option (List ℕ)) (contents : O → Option (List ℕ)) (leaves : K → KeptServer → Type 0)
    (is_clean : K → Type 0) (saves fails : K → KeptServer → K → Type 0) where
  -- A run was made from there with these messages, which ends behind them with this refusal, if there is one.
  abbrev pub SendsList : RunOptions → (messages : List (List ℕ)) → (refused : Option RunFault) → (c c' : C)
      → (x : Standing ServerState K) → (k' : K) → (held' : Option (List ℕ)) → Went → Type 0
  SendsList options messages refused c c' x k' held' went =
      (taken : Listing) × (applied : Bool)
      × LivesFrom FromList opens closes remaining contents leaves is_clean saves fails options c c' (record {
        sends = x;
        takes = record { left = messages; ends = ended_by refused };
        applied = true;
        unknown = 0;
        behind = GoesOn;
      }) k' held' taken applied went

  -- The input was read to its end, and a run was made with the messages of its lines, or with those before the first
  -- that is refused, at which it ends then: so few that none is left for want of turns. Or the input was not read to
  -- its end, or there was no memory for its messages, and then nothing was opened, saved or written.
  abbrev pub RunsServer : (window : ℕ) (join : Bool) → Limits → (unread unread' : Option (List ℕ)) → (c c' : C)
      → (x : Standing ServerState K) → (k' : K) → (held' : Option (List ℕ)) → Went → Type 0
  RunsServer window join limits unread unread' c c' x k' held' went =
      ((input : List ℕ) × (options : RunOptions) × IsInput unread unread' input × IsOfServer window join limits options
      × (length (messages_first (texts_of input)) < 2 ^ 59)
      × SendsList options (messages_first (texts_of input)) (refusal_in (texts_of input)) c c' x k' held' went)
      ⊎ ((fault : RunFault)
      × (IsUnread unread unread' fault ⊎ ((input : List ℕ) × IsInput unread unread' input × (fault ≡ run.OutOfMemory)))
      × (went ≡ Err (Run fault)) × (c' ≡ c) × (k' ≡ x.keeper) × (held' ≡ x.held))
