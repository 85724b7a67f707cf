-- What the job `send` does, and how it ends (profile).
use Rattle.std.specs.Prelude.{◌≡◌, ◌⊎◌, ℕ, ◌≤◌, ◌^◌, ◌-◌, List, Option, Some, None, Result, Bool, true, false}
use Rattle.std.specs.Prelude.{option_map}
use Rattle.std.specs.String.{string_bytes}
use Rattle.uecp_text.specs.Faults.{error_lines}
use Rattle.uecp_text.specs.declared.run_fault.RunFault.TheVariants as run
use Rattle.notices.specs.Told.{Told, Says}
use Rattle.uecp_link.specs.Server.{ServerState, idle_at}
use Rattle.uecp_jobs.specs.Setups.{IsOneEncoder, address_of}
use Rattle.uecp_net.specs.declared.saved.keep.Progress.{Progress}
use Rattle.uecp_net.specs.Keeping.{KeptServer}
use Rattle.state_files.specs.declared.fault.StateFault.{StateFault}
use Rattle.uecp_encoder.specs.declared.keep.NotSaved.{NotSaved}
use Rattle.sending.specs.declared.options.LiveOptions.{LiveOptions}
use Rattle.line_feed.specs.declared.feed.Next.{Next}
use Rattle.line_feed.specs.declared.feed_fault.FeedFault.{FeedFault}
use Rattle.line_feed.specs.declared.feed_fault.NotKept.{NotKept}
use Rattle.line_feed.specs.Lines.{Refusal}
use Rattle.sending.specs.Run.{Lives}
use Rattle.commands.specs.declared.send_options.SendOptions.{SendOptions}
use Rattle.commands.specs.declared.send_options.TitleOptions.{TitleOptions}
use Rattle.line_batches.specs.declared.intake.Input.{Input}
use Rattle.line_batches.specs.declared.intake.Input.TheVariants.{Phrases, Fitted, Titles as TitlesOf}
use Rattle.send_commands.specs.LiveIn.{LivesIn, HasNoState}

-- The numbers of a job that can be done.
pub record IsSendable (job : SendOptions) : Type 0 where
  pub some : 1 ≤ job.window
  pub most : job.window ≤ 8

-- Its lines are phrases with the names of its region; or titles, as its options have them. They are made to fit where
-- that is asked for.
abbrev pub IsInput : SendOptions → Input → Type 0
IsInput job (Phrases region) = (job.titles ≡ None) × (job.fit ≡ false) × (region ≡ job.region)
IsInput job (Fitted region) = (job.titles ≡ None) × (job.fit ≡ true) × (region ≡ job.region)
IsInput job (TitlesOf titles) =
    (options : TitleOptions) × (job.titles ≡ Some options) × (titles.prefix.now ≡ options.prefix.items)
    × (titles.service ≡ options.service) × (titles.fit ≡ job.fit)

-- The options of its run are those of the job; connections are made again as often as they can be counted, also where
-- one is silent.
pub record IsFor (job : SendOptions) (station : List (List ℕ)) (options : LiveOptions) : Type 0 where
  pub limits : options.limits ≡ record {
    tries = job.tries;
    turns = job.turns;
    reconnects = 2 ^ 32 - 1;
    reconnect_silent = true;
  }
  pub is_input : IsInput job options.reading.input
  pub is_size : options.reading.size ≡ job.window
  pub is_strict : options.reading.strict ≡ job.strict
  pub counts_behind : options.lines_before ≡ job.from_line - 1
  pub join : options.join ≡ job.join
  pub rejoin : options.rejoin ≡ job.rejoin
  pub form : options.form ≡ job.form
  pub sends_station : options.station.now ≡ station

-- The site and the encoder's number are not those of one encoder, and that was said.
abbrev pub IsOfNobody : SendOptions → (said said' : Told) → (status : ℕ) → Type 0
IsOfNobody job said said' status =
    (IsOneEncoder job.site job.encoder → ⊥) × (status ≡ 2) × Says said said' (error_lines run.Address)

module _ {D C I O : Type 0} (unread : D → Option (List ℕ))
    (takes : D → Result Next FeedFault → List ℕ → D → Type 0) (says : D → Bool → D → Type 0)
    (passes : D → Refusal → Result (Unit {0}) NotKept → D → Type 0)
    (opens : C → Option (I × O) → C → Type 0) (closes : C → I → O → C → Type 0)
    (remaining : I → Option (List ℕ)) (contents : O → Option (List ℕ)) where
  -- A run was made with no state, by a new server to the encoder, of which nothing was taken and which is not joined.
  -- What it would keep is kept nowhere.
  abbrev pub SendsTo : (address : ℕ) → LiveOptions → (c c' : C)
      → (feed feed' : D) → (held held' : Option (List ℕ)) → (said said' : Told) → (status : ℕ) → Type 0
  SendsTo address options c c' feed feed' held held' said said' status =
      (keeper : NotSaved) × (keeper' : NotSaved)
      × Lives unread takes says passes opens closes remaining contents (λ k left. Unit {0}) (λ k. ⊥)
      (λ k left k'. k' ≡ k)
      (λ k left k'. ⊥)
      options c c' (record {
        runs = idle_at address;
        keeper = keeper;
        progress = record { taken = 0; joined = false };
        held = held;
      }) keeper' held' feed feed' said said' status

  module _ {K : Type 0} (gives : (path : List ℕ) → ServerState → Progress → K → Type 0)
      (refuses : List ℕ → StateFault → Type 0) (ends : K → Result (Unit {0}) StateFault → Type 0)
      (leaves : K → KeptServer → Type 0) (is_clean : K → Type 0) (saves fails : K → KeptServer → K → Type 0) where
    -- A run was made from the state in the file of this path; or with no state.
    abbrev pub SendsFrom : (state : Option (List ℕ)) → (address : ℕ) → LiveOptions → (c c' : C)
        → (feed feed' : D) → (held held' : Option (List ℕ)) → (said said' : Told) → (status : ℕ) → Type 0
    SendsFrom (Some path) address options c c' feed feed' held held' said said' status =
        LivesIn unread takes says passes gives ends leaves is_clean saves fails opens closes remaining contents path
        address
        options c c' feed
        feed' held held' said said' status
        ⊎ (HasNoState gives refuses path said said' status × (feed' ≡ feed) × (held' ≡ held) × (c' ≡ c))
    SendsFrom None address options c c' feed feed' held held' said said' status =
        SendsTo address options c c' feed feed' held held' said said' status

    -- So for the options of the job and its encoder. Or the address is not that of one, and nothing was taken, opened
    -- or written.
    abbrev pub HasSentLive : SendOptions → (station : List (List ℕ)) → (c c' : C)
        → (feed feed' : D) → (held held' : Option (List ℕ)) → (said said' : Told) → (status : ℕ) → Type 0
    HasSentLive job station c c' feed feed' held held' said said' status =
        ((options : LiveOptions) × IsFor job station options × IsOneEncoder job.site job.encoder
        × SendsFrom (option_map string_bytes job.state) (address_of job.site job.encoder) options c c' feed feed'
        held held' said said' status)
        ⊎ (IsOfNobody job said said' status × (feed' ≡ feed) × (held' ≡ held) × (c' ≡ c))
