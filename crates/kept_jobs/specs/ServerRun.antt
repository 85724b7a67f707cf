-- Where runs with kept state stand, how they begin, what they send, and how they are told (profile).
use Rattle.std.specs.Prelude.{◌≡◌, ℕ, zero, suc, Bool, false, ◌||◌, not, List, [], ◌++◌, codes, length}
use Rattle.std.specs.Prelude.{Option, Ok, Err}
use Rattle.uecp_text.specs.Digits.{decimal_word}
use Rattle.uecp_link.specs.Server.{ServerState, idle_at}
use Rattle.uecp_net.specs.declared.sender.Limits.{Limits}
use Rattle.uecp_net.specs.Sending.{SenderOver, submitted_all}
use Rattle.uecp_jobs.specs.ServerRun.{unconnected}
use Rattle.uecp_net.specs.declared.saved.keep.Progress.{Progress}
use Rattle.uecp_net.specs.Keeping.{KeptServer, taking, IsKept}
use Rattle.uecp_net.specs.SavedSending.{Ended, SettlesKept, SendsKept, Outlives, OutlivesBatch, StaysKept}
use Rattle.kept_jobs.specs.Stops.{Went, stop_status, stop_lines}

-- ---- The lines.

-- how many messages were taken since the file was made, and how many of them wait
abbrev pub taken_line : (taken outstanding : ℕ) → List ℕ
taken_line taken outstanding =
    codes "taken" ++ decimal_word taken ++ codes " outstanding" ++ decimal_word outstanding ++ codes "\n"

-- how many messages are given up; nothing where there are none
abbrev pub given_up_line : (outstanding : ℕ) → List ℕ
given_up_line zero = []
given_up_line (suc n) = codes "given up" ++ decimal_word (suc n) ++ codes "\n"

-- ---- Where a run stands: what runs, a server or a sender that has it; where that is kept; how far it has come; and
-- what the writer holds.
pub record Standing (S K : Type 0) : Type 0 where
  pub runs : S
  pub keeper : K
  pub progress : Progress
  pub held : Option (List ℕ)

-- ---- How it begins.

-- the server that begins anew, and its progress
abbrev pub anew : ServerState → ServerState
anew s = idle_at s.address

-- Its progress then: the encoder is to be joined.
abbrev pub not_joined : Progress → Progress
not_joined progress = record progress { joined = false }

-- Whether the encoder is to be joined: where that is asked for, or it was not yet.
abbrev pub is_due : (join : Bool) → Progress → Bool
is_due join progress = join || not progress.joined

-- ---- What it sends.

module _ {C I O K : Type 0} (opens : C → Option (I × O) → C → Type 0) (closes : C → I → O → C → Type 0)
    (remaining : I → Option (List ℕ)) (contents : O → Option (List ℕ)) (leaves : K → KeptServer → Type 0)
    (is_clean : K → Type 0) (saves fails : K → KeptServer → K → Type 0) where
  -- The messages that waited were settled so, as `settle_kept` says.
  pub record SettlesOne (ended : Ended) (x x' : Standing (SenderOver C I O) K) : Type 0 where
    pub settles : SettlesKept opens closes remaining contents saves fails x.progress x.runs x'.runs x.keeper x'.keeper
        ended
    pub progress : x'.progress ≡ x.progress
    pub outlives : IsKept (leaves x.keeper) x.progress x.runs.sender.server → is_clean x'.keeper
        → (left : KeptServer) → leaves x'.keeper left
        → Outlives x.progress x.runs.sender.server x'.runs.sender.server left
    pub settled : is_clean x'.keeper → StaysKept (leaves x'.keeper) x'.progress x'.runs.sender.server ended
    pub clean : is_clean x'.keeper → is_clean x.keeper

  -- These messages were sent so, as `send_kept` says.
  pub record SendsOne (batch : List (List ℕ)) (ended : Ended) (x x' : Standing (SenderOver C I O) K) : Type 0 where
    pub sends : SendsKept opens closes remaining contents saves fails x'.progress (submitted_all x.runs batch) x'.runs
        x.keeper x'.keeper ended
    pub progress : x'.progress ≡ taking x.progress (length batch)
    pub outlives : IsKept (leaves x.keeper) x.progress x.runs.sender.server → is_clean x'.keeper
        → (left : KeptServer) → leaves x'.keeper left
        → OutlivesBatch x.progress x'.progress x.runs (submitted_all x.runs batch) x'.runs left
    pub settled : is_clean x'.keeper → StaysKept (leaves x'.keeper) x'.progress x'.runs.sender.server ended
    pub clean : is_clean x'.keeper → is_clean x.keeper

  -- ---- A whole run.

  -- A sender with no connection yet, which has this server.
  abbrev pub sending : (c : C) (loan : ℕ) → Limits → Standing ServerState K → Standing (SenderOver C I O) K
  sending c loan limits y = record {
    runs = unconnected c loan (record {
      server = y.runs;
      tries = limits.tries;
      turns = limits.turns;
      left = limits.reconnects;
      reconnect_silent = limits.reconnect_silent;
    });
    keeper = y.keeper;
    progress = y.progress;
    held = y.held;
  }

-- How a run that went so is told: nothing is said on standard error where it was done, and the status is 0; else why it
-- stopped was said, and the status is that of the stop.
abbrev pub IsTold : {E : Type 0} → (says : E → E → List ℕ → Type 0) → Went → (status : ℕ) → (told told' : E) → Type 0
IsTold says (Ok done) status told told' = (status ≡ 0) × (told' ≡ told)
IsTold says (Err stop) status told told' = (status ≡ stop_status stop) × says told told' (stop_lines stop)
