-- What a crash leaves of a server whose lines come as they like, however its run ended (profile).
use Rattle.std.specs.Prelude.{◌≡◌, ◌⊎◌, ℕ, ◌+◌, ◌≤◌, true, false, List, [], Option, Ok}
use Rattle.uecp_elements.specs.declared.code.Code.{Code}
use Rattle.uecp_link.specs.Server.{ServerState, idle_at}
use Rattle.uecp_net.specs.Sending.{SenderOver}
use Rattle.uecp_net.specs.declared.saved.keep.Progress.{Progress}
use Rattle.uecp_net.specs.Keeping.{KeptServer, kept_of}
use Rattle.uecp_net.specs.Laws.{Lives as Calls}
use Rattle.kept_jobs.specs.ServerRun.{is_due}
use Rattle.sending.specs.declared.options.LiveOptions.{LiveOptions}
use Rattle.sending.specs.Station.{MakesStation}

-- a new server that is not joined and holds nothing, where so many messages were taken
abbrev pub new_kept : (taken : ℕ) → KeptServer
new_kept taken = record { last = 0; held = []; taken = taken; joined = false }

-- A run began anew once so many messages were taken since its start: at the start, where the encoder was to be joined;
-- or later, where messages were outstanding and the encoder was taken for a new one.
abbrev pub BeganAnew : LiveOptions → (before : Progress) → (earlier : ℕ) → Type 0
BeganAnew options before earlier =
    ((is_due options.join before ≡ true) × (earlier ≡ 0)) ⊎ (options.rejoin ≡ true)

module _ {C I O K : Type 0} (opens : C → Option (I × O) → C → Type 0) (closes : C → I → O → C → Type 0)
    (remaining : I → Option (List ℕ)) (contents : O → Option (List ℕ)) (saves fails : K → KeptServer → K → Type 0)
    (options : LiveOptions) (before : Progress) (s : ServerState) where
  -- This is what is kept of a new server by which the encoder was joined and the station made, where so many messages
  -- were taken since the start of the run.
  abbrev pub IsMadeAnew : (earlier : ℕ) → KeptServer → Type 0
  IsMadeAnew earlier kept =
      (begun : SenderOver C I O) × (made : SenderOver C I O) × (told : List Code)
      × (begun.sender.server ≡ idle_at s.address)
      × MakesStation opens closes remaining contents options.reading.size options.station.now told begun made (Ok tt)
      × (kept ≡ kept_of (record { taken = before.taken + earlier; joined = true }) made.sender.server)

  -- This is what is kept of a server that may send messages: the server as it was; or a new one, where the run began
  -- anew, by which the encoder was joined and the station made.
  abbrev pub IsKeptAtFirst : (earlier : ℕ) → KeptServer → Type 0
  IsKeptAtFirst earlier kept =
      ((is_due options.join before ≡ false) × (earlier ≡ 0) × (kept ≡ kept_of before s))
      ⊎ (BeganAnew options before earlier × IsMadeAnew earlier kept)

  -- A crash left this of a server that could send messages once so many of a run were taken, and that then sent what
  -- waited, and some of the rest, in calls of `settle_kept` and `send_kept`, each from what the one before left. So the
  -- laws of those hold of it: of each message that waited or is taken, it waits still, or its acknowledgement came.
  pub record SentSome (messages : ℕ) (left : KeptServer) : Type 0 where
    pub earlier : ℕ
    pub first : KeptServer
    pub at_first : IsKeptAtFirst earlier first
    pub calls : ℕ
    pub lives : Calls opens closes remaining contents saves fails calls first left
    pub more : ℕ
    pub taken : left.taken ≡ before.taken + (earlier + more)
    pub most : earlier + more ≤ messages

  -- A crash left this of a run whose lines gave so many messages: the server as it was; or a new one that is not joined
  -- and holds nothing, where the run began anew; or one that sent some of the messages.
  abbrev pub OutlivesLive : (messages : ℕ) → KeptServer → Type 0
  OutlivesLive messages left =
      (left ≡ kept_of before s)
      ⊎ ((earlier : ℕ) × BeganAnew options before earlier × (earlier ≤ messages)
      × (left ≡ new_kept (before.taken + earlier)))
      ⊎ SentSome messages left
