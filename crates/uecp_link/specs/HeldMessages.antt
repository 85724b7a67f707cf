-- What a server's fields keep of the messages that it holds; for proofs alone. Source: profile.
use Rattle.std.specs.Prelude.{◌≡◌, ◌≤◌, ℕ, ◌==◌, ◌||◌, Bool, false, List, [], ◌∷◌, length, map, if◌then◌else◌}
use Rattle.uecp_frame.specs.Frame.{spelling}
use Rattle.uecp_link.specs.Counters.{next_counter}
use Rattle.uecp_link.specs.Frames.{frame_under}
use Rattle.uecp_link.specs.Server.{Held}
use Rattle.uecp_link.specs.declared.held_message.HeldMessage.{HeldMessage}

-- A held message as a contract sees it: without its frame.
abbrev pub held_as : HeldMessage → Held
held_as h = record { counter = h.counter; message = h.message; marked = h.marked }

-- All of them so.
abbrev pub held_in : List HeldMessage → List Held
held_in hs = map held_as hs

-- The frames of those that are not marked, in order.
abbrev pub frames_among : List HeldMessage → List (List ℕ)
frames_among [] = []
frames_among (h ∷ hs) = if h.marked then frames_among hs else h.frame.items ∷ frames_among hs

-- The message under a counter is marked.
abbrev pub with_mark : ℕ → HeldMessage → HeldMessage
with_mark counter h = record h { marked = h.counter == counter || h.marked }

-- What is left when marked ones are let go, up to the first that is not.
abbrev pub left_of : List HeldMessage → List HeldMessage
left_of [] = []
left_of (h ∷ hs) = if h.marked then left_of hs else h ∷ hs

-- Whether the oldest is marked.
abbrev pub oldest_marked : List HeldMessage → Bool
oldest_marked [] = false
oldest_marked (h ∷ hs) = h.marked

-- Each frame is the spelling of its message under its counter.
abbrev pub AreSpelled : ℕ → List HeldMessage → Type 0
AreSpelled address [] = Unit {0}
AreSpelled address (h ∷ hs) = (h.frame.items ≡ spelling (frame_under address (h.counter, h.message)))
    × AreSpelled address hs

-- The counters go up by one, from FF to 01, and the newest message has the last.
abbrev pub AreInTurn : ℕ → List HeldMessage → Type 0
AreInTurn last [] = Unit {0}
AreInTurn last (h ∷ []) = h.counter ≡ last
AreInTurn last (h ∷ g ∷ hs) = (g.counter ≡ next_counter h.counter) × AreInTurn last (g ∷ hs)

-- Each counter is one of a numbered message: 01 to FF.
abbrev pub AreNumbered : List HeldMessage → Type 0
AreNumbered [] = Unit {0}
AreNumbered (h ∷ hs) = ((1 ≤ h.counter) × (h.counter ≤ 255)) × AreNumbered hs

-- What every server keeps of its messages: at most eight, each with its frame, numbered in turn, the oldest waiting.
pub record IsHolding (address last : ℕ) (held : List HeldMessage) : Type 0 where
  pub few : length held ≤ 8
  pub spelled : AreSpelled address held
  pub in_turn : AreInTurn last held
  pub oldest : oldest_marked held ≡ false
  pub numbered : AreNumbered held
