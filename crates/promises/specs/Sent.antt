-- How the messages of a station went out, by their numbers; a reader has to believe it. Source: profile.
use Rattle.std.specs.Prelude.{◌≡◌, ℕ, zero, suc, ◌+◌, ◌<◌, true, List, [], ◌∷◌, ◌++◌, length, map, slice_get, Option}
use Rattle.std.specs.Prelude.{Some, Ok}
use Rattle.std.specs.List.{list_all}
use Rattle.uecp_elements.specs.declared.code.Code.{Code}
use Rattle.uecp_elements.specs.declared.code.Code.TheVariants.{Applied}
use Rattle.uecp_link.specs.Counters.{counter_of}
use Rattle.uecp_link.specs.Kept.{last_counter}
use Rattle.uecp_link.specs.Server.{waiting}
use Rattle.uecp_link.specs.Window.{code_under}
use Rattle.uecp_net.specs.declared.sender.Outstanding.TheVariants.{ConnectionFailed}
use Rattle.uecp_net.specs.Sending.{SenderOver, Marks, Delivers, submitted_all}
use Rattle.uecp_net.specs.SavedJoining.{Joins}
use Rattle.sending.specs.Lines.{is_applied}

-- Messages from this number on, each under the counter of its number.
abbrev pub under_counters : (first : ℕ) → List (List ℕ) → List (ℕ × List ℕ)
under_counters first [] = []
under_counters first (m ∷ ms) = (counter_of first, m) ∷ under_counters (first + 1) ms

module _ {C I O : Type 0} (opens : C → Option (I × O) → C → Type 0) (closes : C → I → O → C → Type 0)
    (remaining : I → Option (List ℕ)) (contents : O → Option (List ℕ)) where
  -- A batch went out whose first message has this number. Its messages waited, and no other, each under its counter;
  -- over connections, as `Delivers` says, these marks were read; and each was told the code of the first mark with its
  -- counter.
  pub record GoesOut (first : ℕ) (batch : List (List ℕ)) (told : List Code) (s s' : SenderOver C I O) : Type 0 where
    pub ended : ℕ
    pub tries : ℕ
    pub marks : Marks
    pub waited : waiting (submitted_all s batch).sender.server ≡ under_counters first batch
    pub delivers : Delivers opens closes remaining contents ended ConnectionFailed (submitted_all s batch) s' [] marks
        (Ok tries)
    pub codes : map Some told ≡ map (λ w. code_under w.0 marks) (under_counters first batch)

  -- So many batches went out, one after another, each from where the one before ended: these messages, numbered from 0,
  -- and they were told these codes.
  abbrev pub GoOut : (batches : ℕ) → (messages : List (List ℕ)) → (told : List Code) → (s s' : SenderOver C I O)
      → Type 0
  GoOut zero messages told s s' = (messages ≡ []) × (told ≡ []) × (s' ≡ s)
  GoOut (suc n) messages told s s' =
      (before : List (List ℕ)) × (batch : List (List ℕ)) × (earlier : List Code) × (codes : List Code)
      × (y : SenderOver C I O) × GoOut n before earlier s y × GoesOut (length before) batch codes y s'
      × (messages ≡ before ++ batch) × (told ≡ earlier ++ codes)

  -- A pass was complete, and from there the station went out, all of it: each message was told a code, and none waits,
  -- and the next one will have the number behind it. And where all these codes say that it was applied, that of each
  -- number is 00.
  pub record IsOut (station : List (List ℕ)) (told : List Code) (s s' : SenderOver C I O) : Type 0 where
    pub begins : SenderOver C I O
    pub joins : Joins opens closes remaining contents s begins (Ok tt)
    pub batches : ℕ
    pub goes : GoOut batches station told begins s'
    pub each : length told ≡ length station
    pub none : s'.sender.server.held ≡ []
    pub next : s'.sender.server.last ≡ last_counter (length station)
    pub applied : list_all is_applied told ≡ true → (k : ℕ) → k < length station → slice_get told k ≡ Some Applied
