-- What a server does with its messages, batch by batch, and what is said of them; a reader has to believe it (profile).
use Rattle.std.specs.Prelude.{◌≡◌, ◌≢◌, ◌⊎◌, ℕ, ◌-◌, ◌≤◌, zero, suc, min, max, List, [], ◌∷◌, ◌++◌, codes, length, take}
use Rattle.std.specs.Prelude.{drop, Option, Result, Ok, Err}
use Rattle.std.specs.Io.KnownBytes.{Appends}
use Rattle.uecp_elements.specs.declared.code.Code.{Code}
use Rattle.uecp_elements.specs.Codes.{byte_of}
use Rattle.uecp_text.specs.declared.run_fault.RunFault.{RunFault}
use Rattle.uecp_text.specs.declared.run_fault.RunFault.TheVariants as run
use Rattle.uecp_text.specs.Digits.{byte_word, decimal_word}
use Rattle.uecp_text.specs.Written.{Begins}
use Rattle.uecp_net.specs.declared.sender.Outstanding.{Outstanding}
use Rattle.uecp_net.specs.declared.sender.Settled.{Settled}
use Rattle.uecp_net.specs.declared.sender.Outstanding.TheVariants.{TriesSpent, ConnectionFailed}
use Rattle.uecp_net.specs.Sending.{SenderOver, Marks, Delivers, AreTold, AreFreed, StillWait, submitted_all}

-- ---- The lines.

-- what is said of a message that was acknowledged with this code in so many tries
abbrev pub acknowledged_line : Code → ℕ → List ℕ
acknowledged_line code tries = codes "acknowledged" ++ byte_word (byte_of code) ++ codes " tries" ++ decimal_word tries
    ++ codes "\n"

-- the lines of the messages of a batch, which were acknowledged with these codes, all in so many tries
abbrev pub batch_lines : List Code → ℕ → List ℕ
batch_lines [] tries = []
batch_lines (code ∷ told) tries = acknowledged_line code tries ++ batch_lines told tries

-- The fault of a run whose messages are outstanding for this reason.
abbrev pub fault_of : Outstanding → RunFault
fault_of TriesSpent = run.Outstanding
fault_of ConnectionFailed = run.Connection

-- ---- One batch.

-- How many messages a batch has at most: as many as the window says, but 1 where it says 0, and 8 where it says more.
abbrev pub batch_size : ℕ → ℕ
batch_size window = min 8 (max 1 window)

-- The messages of a batch were submitted and sent, and all are acknowledged: each with its code, in so many tries of
-- the last connection, and the server is idle again.
pub record Acknowledges {C I O : Type 0} (opens : C → Option (I × O) → C → Type 0) (closes : C → I → O → C → Type 0)
    (remaining : I → Option (List ℕ)) (contents : O → Option (List ℕ)) (s : SenderOver C I O) (batch : List (List ℕ))
    (told : List Code) (tries : ℕ) (s' : SenderOver C I O) : Type 0 where
  pub ended : ℕ
  pub marks : Marks
  pub delivers : Delivers opens closes remaining contents ended ConnectionFailed (submitted_all s batch) s' [] marks
      (Ok tries)
  pub are_told : AreTold (submitted_all s batch).sender.server marks told
  pub freed : AreFreed (submitted_all s batch).sender.server s'.sender.server
  pub all : length told ≡ length batch
  pub some : 1 ≤ tries
  pub most : tries ≤ s.sender.tries
  pub stays : s'.sender.tries ≡ s.sender.tries

-- The messages of a batch were submitted and sent, and are outstanding for this reason.
pub record GivesUp {C I O : Type 0} (opens : C → Option (I × O) → C → Type 0) (closes : C → I → O → C → Type 0)
    (remaining : I → Option (List ℕ)) (contents : O → Option (List ℕ)) (s : SenderOver C I O) (batch : List (List ℕ))
    (reason : Outstanding) (s' : SenderOver C I O) : Type 0 where
  pub ended : ℕ
  pub marks : Marks
  pub delivers : Delivers opens closes remaining contents ended ConnectionFailed (submitted_all s batch) s' [] marks
      (Err reason)
  pub wait : StillWait (submitted_all s batch).sender.server s'.sender.server

-- The writer got these lines, and then the result is that. Or memory or writing failed: it got a beginning of them.
abbrev pub Tells : (lines : List ℕ) → (then : Result (Unit {0}) RunFault) → (held held' : Option (List ℕ))
    → Result (Unit {0}) RunFault → Type 0
Tells lines then held held' result =
    (Appends held held' lines × (result ≡ then)) ⊎ (Begins held held' lines
    × ((result ≡ Err run.Writing) ⊎ (result ≡ Err run.OutOfMemory)))

-- One batch: it was sent, and then the writer got the line of each of its messages where they are acknowledged, and
-- else the line `outstanding`.
abbrev pub SendsBatch : {C I O : Type 0} → (opens : C → Option (I × O) → C → Type 0) → (closes : C → I → O → C → Type 0)
    → (remaining : I → Option (List ℕ)) → (contents : O → Option (List ℕ)) → (s : SenderOver C I O)
    → (batch : List (List ℕ)) → (held held' : Option (List ℕ)) → Result (Unit {0}) RunFault → (s' : SenderOver C I O)
    → Type 0
SendsBatch opens closes remaining contents s batch held held' result s' =
    ((told : List Code) × (tries : ℕ) × Acknowledges opens closes remaining contents s batch told tries s'
    × Tells (batch_lines told tries) (Ok tt) held held' result)
    ⊎ ((reason : Outstanding) × GivesUp opens closes remaining contents s batch reason s'
    × Tells (codes "outstanding\n") (Err (fault_of reason)) held held' result)

-- what is said of a batch that was settled so (private)
abbrev pub settled_lines : Result Settled Outstanding → List ℕ
settled_lines (Ok settled) = batch_lines settled.codes.items settled.tries
settled_lines (Err reason) = codes "outstanding\n"

-- how a run ends at a batch that was settled so, or that it goes on (private)
abbrev pub ended_by : Result Settled Outstanding → Result (Unit {0}) RunFault
ended_by (Ok settled) = Ok tt
ended_by (Err reason) = Err (fault_of reason)

-- ---- One batch after another.

-- The messages in so many batches of this size, of which the last may be smaller: each batch is sent, and its lines are
-- written, before the next one is submitted, up to one that is outstanding or whose lines could not be written whole,
-- if there is one. Each batch begins where the one before ended, with the sender as that left it and the writer too, so
-- each message is sent once, and nothing else is opened, sent or written.
abbrev pub SendsOut : {C I O : Type 0} → (opens : C → Option (I × O) → C → Type 0) → (closes : C → I → O → C → Type 0)
    → (remaining : I → Option (List ℕ)) → (contents : O → Option (List ℕ)) → (size batches : ℕ) → (s : SenderOver C I O)
    → (messages : List (List ℕ)) → (held held' : Option (List ℕ)) → Result (Unit {0}) RunFault → (s' : SenderOver C I O)
    → Type 0
SendsOut opens closes remaining contents size zero s messages held held' result s' =
    (messages ≡ []) × (held' ≡ held) × (result ≡ Ok tt) × (s' ≡ s)
SendsOut {C} {I} {O} opens closes remaining contents size (suc n) s messages held held' result s' =
    (messages ≢ [])
    × (((next : SenderOver C I O) × (between : Option (List ℕ))
    × SendsBatch opens closes remaining contents s (take size messages) held between (Ok tt) next
    × SendsOut opens closes remaining contents size n next (drop size messages) between held' result s')
    ⊎ ((fault : RunFault) × SendsBatch opens closes remaining contents s (take size messages) held held' (Err fault) s'
    × (result ≡ Err fault) × (n ≡ 0)))

-- ---- What is left to say of that where nothing is known of connections.

-- So many messages were acknowledged in batches of this size, of which the last may be smaller: the codes of each
-- batch, and its number of tries, which all its messages share.
abbrev pub AreBatches : (size tries : ℕ) → (messages : ℕ) → List (List Code × ℕ) → Type 0
AreBatches size tries messages [] = messages ≡ 0
AreBatches size tries messages ((told, n) ∷ later) =
    (1 ≤ messages) × (length told ≡ min size messages) × (1 ≤ n) × (n ≤ tries)
    × AreBatches size tries (messages - length told) later

-- the lines of these batches, one for each message, in order
abbrev pub lines_of_batches : List (List Code × ℕ) → List ℕ
lines_of_batches [] = []
lines_of_batches ((told, tries) ∷ later) = batch_lines told tries ++ lines_of_batches later
