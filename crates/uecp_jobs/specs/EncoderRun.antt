-- What the job `encoder` does, and how it ends (profile).
use Rattle.std.specs.Prelude.{◌≡◌, ◌⊎◌, ℕ, ◌+◌, ◌<◌, ◌≤◌, List, [], ◌∷◌, ◌++◌, codes, length, Option, None, Result, Ok}
use Rattle.std.specs.Prelude.{Err, MatchResult}
use Rattle.std.specs.Io.KnownBytes.{Appends}
use Rattle.rds_store.specs.Value.{Store}
use Rattle.rds_store.specs.Step.{step}
use Rattle.uecp_encoder.specs.State.{EncoderState}
use Rattle.uecp_encoder.specs.declared.serving.ServeFault.TheVariants.{ReadFailed, WriteFailed, TurnsSpent}
use Rattle.uecp_text.specs.declared.run_fault.RunFault.{RunFault}
use Rattle.uecp_text.specs.declared.run_fault.RunFault.TheVariants as run
use Rattle.uecp_text.specs.Digits.{decimal_word}
use Rattle.uecp_text.specs.Faults.{Fails, status_of, error_lines}
use Rattle.uecp_text.specs.Written.{Begins}
use Rattle.uecp_net.specs.Sessions.{Outcome, Sessions}
use Rattle.commands.specs.declared.job.Job.{Job}
use Rattle.commands.specs.declared.job.Job.TheVariants.{Encoder}
use Rattle.uecp_jobs.specs.Setups.{IsSetup, encoder_at_first}
use Rattle.uecp_jobs.specs.Jobs.{options}

-- The job is that of `encoder`.
abbrev pub IsEncoder : Job → Type 0
IsEncoder (Encoder site encoder sets services port connections turns) = Unit {0}
IsEncoder job = ⊥

-- ---- The lines.

-- what is said of how a connection ended
abbrev pub ending_words : Outcome → List ℕ
ending_words (Ok served) = codes " replies" ++ decimal_word served.replies
ending_words (Err ReadFailed) = codes " read failed"
ending_words (Err (WriteFailed w)) = codes " write failed" ++ decimal_word w
ending_words (Err TurnsSpent) = codes " turns spent"

-- the line of the connection of this number
abbrev pub connection_line : ℕ → Outcome → List ℕ
connection_line number outcome = codes "connection" ++ decimal_word number ++ ending_words outcome ++ codes "\n"

-- the lines of connections, the first of which has this number
abbrev pub connection_lines : ℕ → List Outcome → List ℕ
connection_lines number [] = []
connection_lines number (outcome ∷ outcomes) = connection_line number outcome ++ connection_lines (number + 1) outcomes

-- ---- What was served.
-- The options describe an encoder. It served as many connections as it should, one after another, each from the state
-- that the one before left, and the writer got the line of each.
abbrev pub ServedAll : {C I O : Type 0} → (opens : C → Option (I × O) → C → Type 0) → (closes : C → I → O → C → Type 0)
    → (remaining : I → Option (List ℕ)) → (contents : O → Option (List ℕ)) → Job → C → C
    → (held held' : Option (List ℕ)) → Type 0
ServedAll opens closes remaining contents (Encoder site encoder sets services port connections turns) c c' held held' =
    IsSetup (options site encoder sets services.items)
    × ((outcomes : List Outcome) × (e' : EncoderState Store) × (length outcomes ≡ connections)
    × Sessions step opens closes remaining contents turns (encoder_at_first (options site encoder sets services.items))
    c outcomes e' c'
    × Appends held held' (connection_lines 1 outcomes))
ServedAll opens closes remaining contents job c c' held held' = ⊥

-- The options describe an encoder. It served fewer connections, the writer got the line of each, and then there was no
-- connection to be had.
abbrev pub ServedFewer : {C I O : Type 0} → (opens : C → Option (I × O) → C → Type 0)
    → (closes : C → I → O → C → Type 0) → (remaining : I → Option (List ℕ)) → (contents : O → Option (List ℕ)) → Job → C
    → C → (held held' : Option (List ℕ)) → Type 0
ServedFewer {C} opens closes remaining contents (Encoder site encoder sets services port connections turns) c c' held
    held' =
    IsSetup (options site encoder sets services.items)
    × ((outcomes : List Outcome) × (e' : EncoderState Store) × (last : C) × (length outcomes < connections)
    × Sessions step opens closes remaining contents turns (encoder_at_first (options site encoder sets services.items))
    c outcomes e' last × opens last None c'
    × Appends held held' (connection_lines 1 outcomes))
ServedFewer opens closes remaining contents job c c' held held' = ⊥

-- An encoder served as many connections as it should, or fewer, one after another, and the writer got a beginning of
-- their lines.
abbrev pub ServedSome : {C I O : Type 0} → (opens : C → Option (I × O) → C → Type 0) → (closes : C → I → O → C → Type 0)
    → (remaining : I → Option (List ℕ)) → (contents : O → Option (List ℕ)) → Job → C → C
    → (held held' : Option (List ℕ)) → Type 0
ServedSome opens closes remaining contents (Encoder site encoder sets services port connections turns) c c' held held' =
    (outcomes : List Outcome) × (e' : EncoderState Store) × (length outcomes ≤ connections)
    × Sessions step opens closes remaining contents turns (encoder_at_first (options site encoder sets services.items))
    c outcomes e' c'
    × Begins held held' (connection_lines 1 outcomes)
ServedSome opens closes remaining contents job c c' held held' = ⊥

-- What was served, by the result: all connections; or fewer, where there was none to be had; or some, where memory or
-- writing failed.
abbrev pub Serves : {C I O : Type 0} → (opens : C → Option (I × O) → C → Type 0) → (closes : C → I → O → C → Type 0)
    → (remaining : I → Option (List ℕ)) → (contents : O → Option (List ℕ)) → Job → C → C
    → (held held' : Option (List ℕ)) → Result (Unit {0}) RunFault → Type 0
Serves opens closes remaining contents job c c' held held' result =
    MatchResult result
    (λ _. ServedAll opens closes remaining contents job c c' held held')
    (λ fault. ((fault ≡ run.Listening) × ServedFewer opens closes remaining contents job c c' held held')
    ⊎ (Fails fault × ServedSome opens closes remaining contents job c c' held held'))

-- Not all connections were served, or not all could be told.
pub record HasNotServedAll {C I O : Type 0} (opens : C → Option (I × O) → C → Type 0) (closes : C → I → O → C → Type 0)
    (remaining : I → Option (List ℕ)) (contents : O → Option (List ℕ)) (job : Job) (c c' : C)
    (held held' : Option (List ℕ)) (says : List ℕ → Type 0) : Type 0 where
  -- why: there was no connection to be had, or memory or writing failed
  pub fault : RunFault
  -- so fewer were served than should be, and each of them has its line; or some were, and the writer got a beginning of
  -- their lines
  pub serves : Serves opens closes remaining contents job c c' held held' (Err fault)
  -- and the fault was said
  pub said : says (error_lines fault)

-- What is left to say of connections of which nothing is known, where not all could be served or not all be told: the
-- writer got a beginning of the lines of as many connections as should be served, or fewer, and why it stopped was
-- said.
abbrev pub HasStopped : Job → (held held' : Option (List ℕ)) → (says : List ℕ → Type 0) → Type 0
HasStopped (Encoder site encoder sets services port connections turns) held held' says =
    (fault : RunFault) × (status_of fault ≡ 3) × ((outcomes : List Outcome) × (length outcomes ≤ connections)
    × Begins held held' (connection_lines 1 outcomes)) × says (error_lines fault)
HasStopped job held held' says = ⊥

-- What is left to say of connections of which nothing is known: the options describe an encoder, and the writer got the
-- lines of as many connections as it should serve.
abbrev pub HasServed : Job → (held held' : Option (List ℕ)) → Type 0
HasServed (Encoder site encoder sets services port connections turns) held held' =
    IsSetup (options site encoder sets services.items)
    × ((outcomes : List Outcome) × (length outcomes ≡ connections)
    × Appends held held' (connection_lines 1 outcomes))
HasServed job held held' = ⊥
