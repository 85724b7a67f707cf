-- A run over the texts of an input (profile).
use Rattle.std.specs.Prelude.{◌≡◌, ℕ, List, [], ◌∷◌, ◌++◌, Option, Some, None, Result, Err, ◌⊎◌, MatchResult, ◌≤◌}
use Rattle.std.specs.Prelude.{length}
use Rattle.std.specs.Io.KnownBytes.{Consumes, IsAtEnd, Appends}
use Rattle.uecp_text.specs.declared.text_fault.TextFault.{TextFault}
use Rattle.uecp_text.specs.declared.text_fault.TextFault.TheVariants as flaw
use Rattle.uecp_text.specs.declared.run_fault.RunFault.{RunFault}
use Rattle.uecp_text.specs.declared.run_fault.RunFault.TheVariants as run
use Rattle.uecp_text.specs.declared.interpreter.Taken.{Taken}
use Rattle.uecp_text.specs.declared.interpreter.Taken.TheVariants as taken
use Rattle.uecp_text.specs.Input.{texts_of}
use Rattle.uecp_text.specs.Written.{Kept, Writes, Begins}

-- What a line of input comes to, once the spaces at its ends and comments are left out: lines of output, with more
-- input to come or as the last; or a refusal.
pub data Outcome : Type 0 where
  -- it brings these lines of output, and the next text comes
  Brings : (lines : List ℕ) → Outcome
  -- it brings these lines of output, and the run ends there
  Ends : (lines : List ℕ) → Outcome
  -- it is refused for this
  Refuses : TextFault → Outcome

-- What texts mean to an interpreter: of a value and a text, what the text comes to, and the value that it leaves.
abbrev pub Meaning : Type 0 → Type 1
Meaning V = V → List ℕ → Outcome → V → Type 0

-- The run stops at the text of this number: it is refused, and brings no lines; or it brings its lines, and ends the
-- run. This says why, and this value is left.
abbrev pub StopsAt : {V : Type 0} → Meaning V → V → (number : ℕ) → (text lines : List ℕ) → Option RunFault → V → Type 0
StopsAt meaning v number text lines stop v' =
    ((refusal : TextFault) × meaning v text (Refuses refusal) v' × (lines ≡ [])
    × (stop ≡ Some (run.Text number refusal)))
    ⊎ (meaning v text (Ends lines) v' × (stop ≡ Some run.Outstanding))

-- The texts are taken one after another, up to the first at which the run stops, if there is one: they bring these
-- lines in all, and leave this value; and this says why the run stopped.
abbrev pub Runs : {V : Type 0} → Meaning V → V → List (ℕ × List ℕ) → List ℕ → Option RunFault → V → Type 0
Runs meaning v [] lines stop v' = (lines ≡ []) × (stop ≡ None) × (v' ≡ v)
Runs {V} meaning v ((number, text) ∷ texts) lines stop v' =
    ((first : List ℕ) × (rest : List ℕ) × (next : V) × meaning v text (Brings first) next × (lines ≡ first ++ rest)
    × Runs meaning next texts rest stop v')
    ⊎ StopsAt meaning v number text lines stop v'

-- The fault of a run where the line of this number has this fault: want of memory is not the line's.
abbrev pub fault_at : ℕ → TextFault → RunFault
fault_at number flaw.OutOfMemory = run.OutOfMemory
fault_at number fault = run.Text number fault

-- What a text that was taken comes to, by whether the run goes on after it.
abbrev pub outcome_of : Taken → List ℕ → Outcome
outcome_of taken.GoesOn lines = Brings lines
outcome_of taken.Ends lines = Ends lines

-- One text was taken: what it brings was added to the output, or it was refused for its fault and nothing was added; or
-- memory was wanting.
abbrev pub Takes : {V : Type 0} → Meaning V → V → List ℕ → Kept → Result Taken TextFault → V → Kept → Type 0
Takes meaning v text before result v' after =
    MatchResult result
    (λ taken. (lines : List ℕ) × meaning v text (outcome_of taken lines) v' × Writes before after lines)
    (λ fault. (fault ≡ flaw.OutOfMemory) ⊎ (meaning v text (Refuses fault) v' × Writes before after []))

-- What the text of a line brings, if there is one, was added to the lines, and where the run stops there the result
-- says why; or memory was wanting, and nothing is said of the lines.
abbrev pub TakesLine : {V : Type 0} → Meaning V → V → List (ℕ × List ℕ) → Kept → Result (Unit {0}) RunFault → V → Kept
    → Type 0
TakesLine meaning v texts before result v' after =
    MatchResult result
    (λ _. (lines : List ℕ) × Runs meaning v texts lines None v' × Writes before after lines)
    (λ fault. (fault ≡ run.OutOfMemory) ⊎ ((lines : List ℕ) × Runs meaning v texts lines (Some fault) v'
    × Writes before after lines))

-- Some first texts of these, or all, were taken one after another, and bring these lines.
abbrev pub RunsFirst : {V : Type 0} → Meaning V → V → List (ℕ × List ℕ) → List ℕ → Type 0
RunsFirst {V} meaning v texts lines = (first : List (ℕ × List ℕ)) × (later : List (ℕ × List ℕ)) × (v' : V)
    × (texts ≡ first ++ later) × Runs meaning v first lines None v'

-- The texts were taken: what they bring was added to the output, up to the one at which the run stops, if there is one,
-- and the result says why; or memory was wanting, and what was added is what some first texts bring.
abbrev pub RunsOn : {V : Type 0} → Meaning V → V → List (ℕ × List ℕ) → Kept → Result (Unit {0}) RunFault → V → Kept
    → Type 0
RunsOn meaning v texts before result v' after =
    MatchResult result
    (λ _. (lines : List ℕ) × Runs meaning v texts lines None v' × Writes before after lines)
    (λ fault. ((fault ≡ run.OutOfMemory) × ((lines : List ℕ) × RunsFirst meaning v texts lines
    × Writes before after lines)) ⊎ ((lines : List ℕ) × Runs meaning v texts lines (Some fault) v'
    × Writes before after lines))

-- The whole input: all that the reader had left, as far as it tells, at most 1,048,576 bytes.
abbrev pub IsInput : (unread unread' : Option (List ℕ)) → List ℕ → Type 0
IsInput unread unread' input = Consumes unread unread' input × IsAtEnd unread' × (length input ≤ 1048576)

-- What is written of an input: the lines that its texts bring, and where the run stops at none the closing lines of the
-- value that is left; the result says why the run stopped.
abbrev pub Prints : {V : Type 0} → Meaning V → V → (closing : V → List ℕ) → List ℕ → Result (Unit {0}) RunFault → List ℕ
    → Type 0
Prints {V} meaning v closing input result written =
    MatchResult result
    (λ _. (v' : V) × (lines : List ℕ) × Runs meaning v (texts_of input) lines None v' × (written ≡ lines ++ closing v'))
    (λ fault. (v' : V) × Runs meaning v (texts_of input) written (Some fault) v')

-- Reading was given up for this, after these bytes: there is more to read than the limit, or a read failed, or memory
-- was wanting.
abbrev pub StopsReading : RunFault → (read : List ℕ) → Type 0
StopsReading run.TooLong read = length read ≡ 1048577
StopsReading run.Reading read = Unit {0}
StopsReading run.OutOfMemory read = Unit {0}
StopsReading fault read = ⊥

-- The input was not read to its end, for this.
abbrev pub IsUnread : (unread unread' : Option (List ℕ)) → RunFault → Type 0
IsUnread unread unread' fault = (read : List ℕ) × Consumes unread unread' read × StopsReading fault read

-- What a writer got of an input whose run failed for this: where memory was wanting, all that some first texts bring;
-- where writing failed, a beginning of that or of what is written of the input.
abbrev pub WritesSome : {V : Type 0} → Meaning V → V → (closing : V → List ℕ) → List ℕ → (held held' : Option (List ℕ))
    → RunFault → Type 0
WritesSome meaning v closing input held held' run.OutOfMemory =
    (lines : List ℕ) × RunsFirst meaning v (texts_of input) lines × Appends held held' lines
WritesSome meaning v closing input held held' run.Writing =
    (lines : List ℕ) × (RunsFirst meaning v (texts_of input) lines
    ⊎ ((result : Result (Unit {0}) RunFault) × Prints meaning v closing input result lines))
    × Begins held held' lines
WritesSome meaning v closing input held held' fault = ⊥

-- A run over all that the reader had left failed for this: the input was not read to its end, and nothing was written;
-- or it was, and what was written is a beginning of what is written of it.
abbrev pub Breaks : {V : Type 0} → Meaning V → V → (closing : V → List ℕ) → (unread unread' : Option (List ℕ))
    → (held held' : Option (List ℕ)) → RunFault → Type 0
Breaks meaning v closing unread unread' held held' fault =
    (IsUnread unread unread' fault × (held' ≡ held))
    ⊎ ((input : List ℕ) × IsInput unread unread' input × WritesSome meaning v closing input held held' fault)

-- A run over an input added what is written of it to the output; or memory was wanting, and what was added is what some
-- first texts bring.
abbrev pub RunsInto : {V : Type 0} → Meaning V → V → (closing : V → List ℕ) → List ℕ → Kept → Result (Unit {0}) RunFault
    → Kept → Type 0
RunsInto meaning v closing input before result after =
    ((result ≡ Err run.OutOfMemory) × ((lines : List ℕ) × RunsFirst meaning v (texts_of input) lines
    × Writes before after lines))
    ⊎ ((written : List ℕ) × Prints meaning v closing input result written × Writes before after written)

-- The writer got what is written of all that the reader had left, as far as both tell. Or the run failed.
abbrev pub RunsWhole : {V : Type 0} → Meaning V → V → (closing : V → List ℕ) → (unread unread' : Option (List ℕ))
    → (held held' : Option (List ℕ)) → Result (Unit {0}) RunFault → Type 0
RunsWhole meaning v closing unread unread' held held' result =
    ((fault : RunFault) × (result ≡ Err fault) × Breaks meaning v closing unread unread' held held' fault)
    ⊎ ((input : List ℕ) × (written : List ℕ) × IsInput unread unread' input
    × Prints meaning v closing input result written × Appends held held' written)
