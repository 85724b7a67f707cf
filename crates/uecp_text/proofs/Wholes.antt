-- Runs over a whole input.
use Rattle.std.proofs.Common.{◌≡◌, ◌∙◌, ℕ, List, [], ◌++◌, Option, Result, Ok, Err, refl, ap, subst, inl, inr, true}
use Rattle.std.proofs.Common.{IsTrue}
use Rattle.std.specs.Io.KnownBytes.{Appends}
use Rattle.uecp_text.specs.declared.run_fault.RunFault.{RunFault}
use Rattle.uecp_text.specs.declared.run_fault.RunFault.TheVariants.{OutOfMemory, Writing}
use Rattle.uecp_text.specs.Input.{texts_of}
use Rattle.uecp_text.specs.Run.{Meaning, RunsOn, RunsInto, RunsWhole, IsInput}
use Rattle.uecp_text.specs.Written.{Kept, Adds, Writes, Begins}
use Rattle.uecp_text.proofs.Runs.{writes_then, writes_added, first_all}

-- a run that came to its end, and no memory for the closing lines
pub into_wanting : {V : Type 0} (meaning : Meaning V) (v v' : V) (closing : V → List ℕ) (before after : Kept)
    (input : List ℕ) →
    RunsOn meaning v (texts_of input) before (Ok tt) v' after
    → RunsInto meaning v closing input before (Err OutOfMemory) after
into_wanting meaning v v' closing before after input (lines, ran, writes) =
    inl (refl, (lines, first_all meaning v v' (texts_of input) lines ran, writes))

-- a run that came to its end, and the closing lines after it, which were taken into an empty output
pub into_closed : {V : Type 0} (meaning : Meaning V) (v v' : V) (closing : V → List ℕ)
    (before between after empty closed : Kept) (input : List ℕ) →
    RunsOn meaning v (texts_of input) before (Ok tt) v' between → empty.bytes ≡ [] → empty.is_whole ≡ true
    → Adds empty closed (closing v') → IsTrue closed.is_whole →
    after.bytes ≡ between.bytes ++ closed.bytes → after.is_whole ≡ between.is_whole
    → RunsInto meaning v closing input before (Ok tt) after
into_closed meaning v v' closing before between after empty closed input (lines, ran, writes) none whole adds is_whole
    added same =
    inr (
      lines ++ closing v',
      (v', lines, ran, refl),
      writes_then before between after lines (closing v') writes
          (writes_added empty closed between after (closing v') none whole (λ _. (is_whole, (adds is_whole).1)) added
          same),
    )

-- a run into a new output, which was written out or not
module _ {V : Type 0} (meaning : Meaning V) (v : V) (closing : V → List ℕ) (unread unread' held held' : Option (List ℕ))
    (before after : Kept) (input : List ℕ) (result : Result (Unit {0}) RunFault)
    (is_input : IsInput unread unread' input) (empty : before.bytes ≡ []) (is_whole : IsTrue before.is_whole)
    (ran : RunsInto meaning v closing input before result after) where
  -- what was added to the output is all that it holds
  holds : (lines : List ℕ) → Writes before after lines → after.bytes ≡ lines
  holds lines writes = (writes is_whole).1 ∙ ap (λ bytes. bytes ++ lines) empty

  pub whole_written : Appends held held' after.bytes → RunsWhole meaning v closing unread unread' held held' result
  whole_written appends = elim ran [
    | inl (is, (lines, some, writes)) ↦ inl (
      OutOfMemory,
      is,
      inr (input, is_input, (lines, some, subst (Appends held held') (holds lines writes) appends)),
    )
    | inr (lines, prints, writes) ↦ inr (
      input,
      lines,
      is_input,
      prints,
      subst (Appends held held') (holds lines writes) appends,
    )
  ]

  pub whole_begun : (fault : RunFault) → fault ≡ Writing → Begins held held' after.bytes
      → RunsWhole meaning v closing unread unread' held held' (Err fault)
  whole_begun fault is begins = inl (
    Writing,
    ap (λ (f : RunFault). let r : Result (Unit {0}) RunFault = Err f in r) is,
    inr (
      input,
      is_input,
      elim ran [
        | inl (out, (lines, some, writes)) ↦ (lines, inl some, subst (Begins held held') (holds lines writes) begins)
        | inr (lines, prints, writes) ↦ (
          lines,
          inr (result, prints),
          subst (Begins held held') (holds lines writes) begins,
        )
      ],
    ),
  )
