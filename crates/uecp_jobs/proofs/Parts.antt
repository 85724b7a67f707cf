-- Runs of an interpreter whose texts speak of a part of its value.
use Rattle.std.proofs.Common.{◌≡◌, ℕ, List, [], ◌∷◌, ◌++◌, Option, None, Some, Result, Ok, Err, refl, ap, subst, ◌∙◌}
use Rattle.std.proofs.Common.{inl, inr}
use Rattle.uecp_text.specs.declared.run_fault.RunFault.{RunFault}
use Rattle.uecp_text.specs.Input.{texts_of}
use Rattle.uecp_text.specs.declared.run_fault.RunFault.TheVariants.{Writing, OutOfMemory}
use Rattle.uecp_text.specs.Run.{Outcome, Brings, Ends, Refuses, Meaning, Runs, RunsFirst, Prints, WritesSome}
use Rattle.uecp_text.specs.Run.{Breaks, RunsWhole}

module _ {V W F : Type 0} (meaning : Meaning V) (inner : F → Meaning W) (part : V → W) (flag : V → F)
    (by : (v : V) (text : List ℕ) (outcome : Outcome) (v' : V) → meaning v text outcome v'
    → inner (flag v) (part v) text outcome (part v') × (flag v' ≡ flag v)) where
  -- the part runs as its flag says, and the flag stays
  runs_part : (f : F) (v v' : V) (texts : List (ℕ × List ℕ)) (lines : List ℕ) (stop : Option RunFault)
      → flag v ≡ f → Runs meaning v texts lines stop v'
      → Runs (inner f) (part v) texts lines stop (part v') × (flag v' ≡ f)
  runs_part f v v' [] lines stop is_f (lines_are, none, same) =
      ((lines_are, none, ap part same), ap flag same ∙ is_f)
  runs_part f v v' ((number, text) ∷ texts) lines stop is_f ran = elim ran [
    | inl (first, rest, next, taken, lines_are, more) ↦
        let one = by v text _ next taken in
        let behind = runs_part f next v' texts rest stop (one.1 ∙ is_f) more in (
          inl (
            first,
            rest,
            part next,
            subst (λ f. inner f (part v) text (Brings first) (part next)) is_f one.0,
            lines_are,
            behind.0,
          ),
          behind.1,
        )
    | inr (inl (fault, refused, none, is)) ↦ let one = by v text _ v' refused in (
      inr (inl (fault, subst (λ f. inner f (part v) text (Refuses fault) (part v')) is_f one.0, none, is)),
      one.1 ∙ is_f,
    )
    | inr (inr (ended, is)) ↦ let one = by v text _ v' ended in
        (inr (inr (subst (λ f. inner f (part v) text (Ends lines) (part v')) is_f one.0, is)), one.1 ∙ is_f)
  ]

  -- what is printed is told by the part and the flag
  prints_part : (v : V) (closing : V → List ℕ) (told : F → W → List ℕ) (input : List ℕ)
      (result : Result (Unit {0}) RunFault) (written : List ℕ) →
      ((v' : V) → closing v' ≡ told (flag v') (part v')) → Prints meaning v closing input result written
      → Prints (inner (flag v)) (part v) (told (flag v)) input result written
  prints_part v closing told input (Ok u) written closes (v', lines, ran, is) =
      let inside = runs_part (flag v) v v' (texts_of input) lines None refl ran in
      (part v', lines, inside.0, is ∙ ap (λ l. lines ++ l) (closes v' ∙ ap (λ f. told f (part v')) inside.1))
  prints_part v closing told input (Err fault) written closes (v', ran) =
      (part v', (runs_part (flag v) v v' (texts_of input) written (Some fault) refl ran).0)

  -- some first texts
  first_part : (v : V) (texts : List (ℕ × List ℕ)) (lines : List ℕ) → RunsFirst meaning v texts lines
      → RunsFirst (inner (flag v)) (part v) texts lines
  first_part v texts lines (first, later, v', texts_are, ran) =
      (first, later, part v', texts_are, (runs_part (flag v) v v' first lines None refl ran).0)

  some_part : (v : V) (closing : V → List ℕ) (told : F → W → List ℕ) (input : List ℕ) (held held' : Option (List ℕ))
      (fault : RunFault) → ((v' : V) → closing v' ≡ told (flag v') (part v')) →
      WritesSome meaning v closing input held held' fault
      → WritesSome (inner (flag v)) (part v) (told (flag v)) input held held' fault
  some_part v closing told input held held' OutOfMemory closes (lines, first, wrote) =
      (lines, first_part v (texts_of input) lines first, wrote)
  some_part v closing told input held held' Writing closes (lines, up_to, begins) = (
    lines,
    elim up_to [
      | inl first ↦ inl (first_part v (texts_of input) lines first)
      | inr (result, prints) ↦ inr (result, prints_part v closing told input result lines closes prints)
    ],
    begins,
  )
  some_part v closing told input held held' fault closes breaks = absurd breaks

  breaks_part : (v : V) (closing : V → List ℕ) (told : F → W → List ℕ) (unread unread' held held' : Option (List ℕ))
      (fault : RunFault) → ((v' : V) → closing v' ≡ told (flag v') (part v')) →
      Breaks meaning v closing unread unread' held held' fault
      → Breaks (inner (flag v)) (part v) (told (flag v)) unread unread' held held' fault
  breaks_part v closing told unread unread' held held' fault closes breaks = elim breaks [
    | inl unwritten ↦ inl unwritten
    | inr (input, is_input, some) ↦ inr (input, is_input, some_part v closing told input held held' fault closes some)
  ]

  pub whole_part : (v : V) (closing : V → List ℕ) (told : F → W → List ℕ) (unread unread' held held' : Option (List ℕ))
      (result : Result (Unit {0}) RunFault) →
      ((v' : V) → closing v' ≡ told (flag v') (part v')) → RunsWhole meaning v closing unread unread' held held' result
      →
      RunsWhole (inner (flag v)) (part v) (told (flag v)) unread unread' held held' result
  whole_part v closing told unread unread' held held' result closes ran = elim ran [
    | inl (fault, is, breaks) ↦ inl (
      fault,
      is,
      breaks_part v closing told unread unread' held held' fault closes
          breaks,
    )
    | inr (input, written, is_input, prints, appends) ↦ inr
        (input, written, is_input, prints_part v closing told input result written closes prints, appends)
  ]
