-- Cases one after another.
use Rattle.std.proofs.Common.{◌≡◌, ℕ, ◌+◌, true, cond, List, [], ◌∷◌, length, Option, None, Result, Ok}
use Rattle.std.proofs.Common.{Err}
use Rattle.std.proofs.Common.{IfOk, IfErr, append-nil, arith, refl, ◌∙◌, ap, sym, subst, inl, inr}
use Rattle.std.specs.Io.KnownBytes.{Appends}
use Rattle.std.proofs.KnownBytes.{Appends-nil}
use Rattle.uecp_text.specs.declared.run_fault.RunFault.{RunFault}
use Rattle.uecp_text.specs.declared.run_fault.RunFault.TheVariants as run
use Rattle.uecp_text.specs.Faults.{status_of as fault_status}
use Rattle.conformance.specs.declared.case.Case.{Case}
use Rattle.conformance_command.specs.declared.went.Went.{Went}
use Rattle.conformance_command.specs.declared.way.Way.{Way}
use Rattle.conformance_command.specs.declared.tally.Tally.{Tally}
use Rattle.conformance_command.specs.Choosing.{is_chosen, chosen, counted, none_counted, tally_from, tally_of}
use Rattle.conformance_command.specs.Telling.{first_line, case_lines, bail_line, last_line}
use Rattle.conformance_command.specs.Conformance.{Standing, IsUntold, TellsLines, Runs, RunsAndTells, RunsCases}
use Rattle.conformance_command.specs.Conformance.{StopsAt}
use Rattle.conformance_command.specs.Conformance.{StopsAmong, RunsAll, BreaksOff}

pub empty_of : {X : Type 0} (xs : List X) → length xs ≡ 0 → xs ≡ []
empty_of [] none = refl
empty_of (x ∷ xs) none = absurd (omega (arith, none))

-- The first of the cases is run.
pub chosen_first : (only : Option (List ℕ)) (cases : List Case) (case : Case) (rest : List Case) → cases ≡ case ∷ rest
    → is_chosen only case ≡ true → chosen only cases ≡ case ∷ chosen only rest
chosen_first only cases case rest is picked =
    ap (chosen only) is ∙ ap (λ b. cond b (case ∷ chosen only rest) (chosen only rest)) picked

-- A line that could not be told ends a run with status 3.
pub untold_status : (fault : RunFault) → IsUntold fault → fault_status fault ≡ 3
untold_status fault (inl is) = ap fault_status is
untold_status fault (inr is) = ap fault_status is

module _ {C I O : Type 0} (opens : C → Option (I × O) → C → Type 0) (closes : C → I → O → C → Type 0)
    (remaining : I → Option (List ℕ)) (contents : O → Option (List ℕ)) (way : Way) where
  abbrev RunsHere : Case → Went → ℕ → List ℕ → C → C → Type 0
  RunsHere = Runs opens closes remaining contents way

  abbrev TellsHere : ℕ → Case → Went → Standing C → Standing C → Type 0
  TellsHere = RunsAndTells opens closes remaining contents way

  abbrev CasesHere : ℕ → List Case → List Went → Standing C → Standing C → Type 0
  CasesHere = RunsCases opens closes remaining contents way

  abbrev AtHere : ℕ → Case → RunFault → Standing C → Standing C → Type 0
  AtHere = StopsAt opens closes remaining contents way

  abbrev AmongHere : ℕ → List Case → RunFault → Standing C → Standing C → Type 0
  AmongHere = StopsAmong opens closes remaining contents way

  abbrev AllHere : List Case → List Went → Standing C → Standing C → Type 0
  AllHere = RunsAll opens closes remaining contents way

  abbrev BreaksHere : List Case → RunFault → Standing C → Standing C → Type 0
  BreaksHere = BreaksOff opens closes remaining contents way

  -- There was no memory for all that came of a case.
  pub not_heard : (number : ℕ) (case : Case) (went : Went) (left : ℕ) (came : List ℕ) (c c' : C)
      (held : Option (List ℕ)) → RunsHere case went left came c c'
      → AtHere number case run.OutOfMemory (record { connect = c; held = held }) (record { connect = c'; held = held })
  not_heard number case went left came c c' held runs =
      inr (inr (inl (
        went,
        left,
        came,
        runs,
        (
          [],
          case_lines way number case went left came,
          refl,
          Appends-nil held,
        ),
        inr refl,
      )))

  -- There was no connection to be had, and it was told or begun to be told.
  pub no_line : (number : ℕ) (case : Case) (c c' : C) (held held' : Option (List ℕ)) (r : Result (Unit {0}) RunFault)
      → opens c None c' → TellsLines (bail_line way.json) held held' r
      → AtHere number case run.Connection (record { connect = c; held = held }) (record { connect = c'; held = held' })
  no_line number case c c' held held' (Ok done) opened told =
      inl (refl, opened, (bail_line way.json, [], sym (append-nil (bail_line way.json)), told))
  no_line number case c c' held held' (Err fault) opened (begins, untold) = inl (refl, opened, begins)

  -- No case is left.
  pub none_run : (only : Option (List ℕ)) (number : ℕ) (cases : List Case) (x : Standing C) (t : Tally) → cases ≡ []
      → CasesHere number (chosen only cases) [] x x × (t ≡ tally_from t (chosen only cases) [])
  none_run only number cases x t is =
      subst (λ l. CasesHere number (chosen only l) [] x x × (t ≡ tally_from t (chosen only l) [])) (sym is) (refl, refl)

  -- The run stopped at the first case.
  pub first_stops : (only : Option (List ℕ)) (number : ℕ) (cases : List Case) (case : Case) (rest : List Case)
      (fault : RunFault) (x x' : Standing C) → cases ≡ case ∷ rest → is_chosen only case ≡ true
      → AtHere number case fault x x' → AmongHere number (chosen only cases) fault x x'
  first_stops only number cases case rest fault x x' is picked stops =
      subst (λ l. AmongHere number l fault x x') (sym (chosen_first only cases case rest is picked)) (inl stops)

  -- The first case was run, and the others.
  pub more_run : (only : Option (List ℕ)) (number : ℕ) (cases : List Case) (case : Case) (rest : List Case)
      (went : Went) (x y x' : Standing C) (t u t' : Tally) (r : Result (Unit {0}) RunFault) → cases ≡ case ∷ rest
      → is_chosen only case ≡ true → TellsHere number case went x y → u ≡ counted case.profile went t
      → IfOk r (λ _. (wents : List Went) × CasesHere (number + 1) (chosen only rest) wents y x'
      × (t' ≡ tally_from u (chosen only rest) wents))
      → IfOk r (λ _. (wents : List Went) × CasesHere number (chosen only cases) wents x x'
      × (t' ≡ tally_from t (chosen only cases) wents))
  more_run only number cases case rest went x y x' t u t' (Err fault) is picked tells counts ran = tt
  more_run only number cases case rest went x y x' t u t' (Ok done) is picked tells counts (wents, ran, tallied) =
      let split = sym (chosen_first only cases case rest is picked) in (
        went ∷ wents,
        subst (λ l. CasesHere number l (went ∷ wents) x x') split (y, tells, ran),
        tallied ∙ ap (λ v. tally_from v (chosen only rest) wents) counts
            ∙ ap (λ l. tally_from t l (went ∷ wents)) split,
      )

  -- The first case was run, and the run stopped at one of the others.
  pub more_stop : (only : Option (List ℕ)) (number : ℕ) (cases : List Case) (case : Case) (rest : List Case)
      (went : Went) (x y x' : Standing C) (r : Result (Unit {0}) RunFault) → cases ≡ case ∷ rest
      → is_chosen only case ≡ true → TellsHere number case went x y
      → IfErr r (λ fault. (fault_status fault ≡ 3) × AmongHere (number + 1) (chosen only rest) fault y x')
      → IfErr r (λ fault. (fault_status fault ≡ 3) × AmongHere number (chosen only cases) fault x x')
  more_stop only number cases case rest went x y x' (Ok done) is picked tells stops = tt
  more_stop only number cases case rest went x y x' (Err fault) is picked tells (status, stops) =
      let split = sym (chosen_first only cases case rest is picked) in
      (status, subst (λ l. AmongHere number l fault x x') split (inr (went, y, tells, stops)))

  -- What is counted from nothing.
  pub from_none : (cases : List Case) (x x' : Standing C) (t0 t : Tally) → t0 ≡ none_counted
      → (wents : List Went) × CasesHere 1 cases wents x x' × (t ≡ tally_from t0 cases wents)
      → (wents : List Went) × CasesHere 1 cases wents x x' × (t ≡ tally_of cases wents)
  from_none cases x x' t0 t none (wents, ran, is) = (wents, ran, is ∙ ap (λ u. tally_from u cases wents) none)

  module _ (cases : List Case) (count : ℕ) (count_is : count ≡ length cases) where
    -- What stands first could not be told.
    pub not_first : (fault : RunFault) (c : C) (held held' : Option (List ℕ))
        → TellsLines (first_line way.json count) held held' (Err fault)
        → (fault_status fault ≡ 3) × BreaksHere cases fault (record { connect = c; held = held })
        (record { connect = c; held = held' })
    not_first fault c held held' told =
        let (begins, untold) = subst (λ n. TellsLines (first_line way.json n) held held' (Err fault)) count_is told in
        (untold_status fault untold, inl (refl, begins, untold))

    -- The run stopped at one of the cases.
    pub not_all : (fault : RunFault) (c c' : C) (held held1 held' : Option (List ℕ))
        → Appends held held1 (first_line way.json count)
        → AmongHere 1 cases fault (record { connect = c; held = held1 }) (record { connect = c'; held = held' })
        → BreaksHere cases fault (record { connect = c; held = held }) (record { connect = c'; held = held' })
    not_all fault c c' held held1 held' told stops =
        let first = subst (λ n. Appends held held1 (first_line way.json n)) count_is told in
        inr (inl (record { connect = c; held = held1 }, (refl, first), stops))

    -- What stands last could not be told.
    pub not_last : (fault : RunFault) (c c' : C) (held held1 held2 held' : Option (List ℕ)) (t : Tally)
        → Appends held held1 (first_line way.json count)
        → (wents : List Went) × CasesHere 1 cases wents (record { connect = c; held = held1 })
        (record { connect = c'; held = held2 }) × (t ≡ tally_of cases wents)
        → TellsLines (last_line way.json count t) held2 held' (Err fault)
        → (fault_status fault ≡ 3) × BreaksHere cases fault (record { connect = c; held = held })
        (record { connect = c'; held = held' })
    not_last fault c c' held held1 held2 held' t told (wents, ran, tally) last =
        let first = subst (λ n. Appends held held1 (first_line way.json n)) count_is told in
        let (begins, untold) = subst (λ u. TellsLines (last_line way.json (length cases) u) held2 held' (Err fault))
        tally
        (subst (λ n. TellsLines (last_line way.json n t) held2 held' (Err fault)) count_is last) in (
          untold_status fault untold,
          inr (inr (
            wents,
            record { connect = c; held = held1 },
            record { connect = c'; held = held2 },
            (refl, first),
            ran,
            (refl, begins, untold),
          )),
        )

    -- All was run and told.
    pub all_run : (c c' : C) (held held1 held2 held' : Option (List ℕ)) (t : Tally)
        → Appends held held1 (first_line way.json count)
        → (wents : List Went) × CasesHere 1 cases wents (record { connect = c; held = held1 })
        (record { connect = c'; held = held2 }) × (t ≡ tally_of cases wents)
        → Appends held2 held' (last_line way.json count t)
        → (wents : List Went) × AllHere cases wents (record { connect = c; held = held })
        (record { connect = c'; held = held' }) × (t ≡ tally_of cases wents)
    all_run c c' held held1 held2 held' t told (wents, ran, tally) last = (
      wents,
      record {
        begun = record { connect = c; held = held1 };
        ended = record { connect = c'; held = held2 };
        first = (refl, subst (λ n. Appends held held1 (first_line way.json n)) count_is told);
        ran = ran;
        last = (
          refl,
          subst (λ u. Appends held2 held' (last_line way.json (length cases) u)) tally
              (subst (λ n. Appends held2 held' (last_line way.json n t)) count_is last),
        );
      },
      tally,
    )

-- The same in the same way and with the same name.
pub breaks_as : {C I O : Type 0} (opens : C → Option (I × O) → C → Type 0) (closes : C → I → O → C → Type 0)
    (remaining : I → Option (List ℕ)) (contents : O → Option (List ℕ)) (way way' : Way)
    (only only' : Option (List ℕ)) (cases : List Case) (fault : RunFault) (x x' : Standing C) → way ≡ way'
    → only ≡ only' → BreaksOff opens closes remaining contents way (chosen only cases) fault x x'
    → BreaksOff opens closes remaining contents way' (chosen only' cases) fault x x'
breaks_as opens closes remaining contents way way' only only' cases fault x x' same named breaks =
    subst (λ w. BreaksOff opens closes remaining contents w (chosen only' cases) fault x x') same
    (subst (λ n. BreaksOff opens closes remaining contents way (chosen n cases) fault x x') named breaks)
