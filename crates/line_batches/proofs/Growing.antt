-- A batch that grows line by line.
use Rattle.std.proofs.Common.{◌≡◌, ℕ, Bool, ◌<◌, ◌≤◌, ◌+◌, ◌-◌, ◌^◌, List, [], ◌∷◌, ◌++◌, length, refl, sym, ap, ◌∙◌}
use Rattle.std.proofs.Common.{subst, inl, inr, append_assoc, append-nil, length-append, true, false, ◌||◌}
use Rattle.std.proofs.Math.Nat.{le_of_lt}
use Rattle.std.specs.Prelude.{Option, Some, None, Result, Ok, Err}
use Rattle.line_batches.specs.declared.intake.Input.{Input}
use Rattle.uecp_text.specs.declared.run_fault.RunFault.TheVariants as run
use Rattle.line_feed.specs.declared.feed.Next.{Next}
use Rattle.line_feed.specs.declared.feed_fault.FeedFault.{FeedFault}
use Rattle.line_feed.specs.declared.feed_fault.NotKept.{NotKept}
use Rattle.line_feed.specs.Lines.{Refusal}
use Rattle.line_batches.specs.declared.intake.Given.{Given}
use Rattle.line_batches.specs.declared.taking.After.{After}
use Rattle.line_batches.specs.declared.taking.After.TheVariants.{GoesOn, Ends}
use Rattle.line_batches.specs.Intake.{FeedIntake, message_of, messages_in, is_refusal, has_refused}
use Rattle.line_batches.specs.Batches.{TakesBatch, TakesInto, TakesOn, TakesNext, EndsBatch, EndsAt, IsPassed}
use Rattle.line_batches.specs.Batches.{NoneRefused, ComesToMore, GoesFurther, IsWhole}

some_same : {a b : After} → Some a ≡ Some b → a ≡ b
some_same is = cc

messages_then : (taken : List (List ℕ × Given)) (line : List ℕ) (given : Given)
    → messages_in (taken ++ (line, given) ∷ []) ≡ messages_in taken ++ message_of given
messages_then [] line given = append-nil (message_of given)
messages_then ((l, g) ∷ more) line given =
    ap (λ rest. message_of g ++ rest) (messages_then more line given)
    ∙ sym (append_assoc (message_of g) (messages_in more) (message_of given))

-- a line more that is not refused
refused_then : (taken : List (List ℕ × Given)) (line : List ℕ) (given : Given) → has_refused taken ≡ false
    → is_refusal given ≡ false → has_refused (taken ++ (line, given) ∷ []) ≡ false
refused_then [] line given none is = ap (λ b. b || false) is
refused_then ((l, g) ∷ more) line given none is =
    by (is_refusal g) none (λ none_more. refused_then more line given none_more is)
  where
    by : (b : Bool) → (b || has_refused more) ≡ false
        → (has_refused more ≡ false → has_refused (more ++ (line, given) ∷ []) ≡ false)
        → (b || has_refused (more ++ (line, given) ∷ [])) ≡ false
    by true wrong rest = wrong
    by false none_more rest = rest none_more

module _ {D : Type 0} (remaining : D → Option (List ℕ)) (takes : D → Result Next FeedFault → List ℕ → D → Type 0)
    (says : D → Bool → D → Type 0)
    (passes : D → Refusal → Result (Unit {0}) NotKept → D → Type 0) where
  lines_then : (input : Input) (size : ℕ) (messages : List (List ℕ)) (taken : List (List ℕ × Given))
      (x y z w : FeedIntake D) (line : List ℕ) (given : Given)
      → TakesOn remaining takes says passes input size messages taken x y
      → ComesToMore remaining takes says passes size (messages ++ messages_in taken) y z
      → TakesNext remaining takes says passes input line given z w
      → TakesOn remaining takes says passes input size messages (taken ++ (line, given) ∷ []) x w
  lines_then input size messages [] x y z w line given same more one = (
    z,
    w,
    subst (λ (u : FeedIntake D). ComesToMore remaining takes says passes size messages u z) same
        (subst (λ ms. ComesToMore remaining takes says passes size ms y z) (append-nil messages) more),
    one,
    refl,
  )
  lines_then input size messages ((l, g) ∷ rest) x y z w line given (u, v, comes, next, on) more one = (
    u,
    v,
    comes,
    next,
    lines_then input size (messages ++ message_of g) rest v y z w line given on
        (subst (λ ms. ComesToMore remaining takes says passes size ms y z)
        (sym (append_assoc messages (message_of g) (messages_in rest))) more) one,
  )

  -- So many lines that were taken so far give the messages of a batch, which has room for another, and comes to a
  -- further line; and none was refused where that would end the run.
  pub record HasTaken (input : Input) (size : ℕ) (strict : Bool) (count : ℕ) (x x' : FeedIntake D)
      (batch : List (List ℕ)) : Type 0 where
    pub taken : List (List ℕ × Given)
    pub last : FeedIntake D
    pub lines : TakesOn remaining takes says passes input size [] taken x last
    pub more : ComesToMore remaining takes says passes size (messages_in taken) last x'
    pub messages : batch ≡ messages_in taken
    pub room : length batch < size
    pub passed : NoneRefused strict taken
    pub number : length taken ≡ count

  module _ (input : Input) (size : ℕ) (strict : Bool) (x : FeedIntake D) where
    pub none_taken : (batch : List (List ℕ)) → batch ≡ [] → 1 ≤ size → HasTaken input size strict 0 x x batch
    none_taken batch empty some = record {
      taken = [];
      last = x;
      lines = refl;
      more = (inl (refl, refl), refl);
      messages = empty;
      room = subst (λ b. length b < size) (sym empty) some;
      passed = λ is_strict. refl;
      number = refl;
    }

    module _ (count : ℕ) (y : FeedIntake D) (batch : List (List ℕ)) (has : HasTaken input size strict count x y batch)
        (z : FeedIntake D) (batch' : List (List ℕ)) where
      one_more : (line : List ℕ) (given : Given) → batch' ≡ batch ++ message_of given
          → batch' ≡ messages_in (has.taken ++ (line, given) ∷ [])
      one_more line given put =
          put ∙ ap (λ b. b ++ message_of given) has.messages ∙ sym (messages_then has.taken line given)

      none_more : (line : List ℕ) (given : Given) → IsPassed remaining takes says passes strict given
          → NoneRefused strict (has.taken ++ (line, given) ∷ [])
      none_more line given passed = λ is_strict.
          refused_then has.taken line given (has.passed is_strict) (passed is_strict)

      pub grows : TakesInto remaining takes says passes input size strict y z batch batch' None
          → HasTaken input size strict (count + 1) x z batch'
      grows (inl (line, given, u, one, inl (put, (goes, room, passed)), same)) = record {
        taken = has.taken ++ (line, given) ∷ [];
        last = u;
        lines = lines_then input size [] has.taken x has.last y u line given has.lines has.more one;
        more = (
          subst (λ ms. GoesFurther remaining takes says passes size ms u.feed z.feed) (one_more line given put) goes,
          same,
        );
        messages = one_more line given put;
        room = room;
        passed = none_more line given passed;
        number = length-append has.taken ((line, given) ∷ []) ∙ ap (λ n. n + 1) has.number;
      }
      grows (inl (line, given, u, one, inr (same, is, message, stays), so)) = cc
      grows (inr (same, inl (found, is))) = cc
      grows (inr (same, inr (fault, is, fails))) = cc

      ends_so : (line : List ℕ) (given : Given) (u : FeedIntake D) (after : After)
          → EndsAt remaining takes says passes size strict given batch' after u.feed z.feed
          → z ≡ record u { feed = z.feed } → batch' ≡ messages_in (has.taken ++ (line, given) ∷ [])
          → EndsBatch remaining takes says passes input size strict (has.taken ++ (line, given) ∷ []) u z after
      ends_so line given u GoesOn (whole, passed) same are = (
        subst (λ ms. IsWhole remaining takes says passes size ms u.feed z.feed) are whole,
        same,
        none_more line given passed,
      )
      ends_so line given u (Ends (Ok done)) (is_strict, refused, stays) same are =
          inr (
            is_strict,
            (has.taken, line, refused.0, ap (λ g. has.taken ++ (line, g) ∷ []) refused.1, has.passed is_strict),
            same ∙ ap (λ f. record u { feed = f }) stays,
          )
      ends_so line given u (Ends (Err fault)) never same are = absurd never

      abbrev Ended : After → Type 0
      Ended after = EndsBatch remaining takes says passes input size strict has.taken has.last z after

      -- behind the lines of before
      stops : (after why : After) → after ≡ why → batch' ≡ batch → Ended why
          → TakesBatch remaining takes says passes input size strict batch' after x z
      stops after why is same ended = (
        has.taken,
        has.last,
        has.lines,
        same ∙ has.messages,
        subst (λ b. length b ≤ size) (sym same) (le_of_lt has.room),
        subst Ended (sym is) ended,
      )

      pub is_done : (after : After) → TakesInto remaining takes says passes input size strict y z batch batch'
          (Some after)
          → TakesBatch remaining takes says passes input size strict batch' after x z
      is_done after (inl (line, given, u, one, inl (put, ends), same)) = (
        has.taken ++ (line, given) ∷ [],
        u,
        lines_then input size [] has.taken x has.last y u line given has.lines has.more one,
        one_more line given put,
        ends.0,
        ends_so line given u after ends.1 same (one_more line given put),
      )
      is_done after (inl (line, given, u, one, inr (same, is, is_message, stays), so)) =
          let there : u ≡ z = sym (so ∙ ap (λ f. record u { feed = f }) stays) in
          let lost : TakesNext remaining takes says passes input line given y z =
          subst (λ (v : FeedIntake D). TakesNext remaining takes says passes input line given y v) there one in
          stops after (Ends (Err run.OutOfMemory)) (some_same is) same
          (y, has.more, inr (inl (inr (refl, (line, given, lost, is_message)))), has.passed)
      is_done after (inr (same, inl (found, is))) =
          stops after (Ends (Ok tt)) (some_same is) same (inl (y, has.more, found, has.passed))
      is_done after (inr (same, inr (fault, is, inl fails))) =
          stops after (Ends (Err fault)) (some_same is) same (y, has.more, inl fails, has.passed)
      is_done after (inr (same, inr (fault, is, inr not_kept))) =
          stops after (Ends (Err fault)) (some_same is) same (y, has.more, inr (inl (inl not_kept)), has.passed)

    pub gives_up : (count : ℕ) (y : FeedIntake D) (batch : List (List ℕ)) → HasTaken input size strict count x y batch
        → count ≡ 2 ^ 64 - 1
        → TakesBatch remaining takes says passes input size strict batch (Ends (Err run.Reading)) x y
    gives_up count y batch has all = (
      has.taken,
      has.last,
      has.lines,
      has.messages,
      le_of_lt has.room,
      (y, has.more, inr (inr (refl, has.number ∙ all, refl)), has.passed),
    )
