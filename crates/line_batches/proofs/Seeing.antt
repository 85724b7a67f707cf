-- What is seen of a batch that is taken from a feed.
use Rattle.std.proofs.Common.{◌≡◌, ◌≢◌, ℕ, Bool, List, [], ◌∷◌, ◌++◌, length, refl, sym, ap, ◌∙◌, subst, inl}
use Rattle.std.proofs.Common.{inr, ◌⊎◌, true, false, append_assoc, arith}
use Rattle.std.specs.Prelude.{Option, None, Result, Ok, Err}
use Rattle.std.specs.Io.KnownBytes.{Keeps}
use Rattle.std.proofs.KnownBytes.{Keeps-refl, Keeps-trans}
use Rattle.line_batches.specs.declared.intake.Input.{Input}
use Rattle.uecp_text.specs.declared.run_fault.RunFault.{RunFault}
use Rattle.uecp_text.specs.declared.run_fault.RunFault.TheVariants as run
use Rattle.line_feed.specs.declared.feed.Next.{Next}
use Rattle.line_feed.specs.declared.feed_fault.FeedFault.{FeedFault}
use Rattle.line_feed.specs.declared.feed_fault.NotKept.{NotKept}
use Rattle.line_feed.specs.Lines.{Refusal}
use Rattle.line_feed.specs.declared.feed_fault.FeedFault.TheVariants as feed
use Rattle.line_feed.proofs.Public.{kept_line, kept_untaken}
use Rattle.line_batches.specs.declared.intake.Given.{Given}
use Rattle.line_batches.specs.declared.taking.After.{After}
use Rattle.line_batches.specs.declared.taking.After.TheVariants.{GoesOn, Ends}
use Rattle.line_batches.specs.Intake.{Intake, FeedIntake, TakesLine, TakesLines, TakesOne, FailsToTake, message_of}
use Rattle.line_batches.specs.Intake.{messages_in, seen}
use Rattle.line_batches.specs.Batches.{TakesOn, TakesNext, TakesTold, FindsEnd, FailsNext, EndsBatch, NoneRefused}
use Rattle.line_batches.specs.Batches.{ComesToMore, GoesFurther, IsWhole, Answers, LeavesLine}
use Rattle.line_batches.specs.Laws.{IsAfter, IsSeen, NoneWaits, WasThere}

-- ---- What was left before is left where all was kept.
line_kept : (input : Input) (line : List ℕ) (given : Given) (a c : Intake) (u : Option (List ℕ)) → Keeps a.unread u
    → TakesLine input line given (record a { unread = u }) c → TakesLine input line given a c
line_kept input line given a c u kept one = record {
  between = one.between;
  taken = kept_line a.unread u one.between line kept one.taken;
  waits = one.waits;
  gives = one.gives;
  lines = one.lines;
  refused = one.refused;
  said = one.said;
}

end_kept : (input : Input) (a c : Intake) (u : Option (List ℕ)) → Keeps a.unread u
    → TakesOne input (record a { unread = u }) c None → TakesOne input a c None
end_kept input a c u kept (stays, (same, over)) = (stays, (Keeps-trans a.unread u c.unread kept same, over))

fails_kept : (a c : Intake) (u : Option (List ℕ)) (fault : RunFault) → Keeps a.unread u
    → FailsToTake (record a { unread = u }) c fault → FailsToTake a c fault
fails_kept a c u run.Reading kept (stays, untaken) =
    (stays, kept_untaken a.unread u c.unread feed.Reading kept untaken)
fails_kept a c u run.OutOfMemory kept (stays, inl same) = (stays, inl (Keeps-trans a.unread u c.unread kept same))
fails_kept a c u run.OutOfMemory kept (stays, inr (line, first)) =
    (stays, inr (line, kept_line a.unread u c.unread line kept first))
fails_kept a c u fault kept (stays, never) = absurd never

-- behind the last of some lines it was looked whether another is there
last_waits : (input : Input) (taken : List (List ℕ × Given)) (a b : Intake) (u : Option (List ℕ)) → Keeps b.unread u
    → taken ≢ [] → TakesLines input taken a b → TakesLines input taken a (record b { unread = u })
last_waits input [] a b u kept some lines = absurd (some refl)
last_waits input ((line, given) ∷ []) a b u kept some (w, first, same) =
    let one : TakesLine input line given a b =
    subst (λ (i : Intake). TakesLine input line given a i) (sym same) first in (
      record b { unread = u },
      record {
        between = one.between;
        taken = one.taken;
        waits = Keeps-trans one.between b.unread u one.waits kept;
        gives = one.gives;
        lines = one.lines;
        refused = one.refused;
        said = one.said;
      },
      refl,
    )
last_waits input ((line, given) ∷ next ∷ more) a b u kept some (w, one, rest) =
    (w, one, last_waits input (next ∷ more) w b u kept (λ none. cc) rest)

module _ {D : Type 0} (remaining : D → Option (List ℕ)) (takes : D → Result Next FeedFault → List ℕ → D → Type 0)
    (says : D → Bool → D → Type 0)
    (passes : D → Refusal → Result (Unit {0}) NotKept → D → Type 0) where
  abbrev at : FeedIntake D → Intake
  at x = seen remaining x

  keeps_feed : (d d' : D) → d' ≡ d → Keeps (remaining d) (remaining d')
  keeps_feed d d' same = subst (λ f. Keeps (remaining d) (remaining f)) (sym same) (Keeps-refl (remaining d))

  keeps_further : (size : ℕ) (messages : List (List ℕ)) (d d' : D)
      → GoesFurther remaining takes says passes size messages d d' → Keeps (remaining d) (remaining d')
  keeps_further size messages d d' (inl (none, same)) = keeps_feed d d' same
  keeps_further size messages d d' (inr (some, few, (says_so, kept))) = kept

  keeps_whole : (size : ℕ) (messages : List (List ℕ)) (d d' : D)
      → IsWhole remaining takes says passes size messages d d'
      → Keeps (remaining d) (remaining d')
  keeps_whole size messages d d' (some, inl (full, same)) = keeps_feed d d' same
  keeps_whole size messages d d' (some, inr (says_so, kept)) = kept

  -- where a batch comes to a further line, nothing else is seen
  seen_more : (size : ℕ) (messages : List (List ℕ)) (x y : FeedIntake D)
      → ComesToMore remaining takes says passes size messages x y → at y ≡ record (at x) { unread = remaining y.feed }
  seen_more size messages x y (goes, same) = ap at same

  line_seen : (input : Input) (size : ℕ) (messages : List (List ℕ)) (line : List ℕ) (given : Given)
      (kept : Result (Unit {0}) NotKept) (x y z : FeedIntake D)
      → ComesToMore remaining takes says passes size messages x y
      → TakesTold remaining takes says passes input line given kept y z → TakesLine input line given (at x) (at z)
  line_seen input size messages line given kept x y z comes (one, call) =
      line_kept input line given (at x) (at z) (remaining y.feed)
      (keeps_further size messages x.feed y.feed comes.0)
      (subst (λ (i : Intake). TakesLine input line given i (at z)) (seen_more size messages x y comes) one)

  lines_seen : (input : Input) (size : ℕ) (messages : List (List ℕ)) (taken : List (List ℕ × Given))
      (x y : FeedIntake D) → TakesOn remaining takes says passes input size messages taken x y
      → TakesLines input taken (at x) (at y)
  lines_seen input size messages [] x y same = ap at same
  lines_seen input size messages ((line, given) ∷ more) x y (u, v, comes, next, on) = (
    at v,
    line_seen input size messages line given (Ok tt) x u v comes next,
    lines_seen input size (messages ++ message_of given) more v y on,
  )

  end_seen : (input : Input) (size : ℕ) (messages : List (List ℕ)) (x y z : FeedIntake D)
      → ComesToMore remaining takes says passes size messages x y → FindsEnd remaining takes says passes input y z
      → TakesOne input (at x) (at z) None
  end_seen input size messages x y z comes (one, call) =
      end_kept input (at x) (at z) (remaining y.feed) (keeps_further size messages x.feed y.feed comes.0)
      (subst (λ (i : Intake). TakesOne input i (at z) None) (seen_more size messages x y comes) one)

  fails_seen : (size : ℕ) (messages : List (List ℕ)) (x y z : FeedIntake D) (fault : RunFault)
      → ComesToMore remaining takes says passes size messages x y → FailsNext remaining takes says passes y z fault
      → FailsToTake (at x) (at z) fault
  fails_seen size messages x y z fault comes (one, call) =
      fails_kept (at x) (at z) (remaining y.feed) fault (keeps_further size messages x.feed y.feed comes.0)
      (subst (λ (i : Intake). FailsToTake i (at z) fault) (seen_more size messages x y comes) one)

  none_seen : (size : ℕ) (messages : List (List ℕ)) (x y z : FeedIntake D) (fault : RunFault)
      → ComesToMore remaining takes says passes size messages x y → fault ≡ run.Reading → z ≡ y
      → FailsToTake (at x) (at z) fault
  none_seen size messages x y z fault comes is same =
      subst (λ f. FailsToTake (at x) (at z) f) (sym is)
      (subst (λ (v : FeedIntake D). FailsToTake (at x) (at v) run.Reading) (sym same)
      (seen_more size messages x y comes, inl (keeps_further size messages x.feed y.feed comes.0)))

  abbrev Way : Input → (strict : Bool) → List (List ℕ × Given) → (y x' : Intake) → After → Type 0
  Way input strict taken y x' after =
      (IsAfter input strict taken y x' after)
      ⊎ ((fault : RunFault) × (after ≡ Ends (Err fault)) × (FailsToTake y x' fault ⊎ LeavesLine input y x' fault)
      × NoneRefused strict taken)

  -- the lines of a batch up to its end, and why it ends there
  ended_seen : (input : Input) (size : ℕ) (strict : Bool) (taken : List (List ℕ × Given)) (x y x' : FeedIntake D)
      (after : After) → TakesOn remaining takes says passes input size [] taken x y
      → EndsBatch remaining takes says passes input size strict taken y x' after
      → (i : Intake) × TakesLines input taken (at x) i × Way input strict taken i (at x') after
  ended_seen input size strict taken x y x' GoesOn on (whole, same, passed) = (
    at x',
    subst (λ (i : Intake). TakesLines input taken (at x) i) (sym (ap at same))
        (last_waits input taken (at x) (at y) (remaining x'.feed)
        (keeps_whole size (messages_in taken) y.feed x'.feed whole) (λ none. whole.0 (ap messages_in none))
        (lines_seen input size [] taken x y on)),
    inl (whole.0, passed, refl),
  )
  ended_seen input size strict taken x y x' (Ends (Ok done)) on (inl (z, comes, found, passed)) = (
    at y,
    lines_seen input size [] taken x y on,
    inl (inl (end_seen input size (messages_in taken) y z x' comes found, passed)),
  )
  ended_seen input size strict taken x y x' (Ends (Ok done)) on (inr (is_strict, refused, same)) =
      (at y, lines_seen input size [] taken x y on, inl (inr (is_strict, refused, ap at same)))
  ended_seen input size strict taken x y x' (Ends (Err fault)) on (z, comes, inl fails, passed) = (
    at y,
    lines_seen input size [] taken x y on,
    inr (fault, refl, inl (fails_seen size (messages_in taken) y z x' fault comes fails), passed),
  )
  ended_seen input size strict taken x y x' (Ends (Err fault)) on
      (z, comes, inr (inl (inr (is, (line, given, next, is_message)))), passed) = (
        at y,
        lines_seen input size [] taken x y on,
        inr (
          fault,
          refl,
          inr (
            line,
            given,
            line_seen input size (messages_in taken) line given (Ok tt) y z x' comes next,
            inl (is, is_message),
          ),
          passed,
        ),
      )
  ended_seen input size strict taken x y x' (Ends (Err fault)) on
      (z, comes, inr (inl (inl (is, (line, given, why, told, refused)))), passed) = (
        at y,
        lines_seen input size [] taken x y on,
        inr (
          fault,
          refl,
          inr (
            line,
            given,
            line_seen input size (messages_in taken) line given (Err why) y z x' comes told,
            inr (is, refused),
          ),
          passed,
        ),
      )
  ended_seen input size strict taken x y x' (Ends (Err fault)) on (z, comes, inr (inr (is, number, same)), passed) = (
    at y,
    lines_seen input size [] taken x y on,
    inr (fault, refl, inl (none_seen size (messages_in taken) y z x' fault comes is same), passed),
  )

  pub is_seen : IsSeen remaining takes says passes
  is_seen input size strict messages after x x' (taken, y, on, are, few, ends) =
      let (i, lines, way) = ended_seen input size strict taken x y x' after on ends in
      (taken, i, lines, are, few, way)

  pub none_waits : NoneWaits remaining takes says passes
  none_waits input size strict messages x x' (taken, y, on, are, few, (whole, same, passed)) short =
      by whole
    where
      by : IsWhole remaining takes says passes size (messages_in taken) y.feed x'.feed
          → (d : D) × Answers remaining takes says passes false d x'.feed
      by (some, inl (full, stays)) = absurd (let is : length messages ≡ size = ap length are ∙ full in omega (
        arith,
        is,
        short,
      ))
      by (some, inr asked) = (y.feed, asked)

  there_behind : (input : Input) (size : ℕ) (messages : List (List ℕ)) (before later : List (List ℕ × Given))
      (line : List ℕ) (given : Given) (x x' : FeedIntake D)
      → TakesOn remaining takes says passes input size messages (before ++ (line, given) ∷ later) x x'
      → messages ++ messages_in before ≢ []
      → (y : FeedIntake D) × (z : FeedIntake D) × (z' : FeedIntake D)
      × Answers remaining takes says passes true y.feed z.feed
      × TakesNext remaining takes says passes input line given z z'
  there_behind input size messages [] later line given x x' (u, v, (inl (none, stays), same), next, on) some =
      absurd (some (ap (λ ms. ms ++ []) none))
  there_behind input size messages [] later line given x x' (u, v, (inr (has, few, asked), same), next, on) some =
      (x, u, v, asked, next)
  there_behind input size messages ((l, g) ∷ before) later line given x x' (u, v, comes, next, on) some =
      there_behind input size (messages ++ message_of g) before later line given v x' on
      (λ none. some (sym (append_assoc messages (message_of g) (messages_in before)) ∙ none))

  pub was_there : WasThere remaining takes says passes
  was_there input size before later line given x x' on some =
      there_behind input size [] before later line given x x' on some
