-- What a whole run took, and what a crash leaves of it.
use Rattle.std.proofs.Common.{arith, ◌≡◌, ◌⊎◌, ℕ, Bool, true, false, List, Option, Result, ap, refl, sym, ◌∙◌, inl, inr}
use Rattle.std.specs.List.{list_all}
use Rattle.uecp_elements.specs.declared.code.Code.{Code}
use Rattle.uecp_link.specs.Server.{ServerState}
use Rattle.uecp_net.specs.Keeping.{KeptServer}
use Rattle.kept_jobs.specs.declared.stop.KeptStop.{KeptStop}
use Rattle.kept_jobs.specs.Stops.{Went, stop_status, stop_lines}
use Rattle.kept_jobs.specs.ServerRun.{Standing}
use Rattle.kept_jobs.proofs.Public.{goes, stopped, goes_not_stopped}
use Rattle.line_batches.specs.declared.intake.Given.{Given}
use Rattle.line_batches.specs.declared.taking.After.TheVariants.{GoesOn}
use Rattle.line_feed.specs.declared.feed.Next.{Next}
use Rattle.line_feed.specs.declared.feed_fault.FeedFault.{FeedFault}
use Rattle.line_feed.specs.declared.feed_fault.NotKept.{NotKept}
use Rattle.line_feed.specs.Lines.{Refusal}
use Rattle.line_batches.specs.Intake.{Intake, FeedIntake, seen}
use Rattle.line_batches.proofs.Public.{is_seen}
use Rattle.sending.specs.Sources.{FromFeed}
use Rattle.sending.specs.Run.{tally_status}
use Rattle.sending.specs.Run as over
use Rattle.promises.proofs.OverLines.{Live, LivesFrom, InSight, from_seen}
use Rattle.promises.proofs.BatchRuns.{in_all}
use Rattle.sending.specs.declared.options.LiveOptions.{LiveOptions}
use Rattle.promises.specs.Taken.{at_start}
use Rattle.line_batches.specs.Intake.{has_refused}
use Rattle.promises.specs.LiveTold.{was_applied, IsStatusOf}
use Rattle.promises.specs.LiveLaws.{IsDone, DoneIsKept, WhatACrashLeaves, ToldIsTaken, TakenInBatches}
use Rattle.promises.proofs.Refusing.{refused_in_all, status_so}
use Rattle.promises.proofs.Runs.{whole}
use Rattle.promises.proofs.TellingRuns.{whole_told}
use Rattle.notices.specs.Told.{Told, Says}

pub not_three : (status : ℕ) → IsDone status → status ≡ 3 → ⊥
not_three status (inl is) three = absurd (omega arith)
not_three status (inr (inl is)) three = absurd (omega arith)
not_three status (inr (inr is)) three = absurd (omega arith)

-- how a run ended
abbrev EndedSo : (went : Went) → (taken : Intake) → (applied : Bool) → (said' : Told) → (status : ℕ) → Type 0
EndedSo went taken applied said' status =
    ((went ≡ goes) × (status ≡ tally_status taken.refused applied) × (said' ≡ taken.said))
    ⊎ ((stop : KeptStop) × (went ≡ stopped stop) × (status ≡ stop_status stop)
    × Says taken.said said' (stop_lines stop))

-- one with the status of an end did not stop
on_where_done : (went : Went) (taken : Intake) (applied : Bool) (said' : Told) (status : ℕ) → IsDone status
    → ((stop : KeptStop) → went ≡ stopped stop → stop_status stop ≡ 3) → EndedSo went taken applied said' status
    → goes ≡ went
on_where_done went taken applied said' status done three (inl (is, status_is, said_is)) = sym is
on_where_done went taken applied said' status done three (inr (stop, is, status_is, begins)) =
    absurd (not_three status done (status_is ∙ three stop is))

-- what the status of one that did not stop says
status_where_done : (went : Went) (taken : Intake) (applied : Bool) (said' : Told) (status : ℕ)
    (lines : List (List ℕ × Given)) (answers : List (Option Code)) → goes ≡ went
    → has_refused lines ≡ taken.refused → (applied ≡ true → list_all was_applied answers ≡ true)
    → EndedSo went taken applied said' status → IsStatusOf lines answers status
status_where_done went taken applied said' status lines answers on refused all (inl (is, status_is, said_is)) =
    status_so lines answers status taken.refused applied refused all status_is
status_where_done went taken applied said' status lines answers on refused all (inr (stop, is, status_is, begins)) =
    absurd (goes_not_stopped stop (on ∙ is))

module _ {D C I O K : Type 0} (unread : D → Option (List ℕ))
    (takes : D → Result Next FeedFault → List ℕ → D → Type 0) (says : D → Bool → D → Type 0)
    (passes : D → Refusal → Result (Unit {0}) NotKept → D → Type 0)
    (opens : C → Option (I × O) → C → Type 0) (closes : C → I → O → C → Type 0)
    (remaining : I → Option (List ℕ)) (contents : O → Option (List ℕ)) (leaves : K → KeptServer → Type 0)
    (is_clean : K → Type 0) (saves fails : K → KeptServer → K → Type 0) where
  -- where a run stands at its start
  abbrev begins_at : LiveOptions → Standing ServerState K → (left : Option (List ℕ)) → (said : Told)
      → Live ServerState K
  begins_at options x left said = record {
    sends = x;
    takes = at_start options left said;
    applied = true;
    unknown = 0;
    behind = GoesOn;
  }

  -- so, with its feed
  abbrev fed_at : LiveOptions → Standing ServerState K → (feed : D) → (said : Told)
      → over.Live (FeedIntake D) ServerState K
  fed_at options x feed said = record {
    sends = x;
    takes = record { feed = feed; lines = options.lines_before; refused = false; said = said };
    applied = true;
    unknown = 0;
    behind = GoesOn;
  }

  -- what is seen of a run
  by_sight : (options : LiveOptions) (c c' : C) (x : Standing ServerState K) (k' : K) (held' : Option (List ℕ))
      (feed : D) (said : Told) (end : FeedIntake D) (applied : Bool) (went : Went)
      → over.LivesFrom (FromFeed unread takes says passes options.reading.input options.reading.strict) opens closes
      remaining contents leaves is_clean saves fails (over.run_of options) c c' (fed_at options x feed said) k' held'
      end applied went
      → LivesFrom opens closes remaining contents leaves is_clean saves fails options c c'
      (begins_at options x (unread feed) said) k' held' (seen unread end) applied went
  by_sight options c c' x k' held' feed said end applied went lives =
      from_seen opens closes remaining contents leaves is_clean saves fails (seen unread)
      (FromFeed unread takes says passes options.reading.input options.reading.strict)
      (InSight options.reading.input options.reading.strict)
      (λ size messages after i i'. is_seen unread takes says passes options.reading.input size options.reading.strict
      messages after i i') (over.run_of options) c c' (fed_at options x feed said) k' held' end applied went lives

  -- that of the keeper holds at the start where it holds at the end
  pub clean_back : (options : LiveOptions) (c c' : C) (x : Standing ServerState K) (k' : K)
      (held' : Option (List ℕ)) (feed feed' : D) (said said' : Told) (status : ℕ)
      → over.Lives unread takes says passes opens closes remaining contents leaves is_clean saves fails options c c' x
      k' held' feed feed' said said' status
      → is_clean k' → is_clean x.keeper
  clean_back options c c' x k' held' feed feed' said said' status (went, end, applied, lives, feed_is, ended) =
      let run = by_sight options c c' x k' held' feed said end applied went lives in
      let w = whole opens closes remaining contents leaves is_clean saves fails options c c'
      (begins_at options x (unread feed) said) k' held' (seen unread end) applied went run in
      w.clean

  pub done_is_kept_lem : DoneIsKept unread takes says passes opens closes remaining contents leaves is_clean saves fails
  done_is_kept_lem options c c' x k' held' feed feed' said said' status
      (went, end, applied, lives, feed_is, ended) done =
      let run = by_sight options c c' x k' held' feed said end applied went lives in
      let w = whole opens closes remaining contents leaves is_clean saves fails options c c'
      (begins_at options x (unread feed) said) k' held' (seen unread end) applied went run in
      let on : goes ≡ went = on_where_done went (seen unread end) applied said' status done w.status ended in (
        w.lines,
        record {
          last = w.mid;
          end = seen unread end;
          taken = w.takes;
          ends = w.done on;
          is_unread = ap unread feed_is;
        },
        w.has_taken on,
      )

  pub what_a_crash_leaves_lem : WhatACrashLeaves unread takes says passes opens closes remaining contents leaves
      is_clean saves
      fails
  what_a_crash_leaves_lem options c c' x k' held' feed feed' said said' status
      (went, end, applied, lives, feed_is, ended) =
      let run = by_sight options c c' x k' held' feed said end applied went lives in
      let w = whole opens closes remaining contents leaves is_clean saves fails options c c'
      (begins_at options x (unread feed) said) k' held' (seen unread end) applied went run in (
        w.lines,
        record {
          last = w.mid;
          end = seen unread end;
          taken = w.takes;
          passes = w.passes;
          pauses = w.pauses;
          is_unread = ap unread feed_is;
        },
        w.outlives,
      )

  pub told_is_taken_lem : ToldIsTaken unread takes says passes opens closes remaining contents leaves is_clean saves
      fails
  told_is_taken_lem options c c' x k' held' feed feed' said said' status
      (went, end, applied, lives, feed_is, ended) done =
      let run = by_sight options c c' x k' held' feed said end applied went lives in
      let w = whole opens closes remaining contents leaves is_clean saves fails options c c'
      (begins_at options x (unread feed) said) k' held' (seen unread end) applied went run in
      let on : goes ≡ went = on_where_done went (seen unread end) applied said' status done w.status ended in
      let t = whole_told opens closes remaining contents leaves is_clean saves fails options c c'
      (begins_at options x (unread feed) said) k' held' (seen unread end) applied went run on in (
        t.lines,
        record {
          last = t.mid;
          end = seen unread end;
          taken = t.takes;
          ends = t.ends;
          is_unread = ap unread feed_is;
        },
        t.answers,
        t.text,
        t.number,
        (t.again, t.once, t.tells),
        t.appended,
        status_where_done went (seen unread end) applied said' status t.lines t.answers on
            (refused_in_all options.reading.input options.reading.strict t.lines (at_start options (unread feed) said)
            t.mid
            (seen unread end) refl t.takes t.ends) t.applied ended,
      )

  pub taken_in_batches_lem : TakenInBatches unread takes says passes opens closes remaining contents leaves is_clean
      saves
      fails
  taken_in_batches_lem options c c' x k' held' feed feed' said said' status
      (went, end, applied, lives, feed_is, ended) =
      let (batches, are) = in_all (FromFeed unread takes says passes options.reading.input options.reading.strict)
      opens closes remaining contents leaves is_clean saves fails (over.run_of options) c c'
      (fed_at options x feed said) k' held' end applied went lives in
      (batches, end, are, feed_is)
