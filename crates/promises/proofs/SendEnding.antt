-- What a run of `send` over TCP took and told, and what a crash leaves of its file.
use Rattle.std.proofs.Common.{arith, ◌≡◌, ◌⊎◌, ℕ, Bool, ◌≤◌, [], true, false, List, Option, Some, None, Result, Ok, Err}
use Rattle.std.proofs.Common.{refl}
use Rattle.std.proofs.Common.{sym, subst, inl, inr, length}
use Rattle.std.specs.Io.KnownBytes.{Appends, Keeps, prepend_known}
use Rattle.uecp_elements.specs.declared.code.Code.{Code}
use Rattle.uecp_link.specs.Server.{ServerState, idle_at}
use Rattle.uecp_net.specs.declared.saved.keep.Progress.{Progress}
use Rattle.uecp_net.specs.Keeping.{KeptServer}
use Rattle.kept_jobs.specs.ServerRun.{Standing}
use Rattle.uecp_jobs.specs.Setups.{address_of}
use Rattle.kept_jobs.specs.ServerKept.{HasTaken}
use Rattle.line_batches.specs.declared.intake.Given.{Given}
use Rattle.line_batches.specs.Intake.{messages_in}
use Rattle.line_batches.specs.declared.taking.After.TheVariants.{GoesOn}
use Rattle.line_feed.specs.declared.feed.Next.{Next}
use Rattle.line_feed.specs.declared.feed_fault.FeedFault.{FeedFault}
use Rattle.line_feed.specs.declared.feed_fault.NotKept.{NotKept}
use Rattle.line_feed.specs.Lines.{Refusal}
use Rattle.line_feed.specs.Reading.{Reads, Looks, ReadsNoMore}
use Rattle.line_feed.specs.Reading.{unread as feed_unread}
use Rattle.state_files.specs.declared.fault.StateFault.{StateFault}
use Rattle.state_jobs.specs.Texts.{IsClosed}
use Rattle.sending.specs.declared.options.LiveOptions.{LiveOptions}
use Rattle.sending.specs.Run.{Lives, run_of}
use Rattle.sending.specs.Sources.{FromFeed}
use Rattle.send_commands.specs.LiveIn.{LivesIn}
use Rattle.send_commands.specs.Job.{SendsFrom}
use Rattle.send_commands.specs.OverTcp.{begun_with}
use Rattle.send_commands.specs.Passing.{Kept, Takes, Asks, PassesTo}
use Rattle.notices.specs.Told.{Told}
use Rattle.promises.specs.Taken.{TakesSome, TakesAll}
use Rattle.promises.specs.Left.{OutlivesLive}
use Rattle.promises.specs.LiveTold.{TellsAll, IsStatusOf}
use Rattle.promises.specs.LiveLaws.{IsDone}
use Rattle.promises.specs.SendLaws.{BeginsWith, KeptFrom, SentIsKept, SentOutlives, SentIsTold}
use Rattle.send_commands.specs.Ended.{TellsEnd}
use Rattle.promises.proofs.LiveEnding.{not_three, clean_back, done_is_kept_lem, what_a_crash_leaves_lem}
use Rattle.promises.proofs.LiveEnding.{told_is_taken_lem}
use Rattle.promises.proofs.KeeperRuns.{Saved, keeper_comes}

not_two : (status : ℕ) → IsDone status → status ≡ 2 → ⊥
not_two status (inl is) two = absurd (omega arith)
not_two status (inr (inl is)) two = absurd (omega arith)
not_two status (inr (inr is)) two = absurd (omega arith)

not_between : (status : ℕ) → IsDone status → 2 ≤ status → status ≤ 3 → ⊥
not_between status (inl is) least most = absurd (omega (arith, least))
not_between status (inr (inl is)) least most = absurd (omega (arith, least))
not_between status (inr (inr is)) least most = absurd (omega (arith, most))

-- a run whose file was closed so that it is done ended so before
closed_well : (path : List ℕ) (status : ℕ) (closed : Result (Unit {0}) StateFault) (status' : ℕ) (told told' : Told)
    → IsClosed path status closed status' told told' → IsDone status' → (closed ≡ Ok tt) × (status' ≡ status)
closed_well path status (Ok done) status' told told' (same, said) is = (refl, same)
closed_well path status (Err fault) status' told told' (three, said) is = absurd (not_three status' is three)

-- of an input of which nothing was read all is left
all_left : (left : Option (List ℕ)) → prepend_known [] left ≡ left
all_left None = refl
all_left (Some bytes) = refl

-- Nothing was begun, and nothing written.
abbrev NothingBefore : (held held' : Option (List ℕ)) → (status : ℕ) → Type 0
NothingBefore held held' status = (2 ≤ status) × (status ≤ 3) × (held' ≡ held)

-- ---- Over any feed.
module _ {D C I O K : Type 0} (unread : D → Option (List ℕ))
    (takes : D → Result Next FeedFault → List ℕ → D → Type 0) (says : D → Bool → D → Type 0)
    (passes : D → Refusal → Result (Unit {0}) NotKept → D → Type 0)
    (opens : C → Option (I × O) → C → Type 0) (closes : C → I → O → C → Type 0)
    (remaining : I → Option (List ℕ)) (contents : O → Option (List ℕ))
    (gives : (path : List ℕ) → ServerState → Progress → K → Type 0) (refuses : List ℕ → StateFault → Type 0)
    (ends : K → Result (Unit {0}) StateFault → Type 0) (leaves : K → KeptServer → Type 0) (is_clean : K → Type 0)
    (saves fails : K → KeptServer → K → Type 0) where
  abbrev In : (path : List ℕ) (address : ℕ) (options : LiveOptions) (c c' : C) (feed feed' : D)
      (held held' : Option (List ℕ)) (said said' : Told) (status : ℕ) → Type 0
  In = LivesIn unread takes says passes gives ends leaves is_clean saves fails opens closes remaining contents

  by_saves : (options : LiveOptions) (c c' : C) (x : Standing ServerState K) (k' : K) (held' : Option (List ℕ))
      (feed feed' : D) (said said' : Told) (status : ℕ)
      → Lives unread takes says passes opens closes remaining contents leaves is_clean saves fails options c c' x k'
      held'
      feed feed' said said' status → Saved saves fails x.keeper k'
  by_saves options c c' x k' held' feed feed' said said' status (went, taken, applied, lives, feed_is, ended) =
      keeper_comes (FromFeed unread takes says passes options.reading.input options.reading.strict) opens closes
      remaining contents leaves is_clean saves fails (run_of options) c c' (record {
        sends = x;
        takes = record { feed = feed; lines = options.lines_before; refused = false; said = said };
        applied = true;
        unknown = 0;
        behind = GoesOn;
      }) k' held' taken applied went lives

  kept_since : (path : List ℕ) (address : ℕ) (options : LiveOptions) (c c' : C) (feed feed' : D)
      (held held' : Option (List ℕ)) (said said' : Told) (status : ℕ)
      → (run : In path address options c c' feed feed' held held' said said' status)
      → KeptFrom gives saves fails path address run.server run.progress run.keeper_after
  kept_since path address options c c' feed feed' held held' said said' status run =
      let x : Standing ServerState K =
      record { runs = run.server; keeper = run.keeper; progress = run.progress; held = held } in
      let (count, saved) = by_saves options c c' x run.keeper_after held' feed feed' said run.between run.status
      run.lives in
      record { k = run.keeper; given = run.given; is_to = run.address_is; count = count; saved = saved }

  -- ---- What is kept.

  pub record KeptSo (path : List ℕ) (address : ℕ) (options : LiveOptions) (feed feed' : D) (said : Told)
      : Type 0 where
    pub lines : List (List ℕ × Given)
    pub takes_all : TakesAll options (unread feed) (unread feed') said lines
    pub s : ServerState
    pub before : Progress
    pub k' : K
    pub from : KeptFrom gives saves fails path address s before k'
    pub ended : ends k' (Ok tt)
    pub kept : is_clean k' → (left : KeptServer) → leaves k' left
        → HasTaken before (length (messages_in lines)) left

  kept_so : (path : List ℕ) (address : ℕ) (options : LiveOptions) (c c' : C) (feed feed' : D)
      (held held' : Option (List ℕ)) (said said' : Told) (status : ℕ)
      → In path address options c c' feed feed' held held' said said' status → IsDone status
      → KeptSo path address options feed feed' said
  kept_so path address options c c' feed feed' held held' said said' status run done =
      let (well, same) = closed_well path run.status run.closed status run.between said' run.is_closed done in
      let x : Standing ServerState K =
      record { runs = run.server; keeper = run.keeper; progress = run.progress; held = held } in
      let (lines, takes_all, kept) = done_is_kept_lem unread takes says passes opens closes remaining contents leaves
      is_clean saves fails options c c' x run.keeper_after held' feed feed' said run.between run.status run.lives
      (subst IsDone same done) in
      record {
        lines = lines;
        takes_all = takes_all;
        s = run.server;
        before = run.progress;
        k' = run.keeper_after;
        from = kept_since path address options c c' feed feed' held held' said said' status run;
        ended = subst (λ closed. ends run.keeper_after closed) well run.closes_so;
        kept = λ clean. kept
            (run.settled (clean_back unread takes says passes opens closes remaining contents leaves is_clean saves
            fails options c c' x run.keeper_after held' feed feed' said run.between run.status run.lives clean)) clean;
      }

  kept_from : (state : Option (List ℕ)) (path : List ℕ) (address : ℕ) (options : LiveOptions) (c c' : C)
      (feed feed' : D) (held held' : Option (List ℕ)) (said said' : Told) (status : ℕ) → state ≡ Some path
      → SendsFrom unread takes says passes opens closes remaining contents gives refuses ends leaves is_clean saves
      fails state address options c c' feed feed' held held' said said' status → IsDone status
      → KeptSo path address options feed feed' said
  kept_from state path address options c c' feed feed' held held' said said' status is sends done =
      by (subst (λ at. SendsFrom unread takes says passes opens closes remaining contents gives refuses ends leaves
      is_clean saves fails at address options c c' feed feed' held held' said said' status) is sends)
    where
      by : SendsFrom unread takes says passes opens closes remaining contents gives refuses ends leaves is_clean saves
          fails (Some path) address options c c' feed feed' held held' said said' status
          → KeptSo path address options feed feed' said
      by (inl run) = kept_so path address options c c' feed feed' held held' said said' status run done
      by (inr ((fault, refused, three, told), feed_is, same, connect)) = absurd (not_three status done three)

  -- ---- What a crash leaves.

  pub record LeavesSo (path : List ℕ) (address : ℕ) (options : LiveOptions) (feed feed' : D) (said : Told)
      : Type 0 where
    pub lines : List (List ℕ × Given)
    pub takes_some : TakesSome options (unread feed) (unread feed') said lines
    pub s : ServerState
    pub before : Progress
    pub k' : K
    pub from : KeptFrom gives saves fails path address s before k'
    pub outlives : is_clean k' → (left : KeptServer) → leaves k' left
        → OutlivesLive opens closes remaining contents saves fails options before s (length (messages_in lines)) left

  leaves_so : (path : List ℕ) (address : ℕ) (options : LiveOptions) (c c' : C) (feed feed' : D)
      (held held' : Option (List ℕ)) (said said' : Told) (status : ℕ)
      → In path address options c c' feed feed' held held' said said' status
      → LeavesSo path address options feed feed' said
  leaves_so path address options c c' feed feed' held held' said said' status run =
      let x : Standing ServerState K =
      record { runs = run.server; keeper = run.keeper; progress = run.progress; held = held } in
      let (lines, takes_some, outlives) = what_a_crash_leaves_lem unread takes says passes opens closes remaining
      contents leaves is_clean saves fails options c c' x run.keeper_after held' feed feed' said run.between run.status
      run.lives in
      record {
        lines = lines;
        takes_some = takes_some;
        s = run.server;
        before = run.progress;
        k' = run.keeper_after;
        from = kept_since path address options c c' feed feed' held held' said said' status run;
        outlives = λ clean. outlives
            (run.settled (clean_back unread takes says passes opens closes remaining contents leaves is_clean saves
            fails options c c' x run.keeper_after held' feed feed' said run.between run.status run.lives clean)) clean;
      }

  leaves_from : (state : Option (List ℕ)) (path : List ℕ) (address : ℕ) (options : LiveOptions) (c c' : C)
      (feed feed' : D) (held held' : Option (List ℕ)) (said said' : Told) (status : ℕ) → state ≡ Some path
      → SendsFrom unread takes says passes opens closes remaining contents gives refuses ends leaves is_clean saves
      fails state address options c c' feed feed' held held' said said' status
      → NothingBefore held held' status ⊎ LeavesSo path address options feed feed' said
  leaves_from state path address options c c' feed feed' held held' said said' status is sends =
      by (subst (λ at. SendsFrom unread takes says passes opens closes remaining contents gives refuses ends leaves
      is_clean saves fails at address options c c' feed feed' held held' said said' status) is sends)
    where
      by : SendsFrom unread takes says passes opens closes remaining contents gives refuses ends leaves is_clean saves
          fails (Some path) address options c c' feed feed' held held' said said' status
          → NothingBefore held held' status ⊎ LeavesSo path address options feed feed' said
      by (inl run) = inr (leaves_so path address options c c' feed feed' held held' said said' status run)
      by (inr ((fault, refused, three, told), feed_is, same, connect)) =
          inl (
            (let least : 2 ≤ status = omega (arith, three) in least),
            (let most : status ≤ 3 = omega (arith, three) in most),
            same,
          )

  -- ---- What is told.

  pub record ToldSo (begins : ServerState → Progress → Type 0) (options : LiveOptions) (feed feed' : D)
      (held held' : Option (List ℕ)) (said : Told) (status : ℕ) : Type 0 where
    pub lines : List (List ℕ × Given)
    pub takes_all : TakesAll options (unread feed) (unread feed') said lines
    pub s : ServerState
    pub before : Progress
    pub begun : begins s before
    pub codes : List (Option Code)
    pub text : List ℕ
    pub again : ℕ
    pub count : length codes ≡ length (messages_in lines)
    pub once : options.rejoin ≡ false → again ≡ 0
    pub tells : TellsAll options before s again (messages_in lines) codes text
    pub appended : Appends held held' text
    pub status_is : IsStatusOf lines codes status

  told_so : {M : Type 0} (begins : ServerState → Progress → Type 0) (leaves_so : M → KeptServer → Type 0)
      (clean_so : M → Type 0) (saves_so fails_so : M → KeptServer → M → Type 0) (options : LiveOptions) (c c' : C)
      (x : Standing ServerState M) (k' : M) (held' : Option (List ℕ)) (feed feed' : D) (said said' : Told) (status : ℕ)
      → Lives unread takes says passes opens closes remaining contents leaves_so clean_so saves_so fails_so options c c'
      x k' held' feed feed' said said' status → begins x.runs x.progress → IsDone status
      → ToldSo begins options feed feed' x.held held' said status
  told_so begins leaves_so clean_so saves_so fails_so options c c' x k' held' feed feed' said said' status lives begun
      done =
      let (lines, takes_all, codes, text, count, (again, once, tells), appended, status_is) =
      told_is_taken_lem unread takes says passes opens closes remaining contents leaves_so clean_so saves_so fails_so
      options c c' x k' held' feed feed' said said' status lives done in
      record {
        lines = lines;
        takes_all = takes_all;
        s = x.runs;
        before = x.progress;
        begun = begun;
        codes = codes;
        text = text;
        again = again;
        count = count;
        once = once;
        tells = tells;
        appended = appended;
        status_is = status_is;
      }

  told_from : (state : Option (List ℕ)) (address : ℕ) (options : LiveOptions) (c c' : C)
      (feed feed' : D) (held held' : Option (List ℕ)) (said said' : Told) (status : ℕ)
      → SendsFrom unread takes says passes opens closes remaining contents gives refuses ends leaves is_clean saves
      fails state address options c c' feed feed' held held' said said' status → IsDone status
      → ToldSo (BeginsWith gives state address) options feed feed' held held' said status
  told_from (Some path) address options c c' feed feed' held held' said said' status (inl run) done =
      let (well, same) = closed_well path run.status run.closed status run.between said' run.is_closed done in
      let t = told_so (BeginsWith gives (Some path) address) leaves is_clean saves fails options c c'
      (record { runs = run.server; keeper = run.keeper; progress = run.progress; held = held }) run.keeper_after held'
      feed feed' said run.between run.status run.lives (run.address_is, (run.keeper, run.given))
      (subst IsDone same done) in
      subst (λ n. ToldSo (BeginsWith gives (Some path) address) options feed feed' held held' said n) (sym same) t
  told_from (Some path) address options c c' feed feed' held held' said said' status
      (inr ((fault, refused, three, told), feed_is, same, connect)) done = absurd (not_three status done three)
  told_from None address options c c' feed feed' held held' said said' status (keeper, keeper', lives) done =
      told_so (BeginsWith gives None address) (λ k left. Unit {0}) (λ k. ⊥) (λ k left k'. k' ≡ k) (λ k left k'. ⊥)
      options c c' (record {
        runs = idle_at address;
        keeper = keeper;
        progress = record { taken = 0; joined = false };
        held = held;
      }) keeper' held' feed feed' said said' status lives (refl, refl) done

-- ---- Over TCP.
module _ {A J O K : Type 0} (answers : A → (milliseconds : Option ℕ) → Bool → A → Type 0)
    (remaining : J → Option (List ℕ)) (contents : O → Option (List ℕ))
    (gives : (path : List ℕ) → ServerState → Progress → K → Type 0) (refuses : List ℕ → StateFault → Type 0)
    (ends : K → Result (Unit {0}) StateFault → Type 0) (leaves : K → KeptServer → Type 0) (is_clean : K → Type 0)
    (saves fails : K → KeptServer → K → Type 0) where
  abbrev Feed : Type 0
  Feed = Kept (Reads A) (Option (List ℕ))

  -- what of its input was not taken, and what its calls do, as the clause of `run_send_over_tcp` has them
  abbrev left_of : Feed → Option (List ℕ)
  left_of p = feed_unread p.feed

  abbrev taking : Feed → Result Next FeedFault → List ℕ → Feed → Type 0
  taking = Takes (λ f answer line f'. ReadsNoMore f f')

  abbrev asking : Feed → Bool → Feed → Type 0
  asking = Asks (Looks answers)

  abbrev passing : Feed → Refusal → Result (Unit {0}) NotKept → Feed → Type 0
  passing = PassesTo (λ l bytes l'. Appends l l' bytes) (λ l l'. Keeps l l')

  -- all of the input is left to a feed of which nothing was read
  left_at_first : (arrival : A) (unread : Option (List ℕ)) (ledger : Option (Option (List ℕ)))
      → feed_unread (begun_with arrival unread ledger).feed ≡ unread
  left_at_first arrival unread ledger = all_left unread

  pub sent_is_kept_lem : SentIsKept answers remaining contents gives refuses ends leaves is_clean saves fails
  sent_is_kept_lem job arrival told unread held held' said said' status path (mid, run, inr not_begun, tells_end) keeps
      done =
      absurd (not_between status done not_begun.at_least not_begun.at_most)
  sent_is_kept_lem job arrival told unread held held' said said' status path (
    mid,
    run,
    inl (
      station,
      c,
      c',
      ledger,
      feed',
      begun,
      between,
      dials,
      begins,
      there,
      inr ((nobody, two, why), feed_is, same, connect),
      tells,
    ),
    tells_end,
  )
      keeps done = absurd (not_two status done two)
  sent_is_kept_lem job arrival told unread held held' said said' status path (
    mid,
    run,
    inl (
      station,
      c,
      c',
      ledger,
      feed',
      begun,
      between,
      dials,
      begins,
      there,
      inl (options, is_for, one, sends),
      tells,
    ),
    tells_end,
  ) keeps done =
      let k = kept_from left_of taking asking passing _ _ _ _ gives refuses ends leaves is_clean saves fails _ path
      (address_of job.site job.encoder) options c c'
      (begun_with arrival unread ledger) feed' held mid begun between status keeps sends done in (
        options,
        k.lines,
        record {
          station = station;
          is_for = is_for;
          said = begun;
          unread' = feed_unread feed'.feed;
          takes = subst (λ left. TakesAll options left (feed_unread feed'.feed) begun k.lines)
              (left_at_first arrival unread ledger) k.takes_all;
        },
        k.s,
        k.before,
        k.k',
        k.from,
        k.ended,
        k.kept,
      )

  pub sent_outlives_lem : SentOutlives answers remaining contents gives refuses ends leaves is_clean saves fails
  sent_outlives_lem job arrival told unread held held' said said' status path (mid, run, inr not_begun, tells_end)
      keeps =
      inl (
        not_begun.at_least,
        not_begun.at_most,
        (run, subst (λ h. TellsEnd job.form status h held' run said') not_begun.same tells_end),
      )
  sent_outlives_lem job arrival told unread held held' said said' status path (
    mid,
    run,
    inl (
      station,
      c,
      c',
      ledger,
      feed',
      begun,
      between,
      dials,
      begins,
      there,
      inr ((nobody, two, why), feed_is, same, connect),
      tells,
    ),
    tells_end,
  ) keeps =
      inl (
        (let least : 2 ≤ status = omega (arith, two) in least),
        (let most : status ≤ 3 = omega (arith, two) in most),
        (run, subst (λ h. TellsEnd job.form status h held' run said') same tells_end),
      )
  sent_outlives_lem job arrival told unread held held' said said' status path (
    mid,
    run,
    inl (
      station,
      c,
      c',
      ledger,
      feed',
      begun,
      between,
      dials,
      begins,
      there,
      inl (options, is_for, one, sends),
      tells,
    ),
    tells_end,
  ) keeps =
      elim (leaves_from left_of taking asking passing _ _ _ _ gives refuses ends leaves is_clean saves fails _ path
      (address_of job.site job.encoder) options c c'
      (begun_with arrival unread ledger) feed' held mid begun between status keeps sends) [
        | inl nothing ↦ inl (
          nothing.0,
          nothing.1,
          (run, subst (λ h. TellsEnd job.form status h held' run said') nothing.2 tells_end),
        )
        | inr l ↦ inr (
          options,
          l.lines,
          record {
            station = station;
            is_for = is_for;
            said = begun;
            unread' = feed_unread feed'.feed;
            takes = subst (λ left. TakesSome options left (feed_unread feed'.feed) begun l.lines)
                (left_at_first arrival unread ledger) l.takes_some;
          },
          l.s,
          l.before,
          l.k',
          l.from,
          l.outlives,
        )
      ]

  pub sent_is_told_lem : SentIsTold answers remaining contents gives refuses ends leaves is_clean saves fails
  sent_is_told_lem job arrival told unread held held' said said' status (mid, run, inr not_begun, tells_end) done =
      absurd (not_between status done not_begun.at_least not_begun.at_most)
  sent_is_told_lem job arrival told unread held held' said said' status (
    mid,
    run,
    inl (
      station,
      c,
      c',
      ledger,
      feed',
      begun,
      between,
      dials,
      begins,
      there,
      inr ((nobody, two, why), feed_is, same, connect),
      tells,
    ),
    tells_end,
  )
      done = absurd (not_two status done two)
  sent_is_told_lem job arrival told unread held held' said said' status (
    mid,
    run,
    inl (
      station,
      c,
      c',
      ledger,
      feed',
      begun,
      between,
      dials,
      begins,
      there,
      inl (options, is_for, one, sends),
      tells,
    ),
    tells_end,
  ) done =
      let t = told_from left_of taking asking passing _ _ _ _ gives refuses ends leaves is_clean saves fails _
      (address_of job.site job.encoder) options c c'
      (begun_with arrival unread ledger) feed' held mid begun between status sends done in (
        options,
        t.lines,
        record {
          station = station;
          is_for = is_for;
          said = begun;
          unread' = feed_unread feed'.feed;
          takes = subst (λ left. TakesAll options left (feed_unread feed'.feed) begun t.lines)
              (left_at_first arrival unread ledger) t.takes_all;
        },
        t.s,
        t.before,
        t.begun,
        t.codes,
        t.text,
        t.again,
        mid,
        run,
        t.count,
        t.once,
        t.tells,
        t.appended,
        tells_end,
        t.status_is,
      )
