use Rattle.std.proofs.Common.{rules, ◌≡◌, refl, sym, ◌∙◌, inl, inr, subst}
use Rattle.std.specs.Prelude.{IfOk}
use Rattle.notices.specs.Told.{Says}
use Rattle.state_files.specs.declared.fault.StateFault.TheVariants as state
use Rattle.state_jobs.specs.Texts.{IsClosed}
use Rattle.state_jobs.proofs.Stopping.{not_done, not_refused}
use Rattle.state_jobs.proofs.Ending.{status_after, told_so, closed_well, says_end}
use Rattle.uecp_text.specs.Faults.{error_lines}
use Rattle.state_jobs.specs.Kept.{SentKept}
use Rattle.state_jobs.proofs.server_job.send_in.Goals as goal

pub returns-then-progress-ge-TAKEN_MAX-clause-sent : goal.returns-then-progress-ge-TAKEN_MAX-clause-sent
returns-then-progress-ge-TAKEN_MAX-clause-sent g c =
    let said = c.fail_file-then-progress-ge-TAKEN_MAX in
    inr (
      said.ensures.status,
      (
        state.Damaged,
        said.ensures.said,
        inr (c.in-Ok.server, c.in-Ok.progress, c.in-Ok.keeper, c.in-Ok.ensures.given, search rules, refl),
        refl,
        refl,
        refl,
      ),
    )

pub returns-else-progress-ge-TAKEN_MAX-clause-status : goal.returns-else-progress-ge-TAKEN_MAX-clause-status
returns-else-progress-ge-TAKEN_MAX-clause-status g c =
    status_after _ _ _ _ _ _ c.run_server_kept-status.ensures.status c.closed_so.ensures.closed

pub returns-else-progress-ge-TAKEN_MAX-clause-sent : goal.returns-else-progress-ge-TAKEN_MAX-clause-sent
returns-else-progress-ge-TAKEN_MAX-clause-sent g c =
    let run = c.run_server_kept-status in
    let went = run.ensures.runs.0 in
    inl (
      went,
      c.close_server.result,
      run.result,
      run.new.errors,
      record {
        server = c.in-Ok.server;
        progress = c.in-Ok.progress;
        keeper = c.in-Ok.keeper;
        keeper_after = run.new.keeper;
        given = c.in-Ok.ensures.given;
        address_is = c.in-Ok.ensures.address;
        settled = c.in-Ok.ensures.settled;
        runs = run.ensures.runs.1;
        kept = λ was clean. run.ensures.kept (told_so went _ _ _ run.ensures.runs.2 was)
            (c.in-Ok.ensures.settled (run.ensures.clean clean)) clean;
        told = λ was. run.ensures.told (told_so went _ _ _ run.ensures.runs.2 was);
        outlives = λ clean. run.ensures.outlives (c.in-Ok.ensures.settled (run.ensures.clean clean)) clean;
        clean = run.ensures.clean;
        is_closed = c.close_server.ensures;
      },
      run.ensures.runs.2,
      c.closed_so.ensures.closed,
    )

pub returns-else-progress-ge-TAKEN_MAX-clause-done : goal.returns-else-progress-ge-TAKEN_MAX-clause-done
returns-else-progress-ge-TAKEN_MAX-clause-done g c = λ is.
    let run = c.run_server_kept-status in
    let k = g.S.ServerKeeper.Keep in
    let well = closed_well _ _ _ _ _ _ (λ three. not_done _ three is) c.closed_so.ensures.closed in
    let zero : run.result ≡ 0 = well.1 ∙ is in
    let same : c.closed_so.new.errors ≡ run.new.errors =
    subst (λ x. IfOk x (λ done. c.closed_so.new.errors ≡ run.new.errors)) well.0 c.closed_so.ensures.same in
    let sent : SentKept (g.S.OpenStates.gives_server c.args.place.states.now) k.leaves k.is_clean c.args.place.path.now
    c.args.address
    (g.R.Read.remaining c.args.reader.now) (g.R.Read.remaining run.new.reader) = record {
      server = c.in-Ok.server;
      progress = c.in-Ok.progress;
      keeper = c.in-Ok.keeper;
      keeper_after = run.new.keeper;
      given = c.in-Ok.ensures.given;
      address_is = c.in-Ok.ensures.address;
      settled = c.in-Ok.ensures.settled;
      kept = λ clean. run.ensures.kept (inl zero) (c.in-Ok.ensures.settled (run.ensures.clean clean)) clean;
      clean = run.ensures.clean;
    } in
    let done = run.ensures.done zero in
    (sent, done.0, same ∙ done.1)

pub returns-else-progress-ge-TAKEN_MAX-clause-refused : goal.returns-else-progress-ge-TAKEN_MAX-clause-refused
returns-else-progress-ge-TAKEN_MAX-clause-refused g c = λ is.
    let run = c.run_server_kept-status in
    let k = g.S.ServerKeeper.Keep in
    let told = c.args.errors.now in
    let well = closed_well _ _ _ _ _ _ (λ three. not_refused _ three is) c.closed_so.ensures.closed in
    let one : run.result ≡ 1 = well.1 ∙ is in
    let sent : SentKept (g.S.OpenStates.gives_server c.args.place.states.now) k.leaves k.is_clean c.args.place.path.now
    c.args.address
    (g.R.Read.remaining c.args.reader.now) (g.R.Read.remaining run.new.reader) = record {
      server = c.in-Ok.server;
      progress = c.in-Ok.progress;
      keeper = c.in-Ok.keeper;
      keeper_after = run.new.keeper;
      given = c.in-Ok.ensures.given;
      address_is = c.in-Ok.ensures.address;
      settled = c.in-Ok.ensures.settled;
      kept = λ clean. run.ensures.kept (inr one) (c.in-Ok.ensures.settled (run.ensures.clean clean)) clean;
      clean = run.ensures.clean;
    } in
    let refused = run.ensures.refused one in
    (sent, (refused.0, refused.1, subst (λ x. Says told x (error_lines refused.0)) (sym well.2) refused.2))

pub returns-else-progress-ge-TAKEN_MAX-clause-said : goal.returns-else-progress-ge-TAKEN_MAX-clause-said
returns-else-progress-ge-TAKEN_MAX-clause-said g c = λ is.
    let run = c.run_server_kept-status in
    let between = run.new.errors in
    let told' = c.closed_so.new.errors in
    says_end c.args.place.path.now run.ensures.runs.0 run.result c.close_server.result _ between told'
    run.ensures.runs.2
    (subst (λ r. IsClosed c.args.place.path.now run.result c.close_server.result r between told') is
    c.closed_so.ensures.closed)

pub returns-then-progress-ge-TAKEN_MAX-clause-said : goal.returns-then-progress-ge-TAKEN_MAX-clause-said
returns-then-progress-ge-TAKEN_MAX-clause-said g c = λ is.
    let said = c.fail_file-then-progress-ge-TAKEN_MAX in
    inl (state.Damaged, said.ensures.said)
