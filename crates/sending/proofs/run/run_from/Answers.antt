use Rattle.std.proofs.Common.{Ok, Err, refl, subst, inl, inr}
use Rattle.kept_jobs.specs.Stops.{Then}
use Rattle.line_batches.specs.declared.taking.After.TheVariants.{GoesOn}
use Rattle.sending.specs.Beginning.{TellsTaken, BeginsAnewIf}
use Rattle.sending.specs.Accounts.{form_of}
use Rattle.sending.specs.Run.{RunsFor, live}
use Rattle.sending.proofs.run.run_from.Goals as goal

pub returns-in-Err-clause-lives : goal.returns-in-Err-clause-lives
returns-in-Err-clause-lives g c =
    let k = g.K.Keep in
    let now = c.begin.new in
    inr (
      record { runs = now.server; keeper = now.keeper; progress = now.progress; held = now.teller.held },
      c.in-Err.stop,
      subst (λ due. Then (TellsTaken (form_of c.args.options.now.account))
          (BeginsAnewIf k.leaves k.is_clean k.saves k.fails
          (form_of c.args.options.now.account) due) (record {
            runs = c.args.start.server;
            keeper = c.args.keeper.now;
            progress = c.args.start.progress;
            held = c.args.teller.now.held;
          }) (record { runs = now.server; keeper = now.keeper; progress = now.progress; held = now.teller.held })
          (Err c.in-Err.stop)) c.is_due-due.ensures
          (subst (λ form. Then (TellsTaken form) (BeginsAnewIf k.leaves k.is_clean k.saves k.fails form
          c.is_due-due.result) (record {
            runs = c.args.start.server;
            keeper = c.args.keeper.now;
            progress = c.args.start.progress;
            held = c.args.teller.now.held;
          }) (record { runs = now.server; keeper = now.keeper; progress = now.progress; held = now.teller.held })
          (Err c.in-Err.stop)) c.form_of.ensures c.in-Err.ensures.begins),
      refl,
      refl,
      refl,
      refl,
      refl,
      refl,
    )

pub returns-in-Ok-clause-lives : goal.returns-in-Ok-clause-lives
returns-in-Ok-clause-lives g c =
    let k = g.K.Keep in
    let now = c.begin.new in
    let ran = c.run_all-ran in
    let (again, last, runs, is_last) = ran.ensures.runs in
    inl (
      record { runs = now.server; keeper = now.keeper; progress = now.progress; held = now.teller.held },
      again,
      live last ran.new.keeper (g.S.Source.at ran.new.source) ran.new.teller ran.new.course,
      subst (λ due. Then (TellsTaken (form_of c.args.options.now.account))
          (BeginsAnewIf k.leaves k.is_clean k.saves k.fails
          (form_of c.args.options.now.account) due) (record {
            runs = c.args.start.server;
            keeper = c.args.keeper.now;
            progress = c.args.start.progress;
            held = c.args.teller.now.held;
          }) (record { runs = now.server; keeper = now.keeper; progress = now.progress; held = now.teller.held }) (Ok
          tt)) c.is_due-due.ensures
          (subst (λ form. Then (TellsTaken form) (BeginsAnewIf k.leaves k.is_clean k.saves k.fails form
          c.is_due-due.result) (record {
            runs = c.args.start.server;
            keeper = c.args.keeper.now;
            progress = c.args.start.progress;
            held = c.args.teller.now.held;
          }) (record { runs = now.server; keeper = now.keeper; progress = now.progress; held = now.teller.held })
          (Ok tt)) c.form_of.ensures c.in-Ok.ensures.begins),
      subst (λ due. RunsFor (g.S.Source.takes (g.S.Source.how c.args.source.now))
          g.C.Connections.opens
          g.C.Connections.closes g.C.Input.Read.remaining
          g.C.Output.Write.contents
          k.leaves k.is_clean k.saves
          k.fails c.args.options.now due again c.args.connect.now ran.new.connect (record {
            sends = record {
              runs = now.server;
              keeper = now.keeper;
              progress = now.progress;
              held = now.teller.held;
            };
            takes = g.S.Source.at c.args.source.now;
            applied = c.args.applied.now;
            unknown = 0;
            behind = GoesOn;
          }) (live last ran.new.keeper (g.S.Source.at ran.new.source) ran.new.teller ran.new.course) ran.result)
          c.is_due-due.ensures runs,
      is_last,
      refl,
      refl,
      refl,
      refl,
    )
