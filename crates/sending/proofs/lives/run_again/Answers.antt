use Rattle.std.proofs.Common.{Ok, Err, refl, subst, inl, inr}
use Rattle.sending.specs.Run.{Renews}
use Rattle.sending.proofs.lives.run_again.Goals as goal

pub returns-in-Err-clause-runs : goal.returns-in-Err-clause-runs
returns-in-Err-clause-runs g c = λ before.
    let k = g.K.Keep in
    let renewed = c.renew.new in (
      c.new-server.result,
      (
        record {
          runs = c.new-server.result;
          keeper = renewed.keeper;
          progress = renewed.progress;
          held = renewed.teller.held;
        },
        c.new-server.ensures,
        inr (
          c.in-Err.stop,
          subst (λ form. Renews k.leaves k.is_clean k.saves k.fails form c.args.course.now.unknown (record {
            runs = before;
            keeper = c.args.keeper.now;
            progress = c.args.course.now.progress;
            held = c.args.teller.now.held;
          }) (record {
            runs = c.new-server.result;
            keeper = renewed.keeper;
            progress = renewed.progress;
            held = renewed.teller.held;
          }) (Err c.in-Err.stop)) c.form_of.ensures (c.in-Err.ensures.renews before),
          refl,
          refl,
          refl,
        ),
      ),
    )

pub returns-in-Ok-clause-runs : goal.returns-in-Ok-clause-runs
returns-in-Ok-clause-runs g c =
    let k = g.K.Keep in
    let renewed = c.renew.new in
    let (last, runs) = c.run_one.ensures.runs in
    λ before. (
      last,
      (
        record {
          runs = c.new-server.result;
          keeper = renewed.keeper;
          progress = renewed.progress;
          held = renewed.teller.held;
        },
        c.new-server.ensures,
        inl (
          subst (λ form. Renews k.leaves k.is_clean k.saves k.fails form c.args.course.now.unknown (record {
            runs = before;
            keeper = c.args.keeper.now;
            progress = c.args.course.now.progress;
            held = c.args.teller.now.held;
          }) (record {
            runs = c.new-server.result;
            keeper = renewed.keeper;
            progress = renewed.progress;
            held = renewed.teller.held;
          }) (Ok tt)) c.form_of.ensures (c.in-Ok.ensures.renews before),
          runs,
        ),
      ),
    )
