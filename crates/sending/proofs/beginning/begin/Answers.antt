use Rattle.std.proofs.Common.{rules, ◌≡◌, true, false, refl, sym, subst, inl, Ok}
use Rattle.kept_jobs.specs.Stops.{TellsKept}
use Rattle.sending.specs.Forms.{taken_in}
use Rattle.sending.specs.Beginning.{BeginsAnewIf}
use Rattle.sending.proofs.beginning.begin.Goals as goal

pub returns-then-due-clause-begins : goal.returns-then-due-clause-begins
returns-then-due-clause-begins g c =
    let k = g.K.Keep in
    let due : c.args.due ≡ true = search rules in
    let now = c.begin_anew.new in
    let told = c.tell_taken.new.self.held in
    inl (
      record { runs = c.args.server.now; keeper = c.args.keeper.now; progress = c.args.progress.now; held = told },
      (
        refl,
        subst (λ n. TellsKept (taken_in c.args.form c.args.progress.now.taken n) (Ok tt) c.args.teller.now.held
            told (Ok tt)) c.waiting.ensures.value c.in_ok-tell_taken.ensures.tells,
      ),
      subst (λ d. BeginsAnewIf k.leaves k.is_clean k.saves k.fails c.args.form d (record {
        runs = c.args.server.now;
        keeper = c.args.keeper.now;
        progress = c.args.progress.now;
        held = told;
      }) (record {
        runs = now.server;
        keeper = now.keeper;
        progress = now.progress;
        held = now.teller.held;
      }) c.begin_anew.result) (sym due) c.begin_anew.ensures.begins,
    )

pub returns-clause-begins : goal.returns-clause-begins
returns-clause-begins g c =
    let k = g.K.Keep in
    let due : c.args.due ≡ false = search rules in
    let told = c.tell_taken.new.self.held in
    inl (
      record { runs = c.args.server.now; keeper = c.args.keeper.now; progress = c.args.progress.now; held = told },
      (
        refl,
        subst (λ n. TellsKept (taken_in c.args.form c.args.progress.now.taken n) (Ok tt) c.args.teller.now.held
            told (Ok tt)) c.waiting.ensures.value c.in_ok-tell_taken.ensures.tells,
      ),
      subst (λ d. BeginsAnewIf k.leaves k.is_clean k.saves k.fails c.args.form d (record {
        runs = c.args.server.now;
        keeper = c.args.keeper.now;
        progress = c.args.progress.now;
        held = told;
      }) (record {
        runs = c.args.server.now;
        keeper = c.args.keeper.now;
        progress = c.args.progress.now;
        held = told;
      }) (Ok tt)) (sym due) (refl, refl),
    )
