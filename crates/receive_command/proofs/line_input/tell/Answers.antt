use Rattle.std.proofs.Common.{rules, ◌≡◌, ◌++◌, ◌∙◌, Err, is_some, IfErr, refl, ap, sym, subst, IsTrue}
use Rattle.std.proofs.lemmas.Result.{IfOk-weaker, IfErr-weaker}
use Rattle.std.specs.Io.KnownBytes.{Appends}
use Rattle.uecp_text.specs.declared.run_fault.RunFault.TheVariants.{OutOfMemory}
use Rattle.uecp_text.specs.Written.{Begins}
use Rattle.receive_command.specs.DisplayView.{shown_in}
use Rattle.receive_command.specs.View.{FailsToTell}
use Rattle.receive_command.proofs.line_input.tell.Goals as goal

pub returns-clause-told : goal.returns-clause-told
returns-clause-told g c =
    let held = g.W.Write.contents c.args.writer.now in
    let held' = g.W.Write.contents c.write_out.new.writer in
    let told = c.put_change.ensures in
    let after = c.put_change.new.output in
    let whole : IsTrue after.is_whole = search rules in
    let said : after.bytes ≡ told.0 = (told.2 whole).1 ∙ ap (λ b. b ++ told.0) c.requires.empty in
    IfOk-weaker c.write_out.result _ _ (λ _ written. (told.0, told.1, subst (Appends held held') said written))
    c.write_out.ensures.written

pub returns-clause-failed : goal.returns-clause-failed
returns-clause-failed g c =
    let held = g.W.Write.contents c.args.writer.now in
    let held' = g.W.Write.contents c.write_out.new.writer in
    let told = c.put_change.ensures in
    let after = c.put_change.new.output in
    let whole : IsTrue after.is_whole = search rules in
    let said : after.bytes ≡ told.0 = (told.2 whole).1 ∙ ap (λ b. b ++ told.0) c.requires.empty in
    IfErr-weaker c.write_out.result _ _ (λ fault is.
    subst (λ f. FailsToTell c.args.form (is_some c.args.clock) (shown_in c.args.before.now) (shown_in c.args.after.now)
    held held' f) (sym is) (told.0, told.1, subst (Begins held held') said c.write_out.ensures.begun))
    c.write_out.ensures.failed

pub returns-in_err-check-clause-failed : goal.returns-in_err-check-clause-failed
returns-in_err-check-clause-failed g c =
    let held = g.W.Write.contents c.args.writer.now in
    let wanting : c.from_residual.result ≡ Err OutOfMemory = search rules in
    subst (λ r. IfErr r (FailsToTell c.args.form (is_some c.args.clock) (shown_in c.args.before.now)
    (shown_in c.args.after.now) held held)) (sym wanting) refl
