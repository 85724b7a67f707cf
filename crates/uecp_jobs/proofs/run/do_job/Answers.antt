use Rattle.std.proofs.Common.{◌≡◌, [], None, sym, ap, subst, inr}
use Rattle.std.proofs.lemmas.Result.{IfOk-weaker}
use Rattle.uecp_frame.specs.Findings.{Closed}
use Rattle.output_forms.specs.Forms.{found_lines, answer_lines, store_lines}
use Rattle.output_forms.specs.declared.form.Form.TheVariants.{Lines}
use Rattle.commands.specs.declared.job.Job.TheVariants.{Show, ShowWith, Make, MakeWith}
use Rattle.uecp_jobs.specs.Commands.{ShowsIn, AnswersIn}
use Rattle.uecp_jobs.specs.Playing.{PlaysIn, closing_lines}
use Rattle.uecp_jobs.specs.Setups.{IsSetup, RefusesSetup, encoder_at_first, line_at_first}
use Rattle.uecp_jobs.specs.Jobs.{DoesJob, ByCommand, IsDescribed, RefusesJob, options}
use Rattle.uecp_jobs.proofs.Doing.{does_by, script_does, refused_or_does}
use Rattle.uecp_jobs.proofs.run.do_job.Goals as goal

pub returns-in-Show-clause-does : goal.returns-in-Show-clause-does
returns-in-Show-clause-does g c =
    let left = g.R.Read.remaining in
    let held = g.W.Write.contents in
    let i = c.in-Show in
    let now = c.show in
    inr (subst (λ job. DoesJob job (left c.args.reader.now) (left now.new.reader) (held c.args.writer.now)
    (held now.new.writer) now.result) (sym i.is)
    (does_by Show (ShowsIn (found_lines Lines)) Closed (λ part. []) (left c.args.reader.now)
    (left now.new.reader)
    (held c.args.writer.now) (held now.new.writer) now.result now.ensures (λ tells told. told)))

pub returns-in-ShowWith-clause-does : goal.returns-in-ShowWith-clause-does
returns-in-ShowWith-clause-does g c =
    let left = g.R.Read.remaining in
    let held = g.W.Write.contents in
    let i = c.in-ShowWith in
    let now = c.show-in-ShowWith in
    inr (subst (λ job. DoesJob job (left c.args.reader.now) (left now.new.reader) (held c.args.writer.now)
    (held now.new.writer) now.result) (sym i.is)
    (does_by (ShowWith i.options) (ShowsIn (found_lines i.options.form)) Closed (λ part. []) (left c.args.reader.now)
    (left now.new.reader)
    (held c.args.writer.now) (held now.new.writer) now.result now.ensures (λ tells told. told)))

pub returns-in-Make-clause-does : goal.returns-in-Make-clause-does
returns-in-Make-clause-does g c =
    let left = g.R.Read.remaining in
    let held = g.W.Write.contents in
    let i = c.in-Make in
    let now = c.make in
    inr (subst (λ job. DoesJob job (left c.args.reader.now) (left now.new.reader) (held c.args.writer.now)
    (held now.new.writer) now.result) (sym i.is)
    (script_does Make None (left c.args.reader.now) (left now.new.reader) (held c.args.writer.now)
    (held now.new.writer) now.result now.ensures (λ tells told. told)))

pub returns-in-MakeWith-clause-does : goal.returns-in-MakeWith-clause-does
returns-in-MakeWith-clause-does g c =
    let left = g.R.Read.remaining in
    let held = g.W.Write.contents in
    let i = c.in-MakeWith in
    let now = c.make-in-MakeWith in
    inr (subst (λ job. DoesJob job (left c.args.reader.now) (left now.new.reader) (held c.args.writer.now)
    (held now.new.writer) now.result) (sym i.is)
    (script_does (MakeWith i.options) i.options.words (left c.args.reader.now) (left now.new.reader)
    (held c.args.writer.now) (held now.new.writer) now.result now.ensures (λ tells told. told)))

pub returns-in-Answer-clause-described : goal.returns-in-Answer-clause-described
returns-in-Answer-clause-described g c =
    IfOk-weaker c.answer.result _ _
    (λ _ described. subst IsDescribed (sym c.in-Answer.is)
    (subst (λ services. IsSetup (options c.in-Answer.site c.in-Answer.encoder
    c.in-Answer.sets services)) c.as_slice.ensures.value
    described)) c.answer.ensures.described

pub returns-in-Answer-clause-does : goal.returns-in-Answer-clause-does
returns-in-Answer-clause-does g c =
    let left = g.R.Read.remaining in
    let held = g.W.Write.contents in
    let i = c.in-Answer in
    let now = c.answer in
    let o = options i.site i.encoder i.sets c.as_slice.result.now in
    let is_setup : o ≡ options i.site i.encoder i.sets i.services.items =
    ap (options i.site i.encoder i.sets) c.as_slice.ensures.value in
    refused_or_does c.args.job.now o (AnswersIn (answer_lines Lines)) (encoder_at_first o)
    (λ e. store_lines Lines i.store e.value)
    (left c.args.reader.now) (left now.new.reader) (held c.args.writer.now) (held now.new.writer)
    (◌≡◌ {A = g.row.R.Denot} now.new.reader c.args.reader.now)
    (◌≡◌ {A = g.row.W.Denot} now.new.writer c.args.writer.now) now.result
    (λ fault refused. subst (λ job. RefusesJob job fault) (sym i.is)
    (subst (λ o. RefusesSetup o fault) is_setup refused))
    now.ensures.answers
    (λ tells told. subst (λ job. ByCommand job tells) (sym i.is)
    (subst (λ o. tells _ (AnswersIn (answer_lines Lines)) (encoder_at_first o)
    (λ e. store_lines Lines i.store e.value)) is_setup told))

pub returns-in-AnswerWith-clause-described : goal.returns-in-AnswerWith-clause-described
returns-in-AnswerWith-clause-described g c =
    IfOk-weaker c.answer-in-AnswerWith.result _ _
    (λ _ described. subst IsDescribed (sym c.in-AnswerWith.is)
    (subst (λ services. IsSetup (options c.in-AnswerWith.options.site c.in-AnswerWith.options.encoder
    c.in-AnswerWith.options.sets services)) c.as_slice-in-AnswerWith.ensures.value
    described)) c.answer-in-AnswerWith.ensures.described

pub returns-in-AnswerWith-clause-does : goal.returns-in-AnswerWith-clause-does
returns-in-AnswerWith-clause-does g c =
    let left = g.R.Read.remaining in
    let held = g.W.Write.contents in
    let i = c.in-AnswerWith in
    let now = c.answer-in-AnswerWith in
    let o = options i.options.site i.options.encoder i.options.sets c.as_slice-in-AnswerWith.result.now in
    let is_setup : o ≡ options i.options.site i.options.encoder i.options.sets i.options.services.items =
    ap (options i.options.site i.options.encoder i.options.sets) c.as_slice-in-AnswerWith.ensures.value in
    refused_or_does c.args.job.now o (AnswersIn (answer_lines i.options.form)) (encoder_at_first o)
    (λ e. store_lines i.options.form i.options.store e.value)
    (left c.args.reader.now) (left now.new.reader) (held c.args.writer.now) (held now.new.writer)
    (◌≡◌ {A = g.row.R.Denot} now.new.reader c.args.reader.now)
    (◌≡◌ {A = g.row.W.Denot} now.new.writer c.args.writer.now) now.result
    (λ fault refused. subst (λ job. RefusesJob job fault) (sym i.is)
    (subst (λ o. RefusesSetup o fault) is_setup refused))
    now.ensures.answers
    (λ tells told. subst (λ job. ByCommand job tells) (sym i.is)
    (subst (λ o. tells _ (AnswersIn (answer_lines i.options.form)) (encoder_at_first o)
    (λ e. store_lines i.options.form i.options.store e.value)) is_setup told))

pub returns-in-Line-clause-described : goal.returns-in-Line-clause-described
returns-in-Line-clause-described g c =
    IfOk-weaker c.play.result _ _
    (λ _ described. subst IsDescribed (sym c.in-Line.is)
    (subst (λ services. IsSetup (options c.in-Line.site c.in-Line.encoder
    c.in-Line.sets services)) c.as_slice-in-Line.ensures.value
    described)) c.play.ensures.described

pub returns-in-Line-clause-does : goal.returns-in-Line-clause-does
returns-in-Line-clause-does g c =
    let left = g.R.Read.remaining in
    let held = g.W.Write.contents in
    let i = c.in-Line in
    let now = c.play in
    let o = options i.site i.encoder i.sets c.as_slice-in-Line.result.now in
    let is_setup : o ≡ options i.site i.encoder i.sets i.services.items =
    ap (options i.site i.encoder i.sets) c.as_slice-in-Line.ensures.value in
    refused_or_does c.args.job.now o (PlaysIn Lines) (line_at_first o)
    (closing_lines Lines i.store)
    (left c.args.reader.now) (left now.new.reader) (held c.args.writer.now) (held now.new.writer)
    (◌≡◌ {A = g.row.R.Denot} now.new.reader c.args.reader.now)
    (◌≡◌ {A = g.row.W.Denot} now.new.writer c.args.writer.now) now.result
    (λ fault refused. subst (λ job. RefusesJob job fault) (sym i.is)
    (subst (λ o. RefusesSetup o fault) is_setup refused))
    now.ensures.plays
    (λ tells told. subst (λ job. ByCommand job tells) (sym i.is)
    (subst (λ o. tells _ (PlaysIn Lines) (line_at_first o)
    (closing_lines Lines i.store)) is_setup told))

pub returns-in-LineWith-clause-described : goal.returns-in-LineWith-clause-described
returns-in-LineWith-clause-described g c =
    IfOk-weaker c.play-in-LineWith.result _ _
    (λ _ described. subst IsDescribed (sym c.in-LineWith.is)
    (subst (λ services. IsSetup (options c.in-LineWith.options.site c.in-LineWith.options.encoder
    c.in-LineWith.options.sets services)) c.as_slice-in-LineWith.ensures.value
    described)) c.play-in-LineWith.ensures.described

pub returns-in-LineWith-clause-does : goal.returns-in-LineWith-clause-does
returns-in-LineWith-clause-does g c =
    let left = g.R.Read.remaining in
    let held = g.W.Write.contents in
    let i = c.in-LineWith in
    let now = c.play-in-LineWith in
    let o = options i.options.site i.options.encoder i.options.sets c.as_slice-in-LineWith.result.now in
    let is_setup : o ≡ options i.options.site i.options.encoder i.options.sets i.options.services.items =
    ap (options i.options.site i.options.encoder i.options.sets) c.as_slice-in-LineWith.ensures.value in
    refused_or_does c.args.job.now o (PlaysIn i.options.form) (line_at_first o)
    (closing_lines i.options.form i.options.store)
    (left c.args.reader.now) (left now.new.reader) (held c.args.writer.now) (held now.new.writer)
    (◌≡◌ {A = g.row.R.Denot} now.new.reader c.args.reader.now)
    (◌≡◌ {A = g.row.W.Denot} now.new.writer c.args.writer.now) now.result
    (λ fault refused. subst (λ job. RefusesJob job fault) (sym i.is)
    (subst (λ o. RefusesSetup o fault) is_setup refused))
    now.ensures.plays
    (λ tells told. subst (λ job. ByCommand job tells) (sym i.is)
    (subst (λ o. tells _ (PlaysIn i.options.form) (line_at_first o)
    (closing_lines i.options.form i.options.store)) is_setup told))
