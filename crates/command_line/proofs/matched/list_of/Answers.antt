use Rattle.std.proofs.Common.{◌≡◌, ap, ◌∙◌, codes, subst}
use Rattle.std.proofs.lemmas.Result.{IfOk-weaker, IfErr-weaker}
use Rattle.clap.specs.Words.{found_of, rows_of}
use Rattle.clap.proofs.WalkLemmas.{first_value-rows}
use Rattle.command_line.specs.CommandLine.{IsList, RefusesList, services_text}
use Rattle.command_line.proofs.Options.{text_or}
use Rattle.command_line.proofs.matched.list_of.Goals as goal

pub returns-clause-list : goal.returns-clause-list
returns-clause-list c =
    let found = found_of c.args.found.now in
    let text : c.unwrap_or.result.now ≡ services_text (rows_of found) =
    ap (λ s. s.now) c.unwrap_or.ensures ∙ text_or c.get_str.result _ _
    (c.get_str.ensures ∙ first_value-rows found (codes "services")) in
    IfOk-weaker c.services_of.result _ _ (λ services is. subst (λ list. IsList list services.items) text is)
    c.services_of.ensures.list

pub returns-clause-refused : goal.returns-clause-refused
returns-clause-refused c =
    let found = found_of c.args.found.now in
    let text : c.unwrap_or.result.now ≡ services_text (rows_of found) =
    ap (λ s. s.now) c.unwrap_or.ensures ∙ text_or c.get_str.result _ _
    (c.get_str.ensures ∙ first_value-rows found (codes "services")) in
    IfErr-weaker c.services_of.result _ _ (λ why is. subst (λ list. RefusesList list why) text is)
    c.services_of.ensures.refused
