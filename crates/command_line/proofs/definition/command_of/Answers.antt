use Rattle.std.proofs.Common.{◌≡◌, ◌∷◌, [], codes, map, ap, sym, ◌∙◌, append_assoc}
use Rattle.std.proofs.lemmas.Result.{IfOk-weaker}
use Rattle.clap.specs.Simple.{App, new_shape, shape_of, shape_of_fields}
use Rattle.command_line.specs.CommandLine.{filled_word, flag}
use Rattle.command_line.specs.Rows.{rule_of_row, with_rules}
use Rattle.command_line.proofs.definition.command_of.Goals as goal

pub returns : goal.returns
returns c =
    let row = c.args.row.now in
    let own = map rule_of_row row.options.now in
    let config = filled_word (codes "config") ∷ [] in
    let check = flag (codes "check-config") ∷ [] in
    let is_new : shape_of c.with_page-named.result ≡ new_shape row.name.now =
    c.with_page-named.ensures ∙ ap shape_of_fields c.after_help-told.ensures ∙ ap shape_of_fields c.about.ensures
    ∙ ap (λ (a : App). a.top) c.new.ensures.app in
    let first = c.in_ok-command.ensures ∙ ap (λ s. with_rules s own) is_new in
    IfOk-weaker c.with_options-2.result _ _
    (λ whole is. is ∙ ap (λ s. with_rules s (filled_word (codes "config") ∷ check)) first
    ∙ ap (λ l. record (new_shape row.name.now) { rules = l }) (sym (append_assoc own config check)))
    c.with_options-2.ensures
