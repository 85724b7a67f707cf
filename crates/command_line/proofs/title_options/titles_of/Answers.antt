use Rattle.std.proofs.Common.{◌≡◌, sym, ap, ◌∙◌, inl, inr, codes}
use Rattle.clap.specs.Words.{found_of, rows_of}
use Rattle.clap.proofs.WalkLemmas.{first_value-rows}
use Rattle.command_line.specs.TitleLines.{input_text}
use Rattle.command_line.proofs.Options.{text_or}
use Rattle.command_line.proofs.title_options.titles_of.Goals as goal

pub no_titles-requires : goal.no_titles-requires
no_titles-requires c =
    let text : c.unwrap_or.result.now ≡ input_text (rows_of (found_of c.args.found.now)) =
    ap (λ s. s.now) c.unwrap_or.ensures ∙ text_or c.get_str.result _ _
    (c.get_str.ensures ∙ first_value-rows (found_of c.args.found.now) (codes "input")) in
    sym text ∙ c.in-phrases.is

pub options_of-requires : goal.options_of-requires
options_of-requires c =
    let text : c.unwrap_or.result.now ≡ input_text (rows_of (found_of c.args.found.now)) =
    ap (λ s. s.now) c.unwrap_or.ensures ∙ text_or c.get_str.result _ _
    (c.get_str.ensures ∙ first_value-rows (found_of c.args.found.now) (codes "input")) in
    sym text ∙ c.in-titles.is

pub returns-in_default-clause-refused : goal.returns-in_default-clause-refused
returns-in_default-clause-refused c =
    let text : c.unwrap_or.result.now ≡ input_text (rows_of (found_of c.args.found.now)) =
    ap (λ s. s.now) c.unwrap_or.ensures ∙ text_or c.get_str.result _ _
    (c.get_str.ensures ∙ first_value-rows (found_of c.args.found.now) (codes "input")) in
    inr (
      c.refusal-in_default.ensures,
      inl (λ is. c.in_default.not-phrases (text ∙ is), λ is. c.in_default.not-titles (text ∙ is)),
    )
