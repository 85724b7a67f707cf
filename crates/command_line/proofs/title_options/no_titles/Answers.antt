use Rattle.std.proofs.Common.{◌≡◌, sym, ◌∙◌, inl, inr}
use Rattle.command_line.proofs.TitleTexts.{no_text}
use Rattle.command_line.proofs.title_options.no_titles.Goals.{then-prefix-via-then-prefix}
use Rattle.command_line.proofs.title_options.no_titles.Goals.{then-prefix-via-else-prefix+then-service}
use Rattle.command_line.proofs.title_options.no_titles.Goals as goal

pub returns-then-prefix-clause-refused : goal.returns-then-prefix-clause-refused
returns-then-prefix-clause-refused c =
    elim c.then-prefix.branch [
      | then-prefix-via-then-prefix w ↦
          inr (
            c.refusal.ensures,
            inr (inl (c.requires, inl (sym c.has_word-prefix.ensures ∙ w.if-prefix.true))),
          )
      | then-prefix-via-else-prefix+then-service w ↦
          inr (
            c.refusal.ensures,
            inr (inl (c.requires, inr (sym c.has_word-service.ensures ∙ w.if-service.true))),
          )
    ]

pub returns-clause-titles : goal.returns-clause-titles
returns-clause-titles c = (
  c.requires,
  no_text _ (sym c.has_word-prefix.ensures ∙ c.if-prefix.false),
  no_text _ (sym c.has_word-service.ensures ∙ c.if-service.false),
)
