use Rattle.std.proofs.Common.{rules, ◌≡◌, chars, ap, sym, subst, ◌∙◌, inl, inr}
use Rattle.std.specs.Prelude.{IsUtf8}
use Rattle.std.specs.Str.{trim}
use Rattle.std.specs.Str.Lossy.{utf8_lossy}
use Rattle.std.proofs.lemmas.Str.{utf8_lossy-IsUtf8}
use Rattle.titles.specs.Titles.{title_in}
use Rattle.titles.proofs.Given.{gives_title, refuses_title}
use Rattle.titles.proofs.title.title_of.Goals as goal

pub returns-in-Ok-clause-gives : goal.returns-in-Ok-clause-gives
returns-in-Ok-clause-gives c =
    let utf8 : IsUtf8 c.args.line.now = search rules in
    gives_title c.args.titles.now c.args.line.now c.trim.result.now c.title_in.result (inl utf8)
    (c.trim.ensures.trim ∙ ap trim (c.in-Ok.ensures.cases.0 ∙ sym (utf8_lossy-IsUtf8 c.args.line.now utf8)))
    c.title_in.ensures.gives

pub returns-in-Ok-clause-refused : goal.returns-in-Ok-clause-refused
returns-in-Ok-clause-refused c =
    let utf8 : IsUtf8 c.args.line.now = search rules in
    refuses_title c.args.titles.now c.args.line.now c.trim.result.now c.title_in.result
    (c.trim.ensures.trim ∙ ap trim (c.in-Ok.ensures.cases.0 ∙ sym (utf8_lossy-IsUtf8 c.args.line.now utf8)))
    c.title_in.ensures.refused
