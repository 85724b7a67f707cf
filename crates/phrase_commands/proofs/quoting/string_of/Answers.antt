use Rattle.std.proofs.Common.{rules, ◌≡◌, [], refl, sym, ap, ◌∙◌, inr, chars, map}
use Rattle.std.specs.Prelude.{Some}
use Rattle.titles.specs.Titles.{NoneStands}
use Rattle.phrase_scripts.specs.Lines.{IsUnsaid}
use Rattle.phrase_commands.proofs.quoting.string_of.Goals as goal

pub returns-in_ok-fault_in-in-None-clause-err : goal.returns-in_ok-fault_in-in-None-clause-err
returns-in_ok-fault_in-in-None-clause-err c =
    let said : IsUnsaid c.in_ok-fault_in-in-None.field-0 = search rules in
    let none : NoneStands [] (chars c.in-Ok.line.now) = search rules in
    let same : c.in-Ok.line.now ≡ c.args.text.now = c.in-Ok.ensures.cases.0 in
    inr (
      said,
      λ bytes says. none bytes (bytes, says.1 ∙ ap (λ text. map Some (chars text)) (sym same), refl, says.2),
    )
