use Rattle.std.proofs.Common.{rules, [], subst, ◌∙◌}
use Rattle.titles.specs.Titles.{NoneStands}
use Rattle.titles.proofs.title.text_of.Goals as goal

pub returns-clause-none : goal.returns-clause-none
returns-clause-none c =
    let none : NoneStands [] c.as_slice.result.now = search rules in
    subst (NoneStands []) (c.as_slice.ensures.value ∙ c.in_ok-characters.ensures) none
