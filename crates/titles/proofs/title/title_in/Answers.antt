use Rattle.std.proofs.Common.{rules, ◌≡◌, ◌≢◌, [], chars, false, inr, subst, ◌∙◌}
use Rattle.titles.specs.Titles.{NoneStands}
use Rattle.titles.proofs.title.title_in.Goals as goal

pub returns-clause-refused : goal.returns-clause-refused
returns-clause-refused c =
    let are = c.as_slice-characters.ensures.value ∙ c.in_ok-characters.ensures in
    let not_asked : c.args.titles.now.fit ≡ false = search rules in
    let some : c.as_slice-characters.result.now ≢ [] = search rules in
    let none : NoneStands c.args.titles.now.prefix.now c.as_slice-characters.result.now = search rules in
    inr (
      c.fault_at.ensures,
      (not_asked, subst (λ k. k ≢ []) are some, subst (NoneStands c.args.titles.now.prefix.now) are none),
    )
