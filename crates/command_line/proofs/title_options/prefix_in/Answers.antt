use Rattle.std.proofs.Common.{rules, ◌≤◌, ℕ, List, [], chars, length, arith}
use Rattle.titles.specs.Titles.{NoneStands, Stands}
use Rattle.command_line.proofs.TitleTexts.{no_prefix}
use Rattle.command_line.proofs.title_options.prefix_in.Goals.{in_default-via-in-Some+else-len-le-PREFIX_MAX}
use Rattle.command_line.proofs.title_options.prefix_in.Goals.{in_default-via-in_default}
use Rattle.command_line.proofs.title_options.prefix_in.Goals as goal

pub returns-in_default-clause-none : goal.returns-in_default-clause-none
returns-in_default-clause-none c =
    elim c.in_default.branch [
      | in_default-via-in-Some+else-len-le-PREFIX_MAX w ↦
          let stands : Stands [] (chars c.args.text.now) w.in-Some.bytes.items = search rules in
          λ bytes is. no_prefix (chars c.args.text.now) w.in-Some.bytes.items stands
          (λ few. omega (arith, few, w.if-len-le-PREFIX_MAX.false, w.len.ensures)) bytes is.0 is.1
      | in_default-via-in_default w ↦
          let none : NoneStands [] (chars c.args.text.now) = search rules in
          λ bytes is. none bytes is.0
    ]
