use Rattle.std.proofs.Common.{rules, ◌≡◌, ap, ap₂, ◌∙◌}
use Rattle.std.specs.Prelude.{Option, Some}
use Rattle.clap.specs.Words.{Rule, rule_of}
use Rattle.clap.specs.declared.builder.arg.Arg.{Arg}
use Rattle.clap.specs.declared.builder.value_parser.ValueParser.{ValueParser}
use Rattle.clap.specs.declared.builder.value_parser.ValueParser.TheVariants.{NonEmptyString}
use Rattle.command_line.proofs.arguments.filled_word.Goals as goal

pub returns-clause-rule : goal.returns-clause-rule
returns-clause-rule c =
    let parser : c.value_parser.result.value_parser ≡ Some NonEmptyString = search rules in
    ap rule_of c.value_parser.ensures.others
    ∙ ap₂ (λ (r : Rule) (p : Option ValueParser). record r { parser = p }) c.maybe_word.ensures.rule parser

pub returns-clause-own : goal.returns-clause-own
returns-clause-own c = ap (λ (a : Arg). a.global) c.value_parser.ensures.others ∙ c.maybe_word.ensures.own
