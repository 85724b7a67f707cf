use Rattle.std.proofs.Common.{rules, ◌≡◌, ap, ap₂, ◌∙◌}
use Rattle.std.specs.Prelude.{Option, Some, pos}
use Rattle.clap.specs.Words.{Rule, rule_of}
use Rattle.clap.specs.declared.builder.arg.Arg.{Arg}
use Rattle.clap.specs.declared.builder.value_parser.ValueParser.{ValueParser}
use Rattle.clap.specs.declared.builder.value_parser.ValueParser.TheVariants.{Signed}
use Rattle.command_line.proofs.arguments.ranged.Goals as goal

pub returns-clause-rule : goal.returns-clause-rule
returns-clause-rule c =
    let option = c.args.option.now in
    let parser : c.value_parser.result.value_parser ≡ Some (Signed (pos option.least) (pos option.most)) =
    search rules in
    ap rule_of c.value_parser.ensures.others
    ∙ ap₂ (λ (r : Rule) (p : Option ValueParser). record r { parser = p }) c.maybe_word.ensures.rule parser

pub returns-clause-own : goal.returns-clause-own
returns-clause-own c = ap (λ (a : Arg). a.global) c.value_parser.ensures.others ∙ c.maybe_word.ensures.own
