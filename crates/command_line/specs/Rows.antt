-- The rows of the table of commands (profile).
use Rattle.std.specs.Prelude.{◌∷◌, ◌++◌, [], ℕ, List, map, Some, true, false}
use Rattle.clap.specs.Walk.{Rule}
use Rattle.clap.specs.Simple.{Shape, new_rule}
use Rattle.clap.specs.declared.builder.action.ArgAction.TheVariants.{Set}
use Rattle.command_line.specs.declared.option_row.OptionRow.{OptionRow}
use Rattle.command_line.specs.declared.option_row.OptionRow.TheVariants as row
use Rattle.command_line.specs.declared.command_row.CommandRow.{CommandRow}
use Rattle.command_line.specs.CommandLine.{command_with, filled_option, filled_word, flag, maybe_word, rule_for}
use Rattle.command_line.specs.CommandLine.{word_option}

-- An argument with a word, which has to be given.
abbrev pub argument_rule : (name : List ℕ) → Rule
argument_rule name = record (new_rule name) { action = Some Set; value_names = 1; required = true }

-- The rule of a row.
abbrev pub rule_of_row : OptionRow → Rule
rule_of_row (row.Flag name help) = flag name.now
rule_of_row (row.Number option) = rule_for option
rule_of_row (row.MaybeNumber option) = record (rule_for option) { required = false }
rule_of_row (row.MaybeWord name value help) = maybe_word name.now
rule_of_row (row.MaybeFile name help) = filled_word name.now
rule_of_row (row.FilledOr name value help default) = filled_option name.now default.now
rule_of_row (row.WordOr name value help default) = word_option name.now (Some default.now)
rule_of_row (row.MaybeWordOr name value help missing) = record (maybe_word name.now) {
  range = Some (record { start_inclusive = 0; end_inclusive = 1 });
  missing = missing.now ∷ [];
}
rule_of_row (row.Argument name value help) = argument_rule name.now

-- A command with these rules too.
abbrev pub with_rules : Shape → List Rule → Shape
with_rules shape rules = record shape { rules = shape.rules ++ rules }

-- The command of a row.
abbrev pub shape_of_row : CommandRow → Shape
shape_of_row command = command_with command.name.now (map rule_of_row command.options.now)
