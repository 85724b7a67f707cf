-- What the words of the command line name their line.
use Rattle.std.proofs.Common.{◌≡◌, ◌∙◌, List, [], sym, inr}
use Rattle.std.specs.Prelude.{Option, Some, Result, Ok, Err, IfOk, IfErr, option_map}
use Rattle.clap.specs.Walk.{Row, Text}
use Rattle.clap.specs.Simple.{subcommand_of, subcommand_rows_of}
use Rattle.clap.specs.Faults.{fault_of}
use Rattle.clap.specs.Matches.{subcommand_name_of}
use Rattle.clap.specs.declared.parser.matches.ArgMatches.{ArgMatches}
use Rattle.clap.specs.declared.parser.matches.ArgMatches.TheViews.{out-ArgMatches}
use Rattle.command_line.specs.CommandLine.{uecp_app}
use Rattle.command_line.specs.Naming.{GivesName, IsNameIn, RefusesName, RefusesNameIn}
use Rattle.command_line.specs.declared.usage.Usage.{Usage}
use Rattle.command_line.proofs.Asked.{both_met}

module _ {A : Type 0} (named : A → Option Text) (words : List Text) (m : ArgMatches) (command : Text) (rows : List Row)
    (is_command : Some command ≡ subcommand_name_of m)
    (are_rows : Some rows ≡ option_map (λ p. p.1) (subcommand_rows_of m))
    (met : subcommand_rows_of m ≡ subcommand_of uecp_app words) (none : fault_of uecp_app words ≡ []) where
  -- the name that the matches of their command have is that of the words
  pub given : (r : Result A Usage) → IfOk r (λ name. IsNameIn rows (named name))
      → IfOk r (λ name. GivesName words (named name))
  given (Ok name) is = inr (inr (
    none,
    command,
    rows,
    sym met ∙ both_met (out-ArgMatches m).subcommand command rows is_command are_rows,
    is,
  ))
  given (Err why) is = tt

  -- and so it is refused
  pub refused : (r : Result A Usage) → IfErr r (RefusesNameIn rows) → IfErr r (RefusesName words)
  refused (Ok name) is = tt
  refused (Err why) is = inr (
    none,
    command,
    rows,
    sym met ∙ both_met (out-ArgMatches m).subcommand command rows is_command are_rows,
    is,
  )
