-- What the program's command line is built of.
use Rattle.std.proofs.Common.{◌≡◌, ◌++◌, ◌∷◌, [], ℕ, ◌+◌, ◌<◌, List, true, false, refl, ap, ap₂, ◌∙◌, sym, append_assoc}
use Rattle.std.proofs.Common.{map, take, length, get_or}
use Rattle.std.proofs.lemmas.List.{map-append, take_more}
use Rattle.command_line.specs.CommandLine.{configurable, with_commands}
use Rattle.clap.specs.Words.{AddsArg, AddsSubcommand, App, Rule, Shape, app_of, rule_of, shape_of}
use Rattle.clap.specs.Words.{with_subcommand}
use Rattle.clap.specs.declared.builder.command.Command.TheViews.{out-Command as fields_of}
use Rattle.clap.specs.declared.builder.arg.Arg.{Arg}
use Rattle.clap.specs.declared.builder.command.Command.{Command}
use Rattle.clap.proofs.WalkLemmas.{both}
use Rattle.clap.proofs.SimpleLemmas.{is_false}

-- a command with one more argument
pub arg_added : (old new : Command) (a : Arg) (s : Shape) (r : Rule) → AddsArg old a new → a.global ≡ false
    → shape_of old ≡ s → rule_of a ≡ r → shape_of new ≡ record s { rules = s.rules ++ r ∷ [] }
arg_added old new a s r added own is_s is_r =
    ap (λ (x : App). x.top) (added.shape own) ∙ ap₂ (λ (x : Shape) (y : Rule). record x { rules = x.rules ++ y ∷ [] })
    is_s is_r

-- one more row of a table
pub row_more : {A B : Type 0} (f : A → B) (xs : List A) (i : ℕ) (other : A) → i < length xs
    → map f (take (i + 1) xs) ≡ map f (take i xs) ++ f (get_or xs i other) ∷ []
row_more f xs i other lt =
    ap (map f) (take_more xs i other lt) ∙ map-append f (take i xs) (get_or xs i other ∷ [])

-- rules with that of one more row
pub rules_more : {A : Type 0} (f : A → Rule) (rules : List Rule) (xs : List A) (i : ℕ) (other : A) → i < length xs
    → (rules ++ map f (take i xs)) ++ f (get_or xs i other) ∷ [] ≡ rules ++ map f (take (i + 1) xs)
rules_more f rules xs i other lt = append_assoc rules (map f (take i xs)) (f (get_or xs i other) ∷ [])
    ∙ ap (λ l. rules ++ l) (sym (row_more f xs i other lt))

-- a program with one more command behind the others
pub command_behind : (a : App) (ss : List Shape) (s : Shape)
    → with_commands a (ss ++ s ∷ []) ≡ with_subcommand (with_commands a ss) (configurable s)
command_behind a [] s = refl
command_behind a (t ∷ ss) s = command_behind (with_subcommand a (configurable t)) ss s

-- a plain command has no global argument
plain_own : (c : Command) → (shape_of c).is_plain ≡ true → (fields_of c).has_globals ≡ false
plain_own c plain = is_false _ (both _ _ (both _ _ (both _ _ plain).1).1).0

-- a command with one more subcommand
pub sub_added : (old sub new : Command) (a : App) (s : Shape) → AddsSubcommand old sub new → s.is_plain ≡ true
    → app_of old ≡ a → shape_of sub ≡ s → app_of new ≡ with_subcommand a s
sub_added old sub new a s added plain is_a is_s =
    added.shape (plain_own sub (ap (λ (x : Shape). x.is_plain) is_s ∙ plain)) ∙ ap₂ with_subcommand is_a is_s
