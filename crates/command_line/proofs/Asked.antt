-- What the words of the command line ask for.
use Rattle.std.proofs.Common.{◌≡◌, ◌⊎◌, ℕ, List, [], refl, ap, ◌∙◌, sym, subst, true, inl, inr}
use Rattle.std.proofs.Common.{codes}
use Rattle.std.specs.Prelude.{Option, Some, None, Box, option_map, IfSome, Result, Ok, Err, IsErrAnd, IfErr}
use Rattle.std.specs.Prelude.{unwrap_or}
use Rattle.std.specs.Box.{box_value}
use Rattle.clap.specs.Walk.{Row, Text}
use Rattle.clap.specs.Simple.{App, HasMatchesOf, is_simple, subcommand_of, subcommand_rows, subcommand_rows_of}
use Rattle.clap.specs.Faults.{fault_of, is_simple_and_free}
use Rattle.clap.specs.Kinds.{HasKind}
use Rattle.clap.specs.Matches.{subcommand_name_of}
use Rattle.clap.specs.declared.error.Error.{Error}
use Rattle.clap.specs.declared.parser.matches.ArgMatches.{ArgMatches}
use Rattle.clap.specs.declared.parser.matches.ArgMatches.TheViews.{out-ArgMatches, out-SubCommand}
use Rattle.clap.specs.declared.parser.matches.SubCommand.{SubCommand}
use Rattle.clap.proofs.OnLiterals.{clap_on_literals}
use Rattle.commands.specs.declared.job.Job.{Job}
use Rattle.commands.specs.declared.job.Job.TheVariants.{AnswerWith, ShowWith, MakeWith, LineWith, EncoderWith}
use Rattle.commands.specs.declared.job.Job.TheVariants.{ServerWith, Send, Watch, State, Receive, Conformance, Page}
use Rattle.commands.specs.declared.job.Job.TheVariants.{MakeFitted, Quote, Phrases}
use Rattle.commands.specs.Jobs.{in_full, in_short}
use Rattle.command_line.specs.declared.command_name.CommandName.{CommandName}
use Rattle.command_line.specs.declared.command_name.CommandName.TheVariants as command
use Rattle.command_line.specs.declared.usage.Usage.{Usage}
use Rattle.command_line.specs.declared.usage.Usage.TheVariants.{Refused, NotAList, OutOfMemory}
use Rattle.command_line.specs.Ranges.{IsFullInRange, IsInRange, IsPlaceInRange, IsSetupInRange, Lies}
use Rattle.command_line.specs.Usages.{SaysError}
use Rattle.command_line.specs.CommandLine.{AreOptions, Asks, IsFullOf, IsMaybe, IsOption, IsPlace}
use Rattle.command_line.specs.CommandLine.{RefusesLine, RefusesList, RefusesJobOf, RefusesScript, RefusesWords}
use Rattle.command_line.specs.CommandLine.{command_word}
use Rattle.command_line.specs.CommandLine.{services_text, uecp_app}
use Rattle.command_line.specs.TitleLines.{RefusesLines}
use Rattle.command_line.proofs.Helps.{one_named}

-- ---- by what clap's clauses say of a parse
simple_app : is_simple uecp_app ≡ true
unfolding clap_on_literals
simple_app = refl

free_app : is_simple_and_free uecp_app ≡ true
unfolding clap_on_literals
free_app = refl

pub met_of : (a : App) (words : List Text) (m : ArgMatches) → a ≡ uecp_app → HasMatchesOf a words m
    → subcommand_rows_of m ≡ subcommand_of uecp_app words
met_of a words m is h = (subst (λ (x : App). HasMatchesOf x words m) is h simple_app).1

pub faultless_of : (a : App) (words : List Text) → a ≡ uecp_app → (is_simple_and_free a ≡ true → fault_of a words ≡ [])
    → fault_of uecp_app words ≡ []
faultless_of a words is h = subst (λ (x : App). is_simple_and_free x ≡ true → fault_of x words ≡ []) is h free_app

pub faulty_of : (a : App) (words : List Text) (e : Error) → a ≡ uecp_app
    → (is_simple_and_free a ≡ true → HasKind (fault_of a words) e) → HasKind (fault_of uecp_app words) e
faulty_of a words e is h = subst (λ (x : App). is_simple_and_free x ≡ true → HasKind (fault_of x words) e) is h free_app

-- ---- the name and the rows of what was met
pub both_met : {Z : Type 0} (o : Option (Box SubCommand Z)) (name : Text) (rows : List Row)
    → Some name ≡ option_map (λ b. (out-SubCommand (box_value b)).name.now) o
    → Some rows ≡ option_map (λ p. p.1) (subcommand_rows o) → subcommand_rows o ≡ Some (name, rows)
both_met None name rows e f = cc
both_met (Some b) name rows e f = cc

name_met : {Z : Type 0} (o : Option (Box SubCommand Z))
    → option_map (λ b. (out-SubCommand (box_value b)).name.now) o ≡ option_map (λ p. p.0) (subcommand_rows o)
name_met None = refl
name_met (Some b) = refl

-- ---- what the words ask for
pub asks : (words : List Text) (m : ArgMatches) (name : Text) (rows : List Row) (full asked : Job)
    → Some name ≡ subcommand_name_of m → Some rows ≡ option_map (λ p. p.1) (subcommand_rows_of m)
    → subcommand_rows_of m ≡ subcommand_of uecp_app words → fault_of uecp_app words ≡ [] → IsFullOf name rows full
    → asked ≡ in_short full → Asks words asked
asks words m name rows full asked e f met none is short = record {
  faultless = none;
  name = name;
  rows = rows;
  command = sym met ∙ both_met (out-ArgMatches m).subcommand name rows e f;
  full = full;
  is_full = is;
  is_short = short;
}

-- the words with no fault name one of the fourteen commands
pub no_other : (words : List Text) (m : ArgMatches) (word : Text) → Some word ≡ subcommand_name_of m
    → subcommand_rows_of m ≡ subcommand_of uecp_app words → fault_of uecp_app words ≡ []
    → ((command : CommandName) → command_word command ≡ word → ⊥) → ⊥
no_other words m word e met none no_command =
    let n = one_named words none in
    let name : Some word ≡ Some n.0.0 =
    e ∙ name_met (out-ArgMatches m).subcommand ∙ ap (option_map (λ p. p.0)) (met ∙ n.1) in
    no_command n.2.0 (sym (ap (λ o. unwrap_or o []) name ∙ n.2.1))

gives_no_list : (words : List Text) (m : ArgMatches) (name : Text) (rows : List Row) (why : Usage)
    → Some name ≡ subcommand_name_of m → Some rows ≡ option_map (λ p. p.1) (subcommand_rows_of m)
    → subcommand_rows_of m ≡ subcommand_of uecp_app words
    → (name ≡ codes "answer") ⊎ ((name ≡ codes "line") ⊎ (name ≡ codes "encoder"))
    → RefusesList (services_text rows) why → RefusesWords words why
gives_no_list words m name rows why e f met has_encoder refused = elim refused [
  | inl is ↦ subst (RefusesWords words) (sym is) tt
  | inr none ↦ subst (RefusesWords words) (sym none.0) (record {
    name = name;
    rows = rows;
    command = sym met ∙ both_met (out-ArgMatches m).subcommand name rows e f;
    has_encoder = has_encoder;
    no_list = none.1;
  })
]

-- what the matches of `line` ask for was refused
refuses_line : (words : List Text) (m : ArgMatches) (name : Text) (rows : List Row) (why : Usage)
    → Some name ≡ subcommand_name_of m → Some rows ≡ option_map (λ p. p.1) (subcommand_rows_of m)
    → subcommand_rows_of m ≡ subcommand_of uecp_app words → name ≡ codes "line"
    → RefusesLine rows why → RefusesWords words why
refuses_line words m name rows why e f met is_line (inl list) =
    gives_no_list words m name rows why e f met (inr (inl is_line)) list
refuses_line words m name rows why e f met is_line (inr (error, is, kind, no_form)) =
    subst (RefusesWords words) (sym is) (inr (
      kind,
      inl (record {
        rows = rows;
        command = sym met ∙ both_met (out-ArgMatches m).subcommand name rows e f
            ∙ ap (λ (n : Text). Some (n, rows)) is_line;
        no_form = no_form;
      }),
    ))

-- what the matches of `send` ask for was refused
refuses_lines : (words : List Text) (m : ArgMatches) (rows : List Row) (why : Usage)
    → Some (codes "send") ≡ subcommand_name_of m → Some rows ≡ option_map (λ p. p.1) (subcommand_rows_of m)
    → subcommand_rows_of m ≡ subcommand_of uecp_app words → RefusesLines rows why → RefusesWords words why
refuses_lines words m rows why e f met (inl out) = subst (RefusesWords words) (sym out) tt
refuses_lines words m rows (Refused error) e f met (inr (kind, no_lines)) = inr (
  kind,
  inr (inl (record {
    rows = rows;
    command = sym met ∙ both_met (out-ArgMatches m).subcommand (codes "send") rows e f;
    no_lines = no_lines;
  })),
)
refuses_lines words m rows NotAList e f met (inr (never, no_lines)) = absurd never
refuses_lines words m rows OutOfMemory e f met (inr (memory, no_lines)) = tt

-- what the matches of `make` ask for was refused
refuses_script : (words : List Text) (m : ArgMatches) (rows : List Row) (why : Usage)
    → Some (codes "make") ≡ subcommand_name_of m → Some rows ≡ option_map (λ p. p.1) (subcommand_rows_of m)
    → subcommand_rows_of m ≡ subcommand_of uecp_app words → RefusesScript rows why → RefusesWords words why
refuses_script words m rows why e f met (inl out) = subst (RefusesWords words) (sym out) tt
refuses_script words m rows (Refused error) e f met (inr (kind, no_words)) = inr (
  kind,
  inr (inr (record {
    rows = rows;
    command = sym met ∙ both_met (out-ArgMatches m).subcommand (codes "make") rows e f;
    no_words = no_words;
  })),
)
refuses_script words m rows NotAList e f met (inr (never, no_words)) = absurd never
refuses_script words m rows OutOfMemory e f met (inr (memory, no_words)) = tt

-- what the matches of a command ask for was refused
no_memory : (words : List Text) (why : Usage) → why ≡ OutOfMemory → RefusesWords words why
no_memory words why is = subst (RefusesWords words) (sym is) tt

pub refuses_job : (words : List Text) (m : ArgMatches) (command : CommandName) (rows : List Row) (why : Usage)
    → Some (command_word command) ≡ subcommand_name_of m → Some rows ≡ option_map (λ p. p.1) (subcommand_rows_of m)
    → subcommand_rows_of m ≡ subcommand_of uecp_app words → RefusesJobOf command rows why → RefusesWords words why
refuses_job words m command.Answer rows why e f met refused =
    gives_no_list words m (codes "answer") rows why e f met (inl refl) refused
refuses_job words m command.Encoder rows why e f met refused =
    gives_no_list words m (codes "encoder") rows why e f met (inr (inr refl)) refused
refuses_job words m command.Line rows why e f met refused =
    refuses_line words m (codes "line") rows why e f met refl refused
refuses_job words m command.Show rows why e f met refused = no_memory words why refused
refuses_job words m command.Make rows why e f met refused = refuses_script words m rows why e f met refused
refuses_job words m command.Server rows why e f met refused = no_memory words why refused
refuses_job words m command.Send rows why e f met refused = refuses_lines words m rows why e f met refused
refuses_job words m command.Watch rows why e f met refused = no_memory words why refused
refuses_job words m command.State rows why e f met refused = no_memory words why refused
refuses_job words m command.Receive rows why e f met refused = no_memory words why refused
refuses_job words m command.Conformance rows why e f met refused = no_memory words why refused
refuses_job words m command.Page rows why e f met refused = no_memory words why refused
refuses_job words m command.Quote rows why e f met refused = no_memory words why refused
refuses_job words m command.Phrases rows why e f met refused = no_memory words why refused

says_why : (words : List Text) (e : Error) (why : Usage) → HasKind (fault_of uecp_app words) e → SaysError e why
    → RefusesWords words why
says_why words e why kinds says = elim says [
  | inl out ↦ subst (RefusesWords words) (sym out.1) tt
  | inr is ↦ subst (RefusesWords words) (sym is.1) (elim kinds [ inl out ↦ absurd (is.0 out) | inr among ↦ inl among ])
]

pub refuses_words : (words : List Text) (e : Error) (r : Result Job Usage) → HasKind (fault_of uecp_app words) e
    → IsErrAnd r (SaysError e) → IfErr r (RefusesWords words)
refuses_words words e (Ok asked) kinds says = tt
refuses_words words e (Err why) kinds says = says_why words e why kinds says

-- ---- ranges
in_range : (text : Option Text) (least greatest number : ℕ) → IsOption text least greatest number
    → Lies least greatest number
in_range text least greatest number o = (o.at_least, o.at_most)

place_in_range : (rows : List Row) (site encoder : ℕ) → IsPlace rows site encoder → IsPlaceInRange site encoder
place_in_range rows site encoder p = (in_range _ _ _ _ p.0, in_range _ _ _ _ p.1)

setup_in_range : (rows : List Row) (site encoder sets : ℕ) (services : List ℕ)
    → AreOptions rows site encoder sets services → IsSetupInRange site encoder sets
setup_in_range rows site encoder sets services o =
    (place_in_range rows site encoder o.is_place, in_range _ _ _ _ o.is_sets)

some_in_range : (text : Option Text) (least greatest : ℕ) (number : Option ℕ) → IsMaybe text least greatest number
    → IfSome number (Lies least greatest)
some_in_range text least greatest None o = tt
some_in_range text least greatest (Some n) o = o.range

-- the numbers of such a job are in their ranges
full_in_range : (name : Text) (rows : List Row) (full : Job) → IsFullOf name rows full → IsInRange full
full_in_range name rows (AnswerWith o) is = (
  setup_in_range rows o.site o.encoder o.sets o.services.items is.1.are_options,
  some_in_range _ _ _ _ is.1.is_air,
)
full_in_range name rows (LineWith o) is =
    setup_in_range rows o.site o.encoder o.sets o.services.items is.1.are_options
full_in_range name rows (EncoderWith o) is = let has = is.1 in (
  setup_in_range rows o.site o.encoder o.sets o.services.items has.are_options,
  some_in_range _ _ _ _ has.is_port,
  some_in_range _ _ _ _ has.is_air,
  in_range _ _ _ _ has.is_connections,
  in_range _ _ _ _ has.is_turns,
  in_range _ _ _ _ has.is_idle,
  some_in_range _ _ _ _ has.is_yield,
  some_in_range _ _ _ _ has.is_log_wait,
  in_range _ _ _ _ has.is_seed,
)
full_in_range name rows (ServerWith o) is = let has = is.1 in (
  place_in_range rows o.site o.encoder has.is_place,
  in_range _ _ _ _ has.is_port,
  in_range _ _ _ _ has.is_tries,
  in_range _ _ _ _ has.is_timeout,
  in_range _ _ _ _ has.is_turns,
  in_range _ _ _ _ has.is_reconnects,
  in_range _ _ _ _ has.is_window,
)
full_in_range name rows (Send o) is = let has = is.1 in (
  place_in_range rows o.site o.encoder has.is_place,
  in_range _ _ _ _ has.is_port,
  in_range _ _ _ _ has.is_tries,
  in_range _ _ _ _ has.is_timeout,
  in_range _ _ _ _ has.is_turns,
  in_range _ _ _ _ has.is_window,
  in_range _ _ _ _ has.is_retry_every,
  in_range _ _ _ _ has.is_give_up,
  in_range _ _ _ _ has.is_silent,
  in_range _ _ _ _ has.is_from_line,
)
full_in_range name rows (Conformance o) is = let has = is.1 in (
  place_in_range rows o.site o.encoder has.is_place,
  in_range _ _ _ _ has.is_timeout,
  in_range _ _ _ _ has.is_quiet,
  in_range _ _ _ _ has.is_silent,
)
full_in_range name rows (ShowWith o) is = tt
full_in_range name rows (MakeWith o) is = tt
full_in_range name rows (MakeFitted region) is = tt
full_in_range name rows (Watch o) is = tt
full_in_range name rows (State file) is = tt
full_in_range name rows (Receive o) is = tt
full_in_range name rows (Page o) is = tt
full_in_range name rows Quote is = tt
full_in_range name rows Phrases is = tt
full_in_range name rows full is = absurd is

-- so are those of the job in few words
pub are_in_range : (name : Text) (rows : List Row) (full asked : Job) → IsFullOf name rows full
    → in_full asked ≡ in_full full → IsInRange asked
are_in_range name rows full asked is same =
    subst IsFullInRange (sym same) (full_in_range name rows full is)
