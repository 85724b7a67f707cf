-- The command line that the program takes, and what it asks for (profile).
use Rattle.std.specs.Prelude.{◌≡◌, ◌⊎◌, ℕ, ◌≤◌, ◌==◌, Bool, true, false, not, ◌||◌, is_some, List, [], ◌∷◌, ◌++◌, codes}
use Rattle.std.specs.Prelude.{map, Option}
use Rattle.std.specs.Prelude.{Some, None, IfSome, Ok, is_none, option_map, unwrap_or, pos, if◌then◌else◌}
use Rattle.std.specs.List.{slice_split}
use Rattle.std.specs.String.{string_bytes}
use Rattle.std.specs.Str.Parse.{IsNumeral, without_leading_plus, digits_value}
use Rattle.hex.specs.Hex.{decode_sized}
use Rattle.clap.specs.Walk.{Row, Rule, one_of, first_of}
use Rattle.clap.specs.Simple.{App, Shape, new_rule, new_shape, subcommand_of, with_subcommand}
use Rattle.clap.specs.Faults.{fault_of}
use Rattle.clap.specs.Kinds.{IsAmong}
use Rattle.clap.specs.Values.{kind_of}
use Rattle.clap.specs.declared.error.Error.{Error}
use Rattle.clap.specs.declared.error.kind.ErrorKind.TheVariants.{InvalidValue}
use Rattle.clap.specs.declared.builder.action.ArgAction.TheVariants.{Set, SetTrue}
use Rattle.clap.specs.declared.builder.value_parser.ValueParser.TheVariants.{NonEmptyString, Signed}
use Rattle.commands.specs.Host.{NamesHost}
use Rattle.commands.specs.declared.job.Job.{Job}
use Rattle.commands.specs.declared.job.Job.TheVariants.{AnswerWith, ShowWith, MakeWith, LineWith, EncoderWith}
use Rattle.commands.specs.declared.job.Job.TheVariants.{ServerWith, Send, Watch, State, Receive, Conformance, Page}
use Rattle.commands.specs.declared.job.Job.TheVariants.{MakeFitted, Quote, Phrases}
use Rattle.commands.specs.Jobs.{in_short}
use Rattle.commands.specs.declared.answer_options.AnswerOptions.{AnswerOptions}
use Rattle.commands.specs.declared.conformance_options.ConformanceOptions.{ConformanceOptions}
use Rattle.commands.specs.declared.encoder_options.EncoderOptions.{EncoderOptions}
use Rattle.commands.specs.declared.line_options.LadderForm.{LadderForm}
use Rattle.commands.specs.declared.line_options.LadderForm.TheVariants.{Picture, Text}
use Rattle.commands.specs.declared.line_options.LineOptions.{LineOptions}
use Rattle.commands.specs.declared.page_options.PageOptions.{PageOptions}
use Rattle.commands.specs.declared.receive_options.ReceiveOptions.{ReceiveOptions}
use Rattle.commands.specs.declared.receive_options.ShownForm.{ShownForm}
use Rattle.commands.specs.declared.receive_options.ShownForm.TheVariants as shown
use Rattle.commands.specs.declared.send_options.SendOptions.{SendOptions}
use Rattle.commands.specs.declared.server_options.ServerOptions.{ServerOptions}
use Rattle.output_forms.specs.declared.form.Form.{Form}
use Rattle.output_forms.specs.declared.form.Form.TheVariants.{Lines, Words, Json}
use Rattle.rds_text.specs.declared.programme_type.Region.{Region}
use Rattle.rds_text.specs.declared.programme_type.Region.TheVariants.{Europe, NorthAmerica}
pub use Rattle.command_line.specs.OptionTexts.{IsFlag, word_text}
use Rattle.command_line.specs.TitleLines.{HasNoTitles, IsPassOver, IsRefusal, IsTitles, PassesOverNone}
use Rattle.command_line.specs.TitleLines.{RefusesLines}
use Rattle.command_line.specs.declared.numbers.NumberOption.{NumberOption}
use Rattle.command_line.specs.declared.command_name.CommandName.{CommandName}
use Rattle.command_line.specs.declared.command_name.CommandName.TheVariants as command
use Rattle.command_line.specs.declared.usage.Usage.{Usage}
use Rattle.command_line.specs.declared.usage.Usage.TheVariants.{Refused, NotAList, OutOfMemory}

-- The parts of a list between its commas are two hexadecimal digits each, and spell these bytes in order.
abbrev pub IsList : (list bytes : List ℕ) → Type 0
IsList list bytes = map (λ part. decode_sized part 1) (slice_split (λ b. b == 44) list)
    ≡ map (λ byte. Ok (byte ∷ [])) bytes

-- Why a list was refused: it spells no bytes, or there was no memory.
abbrev pub RefusesList : (list : List ℕ) → Usage → Type 0
RefusesList list why = (why ≡ OutOfMemory) ⊎ ((why ≡ NotAList) × ((bytes : List ℕ) → IsList list bytes → ⊥))

-- The text is decimal digits that spell this number; a plus may stand before them.
abbrev pub Spells : (text : List ℕ) → ℕ → Type 0
Spells text number = IsNumeral 10 (without_leading_plus text) × (digits_value 10 (without_leading_plus text) ≡ number)

-- The number of an option with this text lies from the least to the greatest, and is the one that the text spells,
-- where that lies there.
pub record IsOption (text : Option (List ℕ)) (least greatest number : ℕ) : Type 0 where
  pub at_least : least ≤ number
  pub at_most : number ≤ greatest
  pub spelled : (t : List ℕ) (n : ℕ) → text ≡ Some t → Spells t n → least ≤ n → n ≤ greatest → number ≡ n

-- The number of an option that may be left out: none where it has no text; else it is as above.
pub record IsMaybe (text : Option (List ℕ)) (least greatest : ℕ) (number : Option ℕ) : Type 0 where
  pub absent : text ≡ None → number ≡ None
  pub range : IfSome number (λ n. (least ≤ n) × (n ≤ greatest))
  pub spelled : (t : List ℕ) (n : ℕ) → text ≡ Some t → Spells t n → least ≤ n → n ≤ greatest → number ≡ Some n

-- The text of the option `services`.
abbrev pub services_text : List Row → List ℕ
services_text rows = word_text (codes "services") (codes "01") rows

-- The text of the option `host`.
abbrev pub host_text : List Row → List ℕ
host_text rows = word_text (codes "host") (codes "127.0.0.1") rows

-- The site and the encoder's number at it are those that the matches of a command have.
abbrev pub IsPlace : (rows : List Row) → (site encoder : ℕ) → Type 0
IsPlace rows site encoder = IsOption (one_of (codes "site") rows) 1 1023 site
    × IsOption (one_of (codes "encoder") rows) 1 63 encoder

-- The options of an encoder are those that the matches of its command have.
pub record AreOptions (rows : List Row) (site encoder sets : ℕ) (services : List ℕ) : Type 0 where
  pub is_place : IsPlace rows site encoder
  pub is_sets : IsOption (one_of (codes "sets") rows) 1 8 sets
  pub is_services : IsList (services_text rows) services

-- The flag for the store is set as the matches of a command have it.
abbrev pub IsStore : (rows : List Row) → (store : Bool) → Type 0
IsStore rows store = IsFlag (one_of (codes "store") rows) store

-- The flag for the store at a device's end is set as the matches of the command `encoder` have it.
abbrev pub IsFinalStore : (rows : List Row) → (store : Bool) → Type 0
IsFinalStore rows store = IsFlag (one_of (codes "final-store") rows) store

-- In words where a flag asks for them, with the names of North America where one asks for those.
abbrev pub worded : (words rbds : Bool) → Form
worded words rbds = if rbds then Words NorthAmerica else if words then Words Europe else Lines

-- The form is lines or words, as the flags of a command's matches have it.
pub record IsWording (rows : List Row) (form : Form) : Type 0 where
  pub words : Bool
  pub rbds : Bool
  pub is_words : IsFlag (one_of (codes "words") rows) words
  pub is_rbds : IsFlag (one_of (codes "rbds") rows) rbds
  pub is : form ≡ worded words rbds

-- The form is the one for which the flags of a command's matches ask: JSON goes before words.
pub record IsForm (rows : List Row) (form : Form) : Type 0 where
  pub json : Bool
  pub plain : Form
  pub is_json : IsFlag (one_of (codes "json") rows) json
  pub is_plain : IsWording rows plain
  pub is : form ≡ (if json then Json else plain)

-- The time stands before what a read brought, unless the flag against it is set.
abbrev pub IsTimed : (rows : List Row) → (time : Bool) → Type 0
IsTimed rows time = (left_out : Bool) × IsFlag (one_of (codes "no-time") rows) left_out × (time ≡ not left_out)

-- The port is that which the matches of a command have.
abbrev pub IsPort : (rows : List Row) → (port : ℕ) → Type 0
IsPort rows port = IsOption (one_of (codes "port") rows) 1 65535 port

-- What an encoder answers is what the matches of the command `answer` ask for.
pub record IsAnswer (rows : List Row) (o : AnswerOptions) : Type 0 where
  pub are_options : AreOptions rows o.site o.encoder o.sets o.services.items
  pub is_store : IsStore rows o.store
  pub is_form : IsForm rows o.form
  pub is_air : IsMaybe (one_of (codes "air") rows) 1 1000000 o.air

-- A script is of phrases where the form is words.
abbrev pub words_of : Option Region → Form
words_of None = Lines
words_of (Some region) = Words region

-- Where a server finds its encoder, its bounds, whether it joins first, goes on over silence and says why it found no
-- connection, and the file of its state, are those that the matches of the command `server` have.
pub record IsServer (rows : List Row) (o : ServerOptions) : Type 0 where
  pub is_place : IsPlace rows o.site o.encoder
  pub is_host : NamesHost (host_text rows) (string_bytes o.host)
  pub is_port : IsPort rows o.port
  pub is_tries : IsOption (one_of (codes "tries") rows) 1 100 o.tries
  pub is_timeout : IsOption (one_of (codes "timeout") rows) 1 60000 o.timeout
  pub is_turns : IsOption (one_of (codes "turns") rows) 1 1000 o.turns
  pub is_reconnects : IsOption (one_of (codes "reconnects") rows) 0 100 o.reconnects
  pub is_window : IsOption (one_of (codes "window") rows) 1 8 o.window
  pub is_join : IsFlag (one_of (codes "join") rows) o.join
  pub is_reconnect_silent : IsFlag (one_of (codes "reconnect-silent") rows) o.reconnect_silent
  pub is_verbose : IsFlag (one_of (codes "verbose") rows) o.verbose
  pub is_state : option_map string_bytes o.state ≡ first_of (codes "state") rows

-- The region is North America's where a flag asks for it.
abbrev pub IsRegion : (rows : List Row) → Region → Type 0
IsRegion rows region =
    (rbds : Bool) × IsFlag (one_of (codes "rbds") rows) rbds × (region ≡ (if rbds then NorthAmerica else Europe))

-- What comes of messages is told in objects of JSON where a flag asks for them.
abbrev pub IsToldIn : (rows : List Row) → Form → Type 0
IsToldIn rows form =
    (json : Bool) × IsFlag (one_of (codes "json") rows) json × (form ≡ (if json then Json else Lines))

-- An encoder is joined anew where a flag asks for it, or a station's file is given.
abbrev pub IsRejoin : (rows : List Row) → (rejoin : Bool) → Type 0
IsRejoin rows rejoin = (asked : Bool) × IsFlag (one_of (codes "rejoin") rows) asked
    × (rejoin ≡ asked || is_some (first_of (codes "station") rows))

-- What is sent for as long as lines come is sent as the matches of the command have it.
pub record IsLive (rows : List Row) (job : SendOptions) : Type 0 where
  pub is_place : IsPlace rows job.site job.encoder
  pub is_host : NamesHost (host_text rows) (string_bytes job.host)
  pub is_port : IsPort rows job.port
  pub is_tries : IsOption (one_of (codes "tries") rows) 1 100 job.tries
  pub is_timeout : IsOption (one_of (codes "timeout") rows) 1 60000 job.timeout
  pub is_turns : IsOption (one_of (codes "turns") rows) 1 1000 job.turns
  pub is_window : IsOption (one_of (codes "window") rows) 1 8 job.window
  pub is_retry_every : IsOption (one_of (codes "retry-every") rows) 1 3600 job.retry_every
  pub is_give_up : IsOption (one_of (codes "give-up") rows) 0 1000000 job.give_up
  pub is_silent : IsOption (one_of (codes "silent") rows) 1 86400 job.silent
  pub is_region : IsRegion rows job.region
  pub is_titles : IsTitles rows job.titles
  pub is_fit : IsFlag (one_of (codes "fit") rows) job.fit
  pub is_form : IsToldIn rows job.form
  pub is_strict : IsFlag (one_of (codes "strict") rows) job.strict
  pub is_pass_over : IsPassOver rows (option_map string_bytes job.pass_over)
  pub is_from_line : IsOption (one_of (codes "from-line") rows) 1 4294967295 job.from_line
  pub is_join : IsFlag (one_of (codes "join") rows) job.join
  pub is_rejoin : IsRejoin rows job.rejoin
  pub is_state : option_map string_bytes job.state ≡ first_of (codes "state") rows
  pub is_station : option_map string_bytes job.station ≡ first_of (codes "station") rows

-- What an encoder does is what the matches of the command `encoder` ask for.
pub record IsEncoder (rows : List Row) (job : EncoderOptions) : Type 0 where
  pub are_options : AreOptions rows job.site job.encoder job.sets job.services.items
  pub is_listen : option_map string_bytes job.listen ≡ first_of (codes "listen") rows
  pub is_port : IsMaybe (one_of (codes "port") rows) 1 65535 job.port
  pub is_air : IsMaybe (one_of (codes "air") rows) 1 65535 job.air
  pub is_air_bits : IsFlag (one_of (codes "air-bits") rows) job.air_bits
  pub is_connections : IsOption (one_of (codes "connections") rows) 1 1000 job.connections
  pub is_turns : IsOption (one_of (codes "turns") rows) 1 1000000 job.turns
  pub is_forever : IsFlag (one_of (codes "forever") rows) job.forever
  pub is_idle : IsOption (one_of (codes "idle") rows) 0 86400 job.idle
  pub is_yield : IsMaybe (one_of (codes "yield") rows) 0 86400 job.yield_after
  pub is_allow : option_map string_bytes job.allow ≡ first_of (codes "allow") rows
  pub is_log : IsFlag (one_of (codes "log") rows) job.log
  pub is_log_wait : IsMaybe (one_of (codes "log-wait") rows) 0 86400 job.log_wait
  pub is_form : IsForm rows job.form
  pub is_time : IsTimed rows job.time
  pub is_store : IsFinalStore rows job.store
  pub is_faults : option_map string_bytes job.faults ≡ first_of (codes "faults") rows
  pub is_seed : IsOption (one_of (codes "seed") rows) 0 1000000000 job.seed
  pub is_state : option_map string_bytes job.state ≡ first_of (codes "state") rows

-- The word for a ladder's form.
abbrev pub ladder_word : LadderForm → List ℕ
ladder_word Picture = codes "svg"
ladder_word Text = codes "text"

-- A script is to be made to fit that is not one of phrases.
abbrev pub FitsNoWords : (rows : List Row) → Type 0
FitsNoWords rows = IsFlag (one_of (codes "fit") rows) true × IsWording rows Lines

-- Why what the matches of the command `make` ask for was refused: that. Or there was no memory.
abbrev pub RefusesScript : (rows : List Row) → Usage → Type 0
RefusesScript rows why = (why ≡ OutOfMemory) ⊎ (IsRefusal why × FitsNoWords rows)

-- A line is played, or drawn as a ladder, as the matches of the command `line` ask for it.
pub record IsLine (rows : List Row) (o : LineOptions) : Type 0 where
  pub are_options : AreOptions rows o.site o.encoder o.sets o.services.items
  pub is_store : IsStore rows o.store
  pub is_form : IsForm rows o.form
  pub is_ladder : option_map ladder_word o.ladder ≡ first_of (codes "ladder") rows

-- A ladder is asked for in a form that there is none of.
abbrev pub HasNoForm : (rows : List Row) → Type 0
HasNoForm rows = (is_some (first_of (codes "ladder") rows) ≡ true)
    × ((form : LadderForm) → first_of (codes "ladder") rows ≡ Some (ladder_word form) → ⊥)

-- Why what the matches of the command `line` ask for was refused: the list of services is none, or the form of the
-- ladder is none. Or there was no memory.
abbrev pub RefusesLine : (rows : List Row) → Usage → Type 0
RefusesLine rows why = RefusesList (services_text rows) why
    ⊎ ((error : Error) × (why ≡ Refused error) × (kind_of error ≡ InvalidValue) × HasNoForm rows)

-- What is shown is told in objects of JSON where a flag asks for them, else in words.
abbrev pub IsShownForm : (rows : List Row) → ShownForm → Type 0
IsShownForm rows form = (json : Bool) × (region : Region) × IsFlag (one_of (codes "json") rows) json
    × IsRegion rows region × (form ≡ (if json then shown.Json else shown.Words region))

-- What a receiver shows is told as the matches of the command `receive` ask for.
pub record IsReceive (rows : List Row) (job : ReceiveOptions) : Type 0 where
  pub is_form : IsShownForm rows job.form
  pub is_time : IsTimed rows job.time
  pub is_bits : IsFlag (one_of (codes "bits") rows) job.bits

-- The page is served where the matches of the command `page` say.
pub record IsPage (rows : List Row) (job : PageOptions) : Type 0 where
  pub is_listen : option_map string_bytes job.listen ≡ first_of (codes "listen") rows
  pub is_port : IsMaybe (one_of (codes "port") rows) 1 65535 job.port
  pub is_stale : IsMaybe (one_of (codes "stale") rows) 1 86400 job.stale

-- The cases are run as the matches of the command `conformance` ask for.
pub record IsConformance (rows : List Row) (job : ConformanceOptions) : Type 0 where
  pub is_place : IsPlace rows job.site job.encoder
  pub is_where : string_bytes job.place ≡ word_text (codes "place") [] rows
  pub is_only : option_map string_bytes job.only ≡ first_of (codes "only") rows
  pub is_timeout : IsOption (one_of (codes "timeout") rows) 1 60000 job.timeout
  pub is_quiet : IsOption (one_of (codes "quiet") rows) 1 60000 job.quiet
  pub is_silent : IsOption (one_of (codes "silent") rows) 1 86400 job.silent
  pub is_verbose : IsFlag (one_of (codes "verbose") rows) job.verbose
  pub is_json : IsFlag (one_of (codes "json") rows) job.json

-- A job with all options of its command is that of the command of this name, with the options that its matches have.
abbrev pub IsFullOf : (name : List ℕ) → List Row → Job → Type 0
IsFullOf name rows (AnswerWith o) = (name ≡ codes "answer") × IsAnswer rows o
IsFullOf name rows (ShowWith o) = (name ≡ codes "show") × IsForm rows o.form
IsFullOf name rows (MakeWith o) =
    (name ≡ codes "make") × IsWording rows (words_of o.words) × IsFlag (one_of (codes "fit") rows) false
IsFullOf name rows (MakeFitted region) =
    (name ≡ codes "make") × IsWording rows (Words region) × IsFlag (one_of (codes "fit") rows) true
IsFullOf name rows (LineWith o) = (name ≡ codes "line") × IsLine rows o
IsFullOf name rows (EncoderWith o) = (name ≡ codes "encoder") × IsEncoder rows o
IsFullOf name rows (ServerWith o) = (name ≡ codes "server") × IsServer rows o
IsFullOf name rows (Send o) = (name ≡ codes "send") × IsLive rows o
IsFullOf name rows (Watch o) = (name ≡ codes "watch") × IsForm rows o.form × IsTimed rows o.time
IsFullOf name rows (State file) = (name ≡ codes "state") × (string_bytes file ≡ word_text (codes "file") [] rows)
IsFullOf name rows (Receive o) = (name ≡ codes "receive") × IsReceive rows o
IsFullOf name rows (Conformance o) = (name ≡ codes "conformance") × IsConformance rows o
IsFullOf name rows (Page o) = (name ≡ codes "page") × IsPage rows o
IsFullOf name rows Quote = name ≡ codes "quote"
IsFullOf name rows Phrases = name ≡ codes "phrases"
IsFullOf name rows job = ⊥

-- The word for a command.
abbrev pub command_word : CommandName → List ℕ
command_word command.Answer = codes "answer"
command_word command.Show = codes "show"
command_word command.Make = codes "make"
command_word command.Line = codes "line"
command_word command.Encoder = codes "encoder"
command_word command.Server = codes "server"
command_word command.Send = codes "send"
command_word command.Watch = codes "watch"
command_word command.State = codes "state"
command_word command.Receive = codes "receive"
command_word command.Conformance = codes "conformance"
command_word command.Page = codes "page"
command_word command.Quote = codes "quote"
command_word command.Phrases = codes "phrases"

-- Why what the matches of this command ask for was refused: it has a list of services that is none, a ladder's form
-- that is none, lines that are neither phrases nor titles, or a script to be made to fit that is not of phrases. Or
-- there was no memory.
abbrev pub RefusesJobOf : CommandName → (rows : List Row) → Usage → Type 0
RefusesJobOf command.Answer rows why = RefusesList (services_text rows) why
RefusesJobOf command.Encoder rows why = RefusesList (services_text rows) why
RefusesJobOf command.Line rows why = RefusesLine rows why
RefusesJobOf command.Make rows why = RefusesScript rows why
RefusesJobOf command.Send rows why = RefusesLines rows why
RefusesJobOf other rows why = why ≡ OutOfMemory

-- ---- the command line that the program takes

-- The text of an option that is not given: the default if it has one.
abbrev pub default_texts : (default : Option (List ℕ)) → List (List ℕ)
default_texts None = []
default_texts (Some text) = text ∷ []

-- An option with a word. One without a default has to be given.
abbrev pub word_option : (name : List ℕ) → (default : Option (List ℕ)) → Rule
word_option name default =
    record (new_rule name) {
      long = Some name;
      action = Some Set;
      value_names = 1;
      defaults = default_texts default;
      required = is_none default;
    }

-- An option with a number from the least to the greatest. One without a default has to be given.
abbrev pub number_option : (name : List ℕ) → (least greatest : ℕ) → (default : Option (List ℕ)) → Rule
number_option name least greatest default =
    record (word_option name default) { parser = Some (Signed (pos least) (pos greatest)) }

-- The option of a table's row.
abbrev pub rule_for : NumberOption → Rule
rule_for option = number_option option.name.now option.least option.most (option_map (λ text. text.now) option.default)

-- An option with a word that may be left out.
abbrev pub maybe_word : (name : List ℕ) → Rule
maybe_word name = record (word_option name None) { required = false }

-- An option with a word that may be left out, and is not empty.
abbrev pub filled_word : (name : List ℕ) → Rule
filled_word name = record (maybe_word name) { parser = Some NonEmptyString }

-- An option with a word that is not empty, this one where it is not given.
abbrev pub filled_option : (name default : List ℕ) → Rule
filled_option name default = record (word_option name (Some default)) { parser = Some NonEmptyString }

-- An option with a number that may be left out.
abbrev pub maybe_number : (name : List ℕ) → (least greatest : ℕ) → Rule
maybe_number name least greatest = record (number_option name least greatest None) { required = false }

-- The option with the file for the state of an end, which may be left out.
abbrev pub state_option : Rule
state_option = filled_word (codes "state")

-- The option with the name of a line, which may be left out.
abbrev pub name_option : Rule
name_option = maybe_word (codes "name")

-- The option with the file of a station's lines, which may be left out.
abbrev pub station_option : Rule
station_option = filled_word (codes "station")

-- The file to look at, which has to be named.
abbrev pub file_argument : Rule
file_argument = record (new_rule (codes "file")) { action = Some Set; value_names = 1; required = true }

-- The option with the form of a ladder, which may be left out, and so may its word: then it is svg.
abbrev pub ladder_option : Rule
ladder_option = record (maybe_word (codes "ladder")) {
  range = Some (record { start_inclusive = 0; end_inclusive = 1 });
  missing = codes "svg" ∷ [];
}

-- The option with the list of services, 01 where it is not given.
abbrev pub services_option : Rule
services_option = word_option (codes "services") (Some (codes "01"))

-- A flag.
abbrev pub flag : (name : List ℕ) → Rule
flag name = record (new_rule name) { long = Some name; action = Some SetTrue }

-- The flags that ask for words, and for those of North America.
abbrev pub word_flags : List Rule
word_flags = flag (codes "words") ∷ flag (codes "rbds") ∷ []

-- The flags that ask for a form.
abbrev pub form_flags : List Rule
form_flags = word_flags ++ flag (codes "json") ∷ []

-- The options of an encoder's place: its site and its number there, both 1 where they are not given.
abbrev pub place_options : List Rule
place_options = number_option (codes "site") 1 1023 (Some (codes "1"))
    ∷ number_option (codes "encoder") 1 63 (Some (codes "1")) ∷ []

-- The options of an encoder, each with a default.
abbrev pub encoder_options : List Rule
encoder_options = place_options ++ number_option (codes "sets") 1 8 (Some (codes "1")) ∷ services_option ∷ []

-- The port, which has to be given.
abbrev pub port_option : Rule
port_option = number_option (codes "port") 1 65535 None

-- A command with these options.
abbrev pub command_with : (name : List ℕ) → List Rule → Shape
command_with name options = record (new_shape name) { rules = options }

-- A command with the options of an encoder, the flag for its store and those for a form.
abbrev pub store_command : (name : List ℕ) → Shape
store_command name = command_with name (encoder_options ++ flag (codes "store") ∷ form_flags)

-- The command `answer`: the same, and how many groups it is to have on the air.
abbrev pub answering_command : Shape
answering_command = command_with (codes "answer")
    (encoder_options ++ flag (codes "store") ∷ form_flags ++ maybe_number (codes "air") 1 1000000 ∷ [])

-- The command `line`: the same, and whether it draws a ladder.
abbrev pub playing_command : Shape
playing_command =
    command_with (codes "line") (encoder_options ++ flag (codes "store") ∷ form_flags ++ ladder_option ∷ [])

-- The command `receive`.
abbrev pub receiving_command : Shape
receiving_command = command_with (codes "receive")
    (flag (codes "bits") ∷ flag (codes "rbds") ∷ flag (codes "json") ∷ name_option ∷ flag (codes "no-time") ∷ [])

-- The command `page`.
abbrev pub paging_command : Shape
paging_command = command_with (codes "page")
    (maybe_word (codes "listen") ∷ maybe_number (codes "port") 1 65535 ∷ maybe_number (codes "stale") 1 86400 ∷ [])

-- The command `quote`.
abbrev pub quoting_command : Shape
quoting_command = command_with (codes "quote") []

-- The command `phrases`.
abbrev pub telling_command : Shape
telling_command = command_with (codes "phrases") []

-- Where the encoder listens whose rules are tried, which has to be named.
abbrev pub place_argument : Rule
place_argument = record (new_rule (codes "place")) { action = Some Set; value_names = 1; required = true }

-- The command `conformance`.
abbrev pub trying_command : Shape
trying_command = command_with (codes "conformance") (place_options ++ place_argument ∷ maybe_word (codes "only")
    ∷ number_option (codes "timeout") 1 60000 (Some (codes "3000"))
    ∷ number_option (codes "quiet") 1 60000 (Some (codes "300"))
    ∷ number_option (codes "silent") 1 86400 (Some (codes "30")) ∷ flag (codes "verbose") ∷ flag (codes "json") ∷ [])

-- The command `show`.
abbrev pub showing_command : Shape
showing_command = command_with (codes "show") form_flags

-- The command `watch`.
abbrev pub watching_command : Shape
watching_command = command_with (codes "watch") (form_flags ++ name_option ∷ flag (codes "no-time") ∷ [])

-- The command `make`.
abbrev pub making_command : Shape
making_command = command_with (codes "make") (word_flags ++ flag (codes "fit") ∷ [])

-- The options of how an encoder listens, serves and tells.
abbrev pub serving_options : List Rule
serving_options = maybe_word (codes "listen") ∷ maybe_number (codes "port") 1 65535
    ∷ number_option (codes "connections") 1 1000 (Some (codes "1"))
    ∷ number_option (codes "turns") 1 1000000 (Some (codes "100000")) ∷ flag (codes "forever")
    ∷ number_option (codes "idle") 0 86400 (Some (codes "0")) ∷ maybe_number (codes "yield") 0 86400
    ∷ maybe_word (codes "allow") ∷ flag (codes "log") ∷ maybe_number (codes "log-wait") 0 86400
    ∷ flag (codes "final-store") ∷ []

-- The command `encoder`.
abbrev pub listening_command : Shape
listening_command =
    command_with (codes "encoder")
    (encoder_options ++ serving_options ++ form_flags ++ name_option ∷ flag (codes "no-time")
    ∷ filled_word (codes "faults") ∷ number_option (codes "seed") 0 1000000000 (Some (codes "0"))
    ∷ maybe_number (codes "air") 1 65535 ∷ flag (codes "air-bits") ∷ state_option ∷ [])

-- The options of a server's bounds.
abbrev pub bound_options : List Rule
bound_options =
    number_option (codes "tries") 1 100 (Some (codes "3"))
    ∷ number_option (codes "timeout") 1 60000 (Some (codes "1000"))
    ∷ number_option (codes "turns") 1 1000 (Some (codes "16"))
    ∷ number_option (codes "reconnects") 0 100 (Some (codes "3"))
    ∷ number_option (codes "window") 1 8 (Some (codes "1")) ∷ []

-- The command `server`.
abbrev pub sending_command : Shape
sending_command = command_with (codes "server") (place_options ++ filled_option (codes "host") (codes "127.0.0.1")
    ∷ port_option ∷ bound_options ++ flag (codes "join") ∷ flag (codes "reconnect-silent") ∷ flag (codes "verbose")
    ∷ state_option ∷ [])

-- The command `send`.
abbrev pub live_command : Shape
live_command = command_with (codes "send") (place_options ++ filled_option (codes "host") (codes "127.0.0.1")
    ∷ port_option ∷ number_option (codes "tries") 1 100 (Some (codes "3"))
    ∷ number_option (codes "timeout") 1 60000 (Some (codes "1000"))
    ∷ number_option (codes "turns") 1 1000 (Some (codes "16"))
    ∷ number_option (codes "window") 1 8 (Some (codes "1"))
    ∷ number_option (codes "retry-every") 1 3600 (Some (codes "30"))
    ∷ number_option (codes "give-up") 0 1000000 (Some (codes "0"))
    ∷ number_option (codes "silent") 1 86400 (Some (codes "60"))
    ∷ flag (codes "rbds") ∷ flag (codes "json") ∷ name_option ∷ flag (codes "strict")
    ∷ maybe_word (codes "pass-over") ∷ number_option (codes "from-line") 1 4294967295 (Some (codes "1"))
    ∷ flag (codes "join") ∷ flag (codes "rejoin")
    ∷ state_option ∷ station_option ∷ word_option (codes "input") (Some (codes "phrases"))
    ∷ maybe_word (codes "prefix") ∷ maybe_word (codes "service") ∷ flag (codes "fit") ∷ [])

-- The command `state`.
abbrev pub looking_command : Shape
looking_command = command_with (codes "state") (file_argument ∷ [])

-- A command that takes its options from a file too: the file may be named, and it may be looked at alone.
abbrev pub configurable : Shape → Shape
configurable shape = record shape {
  rules = (shape.rules ++ filled_word (codes "config") ∷ []) ++ flag (codes "check-config") ∷ [];
}

-- A program with these commands too, each of which takes a file of options.
abbrev pub with_commands : App → List Shape → App
with_commands app [] = app
with_commands app (shape ∷ shapes) = with_commands (with_subcommand app (configurable shape)) shapes

-- The program: it has a version, and one of fourteen commands has to be named, each of which takes a file of options.
abbrev pub uecp_app : App
uecp_app = record {
  top = record (new_shape (codes "uecp")) { is_leaf = false; has_version = true; subcommand_required = true };
  subs = map configurable (answering_command ∷ showing_command ∷ making_command
      ∷ playing_command ∷ listening_command ∷ sending_command ∷ live_command ∷ watching_command
      ∷ looking_command ∷ receiving_command ∷ trying_command ∷ paging_command ∷ quoting_command
      ∷ telling_command ∷ []);
}

-- The words have no fault, and ask for this: they name its command, and give its options. It is the job with those that
-- the command had first, where no later one is given.
pub record Asks (words : List (List ℕ)) (job : Job) : Type 0 where
  pub faultless : fault_of uecp_app words ≡ []
  pub name : List ℕ
  pub rows : List Row
  pub command : subcommand_of uecp_app words ≡ Some (name, rows)
  pub full : Job
  pub is_full : IsFullOf name rows full
  pub is_short : job ≡ in_short full

-- The words name a command with an encoder, and give it a list of services that is none.
pub record GivesNoList (words : List (List ℕ)) : Type 0 where
  pub name : List ℕ
  pub rows : List Row
  pub command : subcommand_of uecp_app words ≡ Some (name, rows)
  pub has_encoder : (name ≡ codes "answer") ⊎ ((name ≡ codes "line") ⊎ (name ≡ codes "encoder"))
  pub no_list : (bytes : List ℕ) → IsList (services_text rows) bytes → ⊥

-- The words ask for a ladder in a form that there is none of.
pub record GivesNoForm (words : List (List ℕ)) : Type 0 where
  pub rows : List Row
  pub command : subcommand_of uecp_app words ≡ Some (codes "line", rows)
  pub no_form : HasNoForm rows

-- The words ask for lines that are neither phrases nor titles, or that would be passed over and end the run.
pub record GivesNoTitles (words : List (List ℕ)) : Type 0 where
  pub rows : List Row
  pub command : subcommand_of uecp_app words ≡ Some (codes "send", rows)
  pub no_lines : HasNoTitles rows ⊎ PassesOverNone rows

-- The words ask for a script to be made to fit that is not one of phrases.
pub record GivesNoScript (words : List (List ℕ)) : Type 0 where
  pub rows : List Row
  pub command : subcommand_of uecp_app words ≡ Some (codes "make", rows)
  pub no_words : FitsNoWords rows

-- The words give a word that is none of those that its option has, a ladder's form, or what lines are; or an option
-- that another one has to stand beside.
abbrev pub GivesNoChoice : (words : List (List ℕ)) → Type 0
GivesNoChoice words = GivesNoForm words ⊎ (GivesNoTitles words ⊎ GivesNoScript words)

-- Why the words were refused: they have a fault of this kind, or give no list, or no choice. Or there was no memory.
abbrev pub RefusesWords : (words : List (List ℕ)) → Usage → Type 0
RefusesWords words (Refused error) = IsAmong (kind_of error) (fault_of uecp_app words)
    ⊎ ((kind_of error ≡ InvalidValue) × GivesNoChoice words)
RefusesWords words NotAList = GivesNoList words
RefusesWords words OutOfMemory = Unit {0}
