-- What the line of `line` has come to when its script ends; a law (profile).
use Rattle.std.specs.Prelude.{◌≡◌, ◌≢◌, ◌⊎◌, ℕ, List, [], ◌∷◌, ◌++◌, Option, None}
use Rattle.rds_store.specs.Value.{Store}
use Rattle.rds_store.specs.Opening.{opening}
use Rattle.rds_store.specs.Step.{step, group_taken}
use Rattle.uecp_link.specs.Once.{Event, Once, at_first}
use Rattle.uecp_link.specs.Holds.{LineState, Outcome, history_by}
use Rattle.uecp_link.specs.Holds.{Plays as PlaysSteps}
use Rattle.uecp_link.specs.Headline.{IsHeadline}
use Rattle.uecp_link.specs.Replacing.{Replaces}
use Rattle.uecp_text.specs.declared.run_fault.RunFault.{RunFault}
use Rattle.uecp_text.specs.Run.{Runs}
use Rattle.uecp_text.specs.Words.{words}
use Rattle.uecp_words.specs.EventWords.{Names}
use Rattle.uecp_words.specs.ReplaceWords.{replace_words}
use Rattle.uecp_jobs.specs.Setups.{Options, address_of, line_at_first}
use Rattle.output_forms.specs.declared.form.Form.{Form}
use Rattle.uecp_jobs.specs.Playing.{PlaysIn}

-- The texts name these events, one by one, up to the text that is refused, if one is.
abbrev pub NameEach : List (ℕ × List ℕ) → Option RunFault → List Event → Type 0
NameEach [] stop events = (stop ≡ None) × (events ≡ [])
NameEach ((number, text) ∷ texts) stop [] = stop ≢ None
NameEach ((number, text) ∷ texts) stop (event ∷ events) = Names (words text) event × NameEach texts stop events

-- The texts name events, each of which was a step of the line; and with the history that these steps tell the headline
-- holds of the line that is left.
pub record KeepsHeadline (address : ℕ) (value : Store) (old : LineState Store) (texts : List (ℕ × List ℕ))
    (stop : Option RunFault) (line : LineState Store) : Type 0 where
  pub events : List Event
  pub outcomes : List Outcome
  pub last : Once Store
  pub named : NameEach texts stop events
  pub plays : PlaysSteps step group_taken old (at_first value) events outcomes line last
  pub headline : IsHeadline step group_taken address value (history_by events outcomes) line

-- Of the texts one starts the server again, and none behind it does. Those before it were played to their end, by a run
-- of which the same holds as of this one; the encoder joined, and kept its store; and from there, with that store as
-- the opening one, the texts behind keep the headline.
pub record KeepsHeadlineSince (form : Form) (start : LineState Store) (texts : List (ℕ × List ℕ))
    (stop : Option RunFault)
    (line : LineState Store) : Type 0 where
  pub before : List (ℕ × List ℕ)
  pub replacement : ℕ × List ℕ
  pub behind : List (ℕ × List ℕ)
  pub all : texts ≡ before ++ replacement ∷ behind
  pub named : words replacement.1 ≡ replace_words
  pub lines : List ℕ
  pub left : LineState Store
  pub ran : Runs (PlaysIn form) start before lines None left
  pub given_up : ℕ
  pub joined : LineState Store
  pub replaces : Replaces step left given_up joined
  pub keeps : KeepsHeadline left.encoder.address left.encoder.value joined behind stop line

-- So it is after any script of `line`, in whatever form its output is, taken whole or up to a refused text: with the
-- line whose totals and store are printed where no text is refused. Either it is one line from first to last, or it is
-- a new one since the server was last started again.
abbrev pub ScriptsKeepHeadline : Type 0
ScriptsKeepHeadline =
    (form : Form) (o : Options) (texts : List (ℕ × List ℕ)) (lines : List ℕ) (stop : Option RunFault)
    (line : LineState Store) → Runs (PlaysIn form) (line_at_first o) texts lines stop line →
    KeepsHeadline (address_of o.site o.encoder) (opening o.sets o.services) (line_at_first o) texts stop line
    ⊎ KeepsHeadlineSince form (line_at_first o) texts stop line
