-- What playing one event on a line comes to (profile).
use Rattle.std.specs.Prelude.{◌≡◌, ◌≢◌, ◌⊎◌, ℕ, Bool, List, ◌++◌, length, codes, Ok, Err}
use Rattle.rds_store.specs.Value.{Store}
use Rattle.rds_store.specs.Step.{step, group_taken}
use Rattle.uecp_link.specs.declared.stepped.Stepped.{Stepped}
use Rattle.uecp_link.specs.declared.refusal.LineRefusal.{LineRefusal}
use Rattle.uecp_link.specs.Once.{Event, Once, least_missing}
use Rattle.uecp_link.specs.Events.{Refuses}
use Rattle.uecp_link.specs.Holds.{LineState, is_acknowledged, Holds, StepsAs}
use Rattle.uecp_link.specs.Replacing.{Replaces}
use Rattle.output_forms.specs.declared.form.Form.{Form}
use Rattle.output_forms.specs.declared.form.Form.TheVariants.{Lines}
use Rattle.output_forms.specs.Forms.{step_lines, given_up_lines, totals_lines, store_lines}
use Rattle.uecp_words.specs.EventWords.{named_message, Names, IsFaultOf}
use Rattle.uecp_words.specs.ReplaceWords.{replace_words}
use Rattle.uecp_text.specs.Words.{words}
use Rattle.uecp_text.specs.Run.{Meaning, Brings, Ends}
use Rattle.uecp_text.specs.Run.{Refuses as Declines}
use Rattle.uecp_text.specs.declared.text_fault.TextFault.TheVariants.{OutOfMemory}

-- The event takes place: the line goes on as the once-machine does, from whatever of its values the line holds, and
-- this is said of what it answers.
pub record TakesPlace (form : Form) (old : LineState Store) (event : Event) (lines : List ℕ)
    (new : LineState Store) : Type 0 where
  pub answer : Stepped
  pub said : lines ≡ step_lines form (Ok answer) (named_message event)
  pub steps : (o : Once Store) → Holds old o → StepsAs step group_taken old o event answer new

-- The event is refused, as the once-machine refuses it, or for want of memory: the line stays as it was, and this is
-- said of the refusal.
pub record IsRefused (form : Form) (old : LineState Store) (event : Event) (lines : List ℕ)
    (new : LineState Store) : Type 0 where
  pub refusal : LineRefusal
  pub said : lines ≡ step_lines form (Err refusal) (named_message event)
  pub unchanged : new ≡ old
  pub refuses : (o : Once Store) → Holds old o → Refuses o event refusal

-- The event is played on the line, and these lines say what came of it.
abbrev pub PlaysEvent : Form → (old : LineState Store) → Event → (lines : List ℕ) → (new : LineState Store) → Type 0
PlaysEvent form old event lines new = TakesPlace form old event lines new ⊎ IsRefused form old event lines new

-- The words name an event, and it is played.
abbrev pub PlaysNamed : Form → (old : LineState Store) → (text lines : List ℕ) → (new : LineState Store) → Type 0
PlaysNamed form old text lines new =
    (event : Event) × Names (words text) event × PlaysEvent form old event lines new

-- The words start the server again: it joins, the line goes on from there, and this is said of what was given up.
pub record PlaysReplacement (form : Form) (old : LineState Store) (text lines : List ℕ)
    (new : LineState Store) : Type 0 where
  pub named : words text ≡ replace_words
  pub given_up : ℕ
  pub said : lines ≡ given_up_lines form given_up
  pub replaces : Replaces step old given_up new

-- To `line` a text whose words name an event brings the lines that say what came of it, and so does one whose words
-- start the server again; any other text is refused for what is wrong with its words, and nothing has changed.
abbrev pub PlaysIn : Form → Meaning (LineState Store)
PlaysIn form line text (Brings lines) line' =
    PlaysNamed form line text lines line' ⊎ PlaysReplacement form line text lines line'
PlaysIn form line text (Ends lines) line' = ⊥
PlaysIn form line text (Declines why) line' = (why ≢ OutOfMemory) × (words text ≢ replace_words)
    × IsFaultOf (words text) why × (line' ≡ line)

abbrev pub Plays : Meaning (LineState Store)
Plays = PlaysIn Lines

-- The last lines: the totals, and the store where it is asked for.
abbrev pub closing_lines : Form → (asked : Bool) → LineState Store → List ℕ
closing_lines form asked line = totals_lines form (length line.sent) (length line.codes)
    (least_missing (is_acknowledged line) (length line.sent)) ++ store_lines form asked line.encoder.value
