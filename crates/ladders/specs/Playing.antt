-- What the texts of an event script mean to a ladder (profile).
use Rattle.std.specs.Prelude.{◌≡◌, ◌≢◌, ◌⊎◌, ℕ, List, [], ◌∷◌, ◌++◌}
use Rattle.rds_store.specs.Value.{Store}
use Rattle.rds_store.specs.Step.{step, group_taken}
use Rattle.uecp_link.specs.Once.{Event, Once}
use Rattle.uecp_link.specs.Holds.{LineState, is_acknowledged, Holds, Outcome, StepsTo}
use Rattle.uecp_link.specs.Replacing.{Replaces}
use Rattle.uecp_words.specs.EventWords.{named_message, Names, IsFaultOf}
use Rattle.uecp_words.specs.ReplaceWords.{replace_words}
use Rattle.uecp_text.specs.Words.{words}
use Rattle.uecp_text.specs.Run.{Meaning, Brings, Ends, Refuses}
use Rattle.uecp_text.specs.declared.text_fault.TextFault.TheVariants.{OutOfMemory}
use Rattle.ladders.specs.declared.row.Row.{Row}
use Rattle.ladders.specs.Rows.{rows_of, replaced}

-- A line, and the rows of what has come of its events so far.
pub record Drawn : Type 0 where
  pub line : LineState Store
  pub rows : List Row

-- The event is played on the line, and its rows stand below those before: they tell the outcome that the once-machine
-- has, from whatever of its values the line holds.
pub record DrawsEvent (old : Drawn) (event : Event) (new : Drawn) : Type 0 where
  pub outcome : Outcome
  pub steps : (o : Once Store) → Holds old.line o → StepsTo step group_taken old.line o event outcome new.line
  pub rows : new.rows ≡ old.rows ++ rows_of event outcome (is_acknowledged old.line (named_message event))

-- The words start the server again: it joins, the line goes on from there, and the row of that stands below.
pub record DrawsReplacement (old : Drawn) (text : List ℕ) (new : Drawn) : Type 0 where
  pub named : words text ≡ replace_words
  pub given_up : ℕ
  pub replaces : Replaces step old.line given_up new.line
  pub rows : new.rows ≡ old.rows ++ replaced given_up ∷ []

-- A text whose words name an event plays it, and one whose words start the server again does that: neither brings a
-- line, for all is drawn at the end. Any other text is refused for what is wrong with its words, and nothing has
-- changed.
abbrev pub Draws : Meaning Drawn
Draws old text (Brings lines) new = (lines ≡ []) × (((event : Event) × Names (words text) event
    × DrawsEvent old event new) ⊎ DrawsReplacement old text new)
Draws old text (Ends lines) new = ⊥
Draws old text (Refuses why) new =
    (why ≢ OutOfMemory) × (words text ≢ replace_words) × IsFaultOf (words text) why × (new ≡ old)
