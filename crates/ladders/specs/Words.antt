-- What stands in words in a ladder (profile).
use Rattle.std.specs.Prelude.{ℕ, List, [], ◌++◌, codes}
use Rattle.uecp_link.specs.Counters.{counter_of}
use Rattle.uecp_lines.specs.Steps.{step_words, given_up_line}
use Rattle.uecp_text.specs.Digits.{byte_word, counted}
use Rattle.ladders.specs.declared.row.Label.{Label}
use Rattle.ladders.specs.declared.row.Label.TheVariants as label
use Rattle.ladders.specs.declared.row.Remark.{Remark}
use Rattle.ladders.specs.declared.row.Remark.TheVariants.{Lost, Step, GivenUp}

-- A name, the number of a message, and the counter that messages of this number have.
abbrev pub with_counter : (name : List ℕ) → (number : ℕ) → List ℕ
with_counter name number = counted name number ++ (codes " counter" ++ byte_word (counter_of number))

-- What an arrow carries.
abbrev pub label_words : Label → List ℕ
label_words label.Nothing = []
label_words (label.Frame number) = with_counter (codes "frame") number
label_words (label.Reply number) = with_counter (codes "reply") number
label_words label.Noise = codes "noise"

-- What is said beside it, with its line feed: the line that the command `line` writes of the same.
abbrev pub said_line : Remark → List ℕ
said_line Lost = codes "lost\n"
said_line (Step outcome named) = step_words outcome named ++ codes "\n"
said_line (GivenUp given_up) = given_up_line given_up
