-- The rules of a bad line, as lines say them (profile).
use Rattle.std.specs.Prelude.{◌≡◌, ◌≤◌, ◌*◌, ◌⊎◌, ◌==◌, ℕ, List, [], ◌∷◌, ◌++◌, length, codes, Some}
use Rattle.std.specs.List.{slice_split}
use Rattle.uecp_text.specs.Words.{words, decimal_in}
use Rattle.bad_line.specs.declared.rules.rule.Way.{Way}
use Rattle.bad_line.specs.declared.rules.rule.Way.TheVariants.{Frame, Reply}
use Rattle.bad_line.specs.declared.rules.rule.Span.{Span}
use Rattle.bad_line.specs.declared.rules.rule.Rule.{Rule}
use Rattle.bad_line.specs.declared.rules.rule.Rule.TheVariants.{Lose, Repeat, Damage, BreakAfter, Delay, Pace}
use Rattle.bad_line.specs.declared.rules.rule.Rule.TheVariants.{RefuseConnections, LoseByChance, DamageByChance}
use Rattle.bad_line.specs.declared.rules.rule.Rule.TheVariants.{RestartAfter}

-- The word of a direction.
abbrev pub way_word : Way → List ℕ
way_word Frame = codes "frame"
way_word Reply = codes "reply"

-- The word is a number from 1 on, of one to nine decimal digits.
abbrev pub IsCount : (word : List ℕ) → ℕ → Type 0
IsCount word number = (length word ≤ 9) × (decimal_in 999999999 word ≡ Some number) × (1 ≤ number)

-- A word cut at its dots.
abbrev pub between_dots : List ℕ → List (List ℕ)
between_dots word = slice_split (λ byte. byte == 0x2E) word

-- Two words are the first and the last number of a span.
abbrev pub AreEnds : (first last : List ℕ) → Span → Type 0
AreEnds first last span = IsCount first span.first × IsCount last span.last × (span.first ≤ span.last)

-- The word is the first and the last number of a span with two dots between.
abbrev pub IsLongSpan : (word : List ℕ) → Span → Type 0
IsLongSpan word span =
    (first last : List ℕ) × (between_dots word ≡ first ∷ [] ∷ last ∷ []) × AreEnds first last span

-- The word is a span: its only number, or its first and its last.
abbrev pub IsSpan : (word : List ℕ) → Span → Type 0
IsSpan word span = (IsCount word span.first × (span.last ≡ span.first)) ⊎ IsLongSpan word span

-- The word is a number, and then this.
abbrev pub IsCountBefore : (end word : List ℕ) → ℕ → Type 0
IsCountBefore end word number = (digits : List ℕ) × (word ≡ digits ++ end) × IsCount digits number

-- The word is so many milliseconds: a number of them and `ms`, or a number of seconds and `s`.
abbrev pub IsTime : (word : List ℕ) → (milliseconds : ℕ) → Type 0
IsTime word milliseconds = IsCountBefore (codes "ms") word milliseconds
    ⊎ ((seconds : ℕ) × IsCountBefore (codes "s") word seconds × (milliseconds ≡ 1000 * seconds))

-- The word is a chance of so many in a hundred, 1 to 100: a number and `%`.
abbrev pub IsChance : (word : List ℕ) → (percent : ℕ) → Type 0
IsChance word percent = IsCountBefore (codes "%") word percent × (percent ≤ 100)

-- The first word of the line of a rule.
abbrev pub name_of : Rule → List ℕ
name_of (Lose way span) = codes "lose"
name_of (Repeat way span) = codes "repeat"
name_of (Damage way number place) = codes "damage"
name_of (BreakAfter way number) = codes "break"
name_of (Delay milliseconds from) = codes "delay"
name_of (Pace milliseconds from) = codes "pace"
name_of (RefuseConnections milliseconds) = codes "refuse"
name_of (LoseByChance percent from) = codes "lose"
name_of (DamageByChance percent from) = codes "damage"
name_of (RestartAfter number) = codes "restart"

-- The words are a direction and a span of its segments.
abbrev pub TellSpan : List (List ℕ) → Way → Span → Type 0
TellSpan words way span = (word : List ℕ) × (words ≡ way_word way ∷ word ∷ []) × IsSpan word span

-- The words are a direction, the number of a segment and the place of a byte of it.
abbrev pub TellByte : List (List ℕ) → Way → (number place : ℕ) → Type 0
TellByte words way number place = (segment byte : List ℕ)
    × (words ≡ way_word way ∷ segment ∷ codes "byte" ∷ byte ∷ []) × IsCount segment number × IsCount byte place

-- The words are `after`, a direction and the number of a segment.
abbrev pub TellBreak : List (List ℕ) → Way → ℕ → Type 0
TellBreak words way number =
    (word : List ℕ) × (words ≡ codes "after" ∷ way_word way ∷ word ∷ []) × IsCount word number

-- The words are `frame` and a number.
abbrev pub TellFrame : List (List ℕ) → (from : ℕ) → Type 0
TellFrame words from = (word : List ℕ) × (words ≡ codes "frame" ∷ word ∷ []) × IsCount word from

-- From which segment on a rule holds: from the first where there are no words, else from the number behind
-- `from frame`.
abbrev pub TellFrom : List (List ℕ) → (from : ℕ) → Type 0
TellFrom [] from = from ≡ 1
TellFrom (word ∷ words) from = (word ≡ codes "from") × TellFrame words from

-- The words are a chance, and from which segment on.
abbrev pub TellChance : List (List ℕ) → (percent from : ℕ) → Type 0
TellChance [] percent from = ⊥
TellChance (word ∷ words) percent from = IsChance word percent × TellFrom words from

-- The words are a time, and from which segment on.
abbrev pub TellTime : List (List ℕ) → (milliseconds from : ℕ) → Type 0
TellTime [] milliseconds from = ⊥
TellTime (word ∷ words) milliseconds from = IsTime word milliseconds × TellFrom words from

-- The words after the first tell the rest of the rule.
abbrev pub Tell : List (List ℕ) → Rule → Type 0
Tell words (Lose way span) = TellSpan words way span
Tell words (Repeat way span) = TellSpan words way span
Tell words (Damage way number place) = TellByte words way number place
Tell words (BreakAfter way number) = TellBreak words way number
Tell words (Delay milliseconds from) = TellTime words milliseconds from
Tell words (Pace milliseconds from) = TellTime words milliseconds from
Tell words (RefuseConnections milliseconds) =
    (word : List ℕ) × (words ≡ codes "connections" ∷ word ∷ []) × IsTime word milliseconds
Tell words (LoseByChance percent from) = TellChance words percent from
Tell words (DamageByChance percent from) = TellChance words percent from
Tell words (RestartAfter number) = (word : List ℕ) × (words ≡ codes "after" ∷ word ∷ []) × IsCount word number

-- The words say the rule: the first is its name, and the others tell the rest.
abbrev pub Say : List (List ℕ) → Rule → Type 0
Say words rule = (others : List (List ℕ)) × (words ≡ name_of rule ∷ others) × Tell others rule

-- The text spells the rule by its words.
abbrev pub Spells : (text : List ℕ) → Rule → Type 0
Spells text rule = Say (words text) rule
