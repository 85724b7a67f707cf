-- What a line is to a receiver. (profile)
use Rattle.std.specs.Prelude.{◌≡◌, ◌⊎◌, ℕ, ◌<◌, ◌≤◌, List, [], ◌∷◌, length, codes, Option, Some, None}
use Rattle.uecp_text.specs.Input.{said}
use Rattle.uecp_text.specs.Words.{words, IsNumber}
use Rattle.rds_groups.specs.declared.heard.HeardGroup.{HeardGroup}
use Rattle.rds_groups.specs.Shown.{Receiver, hears}
use Rattle.receive_command.specs.declared.group_lines.group_line.GroupLine.{GroupLine}
use Rattle.receive_command.specs.declared.group_lines.group_line.GroupLine.TheVariants.{Nothing, Group, NoGroup}

-- A block: four hexadecimal digits of either case, or four hyphens where it was not heard.
abbrev pub IsBlock : (word : List ℕ) → Option ℕ → Type 0
IsBlock word None = word ≡ codes "----"
IsBlock word (Some number) = IsNumber word number

-- Four words are a group, one for each block.
abbrev pub AreBlocks : (words : List (List ℕ)) → HeardGroup → Type 0
AreBlocks words g =
    (a b c d : List ℕ) × (words ≡ a ∷ b ∷ c ∷ d ∷ []) × IsBlock a g.block1 × IsBlock b g.block2 × IsBlock c g.block3
    × IsBlock d g.block4

-- What a text is: a group by its words, or none.
abbrev pub IsText : (text : List ℕ) → GroupLine → Type 0
IsText text Nothing = ⊥
IsText text (Group g) = AreBlocks (words text) g
IsText text NoGroup = (g : HeardGroup) → AreBlocks (words text) g → ⊥

-- What a line is that is not too long: nothing, where it is empty or a comment; else what its text is.
abbrev pub IsLine : (line : List ℕ) → GroupLine → Type 0
IsLine line is =
    ((said line ≡ None) × (is ≡ Nothing)) ⊎ ((text : List ℕ) × (said line ≡ Some text) × IsText text is)

-- What a line is: that; or no group where it has more than 65,536 bytes.
abbrev pub IsTaken : (line : List ℕ) → GroupLine → Type 0
IsTaken line is = ((length line ≤ 65536) × IsLine line is) ⊎ ((65536 < length line) × (is ≡ NoGroup))

-- A group of which no block was heard.
abbrev pub nothing_heard : HeardGroup
nothing_heard = record { block1 = None; block2 = None; block3 = None; block4 = None }

-- What a receiver has heard after a line. Where that is no group the receiver heard nothing for the time of one: it may
-- have been a segment of a name.
abbrev pub after_line : GroupLine → Receiver → Receiver
after_line Nothing r = r
after_line (Group g) r = hears g r
after_line NoGroup r = hears nothing_heard r
