-- What is found in a stream of bits, and in bits as text.
use Rattle.std.specs.Prelude.{ℕ, ◌+◌, ◌-◌, ◌*◌, ◌/◌, ◌%◌, ◌^◌, ◌<◌, ◌≤◌, ◌≡◌, ◌↔◌, Bool, not, List, [], ◌∷◌, Option}
use Rattle.std.specs.Prelude.{Some, None, suc, false, is_some, map, flat_map, slice_index, length, take, drop, ◌++◌}
use Rattle.std.specs.List.{range_with_len, cons_option, AllByRecursion}
use Rattle.rds_groups.specs.Groups.{blocks, bits, has_bit, bit}
use Rattle.rds_groups.specs.Lines.{IsGroup}
use Rattle.rds_groups.specs.declared.group.Group.{Group}
use Rattle.rds_groups.specs.Heard.{whole, came}
use Rattle.rds_groups.specs.declared.heard.HeardGroup.{HeardGroup}
use Rattle.rds_groups.specs.Sync.{step, new_window, blocks_counted, is_whole, words_of, window_after, behind}
use Rattle.rds_groups.specs.Text.{character_step, bits_of, bit_line}
use Rattle.rds_groups.specs.declared.synchroniser.Synchroniser.{Synchroniser}

-- Where a synchroniser stands after these bits, and what the last of them brought.
unfoldable pub after : List Bool → Synchroniser × Option HeardGroup → Synchroniser × Option HeardGroup
after [] s = s
after (b ∷ bs) s = after bs (step b s.0)

-- Wherever a stream began and whatever came before: a group that comes as it went out is found with its last bit, and
-- the next one has 104 bits from there on. So the groups of a clean stream are found from its first whole one on, and
-- those behind a lost bit as well.
abbrev pub EachGroupIsFound : Type 0
EachGroupIsFound =
    (g : Group) (s : Synchroniser) → IsGroup g
    → after (bits g) (s, None) ≡ (record { blocks = blocks g; left = Some 104; window = new_window }, Some (whole g))

-- The 104 bits of any four blocks, the highest bit of the first one first.
abbrev pub bits_in : (blocks : List ℕ) → List Bool
bits_in blocks = map (λ place. has_bit (2 ^ (25 - place % 26)) (slice_index blocks (place / 26))) (range_with_len 0 104)

-- None of the bits before the last one brings a group.
abbrev pub IsQuiet : List Bool → Synchroniser → Type 0
IsQuiet bs s = (count : ℕ) → count < 104 → (after (take count bs) (s, None)).1 ≡ None

-- Where a group ended, the four blocks that come next are given with their last bit as they came, however much of them
-- is wrong, unless a group is found between; and behind them the step stands as they say, or is lost.
abbrev pub StepIsKept : Type 0
StepIsKept =
    (a b c d : ℕ) (s : Synchroniser) → a < 2 ^ 26 → b < 2 ^ 26 → c < 2 ^ 26 → d < 2 ^ 26
    → let came_blocks : List ℕ = a ∷ b ∷ c ∷ d ∷ [] in
    s.left ≡ Some 104 → IsQuiet (bits_in came_blocks) s
    → after (bits_in came_blocks) (s, None)
    ≡ (behind came_blocks (window_after (came came_blocks) s.window), Some (came came_blocks))

-- How many of these blocks came wrong: their words are missing.
abbrev pub wrong_of : (words : List (Option ℕ)) → ℕ
wrong_of [] = 0
wrong_of (word ∷ words) = bit (not (is_some word)) + wrong_of words

-- The window of this number among blocks that come one after another: 50 of them, behind those of the windows before.
abbrev pub window : (number : ℕ) → List (Option ℕ) → List (Option ℕ)
window number words = take 50 (drop (50 * number) words)

-- A window is over that has at least 35 wrong blocks.
abbrev pub HasLostWindow : List (Option ℕ) → Type 0
HasLostWindow words = (number : ℕ) × (50 * number + 50 ≤ length words) × (35 ≤ wrong_of (window number words))

-- From the beginning of a window on, a step is lost exactly where one has at least 35 wrong blocks.
abbrev pub WindowsAreJudged : Type 0
WindowsAreJudged = (words : List (Option ℕ)) → (blocks_counted words new_window ≡ None) ↔ HasLostWindow words

-- Four blocks of 26 bits each, as they came.
pub record FourBlocks : Type 0 where
  pub block1 : ℕ
  pub block2 : ℕ
  pub block3 : ℕ
  pub block4 : ℕ

pub record AreSmall (g : FourBlocks) : Type 0 where
  pub block1 : g.block1 < 2 ^ 26
  pub block2 : g.block2 < 2 ^ 26
  pub block3 : g.block3 < 2 ^ 26
  pub block4 : g.block4 < 2 ^ 26

abbrev pub blocks_of : FourBlocks → List ℕ
blocks_of g = g.block1 ∷ g.block2 ∷ g.block3 ∷ g.block4 ∷ []

-- Their bits, one behind the other, and their words.
abbrev pub bits_of_all : List FourBlocks → List Bool
bits_of_all gs = flat_map (λ g. bits_in (blocks_of g)) gs

abbrev pub words_of_all : List FourBlocks → List (Option ℕ)
words_of_all gs = flat_map (λ g. words_of (came (blocks_of g))) gs

-- With none of these bits do the last 104 become a whole group.
abbrev pub NoneIsWhole : List Bool → Synchroniser → Type 0
NoneIsWhole bs s =
    (count : ℕ) → count < length bs → is_whole (came (after (take (suc count) bs) (s, None)).0.blocks) ≡ false

-- Behind a whole group, where no other one comes: the step is lost exactly where a window of the blocks that came has
-- at least 35 wrong ones.
abbrev pub StepIsLost : Type 0
StepIsLost =
    (gs : List FourBlocks) (s : Synchroniser) → AllByRecursion AreSmall gs
    → s.left ≡ Some 104 → s.window ≡ new_window → NoneIsWhole (bits_of_all gs) s
    → ((after (bits_of_all gs) (s, None)).0.left ≡ None) ↔ HasLostWindow (words_of_all gs)

-- The groups that are found in a stream of bits, in order.
abbrev pub found : List Bool → Synchroniser → List HeardGroup
found [] s = []
found (b ∷ bs) s = cons_option (step b s).1 (found bs (step b s).0)

-- And in a text.
abbrev pub found_in_text : (text : List ℕ) → Synchroniser → List HeardGroup
found_in_text [] s = []
found_in_text (character ∷ text) s =
    cons_option (character_step character s).1 (found_in_text text (character_step character s).0)

-- Where a synchroniser stands behind a text.
abbrev pub after_text : (text : List ℕ) → Synchroniser → Synchroniser
after_text [] s = s
after_text (character ∷ text) s = after_text text (character_step character s).0

-- A text in two parts has the groups of the first, and then those of the second, wherever it is cut.
abbrev pub TextsAddUp : Type 0
TextsAddUp =
    (one other : List ℕ) (s : Synchroniser)
    → found_in_text (one ++ other) s ≡ found_in_text one s ++ found_in_text other (after_text one s)

-- A text has the groups of its bits: characters that are no bits make no difference.
abbrev pub TextIsItsBits : Type 0
TextIsItsBits = (text : List ℕ) (s : Synchroniser) → found_in_text text s ≡ found (bits_of text) s

-- The line of a group reads as its bits.
abbrev pub LinesReadBack : Type 0
LinesReadBack = (g : Group) → bits_of (bit_line g) ≡ bits g
