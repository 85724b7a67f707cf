-- How the groups are found in a stream of bits.
use Rattle.std.specs.Prelude.{ℕ, ◌+◌, ◌-◌, ◌*◌, ◌/◌, ◌%◌, ◌^◌, ◌==◌, Bool, false, ◌&&◌, ◌||◌, List, [], ◌∷◌}
use Rattle.std.specs.Prelude.{Option, Some, None, is_some, slice_index, not, if◌then◌else◌}
use Rattle.std.specs.Option.{option_and_then}
use Rattle.rds_groups.specs.Groups.{bit}
use Rattle.rds_groups.specs.Heard.{came}
use Rattle.rds_groups.specs.declared.heard.HeardGroup.{HeardGroup}
use Rattle.rds_groups.specs.declared.synchroniser.Synchroniser.{Synchroniser}
use Rattle.rds_groups.specs.declared.block_window.BlockWindow.{BlockWindow}

-- ---- Whether a step is still right: blocks behind it are judged in windows of 50. (IEC 62106, group and block
-- synchronisation)
-- A window begins: 50 blocks are still to come, and 35 wrong ones of them lose the step.
abbrev pub new_window : BlockWindow
new_window = record { blocks = 50; wrong = 35 }

-- With its last block a window is over: the step is lost, or a new window begins.
abbrev pub judged : BlockWindow → Option BlockWindow
judged w = if w.blocks == 0 then (if w.wrong == 0 then None else Some new_window) else Some w

-- One more block, whose word is missing where it came wrong.
abbrev pub block_counted : (word : Option ℕ) → BlockWindow → Option BlockWindow
block_counted word w = judged (record { blocks = w.blocks - 1; wrong = w.wrong - bit (not (is_some word)) })

-- Blocks one after another; None once the step is lost.
abbrev pub blocks_counted : (words : List (Option ℕ)) → BlockWindow → Option BlockWindow
blocks_counted [] w = Some w
blocks_counted (word ∷ words) w = option_and_then (blocks_counted words) (block_counted word w)

-- Nothing came yet.
abbrev pub switched_on : Synchroniser
switched_on = record { blocks = 0 ∷ 0 ∷ 0 ∷ 0 ∷ []; left = None; window = new_window }

-- ---- The last 104 bits, as four blocks of 26 bits each, the oldest bit highest in the first.
-- A bit behind the last 25 of a block.
abbrev pub pushed : (block bit : ℕ) → ℕ
pushed block bit = block % 2 ^ 25 * 2 + bit

-- The oldest of the 26 bits of a block.
abbrev pub oldest : (block : ℕ) → ℕ
oldest block = block / 2 ^ 25 % 2

-- One more bit behind the others: each block hands its oldest bit to the one before, and the oldest of all is gone.
abbrev pub shifted : Bool → (blocks : List ℕ) → List ℕ
shifted b blocks =
    pushed (slice_index blocks 0) (oldest (slice_index blocks 1))
    ∷ pushed (slice_index blocks 1) (oldest (slice_index blocks 2))
    ∷ pushed (slice_index blocks 2) (oldest (slice_index blocks 3))
    ∷ pushed (slice_index blocks 3) (bit b) ∷ []

-- ---- Groups.
-- Each of the four blocks is one of its place.
abbrev pub is_whole : HeardGroup → Bool
is_whole h = is_some h.block1 && (is_some h.block2 && (is_some h.block3 && is_some h.block4))

-- Of the bits that are left until the next group ends, one came.
abbrev pub counted : (left : Option ℕ) → Option ℕ
counted None = None
counted (Some left) = Some (left - 1)

-- None is left.
abbrev pub is_due : (left : Option ℕ) → Bool
is_due None = false
is_due (Some left) = left == 0

-- A group ends here if the last 104 bits are a whole one, or if one was found before and this is 104 bits behind the
-- last. (IEC 62106, group and block synchronisation; this rule: profile)
abbrev pub is_end : HeardGroup → (left : Option ℕ) → Bool
is_end h left = is_whole h || is_due left

-- Its words, in order.
abbrev pub words_of : HeardGroup → List (Option ℕ)
words_of h = h.block1 ∷ h.block2 ∷ h.block3 ∷ h.block4 ∷ []

-- A whole group begins a new window; the blocks of any other count in the one that is open.
abbrev pub window_after : HeardGroup → BlockWindow → Option BlockWindow
window_after h w = if is_whole h then Some new_window else blocks_counted (words_of h) w

-- Behind a group the next one has 104 bits; where the step is lost, one is looked for as at the beginning.
abbrev pub behind : (blocks : List ℕ) → Option BlockWindow → Synchroniser
behind blocks None = record { blocks = blocks; left = None; window = new_window }
behind blocks (Some w) = record { blocks = blocks; left = Some 104; window = w }

-- It is given as it came.
abbrev pub given : HeardGroup → Synchroniser → Synchroniser × Option HeardGroup
given h s = if is_end h s.left then (behind s.blocks (window_after h s.window), Some h) else (s, None)

-- What one more bit brings.
abbrev pub step : Bool → Synchroniser → Synchroniser × Option HeardGroup
step b s =
    let blocks = shifted b s.blocks in
    given (came blocks) (record { blocks = blocks; left = counted s.left; window = s.window })
