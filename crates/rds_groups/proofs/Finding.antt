-- What is found.
use Rattle.std.proofs.Common.{◌≡◌, ℕ, suc, ◌-◌, ◌*◌, ◌^◌, ◌<◌, Bool, true, false, ◌||◌, List, [], ◌∷◌, length, take}
use Rattle.std.proofs.Common.{Option, Some, None, refl, ap, sym, ◌∙◌, arith, if◌then◌else◌}
use Rattle.std.proofs.lemmas.Nat.{xor_lt}
use Rattle.rds_groups.specs.Blocks.{block, value_of, check_word}
use Rattle.rds_groups.specs.declared.offset_word.OffsetWord.{OffsetWord}
use Rattle.rds_groups.specs.declared.offset_word.OffsetWord.TheVariants.{A, B, C, CPrime, D}
use Rattle.rds_groups.proofs.Linear.{remainder_below}
use Rattle.rds_groups.specs.Groups.{blocks, bits, third_offset}
use Rattle.rds_groups.specs.declared.group.Group.{Group}
use Rattle.rds_groups.specs.Heard.{whole, came}
use Rattle.rds_groups.specs.declared.heard.HeardGroup.{HeardGroup}
use Rattle.rds_groups.proofs.ReceiverReading.{comes_whole}
use Rattle.rds_groups.specs.Sync.{step, shifted, counted, is_due, is_end, is_whole, new_window, blocks_counted}
use Rattle.rds_groups.specs.Sync.{window_after, behind}
use Rattle.rds_groups.specs.SynchroniserLaws.{after, bits_in, EachGroupIsFound, StepIsKept}
use Rattle.rds_groups.specs.declared.synchroniser.Synchroniser.{Synchroniser}
use Rattle.rds_groups.specs.declared.block_window.BlockWindow.{BlockWindow}
use Rattle.rds_groups.proofs.Window.{shifted_all, comes_in}

-- where a synchroniser stands with these blocks after a group, and that group
abbrev pub ended : BlockWindow → List ℕ → Synchroniser × Option HeardGroup
ended w blocks = (behind blocks (window_after (came blocks) w), Some (came blocks))

-- what a bit makes of a synchroniser, by whether a group ends
abbrev pub told : (ends : Bool) → HeardGroup → Synchroniser → Synchroniser × Option HeardGroup
told ends h s = if ends then (behind s.blocks (window_after h s.window), Some h) else (s, None)

blocks_behind : (blocks : List ℕ) (o : Option BlockWindow) → (behind blocks o).blocks ≡ blocks
blocks_behind blocks None = refl
blocks_behind blocks (Some w) = refl

blocks_told : (ends : Bool) (h : HeardGroup) (s : Synchroniser) → (told ends h s).0.blocks ≡ s.blocks
blocks_told true h s = blocks_behind s.blocks (window_after h s.window)
blocks_told false h s = refl

abbrev pub next : Bool → Synchroniser → Synchroniser
next b s = record { blocks = shifted b s.blocks; left = counted s.left; window = s.window }

abbrev pub ends_at : Bool → Synchroniser → Bool
ends_at b s = is_end (came (shifted b s.blocks)) (counted s.left)

pub blocks_stepped : (b : Bool) (s : Synchroniser) → (step b s).0.blocks ≡ shifted b s.blocks
blocks_stepped b s = blocks_told (ends_at b s) (came (shifted b s.blocks)) (next b s)

pub one_ends : (b : Bool) (s : Synchroniser) → ends_at b s ≡ true → step b s ≡ ended s.window (shifted b s.blocks)
one_ends b s e = ap (λ (t : Bool). told t (came (shifted b s.blocks)) (next b s)) e

-- so the code's two ways
pub given_here : (b : Bool) (s after_it : Synchroniser) (blocks : List ℕ) (left : Option ℕ) (h : HeardGroup)
    (ends : Bool) → blocks ≡ shifted b s.blocks → left ≡ counted s.left → h ≡ came blocks → ends ≡ is_end h left
    → ends ≡ true → after_it ≡ behind blocks (window_after h s.window)
    → let r : Synchroniser × Option HeardGroup = (after_it, Some h) in r ≡ step b s
given_here b s after_it blocks left h ends eb el eh e is goes =
    let heard : h ≡ came (shifted b s.blocks) = eh ∙ ap came eb in
    let ended_so : ends_at b s ≡ true =
    ap (λ x. is_end x (counted s.left)) (sym heard) ∙ ap (is_end h) (sym el) ∙ sym e ∙ is in
    ap (λ (x : Synchroniser). let r : Synchroniser × Option HeardGroup = (x, Some h) in r) goes
    ∙ ap (λ (x : List ℕ). let r : Synchroniser × Option HeardGroup =
    (behind x (window_after h s.window), Some h) in r) eb
    ∙ ap (λ (x : HeardGroup). let r : Synchroniser × Option HeardGroup =
    (behind (shifted b s.blocks) (window_after x s.window), Some x) in r) heard
    ∙ sym (one_ends b s ended_so)

pub nothing_here : (b : Bool) (s : Synchroniser) (blocks : List ℕ) (left : Option ℕ) (h : HeardGroup) (ends : Bool)
    → blocks ≡ shifted b s.blocks → left ≡ counted s.left → h ≡ came blocks → ends ≡ is_end h left → ends ≡ false
    → let r : Synchroniser × Option HeardGroup = (record { blocks = blocks; left = left; window = s.window }, None)
    in r ≡ step b s
nothing_here b s blocks left h ends eb el eh e is =
    let heard : h ≡ came (shifted b s.blocks) = eh ∙ ap came eb in
    let goes_on : ends_at b s ≡ false =
    ap (λ x. is_end x (counted s.left)) (sym heard) ∙ ap (is_end h) (sym el) ∙ sym e ∙ is in
    ap (λ (x : List ℕ). let r : Synchroniser × Option HeardGroup =
    (record { blocks = x; left = left; window = s.window }, None) in r) eb
    ∙ ap (λ (x : Option ℕ). let r : Synchroniser × Option HeardGroup =
    (record { blocks = shifted b s.blocks; left = x; window = s.window }, None) in r) el
    ∙ sym (ap (λ (t : Bool). told t (came (shifted b s.blocks)) (next b s)) goes_on)

-- ---- The last of some bits ends a group where the window is a whole one then.
or_due : (t u : Bool) → t ≡ true → (t || u) ≡ true
or_due true u e = refl
or_due false u e = absurd (cc)

-- and then a new window begins
begun : List ℕ → Synchroniser × Option HeardGroup
begun blocks = (record { blocks = blocks; left = Some 104; window = new_window }, Some (came blocks))

begins : (w : BlockWindow) (blocks : List ℕ) → is_whole (came blocks) ≡ true → ended w blocks ≡ begun blocks
unfolding begun
begins w blocks is =
    let others = blocks_counted
    ((came blocks).block1 ∷ (came blocks).block2 ∷ (came blocks).block3 ∷ (came blocks).block4 ∷ []) w in
    ap (λ (t : Bool). let r : Synchroniser × Option HeardGroup =
    (behind blocks (if t then Some new_window else others), Some (came blocks)) in r) is

whole_ends : (b : Bool) (bs : List Bool) (s : Synchroniser) (h : Option HeardGroup) (window : List ℕ)
    → shifted_all (b ∷ bs) s.blocks ≡ window → is_whole (came window) ≡ true → after (b ∷ bs) (s, h) ≡ begun window
unfolding after
whole_ends b [] s h window e is =
    one_ends b s (or_due (is_whole (came (shifted b s.blocks))) (is_due (counted s.left))
    (ap (λ blocks. is_whole (came blocks)) e ∙ is))
    ∙ ap (ended s.window) e ∙ begins s.window window is
whole_ends b (c ∷ bs) s h window e is =
    whole_ends c bs (step b s).0 (step b s).1 window
    (ap (λ blocks. shifted_all (c ∷ bs) blocks) (blocks_stepped b s) ∙ e) is

-- ---- Where a group ended, the last of 104 bits ends one.
pub or_true : (t : Bool) → (t || true) ≡ true
or_true true = refl
or_true false = refl

quiet_told : (ends : Bool) (h : HeardGroup) (s : Synchroniser) → (told ends h s).1 ≡ None → told ends h s ≡ (s, None)
quiet_told true h s e = absurd (cc)
quiet_told false h s e = refl

quiet_step : (b : Bool) (s : Synchroniser) → (step b s).1 ≡ None → step b s ≡ (next b s, None)
quiet_step b s e = quiet_told (ends_at b s) (came (shifted b s.blocks)) (next b s) e

due_ends : (b : Bool) (bs : List Bool) (s : Synchroniser) (left : ℕ) → s.left ≡ Some left → left ≡ suc (length bs)
    → ((count : ℕ) → count < left → (after (take count (b ∷ bs)) (s, None)).1 ≡ None)
    → after (b ∷ bs) (s, None) ≡ ended s.window (shifted_all (b ∷ bs) s.blocks)
unfolding after
due_ends b [] s left is all quiet =
    let due : is_due (counted s.left) ≡ true = ap (λ o. is_due (counted o)) (is ∙ ap (λ (n : ℕ). Some n) all) in
    one_ends b s (ap (λ t. is_whole (came (shifted b s.blocks)) || t) due
    ∙ or_true (is_whole (came (shifted b s.blocks))))
due_ends b (c ∷ bs) s left is all quiet =
    let still : step b s ≡ (next b s, None) = quiet_step b s (quiet 1 (omega arith)) in
    let fewer : left - 1 ≡ suc (length bs) = omega arith in
    ap (after (c ∷ bs)) still
    ∙ due_ends c bs (next b s) (left - 1) (ap counted is) fewer (λ count few.
    ap (λ (r : Synchroniser × Option HeardGroup). (after (take count (c ∷ bs)) r).1) (sym still)
    ∙ quiet (suc count) (omega arith))

-- ---- The laws.
four : (a b c d : ℕ) (s : Synchroniser) → a < 2 ^ 26 → b < 2 ^ 26 → c < 2 ^ 26 → d < 2 ^ 26
    → is_whole (came (a ∷ b ∷ c ∷ d ∷ [])) ≡ true
    → after (bits_in (a ∷ b ∷ c ∷ d ∷ [])) (s, None) ≡ begun (a ∷ b ∷ c ∷ d ∷ [])
four a b c d s ha hb hc hd is = whole_ends _ _ s None (a ∷ b ∷ c ∷ d ∷ []) (comes_in a b c d s.blocks ha hb hc hd) is

pub step_is_kept : StepIsKept
step_is_kept a b c d s ha hb hc hd is quiet =
    due_ends _ _ s 104 is refl quiet ∙ ap (ended s.window) (comes_in a b c d s.blocks ha hb hc hd)

-- a group that comes whole is found whole
whole_group : (g : Group) → is_whole (whole g) ≡ true
whole_group g = refl

in_four : (g : Group) → bits g ≡ bits_in (blocks g)
in_four g = refl

found_as : (g : Group) (s : Synchroniser) (a b c d : ℕ) → a < 2 ^ 26 → b < 2 ^ 26 → c < 2 ^ 26 → d < 2 ^ 26
    → bits g ≡ bits_in (a ∷ b ∷ c ∷ d ∷ []) → came (a ∷ b ∷ c ∷ d ∷ []) ≡ whole g
    → after (bits g) (s, None)
    ≡ (record { blocks = a ∷ b ∷ c ∷ d ∷ []; left = Some 104; window = new_window }, Some (whole g))
unfolding begun
found_as g s a b c d ha hb hc hd same heard =
    ap (λ bs. after bs (s, None)) same
    ∙ four a b c d s ha hb hc hd (ap is_whole heard ∙ whole_group g)
    ∙ ap (λ (h : HeardGroup). let r : Synchroniser × Option HeardGroup =
    (record { blocks = a ∷ b ∷ c ∷ d ∷ []; left = Some 104; window = new_window }, Some h) in r) heard

block_small : (word : ℕ) (o : OffsetWord) → word < 2 ^ 16 → block word (value_of o) < 2 ^ 26
block_small word o h = omega (
  arith,
  xor_lt 10 (check_word word) (value_of o) (remainder_below 26 (word * 0x400))
      (offset_small o),
)
  where
    offset_small : (o : OffsetWord) → value_of o < 1024
    offset_small A = omega arith
    offset_small B = omega arith
    offset_small C = omega arith
    offset_small CPrime = omega arith
    offset_small D = omega arith

pub each_group_is_found : EachGroupIsFound
each_group_is_found g s ok =
    found_as g s (block g.block1 (value_of A)) (block g.block2 (value_of B))
    (block g.block3 (value_of (third_offset g.block2))) (block g.block4 (value_of D))
    (block_small g.block1 A ok.block1) (block_small g.block2 B ok.block2)
    (block_small g.block3 (third_offset g.block2) ok.block3) (block_small g.block4 D ok.block4)
    (in_four g) (comes_whole g ok)
