-- A step is lost where a window of the blocks that come has too many wrong ones.
use Rattle.std.proofs.Common.{◌≡◌, ℕ, suc, ◌-◌, ◌<◌, Bool, true, false, ◌||◌, List, [], ◌∷◌, ◌++◌, length}
use Rattle.std.proofs.Common.{take, Option, Some, None, refl, ap, sym, ◌∙◌, subst, arith, if◌then◌else◌}
use Rattle.std.specs.Option.{option_and_then}
use Rattle.std.specs.List.{AllByRecursion}
use Rattle.std.proofs.lemmas.Bool.{ne_eqb}
use Rattle.rds_groups.specs.Heard.{came}
use Rattle.rds_groups.specs.declared.heard.HeardGroup.{HeardGroup}
use Rattle.rds_groups.specs.Sync.{step, shifted, counted, is_due, is_whole, new_window, words_of, block_counted}
use Rattle.rds_groups.specs.Sync.{blocks_counted, behind}
use Rattle.rds_groups.specs.SynchroniserLaws.{after, bits_in, FourBlocks, AreSmall, blocks_of, bits_of_all}
use Rattle.rds_groups.specs.SynchroniserLaws.{words_of_all, NoneIsWhole, StepIsLost}
use Rattle.rds_groups.specs.declared.synchroniser.Synchroniser.{Synchroniser}
use Rattle.rds_groups.specs.declared.block_window.BlockWindow.{BlockWindow}
use Rattle.rds_groups.proofs.Window.{shifted_all, comes_in}
use Rattle.rds_groups.proofs.Finding.{ended, told, next, ends_at, blocks_stepped, one_ends, or_true}
use Rattle.rds_groups.proofs.Judging.{windows_are_judged}

-- ---- No bit leaves a whole group, by the blocks alone.
abbrev Unfound : List Bool → List ℕ → Type 0
Unfound [] blocks = Unit {0}
Unfound (b ∷ bs) blocks = (is_whole (came (shifted b blocks)) ≡ false) × Unfound bs (shifted b blocks)

-- what the last bit before brought makes no difference
same_place : (bs : List Bool) (s : Synchroniser) (h : Option HeardGroup)
    → (after bs (s, h)).0 ≡ (after bs (s, None)).0
unfolding after
same_place [] s h = refl
same_place (b ∷ bs) s h = refl

unfound : (bs : List Bool) (s : Synchroniser) → NoneIsWhole bs s → Unfound bs s.blocks
unfolding after
unfound [] s none = tt
unfound (b ∷ bs) s none = (
  ap (λ (blocks : List ℕ). is_whole (came blocks)) (sym (blocks_stepped b s)) ∙ none 0 (omega arith),
  subst (Unfound bs) (blocks_stepped b s) (unfound bs (step b s).0 (λ count few.
      ap (λ (t : Synchroniser). is_whole (came t.blocks))
      (sym (same_place (take (suc count) bs) (step b s).0 (step b s).1))
      ∙ none (suc count) (omega arith))),
)

unfound_behind : (xs ys : List Bool) (blocks : List ℕ) → Unfound (xs ++ ys) blocks → Unfound ys (shifted_all xs blocks)
unfound_behind [] ys blocks none = none
unfound_behind (b ∷ xs) ys blocks none = unfound_behind xs ys (shifted b blocks) none.1

unfound_before : (xs ys : List Bool) (blocks : List ℕ) → Unfound (xs ++ ys) blocks → Unfound xs blocks
unfound_before [] ys blocks none = tt
unfound_before (b ∷ xs) ys blocks none = (none.0, unfound_before xs ys (shifted b blocks) none.1)

unfound_last : (bs : List Bool) (blocks : List ℕ) → 0 < length bs → Unfound bs blocks
    → is_whole (came (shifted_all bs blocks)) ≡ false
unfound_last [] blocks some none = absurd (omega arith)
unfound_last (b ∷ []) blocks some none = none.0
unfound_last (b ∷ (c ∷ bs)) blocks some none = unfound_last (c ∷ bs) (shifted b blocks) (omega arith) none.1

-- ---- One bit that ends no group.
no_end : (b : Bool) (s : Synchroniser) → is_whole (came (shifted b s.blocks)) ≡ false
    → is_due (counted s.left) ≡ false → step b s ≡ (next b s, None)
no_end b s none later =
    let ends : ends_at b s ≡ false =
    ap (λ t. t || is_due (counted s.left)) none ∙ later in
    ap (λ (t : Bool). told t (came (shifted b s.blocks)) (next b s)) ends

-- a step that goes on ends a group with the last of so many bits
ends_last : (b : Bool) (bs : List Bool) (s : Synchroniser) (left : ℕ) → s.left ≡ Some left → left ≡ suc (length bs)
    → Unfound (b ∷ bs) s.blocks → after (b ∷ bs) (s, None) ≡ ended s.window (shifted_all (b ∷ bs) s.blocks)
unfolding after
ends_last b [] s left is all none =
    let due : is_due (counted s.left) ≡ true = ap (λ o. is_due (counted o)) (is ∙ ap (λ (n : ℕ). Some n) all) in
    one_ends b s (ap (λ t. is_whole (came (shifted b s.blocks)) || t) due
    ∙ or_true (is_whole (came (shifted b s.blocks))))
ends_last b (c ∷ bs) s left is all none =
    let later : is_due (counted s.left) ≡ false =
    ap (λ o. is_due (counted o)) is ∙ ne_eqb (left - 1) 0 (λ e. absurd (omega arith)) in
    let fewer : left - 1 ≡ suc (length bs) = omega arith in
    ap (after (c ∷ bs)) (no_end b s none.0 later)
    ∙ ends_last c bs (next b s) (left - 1) (ap counted is) fewer none.1

ends_all : (bs : List Bool) (s : Synchroniser) (left : ℕ) → s.left ≡ Some left → left ≡ length bs → 0 < left
    → Unfound bs s.blocks → after bs (s, None) ≡ ended s.window (shifted_all bs s.blocks)
ends_all [] s left is all some none = absurd (omega arith)
ends_all (b ∷ bs) s left is all some none = ends_last b bs s left is all none

-- one that is lost stays lost
lost_stays : (bs : List Bool) (s : Synchroniser) → s.left ≡ None → Unfound bs s.blocks
    → (after bs (s, None)).0.left ≡ None
unfolding after
lost_stays [] s is none = is
lost_stays (b ∷ bs) s is none =
    ap (λ (r : Synchroniser × Option HeardGroup). (after bs r).0.left)
    (no_end b s none.0 (ap (λ o. is_due (counted o)) is))
    ∙ lost_stays bs (next b s) (ap counted is) none.1

-- ---- Blocks.
after_more : (xs ys : List Bool) (r : Synchroniser × Option HeardGroup) → after (xs ++ ys) r ≡ after ys (after xs r)
unfolding after
after_more [] ys r = refl
after_more (b ∷ xs) ys r = after_more xs ys (step b r.0)

counted_more : (xs ys : List (Option ℕ)) (w : BlockWindow)
    → blocks_counted (xs ++ ys) w ≡ option_and_then (blocks_counted ys) (blocks_counted xs w)
counted_more [] ys w = refl
counted_more (word ∷ xs) ys w = by (block_counted word w) (λ v. counted_more xs ys v)
  where
    by : (o : Option BlockWindow)
        → ((v : BlockWindow)
        → blocks_counted (xs ++ ys) v ≡ option_and_then (blocks_counted ys) (blocks_counted xs v))
        → option_and_then (blocks_counted (xs ++ ys)) o
        ≡ option_and_then (blocks_counted ys) (option_and_then (blocks_counted xs) o)
    by None more = refl
    by (Some v) more = more v

left_after : Option BlockWindow → Option ℕ
left_after None = None
left_after (Some w) = Some 104

group_counted : (g : FourBlocks) (rest : List Bool) (s : Synchroniser) → AreSmall g → s.left ≡ Some 104
    → Unfound (bits_in (blocks_of g) ++ rest) s.blocks
    → after (bits_in (blocks_of g)) (s, None)
    ≡ (behind (blocks_of g) (blocks_counted (words_of (came (blocks_of g))) s.window), Some (came (blocks_of g)))
group_counted g rest s small is none =
    let here = comes_in g.block1 g.block2 g.block3 g.block4 s.blocks small.block1 small.block2 small.block3
    small.block4 in
    let before = unfound_before (bits_in (blocks_of g)) rest s.blocks none in
    let no_whole : is_whole (came (blocks_of g)) ≡ false =
    ap (λ (blocks : List ℕ). is_whole (came blocks)) (sym here)
    ∙ unfound_last (bits_in (blocks_of g)) s.blocks (omega arith) before in
    ends_all (bits_in (blocks_of g)) s 104 is refl (omega arith) before
    ∙ ap (ended s.window) here
    ∙ ap (λ (t : Bool). let r : Synchroniser × Option HeardGroup = (
      behind (blocks_of g) (if t then Some new_window else blocks_counted (words_of (came (blocks_of g))) s.window),
      Some (came (blocks_of g)),
    ) in r) no_whole

-- the step behind these blocks is as their windows say
stands : (gs : List FourBlocks) (s : Synchroniser) → AllByRecursion AreSmall gs → s.left ≡ Some 104
    → Unfound (bits_of_all gs) s.blocks
    → (after (bits_of_all gs) (s, None)).0.left ≡ left_after (blocks_counted (words_of_all gs) s.window)
unfolding after left_after
stands [] s small is none = is
stands (g ∷ gs) s small is none =
    let bits = bits_in (blocks_of g) in
    let rest = bits_of_all gs in
    let words = words_of (came (blocks_of g)) in
    let here = comes_in g.block1 g.block2 g.block3 g.block4 s.blocks small.0.block1 small.0.block2 small.0.block3
    small.0.block4 in
    let later = subst (Unfound rest) here (unfound_behind bits rest s.blocks none) in
    ap (λ (r : Synchroniser × Option HeardGroup). r.0.left) (after_more bits rest (s, None))
    ∙ ap (λ (r : Synchroniser × Option HeardGroup). (after rest r).0.left) (group_counted g rest s small.0 is none)
    ∙ ap (λ (t : Synchroniser). t.left)
    (same_place rest (behind (blocks_of g) (blocks_counted words s.window)) (Some (came (blocks_of g))))
    ∙ by later (blocks_counted words s.window)
    (λ w. stands gs (behind (blocks_of g) (Some w)) small.1 refl later)
    ∙ ap left_after (sym (counted_more words (words_of_all gs) s.window))
  where
    by : Unfound (bits_of_all gs) (blocks_of g) → (o : Option BlockWindow)
        → ((w : BlockWindow) → (after (bits_of_all gs) (behind (blocks_of g) (Some w), None)).0.left
        ≡ left_after (blocks_counted (words_of_all gs) w))
        → (after (bits_of_all gs) (behind (blocks_of g) o, None)).0.left
        ≡ left_after (option_and_then (blocks_counted (words_of_all gs)) o)
    by later None goes = lost_stays (bits_of_all gs) (behind (blocks_of g) None) refl later
    by later (Some w) goes = goes w

none_left : (o : Option BlockWindow) → left_after o ≡ None → o ≡ None
unfolding left_after
none_left None e = refl
none_left (Some w) e = absurd (cc)

none_after : (o : Option BlockWindow) → o ≡ None → left_after o ≡ None
unfolding left_after
none_after o e = ap left_after e

pub step_is_lost : StepIsLost
step_is_lost gs s small is fresh none =
    let counted = blocks_counted (words_of_all gs) s.window in
    let same : counted ≡ blocks_counted (words_of_all gs) new_window = ap (blocks_counted (words_of_all gs)) fresh in
    let stand = stands gs s small is (unfound (bits_of_all gs) s none) in
    let judged = windows_are_judged (words_of_all gs) in (
      λ lost. judged.0 (sym same ∙ none_left counted (sym stand ∙ lost)),
      λ has. stand ∙ none_after counted (same ∙ judged.1 has),
    )
