-- A step is lost where a window has too many wrong blocks.
use Rattle.std.proofs.Common.{◌≡◌, ◌⊎◌, ℕ, zero, suc, ◌+◌, ◌-◌, ◌*◌, ◌<◌, ◌≤◌, Bool, true, false, not, List, [], ◌∷◌}
use Rattle.std.proofs.Common.{length, take, drop, Option, Some, None, ap, sym, ◌∙◌, subst, arith, inl, inr}
use Rattle.std.proofs.Common.{if◌then◌else◌, ◌==◌}
use Rattle.std.specs.Prelude.{is_some}
use Rattle.std.specs.Option.{option_and_then}
use Rattle.std.proofs.lemmas.List.{length-drop, drop-drop}
use Rattle.std.proofs.lemmas.Bool.{cases_eq, eq-eqb, ne_eqb}
use Rattle.rds_groups.specs.Groups.{bit}
use Rattle.rds_groups.specs.Sync.{new_window, blocks_counted}
use Rattle.rds_groups.specs.SynchroniserLaws.{wrong_of, window, HasLostWindow, WindowsAreJudged}
use Rattle.rds_groups.specs.declared.block_window.BlockWindow.{BlockWindow}

abbrev Words : Type 0
Words = List (Option ℕ)

-- of an open window so many blocks are to come: it is lost by so many wrong ones, or one behind it is
record LosesFrom (blocks wrong : ℕ) (words : Words) : Type 0 where
  long : blocks ≤ length words
  lost : (wrong ≤ wrong_of (take blocks words)) ⊎ HasLostWindow (drop blocks words)

at_window : (blocks wrong : ℕ) → BlockWindow
at_window blocks wrong = record { blocks = blocks; wrong = wrong }

abbrev Loses : (blocks wrong : ℕ) → Words → Type 0
Loses blocks wrong words = blocks_counted words (record { blocks = blocks; wrong = wrong }) ≡ None

-- ---- A new window, and the windows of a list.
moved : (number : ℕ) (words : Words) → window number (drop 50 words) ≡ window (suc number) words
moved number words =
    let e : 50 + 50 * number ≡ 50 * suc number = omega arith in
    ap (take 50) (drop-drop (50 * number) 50 words ∙ ap (λ (n : ℕ). drop n words) e)

first_of : (words : Words) → HasLostWindow words → LosesFrom 50 35 words
first_of words (number, within, many) = by number within many
  where
    by : (number : ℕ) → 50 * number + 50 ≤ length words → 35 ≤ wrong_of (window number words)
        → LosesFrom 50 35 words
    by zero within many = record { long = omega arith; lost = inl many }
    by (suc number) within many = record {
      long = omega arith;
      lost = inr (
        number,
        (let e = length-drop 50 words in omega arith),
        subst (λ (ws : Words). 35 ≤ wrong_of ws) (sym (moved number words)) many,
      );
    }

lost_of : (words : Words) → LosesFrom 50 35 words → HasLostWindow words
lost_of words loses = elim loses.lost [
  | inl many ↦ (0, (let h = loses.long in omega arith), many)
  | inr behind ↦ (
    suc behind.0,
    (let e = length-drop 50 words in let h = behind.1 in let l = loses.long in omega arith),
    subst (λ (ws : Words). 35 ≤ wrong_of ws) (moved behind.0 words) behind.2,
  )
]

-- ---- One more block.
abbrev goes_on : (over lost : Bool) (words : Words) → BlockWindow → Option BlockWindow
goes_on over lost words w =
    option_and_then (blocks_counted words) (if over then (if lost then None else Some new_window) else Some w)

bit_of : Option ℕ → ℕ
bit_of word = bit (not (is_some word))

module _ (word : Option ℕ) (words : Words) (blocks wrong : ℕ) where
  abbrev wrong_now : ℕ
  wrong_now = wrong - bit (not (is_some word))

  abbrev now : BlockWindow
  now = record { blocks = blocks - 1; wrong = wrong_now }

  over_at : blocks ≡ 1 → (blocks - 1 == 0) ≡ true
  over_at one = eq-eqb (blocks - 1) 0 (omega arith)

  on_at : 1 < blocks → (blocks - 1 == 0) ≡ false
  on_at more = ne_eqb (blocks - 1) 0 (λ e. absurd (omega arith))

  -- the last block of the window
  ends_lost : blocks ≡ 1 → wrong_now ≡ 0 → Loses blocks wrong (word ∷ words)
  ends_lost one none =
      ap (λ b. goes_on b (wrong_now == 0) words now) (over_at one)
      ∙ ap (λ b. goes_on true b words now) (eq-eqb wrong_now 0 none)

  ends_new : blocks ≡ 1 → 0 < wrong_now
      → blocks_counted (word ∷ words) (record { blocks = blocks; wrong = wrong }) ≡ blocks_counted words new_window
  ends_new one some =
      ap (λ b. goes_on b (wrong_now == 0) words now) (over_at one)
      ∙ ap (λ b. goes_on true b words now) (ne_eqb wrong_now 0 (λ e. absurd (omega arith)))

  -- another
  stays : 1 < blocks
      → blocks_counted (word ∷ words) (record { blocks = blocks; wrong = wrong }) ≡ blocks_counted words now
  stays more = ap (λ b. goes_on b (wrong_now == 0) words now) (on_at more)

  one_taken : blocks ≡ 1 → take blocks (word ∷ words) ≡ word ∷ []
  one_taken one = ap (λ (n : ℕ). take n (word ∷ words)) one

  one_dropped : blocks ≡ 1 → drop blocks (word ∷ words) ≡ words
  one_dropped one = ap (λ (n : ℕ). drop n (word ∷ words)) one

  more_taken : 0 < blocks → take blocks (word ∷ words) ≡ word ∷ take (blocks - 1) words
  more_taken some =
      let e : blocks ≡ suc (blocks - 1) = omega arith in ap (λ (n : ℕ). take n (word ∷ words)) e

  more_dropped : 0 < blocks → drop blocks (word ∷ words) ≡ drop (blocks - 1) words
  more_dropped some =
      let e : blocks ≡ suc (blocks - 1) = omega arith in ap (λ (n : ℕ). drop n (word ∷ words)) e

loses_from : (words : Words) (blocks wrong : ℕ) → 0 < blocks → Loses blocks wrong words → LosesFrom blocks wrong words
loses_from [] blocks wrong some lost = absurd (cc)
loses_from (word ∷ words) blocks wrong some lost = elim (cases_eq blocks 1) [
  | inl one ↦ elim (cases_eq (wrong - bit (not (is_some word))) 0) [
    | inl none ↦ record {
      long = omega arith;
      lost = inl (let e = ap wrong_of (one_taken word words blocks wrong one) in omega arith);
    }
    | inr some_left ↦ record {
      long = omega arith;
      lost = inr (subst HasLostWindow (sym (one_dropped word words blocks wrong one))
          (lost_of words (loses_from words 50 35 (omega arith)
          (sym (ends_new word words blocks wrong one (omega arith)) ∙ lost))));
    }
  ]
  | inr more ↦
      let rest = loses_from words (blocks - 1) (wrong - bit (not (is_some word))) (omega arith)
      (sym (stays word words blocks wrong (omega arith)) ∙ lost) in
      record {
        long = (let h = rest.long in omega arith);
        lost = elim rest.lost [
          | inl many ↦ inl (let e = ap wrong_of (more_taken word words blocks wrong some) in omega arith)
          | inr behind ↦ inr (subst HasLostWindow (sym (more_dropped word words blocks wrong some)) behind)
        ];
      }
]

from_loses : (words : Words) (blocks wrong : ℕ) → 0 < blocks → LosesFrom blocks wrong words → Loses blocks wrong words
from_loses [] blocks wrong some loses = absurd (let h = loses.long in omega arith)
from_loses (word ∷ words) blocks wrong some loses = elim (cases_eq blocks 1) [
  | inl one ↦ elim (cases_eq (wrong - bit (not (is_some word))) 0) [
    | inl none ↦ ends_lost word words blocks wrong one none
    | inr some_left ↦
        ends_new word words blocks wrong one (omega arith)
        ∙ from_loses words 50 35 (omega arith) (first_of words (elim loses.lost [
          | inl many ↦ absurd (some_left (let e = ap wrong_of (one_taken word words blocks wrong one) in omega arith))
          | inr behind ↦ subst HasLostWindow (one_dropped word words blocks wrong one) behind
        ]))
  ]
  | inr more ↦
      stays word words blocks wrong (omega arith)
      ∙ from_loses words (blocks - 1) (wrong - bit (not (is_some word))) (omega arith) (record {
        long = (let h = loses.long in omega arith);
        lost = elim loses.lost [
          | inl many ↦ inl (let e = ap wrong_of (more_taken word words blocks wrong some) in omega arith)
          | inr behind ↦ inr (subst HasLostWindow (more_dropped word words blocks wrong some) behind)
        ];
      })
]

pub windows_are_judged : WindowsAreJudged
windows_are_judged words = (
  λ lost. lost_of words (loses_from words 50 35 (omega arith) lost),
  λ has. from_loses words 50 35 (omega arith) (first_of words has),
)
