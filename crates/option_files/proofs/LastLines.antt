-- The last line of a text, byte by byte.
use Rattle.std.proofs.Common.{arith, ◌≡◌, ◌||◌, ℕ, Bool, true, false, cond, [], ◌∷◌, ◌++◌, refl, ap, ◌∙◌}
use Rattle.std.proofs.Common.{◌+◌, ◌<◌, ◌≤◌, length, get_or, take}
use Rattle.std.specs.List.{count_by}
use Rattle.std.proofs.lemmas.List.{take_more}
use Rattle.std.proofs.lemmas.List.Sums.{count_by_more_no, count_by_more_yes, sum_by_push}
use Rattle.std.specs.List.{list_any}
use Rattle.std.proofs.lemmas.List.Folds.{list_any-append}
use Rattle.option_files.specs.Words.{Text}
use Rattle.option_files.specs.Places.{is_feed, is_first, last_line}

or_false : (b : Bool) → (b || false) ≡ b
or_false true = refl
or_false false = refl

-- a byte that is no line feed stands behind the last line
pub last_line-more : (text : Text) (b : ℕ) → is_feed b ≡ false → last_line (text ++ b ∷ []) ≡ last_line text ++ b ∷ []
last_line-more [] b other = rw other refl
last_line-more (c ∷ text) b other =
    let same : list_any is_feed (text ++ b ∷ []) ≡ list_any is_feed text =
    list_any-append is_feed text (b ∷ []) ∙ rw other (or_false (list_any is_feed text)) in
    rw same (go (list_any is_feed text) (is_feed c) (last_line-more text b other))
  where
    go : (t u : Bool) → last_line (text ++ b ∷ []) ≡ last_line text ++ b ∷ []
        → cond t (last_line (text ++ b ∷ [])) (cond u (text ++ b ∷ []) (c ∷ text ++ b ∷ []))
        ≡ cond t (last_line text) (cond u text (c ∷ text)) ++ b ∷ []
    go true u more = more
    go false true more = refl
    go false false more = refl

-- behind a line feed stands nothing
pub last_line-feed : (text : Text) (b : ℕ) → is_feed b ≡ true → last_line (text ++ b ∷ []) ≡ []
last_line-feed [] b feed = rw feed refl
last_line-feed (c ∷ text) b feed =
    let some : list_any is_feed (text ++ b ∷ []) ≡ true =
    list_any-append is_feed text (b ∷ []) ∙ rw feed (or_true (list_any is_feed text)) in
    rw some (last_line-feed text b feed)
  where
    or_true : (t : Bool) → (t || true) ≡ true
    or_true true = refl
    or_true false = refl

-- the place behind one more byte
abbrev pub IsAt : (text : Text) (index line column : ℕ) → Type 0
IsAt text index line column = (line ≡ count_by is_feed (take index text) + 1)
    × (column ≡ count_by is_first (last_line (take index text)) + 1) × (line ≤ index + 1) × (column ≤ index + 1)

abbrev as_number : Bool → ℕ
as_number t = cond t 1 0

at_most : (u : Bool) → cond u 1 0 ≤ 1
at_most true = omega arith
at_most false = omega arith

first_more : (line : Text) (b : ℕ) → count_by is_first (line ++ b ∷ []) ≡ count_by is_first line + cond (is_first b) 1 0
first_more line b = sum_by_push (λ x. cond (is_first x) 1 0) line b

pub at_more : (text : Text) (i line column line' column' : ℕ) → i < length text → IsAt text i line column
    → line' ≡ line + cond (is_feed (get_or text i 0)) 1 0
    → column' ≡ cond (is_feed (get_or text i 0)) 1 (column + cond (is_first (get_or text i 0)) 1 0)
    → IsAt text (i + 1) line' column'
at_more text i line column line' column' lt at lines columns =
    go (is_feed (get_or text i 0)) (is_first (get_or text i 0)) refl refl lines columns
  where
    go : (t u : Bool) → is_feed (get_or text i 0) ≡ t → is_first (get_or text i 0) ≡ u → line' ≡ line + cond t 1 0
        → column' ≡ cond t 1 (column + cond u 1 0) → IsAt text (i + 1) line' column'
    go true u feed is lines columns =
        let one = count_by_more_yes is_feed text i 0 lt feed in
        let none : count_by is_first (last_line (take (i + 1) text)) ≡ 0 =
        rw (take_more text i 0 lt, last_line-feed (take i text) (get_or text i 0) feed) refl in (
          omega (arith, one, lines, at.0),
          omega (arith, none, columns),
          omega (arith, lines, at.2),
          omega (arith, columns),
        )
    go false u other is lines columns =
        let same = count_by_more_no is_feed text i 0 lt other in
        let more : count_by is_first (last_line (take (i + 1) text))
        ≡ count_by is_first (last_line (take i text)) + cond (is_first (get_or text i 0)) 1 0 =
        rw (take_more text i 0 lt, last_line-more (take i text) (get_or text i 0) other)
        (first_more (last_line (take i text)) (get_or text i 0)) in
        let by : as_number (is_first (get_or text i 0)) ≡ as_number u = ap as_number is in
        let few : cond u 1 0 ≤ 1 = at_most u in (
          omega (arith, same, lines, at.0),
          omega (arith, more, by, columns, at.1),
          omega (arith, lines, at.2),
          omega (arith, columns, at.3, few),
        )
