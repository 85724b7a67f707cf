-- What decimal digits spell, as far as they have been read.
use Rattle.std.proofs.Common.{◌≡◌, ℕ, ◌+◌, ◌-◌, ◌*◌, ◌<◌, ◌≤◌, ◌==◌, Bool, true, false, not, ◌&&◌, cond, List, [], ◌∷◌}
use Rattle.std.proofs.Common.{◌++◌, length, get_or, take, drop, fold, Some, None, refl, sym, ap, ◌∙◌, arith}
use Rattle.std.proofs.Common.{take-append-drop}
use Rattle.std.specs.List.{list_all}
use Rattle.std.specs.Char.{is_ascii_digit}
use Rattle.std.proofs.lemmas.Bool.{lt-leb, le-leb}
use Rattle.std.proofs.lemmas.List.Sums.{fold_more, fold-append}
use Rattle.std.proofs.lemmas.List.Folds.{list_all_at, list_all_more}
use Rattle.uecp_text.specs.Words.{decimal_value, decimal_in}

-- the number with one more digit
abbrev digit_on : ℕ → ℕ → ℕ
digit_on n d = n * 10 + (d - 48)

grows : (n : ℕ) (xs : List ℕ) → n ≤ fold digit_on n xs
grows n [] = omega arith
grows n (x ∷ xs) = let h = grows (n * 10 + (x - 48)) xs in omega arith

pub value_none : decimal_value [] ≡ 0
unfolding decimal_value
value_none = refl

pub value_more : (xs : List ℕ) (i : ℕ) → i < length xs
    → decimal_value (take (i + 1) xs) ≡ decimal_value (take i xs) * 10 + (get_or xs i 0 - 48)
unfolding decimal_value
value_more xs i h = fold_more digit_on 0 xs i 0 h

pub value_so_far : (xs : List ℕ) (i : ℕ) → decimal_value (take i xs) ≤ decimal_value xs
unfolding decimal_value
value_so_far xs i =
    let h = grows (fold digit_on 0 (take i xs)) (drop i xs) in
    let e : fold digit_on 0 (take i xs ++ drop i xs) ≡ fold digit_on (fold digit_on 0 (take i xs)) (drop i xs) =
    fold-append digit_on 0 (take i xs) (drop i xs) in
    let w : fold digit_on 0 xs ≡ fold digit_on 0 (take i xs ++ drop i xs) =
    ap (fold digit_on 0) (sym (take-append-drop i xs)) in
    omega arith

pub digits_more : (xs : List ℕ) (i : ℕ) → i < length xs → list_all is_ascii_digit (take i xs) ≡ true
    → is_ascii_digit (get_or xs i 0) ≡ true → list_all is_ascii_digit (take (i + 1) xs) ≡ true
digits_more xs i h before digit = list_all_more is_ascii_digit xs i 0 h
    ∙ ap (λ b. b && is_ascii_digit (get_or xs i 0)) before ∙ digit

-- where the first, the second or the third test fails
first_fails : (a b c : Bool) (v : ℕ) → a ≡ false → None ≡ cond (a && b && c) (Some v) None
first_fails false b c v h = refl
first_fails true b c v h = cc

second_fails : (a b c : Bool) (v : ℕ) → b ≡ false → None ≡ cond (a && b && c) (Some v) None
second_fails false b c v h = refl
second_fails true false c v h = refl
second_fails true true c v h = cc

third_fails : (a b c : Bool) (v : ℕ) → c ≡ false → None ≡ cond (a && b && c) (Some v) None
third_fails false b c v h = refl
third_fails true false c v h = refl
third_fails true true false v h = refl
third_fails true true true v h = cc

none_fails : (a b c : Bool) (v : ℕ) → a ≡ true → b ≡ true → c ≡ true → Some v ≡ cond (a && b && c) (Some v) None
none_fails a b c v p q r = rw (p, q, r) refl

pub in_of_empty : (most : ℕ) (word : List ℕ) → (length word == 0) ≡ true → None ≡ decimal_in most word
unfolding decimal_in
in_of_empty most word h = first_fails _ (list_all is_ascii_digit word) _ _ (ap not h)

pub in_of_other : (most : ℕ) (word : List ℕ) (i : ℕ) → i < length word → is_ascii_digit (get_or word i 0) ≡ false
    → None ≡ decimal_in most word
unfolding decimal_in
in_of_other most word i h other = second_fails (not (length word == 0)) _ _ _
    (list_all_at is_ascii_digit word i 0 h other)

pub in_of_larger : (most : ℕ) (word : List ℕ) (i : ℕ) → most < decimal_value (take i word) → None ≡ decimal_in most word
unfolding decimal_in
in_of_larger most word i h =
    let so_far = value_so_far word i in
    third_fails (not (length word == 0)) (list_all is_ascii_digit word) _ (decimal_value word)
    (lt-leb (decimal_value word) most (omega arith))

pub in_of_digits : (most : ℕ) (word : List ℕ) → (length word == 0) ≡ false → list_all is_ascii_digit word ≡ true
    → decimal_value word ≤ most → Some (decimal_value word) ≡ decimal_in most word
unfolding decimal_in
in_of_digits most word some digits within = none_fails _ _ _ _ (ap not some) digits
    (le-leb (decimal_value word) most within)
