-- The words up to a word `--`, and those of entries.
use Rattle.std.proofs.Common.{◌≡◌, List, [], ◌∷◌, ◌++◌, refl, ap, sym, ◌∙◌, append_assoc, append-nil}
use Rattle.std.proofs.Common.{ℕ, zero, suc, ◌<◌, Bool, true, false, ◌||◌, length, get_or, map, arith, string_bytes}
use Rattle.std.proofs.Common.{String, Global, Option, Some, None, option_map}
use Rattle.std.specs.Prelude.{is_some}
use Rattle.std.specs.List.{list_any}
use Rattle.std.proofs.Common.{◌+◌, ◌≤◌, take, drop, ap₂}
use Rattle.std.proofs.lemmas.List.{drop-map, map-append, take-map, take_all, take_more}
use Rattle.option_files.specs.Entries.{entry_view}
use Rattle.option_files.specs.declared.entries.Entry.{Entry as EntryValue}
use Rattle.option_files.specs.Words.{Entry, Text, words_beside, word_beside}

or_true : (b : Bool) → (b || true) ≡ true
or_true true = refl
or_true false = refl

-- one more entry at the end
pub beside_last : (words : List Text) (done : List Entry) (e : Entry)
    → words_beside words (done ++ e ∷ []) ≡ words_beside words done ++ word_beside words e
beside_last words [] e = append-nil (word_beside words e)
beside_last words (d ∷ done) e =
    ap (λ rest. word_beside words d ++ rest) (beside_last words done e)
    ∙ sym (append_assoc (word_beside words d) (words_beside words done) (word_beside words e))

-- a word for which the test holds is among the words
pub any_at : (p : Text → Bool) (xs : List (String Global)) (i : ℕ) (d : String Global) → i < length xs
    → p (string_bytes (get_or xs i d)) ≡ true → list_any p (map string_bytes xs) ≡ true
any_at p [] i d lt hit = absurd (omega arith)
any_at p (x ∷ xs) zero d lt hit = rw hit refl
any_at p (x ∷ xs) (suc i) d lt hit = rw (any_at p xs i d (omega arith) hit) (or_true (p (string_bytes x)))

-- what is there stays there
pub there : {A B : Type 0} (f : A → B) (o : Option A) → is_some (option_map f o) ≡ is_some o
there f None = refl
there f (Some x) = refl

-- the words of one more entry
pub beside_more : (words before all new : List Text) (es : List EntryValue) (i : ℕ) (e : EntryValue) → i < length es
    → e ≡ get_or es i e → all ≡ before ++ words_beside words (map entry_view (take i es))
    → new ≡ all ++ word_beside words (entry_view e)
    → new ≡ before ++ words_beside words (map entry_view (take (i + 1) es))
beside_more words before all new es i e lt is sofar more =
    let grown : map entry_view (take (i + 1) es) ≡ map entry_view (take i es) ++ entry_view e ∷ [] =
    ap (map entry_view) (take_more es i e lt) ∙ map-append entry_view (take i es) (get_or es i e ∷ [])
    ∙ ap (λ x. map entry_view (take i es) ++ entry_view x ∷ []) (sym is) in
    more ∙ ap (λ t. t ++ word_beside words (entry_view e)) sofar
    ∙ append_assoc before (words_beside words (map entry_view (take i es))) (word_beside words (entry_view e))
    ∙ ap (λ t. before ++ t) (sym (ap (words_beside words) grown
    ∙ beside_last words (map entry_view (take i es)) (entry_view e)))

-- the names, the entries' words and all the words behind the names
pub all_joined : (words : List (String Global)) (i : ℕ) (items : List (String Global)) (all beside : List Text)
    → items ≡ drop 2 words → length items ≤ i
    → all ≡ (map string_bytes (take 2 words) ++ beside) ++ map string_bytes (take i items)
    → all ≡ take 2 (map string_bytes words) ++ (beside ++ drop 2 (map string_bytes words))
all_joined words i items all beside behind long sofar =
    sofar
    ∙ ap₂ (λ x y. (x ++ beside) ++ y) (sym (take-map string_bytes 2 words))
    (ap (map string_bytes) (take_all i items long ∙ behind) ∙ sym (drop-map string_bytes 2 words))
    ∙ append_assoc (take 2 (map string_bytes words)) beside (drop 2 (map string_bytes words))
