-- A word at the front of a text, and where there is none.
use Rattle.std.proofs.Common.{◌≡◌, ℕ, ◌≤◌, List, [], ◌∷◌, ◌++◌, true, false, sym, ap, ◌∙◌, arith, length}
use Rattle.std.proofs.Common.{length-append}
use Rattle.std.specs.List.{list_all}
use Rattle.phrase_tokens.specs.Tokens.{Word, is_word_character, goes_on}
use Rattle.phrase_tokens.specs.Fronts.{Front, WordNone}
use Rattle.phrase_tokens.proofs.Characters.{both}
use Rattle.phrase_tokens.proofs.OneReading.{longest}

-- Where sixteen characters of a word and one more stand in front, no word does.
pub word_full : (text w rest more : List ℕ) (c : ℕ) → text ≡ w ++ rest → rest ≡ c ∷ more
    → list_all is_word_character w ≡ true → is_word_character c ≡ true → 16 ≤ length w → WordNone text
word_full text w rest more c whole is all one_more full = λ v behind f.
    let (z, longer, left) = longest w rest v behind all f.ends
    (sym whole ∙ f.whole ∙ ap (λ l. l ++ behind) f.spells.1) in
    by v behind f z longer left
  where
    by : (v behind : List ℕ) → Front text (Word v) behind → (z : List ℕ) → v ≡ w ++ z → rest ≡ z ++ behind → ⊥
    by v behind f [] longer left =
        let on : goes_on (c ∷ more) ≡ true = one_more in
        cc (on, ap goes_on (sym is ∙ left), f.ends)
    by v behind f (d ∷ z) longer left =
        let few : length v ≤ 16 = f.spells.0.1 in
        omega (arith, ap length longer, length-append w (d ∷ z))

-- Where no character of a word stands in front, no word does.
pub word_empty : (text w rest : List ℕ) → text ≡ w ++ rest → length w ≤ 0 → goes_on rest ≡ false → WordNone text
word_empty text [] rest whole none ends = λ v behind f. by v behind f
  where
    by : (v behind : List ℕ) → Front text (Word v) behind → ⊥
    by [] behind f = omega (arith, f.spells.0.0)
    by (d ∷ v) behind f =
        let on : goes_on (d ∷ (v ++ behind)) ≡ true =
        (both (is_word_character d) (list_all is_word_character v) f.spells.0.2).0 in
        let same : rest ≡ d ∷ (v ++ behind) = sym whole ∙ f.whole ∙ ap (λ l. l ++ behind) f.spells.1 in
        cc (on, ap goes_on same, ends)
word_empty text (d ∷ w) rest whole none ends = absurd (omega arith)
