-- Characters that stand in the set, a byte for each.
use Rattle.std.proofs.Common.{◌≡◌, ◌+◌, ◌<◌, ◌≤◌, ℕ, List, [], ◌∷◌, ◌++◌, length, map, drop, refl, sym, ap, ◌∙◌}
use Rattle.std.proofs.Common.{subst, get_or, arith, zero, suc}
use Rattle.std.specs.Prelude.{Some, Option}
use Rattle.std.proofs.lemmas.List.{drop_all, drop_more, length-append, length-map}
use Rattle.rds_text.specs.BasicSet.{character_of}
use Rattle.titles.specs.Fitting.{IsNotInSet, Puts}
use Rattle.titles.specs.Titles.{NoneStands, Stands}
use Rattle.titles.proofs.Leading.{Leads, leads_end, leads_on}

-- the bytes are these characters
abbrev pub Are : (characters bytes : List ℕ) → Type 0
Are characters bytes = map character_of bytes ≡ map Some characters

first_is : (cs : List ℕ) (i byte character : ℕ) (first more : List ℕ) → character_of byte ≡ Some character
    → first ≡ byte ∷ [] → Are (drop (i + 1) cs) more → Are (character ∷ drop (i + 1) cs) (first ++ more)
first_is cs i byte character first more is one rest =
    subst (λ f. Are (character ∷ drop (i + 1) cs) (f ++ more)) (sym one) cc

pub stand_on : (cs : List ℕ) (i byte character : ℕ) (whole : List ℕ → Type 0) (before now next : List ℕ)
    → i < length cs → get_or cs i character ≡ character → Leads (Are (drop i cs)) whole before now
    → character_of byte ≡ Some character → next ≡ now ++ byte ∷ [] → Leads (Are (drop (i + 1) cs)) whole before next
stand_on cs i byte character whole before now next lt here leads is eq =
    leads_on (λ bytes. bytes ≡ byte ∷ []) (Are (drop (i + 1) cs)) (Are (character ∷ drop (i + 1) cs)) whole before
    now next (λ first more one rest. first_is cs i byte character first more is one rest)
    (subst (λ k. Leads (Are k) whole before now)
    (drop_more cs i character lt ∙ ap (λ k. k ∷ drop (i + 1) cs) here) leads) (byte ∷ [], refl, eq)

-- as many bytes as characters
pub same_length : (cs bytes : List ℕ) → Are cs bytes → length bytes ≡ length cs
same_length cs bytes are =
    sym (length-map bytes character_of) ∙ ap (λ (k : List (Option ℕ)). length k) are ∙ length-map cs Some

not_at : (cs bytes : List ℕ) (i d : ℕ) → i < length cs → IsNotInSet (get_or cs i d) → Are cs bytes → ⊥
not_at [] bytes i d lt none are = absurd (omega (arith, lt))
not_at (c ∷ cs) [] i d lt none are = absurd (let l = same_length (c ∷ cs) [] are in omega (arith, l))
not_at (c ∷ cs) (b ∷ bytes) zero d lt none are = none b cc
not_at (c ∷ cs) (b ∷ bytes) (suc i) d lt none are = not_at cs bytes i d (omega (arith, lt)) none cc

-- a character that is not in the set does not stand
pub none_in_set : (prefix cs : List ℕ) (i d : ℕ) → i < length cs → IsNotInSet (get_or cs i d) → NoneStands prefix cs
none_in_set prefix cs i d lt none = λ text stands. let (bytes, are, eq, few) = stands in not_at cs bytes i d lt none are

-- nor do more than there is room for
pub no_room : (prefix cs : List ℕ) → 64 < length prefix + length cs → NoneStands prefix cs
no_room prefix cs many = λ text stands.
    let (bytes, are, eq, few) = stands in
    let len = ap (λ (k : List ℕ). length k) eq ∙ length-append prefix bytes in
    let same = same_length cs bytes are in
    absurd (omega (arith, many, len, same, few))

-- where nothing is left they stand, if there is room
pub stand_end : (prefix cs : List ℕ) (i : ℕ) (text : List ℕ) → length cs ≤ i
    → Leads (Are (drop i cs)) (Are cs) prefix text → length text ≤ 64 → Stands prefix cs text
stand_end prefix cs i text all leads few =
    let (bytes, are, eq) = leads_end (Are []) (Are cs) prefix text refl
    (subst (λ k. Leads (Are k) (Are cs) prefix text) (drop_all i cs all) leads) in
    (bytes, are, eq, few)
