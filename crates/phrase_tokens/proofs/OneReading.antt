-- A text has one list of tokens at most.
use Rattle.std.proofs.Common.{◌≡◌, ℕ, ◌≤◌, List, [], ◌∷◌, ◌++◌, true, false, refl, sym, ap, ◌∙◌}
use Rattle.std.proofs.Common.{arith, length, length-append, append_assoc, append-nil, replicate, subst}
use Rattle.std.specs.List.{list_all}
use Rattle.phrase_tokens.specs.Tokens.{Token, Word, Quoted, Semicolon, is_word_character, IsWord, SpellsToken, goes_on}
use Rattle.phrase_tokens.specs.Tokens.{Lays}
use Rattle.phrase_tokens.proofs.Characters.{BeginsNot, OfWord, of_word, both, token_begins, behind_spaces, spaces_alone}
use Rattle.phrase_tokens.specs.Fronts.{Front}
use Rattle.phrase_tokens.proofs.Inner.{Inner, one_inner}

-- A run of characters of a word is part of a longest one.
pub longest : (w r v more : List ℕ) → list_all is_word_character w ≡ true → goes_on more ≡ false
    → w ++ r ≡ v ++ more → (z : List ℕ) × (v ≡ w ++ z) × (r ≡ z ++ more)
longest [] r v more all ends e = (v, refl, e)
longest (c ∷ w) r [] more all ends e =
    let on : goes_on (c ∷ (w ++ r)) ≡ true = (both (is_word_character c) (list_all is_word_character w) all).0 in
    absurd (cc (on, ap goes_on e, ends))
longest (c ∷ w) r (d ∷ v) more all ends e =
    let here : c ≡ d = cc e in
    let there : w ++ r ≡ v ++ more = cc e in
    let others : list_all is_word_character w ≡ true =
    (both (is_word_character c) (list_all is_word_character w) all).1 in
    let (z, p, q) = longest w r v more others ends there in
    (z, cc (p, here), q)

-- A word's longest run is one.
one_word : (w v more more' : List ℕ) → list_all is_word_character w ≡ true → list_all is_word_character v ≡ true
    → goes_on more ≡ false → goes_on more' ≡ false → w ++ more ≡ v ++ more' → (w ≡ v) × (more ≡ more')
one_word w v more more' p q ends ends' e =
    let (z, split, rest) = longest w more v more' p ends' e in
    let (z', split', rest') = longest v more' w more q ends (sym e) in
    let none : z ≡ [] = no_more z z' split split' in
    (sym (split ∙ ap (λ l. w ++ l) none ∙ append-nil w), rest ∙ ap (λ l. l ++ more') none)
  where
    no_more : (z z' : List ℕ) → v ≡ w ++ z → w ≡ v ++ z' → z ≡ []
    no_more [] z' s s' = refl
    no_more (c ∷ z) z' s s' =
        absurd (omega (arith, ap length s, ap length s', length-append w (c ∷ z), length-append v z'))

-- The first character of a word, with what is behind it.
pub word_begins : (w front more : List ℕ) → IsWord w → front ≡ w
    → (c : ℕ) × (l : List ℕ) × OfWord c × (front ++ more ≡ c ∷ l)
word_begins [] front more is e = absurd (omega arith)
word_begins (c ∷ w) front more is e =
    (c, w ++ more, of_word c (both (is_word_character c) (list_all is_word_character w) is.2).0, ap (λ l. l ++ more) e)

-- What stands behind the quote of a text between quotes.
pub inner_of : (text bytes more : List ℕ) → Front text (Quoted bytes) more → (body : List ℕ) × (text ≡ 0x22 ∷ body)
    × Inner body bytes more × (length bytes ≤ 64)
inner_of text bytes more f =
    let inner = f.spells.0 in (
      inner ++ 0x22 ∷ more,
      f.whole ∙ ap (λ l. l ++ more) f.spells.1 ∙ ap (λ l. 0x22 ∷ l) (append_assoc inner (0x22 ∷ []) more),
      record { inner = inner; whole = refl; spelled = f.spells.2 },
      f.spells.3,
    )

-- One token stands at the front of a text.
pub one_front : (text : List ℕ) (t u : Token) (more more' : List ℕ) → Front text t more → Front text u more'
    → (t ≡ u) × (more ≡ more')
one_front text (Word w) (Word v) more more' f g =
    let same : w ++ more ≡ v ++ more' =
    ap (λ l. l ++ more) (sym f.spells.1) ∙ sym f.whole ∙ g.whole ∙ ap (λ l. l ++ more') g.spells.1 in
    let one = one_word w v more more' f.spells.0.2 g.spells.0.2 f.ends g.ends same in
    (ap (λ x. Word x) one.0, one.1)
one_front text (Word w) (Quoted bytes) more more' f g =
    let (c, l, is, e) = word_begins w f.front more f.spells.0 f.spells.1 in
    let (body, q, _, _) = inner_of text bytes more' g in
    absurd (is.no_quote (cc (e, q, f.whole)))
one_front text (Word w) Semicolon more more' f g =
    let (c, l, is, e) = word_begins w f.front more f.spells.0 f.spells.1 in
    let s : text ≡ 0x3B ∷ more' = g.whole ∙ ap (λ x. x ++ more') g.spells in
    absurd (is.no_semicolon (cc (e, s, f.whole)))
one_front text (Quoted bytes) (Word w) more more' f g =
    let (c, l, is, e) = word_begins w g.front more' g.spells.0 g.spells.1 in
    let (body, q, _, _) = inner_of text bytes more f in
    absurd (is.no_quote (cc (e, q, g.whole)))
one_front text (Quoted bytes) (Quoted bytes') more more' f g =
    let (body, q, i, _) = inner_of text bytes more f in
    let (body', q', j, _) = inner_of text bytes' more' g in
    let same : body' ≡ body = cc (q, q') in
    let one = one_inner bytes body more bytes' more' i (subst (λ b. Inner b bytes' more') same j) in
    (ap (λ b. Quoted b) one.0, one.1)
one_front text (Quoted bytes) Semicolon more more' f g =
    let (body, q, _, _) = inner_of text bytes more f in
    let s : text ≡ 0x3B ∷ more' = g.whole ∙ ap (λ x. x ++ more') g.spells in
    let no : ◌≡◌ {A = ℕ} 0x22 0x3B = cc (q, s) in
    absurd (omega arith)
one_front text Semicolon (Word w) more more' f g =
    let (c, l, is, e) = word_begins w g.front more' g.spells.0 g.spells.1 in
    let s : text ≡ 0x3B ∷ more = f.whole ∙ ap (λ x. x ++ more) f.spells in
    absurd (is.no_semicolon (cc (e, s, g.whole)))
one_front text Semicolon (Quoted bytes) more more' f g =
    let (body, q, _, _) = inner_of text bytes more' g in
    let s : text ≡ 0x3B ∷ more = f.whole ∙ ap (λ x. x ++ more) f.spells in
    let no : ◌≡◌ {A = ℕ} 0x22 0x3B = cc (q, s) in
    absurd (omega arith)
one_front text Semicolon Semicolon more more' f g =
    let s : text ≡ 0x3B ∷ more = f.whole ∙ ap (λ x. x ++ more) f.spells in
    let s' : text ≡ 0x3B ∷ more' = g.whole ∙ ap (λ x. x ++ more') g.spells in
    (refl, cc (s, s'))

-- A token and more behind it begin with no space.
pub front_begins : (t : Token) (front more : List ℕ) → SpellsToken t front → BeginsNot 0x20 (front ++ more)
front_begins t front more s =
    let begins : BeginsNot 0x20 front = token_begins t front s in
    record {
      first = begins.first;
      more = begins.more ++ more;
      is = ap (λ l. l ++ more) begins.is;
      is_not = begins.is_not;
    }

-- Spaces with no token among them.
pub none_there : (t : Token) (n blanks : ℕ) (front more : List ℕ) → SpellsToken t front
    → replicate n 0x20 ≡ replicate blanks 0x20 ++ (front ++ more) → ⊥
none_there t n blanks front more s e =
    let begins : BeginsNot 0x20 (front ++ more) = front_begins t front more s in
    spaces_alone n blanks begins.first begins.more begins.is_not (e ∙ ap (λ l. replicate blanks 0x20 ++ l) begins.is)

-- Two readings behind spaces stand at one place.
pub one_place : (t u : Token) (a b : ℕ) (front more front' more' : List ℕ) → SpellsToken t front → SpellsToken u front'
    → replicate a 0x20 ++ (front ++ more) ≡ replicate b 0x20 ++ (front' ++ more') → front ++ more ≡ front' ++ more'
one_place t u a b front more front' more' s s' e =
    let p : BeginsNot 0x20 (front ++ more) = front_begins t front more s in
    let q : BeginsNot 0x20 (front' ++ more') = front_begins u front' more' s' in
    let same : p.first ∷ p.more ≡ q.first ∷ q.more =
    behind_spaces a b p.first q.first p.more q.more p.is_not q.is_not
    (ap (λ l. replicate a 0x20 ++ l) (sym p.is) ∙ e ∙ ap (λ l. replicate b 0x20 ++ l) q.is) in
    p.is ∙ same ∙ sym q.is

pub one_reading : (ts us : List Token) (text : List ℕ) → Lays ts text → Lays us text → ts ≡ us
one_reading [] [] text p q = refl
one_reading [] (u ∷ us) text p (blanks, front, more, whole, spells, ends, lays) =
    absurd (none_there u (length text) blanks front more spells (sym p ∙ whole))
one_reading (t ∷ ts) [] text (blanks, front, more, whole, spells, ends, lays) q =
    absurd (none_there t (length text) blanks front more spells (sym q ∙ whole))
one_reading (t ∷ ts) (u ∷ us) text (a, front, more, whole, spells, ends, lays)
    (b, front', more', whole', spells', ends', lays') =
    let place : front ++ more ≡ front' ++ more' =
    one_place t u a b front more front' more' spells spells' (sym whole ∙ whole') in
    let one = one_front (front ++ more) t u more more'
    (record { front = front; whole = refl; spells = spells; ends = ends })
    (record { front = front'; whole = place; spells = spells'; ends = ends' }) in
    let others = one_reading ts us more lays (subst (λ m. Lays us m) (sym one.1) lays') in
    cc (one.0, others)
