-- Words of a frame script's line say one thing.
use Rattle.std.proofs.Common.{◌≡◌, ℕ, ◌+◌, ◌/◌, ◌%◌, List, [], ◌∷◌, codes, Ok, refl, sym, ap, ◌∙◌, inl, inr, arith, eqb}
use Rattle.std.proofs.Common.{eq-eqb, false}
use Rattle.std.proofs.lemmas.Bool.{false≢true}
use Rattle.hex.specs.Hex.{decode_of, decode_sized}
use Rattle.uecp_frame.specs.Frame.{high_first}
use Rattle.uecp_elements.specs.Grammar.{NoText, Text, Element, Pi, Ps, TaTp, Ms, Pty, Rt, Select, Group, Ack, spelling}
use Rattle.uecp_text.specs.Words.{IsByte, IsNumber, IsRow}
use Rattle.uecp_words.specs.ScriptWords.{Names, Line, Begins, Extends, Says}

-- ---- What a word spells is one thing.

byte_one : (v w : List ℕ) (a b : ℕ) → v ≡ w → IsByte v a → IsByte w b → a ≡ b
byte_one v w a b same p q = let e : Ok (a ∷ []) ≡ Ok (b ∷ []) = sym p ∙ ap (λ x. decode_sized x 1) same ∙ q in cc

number_one : (v w : List ℕ) (a b : ℕ) → v ≡ w → IsNumber v a → IsNumber w b → high_first a ≡ high_first b
number_one v w a b same p q = let e : Ok (high_first a) ≡ Ok (high_first b) =
    sym p ∙ ap (λ x. decode_sized x 2) same ∙ q in cc

name_one : (v w a b : List ℕ) → v ≡ w → decode_sized v 8 ≡ Ok a → decode_sized w 8 ≡ Ok b → a ≡ b
name_one v w a b same p q = let e : Ok a ≡ Ok b = sym p ∙ ap (λ x. decode_sized x 8) same ∙ q in cc

hyphen_is_none : (w b : List ℕ) → w ≡ codes "-" → decode_of w ≡ Ok b → ⊥
hyphen_is_none w b same q = let e : decode_of (codes "-") ≡ Ok b = sym (ap decode_of same) ∙ q in cc e

row_one : (v w a b : List ℕ) → v ≡ w → IsRow v a → IsRow w b → a ≡ b
row_one v w a b same (inl p) (inl q) = p.1 ∙ sym q.1
row_one v w a b same (inl p) (inr q) = absurd (hyphen_is_none w b (sym same ∙ p.0) q)
row_one v w a b same (inr p) (inl q) = absurd (hyphen_is_none v a (same ∙ q.0) p)
row_one v w a b same (inr p) (inr q) = let e : Ok a ≡ Ok b = sym p ∙ ap decode_of same ∙ q in cc

number_from : (a b : ℕ) → high_first a ≡ high_first b → a ≡ b
number_from a b same =
    let high : a / 0x100 ≡ b / 0x100 = cc in
    let low : a % 0x100 ≡ b % 0x100 = cc in
    omega arith

-- ---- First words.

-- the sum of a word's bytes: no two first words have the same
abbrev mark : List ℕ → ℕ
mark [] = 0
mark (b ∷ w) = b + mark w

apart : (a b : List ℕ) (words others ws : List (List ℕ)) → eqb (mark a) (mark b) ≡ false → ws ≡ a ∷ words
    → ws ≡ b ∷ others → ⊥
apart a b words others ws differ p q =
    let e : a ∷ words ≡ b ∷ others = sym p ∙ q in
    let first : a ≡ b = cc in
    false≢true (sym differ ∙ eq-eqb (mark a) (mark b) (ap mark first))

abbrev first_word : Element → List ℕ
first_word (Pi dsn psn pi) = codes "pi"
first_word (Ps dsn psn name) = codes "ps"
first_word (TaTp dsn psn raw) = codes "tatp"
first_word (Ms dsn psn raw) = codes "ms"
first_word (Pty dsn psn raw) = codes "pty"
first_word (Rt dsn psn part) = codes "rt"
first_word (Select dsn) = codes "select"
first_word (Group kind mode block3 block4) = codes "group"
first_word (Ack code counter) = codes "ack"

headed : (e : Element) (ws : List (List ℕ)) → Names ws e → (others : List (List ℕ)) × (ws ≡ first_word e ∷ others)
headed (Pi dsn psn pi) ws (d, p, n, is, _, _, _) = (d ∷ p ∷ n ∷ [], is)
headed (Ps dsn psn name) ws (d, p, n, is, _, _, _) = (d ∷ p ∷ n ∷ [], is)
headed (TaTp dsn psn raw) ws (d, p, r, is, _, _, _) = (d ∷ p ∷ r ∷ [], is)
headed (Ms dsn psn raw) ws (d, p, r, is, _, _, _) = (d ∷ p ∷ r ∷ [], is)
headed (Pty dsn psn raw) ws (d, p, r, is, _, _, _) = (d ∷ p ∷ r ∷ [], is)
headed (Rt dsn psn NoText) ws (d, p, is, _, _) = (d ∷ p ∷ codes "empty" ∷ [], is)
headed (Rt dsn psn (Text head text)) ws (d, p, h, t, is, _, _, _, _, _) = (d ∷ p ∷ h ∷ t ∷ [], is)
headed (Select dsn) ws (d, is, _) = (d ∷ [], is)
headed (Group kind mode block3 block4) ws (k, m, b, c, is, _, _, _, _) = (k ∷ m ∷ b ∷ c ∷ [], is)
headed (Ack code counter) ws (c, n, is, _, _) = (c ∷ n ∷ [], is)

others_named : (d e : Element) (ws : List (List ℕ)) → eqb (mark (first_word d)) (mark (first_word e)) ≡ false
    → Names ws d → Names ws e → ⊥
others_named d e ws differ p q =
    let x = headed d ws p in
    let y = headed e ws q in
    apart (first_word d) (first_word e) x.0 y.0 ws differ x.1 y.1

-- ---- Words that are the same.

same_1 : (f a g b : List ℕ) (ws : List (List ℕ)) → ws ≡ f ∷ a ∷ [] → ws ≡ g ∷ b ∷ [] → a ≡ b
same_1 f a g b ws p q = let e : f ∷ a ∷ [] ≡ g ∷ b ∷ [] = sym p ∙ q in cc

same_2 : (f a b g c d : List ℕ) (ws : List (List ℕ)) → ws ≡ f ∷ a ∷ b ∷ [] → ws ≡ g ∷ c ∷ d ∷ [] → (a ≡ c) × (b ≡ d)
same_2 f a b g c d ws p q = let e : f ∷ a ∷ b ∷ [] ≡ g ∷ c ∷ d ∷ [] = sym p ∙ q in (cc, cc)

same_3 : (f a b c g x y z : List ℕ) (ws : List (List ℕ)) → ws ≡ f ∷ a ∷ b ∷ c ∷ [] → ws ≡ g ∷ x ∷ y ∷ z ∷ []
    → (a ≡ x) × (b ≡ y) × (c ≡ z)
same_3 f a b c g x y z ws p q = let e : f ∷ a ∷ b ∷ c ∷ [] ≡ g ∷ x ∷ y ∷ z ∷ [] = sym p ∙ q in (cc, cc, cc)

same_4 : (f a b c d g w x y z : List ℕ) (ws : List (List ℕ)) → ws ≡ f ∷ a ∷ b ∷ c ∷ d ∷ [] → ws ≡ g ∷ w ∷ x ∷ y ∷ z ∷ []
    → (a ≡ w) × (b ≡ x) × (c ≡ y) × (d ≡ z)
same_4 f a b c d g w x y z ws p q = let e : f ∷ a ∷ b ∷ c ∷ d ∷ [] ≡ g ∷ w ∷ x ∷ y ∷ z ∷ [] = sym p ∙ q in
    (cc, cc, cc, cc)

three_and_four : (f a b c g w x y z : List ℕ) (ws : List (List ℕ)) → ws ≡ f ∷ a ∷ b ∷ c ∷ []
    → ws ≡ g ∷ w ∷ x ∷ y ∷ z ∷ [] → ⊥
three_and_four f a b c g w x y z ws p q = let e : f ∷ a ∷ b ∷ c ∷ [] ≡ g ∷ w ∷ x ∷ y ∷ z ∷ [] = sym p ∙ q in cc

-- ---- Words name one element.

one_spelling : (d e : Element) (ws : List (List ℕ)) → Names ws d → Names ws e → spelling d ≡ spelling e
one_spelling (Pi a b c) (Pi a' b' c') ws (x, y, z, is, p, q, r) (x', y', z', is', p', q', r') =
    let s = same_3 _ x y z _ x' y' z' ws is is' in
    let u : a ≡ a' = byte_one x x' a a' s.0 p p' in
    let v : b ≡ b' = byte_one y y' b b' s.1 q q' in
    let w : high_first c ≡ high_first c' = number_one z z' c c' s.2 r r' in
    cc
one_spelling (Ps a b c) (Ps a' b' c') ws (x, y, z, is, p, q, r) (x', y', z', is', p', q', r') =
    let s = same_3 _ x y z _ x' y' z' ws is is' in
    let u : a ≡ a' = byte_one x x' a a' s.0 p p' in
    let v : b ≡ b' = byte_one y y' b b' s.1 q q' in
    let w : c ≡ c' = name_one z z' c c' s.2 r r' in
    cc
one_spelling (TaTp a b c) (TaTp a' b' c') ws (x, y, z, is, p, q, r) (x', y', z', is', p', q', r') =
    let s = same_3 _ x y z _ x' y' z' ws is is' in
    let u : a ≡ a' = byte_one x x' a a' s.0 p p' in
    let v : b ≡ b' = byte_one y y' b b' s.1 q q' in
    let w : c ≡ c' = byte_one z z' c c' s.2 r r' in
    cc
one_spelling (Ms a b c) (Ms a' b' c') ws (x, y, z, is, p, q, r) (x', y', z', is', p', q', r') =
    let s = same_3 _ x y z _ x' y' z' ws is is' in
    let u : a ≡ a' = byte_one x x' a a' s.0 p p' in
    let v : b ≡ b' = byte_one y y' b b' s.1 q q' in
    let w : c ≡ c' = byte_one z z' c c' s.2 r r' in
    cc
one_spelling (Pty a b c) (Pty a' b' c') ws (x, y, z, is, p, q, r) (x', y', z', is', p', q', r') =
    let s = same_3 _ x y z _ x' y' z' ws is is' in
    let u : a ≡ a' = byte_one x x' a a' s.0 p p' in
    let v : b ≡ b' = byte_one y y' b b' s.1 q q' in
    let w : c ≡ c' = byte_one z z' c c' s.2 r r' in
    cc
one_spelling (Rt a b NoText) (Rt a' b' NoText) ws (x, y, is, p, q) (x', y', is', p', q') =
    let s = same_3 _ x y (codes "empty") _ x' y' (codes "empty") ws is is' in
    let u : a ≡ a' = byte_one x x' a a' s.0 p p' in
    let v : b ≡ b' = byte_one y y' b b' s.1 q q' in
    cc
one_spelling (Rt a b NoText) (Rt a' b' (Text h' t')) ws (x, y, is, p, q) (x', y', w', z', is', p', q', r', o', f') =
    absurd (three_and_four _ x y (codes "empty") _ x' y' w' z' ws is is')
one_spelling (Rt a b (Text h t)) (Rt a' b' NoText) ws (x, y, w, z, is, p, q, r, o, f) (x', y', is', p', q') =
    absurd (three_and_four _ x' y' (codes "empty") _ x y w z ws is' is)
one_spelling (Rt a b (Text h t)) (Rt a' b' (Text h' t')) ws (x, y, w, z, is, p, q, r, o, f)
    (x', y', w', z', is', p', q', r', o', f') =
    let s = same_4 _ x y w z _ x' y' w' z' ws is is' in
    let u : a ≡ a' = byte_one x x' a a' s.0 p p' in
    let v : b ≡ b' = byte_one y y' b b' s.1 q q' in
    let g : h ≡ h' = byte_one w w' h h' s.2 r r' in
    let k : t ≡ t' = row_one z z' t t' s.3 o o' in
    cc
one_spelling (Select a) (Select a') ws (x, is, p) (x', is', p') = let u : a ≡ a' =
    byte_one x x' a a' (same_1 _ x _ x' ws is is') p p' in cc
one_spelling (Group a b c d) (Group a' b' c' d') ws (x, y, w, z, is, p, q, r, o) (x', y', w', z', is', p', q', r', o') =
    let s = same_4 _ x y w z _ x' y' w' z' ws is is' in
    let u : a ≡ a' = byte_one x x' a a' s.0 p p' in
    let v : b ≡ b' = byte_one y y' b b' s.1 q q' in
    let g : high_first c ≡ high_first c' = number_one w w' c c' s.2 r r' in
    let k : high_first d ≡ high_first d' = number_one z z' d d' s.3 o o' in
    cc
one_spelling (Ack a b) (Ack a' b') ws (x, y, is, p, q) (x', y', is', p', q') =
    let s = same_2 _ x y _ x' y' ws is is' in
    let u : a ≡ a' = byte_one x x' a a' s.0 p p' in
    let v : b ≡ b' = byte_one y y' b b' s.1 q q' in
    cc
one_spelling d e ws p q = absurd (others_named d e ws refl p q)

-- ---- Words say one thing.

frame_is_no_name : (e : Element) → eqb (mark (codes "frame")) (mark (first_word e)) ≡ false
frame_is_no_name (Pi dsn psn pi) = refl
frame_is_no_name (Ps dsn psn name) = refl
frame_is_no_name (TaTp dsn psn raw) = refl
frame_is_no_name (Ms dsn psn raw) = refl
frame_is_no_name (Pty dsn psn raw) = refl
frame_is_no_name (Rt dsn psn part) = refl
frame_is_no_name (Select dsn) = refl
frame_is_no_name (Group kind mode block3 block4) = refl
frame_is_no_name (Ack code counter) = refl

raw_is_no_name : (e : Element) → eqb (mark (codes "raw")) (mark (first_word e)) ≡ false
raw_is_no_name (Pi dsn psn pi) = refl
raw_is_no_name (Ps dsn psn name) = refl
raw_is_no_name (TaTp dsn psn raw) = refl
raw_is_no_name (Ms dsn psn raw) = refl
raw_is_no_name (Pty dsn psn raw) = refl
raw_is_no_name (Rt dsn psn part) = refl
raw_is_no_name (Select dsn) = refl
raw_is_no_name (Group kind mode block3 block4) = refl
raw_is_no_name (Ack code counter) = refl

frame_named : (e : Element) (ws others : List (List ℕ)) → ws ≡ codes "frame" ∷ others → Names ws e → ⊥
frame_named e ws others is names = let h = headed e ws names in
    apart (codes "frame") (first_word e) others h.0 ws (frame_is_no_name e) is h.1

raw_named : (e : Element) (ws others : List (List ℕ)) → ws ≡ codes "raw" ∷ others → Names ws e → ⊥
raw_named e ws others is names = let h = headed e ws names in
    apart (codes "raw") (first_word e) others h.0 ws (raw_is_no_name e) is h.1

begins_extends : (a c : ℕ) (bytes : List ℕ) (ws : List (List ℕ)) → Says ws (Begins a c) → Says ws (Extends bytes) → ⊥
begins_extends a c bytes ws (x, y, is, p, q) (inl (e, names, spelled)) = frame_named e ws (x ∷ y ∷ []) is names
begins_extends a c bytes ws (x, y, is, p, q) (inr (r, is', row)) =
    apart (codes "frame") (codes "raw") (x ∷ y ∷ []) (r ∷ []) ws refl is is'

pub one_meaning : (ws : List (List ℕ)) (l m : Line) → Says ws l → Says ws m → l ≡ m
one_meaning ws (Begins a c) (Begins a' c') (x, y, is, p, q) (x', y', is', p', q') =
    let s = same_2 _ x y _ x' y' ws is is' in
    let u : a ≡ a' = number_from a a' (number_one x x' a a' s.0 p p') in
    let v : c ≡ c' = byte_one y y' c c' s.1 q q' in
    cc
one_meaning ws (Begins a c) (Extends bytes) p q = absurd (begins_extends a c bytes ws p q)
one_meaning ws (Extends bytes) (Begins a c) p q = absurd (begins_extends a c bytes ws q p)
one_meaning ws (Extends b) (Extends b') (inl (d, names, is)) (inl (e, names', is')) =
    ap Extends (is ∙ one_spelling d e ws names names' ∙ sym is')
one_meaning ws (Extends b) (Extends b') (inl (e, names, is)) (inr (r, is', row)) =
    absurd (raw_named e ws (r ∷ []) is' names)
one_meaning ws (Extends b) (Extends b') (inr (r, is, row)) (inl (e, names, is')) =
    absurd (raw_named e ws (r ∷ []) is names)
one_meaning ws (Extends b) (Extends b') (inr (r, is, row)) (inr (r', is', row')) =
    ap Extends (row_one r r' b b' (same_1 _ r _ r' ws is is') row row')
