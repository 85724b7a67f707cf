-- What is spelled alike is the same.
use Rattle.std.proofs.Common.{◌≡◌, ℕ, ◌+◌, ◌*◌, ◌/◌, ◌%◌, ◌==◌, ◌||◌, nat_le, Bool, true, false, List, [], ◌∷◌, ◌++◌}
use Rattle.std.proofs.Common.{length, map, drop, get_or, arith, refl, ap, sym, ◌∙◌}
use Rattle.std.proofs.lemmas.Nat.{div-add-mod'}
use Rattle.uecp_elements.specs.Grammar.{Select, spelling}
use Rattle.rds_store.specs.declared.group.Group.{Group}
use Rattle.rds_store.specs.Value.{StoredText, ServiceData}
use Rattle.store_phrases.specs.Said.{flag_bit, rule_bits, traffic_byte, text_said, texts_said}
use Rattle.store_phrases.specs.Said.{service_said, group_said, groups_said}

-- messages, and the byte with which the first of them begins
abbrev pub Spellings : Type 0
Spellings = List (List ℕ)

abbrev pub first_code : Spellings → ℕ
first_code l = get_or (get_or l 0 []) 0 0

-- the first of them is no text
abbrev pub IsEnd : Spellings → Type 0
IsEnd l = first_code l ≡ 0x0A → ⊥

-- ---- Numbers.

-- two bytes are one number
word : (a b : ℕ) → a / 256 ≡ b / 256 → a % 256 ≡ b % 256 → a ≡ b
word a b high low = sym (div-add-mod' a 256) ∙ (λ i. high i * 256 + low i) ∙ div-add-mod' b 256

-- a number and a flag are one number
halves : (r x y : ℕ) (a b : Bool) → r + (2 * x + flag_bit a) ≡ r + (2 * y + flag_bit b) → (x ≡ y) × (a ≡ b)
halves r x y true true same = (omega (arith, same), refl)
halves r x y true false same = absurd (omega (arith, same))
halves r x y false true same = absurd (omega (arith, same))
halves r x y false false same = (omega (arith, same), refl)

abbrev is_tp : ℕ → Bool
is_tp n = nat_le 2 n

abbrev is_ta : ℕ → Bool
is_ta n = n == 1 || n == 3

is_tp-of : (a b : Bool) → is_tp (2 * flag_bit a + flag_bit b) ≡ a
is_tp-of true true = refl
is_tp-of true false = refl
is_tp-of false true = refl
is_tp-of false false = refl

is_ta-of : (a b : Bool) → is_ta (2 * flag_bit a + flag_bit b) ≡ b
is_ta-of true true = refl
is_ta-of true false = refl
is_ta-of false true = refl
is_ta-of false false = refl

abbrev is_flag : ℕ → Bool
is_flag n = n == 1

is_flag-of : (a : Bool) → is_flag (flag_bit a) ≡ a
is_flag-of true = refl
is_flag-of false = refl

-- ---- Texts.

module _ (set number : ℕ) where
  same_text : (adds : Bool) (t u : StoredText) → spelling (text_said set number adds t)
      ≡ spelling (text_said set number adds u)
      → t ≡ u
  same_text adds t u same =
      let head = halves (rule_bits adds) t.transmissions u.transmissions t.toggle u.toggle
      (ap (λ m. get_or m 4 0) same) in
      let bytes : t.bytes ≡ u.bytes = ap (drop 5) same in
      λ i. record { toggle = head.1 i; transmissions = head.0 i; bytes = bytes i }

  same_added : (ts us : List StoredText) (xs ys : Spellings) → IsEnd xs → IsEnd ys
      → map spelling (map (text_said set number true) ts) ++ xs ≡ map spelling (map (text_said set number true) us)
      ++ ys
      → (ts ≡ us) × (xs ≡ ys)
  same_added [] [] xs ys end_x end_y same = (refl, same)
  same_added [] (u ∷ us) xs ys end_x end_y same = absurd (end_x (ap first_code same))
  same_added (t ∷ ts) [] xs ys end_x end_y same = absurd (end_y (ap first_code (sym same)))
  same_added (t ∷ ts) (u ∷ us) xs ys end_x end_y same =
      let first = same_text true t u (ap (λ l. get_or l 0 []) same) in
      let rest = same_added ts us xs ys end_x end_y (ap (drop 1) same) in
      (λ i. first i ∷ rest.0 i, rest.1)

  same_texts : (ts us : List StoredText) (xs ys : Spellings) → IsEnd xs → IsEnd ys
      → map spelling (texts_said set number ts) ++ xs ≡ map spelling (texts_said set number us) ++ ys
      → (ts ≡ us) × (xs ≡ ys)
  same_texts [] [] xs ys end_x end_y same = (refl, ap (drop 1) same)
  same_texts [] (u ∷ us) xs ys end_x end_y same =
      let none : 0 ≡ length u.bytes + 1 = ap (λ (l : Spellings). get_or (get_or l 0 []) 3 0) same in
      absurd (omega (arith, none))
  same_texts (t ∷ ts) [] xs ys end_x end_y same =
      let none : length t.bytes + 1 ≡ 0 = ap (λ (l : Spellings). get_or (get_or l 0 []) 3 0) same in
      absurd (omega (arith, none))
  same_texts (t ∷ ts) (u ∷ us) xs ys end_x end_y same =
      let first = same_text false t u (ap (λ l. get_or l 0 []) same) in
      let rest = same_added ts us xs ys end_x end_y (ap (drop 1) same) in
      (λ i. first i ∷ rest.0 i, rest.1)

  -- ---- Services.

  pub same_service : (a b : ServiceData) (xs ys : Spellings) → IsEnd xs → IsEnd ys
      → map spelling (service_said set number a) ++ xs ≡ map spelling (service_said set number b) ++ ys
      → (a ≡ b) × (xs ≡ ys)
  same_service a b xs ys end_x end_y same =
      let pi : a.pi ≡ b.pi = word a.pi b.pi (ap (λ (l : Spellings). get_or (get_or l 0 []) 3 0) same)
      (ap (λ (l : Spellings). get_or (get_or l 0 []) 4 0) same) in
      let ps : a.ps ≡ b.ps = ap (λ (l : Spellings). drop 3 (get_or l 1 [])) same in
      let traffic : traffic_byte a ≡ traffic_byte b = ap (λ (l : Spellings). get_or (get_or l 2 []) 3 0) same in
      let tp : a.tp ≡ b.tp = sym (is_tp-of a.tp a.ta) ∙ ap is_tp traffic ∙ is_tp-of b.tp b.ta in
      let ta : a.ta ≡ b.ta = sym (is_ta-of a.tp a.ta) ∙ ap is_ta traffic ∙ is_ta-of b.tp b.ta in
      let music : a.music ≡ b.music =
      sym (is_flag-of a.music) ∙ ap (λ (l : Spellings). is_flag (get_or (get_or l 3 []) 3 0)) same
      ∙ is_flag-of b.music in
      let pty : a.pty ≡ b.pty = ap (λ (l : Spellings). get_or (get_or l 4 []) 3 0) same in
      let texts = same_texts a.texts b.texts xs ys end_x end_y (ap (drop 5) same) in (
        λ i. record { pi = pi i; ps = ps i; tp = tp i; ta = ta i; music = music i; pty = pty i; texts = texts.0 i },
        texts.1,
      )

-- ---- Groups and the current set.

same_group : (adds : Bool) (g h : Group) → spelling (group_said adds g) ≡ spelling (group_said adds h) → g ≡ h
same_group adds g h same =
    let kind : g.kind ≡ h.kind = ap (λ m. get_or m 1 0) same in
    let mode : rule_bits adds + g.bits ≡ rule_bits adds + h.bits = ap (λ m. get_or m 2 0) same in
    let bits : g.bits ≡ h.bits = omega (arith, mode) in
    let third : g.block3 ≡ h.block3 = word g.block3 h.block3 (ap (λ m. get_or m 3 0) same)
    (ap (λ m. get_or m 4 0) same) in
    let fourth : g.block4 ≡ h.block4 = word g.block4 h.block4 (ap (λ m. get_or m 5 0) same)
    (ap (λ m. get_or m 6 0) same) in
    λ i. record { kind = kind i; bits = bits i; block3 = third i; block4 = fourth i }

module _ (c d : ℕ) where
  added_groups : (gs hs : List Group)
      → map spelling (map (group_said true) gs ++ Select c ∷ [])
      ≡ map spelling (map (group_said true) hs ++ Select d ∷ [])
      → (gs ≡ hs) × (c ≡ d)
  added_groups [] [] same = (refl, ap (λ (l : Spellings). get_or (get_or l 0 []) 1 0) same)
  added_groups [] (h ∷ hs) same = let codes : 0x1C ≡ 0x24 = ap first_code same in absurd (omega (arith, codes))
  added_groups (g ∷ gs) [] same = let codes : 0x24 ≡ 0x1C = ap first_code same in absurd (omega (arith, codes))
  added_groups (g ∷ gs) (h ∷ hs) same =
      let first = same_group true g h (ap (λ l. get_or l 0 []) same) in
      let rest = added_groups gs hs (ap (drop 1) same) in
      (λ i. first i ∷ rest.0 i, rest.1)

  pub same_groups : (gs hs : List Group)
      → map spelling (groups_said gs ++ Select c ∷ []) ≡ map spelling (groups_said hs ++ Select d ∷ [])
      → (gs ≡ hs) × (c ≡ d)
  same_groups [] [] same = (refl, ap (λ (l : Spellings). get_or (get_or l 0 []) 1 0) same)
  same_groups [] (h ∷ hs) same = let codes : 0x1C ≡ 0x24 = ap first_code same in absurd (omega (arith, codes))
  same_groups (g ∷ gs) [] same = let codes : 0x24 ≡ 0x1C = ap first_code same in absurd (omega (arith, codes))
  same_groups (g ∷ gs) (h ∷ hs) same =
      let first = same_group false g h (ap (λ l. get_or l 0 []) same) in
      let rest = added_groups gs hs (ap (drop 1) same) in
      (λ i. first i ∷ rest.0 i, rest.1)
