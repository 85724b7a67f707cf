-- What is written of tokens holds no control character, and ends with no space.
use Rattle.std.proofs.Common.{◌≡◌, ℕ, ◌+◌, ◌-◌, ◌/◌, ◌%◌, ◌≤◌, ◌==◌, nat_le, Bool, true, false, ◌&&◌, cond, ltb, List}
use Rattle.std.proofs.Common.{[], ◌∷◌, ◌++◌, flat_map, slice_get, zero, suc, Option, Some, None, refl, sym, ap, subst}
use Rattle.std.proofs.Common.{◌∙◌, arith, append_assoc, append-nil, if◌then◌else◌}
use Rattle.std.proofs.lemmas.Bool.{leb-true}
use Rattle.std.proofs.lemmas.Bool.Decides.{nat_tests}
use Rattle.std.proofs.lemmas.Str.{encodes-append, encode_ascii}
use Rattle.std.proofs.Math.Utf8.{encode}
use Rattle.std.specs.List.{AllByRecursion, list_all}
use Rattle.std.specs.Option.{option_map_or}
use Rattle.std.specs.Str.{encode_utf8_all}
use Rattle.rds_text.specs.BasicSet.{upper, character_of}
use Rattle.rds_text.specs.Quoted.{written, hex_digit}
use Rattle.phrase_tokens.specs.Tokens.{Token, Word, Quoted, Semicolon, IsToken, is_word_character, written_token}
use Rattle.phrase_tokens.specs.Tokens.{written_behind, written_tokens}
use Rattle.phrase_tokens.proofs.Public.{OfWord, of_word, both}
use Rattle.store_phrases.proofs.Public.{Ends}

-- a number that is no control character's
abbrev pub IsShown : ℕ → Type 0
IsShown c = 0x20 ≤ c

abbrev pub AreShown : List ℕ → Type 0
AreShown cs = AllByRecursion IsShown cs

pub shown_then : (xs ys : List ℕ) → AreShown xs → AreShown ys → AreShown (xs ++ ys)
shown_then [] ys p q = q
shown_then (x ∷ xs) ys p q = (p.0, shown_then xs ys p.1 q)

-- ---- Characters.
upper_shown : list_all (λ c. nat_le 0x20 c) upper ≡ true
unfolding upper
upper_shown = refl

one_shown : (xs : List ℕ) (k c : ℕ) → list_all (λ c. nat_le 0x20 c) xs ≡ true → slice_get xs k ≡ Some c → 0x20 ≤ c
one_shown [] k c all at = cc
one_shown (x ∷ xs) zero c all at =
    let same : x ≡ c = cc in
    subst IsShown same (leb-true 0x20 x (both (nat_le 0x20 x) (list_all (λ c. nat_le 0x20 c) xs) all).0)
one_shown (x ∷ xs) (suc k) c all at =
    one_shown xs k c (both (nat_le 0x20 x) (list_all (λ c. nat_le 0x20 c) xs) all).1 at

is_some_of : (n c : ℕ) → 0x20 ≤ n → Some n ≡ Some c → 0x20 ≤ c
is_some_of n c shown is = let same : n ≡ c = cc in subst IsShown same shown

character_shown : (byte c : ℕ) → character_of byte ≡ Some c → 0x20 ≤ c
unfolding character_of
character_shown byte c is = by (byte == 0x24) (byte == 0x5E) (byte == 0x60) (byte == 0x7E)
    (nat_le 0x20 byte && nat_le byte 0x7E) refl (nat_le 0x80 byte) is
  where
    by : (a b d e f : Bool) → (nat_le 0x20 byte && nat_le byte 0x7E) ≡ f → (g : Bool)
        → (if a then Some 0xA4 else if b then Some 0x2015 else if d then Some 0x2016 else if e then Some 0x203E
        else if f then Some byte else if g then slice_get upper (byte - 0x80) else None) ≡ Some c → 0x20 ≤ c
    by true b d e f h g is = is_some_of 0xA4 c (omega arith) is
    by false true d e f h g is = is_some_of 0x2015 c (omega arith) is
    by false false true e f h g is = is_some_of 0x2016 c (omega arith) is
    by false false false true f h g is = is_some_of 0x203E c (omega arith) is
    by false false false false true h g is =
        is_some_of byte c (leb-true 0x20 byte (both (nat_le 0x20 byte) (nat_le byte 0x7E) h).0) is
    by false false false false false h true is = one_shown upper (byte - 0x80) c upper_shown is
    by false false false false false h false is = none is
      where
        none : ◌≡◌ {A = Option ℕ} None (Some c) → 0x20 ≤ c
        none is = cc

digit_shown : (n : ℕ) → 0x20 ≤ hex_digit n
digit_shown n = grind (arith, nat_tests)

other_shown : (byte : ℕ) (o : Option ℕ) → character_of byte ≡ o
    → AreShown (option_map_or (λ c. c ∷ []) o (0x5C ∷ 0x78 ∷ hex_digit (byte / 16) ∷ hex_digit (byte % 16) ∷ []))
other_shown byte (Some c) is = (character_shown byte c is, tt)
other_shown byte None is =
    (omega arith, (omega arith, (digit_shown (byte / 16), (digit_shown (byte % 16), tt))))

written_shown : (byte : ℕ) → AreShown (written byte)
written_shown byte = by (byte == 0x22) (byte == 0x5C)
  where
    by : (q b : Bool)
        → AreShown (if q then 0x5C ∷ 0x22 ∷ []
        else if b then 0x5C ∷ 0x5C ∷ []
        else option_map_or (λ c. c ∷ []) (character_of byte)
        (0x5C ∷ 0x78 ∷ hex_digit (byte / 16) ∷ hex_digit (byte % 16) ∷ []))
    by true b = (omega arith, (omega arith, tt))
    by false true = (omega arith, (omega arith, tt))
    by false false = other_shown byte (character_of byte) refl

each_shown : (bytes : List ℕ) → AreShown (flat_map written bytes)
each_shown [] = tt
each_shown (b ∷ bytes) = shown_then (written b) (flat_map written bytes) (written_shown b) (each_shown bytes)

-- ---- Tokens.
word_shown : (w : List ℕ) → list_all is_word_character w ≡ true → AreShown w
word_shown [] all = tt
word_shown (c ∷ w) all =
    let each = both (is_word_character c) (list_all is_word_character w) all in
    let is : OfWord c = of_word c each.0 in
    let least = is.least in
    (omega arith, word_shown w each.1)

token_shown : (t : Token) → IsToken t → AreShown (written_token t)
token_shown (Word w) is = word_shown w is.2
token_shown (Quoted bytes) is =
    (omega arith, shown_then (flat_map written bytes) (0x22 ∷ []) (each_shown bytes) (omega arith, tt))
token_shown Semicolon is = (omega arith, tt)

behind_shown : (ts : List Token) → AllByRecursion IsToken ts → AreShown (written_behind ts)
behind_shown [] all = tt
behind_shown (Word w ∷ ts) all = (
  omega arith,
  shown_then (written_token (Word w)) (written_behind ts) (token_shown (Word w) all.0) (behind_shown ts all.1),
)
behind_shown (Quoted bytes ∷ ts) all = (
  omega arith,
  shown_then (written_token (Quoted bytes)) (written_behind ts) (token_shown (Quoted bytes) all.0)
      (behind_shown ts all.1),
)
behind_shown (Semicolon ∷ ts) all = (omega arith, behind_shown ts all.1)

pub tokens_shown : (ts : List Token) → AllByRecursion IsToken ts → AreShown (written_tokens ts)
tokens_shown [] all = tt
tokens_shown (t ∷ ts) all =
    shown_then (written_token t) (written_behind ts) (token_shown t all.0) (behind_shown ts all.1)

-- ---- Bytes.
encode_shown : (c : ℕ) → 0x20 ≤ c → AreShown (encode c)
unfolding encode
encode_shown c shown = by (ltb c 128) (ltb c 2048) (ltb c 65536)
  where
    by : (a b d : Bool) → AreShown (cond a (c ∷ []) (cond b ((192 + c / 64) ∷ (128 + c % 64) ∷ [])
        (cond d ((224 + c / 4096) ∷ (128 + c / 64 % 64) ∷ (128 + c % 64) ∷ [])
        ((240 + c / 262144) ∷ (128 + c / 4096 % 64) ∷ (128 + c / 64 % 64) ∷ (128 + c % 64) ∷ []))))
    by true b d = (shown, tt)
    by false true d = (omega arith, (omega arith, tt))
    by false false true = (omega arith, (omega arith, (omega arith, tt)))
    by false false false = (omega arith, (omega arith, (omega arith, (omega arith, tt))))

pub bytes_shown : (cs : List ℕ) → AreShown cs → AreShown (encode_utf8_all cs)
bytes_shown [] all = tt
bytes_shown (c ∷ cs) all = shown_then (encode c) (encode_utf8_all cs) (encode_shown c all.0) (bytes_shown cs all.1)

-- ---- The last token.
ends_then : (xs ys : List ℕ) → Ends ys → Ends (xs ++ ys)
ends_then xs ys e = record {
  front = xs ++ e.front;
  last = e.last;
  is = ap (λ t. xs ++ t) e.is ∙ sym (append_assoc xs e.front (e.last ∷ []));
  low = e.low;
  high = e.high;
}

word_ends : (c : ℕ) (w : List ℕ) → list_all is_word_character (c ∷ w) ≡ true → Ends (c ∷ w)
word_ends c [] all =
    let is : OfWord c = of_word c (both (is_word_character c) true all).0 in
    record { front = []; last = c; is = refl; low = is.least; high = is.most }
word_ends c (d ∷ w) all =
    ends_then (c ∷ []) (d ∷ w) (word_ends d w (both (is_word_character c) (list_all is_word_character (d ∷ w)) all).1)

token_ends : (t : Token) → IsToken t → Ends (written_token t)
token_ends (Word []) is = absurd (let low = is.0 in omega arith)
token_ends (Word (c ∷ w)) is = word_ends c w is.2
token_ends (Quoted bytes) is = record {
  front = 0x22 ∷ flat_map written bytes;
  last = 0x22;
  is = refl;
  low = omega arith;
  high = omega arith;
}
token_ends Semicolon is = record { front = []; last = 0x3B; is = refl; low = omega arith; high = omega arith }

pub row_ends : (t : Token) (ts : List Token) → IsToken t → AllByRecursion IsToken ts
    → Ends (written_token t ++ written_behind ts)
row_ends t [] is all = subst Ends (sym (append-nil (written_token t))) (token_ends t is)
row_ends t (Word w ∷ ts) is all =
    ends_then (written_token t) (written_behind (Word w ∷ ts))
    (ends_then (0x20 ∷ []) (written_token (Word w) ++ written_behind ts) (row_ends (Word w) ts all.0 all.1))
row_ends t (Quoted bytes ∷ ts) is all =
    ends_then (written_token t) (written_behind (Quoted bytes ∷ ts))
    (ends_then (0x20 ∷ []) (written_token (Quoted bytes) ++ written_behind ts)
    (row_ends (Quoted bytes) ts all.0 all.1))
row_ends t (Semicolon ∷ ts) is all =
    ends_then (written_token t) (written_behind (Semicolon ∷ ts)) (row_ends Semicolon ts all.0 all.1)

pub bytes_end : (text : List ℕ) → Ends text → Ends (encode_utf8_all text)
bytes_end text e =
    let high = e.high in
    record {
      front = encode_utf8_all e.front;
      last = e.last;
      is = ap encode_utf8_all e.is ∙ encodes-append e.front (e.last ∷ [])
          ∙ ap (λ bytes. encode_utf8_all e.front ++ (bytes ++ [])) (encode_ascii e.last (omega arith));
      low = e.low;
      high = e.high;
    }
