-- A line that is written is heard as it stands: nothing at its ends is taken for a space, and none is a comment.
use Rattle.std.proofs.Common.{◌≡◌, ℕ, ◌+◌, ◌-◌, ◌<◌, ◌≤◌, ◌==◌, Bool, true, false, ◌&&◌, cond, ltb, List, [], ◌∷◌}
use Rattle.std.proofs.Common.{◌++◌, length, take, drop, reverse, flat_map, Some, None, refl, sym, ap, subst, ◌∙◌}
use Rattle.std.proofs.Common.{arith, codes, append_assoc, append-nil, if◌then◌else◌}
use Rattle.std.proofs.lemmas.Bool.{ne_eqb, lt-ltb}
use Rattle.std.proofs.lemmas.List.{length-append, reverse-append, take_all}
use Rattle.std.proofs.lemmas.Str.{encodes-append}
use Rattle.std.proofs.Math.Seq.{take-append_seam, drop-append_seam}
use Rattle.std.proofs.Math.Utf8.{encode}
use Rattle.std.specs.List.{AllByRecursion, list_all, prefix_len, suffix_len}
use Rattle.std.specs.Str.{encode_utf8_all}
use lib.Pointwise.{pointwise}
use Rattle.uecp_elements.specs.Grammar.{Element, Pi, Ps, TaTp, Ms, Pty, Rt, Select, Group, Ack}
use Rattle.uecp_text.specs.Input.{ends_in, without_end, is_space, trimmed, unless_comment, said}
use Rattle.rds_text.specs.Quoted.{written}
use Rattle.rds_text.specs.declared.programme_type.Region.{Region}
use Rattle.phrase_tokens.specs.Tokens.{Token, Word, Quoted, Semicolon, IsToken, is_word_character}
use Rattle.phrase_tokens.specs.Tokens.{written_token, written_behind, written_tokens}
use Rattle.phrase_tokens.proofs.Public.{OfWord, of_word, both}
use Rattle.uecp_phrases.specs.Written.{phrase_of, set_tokens, service_tokens, set_token, byte_token, number_token}
use Rattle.uecp_phrases.specs.Written.{traffic_tokens, music_tokens, bits_tokens, programme_type_tokens, text_tokens}
use Rattle.uecp_phrases.specs.Written.{group_tokens}
use Rattle.uecp_phrases.specs.Written as phrase
use Rattle.uecp_phrases.proofs.Public.{writable}
use Rattle.store_phrases.specs.Said.{line}
use Rattle.store_phrases.proofs.Elements.{IsSayable}

-- The text begins with a small letter.
pub record Begins (text : List ℕ) : Type 0 where
  pub first : ℕ
  pub more : List ℕ
  pub is : text ≡ first ∷ more
  pub low : 0x61 ≤ first
  pub high : first ≤ 0x7A

-- The text ends with a character of ASCII that is no space.
pub record Ends (text : List ℕ) : Type 0 where
  pub front : List ℕ
  pub last : ℕ
  pub is : text ≡ front ++ last ∷ []
  pub low : 0x21 ≤ last
  pub high : last ≤ 0x7E

-- ---- Bytes.
module _ (text : List ℕ) (begins : Begins text) (ends : Ends text) where
  abbrev whole : List ℕ
  whole = text ++ 0x0A ∷ []

  long : length whole ≡ length text + 1
  long = length-append text (0x0A ∷ [])

  last_byte : drop (length whole - 1) whole ≡ 0x0A ∷ []
  last_byte = ap (λ n. drop n whole) (let l = long in let n : length whole - 1 ≡ length text = omega arith in n)
      ∙ drop-append_seam text (0x0A ∷ [])

  last_two : drop (length whole - 2) whole ≡ ends.last ∷ 0x0A ∷ []
  last_two =
      let same : whole ≡ ends.front ++ (ends.last ∷ 0x0A ∷ []) =
      ap (λ t. t ++ 0x0A ∷ []) ends.is ∙ append_assoc ends.front (ends.last ∷ []) (0x0A ∷ []) in
      let one : length text ≡ length ends.front + 1 = ap length ends.is ∙ length-append ends.front (ends.last ∷ []) in
      let l = long in
      let n : length whole - 2 ≡ length ends.front = omega arith in
      (λ i. drop (n i) (same i)) ∙ drop-append_seam ends.front (ends.last ∷ 0x0A ∷ [])

  no_return : ends_in whole (codes "\r\n") ≡ false
  no_return = ap (λ bytes. pointwise (λ a b. a == b) bytes (codes "\r\n")) last_two
      ∙ ap (λ b. b && true) (ne_eqb ends.last 0x0D (λ e. let low = ends.low in omega arith))

  feed : ends_in whole (codes "\n") ≡ true
  feed = ap (λ bytes. pointwise (λ a b. a == b) bytes (codes "\n")) last_byte

  ended : without_end whole ≡ text
  ended =
      (λ i. if no_return i then take (length whole - 2) whole
      else if feed i then take (length whole - 1) whole
      else whole)
      ∙ ap (λ n. take n whole) (let l = long in let n : length whole - 1 ≡ length text = omega arith in n)
      ∙ take-append_seam text (0x0A ∷ [])

  no_space_first : prefix_len is_space text ≡ 0
  no_space_first = ap (prefix_len is_space) begins.is
      ∙ ap (λ b. cond b (1 + prefix_len is_space begins.more) 0)
      (ne_eqb begins.first 0x20 (λ e. let low = begins.low in omega arith))

  no_space_last : suffix_len is_space text ≡ 0
  no_space_last = ap (λ t. prefix_len is_space (reverse t)) ends.is
      ∙ ap (prefix_len is_space) (reverse-append ends.front (ends.last ∷ []))
      ∙ ap (λ b. cond b (1 + prefix_len is_space (reverse ends.front)) 0)
      (ne_eqb ends.last 0x20 (λ e. let low = ends.low in omega arith))

  bare : trimmed text ≡ text
  bare =
      ap (λ n. take (length (drop n text) - suffix_len is_space (drop n text)) (drop n text)) no_space_first
      ∙ ap (λ n. take (length text - n) text) no_space_last
      ∙ take_all (length text - 0) text (omega arith)

  no_comment : unless_comment text ≡ Some text
  no_comment = ap unless_comment begins.is
      ∙ ap (λ b. if b then None else Some (begins.first ∷ begins.more))
      (ne_eqb begins.first 0x23 (λ e. let low = begins.low in omega arith))
      ∙ ap (λ t. Some t) (sym begins.is)

  pub heard_whole : said (text ++ 0x0A ∷ []) ≡ Some text
  heard_whole = ap (λ t. unless_comment (trimmed t)) ended ∙ ap unless_comment bare ∙ no_comment

-- ---- Characters.
first_if : (b : Bool) (xs ys : List ℕ) → b ≡ true → cond b xs ys ≡ xs
first_if b xs ys h = ap (λ b. cond b xs ys) h

encode_one : (c : ℕ) → c < 128 → encode c ≡ c ∷ []
unfolding encode
encode_one c low = first_if (ltb c 128) (c ∷ []) _ (lt-ltb c 128 low)

bytes_begin : (text : List ℕ) → Begins text → Begins (encode_utf8_all text)
bytes_begin text b =
    let high = b.high in
    record {
      first = b.first;
      more = encode_utf8_all b.more;
      is = ap encode_utf8_all b.is ∙ ap (λ bytes. bytes ++ encode_utf8_all b.more) (encode_one b.first (omega arith));
      low = b.low;
      high = b.high;
    }

bytes_end : (text : List ℕ) → Ends text → Ends (encode_utf8_all text)
bytes_end text e =
    let high = e.high in
    record {
      front = encode_utf8_all e.front;
      last = e.last;
      is = ap encode_utf8_all e.is ∙ encodes-append e.front (e.last ∷ [])
          ∙ ap (λ bytes. encode_utf8_all e.front ++ (bytes ++ [])) (encode_one e.last (omega arith));
      low = e.low;
      high = e.high;
    }

-- ---- The last token.
ends_then : (xs ys : List ℕ) → Ends ys → Ends (xs ++ ys)
ends_then xs ys e = record {
  front = xs ++ e.front;
  last = e.last;
  is = ap (λ t. xs ++ t) e.is ∙ sym (append_assoc xs e.front (e.last ∷ []));
  low = e.low;
  high = e.high;
}

word_ends : (c : ℕ) (w : List ℕ) → list_all is_word_character (c ∷ w) ≡ true → Ends (c ∷ w)
word_ends c [] all =
    let is : OfWord c = of_word c (both (is_word_character c) true all).0 in
    record { front = []; last = c; is = refl; low = is.least; high = is.most }
word_ends c (d ∷ w) all =
    ends_then (c ∷ []) (d ∷ w) (word_ends d w (both (is_word_character c) (list_all is_word_character (d ∷ w)) all).1)

token_ends : (t : Token) → IsToken t → Ends (written_token t)
token_ends (Word []) is = absurd (let low = is.0 in omega arith)
token_ends (Word (c ∷ w)) is = word_ends c w is.2
token_ends (Quoted bytes) is = record {
  front = 0x22 ∷ flat_map written bytes;
  last = 0x22;
  is = refl;
  low = omega arith;
  high = omega arith;
}
token_ends Semicolon is = record { front = []; last = 0x3B; is = refl; low = omega arith; high = omega arith }

row_ends : (t : Token) (ts : List Token) → IsToken t → AllByRecursion IsToken ts
    → Ends (written_token t ++ written_behind ts)
row_ends t [] is all = subst Ends (sym (append-nil (written_token t))) (token_ends t is)
row_ends t (Word w ∷ ts) is all =
    ends_then (written_token t) (written_behind (Word w ∷ ts))
    (ends_then (0x20 ∷ []) (written_token (Word w) ++ written_behind ts) (row_ends (Word w) ts all.0 all.1))
row_ends t (Quoted bytes ∷ ts) is all =
    ends_then (written_token t) (written_behind (Quoted bytes ∷ ts))
    (ends_then (0x20 ∷ []) (written_token (Quoted bytes) ++ written_behind ts)
    (row_ends (Quoted bytes) ts all.0 all.1))
row_ends t (Semicolon ∷ ts) is all =
    ends_then (written_token t) (written_behind (Semicolon ∷ ts)) (row_ends Semicolon ts all.0 all.1)

tokens_end : (ts : List Token) → AllByRecursion IsToken ts → Begins (written_tokens ts) → Ends (written_tokens ts)
tokens_end [] all b = absurd (none b.first b.more b.is)
  where
    none : (c : ℕ) (more : List ℕ) → [] ≡ c ∷ more → ⊥
    none c more is = cc
tokens_end (t ∷ ts) all b = row_ends t ts all.0 all.1

-- ---- The first token.
word_begins : (w : List ℕ) (ts : List Token) → Begins w → Begins (written_tokens (Word w ∷ ts))
word_begins w ts b = record {
  first = b.first;
  more = b.more ++ written_behind ts;
  is = ap (λ t. t ++ written_behind ts) b.is;
  low = b.low;
  high = b.high;
}

letter : (c : ℕ) (w : List ℕ) → 0x61 ≤ c → c ≤ 0x7A → Begins (c ∷ w)
letter c w low high = record { first = c; more = w; is = refl; low = low; high = high }

placed_begins : (dsn psn : ℕ) (a b : Bool) (ts : List Token) → Begins (written_tokens ts)
    → Begins (written_tokens (((if a then [] else Word (codes "in") ∷ set_token dsn ∷ [])
    ++ (if b then [] else Word (codes "for") ∷ byte_token psn ∷ [])) ++ ts))
placed_begins dsn psn true true ts h = h
placed_begins dsn psn true false ts h =
    word_begins (codes "for") (byte_token psn ∷ ts) (letter 0x66 (codes "or") (omega arith) (omega arith))
placed_begins dsn psn false b ts h =
    word_begins (codes "in")
    (set_token dsn ∷ ((if b then [] else Word (codes "for") ∷ byte_token psn ∷ []) ++ ts))
    (letter 0x69 (codes "n") (omega arith) (omega arith))

music_begins : (a b : Bool) (ts : List Token)
    → Begins (written_tokens (if a then Word (codes "music") ∷ [] else if b then Word (codes "speech") ∷ []
    else Word (codes "ms") ∷ ts))
music_begins true b ts = word_begins (codes "music") [] (letter 0x6D (codes "usic") (omega arith) (omega arith))
music_begins false true ts =
    word_begins (codes "speech") [] (letter 0x73 (codes "peech") (omega arith) (omega arith))
music_begins false false ts = word_begins (codes "ms") ts (letter 0x6D (codes "s") (omega arith) (omega arith))

phrase_begins : (region : Region) (e : Element) → Begins (written_tokens (phrase_of region e))
phrase_begins region (Pi d p n) = placed_begins d p (d == 0x00) (p == 0x00) (Word (codes "pi") ∷ number_token n ∷ [])
    (word_begins (codes "pi") (number_token n ∷ []) (letter 0x70 (codes "i") (omega arith) (omega arith)))
phrase_begins region (Ps d p name) = placed_begins d p (d == 0x00) (p == 0x00)
    (Word (codes "ps") ∷ Quoted (phrase.trimmed name) ∷ [])
    (word_begins (codes "ps") (Quoted (phrase.trimmed name) ∷ []) (letter 0x70 (codes "s") (omega arith) (omega arith)))
phrase_begins region (TaTp d p raw) = placed_begins d p (d == 0x00) (p == 0x00)
    (Word (codes "traffic") ∷ traffic_tokens raw)
    (word_begins (codes "traffic") (traffic_tokens raw) (letter 0x74 (codes "raffic") (omega arith) (omega arith)))
phrase_begins region (Ms d p raw) = placed_begins d p (d == 0x00) (p == 0x00) (music_tokens raw)
    (music_begins (raw == 1) (raw == 0) (bits_tokens raw))
phrase_begins region (Pty d p raw) = placed_begins d p (d == 0x00) (p == 0x00)
    (Word (codes "pty") ∷ programme_type_tokens region raw)
    (word_begins (codes "pty") (programme_type_tokens region raw)
    (letter 0x70 (codes "ty") (omega arith) (omega arith)))
phrase_begins region (Rt d p part) = placed_begins d p (d == 0x00) (p == 0x00) (Word (codes "rt") ∷ text_tokens part)
    (word_begins (codes "rt") (text_tokens part) (letter 0x72 (codes "t") (omega arith) (omega arith)))
phrase_begins region (Select d) =
    word_begins (codes "set") (set_token d ∷ []) (letter 0x73 (codes "et") (omega arith) (omega arith))
phrase_begins region (Group k m x y) =
    word_begins (codes "group") (group_tokens k m x y) (letter 0x67 (codes "roup") (omega arith) (omega arith))
phrase_begins region (Ack c n) =
    word_begins (codes "ack") (byte_token c ∷ byte_token n ∷ []) (letter 0x61 (codes "ck") (omega arith) (omega arith))

-- ---- The line of an element.
pub line_heard : (region : Region) (e : Element) → IsSayable e
    → said (line region e) ≡ Some (encode_utf8_all (written_tokens (phrase_of region e)))
unfolding line
line_heard region e h =
    let text = written_tokens (phrase_of region e) in
    let begins = phrase_begins region e in
    let ends = tokens_end (phrase_of region e) (writable region e h.0 h.1) begins in
    heard_whole (encode_utf8_all text) (bytes_begin text begins) (bytes_end text ends)
