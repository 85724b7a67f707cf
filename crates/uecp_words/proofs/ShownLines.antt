-- What is shown of elements and frames, line by line.
use Rattle.std.proofs.Common.{◌≡◌, ℕ, zero, suc, ◌+◌, ◌-◌, ◌/◌, ◌%◌, ◌<◌, ◌==◌, Bool, true, false, not, ◌&&◌, cond}
use Rattle.std.proofs.Common.{List, [], ◌∷◌, ◌++◌, length, take, drop, get_or, codes, slice_index, Some, None, refl}
use Rattle.std.proofs.Common.{sym, ap, ◌∙◌, append_assoc, subst, arith, lit<}
use Rattle.std.specs.List.{AllByRecursion, prefix_len, suffix_len, onto_first}
use Rattle.std.proofs.Math.Seq.{drop-append_seam, take-append_seam, take-length, get_or-append_seam}
use Rattle.std.proofs.lemmas.Bool.{and_parts, not-true}
use Rattle.std.proofs.lemmas.List.{length-append}
use Rattle.std.proofs.lemmas.List.Sums.{suffix_len_is}
use lib.Pointwise.{pointwise}
use Rattle.hex.specs.Hex.{encode_upper, encode_with, upper_digits}
use Rattle.uecp_elements.specs.Grammar.{NoText, Text, Element, Pi, Ps, TaTp, Ms, Pty, Rt, Select, Group, Ack}
use Rattle.uecp_text.specs.Input.{lines_of, numbered, said, under, is_space, ends_in, without_end, without_last_spaces}
use Rattle.uecp_text.specs.Input.{trimmed, unless_comment}
use Rattle.uecp_text.specs.Digits.{byte_word, number_word, row_word}
use Rattle.uecp_lines.specs.Lines.{element_words}
use Rattle.uecp_words.proofs.Shown.{spaced, spaced_front, byte_digits, number_digits, row_digits, row_of_some}

-- ---- Texts that a line says as they stand.

-- no line feed, no carriage return, no space and no hash sign
abbrev is_solid : ℕ → Bool
is_solid b = not (b == 10) && (not (b == 13) && (not (b == 32) && not (b == 35)))

abbrev IsOn : ℕ → Type 0
IsOn b = (b == 10) ≡ false

-- no byte ends a line; the first and the last are solid
pub record IsText (t : List ℕ) : Type 0 where
  pub each : AllByRecursion IsOn t
  pub first : ℕ
  pub more : List ℕ
  pub starts : t ≡ first ∷ more
  pub first_solid : is_solid first ≡ true
  pub front : List ℕ
  pub last : ℕ
  pub ends : t ≡ front ++ (last ∷ [])
  pub last_solid : is_solid last ≡ true

not_feed : (b : ℕ) → is_solid b ≡ true → (b == 10) ≡ false
not_feed b h = not-true (b == 10) (and_parts (not (b == 10)) (not (b == 13) && (not (b == 32) && not (b == 35))) h).0

not_return : (b : ℕ) → is_solid b ≡ true → (b == 13) ≡ false
not_return b h =
    let p = (and_parts (not (b == 10)) (not (b == 13) && (not (b == 32) && not (b == 35))) h).1 in
    not-true (b == 13) (and_parts (not (b == 13)) (not (b == 32) && not (b == 35)) p).0

not_space : (b : ℕ) → is_solid b ≡ true → (b == 32) ≡ false
not_space b h =
    let p = (and_parts (not (b == 10)) (not (b == 13) && (not (b == 32) && not (b == 35))) h).1 in
    let q = (and_parts (not (b == 13)) (not (b == 32) && not (b == 35)) p).1 in
    not-true (b == 32) (and_parts (not (b == 32)) (not (b == 35)) q).0

not_hash : (b : ℕ) → is_solid b ≡ true → (b == 35) ≡ false
not_hash b h =
    let p = (and_parts (not (b == 10)) (not (b == 13) && (not (b == 32) && not (b == 35))) h).1 in
    let q = (and_parts (not (b == 13)) (not (b == 32) && not (b == 35)) p).1 in
    not-true (b == 35) (and_parts (not (b == 32)) (not (b == 35)) q).1

-- ---- The first line of an input.

line_first : (t rest : List ℕ) → AllByRecursion IsOn t → lines_of (t ++ (10 ∷ rest)) ≡ (t ++ (10 ∷ [])) ∷ lines_of rest
unfolding lines_of
line_first [] rest h = refl
line_first (b ∷ t) rest h =
    ap (λ c. cond c ((b ∷ []) ∷ lines_of (t ++ (10 ∷ rest))) (onto_first b (lines_of (t ++ (10 ∷ rest))))) h.0
    ∙ ap (onto_first b) (line_first t rest h.1)

-- ---- What it says.

no_return : (t : List ℕ) → IsText t → ends_in (t ++ (10 ∷ [])) (codes "\r\n") ≡ false
no_return t h =
    let whole : t ++ (10 ∷ []) ≡ h.front ++ (h.last ∷ 10 ∷ []) =
    ap (λ l. l ++ (10 ∷ [])) h.ends ∙ append_assoc h.front (h.last ∷ []) (10 ∷ []) in
    let long = length-append h.front (h.last ∷ 10 ∷ []) in
    let left : length (h.front ++ (h.last ∷ 10 ∷ [])) - 2 ≡ length h.front = omega (arith, long) in
    ap (λ l. ends_in l (codes "\r\n")) whole
    ∙ ap (λ n. pointwise (λ a b. a == b) (drop n (h.front ++ (h.last ∷ 10 ∷ []))) (codes "\r\n")) left
    ∙ ap (λ l. pointwise (λ a b. a == b) l (codes "\r\n")) (drop-append_seam h.front (h.last ∷ 10 ∷ []))
    ∙ ap (λ b. b && true) (not_return h.last h.last_solid)

one_more : (t : List ℕ) → length (t ++ (10 ∷ [])) - 1 ≡ length t
one_more t = let long = length-append t (10 ∷ []) in omega (arith, long)

a_feed : (t : List ℕ) → ends_in (t ++ (10 ∷ [])) (codes "\n") ≡ true
a_feed t =
    ap (λ n. pointwise (λ a b. a == b) (drop n (t ++ (10 ∷ []))) (codes "\n")) (one_more t)
    ∙ ap (λ l. pointwise (λ a b. a == b) l (codes "\n")) (drop-append_seam t (10 ∷ []))

end_dropped : (t : List ℕ) → IsText t → without_end (t ++ (10 ∷ [])) ≡ t
end_dropped t h =
    let line : List ℕ = t ++ (10 ∷ []) in
    ap (λ b. cond b (take (length line - 2) line) (cond (ends_in line (codes "\n")) (take (length line - 1) line) line))
    (no_return t h)
    ∙ ap (λ b. cond b (take (length line - 1) line) line) (a_feed t)
    ∙ ap (λ n. take n line) (one_more t) ∙ take-append_seam t (10 ∷ [])

no_first_space : (x : ℕ) (xs : List ℕ) → is_space x ≡ false → prefix_len is_space (x ∷ xs) ≡ 0
no_first_space x xs h = ap (λ b. cond b (1 + prefix_len is_space xs) 0) h

last_at : (front : List ℕ) (last : ℕ) → get_or (front ++ (last ∷ [])) (length (front ++ (last ∷ [])) - 1) 0 ≡ last
last_at front last =
    let long = length-append front (last ∷ []) in
    let left : length (front ++ (last ∷ [])) - 1 ≡ length front = omega (arith, long) in
    ap (λ n. get_or (front ++ (last ∷ [])) n 0) left ∙ get_or-append_seam front last [] 0

no_last_space : (t : List ℕ) → IsText t → suffix_len is_space t ≡ length t - length t
no_last_space t h =
    let at : get_or t (length t - 1) 0 ≡ h.last = ap (λ l. get_or l (length l - 1) 0) h.ends ∙ last_at h.front h.last in
    suffix_len_is is_space t (length t) 0 (omega arith) (λ k from below. absurd (omega arith))
    (λ some. ap is_space at ∙ not_space h.last h.last_solid)

spaces_kept : (t : List ℕ) → IsText t → trimmed t ≡ t
spaces_kept t h =
    let none : prefix_len is_space t ≡ 0 = ap (prefix_len is_space) h.starts
    ∙ no_first_space h.first h.more (not_space h.first h.first_solid) in
    let all : length t - suffix_len is_space t ≡ length t = let e = no_last_space t h in omega (arith, e) in
    ap (λ n. without_last_spaces (drop n t)) none ∙ ap (λ n. take n t) all ∙ take-length t

no_comment : (t : List ℕ) → IsText t → unless_comment t ≡ Some t
no_comment t h =
    ap unless_comment h.starts ∙ ap (λ b. cond b None (Some (h.first ∷ h.more))) (not_hash h.first h.first_solid)
    ∙ ap Some (sym h.starts)

says_text : (t : List ℕ) → IsText t → said (t ++ (10 ∷ [])) ≡ Some t
says_text t h = ap (λ l. unless_comment (trimmed l)) (end_dropped t h) ∙ ap unless_comment (spaces_kept t h)
    ∙ no_comment t h

numbered_line : (number : ℕ) (line : List ℕ) (lines : List (List ℕ))
    → numbered number (line ∷ lines) ≡ under number (said line) (numbered (number + 1) lines)
unfolding numbered
numbered_line number line lines = refl

-- The text on its line comes first, whatever comes behind it.
pub text_first : (t : List ℕ) (number : ℕ) (rest : List ℕ) → IsText t
    → numbered number (lines_of (t ++ codes "\n" ++ rest)) ≡ (number, t) ∷ numbered (number + 1) (lines_of rest)
text_first t number rest h =
    ap (λ l. numbered number (lines_of l)) (append_assoc t (10 ∷ []) rest)
    ∙ ap (numbered number) (line_first t rest h.each)
    ∙ numbered_line number (t ++ (10 ∷ [])) (lines_of rest)
    ∙ ap (λ s. under number s (numbered (number + 1) (lines_of rest))) (says_text t h)

-- ---- Words make texts.

abbrev IsSolidByte : ℕ → Type 0
IsSolidByte b = is_solid b ≡ true

pub record IsSolid (w : List ℕ) : Type 0 where
  pub some : 0 < length w
  pub each : AllByRecursion IsSolidByte w

abbrev pub AreSolid : List (List ℕ) → Type 0
AreSolid [] = Unit {0}
AreSolid (w ∷ ws) = IsSolid w × AreSolid ws

on_each : (w : List ℕ) → AllByRecursion IsSolidByte w → AllByRecursion IsOn w
on_each [] h = tt
on_each (b ∷ w) h = (not_feed b h.0, on_each w h.1)

on_append : (v w : List ℕ) → AllByRecursion IsOn v → AllByRecursion IsOn w → AllByRecursion IsOn (v ++ w)
on_append [] w h k = k
on_append (b ∷ v) w h k = (h.0, on_append v w h.1 k)

split_last : (w : List ℕ) → 0 < length w → AllByRecursion IsSolidByte w
    → (front : List ℕ) × (last : ℕ) × (w ≡ front ++ (last ∷ [])) × IsSolidByte last
split_last [] some h = absurd (omega arith)
split_last (b ∷ []) some h = ([], b, refl, h.0)
split_last (b ∷ c ∷ w) some h = let r = split_last (c ∷ w) (omega arith) h.1 in (b ∷ r.0, r.1, ap (λ l. b ∷ l) r.2, r.3)

text_word : (w : List ℕ) → IsSolid w → IsText w
text_word [] h = absurd (let some = h.some in omega arith)
text_word (b ∷ w) h =
    let end = split_last (b ∷ w) h.some h.each in
    record {
      each = on_each (b ∷ w) h.each;
      first = b;
      more = w;
      starts = refl;
      first_solid = h.each.0;
      front = end.0;
      last = end.1;
      ends = end.2;
      last_solid = end.3;
    }

text_more : (w u : List ℕ) → IsText w → IsText u → IsText (w ++ (32 ∷ u))
text_more w u h k = record {
  each = on_append w (32 ∷ u) h.each (refl, k.each);
  first = h.first;
  more = h.more ++ (32 ∷ u);
  starts = ap (λ l. l ++ (32 ∷ u)) h.starts;
  first_solid = h.first_solid;
  front = w ++ (32 ∷ k.front);
  last = k.last;
  ends = ap (λ l. w ++ (32 ∷ l)) k.ends ∙ sym (append_assoc w (32 ∷ k.front) (k.last ∷ []));
  last_solid = k.last_solid;
}

text_spaced : (w : List ℕ) (ws : List (List ℕ)) → IsSolid w → AreSolid ws → IsText (spaced w ws)
text_spaced w [] h hs = text_word w h
text_spaced w (v ∷ vs) h hs = subst IsText (sym (spaced_front w v vs))
    (text_more w (spaced v vs) (text_word w h) (text_spaced v vs hs.0 hs.1))

-- ---- Which words are solid.

abbrev are_solid : List ℕ → Bool
are_solid [] = true
are_solid (b ∷ w) = is_solid b && are_solid w

solid_by_test : (w : List ℕ) → are_solid w ≡ true → AllByRecursion IsSolidByte w
solid_by_test [] h = tt
solid_by_test (b ∷ w) h = let parts = and_parts (is_solid b) (are_solid w) h in (parts.0, solid_by_test w parts.1)

plain : (w : List ℕ) → 0 < length w → are_solid w ≡ true → IsSolid w
plain w some test = record { some = some; each = solid_by_test w test }

digit_solid : (t : List ℕ) (d : ℕ) → are_solid t ≡ true → IsSolidByte (slice_index t d)
digit_solid [] d h = refl
digit_solid (b ∷ t) zero h = (and_parts (is_solid b) (are_solid t) h).0
digit_solid (b ∷ t) (suc d) h = digit_solid t d (and_parts (is_solid b) (are_solid t) h).1

digits_solid : (xs : List ℕ) → AllByRecursion IsSolidByte (encode_upper xs)
unfolding encode_with
digits_solid [] = tt
digits_solid (x ∷ xs) = (
  digit_solid upper_digits (x / 16) refl,
  (digit_solid upper_digits (x % 16) refl, digits_solid xs),
)

some_solid : (x : ℕ) (xs : List ℕ) → IsSolid (encode_upper (x ∷ xs))
unfolding encode_with
some_solid x xs = record { some = omega arith; each = digits_solid (x ∷ xs) }

byte_solid : (b : ℕ) → IsSolid (byte_digits b)
byte_solid b = some_solid b []

number_solid : (n : ℕ) → IsSolid (number_digits n)
number_solid n = some_solid (n / 0x100) (n % 0x100 ∷ [])

row_solid : (xs : List ℕ) → IsSolid (row_digits xs)
row_solid [] = plain (codes "-") (lit< tt) refl
row_solid (x ∷ xs) = subst IsSolid (sym (row_of_some (x ∷ xs) (omega arith))) (some_solid x xs)

-- ---- Elements, and the first line of a frame.

pub element_text : (e : Element) → IsText (element_words e)
unfolding byte_word number_word row_word
element_text (Pi dsn psn pi) = text_spaced (codes "pi") (byte_digits dsn ∷ byte_digits psn ∷ number_digits pi ∷ [])
    (plain (codes "pi") (lit< tt) refl) (byte_solid dsn, (byte_solid psn, (number_solid pi, tt)))
element_text (Ps dsn psn name) = text_spaced (codes "ps") (byte_digits dsn ∷ byte_digits psn ∷ row_digits name ∷ [])
    (plain (codes "ps") (lit< tt) refl) (byte_solid dsn, (byte_solid psn, (row_solid name, tt)))
element_text (TaTp dsn psn raw) = text_spaced (codes "tatp") (byte_digits dsn ∷ byte_digits psn ∷ byte_digits raw ∷ [])
    (plain (codes "tatp") (lit< tt) refl) (byte_solid dsn, (byte_solid psn, (byte_solid raw, tt)))
element_text (Ms dsn psn raw) = text_spaced (codes "ms") (byte_digits dsn ∷ byte_digits psn ∷ byte_digits raw ∷ [])
    (plain (codes "ms") (lit< tt) refl) (byte_solid dsn, (byte_solid psn, (byte_solid raw, tt)))
element_text (Pty dsn psn raw) = text_spaced (codes "pty") (byte_digits dsn ∷ byte_digits psn ∷ byte_digits raw ∷ [])
    (plain (codes "pty") (lit< tt) refl) (byte_solid dsn, (byte_solid psn, (byte_solid raw, tt)))
element_text (Rt dsn psn NoText) = text_spaced (codes "rt") (byte_digits dsn ∷ byte_digits psn ∷ codes "empty" ∷ [])
    (plain (codes "rt") (lit< tt) refl) (byte_solid dsn, (byte_solid psn, (plain (codes "empty") (lit< tt) refl, tt)))
element_text (Rt dsn psn (Text head text)) =
    subst IsText (append_assoc (spaced (codes "rt") (byte_digits dsn ∷ byte_digits psn ∷ [])) (32 ∷ byte_digits head)
    (32 ∷ row_digits text))
    (text_spaced (codes "rt") (byte_digits dsn ∷ byte_digits psn ∷ byte_digits head ∷ row_digits text ∷ [])
    (plain (codes "rt") (lit< tt) refl) (byte_solid dsn, (byte_solid psn, (byte_solid head, (row_solid text, tt)))))
element_text (Select dsn) = text_spaced (codes "select") (byte_digits dsn ∷ []) (plain (codes "select") (lit< tt) refl)
    (byte_solid dsn, tt)
element_text (Group kind mode block3 block4) =
    text_spaced (codes "group") (byte_digits kind ∷ byte_digits mode ∷ number_digits block3 ∷ number_digits block4 ∷ [])
    (plain (codes "group") (lit< tt) refl) (
      byte_solid kind,
      (byte_solid mode, (number_solid block3, (number_solid block4, tt))),
    )
element_text (Ack code counter) = text_spaced (codes "ack") (byte_digits code ∷ byte_digits counter ∷ [])
    (plain (codes "ack") (lit< tt) refl) (byte_solid code, (byte_solid counter, tt))

frame_text : (address counter : ℕ) → IsText (codes "frame" ++ number_word address ++ byte_word counter)
unfolding byte_word number_word
frame_text address counter = text_spaced (codes "frame") (number_digits address ∷ byte_digits counter ∷ [])
    (plain (codes "frame") (lit< tt) refl) (number_solid address, (byte_solid counter, tt))

pub element_line : (e : Element) (number : ℕ) (rest : List ℕ)
    → numbered number (lines_of (element_words e ++ codes "\n" ++ rest)) ≡ (number, element_words e)
    ∷ numbered (number + 1) (lines_of rest)
element_line e number rest = text_first (element_words e) number rest (element_text e)

pub frame_line : (address counter number : ℕ) (rest : List ℕ) →
    numbered number (lines_of (codes "frame" ++ number_word address ++ byte_word counter ++ codes "\n" ++ rest))
    ≡ (number, codes "frame" ++ number_word address ++ byte_word counter) ∷ numbered (number + 1) (lines_of rest)
frame_line address counter number rest = text_first (codes "frame" ++ number_word address ++ byte_word counter) number
    rest (frame_text address counter)
