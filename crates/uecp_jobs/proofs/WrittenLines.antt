-- The line of tokens is the first of an input, and what it says are these tokens; a line behind `#` says nothing.
use Rattle.std.proofs.Common.{◌≡◌, ℕ, zero, suc, ◌+◌, ◌-◌, ◌≤◌, nat_le, Bool, true, false, List, [], ◌∷◌, ◌++◌, length}
use Rattle.std.proofs.Common.{take, codes, None, refl, sym, ap, subst, ◌∙◌, arith, ◌⊎◌, inl, inr, if◌then◌else◌}
use Rattle.std.proofs.lemmas.Bool.{ne_eqb, leb-true, false≢true}
use Rattle.std.proofs.lemmas.Str.{encode_ascii}
use Rattle.std.specs.List.{AllByRecursion, onto_first, suffix_len}
use Rattle.std.specs.Str.{encode_utf8_all}
use Rattle.uecp_text.specs.Input.{lines_of, numbered, said, under, ends_in, without_end, is_space, trimmed}
use Rattle.uecp_text.specs.Input.{unless_comment}
use Rattle.phrase_tokens.specs.Tokens.{Token, IsToken, written_behind, written_tokens}
use Rattle.phrase_tokens.proofs.Public.{both}
use Rattle.store_phrases.proofs.Public.{Begins, Ends, heard_whole}
use Rattle.uecp_jobs.proofs.SaidOnce.{Opens, is_opening}
use Rattle.uecp_jobs.proofs.WrittenTokens.{AreShown, tokens_shown, bytes_shown, bytes_end, row_ends}

-- ---- The first line of an input.

first_line : (text rest : List ℕ) → AreShown text
    → lines_of (text ++ 0x0A ∷ rest) ≡ (text ++ 0x0A ∷ []) ∷ lines_of rest
unfolding lines_of
first_line [] rest shown = refl
first_line (b ∷ text) rest shown =
    let least = shown.0 in
    ap (λ is_feed. if is_feed then (b ∷ []) ∷ lines_of (text ++ 0x0A ∷ rest)
    else onto_first b (lines_of (text ++ 0x0A ∷ rest))) (ne_eqb b 0x0A (λ e. omega arith))
    ∙ ap (onto_first b) (first_line text rest shown.1)

numbered_line : (number : ℕ) (line : List ℕ) (lines : List (List ℕ))
    → numbered number (line ∷ lines) ≡ under number (said line) (numbered (number + 1) lines)
unfolding numbered
numbered_line number line lines = refl

first_said : (text rest : List ℕ) (number : ℕ) → AreShown text
    → numbered number (lines_of (text ++ 0x0A ∷ rest))
    ≡ under number (said (text ++ 0x0A ∷ [])) (numbered (number + 1) (lines_of rest))
first_said text rest number shown =
    ap (numbered number) (first_line text rest shown) ∙ numbered_line number (text ++ 0x0A ∷ []) (lines_of rest)

-- ---- The line of tokens.

pub letter_begins : (c : ℕ) (w behind : List ℕ) → 0x61 ≤ c → c ≤ 0x7A → Begins (encode_utf8_all ((c ∷ w) ++ behind))
letter_begins c w behind least most = record {
  first = c;
  more = encode_utf8_all (w ++ behind);
  is = ap (λ bytes. bytes ++ encode_utf8_all (w ++ behind)) (encode_ascii c (omega arith));
  low = least;
  high = most;
}

word_begins : (word behind : List ℕ) → is_opening word ≡ true → Begins (encode_utf8_all (word ++ behind))
word_begins [] behind opening = absurd (false≢true opening)
word_begins (c ∷ w) behind opening =
    let parts = both (nat_le 0x61 c) _ opening in
    letter_begins c w behind (leb-true 0x61 c parts.0) (leb-true c 0x7A (both (nat_le c 0x7A) _ parts.1).0)

pub tokens_begin : (tokens : List Token) → Opens tokens → Begins (encode_utf8_all (written_tokens tokens))
tokens_begin tokens o =
    subst (λ ts. Begins (encode_utf8_all (written_tokens ts))) (sym o.is)
    (word_begins o.word (written_behind o.rest) o.opening)

tokens_end : (tokens : List Token) → AllByRecursion IsToken tokens → Begins (encode_utf8_all (written_tokens tokens))
    → Ends (encode_utf8_all (written_tokens tokens))
tokens_end [] all b = absurd (none b.first b.more b.is)
  where
    none : (c : ℕ) (more : List ℕ) → [] ≡ c ∷ more → ⊥
    none c more is = cc
tokens_end (t ∷ ts) all b = bytes_end (written_tokens (t ∷ ts)) (row_ends t ts all.0 all.1)

pub tokens_line : (tokens : List Token) (number : ℕ) (rest : List ℕ) → AllByRecursion IsToken tokens
    → Begins (encode_utf8_all (written_tokens tokens))
    → numbered number (lines_of (encode_utf8_all (written_tokens tokens) ++ 0x0A ∷ rest))
    ≡ (number, encode_utf8_all (written_tokens tokens)) ∷ numbered (number + 1) (lines_of rest)
tokens_line tokens number rest all begins =
    let text = encode_utf8_all (written_tokens tokens) in
    first_said text rest number (bytes_shown (written_tokens tokens) (tokens_shown tokens all))
    ∙ ap (λ s. under number s (numbered (number + 1) (lines_of rest)))
    (heard_whole text begins (tokens_end tokens all begins))

-- ---- A line behind `#`.

-- empty, or with that in front
abbrev IsComment : List ℕ → Type 0
IsComment text = (text ≡ []) ⊎ ((more : List ℕ) × (text ≡ 0x23 ∷ more))

taken : (n : ℕ) (text : List ℕ) → IsComment text → IsComment (take n text)
taken zero text c = inl refl
taken (suc n) text (inl is) = inl (ap (take (suc n)) is)
taken (suc n) text (inr (more, is)) = inr (take n more, ap (take (suc n)) is)

ended : (line : List ℕ) → IsComment line → IsComment (without_end line)
ended line c = by (ends_in line (codes "\r\n")) (ends_in line (codes "\n"))
  where
    by : (a b : Bool) → IsComment (if a then take (length line - 2) line
        else if b then take (length line - 1) line else line)
    by true b = taken (length line - 2) line c
    by false true = taken (length line - 1) line c
    by false false = c

bare : (text : List ℕ) → IsComment text → IsComment (trimmed text)
bare text (inl is) = inl (ap trimmed is)
bare text (inr (more, is)) =
    subst (λ t. IsComment (trimmed t)) (sym is)
    (taken (length (0x23 ∷ more) - suffix_len is_space (0x23 ∷ more)) (0x23 ∷ more) (inr (more, refl)))

unsaid : (text : List ℕ) → IsComment text → unless_comment text ≡ None
unsaid text (inl is) = ap unless_comment is
unsaid text (inr (more, is)) = ap unless_comment is

pub comment_line : (text rest : List ℕ) (number : ℕ) → AreShown (0x23 ∷ text)
    → numbered number (lines_of ((0x23 ∷ text) ++ 0x0A ∷ rest)) ≡ numbered (number + 1) (lines_of rest)
comment_line text rest number shown =
    let line : List ℕ = (0x23 ∷ text) ++ 0x0A ∷ [] in
    let nothing : said line ≡ None =
    unsaid (trimmed (without_end line))
    (bare (without_end line) (ended line (inr (text ++ 0x0A ∷ [], refl)))) in
    first_said (0x23 ∷ text) rest number shown
    ∙ ap (λ s. under number s (numbered (number + 1) (lines_of rest))) nothing
