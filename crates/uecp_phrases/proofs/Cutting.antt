-- Tokens up to the first semicolon.
use Rattle.std.proofs.Common.{◌≡◌, ℕ, ◌+◌, ◌≤◌, ◌<◌, false, List, [], ◌∷◌, ◌++◌, length, take, Option, Some, None}
use Rattle.std.proofs.Common.{refl, sym, ◌∙◌, ap, subst, inl, inr, arith, append_assoc}
use Rattle.std.proofs.lemmas.List.{length-append, append-nil, map-append}
use Rattle.std.specs.List.{All}
use Rattle.std.proofs.Math.Seq.{take-append_seam}
use Rattle.std.proofs.lemmas.List.Elements.{All-append, All-cons, All-nil}
use Rattle.std.proofs.lemmas.List.Splits.{slice_split_none, slice_split_at}
use Rattle.rds_text.specs.declared.programme_type.Region.{Region}
use Rattle.phrase_tokens.specs.declared.token.Token.{Token as Held}
use Rattle.phrase_tokens.specs.Tokens.{Token, Word, Quoted, Semicolon}
use Rattle.phrase_tokens.specs.View.{token_of, tokens_of}
use Rattle.uecp_phrases.specs.Phrases.{IsPhrase, set_said, service_said}
use Rattle.uecp_phrases.specs.Lines.{ends_phrase, phrases_in, AddsBytes, AddEach}
use Rattle.uecp_phrases.proofs.OneMeaning.{one_meaning}

-- So many tokens stand before the rest, and none of them ends a phrase.
pub record Before (all : List Held) (place : ℕ) (rest : List Held) : Type 0 where
  pub front : List Held
  pub whole : all ≡ front ++ rest
  pub counted : length front ≡ place
  pub none : All (λ t. ends_phrase t ≡ false) (tokens_of front)

pub before_all : (all : List Held) → Before all 0 all
before_all all = record { front = []; whole = refl; counted = refl; none = All-nil (λ t. ends_phrase t ≡ false) }

no_semicolon : (t : Token) → (t ≡ Semicolon → ⊥) → ends_phrase t ≡ false
no_semicolon (Word w) other = refl
no_semicolon (Quoted b) other = refl
no_semicolon Semicolon other = absurd (other refl)

pub before_more : (all rest more : List Held) (place : ℕ) (first : Held) → Before all place rest → rest ≡ first ∷ more
    → (token_of first ≡ Semicolon → ⊥) → Before all (place + 1) more
before_more all rest more place first before is other = record {
  front = before.front ++ (first ∷ []);
  whole = before.whole ∙ ap (λ l. before.front ++ l) is ∙ sym (append_assoc before.front (first ∷ []) more);
  counted = length-append before.front (first ∷ []) ∙ ap (λ n. n + 1) before.counted;
  none = subst (λ l. All (λ t. ends_phrase t ≡ false) l) (sym (map-append token_of before.front (first ∷ [])))
      (All-append (λ t. ends_phrase t ≡ false) (tokens_of before.front) (token_of first ∷ []) before.none
      (All-cons (λ t. ends_phrase t ≡ false) (token_of first) [] (no_semicolon (token_of first) other)
      (All-nil (λ t. ends_phrase t ≡ false))));
}

pub before_fits : (all rest : List Held) (place : ℕ) → Before all place rest → place ≤ length all
before_fits all rest place before =
    let l = ap length before.whole ∙ length-append before.front rest in
    let c = before.counted in omega (arith, l, c)

pub taken : (all rest : List Held) (place : ℕ) (before : Before all place rest) → take place all ≡ before.front
taken all rest place before =
    ap (λ n. take n all) (sym before.counted) ∙ ap (λ l. take (length before.front) l) before.whole
    ∙ take-append_seam before.front rest

pub cut_here : (all rest more : List Held) (place : ℕ) (first : Held) → Before all place rest → rest ≡ first ∷ more
    → token_of first ≡ Semicolon → phrases_in (tokens_of all) ≡ tokens_of (take place all) ∷ phrases_in (tokens_of more)
cut_here all rest more place first before is ends =
    ap (λ l. phrases_in (tokens_of l)) (before.whole ∙ ap (λ l. before.front ++ l) is)
    ∙ ap phrases_in (map-append token_of before.front (first ∷ more))
    ∙ slice_split_at ends_phrase (tokens_of before.front) (token_of first) (tokens_of more) before.none
    (ap ends_phrase ends)
    ∙ ap (λ l. tokens_of l ∷ phrases_in (tokens_of more)) (sym (taken all rest place before))

pub cut_nowhere : (all rest : List Held) (place : ℕ) → Before all place rest → length rest ≡ 0
    → phrases_in (tokens_of all) ≡ tokens_of all ∷ []
cut_nowhere all [] place before empty =
    slice_split_none ends_phrase (tokens_of all)
    (subst (λ l. All (λ t. ends_phrase t ≡ false) (tokens_of l)) (sym (before.whole ∙ append-nil before.front))
    before.none)
cut_nowhere all (t ∷ rest) place before empty = absurd (omega (arith, empty))

pub shorter_here : (all rest more : List Held) (place : ℕ) (first : Held) → Before all place rest → rest ≡ first ∷ more
    → length more < length all
shorter_here all rest more place first before is =
    let l = ap length before.whole ∙ length-append before.front rest in
    let m = ap length is in omega (arith, l, m)

pub counted_here : (all rest more : List Held) (place : ℕ) (first : Held) → Before all place rest → rest ≡ first ∷ more
    → length (take place all) + 1 + length more ≡ length all
counted_here all rest more place first before is =
    let l = ap length before.whole ∙ length-append before.front rest in
    let m = ap length is in
    let t = ap length (taken all rest place before) in omega (arith, l, m, t)

pub within_here : (all rest : List Held) (place : ℕ) → Before all place rest → length (take place all) ≤ length all
within_here all rest place before =
    let l = ap length before.whole ∙ length-append before.front rest in
    let t = ap length (taken all rest place before) in omega (arith, l, t)

-- ---- Phrases one after another.

pub empty_no_phrase : (region : Region) (bytes : List ℕ) → IsPhrase region [] bytes → ⊥
empty_no_phrase region bytes p = by_place p.set p.service p.whole
  where
    by_place : (set service : Option (List ℕ))
        → [] ≡ set_said set ++ (service_said service ++ (p.first ∷ p.rest)) → ⊥
    by_place None None e = cc e
    by_place None (Some w) e = cc e
    by_place (Some v) service e = cc e

pub adds_one : (region : Region) (tokens : List Token) (a b : List ℕ) → AddsBytes region tokens a
    → AddsBytes region tokens b → a ≡ b
adds_one region tokens a b (inl (p, x)) (inl (q, y)) = x ∙ sym y
adds_one region tokens a b (inl (p, x)) (inr q) =
    absurd (empty_no_phrase region b (subst (λ l. IsPhrase region l b) p q))
adds_one region tokens a b (inr p) (inl (q, y)) =
    absurd (empty_no_phrase region a (subst (λ l. IsPhrase region l a) q p))
adds_one region tokens a b (inr p) (inr q) = one_meaning region tokens a b p q

-- The bytes so far and those of the phrases that are left are those of all, and there are no others.
pub record SaidSoFar (region : Region) (all : List (List Token)) (message : List ℕ) (left : List (List Token))
    : Type 0 where
  pub front : (bytes : List ℕ) → AddEach region left bytes → AddEach region all (message ++ bytes)
  pub back : (bytes : List ℕ) → AddEach region all bytes
      → (others : List ℕ) × (bytes ≡ message ++ others) × AddEach region left others

pub said_begins : (region : Region) (all : List (List Token)) → SaidSoFar region all [] all
said_begins region all = record { front = λ bytes each. each; back = λ bytes each. (bytes, refl, each) }

pub said_more : (region : Region) (all left behind : List (List Token)) (phrase : List Token) (message added : List ℕ)
    → SaidSoFar region all message left → left ≡ phrase ∷ behind → AddsBytes region phrase added
    → SaidSoFar region all (message ++ added) behind
said_more region all left behind phrase message added so is adds = record { front = front; back = back }
  where
    front : (bytes : List ℕ) → AddEach region behind bytes → AddEach region all ((message ++ added) ++ bytes)
    front bytes each =
        subst (λ m. AddEach region all m) (sym (append_assoc message added bytes))
        (so.front (added ++ bytes) (subst (λ l. AddEach region l (added ++ bytes)) (sym is)
        (added, bytes, refl, adds, each)))

    back : (bytes : List ℕ) → AddEach region all bytes
        → (others : List ℕ) × (bytes ≡ (message ++ added) ++ others) × AddEach region behind others
    back bytes each =
        let found = so.back bytes each in
        let one = subst (λ l. AddEach region l found.0) is found.2 in
        let same : one.0 ≡ added = adds_one region phrase one.0 added one.3 adds in (
          one.1,
          found.1 ∙ ap (λ l. message ++ l) (one.2 ∙ ap (λ l. l ++ one.1) same)
              ∙ sym (append_assoc message added one.1),
          one.4,
        )

pub said_ends : (region : Region) (all left behind : List (List Token)) (phrase : List Token) (message : List ℕ)
    → SaidSoFar region all message left → left ≡ phrase ∷ behind
    → ((bytes : List ℕ) → AddsBytes region phrase bytes → length bytes ≤ 255 → ⊥) → (bytes : List ℕ)
    → AddEach region all bytes → length bytes ≤ 255 → ⊥
said_ends region all left behind phrase message so is none bytes each few =
    let found = so.back bytes each in
    let one = subst (λ l. AddEach region l found.0) is found.2 in
    let long = ap length found.1 ∙ length-append message found.0 in
    let part = ap length one.2 ∙ length-append one.0 one.1 in
    none one.0 one.3 (omega (arith, few, long, part))

pub said_full : (region : Region) (all left behind : List (List Token)) (phrase : List Token) (message added : List ℕ)
    → SaidSoFar region all message left → left ≡ phrase ∷ behind → AddsBytes region phrase added
    → 255 < length message + length added → (bytes : List ℕ) → AddEach region all bytes → length bytes ≤ 255 → ⊥
said_full region all left behind phrase message added so is adds full bytes each few =
    let found = so.back bytes each in
    let one = subst (λ l. AddEach region l found.0) is found.2 in
    let same : one.0 ≡ added = adds_one region phrase one.0 added one.3 adds in
    let long = ap length found.1 ∙ length-append message found.0 in
    let part = ap length one.2 ∙ length-append one.0 one.1 in
    let size = ap length same in
    omega (arith, few, long, part, size, full)

pub said_all : (region : Region) (all : List (List Token)) (message : List ℕ) → SaidSoFar region all message []
    → AddEach region all message
said_all region all message so = subst (λ m. AddEach region all m) (append-nil message) (so.front [] refl)
