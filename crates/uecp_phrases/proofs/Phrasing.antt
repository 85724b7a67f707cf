-- A phrase from its parts, and no phrase from none of them.
use Rattle.std.proofs.Common.{◌≡◌, ℕ, ◌+◌, ◌||◌, Bool, true, false, not, is_some, List, [], ◌∷◌, ◌++◌, map, codes, Some}
use Rattle.std.proofs.Common.{None}
use Rattle.std.proofs.Common.{Option}
use Rattle.std.proofs.Common.{◌≤◌, ◌<◌, ◌≢◌, length, refl, sym, ◌∙◌, ap, subst, inl, inr, eqb, if◌then◌else◌, arith}
use Rattle.std.proofs.lemmas.List.{length-map}
use Rattle.std.proofs.lemmas.Bool.{false≢true}
use Rattle.std.specs.Char.{to_ascii_lowercase}
use Rattle.uecp_text.specs.Words.{IsByte, decimal_in}
use Rattle.rds_text.specs.declared.programme_type.Region.{Region}
use Rattle.phrase_tokens.specs.Tokens.{Token, Word}
use Rattle.uecp_phrases.specs.declared.head.Head.{Head}
use Rattle.uecp_phrases.specs.declared.head.Head.TheVariants as head
use Rattle.uecp_phrases.specs.Phrases.{IsSet, set_said, service_said, IsInSet, IsForService, head_word, IsHead, Tells}
use Rattle.uecp_phrases.specs.Phrases.{IsPhrase}
use Rattle.uecp_phrases.specs.Reading.{BeginWith, IsBefore, or_zero}
use Rattle.uecp_phrases.specs.Expecting.{acts_somewhere}
use Rattle.uecp_phrases.proofs.RawWords.{same_byte}

-- ---- Heads are told apart by the sum of their letters.

abbrev mark : List ℕ → ℕ
mark [] = 0
mark (b ∷ w) = b + mark w

abbrev marked : ℕ → Head
marked n =
    if eqb n 217 then head.Pi
    else if eqb n 227 then head.Ps
    else if eqb n 230 then head.Rt
    else if eqb n 735 then head.Traffic
    else if eqb n 213 then head.Ta
    else if eqb n 228 then head.Tp
    else if eqb n 545 then head.Music
    else if eqb n 632 then head.Speech
    else if eqb n 224 then head.Ms
    else if eqb n 349 then head.Pty
    else if eqb n 332 then head.Set
    else if eqb n 557 then head.Group
    else if eqb n 303 then head.Ack
    else head.Raw

by_mark : (h : Head) → marked (mark (head_word h)) ≡ h
by_mark head.Pi = refl
by_mark head.Ps = refl
by_mark head.Rt = refl
by_mark head.Traffic = refl
by_mark head.Ta = refl
by_mark head.Tp = refl
by_mark head.Music = refl
by_mark head.Speech = refl
by_mark head.Ms = refl
by_mark head.Pty = refl
by_mark head.Set = refl
by_mark head.Group = refl
by_mark head.Ack = refl
by_mark head.Raw = refl

one_word : (a b : Head) → head_word a ≡ head_word b → a ≡ b
one_word a b same = sym (by_mark a) ∙ ap (λ w. marked (mark w)) same ∙ by_mark b

pub one_head : (t : Token) (a b : Head) → IsHead t a → IsHead t b → a ≡ b
one_head t a b (v, p, x) (w, q, y) =
    let e : Word v ≡ Word w = sym p ∙ q in
    let same : v ≡ w = cc in one_word a b (sym x ∙ ap (λ l. map to_ascii_lowercase l) same ∙ y)

pub not_no : (b : Bool) → not b ≡ false → b ≡ true
not_no true is = refl
not_no false is = sym is

-- what acts nowhere is no other word that acts somewhere
pub no_other_head : (t : Token) (h own : Head) (placed : Bool) → IsHead t own → acts_somewhere own ≡ false
    → placed ≡ true → IsHead t h → (placed ≡ true → acts_somewhere h ≡ true) → ⊥
no_other_head t h own placed named nowhere is other may =
    false≢true (sym nowhere ∙ ap acts_somewhere (one_head t own h named other) ∙ may is)

-- a word that is written is its own
small : (h : Head) → map to_ascii_lowercase (head_word h) ≡ head_word h
small head.Pi = refl
small head.Ps = refl
small head.Rt = refl
small head.Traffic = refl
small head.Ta = refl
small head.Tp = refl
small head.Music = refl
small head.Speech = refl
small head.Ms = refl
small head.Pty = refl
small head.Set = refl
small head.Group = refl
small head.Ack = refl
small head.Raw = refl

head_length : (h : Head) → length (head_word h) ≤ 7
head_length head.Pi = omega arith
head_length head.Ps = omega arith
head_length head.Rt = omega arith
head_length head.Traffic = omega arith
head_length head.Ta = omega arith
head_length head.Tp = omega arith
head_length head.Music = omega arith
head_length head.Speech = omega arith
head_length head.Ms = omega arith
head_length head.Pty = omega arith
head_length head.Set = omega arith
head_length head.Group = omega arith
head_length head.Ack = omega arith
head_length head.Raw = omega arith

pub long_no_head : (w : List ℕ) (h : Head) → 7 < length w → map to_ascii_lowercase w ≢ head_word h
long_no_head w h long is =
    let few = head_length h in
    let same = length-map w to_ascii_lowercase in
    let size = ap length is in omega (arith, long, few, same, size)

pub own_head : (h : Head) → IsHead (Word (head_word h)) h
own_head h = (head_word h, refl, small h)

-- no head is one of the words that name a place
other_mark : (h : Head) → (eqb (mark (head_word h)) 215 ≡ false) × (eqb (mark (head_word h)) 327 ≡ false)
other_mark head.Pi = (refl, refl)
other_mark head.Ps = (refl, refl)
other_mark head.Rt = (refl, refl)
other_mark head.Traffic = (refl, refl)
other_mark head.Ta = (refl, refl)
other_mark head.Tp = (refl, refl)
other_mark head.Music = (refl, refl)
other_mark head.Speech = (refl, refl)
other_mark head.Ms = (refl, refl)
other_mark head.Pty = (refl, refl)
other_mark head.Set = (refl, refl)
other_mark head.Group = (refl, refl)
other_mark head.Ack = (refl, refl)
other_mark head.Raw = (refl, refl)

pub no_in : (t : Token) (h : Head) → IsHead t h → t ≡ Word (codes "in") → ⊥
no_in t h (w, p, x) is =
    let e : Word w ≡ Word (codes "in") = sym p ∙ is in
    let word : w ≡ codes "in" = cc in
    let own : head_word h ≡ codes "in" = sym x ∙ ap (λ l. map to_ascii_lowercase l) word in
    false≢true (sym (other_mark h).0 ∙ ap (λ w. eqb (mark w) 215) own)

pub no_for : (t : Token) (h : Head) → IsHead t h → t ≡ Word (codes "for") → ⊥
no_for t h (w, p, x) is =
    let e : Word w ≡ Word (codes "for") = sym p ∙ is in
    let word : w ≡ codes "for" = cc in
    let own : head_word h ≡ codes "for" = sym x ∙ ap (λ l. map to_ascii_lowercase l) word in
    false≢true (sym (other_mark h).1 ∙ ap (λ w. eqb (mark w) 327) own)

-- ---- A word names one set.

all_no_number : decimal_in 0xFD (codes "all") ≡ None
unfolding decimal_in
all_no_number = refl

others_no_number : decimal_in 0xFD (codes "others") ≡ None
unfolding decimal_in
others_no_number = refl

all_is_none : (word : List ℕ) (n : ℕ) → word ≡ codes "all" → decimal_in 0xFD word ≡ Some n → ⊥
all_is_none word n is number =
    let e : None ≡ Some n = sym all_no_number ∙ ap (λ w. decimal_in 0xFD w) (sym is) ∙ number in cc e

others_is_none : (word : List ℕ) (n : ℕ) → word ≡ codes "others" → decimal_in 0xFD word ≡ Some n → ⊥
others_is_none word n is number =
    let e : None ≡ Some n = sym others_no_number ∙ ap (λ w. decimal_in 0xFD w) (sym is) ∙ number in cc e

pub same_set : (word : List ℕ) (a b : ℕ) → IsSet word a → IsSet word b → a ≡ b
same_set word a b (inl (p, x)) (inl (q, y)) = x ∙ sym y
same_set word a b (inl (p, x)) (inr (inl (q, y))) =
    let e : codes "all" ≡ codes "others" = sym p ∙ q in absurd (cc e)
same_set word a b (inl (p, x)) (inr (inr q)) = absurd (all_is_none word b p q)
same_set word a b (inr (inl (p, x))) (inl (q, y)) =
    let e : codes "others" ≡ codes "all" = sym p ∙ q in absurd (cc e)
same_set word a b (inr (inl (p, x))) (inr (inl (q, y))) = x ∙ sym y
same_set word a b (inr (inl (p, x))) (inr (inr q)) = absurd (others_is_none word b p q)
same_set word a b (inr (inr p)) (inl (q, y)) = absurd (all_is_none word a q p)
same_set word a b (inr (inr p)) (inr (inl (q, y))) = absurd (others_is_none word a q p)
same_set word a b (inr (inr p)) (inr (inr q)) = let e : Some a ≡ Some b = sym p ∙ q in cc

-- ---- Where a phrase acts.

-- what stands behind the set
abbrev pub behind_set : Option (List ℕ) → Token → List Token → List Token
behind_set service t rest = service_said service ++ (t ∷ rest)

pub no_set_behind : (service : Option (List ℕ)) (t : Token) (h : Head) (rest : List Token) → IsHead t h
    → BeginWith (codes "in") (behind_set service t rest) → ⊥
no_set_behind None t h rest named (more, e) = let is : t ≡ Word (codes "in") = cc in no_in t h named is
no_set_behind (Some s) t h rest named (more, e) = cc e

pub no_service_behind : (t : Token) (h : Head) (rest : List Token) → IsHead t h
    → BeginWith (codes "for") (t ∷ rest) → ⊥
no_service_behind t h rest named (more, e) = let is : t ≡ Word (codes "for") = cc in no_for t h named is

-- The set that was read is that of the phrase.
pub record SameSet (set : Option ℕ) (word : Option (List ℕ)) (dsn : ℕ) (left own : List Token) : Type 0 where
  pub left_is : left ≡ own
  pub said : is_some word ≡ is_some set
  pub number : dsn ≡ or_zero set

pub set_read : (tokens left : List Token) (set : Option ℕ) (word service : Option (List ℕ)) (dsn : ℕ) (t : Token)
    (h : Head) (rest : List Token) → IsHead t h → IsBefore (codes "in") IsSet tokens set left
    → tokens ≡ set_said word ++ behind_set service t rest → IsInSet word dsn
    → SameSet set word dsn left (behind_set service t rest)
set_read tokens left None None service dsn t h rest own (is, none) whole zero =
    record { left_is = is ∙ whole; said = refl; number = zero }
set_read tokens left None (Some w) service dsn t h rest own (is, none) whole named =
    absurd (none (Word w ∷ behind_set service t rest, whole))
set_read tokens left (Some n) None service dsn t h rest own (name, is, named) whole zero =
    absurd (no_set_behind service t h rest own (Word name ∷ left, sym whole ∙ is))
set_read tokens left (Some n) (Some w) service dsn t h rest own (name, is, named) whole meant =
    let e : Word (codes "in") ∷ Word name ∷ left ≡ Word (codes "in") ∷ Word w ∷ behind_set service t rest =
    sym is ∙ whole in
    let word : name ≡ w = cc in
    record { left_is = cc; said = refl; number = same_set w dsn n meant (subst (λ x. IsSet x n) word named) }

pub service_read : (tokens left : List Token) (service : Option ℕ) (word : Option (List ℕ)) (psn : ℕ) (t : Token)
    (h : Head) (rest : List Token) → IsHead t h → IsBefore (codes "for") IsByte tokens service left
    → tokens ≡ behind_set word t rest → IsForService word psn → SameSet service word psn left (t ∷ rest)
service_read tokens left None None psn t h rest own (is, none) whole zero =
    record { left_is = is ∙ whole; said = refl; number = zero }
service_read tokens left None (Some w) psn t h rest own (is, none) whole named =
    absurd (none (Word w ∷ t ∷ rest, whole))
service_read tokens left (Some n) None psn t h rest own (name, is, named) whole zero =
    absurd (no_service_behind t h rest own (Word name ∷ left, sym whole ∙ is))
service_read tokens left (Some n) (Some w) psn t h rest own (name, is, named) whole meant =
    let e : Word (codes "for") ∷ Word name ∷ left ≡ Word (codes "for") ∷ Word w ∷ t ∷ rest = sym is ∙ whole in
    let word : name ≡ w = cc in
    record { left_is = cc; said = refl; number = same_byte w name psn n (sym word) meant named }

-- ---- A phrase that was read.

pub phrase_read : (region : Region) (tokens mid left rest : List Token) (set service : Option ℕ) (t : Token) (h : Head)
    (bytes : List ℕ) → IsBefore (codes "in") IsSet tokens set mid → IsBefore (codes "for") IsByte mid service left
    → left ≡ t ∷ rest → IsHead t h
    → Tells region h (is_some set || is_some service) (or_zero set) (or_zero service) rest bytes
    → IsPhrase region tokens bytes
phrase_read region tokens mid left rest None None t h bytes (p, _) (q, _) is own told = record {
  set = None;
  service = None;
  first = t;
  head = h;
  rest = rest;
  dsn = 0;
  psn = 0;
  whole = sym p ∙ sym q ∙ is;
  named = own;
  in_set = refl;
  for_service = refl;
  told = told;
}
phrase_read region tokens mid left rest None (Some n) t h bytes (p, _) (name, q, byte) is own told = record {
  set = None;
  service = Some name;
  first = t;
  head = h;
  rest = rest;
  dsn = 0;
  psn = n;
  whole = sym p ∙ q ∙ ap (λ l. Word (codes "for") ∷ Word name ∷ l) is;
  named = own;
  in_set = refl;
  for_service = byte;
  told = told;
}
phrase_read region tokens mid left rest (Some n) None t h bytes (name, p, meant) (q, _) is own told = record {
  set = Some name;
  service = None;
  first = t;
  head = h;
  rest = rest;
  dsn = n;
  psn = 0;
  whole = p ∙ ap (λ l. Word (codes "in") ∷ Word name ∷ l) (sym q ∙ is);
  named = own;
  in_set = meant;
  for_service = refl;
  told = told;
}
phrase_read region tokens mid left rest (Some n) (Some m) t h bytes (name, p, meant) (other, q, byte) is own told =
    record {
      set = Some name;
      service = Some other;
      first = t;
      head = h;
      rest = rest;
      dsn = n;
      psn = m;
      whole = p ∙ ap (λ l. Word (codes "in") ∷ Word name ∷ l) (q ∙ ap (λ l. Word (codes "for") ∷ Word other ∷ l) is);
      named = own;
      in_set = meant;
      for_service = byte;
      told = told;
    }
