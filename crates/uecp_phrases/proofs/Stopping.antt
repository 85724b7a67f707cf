-- Where tokens stop to be what is read, part by part.
use Rattle.std.proofs.Common.{◌≡◌, ℕ, List, [], ◌∷◌, ◌++◌, length, codes}
use Rattle.std.proofs.Common.{refl, sym, ◌∙◌, ap, subst, append_assoc, inl, inr}
use Rattle.std.proofs.Common.{Result, Ok, Err, IfOk, IfErr}
use Rattle.std.proofs.lemmas.List.{append-nil, length-map}
use Rattle.phrase_tokens.specs.declared.token.Token.{Token as Held}
use Rattle.phrase_tokens.specs.View.{token_of, tokens_of}
use Rattle.uecp_phrases.proofs.Alone.{no_items}
use Rattle.rds_text.specs.declared.programme_type.Region.{Region}
use Rattle.phrase_tokens.specs.Tokens.{Token, Word}
use Rattle.uecp_phrases.specs.declared.expectation.Expectation.{Expectation}
use Rattle.uecp_phrases.specs.declared.expectation.Expectation.TheVariants as what
use Rattle.uecp_phrases.specs.Expecting.{MayStand, MayEnd, MayNotStand, IsNext, IsStop}
use Rattle.uecp_phrases.specs.Stops.{IsNotFirst, IsStuck, IsAddOrEnd, IsEnd}

-- Two ways to say what is read.
pub record Same (P Q : List Token → Type 0) : Type 0 where
  pub to : (l : List Token) → P l → Q l
  pub from : (l : List Token) → Q l → P l

pub same_stop : (region : Region) (P Q : List Token → Type 0) (tokens : List Token) (w : Expectation) (left : ℕ)
    → Same P Q → IsStop region Q tokens w left → IsStop region P tokens w left
same_stop region P Q tokens w left same s = record {
  before = s.before;
  rest = s.rest;
  whole = s.whole;
  counted = s.counted;
  next = record {
    only = λ t more r. s.next.only t more (same.to (s.before ++ t ∷ more) r);
    may = λ t m. let found = s.next.may t m in (found.0, same.from (s.before ++ t ∷ found.0) found.1);
    ends = λ r. s.next.ends (same.to s.before r);
    may_end = λ m. same.from s.before (s.next.may_end m);
  };
  none = s.none;
}

-- What stops behind tokens that stand in front stops there.
pub stop_behind : (region : Region) (P : List Token → Type 0) (front tokens rest : List Token) (w : Expectation)
    (left : ℕ) → tokens ≡ front ++ rest → IsStop region (λ l. P (front ++ l)) rest w left
    → IsStop region P tokens w left
stop_behind region P front tokens rest w left is s = record {
  before = front ++ s.before;
  rest = s.rest;
  whole = is ∙ ap (λ l. front ++ l) s.whole ∙ sym (append_assoc front s.before s.rest);
  counted = s.counted;
  next = record {
    only = λ t more r. s.next.only t more (subst P (append_assoc front s.before (t ∷ more)) r);
    may = λ t m. let found = s.next.may t m in
        (found.0, subst P (sym (append_assoc front s.before (t ∷ found.0))) found.1);
    ends = s.next.ends;
    may_end = s.next.may_end;
  };
  none = s.none;
}

-- What stops behind the first token, said another way.
pub behind_stop : (region : Region) (P Q : List Token → Type 0) (t : Token) (tokens rest : List Token) (w : Expectation)
    (left : ℕ) → tokens ≡ t ∷ rest → Same (λ l. P (t ∷ l)) Q → IsStop region Q rest w left
    → IsStop region P tokens w left
behind_stop region P Q t tokens rest w left is same stop =
    stop_behind region P (t ∷ []) tokens rest w left is
    (same_stop region (λ l. P (t ∷ l)) Q rest w left same stop)

not_first : (region : Region) (wanted : Expectation) (tokens : List Token) → (MayEnd wanted → ⊥)
    → IsNotFirst region wanted tokens → MayNotStand region wanted tokens
not_first region wanted [] closed none = closed
not_first region wanted (t ∷ rest) closed none = none

pub stuck_stop : (region : Region) (P : List Token → Type 0) (wanted : Expectation) (tokens : List Token)
    (w : Expectation) (left : ℕ) → (MayEnd wanted → ⊥) → IsNext region P [] wanted
    → IsStuck region wanted tokens w left → IsStop region P tokens w left
stuck_stop region P wanted tokens w left closed next s =
    subst (λ x. IsStop region P tokens x left) (sym s.what_is)
    (record {
      before = [];
      rest = tokens;
      whole = refl;
      counted = s.counted;
      next = next;
      none = not_first region wanted tokens closed s.none;
    })

-- What stops is none.
pub stops_none : (region : Region) (P : List Token → Type 0) (tokens : List Token) (w : Expectation) (left : ℕ)
    → IsStop region P tokens w left → P tokens → ⊥
stops_none region P tokens w left s p =
    by s.rest s.none (subst P s.whole p)
  where
    by : (rest : List Token) → MayNotStand region w rest → P (s.before ++ rest) → ⊥
    by [] none q = none (s.next.ends (subst P (append-nil s.before) q))
    by (t ∷ rest) none q = none (s.next.only t rest q)

-- What stands in front may not, and is wanted there.
pub stop_here : (region : Region) (P : List Token → Type 0) (tokens rest : List Token) (first : Token)
    (wanted w : Expectation) (left : ℕ) → tokens ≡ first ∷ rest → w ≡ wanted → left ≡ length tokens
    → IsNext region P [] wanted → (MayStand region wanted first → ⊥) → IsStop region P tokens w left
stop_here region P tokens rest first wanted w left is what_is counted next none =
    subst (λ x. IsStop region P tokens x left) (sym what_is)
    (record {
      before = [];
      rest = first ∷ rest;
      whole = is;
      counted = counted ∙ ap length is;
      next = next;
      none = none;
    })

-- Tokens are counted as the code counts them.
pub counted : (tokens : List Held) (left : ℕ) → left ≡ length tokens → left ≡ length (tokens_of tokens)
counted tokens left is = is ∙ sym (length-map tokens token_of)

-- Nothing stands in front, or another token.
pub stuck_at_end : (region : Region) (wanted : Expectation) (tokens : List Held) (w : Expectation) (left : ℕ)
    → w ≡ wanted → left ≡ length tokens → length tokens ≡ 0 → IsStuck region wanted (tokens_of tokens) w left
stuck_at_end region wanted tokens w left what_is left_is none = record {
  what_is = what_is;
  counted = counted tokens left left_is;
  none = subst (λ l. IsNotFirst region wanted l) (sym (no_items tokens none)) tt;
}

pub stuck_at : (region : Region) (wanted : Expectation) (tokens : List Held) (rest : List Token) (first : Token)
    (w : Expectation) (left : ℕ) → tokens_of tokens ≡ first ∷ rest → w ≡ wanted → left ≡ length tokens
    → (MayStand region wanted first → ⊥) → IsStuck region wanted (tokens_of tokens) w left
stuck_at region wanted tokens rest first w left is what_is left_is none = record {
  what_is = what_is;
  counted = counted tokens left left_is;
  none = subst (λ l. IsNotFirst region wanted l) (sym is) none;
}

-- What follows of an answer.
pub if_ok : {A B : Type 0} (r : Result A B) (P Q : A → Type 0) → ((a : A) → P a → Q a) → IfOk r P → IfOk r Q
if_ok (Ok a) P Q f p = f a p
if_ok (Err b) P Q f p = p

pub if_err : {A B : Type 0} (r : Result A B) (P Q : B → Type 0) → ((b : B) → P b → Q b) → IfErr r P → IfErr r Q
if_err (Ok a) P Q f p = p
if_err (Err b) P Q f p = f b p

-- An answer that is passed on.
pub err_is : {A B : Type 0} (r : Result A B) (b : B) (P : B → Type 0) → r ≡ Err b → P b → IfErr r P
err_is (Ok a) b P is p = let e : Ok a ≡ Err b = is in absurd (cc e)
err_is (Err own) b P is p = let e : own ≡ b = cc is in subst P (sym e) p

-- ---- The end.

pub end_next : (region : Region) → IsNext region IsEnd [] what.End
end_next region = record {
  only = λ t more r. let e : t ∷ more ≡ [] = r in cc e;
  may = λ t m. absurd m;
  ends = λ r. tt;
  may_end = λ m. refl;
}

pub added_next : (region : Region) → IsNext region IsAddOrEnd [] what.Added
added_next region = record {
  only = only;
  may = λ t m. ([], inr (ap (λ x. x ∷ []) m));
  ends = λ r. tt;
  may_end = λ m. inl refl;
}
  where
    only : (t : Token) (more : List Token) → IsAddOrEnd (t ∷ more) → MayStand region what.Added t
    only t more (inl e) = absurd (cc e)
    only t more (inr e) = cc

pub added_behind : (t : Token) → t ≡ Word (codes "add") → Same (λ l. IsAddOrEnd (t ∷ l)) IsEnd
added_behind t is = record { to = to; from = λ l e. inr cc }
  where
    to : (l : List Token) → IsAddOrEnd (t ∷ l) → IsEnd l
    to l (inl e) = absurd (cc e)
    to l (inr e) = cc
