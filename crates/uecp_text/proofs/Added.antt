-- What was added to an output, as far as there was memory.
use Rattle.std.proofs.Common.{◌≡◌, ℕ, Bool, true, false, List, [], ◌++◌, refl, sym, ap, ◌∙◌, append_assoc, append-nil}
use Rattle.std.proofs.lemmas.Bool.{false≢true}
use Rattle.std.specs.Bool.{IsTrue}
use Rattle.uecp_text.specs.Written.{Kept, AddsFirst, Adds}

-- one part after another
pub first_then : (a b c : Kept) (x y : List ℕ) → AddsFirst a b x → AddsFirst b c y → AddsFirst a c (x ++ y)
first_then a b c x y p q = by_whole b.is_whole refl
  where
    by_whole : (w : Bool) → b.is_whole ≡ w → AddsFirst a c (x ++ y)
    by_whole true w = record {
      part = p.part ++ q.part;
      rest = q.rest;
      split = ap (λ l. l ++ y) (p.split ∙ ap (λ l. p.part ++ l) (p.whole w).1 ∙ append-nil p.part)
          ∙ ap (λ l. p.part ++ l) q.split ∙ sym (append_assoc p.part q.part q.rest);
      added = q.added ∙ ap (λ l. l ++ q.part) p.added ∙ append_assoc a.bytes p.part q.part;
      whole = λ t. ((p.whole w).0, (q.whole t).1);
      broken = λ f. absurd (false≢true (sym f ∙ (p.whole w).0));
    }
    by_whole false w = record {
      part = p.part;
      rest = p.rest ++ y;
      split = ap (λ l. l ++ y) p.split ∙ append_assoc p.part p.rest y;
      added = q.added ∙ ap (λ l. b.bytes ++ l) (q.broken w) ∙ append-nil b.bytes ∙ p.added;
      whole = λ t. absurd (false≢true (sym w ∙ (q.whole t).0));
      broken = p.broken;
    }

-- where the output is whole, all was added
pub first_all : (a b : Kept) (x : List ℕ) → AddsFirst a b x → Adds a b x
first_all a b x p = λ t. (
  (p.whole t).0,
  p.added ∙ ap (λ l. a.bytes ++ l)
      (sym (append-nil p.part) ∙ ap (λ l. p.part ++ l) (sym (p.whole t).1) ∙ sym p.split),
)

-- all of it was added
pub first_whole : (a b : Kept) (x : List ℕ) → IsTrue a.is_whole → b.bytes ≡ a.bytes ++ x → AddsFirst a b x
first_whole a b x whole added = record {
  part = x;
  rest = [];
  split = sym (append-nil x);
  added = added;
  whole = λ t. (whole, refl);
  broken = λ f. absurd (false≢true (sym f ∙ whole));
}

-- nothing was added
pub first_none : (a b : Kept) (x : List ℕ) → b.is_whole ≡ false → b.bytes ≡ a.bytes → AddsFirst a b x
first_none a b x broken same = record {
  part = [];
  rest = x;
  split = refl;
  added = same ∙ sym (append-nil a.bytes);
  whole = λ t. absurd (false≢true (sym broken ∙ t));
  broken = λ f. refl;
}

-- either, by whether the output is whole afterwards
pub first_by : (a b : Kept) (x : List ℕ) → IsTrue a.is_whole → (IsTrue b.is_whole → b.bytes ≡ a.bytes ++ x)
    → (b.is_whole ≡ false → b.bytes ≡ a.bytes) → AddsFirst a b x
first_by a b x whole all none = by_whole b.is_whole refl
  where
    by_whole : (w : Bool) → b.is_whole ≡ w → AddsFirst a b x
    by_whole true w = first_whole a b x whole (all w)
    by_whole false w = first_none a b x w (none w)

-- nothing was added to an output that was not whole
pub first_still : (a : Kept) (x : List ℕ) → a.is_whole ≡ false → AddsFirst a a x
first_still a x broken = first_none a a x broken refl
