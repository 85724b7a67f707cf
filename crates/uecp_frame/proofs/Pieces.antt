-- Bytes may come in any pieces, whatever part is open.
use Rattle.std.proofs.Common.{◌≡◌, ◌||◌, ◌==◌, ℕ, false, cond, List, [], ◌∷◌, ◌++◌, refl, ◌∙◌, ap, sym, append_assoc}
use Rattle.std.proofs.Common.{Err, inl, inr}
use Rattle.std.specs.List.{list_any}
use Rattle.std.proofs.lemmas.Bool.{cases_Bool, or_left, or_right}
use Rattle.std.proofs.lemmas.List.{append-nil}
use Rattle.uecp_frame.specs.declared.fault.FrameFault.TheVariants.{Unended}
use Rattle.uecp_frame.specs.Stuffing.{is_delimiter}
use Rattle.uecp_frame.specs.Segment.{judged}
use Rattle.uecp_frame.specs.Findings.{before_delimiter, from_delimiter, found, OpenPart, Closed, Doomed, Part, progress}
use Rattle.uecp_frame.specs.Findings.{open_part}
use Rattle.uecp_frame.specs.Beyond.{resumed, closing, closing_at, found_beyond, prolonged, open_beyond, ComesAfter}
use Rattle.uecp_frame.specs.Beyond.{ComesInPieces, IsNewStart}
use Rattle.uecp_frame.proofs.Resumed.{resumed-append, rest_is_no_code}
use Rattle.uecp_frame.proofs.Delimiters.{HasNone, HasOne, any-append, from_delimiter-append, before_delimiter-append}
use Rattle.uecp_frame.proofs.Delimiters.{from_delimiter-more, before_delimiter-more, from_delimiter-none}
use Rattle.uecp_frame.proofs.Delimiters.{from_delimiter-one, open_bytes-none, open_bytes-append_one}
use Rattle.uecp_frame.proofs.Future.{progress_cases, progress-resumed, prolonged-nil, future, ending, beyond_is}
use Rattle.uecp_frame.proofs.Future.{open_beyond-one, open_beyond-none, found-append, found-nil, found-none}
use Rattle.uecp_frame.proofs.Future.{closed_ending, open_part-append}
use Rattle.uecp_frame.specs.Findings.{open_from}

-- ---- with no FE and no FF before
pub prolonged-append : (o : OpenPart) (x y : List ℕ) → prolonged o (x ++ y) ≡ prolonged (prolonged o x) y
prolonged-append Closed x y = refl
prolonged-append (Doomed fault) x y = refl
prolonged-append (Part r) [] y = refl
prolonged-append (Part r) (b ∷ x) [] =
    ap (λ z. progress (resumed r (b ∷ z))) (append-nil x) ∙ sym (prolonged-nil (progress (resumed r (b ∷ x))))
prolonged-append (Part r) (b ∷ x) (c ∷ y) =
    ap progress (resumed-append r (b ∷ x) (c ∷ y)) ∙ progress-resumed (resumed r (b ∷ x))
    (rest_is_no_code (r.rest ++ b ∷ x)) c y

pub closing-append : (o : OpenPart) (x z : List ℕ) (d : ℕ) → closing o (x ++ z) d ≡ closing (prolonged o x) z d
closing-append Closed x z d = refl
closing-append (Doomed fault) x z d = refl
closing-append (Part r) [] z d = refl
closing-append (Part r) (b ∷ x) z d =
    ap (λ y. cond (d == 255) (judged y) (Err Unended) ∷ []) (resumed-append r (b ∷ x) z)
    ∙ elim (progress_cases (resumed r (b ∷ x)) (rest_is_no_code (r.rest ++ b ∷ x))) [
      | inl doomed ↦ ap (λ f. cond (d == 255) f (Err Unended) ∷ []) (doomed.1.at_end z)
          ∙ sym (ap (λ o. closing o z d) doomed.1.now)
      | inr part ↦ sym (ap (λ o. closing o z d) part)
    ]

closing_at-append : (o : OpenPart) (x z rest : List ℕ) → closing_at o (x ++ z) rest ≡ closing_at (prolonged o x) z rest
closing_at-append o x z [] = refl
closing_at-append o x z (d ∷ more) = closing-append o x z d

ending-none : (o : OpenPart) (x : List ℕ) → HasNone x → ending o x ≡ []
ending-none o x h = ap (closing_at o (before_delimiter x)) (from_delimiter-none x h)

ending-append_none : (o : OpenPart) (x y : List ℕ) → HasNone x → ending o (x ++ y) ≡ ending (prolonged o x) y
ending-append_none o x y h =
    ap (λ z. closing_at o z (from_delimiter (x ++ y))) (before_delimiter-append x y h)
    ∙ ap (closing_at o (x ++ before_delimiter y)) (from_delimiter-append x y h)
    ∙ closing_at-append o x (before_delimiter y) (from_delimiter y)

closing_at-more : (o : OpenPart) (z rest y : List ℕ) (d : ℕ) (w : List ℕ) → rest ≡ d ∷ w
    → closing_at o z (rest ++ y) ≡ closing_at o z rest
closing_at-more o z [] y d w e = refl_absurd e
  where
    refl_absurd : [] ≡ d ∷ w → closing_at o z ([] ++ y) ≡ closing_at o z []
    refl_absurd e = cc
closing_at-more o z (b ∷ rest) y d w e = refl

ending-append_one : (o : OpenPart) (x y : List ℕ) → HasOne x → ending o (x ++ y) ≡ ending o x
ending-append_one o x y h =
    let r = from_delimiter-one x h in
    ap (λ z. closing_at o z (from_delimiter (x ++ y))) (before_delimiter-more x y h)
    ∙ ap (closing_at o (before_delimiter x)) (from_delimiter-more x y h)
    ∙ closing_at-more o (before_delimiter x) (from_delimiter x) y r.0 r.1 r.2

-- ---- from the start
pub found_beyond-closed : (x : List ℕ) → found_beyond Closed x ≡ found x
found_beyond-closed x = beyond_is Closed x ∙ ap (λ f. f ++ found x) (closed_ending x)

pub open_beyond-closed : (x : List ℕ) → open_beyond Closed x ≡ open_part x
open_beyond-closed x =
    elim (cases_Bool (list_any is_delimiter x)) [
      | inl one ↦ open_beyond-one Closed x one
      | inr none ↦ open_beyond-none Closed x none ∙ sym (ap open_from (open_bytes-none x none))
    ]

pub found_beyond-nil : (o : OpenPart) → found_beyond o [] ≡ []
found_beyond-nil o = beyond_is o [] ∙ found-nil

pub open_beyond-nil : (o : OpenPart) → open_beyond o [] ≡ o
open_beyond-nil o = open_beyond-none o [] refl ∙ prolonged-nil o

found-append_none : (x y : List ℕ) → HasNone x → found (x ++ y) ≡ found y
found-append_none x y h =
    found-append x y ∙ ap (λ g. g ++ future (open_part x) y) (found-none x h)
    ∙ ap (λ o. future (open_from o) y) (open_bytes-none x h) ∙ ap (λ e. e ++ found y) (closed_ending y)

-- ---- two pieces
pub found_beyond-append : (o : OpenPart) (x y : List ℕ)
    → found_beyond o (x ++ y) ≡ found_beyond o x ++ found_beyond (open_beyond o x) y
found_beyond-append o x y =
    beyond_is o (x ++ y) ∙ elim (cases_Bool (list_any is_delimiter x)) [
      | inl one ↦ ap (λ e. e ++ found (x ++ y)) (ending-append_one o x y one)
          ∙ ap (λ f. ending o x ++ f) (found-append x y)
          ∙ sym (append_assoc (ending o x) (found x) (future (open_part x) y))
          ∙ ap (λ f. f ++ future (open_part x) y) (sym (beyond_is o x))
          ∙ ap (λ f. found_beyond o x ++ f)
          (sym (ap (λ p. found_beyond p y) (open_beyond-one o x one) ∙ beyond_is (open_part x) y))
      | inr none ↦ ap (λ e. e ++ found (x ++ y)) (ending-append_none o x y none)
          ∙ ap (λ f. ending (prolonged o x) y ++ f) (found-append_none x y none)
          ∙ sym (beyond_is (prolonged o x) y)
          ∙ ap (λ p. found_beyond p y) (sym (open_beyond-none o x none))
          ∙ ap (λ f. f ++ found_beyond (open_beyond o x) y)
          (sym (beyond_is o x ∙ ap (λ e. e ++ found x) (ending-none o x none) ∙ found-none x none))
    ]

pub open_beyond-append : (o : OpenPart) (x y : List ℕ) → open_beyond o (x ++ y) ≡ open_beyond (open_beyond o x) y
open_beyond-append o x y =
    elim (cases_Bool (list_any is_delimiter y)) [
      | inl one ↦ open_beyond-one o (x ++ y) (any-append x y ∙ or_right _ _ one)
          ∙ ap open_from (open_bytes-append_one x y one) ∙ sym (open_beyond-one (open_beyond o x) y one)
      | inr none ↦ elim (cases_Bool (list_any is_delimiter x)) [
        | inl one ↦ open_beyond-one o (x ++ y) (any-append x y ∙ or_left _ _ one) ∙ open_part-append x y none
            ∙ sym (open_beyond-none (open_beyond o x) y none ∙ ap (λ p. prolonged p y) (open_beyond-one o x one))
        | inr neither ↦ open_beyond-none o (x ++ y) (any-append x y ∙ both neither none) ∙ prolonged-append o x y
            ∙ sym (open_beyond-none (open_beyond o x) y none ∙ ap (λ p. prolonged p y) (open_beyond-none o x neither))
      ]
    ]
  where
    both : list_any is_delimiter x ≡ false → list_any is_delimiter y ≡ false
        → (list_any is_delimiter x || list_any is_delimiter y) ≡ false
    both e f = rw (e, f)

-- ---- the laws
pub in_pieces_lem : (o : OpenPart) (x y : List ℕ) → ComesInPieces o x y
in_pieces_lem o x y = record { found = found_beyond-append o x y; left = open_beyond-append o x y }

pub new_start_lem : (o : OpenPart) (x : List ℕ) → IsNewStart o x
new_start_lem o x = record {
  nothing = found_beyond-nil o;
  stays = open_beyond-nil o;
  found = found_beyond-closed x;
  left = open_beyond-closed x;
}

pub comes_after_lem : (s x : List ℕ) → ComesAfter s x
comes_after_lem s x = record {
  found = found-append s x ∙ ap (λ f. found s ++ f) (sym (beyond_is (open_part s) x));
  left = sym (open_beyond-closed (s ++ x)) ∙ open_beyond-append Closed s x
      ∙ ap (λ o. open_beyond o x) (open_beyond-closed s);
}
