-- Frames one behind another, cut anywhere.
use Rattle.std.proofs.Common.{◌≡◌, ℕ, ◌+◌, ◌-◌, ◌≤◌, false, List, [], ◌∷◌, ◌++◌, length, take, drop}
use Rattle.std.proofs.Common.{Ok, refl, ap, sym, ◌∙◌, arith, inl, inr, append_assoc, take-append-drop}
use Rattle.std.proofs.Math.Seq.{take-append-add, drop-append-add}
use Rattle.std.proofs.lemmas.Bool.{cases_lt}
use Rattle.std.proofs.lemmas.List.{take_all, drop_all, take-append-le}
use Rattle.uecp_frame.specs.declared.frame.Frame.{Frame}
use Rattle.uecp_frame.specs.Frame.{spelling}
use Rattle.uecp_frame.specs.Findings.{Finding, OpenPart, Closed, has_frame}
use Rattle.uecp_frame.specs.Beyond.{found_beyond, open_beyond}
use Rattle.uecp_frame.proofs.Public.{in_pieces_lem, new_start_lem, always_heard_lem}
use Rattle.promises.proofs.Fronts.{frame_front}

-- ---- frames by their numbers
module _ (f : ℕ → Frame) where
  abbrev pub spelled : List ℕ → List ℕ
  spelled [] = []
  spelled (k ∷ ks) = spelling (f k) ++ spelled ks

  pub spelled-append : (xs ys : List ℕ) → spelled (xs ++ ys) ≡ spelled xs ++ spelled ys
  spelled-append [] ys = refl
  spelled-append (x ∷ xs) ys =
      ap (λ (z : List ℕ). spelling (f x) ++ z) (spelled-append xs ys)
      ∙ sym (append_assoc (spelling (f x)) (spelled xs) (spelled ys))

  -- so many bytes of them are some whole ones, and a part of the next
  pub record Cut (ks : List ℕ) (n : ℕ) : Type 0 where
    pub came : List ℕ
    pub rest : List ℕ
    pub split : ks ≡ came ++ rest
    pub part : List ℕ
    pub is : take n (spelled ks) ≡ spelled came ++ part
    pub left : part ++ drop n (spelled ks) ≡ spelled rest
    pub quiet : has_frame (found_beyond Closed part) ≡ false

  nothing_quiet : has_frame (found_beyond Closed []) ≡ false
  nothing_quiet = ap has_frame (new_start_lem Closed []).nothing

  module _ (small : (k : ℕ) → length (f k).message ≤ 255) where
    pub cut : (ks : List ℕ) (n : ℕ) → Cut ks n
    cut [] n = record {
      came = [];
      rest = [];
      split = refl;
      part = [];
      is = take_all n [] (omega arith);
      left = drop_all n [] (omega arith);
      quiet = nothing_quiet;
    }
    cut (k ∷ ks) n = elim (cases_lt n (length (spelling (f k)))) [
      | inl short ↦ record {
        came = [];
        rest = k ∷ ks;
        split = refl;
        part = take n (spelling (f k));
        is = take-append-le n (spelling (f k)) (spelled ks) (omega (arith, short));
        left = ap (λ (z : List ℕ). z ++ drop n (spelled (k ∷ ks)))
            (sym (take-append-le n (spelling (f k)) (spelled ks) (omega (arith, short))))
            ∙ take-append-drop n (spelled (k ∷ ks));
        quiet = frame_front Closed (f k) n (small k) short;
      }
      | inr whole ↦ goes_on (n - length (spelling (f k)))
          (let split : n ≡ length (spelling (f k)) + (n - length (spelling (f k))) = omega (arith, whole) in split)
          (cut ks (n - length (spelling (f k))))
    ]
      where
        goes_on : (m : ℕ) → n ≡ length (spelling (f k)) + m → Cut ks m → Cut (k ∷ ks) n
        goes_on m split later = record {
          came = k ∷ later.came;
          rest = later.rest;
          split = ap (λ (l : List ℕ). k ∷ l) later.split;
          part = later.part;
          is = ap (λ (i : ℕ). take i (spelled (k ∷ ks))) split
              ∙ take-append-add (spelling (f k)) (spelled ks) m
              ∙ ap (λ (z : List ℕ). spelling (f k) ++ z) later.is
              ∙ sym (append_assoc (spelling (f k)) (spelled later.came) later.part);
          left = ap (λ (i : ℕ). later.part ++ drop i (spelled (k ∷ ks))) split
              ∙ ap (λ (z : List ℕ). later.part ++ z) (drop-append-add (spelling (f k)) (spelled ks) m)
              ∙ later.left;
          quiet = later.quiet;
        }

    -- whole ones are found, and leave nothing open
    pub whole_found : (k : ℕ) → found_beyond Closed (spelling (f k)) ≡ Ok (f k) ∷ []
    whole_found k = (always_heard_lem Closed (f k) (small k)).found

    pub whole_left : (k : ℕ) → open_beyond Closed (spelling (f k)) ≡ Closed
    whole_left k = (always_heard_lem Closed (f k) (small k)).left

    abbrev pub as_found : List ℕ → List Finding
    as_found [] = []
    as_found (k ∷ ks) = Ok (f k) ∷ as_found ks

    pub all_found : (ks : List ℕ) (part : List ℕ)
        → found_beyond Closed (spelled ks ++ part) ≡ as_found ks ++ found_beyond Closed part
    all_found [] part = refl
    all_found (k ∷ ks) part =
        ap (found_beyond Closed) (append_assoc (spelling (f k)) (spelled ks) part)
        ∙ (in_pieces_lem Closed (spelling (f k)) (spelled ks ++ part)).found
        ∙ ap (λ (fs : List Finding). fs ++ found_beyond (open_beyond Closed (spelling (f k))) (spelled ks ++ part))
        (whole_found k)
        ∙ ap (λ (o : OpenPart). Ok (f k) ∷ found_beyond o (spelled ks ++ part)) (whole_left k)
        ∙ ap (λ (fs : List Finding). Ok (f k) ∷ fs) (all_found ks part)

    pub all_left : (ks : List ℕ) (part : List ℕ)
        → open_beyond Closed (spelled ks ++ part) ≡ open_beyond Closed part
    all_left [] part = refl
    all_left (k ∷ ks) part =
        ap (open_beyond Closed) (append_assoc (spelling (f k)) (spelled ks) part)
        ∙ (in_pieces_lem Closed (spelling (f k)) (spelled ks ++ part)).left
        ∙ ap (λ (o : OpenPart). open_beyond o (spelled ks ++ part)) (whole_left k)
        ∙ all_left ks part
