-- What is saved for one part of a stream after another.
use Rattle.std.proofs.Common.{◌≡◌, ℕ, ◌+◌, ◌*◌, ◌≤◌, ◌==◌, Bool, true, false, not, List, [], ◌∷◌, ◌++◌, length, refl}
use Rattle.std.proofs.Common.{◌∙◌}
use Rattle.std.proofs.Common.{ap, sym, subst, arith, mul-add, length-append, inl, inr, ◌<◌}
use Rattle.std.proofs.lemmas.Bool.{cases_lt}
use Rattle.std.proofs.lemmas.List.{append-nil}
use Rattle.std.proofs.lemmas.List.Concat.{flat_map-append}
use Rattle.uecp_frame.specs.Beyond.{found_beyond, open_beyond}
use Rattle.uecp_frame.proofs.Public.{in_pieces_lem}
use Rattle.uecp_encoder.specs.Target.{Step}
use Rattle.uecp_encoder.specs.State.{EncoderState, fed}
use Rattle.uecp_encoder.specs.Answering.{responses_to}
use Rattle.uecp_encoder.specs.Laws.{joined}
use Rattle.uecp_encoder.specs.Keeping.{Kept, kept_of}
use Rattle.uecp_encoder.specs.ServingWith.{fresh_among, SavesOnce, SavesEach, SavesFor}
use Rattle.uecp_encoder.specs.Batches.{IsKeptIf}
use Rattle.uecp_encoder.proofs.InPieces.{fed-part, in_pieces_of_encoder}
use Rattle.uecp_encoder.proofs.InParts.{fed_none}

-- how many things two parts find
pub found_on : {V : Type 0} (step : Step V) (e e1 : EncoderState V) (s more : List ℕ) → e1 ≡ fed step e s →
    length (found_beyond e.part (s ++ more)) ≡ length (found_beyond e.part s) + length (found_beyond e1.part more)
found_on step e e1 s more state =
    ap length (in_pieces_lem e.part s more).found
    ∙ length-append (found_beyond e.part s) (found_beyond (open_beyond e.part s) more)
    ∙ ap (λ o. length (found_beyond e.part s) + length (found_beyond o more))
    (sym (ap (λ (d : EncoderState _). d.part) state ∙ fed-part step e s))

module _ {V K : Type 0} (most : ℕ) (saves : K → Kept V → K → Type 0) (step : Step V) where
  each_on : (e : EncoderState V) (xs ys : List (List ℕ)) (k k1 k2 : K) → SavesEach saves step e xs k k1
      → SavesEach saves step (fed step e (joined xs)) ys k1 k2 → SavesEach saves step e (xs ++ ys) k k2
  each_on e [] ys k k1 k2 first second =
      subst (λ (j : K). SavesEach saves step e ys j k2) first
      (subst (λ d. SavesEach saves step d ys k1 k2) (fed_none step e) second)
  each_on e (x ∷ xs) ys k k1 k2 (between, once, rest) second = (
    between,
    once,
    each_on (fed step e x) xs ys between k1 k2 rest
        (subst (λ d. SavesEach saves step d ys k1 k2) (in_pieces_of_encoder step e x (joined xs)).state second),
  )

  pub saves_nothing : (e : EncoderState V) (k : K) → SavesFor most saves step e [] 0 k k
  saves_nothing e k = record { parts = []; whole = refl; saved = refl; few = omega arith }

  pub saves_on : (e e1 : EncoderState V) (s more : List ℕ) (r r' : ℕ) (k k1 k2 : K) → e1 ≡ fed step e s
      → SavesFor most saves step e s r k k1 → SavesFor most saves step e1 more r' k1 k2
      → SavesFor most saves step e (s ++ more) (r + r') k k2
  saves_on e e1 s more r r' k k1 k2 state first second =
      let at : e1 ≡ fed step e (joined first.parts) = state ∙ ap (fed step e) (sym first.whole) in
      record {
        parts = first.parts ++ second.parts;
        whole = flat_map-append (λ piece. piece) first.parts second.parts ∙ ap (λ x. x ++ joined second.parts)
            first.whole ∙ ap (λ x. s ++ x) second.whole;
        saved = each_on e first.parts second.parts k k1 k2 first.saved
            (subst (λ d. SavesEach saves step d second.parts k1 k2) at second.saved);
        few = omega (
          arith,
          ap (λ n. most * n) (length-append first.parts second.parts),
          mul-add most (length first.parts) (length second.parts),
          mul-add most r r',
          found_on step e e1 s more state,
          first.few,
          second.few,
        );
      }

  -- a read more
  pub saves_more : (e : EncoderState V) (s : List ℕ) (r : ℕ) (k k' : K) → SavesFor most saves step e s r k k'
      → SavesFor most saves step e s (r + 1) k k'
  saves_more e s r k k' saved = record {
    parts = saved.parts;
    whole = saved.whole;
    saved = saved.saved;
    few = omega (arith, mul-add most r 1, saved.few);
  }

  -- one read at most
  pub saves_most : (e : EncoderState V) (s : List ℕ) (r : ℕ) (k k' : K) → r ≤ 1 → SavesFor most saves step e s r k k'
      → SavesFor most saves step e s 1 k k'
  saves_most e s r k k' few saved = elim (cases_lt r 1) [
    | inl none ↦
        subst (λ n. SavesFor most saves step e s (n + 1) k k') (let q : r ≡ 0 = omega (arith, none) in q)
        (saves_more e s r k k' saved)
    | inr one ↦ subst (λ n. SavesFor most saves step e s n k k') (let q : r ≡ 1 = omega (arith, one, few) in q) saved
  ]

  -- ---- one part
  once_if : (e : EncoderState V) (none : Bool) (leaves : K → Kept V → Type 0) (is_clean : K → Type 0) (k k' : K)
      → IsKeptIf leaves is_clean saves e (not none) k k' → SavesOnce saves none (kept_of e) k k'
  once_if e true leaves is_clean k k' kept = kept
  once_if e false leaves is_clean k k' kept = kept.1

  pub saves_part : (e e' : EncoderState V) (bytes : List ℕ) (due : Bool) (r : ℕ) (leaves : K → Kept V → Type 0)
      (is_clean : K → Type 0) (k k' : K) → e' ≡ fed step e bytes
      → due ≡ not (fresh_among (responses_to step e bytes) == 0) → IsKeptIf leaves is_clean saves e' due k k'
      → most ≤ most * r + length (found_beyond e.part bytes) → SavesFor most saves step e bytes r k k'
  saves_part e e' bytes due r leaves is_clean k k' state due_is kept few =
      let none : Bool = fresh_among (responses_to step e bytes) == 0 in
      record {
        parts = bytes ∷ [];
        whole = append-nil bytes;
        saved = (
          k',
          subst (λ d. SavesOnce saves none (kept_of d) k k') state
              (once_if e' none leaves is_clean k k'
              (subst (λ d. IsKeptIf leaves is_clean saves e' d k k') due_is kept)),
          refl,
        );
        few = omega (arith, few);
      }
