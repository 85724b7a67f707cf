-- What is sent, piece by piece.
use Rattle.std.proofs.Common.{◌≡◌, ◌≤◌, ◌+◌, ◌-◌, ℕ, zero, suc, List, [], ◌∷◌, ◌++◌, refl, ◌∙◌, ap, sym}
use Rattle.std.proofs.Common.{arith}
use Rattle.std.proofs.Common.{map, flat_map, length, append_assoc, append-nil, bit_xor, add-one, add-zero}
use Rattle.std.proofs.lemmas.List.Concat.{flat_map-append}
use Rattle.std.proofs.lemmas.List.{map-append}
use Rattle.std.specs.List.{range_with_len}
use Rattle.uecp_frame.specs.Check.{check}
use Rattle.uecp_frame.specs.Frame.{high_first, body, plain_bytes, spelling}
use Rattle.conformance.specs.declared.case.To.{To}
use Rattle.conformance.specs.declared.case.Edit.TheVariants.{Whole, Length, Check, Byte, Cut}
use Rattle.conformance.specs.Sending.{address_to, frame_to, body_saying, enclosed, replaced, begun}
use Rattle.conformance.specs.Sending.{frame_sent}

-- ---- Rows of counters.

pub row_more : (a n : ℕ) → range_with_len a (n + 1) ≡ range_with_len a n ++ (a + n) ∷ []
row_more a zero = ap (λ k. k ∷ []) (sym (add-zero a))
row_more a (suc n) =
    ap (range_with_len a) (add-one (suc n))
    ∙ ap (λ l. a ∷ l) (ap (range_with_len (a + 1)) (sym (add-one n)) ∙ row_more (a + 1) n
    ∙ ap (λ k. range_with_len (a + 1) n ++ k ∷ []) (let e : a + 1 + n ≡ a + suc n = omega arith in e))

-- the counters from the first up to before this one
pub counters_more : (first counter : ℕ) → first ≤ counter
    → range_with_len first (counter + 1 - first) ≡ range_with_len first (counter - first) ++ counter ∷ []
counters_more first counter from =
    ap (range_with_len first) (let e : counter + 1 - first ≡ counter - first + 1 = omega arith in e)
    ∙ row_more first (counter - first)
    ∙ ap (λ k. range_with_len first (counter - first) ++ k ∷ [])
    (let e : first + (counter - first) ≡ counter = omega arith in e)

pub row_put : {X : Type 0} (f : ℕ → List X) (first counter : ℕ) (all before now : List X) → first ≤ counter
    → all ≡ before ++ flat_map f (range_with_len first (counter - first)) → now ≡ all ++ f counter
    → now ≡ before ++ flat_map f (range_with_len first (counter + 1 - first))
row_put f first counter all before now from so_far put =
    put ∙ ap (λ l. l ++ f counter) so_far
    ∙ append_assoc before (flat_map f (range_with_len first (counter - first))) (f counter)
    ∙ ap (λ l. before ++ l) (ap (λ l. flat_map f (range_with_len first (counter - first)) ++ l)
    (sym (append-nil (f counter)))
    ∙ sym (flat_map-append f (range_with_len first (counter - first)) (counter ∷ []))
    ∙ ap (flat_map f) (sym (counters_more first counter from)))

pub row_mapped : {X : Type 0} (f : ℕ → X) (first counter : ℕ) (all before now : List X) → first ≤ counter
    → all ≡ before ++ map f (range_with_len first (counter - first)) → now ≡ all ++ f counter ∷ []
    → now ≡ before ++ map f (range_with_len first (counter + 1 - first))
row_mapped f first counter all before now from so_far put =
    put ∙ ap (λ l. l ++ f counter ∷ []) so_far
    ∙ append_assoc before (map f (range_with_len first (counter - first))) (f counter ∷ [])
    ∙ ap (λ l. before ++ l) (sym (map-append f (range_with_len first (counter - first)) (counter ∷ []))
    ∙ ap (map f) (sym (counters_more first counter from)))

-- nothing yet
pub row_none : {X : Type 0} (f : ℕ → List X) (first counter : ℕ) (before : List X) → counter ≡ first
    → before ≡ before ++ flat_map f (range_with_len first (counter - first))
row_none f first counter before same =
    sym (append-nil before)
    ∙ ap (λ n. before ++ flat_map f (range_with_len first n)) (let e : 0 ≡ counter - first = omega (arith, same) in e)

pub none_mapped : {X : Type 0} (f : ℕ → X) (first counter : ℕ) (before : List X) → counter ≡ first
    → before ≡ before ++ map f (range_with_len first (counter - first))
none_mapped f first counter before same =
    sym (append-nil before)
    ∙ ap (λ n. before ++ map f (range_with_len first n)) (let e : 0 ≡ counter - first = omega (arith, same) in e)

-- ---- Frames.

-- a frame's length and its check, as it is sent
pub whole_sent : (own counter : ℕ) (message : List ℕ) (to : To)
    → let b = body_saying (frame_to (address_to own to) counter message) (length message) in
    frame_sent own counter message (Whole to) ≡ enclosed (b ++ high_first (check b))
unfolding frame_sent spelling plain_bytes body
whole_sent own counter message to = refl

pub length_sent : (own counter : ℕ) (message : List ℕ) (said : ℕ)
    → let b = body_saying (frame_to own counter message) said in
    frame_sent own counter message (Length said) ≡ enclosed (b ++ high_first (check b))
unfolding frame_sent
length_sent own counter message said = refl

pub check_sent : (own counter : ℕ) (message : List ℕ)
    → let b = body_saying (frame_to own counter message) (length message) in
    frame_sent own counter message Check ≡ enclosed (b ++ high_first (bit_xor (check b) 1))
unfolding frame_sent body
check_sent own counter message = refl

pub byte_sent : (own counter : ℕ) (message : List ℕ) (place : ℕ) (bytes : List ℕ)
    → let b = body_saying (frame_to own counter message) (length message) in
    frame_sent own counter message (Byte place bytes) ≡ replaced place bytes (b ++ high_first (check b))
unfolding frame_sent plain_bytes body
byte_sent own counter message place bytes = refl

pub cut_sent : (own counter : ℕ) (message : List ℕ) (count : ℕ)
    → let b = body_saying (frame_to own counter message) (length message) in
    frame_sent own counter message (Cut count) ≡ begun count (b ++ high_first (check b))
unfolding frame_sent plain_bytes body
cut_sent own counter message count = refl
