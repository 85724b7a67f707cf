-- Places in a log.
use Rattle.std.proofs.Common.{◌≡◌, ◌+◌, ◌-◌, ◌*◌, ◌<◌, ◌≤◌, suc, ℕ, List, length, take, drop, sym, ap, ap₂, ◌∙◌, arith}
use Rattle.std.proofs.Common.{inl, inr, mul-le-mul_right, zero}
use Rattle.std.proofs.lemmas.Bool.{cases_order}
use Rattle.sqlite_wal.specs.Recovery.{frames_len, frame_at, frame, header, sum_before, file_page}
use Rattle.sqlite_wal.specs.Format.{part, be32, stored_sum, page_number, content}
use Rattle.sqlite_wal.proofs.FormatLemmas.{be32-part, pair, part_is}
use Rattle.sqlite_image.specs.declared.log.Place.{Place}
use Rattle.sqlite_image.specs.Place.{IsPlace}
use Rattle.sqlite_image.specs.Log.{IsThere, HasFrames}
use Rattle.sqlite_wal.proofs.PartLemmas.{length-part, part-part, part_within}
use Rattle.std.proofs.lemmas.List.{take_rest}

pub frame_first : (size : ℕ) → frame_at size 0 ≡ 32
unfolding frames_len
frame_first size = omega arith

pub frame_next : (size n : ℕ) → frame_at size (n + 1) ≡ frame_at size n + (24 + size)
unfolding frames_len
frame_next size n = omega arith

pub frame_far : (size n : ℕ) → 32 + n ≤ frame_at size n
unfolding frames_len
frame_far size n = omega arith

pub frame_later : (size i j : ℕ) → i ≤ j → frame_at size i ≤ frame_at size j
unfolding frames_len
frame_later size i j h = omega (arith, mul-le-mul_right (24 + size) h)

-- a frame that isn't there has none behind it
pub none_there : (size : ℕ) (log : List ℕ) (n i : ℕ) → (IsThere size log n → ⊥) → n ≤ i → IsThere size log i → ⊥
none_there size log n i none h there = none (omega (arith, frame_later size n i h))

pub sum_in : (size : ℕ) (log : List ℕ) (n : ℕ) → stored_sum (frame size log n) 16
    ≡ stored_sum log (frame_at size n + 16)
sum_in size log n =
    let next : frame_at size n + 16 + 4 ≡ frame_at size n + 20 = omega arith in
    ap₂ pair (be32-part log (frame_at size n) (24 + size) 16 (omega arith))
    (be32-part log (frame_at size n) (24 + size) 20 (omega arith) ∙ ap (be32 log) (sym next))

pub sum_first : (log : List ℕ) → stored_sum (header log) 24 ≡ stored_sum log 24
sum_first log = ap₂ pair (be32-part log 0 32 24 (omega arith)) (be32-part log 0 32 28 (omega arith))

pub place_first : (size : ℕ) (log : List ℕ) (s : ℕ × ℕ) → 32 ≤ length log → s ≡ stored_sum log 24
    → IsPlace size log (record { number = 0; at = 32; sum = s })
place_first size log s long is =
    record { at_is = sym (frame_first size); sum_is = is ∙ sym (sum_first log); within = long }

pub place_next : (size : ℕ) (log : List ℕ) (p : Place) (s : ℕ × ℕ) → IsPlace size log p → IsThere size log p.number
    → s ≡ stored_sum log (p.at + 16)
    → IsPlace size log (record { number = p.number + 1; at = p.at + (24 + size); sum = s })
place_next size log p s place there is = record {
  at_is = omega (arith, place.at_is, frame_next size p.number);
  sum_is =
      let one : p.number + 1 ≡ suc p.number = omega arith in
      is ∙ ap (λ (x : ℕ). stored_sum log (x + 16)) place.at_is ∙ sym (sum_in size log p.number)
      ∙ ap (sum_before size log) (sym one);
  within = omega (arith, place.at_is);
}

-- the bytes of a slice
pub part_at : (log : List ℕ) (a b n : ℕ) → b ≡ a + n → take (b - a) (drop a log) ≡ part log a n
part_at log a b n is =
    let len : b - a ≡ n = omega arith in
    ap (λ (x : ℕ). take x (drop a log)) len ∙ sym (part_is log a n)

pub page_in : (size : ℕ) (log : List ℕ) (n : ℕ) → page_number (frame size log n) ≡ be32 log (frame_at size n)
page_in size log n =
    let none : frame_at size n + 0 ≡ frame_at size n = omega arith in
    be32-part log (frame_at size n) (24 + size) 0 (omega arith) ∙ ap (be32 log) none

-- a frame before a place is there
pub there_before : (size : ℕ) (log : List ℕ) (p : Place) (n : ℕ) → IsPlace size log p → n < p.number
    → IsThere size log n
there_before size log p n place low =
    omega (arith, place.at_is, place.within, frame_next size n, frame_later size (n + 1) p.number (omega arith))

-- the bytes of a frame's page
pub content_in : (size : ℕ) (log : List ℕ) (n : ℕ) → IsThere size log n
    → content (frame size log n) ≡ part log (frame_at size n + 24) size
content_in size log n there =
    let whole = length-part log (frame_at size n) (24 + size) there in
    let rest : length (frame size log n) - 24 ≡ size = omega (arith, whole) in
    sym (take_rest (frame size log n) 24) ∙ ap (λ (x : ℕ). take x (drop 24 (frame size log n))) rest
    ∙ sym (part_is (frame size log n) 24 size) ∙ part-part log (frame_at size n) (24 + size) 24 size there (omega arith)

pub positive_factor : (x s : ℕ) → 0 < x * s → 0 < s
positive_factor x zero h = absurd (omega (arith, h))
positive_factor x (suc s) h = omega arith

-- what is compared with a part that is all there, is all there
pub said_within : (db bytes : List ℕ) (at size : ℕ) → 0 < size → length bytes ≡ size → bytes ≡ part db at size
    → at + size ≤ length db
said_within db bytes at size some len same = part_within db at size some (sym (ap length same) ∙ len)

pub frames_once : (size : ℕ) (log : List ℕ) (a b : ℕ) → HasFrames size log a → HasFrames size log b → a ≡ b
frames_once size log a b x y = elim (cases_order a b) [
  | inl same ↦ same
  | inr (inl low) ↦ absurd (x.no_more (y.good a low))
  | inr (inr high) ↦ absurd (y.no_more (x.good b high))
]

pub length_content : (size : ℕ) (log : List ℕ) (n : ℕ) → IsThere size log n → length (content (frame size log n)) ≡ size
length_content size log n there =
    ap length (content_in size log n there) ∙ length-part log (frame_at size n + 24) size (omega arith)

-- the page of the file that a frame is for
pub page_said : (size : ℕ) (log db : List ℕ) (p : Place) (less : ℕ) → IsPlace size log p → less ≡ be32 log p.at - 1
    → file_page size db (page_number (frame size log p.number)) ≡ part db (less * size) size
page_said size log db p less place is =
    let page : page_number (frame size log p.number) ≡ be32 log p.at =
    page_in size log p.number ∙ ap (be32 log) (sym place.at_is) in
    let both : page_number (frame size log p.number) - 1 ≡ less = ap (λ (x : ℕ). x - 1) page ∙ sym is in
    ap (λ (x : ℕ). part db (x * size) size) both
