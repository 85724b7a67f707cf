-- Frames that are found in bytes are of bytes.
use Rattle.std.proofs.Common.{◌≡◌, ℕ, ◌+◌, ◌-◌, ◌==◌, Bool, true, false, List, [], ◌∷◌, ◌++◌, length}
use Rattle.std.proofs.Common.{take, Ok, Err, Option, Some, None, refl, arith}
use Rattle.std.specs.Prelude.{nat_lt, nat_le, not, ◌&&◌, if◌then◌else◌, slice_index}
use Rattle.std.specs.List.{list_any}
use Rattle.std.proofs.lemmas.Bool.{ltb-true}
use Rattle.uecp_elements.specs.Grammar.{AreBytes}
use Rattle.uecp_frame.specs.declared.fault.FrameFault.TheVariants.{TooShort, WrongLength, WrongCheck, TooLong, Unended}
use Rattle.uecp_frame.specs.declared.fault.FrameFault.TheVariants.{BadStuffing}
use Rattle.uecp_frame.specs.Check.{check}
use Rattle.uecp_frame.specs.Stuffing.{is_delimiter, Reading, after, unstuffed, stuffed}
use Rattle.uecp_frame.specs.Segment.{content, judged, finding, frame_of, number_at, is_read, is_too_long}
use Rattle.uecp_frame.specs.Findings.{Finding, before_delimiter, from_delimiter, found_at, segment_found, found}
use Rattle.uecp_frame.specs.Findings.{open_bytes, OpenPart, Closed, Doomed, Part, has_two, progress, open_from}
use Rattle.uecp_frame.specs.Findings.{open_part}
use Rattle.uecp_frame.specs.Beyond.{resumed, closing, closing_at, found_beyond, prolonged, open_beyond}
use Rattle.end_images.specs.Reading.{IsOpenOfBytes}
use Rattle.end_images.proofs.Telling.{bytes_taken, bytes_behind}

-- A finding that is a frame has a message of bytes.
abbrev pub OfBytes : Finding → Type 0
OfBytes (Ok f) = AreBytes f.message
OfBytes (Err fault) = Unit {0}

abbrev pub AllOfBytes : List Finding → Type 0
AllOfBytes [] = Unit {0}
AllOfBytes (f ∷ fs) = OfBytes f × AllOfBytes fs

bytes_append : (xs ys : List ℕ) → AreBytes xs → AreBytes ys → AreBytes (xs ++ ys)
bytes_append [] ys h k = k
bytes_append (x ∷ xs) ys h k = (h.0, bytes_append xs ys h.1 k)

all_append : (fs gs : List Finding) → AllOfBytes fs → AllOfBytes gs → AllOfBytes (fs ++ gs)
all_append [] gs h k = k
all_append (f ∷ fs) gs h k = (h.0, all_append fs gs h.1 k)

-- ---- Readings.

abbrev pub ReadsBytes : Reading → Type 0
ReadsBytes x = AreBytes x.plain × AreBytes x.rest

unstuffed_bytes : (x : List ℕ) → AreBytes x → ReadsBytes (unstuffed x)
unfolding unstuffed
unstuffed_bytes [] h = (tt, tt)
unstuffed_bytes (b ∷ []) h = go (b == 0xFD)
  where
    go : (is : Bool) → ReadsBytes (if is then record { plain = []; rest = b ∷ [] } else record {
      plain = b ∷ [];
      rest = [];
    })
    go true = (tt, h)
    go false = (h, tt)
unstuffed_bytes (b ∷ c ∷ x) h =
    go (b == 0xFD) (nat_lt c 3) refl (unstuffed_bytes x h.1.1) (unstuffed_bytes (c ∷ x) h.1)
  where
    go : (is small : Bool) → nat_lt c 3 ≡ small → ReadsBytes (unstuffed x) → ReadsBytes (unstuffed (c ∷ x))
        → ReadsBytes (elim is [
          | true ↦ elim small [
            | true ↦ after ((0xFD + c) ∷ []) (unstuffed x)
            | false ↦ record { plain = []; rest = b ∷ c ∷ x }
          ]
          | false ↦ after (b ∷ []) (unstuffed (c ∷ x))
        ])
    go true true e rest next = let few = ltb-true c 3 e in ((omega (arith, few), rest.0), rest.1)
    go true false e rest next = (tt, h)
    go false small e rest next = ((h.0, next.0), next.1)

-- ---- Segments.

content_bytes : (u : List ℕ) → AreBytes u → OfBytes (content u)
unfolding content
content_bytes u h =
    go (nat_lt (length u) 6) (not (slice_index u 3 == length u - 6))
    (not (number_at u (length u - 2) == check (take (length u - 2) u)))
  where
    go : (a b c : Bool) → OfBytes (if a then Err TooShort else if b then Err WrongLength else if c then Err WrongCheck
        else Ok (frame_of u))
    go true b c = tt
    go false true c = tt
    go false false true = tt
    go false false false = bytes_behind 4 (take (length u - 2) u) (bytes_taken (length u - 2) u h)

judged_bytes : (x : Reading) → ReadsBytes x → OfBytes (judged x)
unfolding judged
judged_bytes x h =
    go (not (is_read x.rest) && nat_le (length x.plain) 260) (is_too_long x)
  where
    go : (a b : Bool) → OfBytes (if a then Err (BadStuffing (1 + length (stuffed x.plain)))
        else if b then Err TooLong else content x.plain)
    go true b = tt
    go false true = tt
    go false false = content_bytes x.plain h.0

finding_bytes : (x : List ℕ) (delimiter : ℕ) → AreBytes x → OfBytes (finding x delimiter)
unfolding finding
finding_bytes x delimiter h = go (delimiter == 0xFF)
  where
    go : (a : Bool) → OfBytes (if a then judged (unstuffed x) else Err Unended)
    go true = judged_bytes (unstuffed x) (unstuffed_bytes x h)
    go false = tt

before_bytes : (s : List ℕ) → AreBytes s → AreBytes (before_delimiter s)
before_bytes [] h = tt
before_bytes (b ∷ s) h = go (is_delimiter b) (before_bytes s h.1)
  where
    go : (a : Bool) → AreBytes (before_delimiter s) → AreBytes (if a then [] else b ∷ before_delimiter s)
    go true k = tt
    go false k = (h.0, k)

found_at_bytes : (x more : List ℕ) → AreBytes x → AllOfBytes (found_at x more)
found_at_bytes x [] h = tt
found_at_bytes x (delimiter ∷ more) h = (finding_bytes x delimiter h, tt)

pub found_bytes : (s : List ℕ) → AreBytes s → AllOfBytes (found s)
unfolding found segment_found
found_bytes [] h = tt
found_bytes (b ∷ s) h = go (b == 0xFE) (found_bytes s h.1)
  where
    go : (a : Bool) → AllOfBytes (found s)
        → AllOfBytes ((if a then segment_found s else []) ++ found s)
    go true k = all_append (segment_found s) (found s)
        (found_at_bytes (before_delimiter s) (from_delimiter s) (before_bytes s h.1)) k
    go false k = k

-- ---- Beyond what is open.

resumed_bytes : (y : Reading) (z : List ℕ) → ReadsBytes y → AreBytes z → ReadsBytes (resumed y z)
resumed_bytes y z h k =
    let more = unstuffed_bytes (y.rest ++ z) (bytes_append y.rest z h.1 k) in
    (bytes_append y.plain (unstuffed (y.rest ++ z)).plain h.0 more.0, more.1)

closing_bytes : (o : OpenPart) (z : List ℕ) (delimiter : ℕ) → IsOpenOfBytes o → AreBytes z
    → AllOfBytes (closing o z delimiter)
closing_bytes Closed z delimiter h k = tt
closing_bytes (Doomed fault) z delimiter h k = go (delimiter == 0xFF)
  where
    go : (a : Bool) → AllOfBytes ((if a then Err fault else Err Unended) ∷ [])
    go true = (tt, tt)
    go false = (tt, tt)
closing_bytes (Part y) z delimiter h k = go (delimiter == 0xFF)
  where
    go : (a : Bool) → AllOfBytes ((if a then judged (resumed y z) else Err Unended) ∷ [])
    go true = (judged_bytes (resumed y z) (resumed_bytes y z h k), tt)
    go false = (tt, tt)

closing_at_bytes : (o : OpenPart) (z more : List ℕ) → IsOpenOfBytes o → AreBytes z → AllOfBytes (closing_at o z more)
closing_at_bytes o z [] h k = tt
closing_at_bytes o z (delimiter ∷ more) h k = closing_bytes o z delimiter h k

pub beyond_bytes : (o : OpenPart) (x : List ℕ) → IsOpenOfBytes o → AreBytes x → AllOfBytes (found_beyond o x)
unfolding found_beyond
beyond_bytes o x h k =
    all_append (closing_at o (before_delimiter x) (from_delimiter x)) (found x)
    (closing_at_bytes o (before_delimiter x) (from_delimiter x) h (before_bytes x k)) (found_bytes x k)

-- ---- What is left open.

progress_bytes : (x : Reading) → ReadsBytes x → IsOpenOfBytes (progress x)
unfolding progress
progress_bytes x h = go (has_two x.rest && nat_le (length x.plain) 260) (is_too_long x)
  where
    go : (a b : Bool) → IsOpenOfBytes (if a then Doomed (BadStuffing (1 + length (stuffed x.plain)))
        else if b then Doomed TooLong else Part x)
    go true b = tt
    go false true = tt
    go false false = h

abbrev pub MayBeBytes : Option (List ℕ) → Type 0
MayBeBytes None = Unit {0}
MayBeBytes (Some x) = AreBytes x

open_bytes_bytes : (s : List ℕ) → AreBytes s → MayBeBytes (open_bytes s)
unfolding open_bytes
open_bytes_bytes [] h = tt
open_bytes_bytes (b ∷ s) h = go (list_any is_delimiter s) (b == 0xFE) (open_bytes_bytes s h.1)
  where
    go : (a e : Bool) → MayBeBytes (open_bytes s)
        → MayBeBytes (if a then open_bytes s else if e then Some s else None)
    go true e k = k
    go false true k = h.1
    go false false k = tt

open_from_bytes : (o : Option (List ℕ)) → MayBeBytes o → IsOpenOfBytes (open_from o)
open_from_bytes None h = tt
open_from_bytes (Some x) h = progress_bytes (unstuffed x) (unstuffed_bytes x h)

prolonged_bytes : (o : OpenPart) (z : List ℕ) → IsOpenOfBytes o → AreBytes z → IsOpenOfBytes (prolonged o z)
prolonged_bytes Closed z h k = tt
prolonged_bytes (Doomed fault) z h k = tt
prolonged_bytes (Part y) [] h k = h
prolonged_bytes (Part y) (b ∷ z) h k = progress_bytes (resumed y (b ∷ z)) (resumed_bytes y (b ∷ z) h k)

pub open_beyond_bytes : (o : OpenPart) (x : List ℕ) → IsOpenOfBytes o → AreBytes x → IsOpenOfBytes (open_beyond o x)
unfolding open_beyond
open_beyond_bytes o x h k = go (list_any is_delimiter x)
  where
    go : (a : Bool) → IsOpenOfBytes (if a then open_part x else prolonged o x)
    go true = open_from_bytes (open_bytes x) (open_bytes_bytes x k)
    go false = prolonged_bytes o x h k
