-- What decodes to a frame is its spelling, and its spelling decodes to it.
use Rattle.std.proofs.Common.{◌≡◌, ◌≢◌, ◌<◌, ◌≤◌, ◌+◌, ◌-◌, ◌*◌, ◌/◌, ◌%◌, ◌==◌, ℕ, zero, suc, true, cond, List, []}
use Rattle.std.proofs.Common.{◌∷◌, ◌++◌, refl, ◌∙◌, ap, sym, subst, length, take, drop, get_or, arith, append_assoc}
use Rattle.std.proofs.Common.{length-append, Result, Ok, Err, inl, inr, lit<, IfOk}
use Rattle.std.specs.Prelude.{nat_lt, nat_le}
use Rattle.std.proofs.lemmas.Bool.{cases_eq, cases_Bool, eq-eqb, eqb-true, le-ltb, ltb-false, ne_eqb, leb-false}
use Rattle.std.proofs.lemmas.List.{append-nil, take_at, get_or_at, drop_all, take-append-drop, drop_more}
use Rattle.std.proofs.lemmas.List.{length-take-le}
use Rattle.uecp_frame.specs.declared.frame.Frame.{Frame}
use Rattle.uecp_frame.specs.declared.fault.FrameFault.{FrameFault}
use Rattle.uecp_frame.specs.declared.fault.FrameFault.TheVariants.{BadStuffing, TooLong, TooShort, WrongLength}
use Rattle.uecp_frame.specs.declared.fault.FrameFault.TheVariants.{WrongCheck, Unended}
use Rattle.uecp_frame.specs.Stuffing.{stuffed, unstuffed, Reading}
use Rattle.uecp_frame.specs.Check.{check}
use Rattle.uecp_frame.specs.Frame.{high_first, body, plain_bytes, spelling}
use Rattle.uecp_frame.specs.Segment.{content, judged, number_at, frame_of, finding, inner, decoded, IsSegment}
use Rattle.std.specs.List.{list_any}
use Rattle.uecp_frame.specs.Stuffing.{is_delimiter}
use Rattle.uecp_frame.proofs.Spelling.{stuffed_none}
use Rattle.uecp_frame.proofs.Reading.{judged_read, unstuffed-nil, unstuffed-plain, unstuffed-escaped, unstuffed-stuck}
use Rattle.uecp_frame.proofs.Resumed.{unstuffed-stuffed, unstuffed-joined, along_codes}

-- ---- when plain bytes make a frame
pub content-frame : (u : List ℕ) → 6 ≤ length u → get_or u 3 0 ≡ length u - 6
    → number_at u (length u - 2) ≡ check (take (length u - 2) u) → content u ≡ Ok (frame_of u)
unfolding content
content-frame u long len ck = rw (
  le-ltb (length u) 6 long,
  eq-eqb (get_or u 3 0) (length u - 6) len,
  eq-eqb (number_at u (length u - 2)) (check (take (length u - 2) u)) ck,
)

pub record Makes (u : List ℕ) (f : Frame) : Type 0 where
  pub long : 6 ≤ length u
  pub len : get_or u 3 0 ≡ length u - 6
  pub checked : number_at u (length u - 2) ≡ check (take (length u - 2) u)
  pub is : frame_of u ≡ f

pub content_makes : (u : List ℕ) (f : Frame) → content u ≡ Ok f → Makes u f
unfolding content
content_makes u f e =
    elim (cases_Bool (nat_lt (length u) 6)) [
      | inl t ↦ (let k : Err TooShort ≡ Ok f = rw t at e in absurd (no_err TooShort f k))
      | inr long ↦ elim (cases_Bool (get_or u 3 0 == length u - 6)) [
        | inr t ↦ (let k : Err WrongLength ≡ Ok f = rw (long, t) at e in absurd (no_err WrongLength f k))
        | inl len ↦ elim (cases_Bool (number_at u (length u - 2) == check (take (length u - 2) u))) [
          | inr t ↦ (let k : Err WrongCheck ≡ Ok f = rw (long, len, t) at e in absurd (no_err WrongCheck f k))
          | inl ck ↦ (let k : Ok (frame_of u) ≡ Ok f = rw (long, len, ck) at e in
              record {
                long = ltb-false (length u) 6 long;
                len = eqb-true (get_or u 3 0) (length u - 6) len;
                checked = eqb-true (number_at u (length u - 2)) (check (take (length u - 2) u)) ck;
                is = cc;
              })
        ]
      ]
    ]
  where
    no_err : (fault : FrameFault) (f : Frame) → Err fault ≡ Ok f → ⊥
    no_err fault f k = absurd (cc)

-- ---- the plain bytes of a frame make that frame
pub content_of : (a b c : ℕ) (m : List ℕ) (k l : ℕ) → 256 * k + l ≡ check (a ∷ b ∷ c ∷ length m ∷ m) →
    content (a ∷ b ∷ c ∷ length m ∷ (m ++ k ∷ l ∷ [])) ≡ Ok (record { address = 256 * a + b; counter = c; message = m })
content_of a b c m k l ck = content-frame u (omega (arith, len)) (omega (arith, len)) checked ∙ ap Ok frame
  where
    u : List ℕ
    u = a ∷ b ∷ c ∷ length m ∷ (m ++ k ∷ l ∷ [])

    len : length (m ++ k ∷ l ∷ []) ≡ length m + 2
    len = length-append m (k ∷ l ∷ [])

    at : length u - 2 ≡ length (a ∷ b ∷ c ∷ length m ∷ m)
    at = omega (arith, len)

    front : take (length u - 2) u ≡ a ∷ b ∷ c ∷ length m ∷ m
    front = take_at (a ∷ b ∷ c ∷ length m ∷ m) (k ∷ l ∷ []) (length u - 2) (sym at)

    high : get_or u (length u - 2) 0 ≡ k
    high = get_or_at (a ∷ b ∷ c ∷ length m ∷ m) k (l ∷ []) 0 (length u - 2) (sym at)

    low : get_or u (length u - 2 + 1) 0 ≡ l
    low = ap (λ t. get_or t (length u - 2 + 1) 0) (sym (append_assoc (a ∷ b ∷ c ∷ length m ∷ m) (k ∷ []) (l ∷ [])))
        ∙ get_or_at ((a ∷ b ∷ c ∷ length m ∷ m) ++ k ∷ []) l [] 0 (length u - 2 + 1)
        (length-append (a ∷ b ∷ c ∷ length m ∷ m) (k ∷ []) ∙ omega (arith, at))

    checked : number_at u (length u - 2) ≡ check (take (length u - 2) u)
    checked = ap (λ n. 256 * n + get_or u (length u - 2 + 1) 0) high ∙ ap (λ n. 256 * k + n) low ∙ ck
        ∙ sym (ap check front)

    frame : frame_of u ≡ record { address = 256 * a + b; counter = c; message = m }
    frame = ap (λ (t : List ℕ). let g : Frame = record { address = 256 * a + b; counter = c; message = drop 4 t } in g)
        front

pub content-plain_bytes : (f : Frame) → content (plain_bytes f) ≡ Ok f
unfolding plain_bytes body
content-plain_bytes f =
    content_of (f.address / 256) (f.address % 256) f.counter f.message (check (body f) / 256) (check (body f) % 256)
    (omega arith)
    ∙ ap (λ (a : ℕ). let g : Result Frame FrameFault =
    Ok (record { address = a; counter = f.counter; message = f.message }) in g)
    (let e : 256 * (f.address / 256) + f.address % 256 ≡ f.address = omega arith in e)

-- ---- the spelling of a frame decodes to it
length-plain_bytes : (f : Frame) → length (plain_bytes f) ≡ length f.message + 6
unfolding plain_bytes body
length-plain_bytes f = omega (arith, length-append f.message (high_first (check (body f))))

-- an ended segment, by its bytes
pub decoded-ended : (x : List ℕ) → decoded (254 ∷ x ++ 255 ∷ []) ≡ judged (unstuffed x)
unfolding decoded finding
decoded-ended x =
    ap (λ d. cond (d == 255) (judged (unstuffed (inner s))) (Err Unended)) last ∙ ap (λ y. judged (unstuffed y)) inside
  where
    s : List ℕ
    s = 254 ∷ x ++ 255 ∷ []

    at : length s - 1 ≡ length (254 ∷ x)
    at = omega (arith, length-append x (255 ∷ []))

    last : get_or s (length s - 1) 0 ≡ 255
    last = get_or_at (254 ∷ x) 255 [] 0 (length s - 1) (sym at)

    inside : inner s ≡ x
    inside = take_at x (255 ∷ []) (length s - 1 - 1) (omega (arith, at))

pub decoded-spelling : (f : Frame) → length f.message ≤ 255 → decoded (spelling f) ≡ Ok f
unfolding spelling
decoded-spelling f small =
    decoded-ended (stuffed (plain_bytes f))
    ∙ ap judged (ap unstuffed (sym (append-nil (stuffed (plain_bytes f)))) ∙ unstuffed-stuffed (plain_bytes f) [] tt)
    ∙ judged_read (plain_bytes f) (omega (arith, length-plain_bytes f)) ∙ content-plain_bytes f

-- ---- what decodes to a frame is its spelling
abbrev pub IsBytes : List ℕ → Type 0
IsBytes [] = Unit {0}
IsBytes (b ∷ x) = (b < 256) × IsBytes x

pub bytes_from : (x : List ℕ) → ((i : ℕ) → get_or x i 0 < 256) → IsBytes x
bytes_from [] h = tt
bytes_from (b ∷ x) h = (h 0, bytes_from x (λ i. h (suc i)))

pub bytes_drop : (i : ℕ) (x : List ℕ) → IsBytes x → IsBytes (drop i x)
bytes_drop zero x h = h
bytes_drop (suc i) [] h = tt
bytes_drop (suc i) (b ∷ x) h = bytes_drop i x h.1

pub bytes_take : (i : ℕ) (x : List ℕ) → IsBytes x → IsBytes (take i x)
bytes_take zero x h = tt
bytes_take (suc i) [] h = tt
bytes_take (suc i) (b ∷ x) h = (h.0, bytes_take i x h.1)

-- what bytes read to are bytes
pub bytes_unstuffed : (x : List ℕ) → IsBytes x → IsBytes (unstuffed x).plain
bytes_unstuffed x =
    along_codes (λ x. IsBytes x → IsBytes (unstuffed x).plain)
    (λ h. on (sym unstuffed-nil) tt)
    (λ b x ne so_far h. on (sym (unstuffed-plain b x ne)) (h.0, so_far h.1))
    (λ b c x e small so_far h. on (sym (unstuffed-escaped b c x e small)) (omega arith, so_far h.1.1))
    (λ x stuck h. on (sym (unstuffed-stuck x stuck)) tt)
    x
  where
    on : {y z : Reading} → y ≡ z → IsBytes y.plain → IsBytes z.plain
    on {y} {z} e h = let P : Reading → Type 0 = λ w. IsBytes w.plain in subst P e h

no_err : (fault : FrameFault) (f : Frame) → Err fault ≡ Ok f → ⊥
no_err fault f k = absurd (cc)

judged_at : (p r : List ℕ) (f : Frame) → judged (record { plain = p; rest = r }) ≡ Ok f → (r ≡ []) × (content p ≡ Ok f)
unfolding judged
judged_at p [] f e =
    elim (cases_Bool (nat_lt 261 (length p))) [
      | inl t ↦ absurd (no_err TooLong f (let k : Err TooLong ≡ Ok f = rw t at e in k))
      | inr short ↦ (refl, (let k : content p ≡ Ok f = rw short at e in k))
    ]
judged_at p (b ∷ r) f e =
    elim (cases_Bool (nat_le (length p) 260)) [
      | inl t ↦ absurd (no_err (BadStuffing (1 + length (stuffed p))) f
          (let k : Err (BadStuffing (1 + length (stuffed p))) ≡ Ok f = rw t at e in k))
      | inr above ↦ elim (cases_Bool (nat_lt 261 (length p))) [
        | inl t ↦ absurd (no_err TooLong f (let k : Err TooLong ≡ Ok f = rw (above, t) at e in k))
        | inr most ↦
            (let full : (length p == 261) ≡ true = eq-eqb (length p) 261
            (omega (arith, leb-false (length p) 260 above, ltb-false 261 (length p) most)) in
            absurd (no_err TooLong f (let k : Err TooLong ≡ Ok f = rw (above, most, full) at e in k)))
      ]
    ]

pub bytes_at : (x : List ℕ) (i : ℕ) → IsBytes x → get_or x i 0 < 256
bytes_at [] i h = lit< tt
bytes_at (b ∷ x) zero h = h.0
bytes_at (b ∷ x) (suc i) h = bytes_at x i h.1

-- a number of two bytes, high byte first
two_bytes : (k l n : ℕ) → l < 256 → 256 * k + l ≡ n → high_first n ≡ k ∷ l ∷ []
two_bytes k l n h e =
    let high : n / 256 ≡ k = omega arith in
    let low : n % 256 ≡ l = omega arith in
    ap (λ a. a ∷ n % 256 ∷ []) high ∙ ap (λ b. k ∷ b ∷ []) low

last_two : (x : List ℕ) → 2 ≤ length x → x ≡ take (length x - 2) x ++ get_or x (length x - 2) 0
    ∷ get_or x (length x - 2 + 1) 0 ∷ []
last_two x h =
    sym (take-append-drop (length x - 2) x)
    ∙ ap (λ t. take (length x - 2) x ++ t)
    (drop_more x (length x - 2) 0 (omega arith)
    ∙ ap (λ t. get_or x (length x - 2) 0 ∷ t) (drop_more x (length x - 2 + 1) 0 (omega arith)
    ∙ ap (λ t. get_or x (length x - 2 + 1) 0 ∷ t) (drop_all (length x - 2 + 1 + 1) x (omega arith))))

pub plain_bytes_of : (u : List ℕ) (f : Frame) → IsBytes u → Makes u f → u ≡ plain_bytes f
unfolding plain_bytes body
plain_bytes_of [] f bytes makes = absurd (omega (arith, makes.long))
plain_bytes_of (a ∷ []) f bytes makes = absurd (omega (arith, makes.long))
plain_bytes_of (a ∷ b ∷ []) f bytes makes = absurd (omega (arith, makes.long))
plain_bytes_of (a ∷ b ∷ c ∷ []) f bytes makes = absurd (omega (arith, makes.long))
plain_bytes_of (a ∷ b ∷ c ∷ n ∷ rest) f bytes makes =
    sym (ap (λ t. a ∷ b ∷ c ∷ n ∷ t) (sym parts)) ∙ sym spelled ∙ ap plain_bytes frame
  where
    m : List ℕ
    m = take (length rest - 2) rest

    k : ℕ
    k = get_or rest (length rest - 2) 0

    l : ℕ
    l = get_or rest (length rest - 2 + 1) 0

    two : 2 ≤ length rest
    two = omega (arith, makes.long)

    parts : rest ≡ m ++ k ∷ l ∷ []
    parts = last_two rest two

    at : length (a ∷ b ∷ c ∷ n ∷ rest) - 2 ≡ suc (suc (suc (suc (length rest - 2))))
    at = omega (arith, two)

    front : take (length (a ∷ b ∷ c ∷ n ∷ rest) - 2) (a ∷ b ∷ c ∷ n ∷ rest) ≡ a ∷ b ∷ c ∷ n ∷ m
    front = ap (λ (i : ℕ). take i (a ∷ b ∷ c ∷ n ∷ rest)) at

    high : get_or (a ∷ b ∷ c ∷ n ∷ rest) (length (a ∷ b ∷ c ∷ n ∷ rest) - 2) 0 ≡ k
    high = ap (λ (i : ℕ). get_or (a ∷ b ∷ c ∷ n ∷ rest) i 0) at

    low : get_or (a ∷ b ∷ c ∷ n ∷ rest) (length (a ∷ b ∷ c ∷ n ∷ rest) - 2 + 1) 0 ≡ l
    low = ap (λ (i : ℕ). get_or (a ∷ b ∷ c ∷ n ∷ rest) i 0)
        (let e : length (a ∷ b ∷ c ∷ n ∷ rest) - 2 + 1 ≡ suc (suc (suc (suc (length rest - 2 + 1)))) =
        omega (arith, at) in e)

    number : 256 * k + l ≡ check (a ∷ b ∷ c ∷ n ∷ m)
    number = sym (ap (λ i. 256 * i + get_or (a ∷ b ∷ c ∷ n ∷ rest) (length (a ∷ b ∷ c ∷ n ∷ rest) - 2 + 1) 0) high
        ∙ ap (λ i. 256 * k + i) low) ∙ makes.checked ∙ ap check front

    n_is : n ≡ length m
    n_is = makes.len ∙ omega (arith, two, length-take-le (length rest - 2) rest (omega arith))

    F : Frame
    F = record { address = 256 * a + b; counter = c; message = m }

    frame : F ≡ f
    frame = sym (ap (λ (t : List ℕ). let g : Frame =
        record { address = 256 * a + b; counter = c; message = drop 4 t } in g) front) ∙ makes.is

    body_is : body F ≡ a ∷ b ∷ c ∷ n ∷ m
    body_is = ap (λ h. h ++ c ∷ length m ∷ m) (two_bytes a b (256 * a + b) bytes.1.0 refl)
        ∙ ap (λ (i : ℕ). a ∷ b ∷ c ∷ i ∷ m) (sym n_is)

    check_is : high_first (check (body F)) ≡ k ∷ l ∷ []
    check_is = two_bytes k l (check (body F)) (bytes_at rest (length rest - 2 + 1) bytes.1.1.1.1)
        (number ∙ sym (ap check body_is))

    spelled : plain_bytes F ≡ a ∷ b ∷ c ∷ n ∷ (m ++ k ∷ l ∷ [])
    spelled = ap (λ x. x ++ high_first (check (body F))) body_is ∙ ap (λ x. (a ∷ b ∷ c ∷ n ∷ m) ++ x) check_is

-- the whole of a segment
pub split_is : (s : List ℕ) → get_or s 0 0 ≡ 254 → 2 ≤ length s → s ≡ 254 ∷ inner s ++ get_or s (length s - 1) 0 ∷ []
split_is [] begins two = absurd (omega arith)
split_is (a ∷ []) begins two = absurd (omega arith)
split_is (a ∷ b ∷ s) begins two =
    ap (λ n. n ∷ b ∷ s) begins
    ∙ ap (λ t. 254 ∷ t) (sym (take-append-drop (length s) (b ∷ s))
    ∙ ap (λ t. take (length s) (b ∷ s) ++ t) (drop_more (b ∷ s) (length s) 0 (omega arith)
    ∙ ap (λ t. get_or (b ∷ s) (length s) 0 ∷ t) (drop_all (length s + 1) (b ∷ s) (omega arith)))
    ∙ ap (λ (i : ℕ). take i (b ∷ s) ++ get_or (b ∷ s) (length s) 0 ∷ [])
    (let e : length s ≡ length (a ∷ b ∷ s) - 1 - 1 = omega arith in e)
    ∙ ap (λ (i : ℕ). inner (a ∷ b ∷ s) ++ get_or (a ∷ b ∷ s) i 0 ∷ [])
    (let e : suc (length s) ≡ length (a ∷ b ∷ s) - 1 = omega arith in e))

segment_is : (s : List ℕ) → IsSegment s → get_or s (length s - 1) 0 ≡ 255 → s ≡ 254 ∷ inner s ++ 255 ∷ []
segment_is [] h last = absurd (omega (arith, h.begins))
segment_is (a ∷ []) h last = absurd (omega (arith, h.begins))
segment_is (a ∷ b ∷ s) h last = split_is (a ∷ b ∷ s) h.begins (omega arith)
    ∙ ap (λ (n : ℕ). 254 ∷ inner (a ∷ b ∷ s) ++ n ∷ []) last

pub spelled_lem : (s : List ℕ) (f : Frame) → IsSegment s → IsBytes s → decoded s ≡ Ok f → s ≡ spelling f
unfolding decoded finding spelling
spelled_lem s f h bytes e =
    elim (cases_eq (get_or s (length s - 1) 0) 255) [
      | inl last ↦
          (let k : judged (unstuffed (inner s)) ≡ Ok f = rw (eq-eqb (get_or s (length s - 1) 0) 255 last) at e in
          let y = judged_at (unstuffed (inner s)).plain (unstuffed (inner s)).rest f k in
          let makes = content_makes (unstuffed (inner s)).plain f y.1 in
          let u_is = plain_bytes_of (unstuffed (inner s)).plain f
          (bytes_unstuffed (inner s) (bytes_take (length s - 1 - 1) (drop 1 s) (bytes_drop 1 s bytes))) makes in
          let inner_is : inner s ≡ stuffed (plain_bytes f) =
          unstuffed-joined (inner s) h.inside ∙ ap (λ r. stuffed (unstuffed (inner s)).plain ++ r) y.0
          ∙ append-nil (stuffed (unstuffed (inner s)).plain) ∙ ap stuffed u_is in
          segment_is s h last ∙ ap (λ x. 254 ∷ x ++ 255 ∷ []) inner_is)
      | inr other ↦ absurd (no_err Unended f (let k : Err Unended
          ≡ Ok f = rw (ne_eqb (get_or s (length s - 1) 0) 255 other) at e in k))
    ]

inner_is : (x : List ℕ) → inner (254 ∷ x ++ 255 ∷ []) ≡ x
inner_is x = take_at x (255 ∷ []) (length (254 ∷ x ++ 255 ∷ []) - 1 - 1) (omega (arith, length-append x (255 ∷ [])))

-- a spelling is a segment
pub spelling_is_segment : (f : Frame) → IsSegment (spelling f)
unfolding spelling
spelling_is_segment f = record {
  begins = refl;
  inside = ap (list_any is_delimiter) (inner_is (stuffed (plain_bytes f)))
      ∙ stuffed_none (plain_bytes f);
}

pub decoded-unended : (s : List ℕ) → get_or s (length s - 1) 0 ≢ 255 → decoded s ≡ Err Unended
unfolding decoded finding
decoded-unended s h = rw (ne_eqb (get_or s (length s - 1) 0) 255 h)

pub if_ok_spelled : (s : List ℕ) (r : Result Frame FrameFault) → IsSegment s → IsBytes s → r ≡ decoded s
    → IfOk r (λ f. s ≡ spelling f)
if_ok_spelled s (Ok f) h bytes e = spelled_lem s f h bytes (sym e)
if_ok_spelled s (Err fault) h bytes e = tt
