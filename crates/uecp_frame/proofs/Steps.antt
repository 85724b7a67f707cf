-- More bytes of a reading.
use Rattle.std.proofs.Common.{◌≡◌, ◌<◌, ◌≤◌, ◌+◌, ℕ, suc, true, false, List, [], ◌∷◌, ◌++◌, refl, ◌∙◌, ap, sym, length}
use Rattle.std.proofs.Common.{get_or, arith, length-append}
use Rattle.std.proofs.lemmas.Bool.{le-ltb, lt-ltb, le-leb, ne_eqb}
use Rattle.std.proofs.lemmas.List.{append-nil}
use Rattle.uecp_frame.specs.Stuffing.{stuffed, unstuffed, Reading, after}
use Rattle.uecp_frame.specs.Findings.{Doomed, Part, progress}
use Rattle.std.specs.Prelude.{Bool, Option, None, Err}
use Rattle.uecp_frame.specs.declared.fault.FrameFault.{FrameFault}
use Rattle.uecp_frame.specs.declared.fault.FrameFault.TheVariants.{BadStuffing, TooLong}
use Rattle.uecp_frame.specs.Segment.{judged, content}
use Rattle.uecp_frame.specs.declared.open_segment.OpenSegment.{OpenSegment}
use Rattle.uecp_frame.specs.OpenSegment.{inside_of, IsOpenSegment}
use Rattle.uecp_frame.specs.Beyond.{resumed, prolonged}
use Rattle.uecp_frame.proofs.Reading.{judged_read, unstuffed-nil, unstuffed-plain, unstuffed-escaped, unstuffed-stuck}
use Rattle.uecp_frame.proofs.Codes.{stuffed-nil, stuffed-cons, stuffed-append, code-plain}
use Rattle.uecp_frame.proofs.Future.{progress-stuck, progress-long, progress-part, fuller_is_long}

abbrev open_reading : List ℕ → Reading
open_reading p = record { plain = p; rest = [] }

-- ---- a run of bytes below FD
abbrev pub IsRun : List ℕ → Type 0
IsRun z = (k : ℕ) → k < length z → get_or z k 0 < 253

unstuffed-run : (z : List ℕ) → IsRun z → unstuffed z ≡ record { plain = z; rest = [] }
unstuffed-run [] h = unstuffed-nil
unstuffed-run (b ∷ z) h =
    let below : b < 253 = h 0 (omega arith) in
    unstuffed-plain b z (λ e. absurd (omega (arith, below, e)))
    ∙ ap (after (b ∷ [])) (unstuffed-run z (λ k l. h (suc k) (omega arith)))

stuffed-run : (z : List ℕ) → IsRun z → stuffed z ≡ z
stuffed-run [] h = stuffed-nil
stuffed-run (b ∷ z) h =
    let below : b < 253 = h 0 (omega arith) in
    stuffed-cons b z ∙ ap (λ c. c ++ stuffed z) (code-plain b (λ e. absurd (omega (arith, below, e)))
    (λ e. absurd (omega (arith, below, e))) (λ e. absurd (omega (arith, below, e))))
    ∙ ap (λ x. b ∷ x) (stuffed-run z (λ k l. h (suc k) (omega arith)))

pub length-stuffed-run : (p z : List ℕ) → IsRun z → length (stuffed (p ++ z)) ≡ length (stuffed p) + length z
length-stuffed-run p z h = ap length (stuffed-append p z ∙ ap (λ x. stuffed p ++ x) (stuffed-run z h))
    ∙ length-append (stuffed p) z

-- a reading with nothing left goes on
pub step_run : (p z : List ℕ) → 0 < length z → IsRun z → length p + length z ≤ 261
    → prolonged (Part (record { plain = p; rest = [] })) z ≡ Part (record { plain = p ++ z; rest = [] })
step_run p [] some h room = absurd (omega arith)
step_run p (b ∷ z) some h room =
    let e = le-ltb 261 (length (p ++ b ∷ z)) (omega (arith, length-append p (b ∷ z))) in
    ap (λ r. progress (after p r)) (unstuffed-run (b ∷ z) h)
    ∙ progress-part (open_reading (p ++ b ∷ z)) refl (rw e refl)

pub step_overrun : (p z : List ℕ) → 0 < length z → IsRun z → 261 < length p + length z
    → prolonged (Part (record { plain = p; rest = [] })) z ≡ Doomed TooLong
step_overrun p [] some h long = absurd (omega arith)
step_overrun p (b ∷ z) some h long =
    let e = lt-ltb 261 (length (p ++ b ∷ z)) (omega (arith, length-append p (b ∷ z))) in
    ap (λ r. progress (after p r)) (unstuffed-run (b ∷ z) h)
    ∙ progress-long (open_reading (p ++ b ∷ z)) refl (rw e refl)

-- ---- an FD, and the byte after it
pub step_escape : (p : List ℕ) → length p ≤ 260 → prolonged (Part (record { plain = p; rest = [] })) (253 ∷ [])
    ≡ Part (record { plain = p; rest = 253 ∷ [] })
step_escape p room =
    let e = le-ltb 261 (length p) (omega arith) in
    let ne = ne_eqb (length p) 261 (λ h. absurd (omega arith)) in
    let y : Reading = record { plain = p; rest = 253 ∷ [] } in
    ap progress (ap (after p) (unstuffed-stuck (253 ∷ []) refl)
    ∙ ap (λ q. record { plain = q; rest = 253 ∷ [] }) (append-nil p)) ∙ progress-part y refl (rw (e, ne) refl)

pub step_escaped : (p : List ℕ) (b : ℕ) → b < 3 → length p ≤ 260
    → prolonged (Part (record { plain = p; rest = 253 ∷ [] })) (b ∷ [])
    ≡ Part (record { plain = p ++ (253 + b) ∷ []; rest = [] })
step_escaped p b small room =
    let e = le-ltb 261 (length (p ++ (253 + b) ∷ [])) (omega (arith, length-append p ((253 + b) ∷ []))) in
    ap progress (ap (after p) (unstuffed-escaped 253 b [] refl small ∙ ap (after ((253 + b) ∷ [])) unstuffed-nil))
    ∙ progress-part (open_reading (p ++ (253 + b) ∷ [])) refl (rw e refl)

pub step_pair : (p : List ℕ) (b : ℕ) → b < 3 → length p ≤ 260
    → prolonged (Part (record { plain = p; rest = [] })) (253 ∷ b ∷ [])
    ≡ Part (record { plain = p ++ (253 + b) ∷ []; rest = [] })
step_pair p b small room = step_escaped p b small room

pub step_bad : (p : List ℕ) (b : ℕ) → 3 ≤ b → length p ≤ 260
    → prolonged (Part (record { plain = p; rest = 253 ∷ [] })) (b ∷ []) ≡ Doomed (BadStuffing (1 + length (stuffed p)))
step_bad p b large room =
    let y : Reading = record { plain = p; rest = 253 ∷ b ∷ [] } in
    ap progress (ap (after p) (unstuffed-stuck (253 ∷ b ∷ []) (refl, large))
    ∙ ap (λ q. record { plain = q; rest = 253 ∷ b ∷ [] }) (append-nil p))
    ∙ progress-stuck y (le-leb (length p) 260 room)

pub step_full : (p : List ℕ) → length p ≡ 261 → prolonged (Part (record { plain = p; rest = [] })) (253 ∷ [])
    ≡ Doomed TooLong
step_full p full =
    ap (λ r. progress (after p r)) (unstuffed-stuck (253 ∷ []) refl)
    ∙ progress-long (record { plain = p ++ []; rest = 253 ∷ [] }) refl
    (fuller_is_long p [] (253 ∷ []) full (λ e f. absurd (cc)))

-- ---- at the FF
pub close_escaping : (p : List ℕ) → length p ≤ 260
    → judged (resumed (record { plain = p; rest = 253 ∷ [] }) []) ≡ Err (BadStuffing (1 + length (stuffed p)))
unfolding judged
close_escaping p small =
    ap judged (ap (after p) (unstuffed-stuck (253 ∷ []) refl)
    ∙ ap (λ q. record { plain = q; rest = 253 ∷ [] }) (append-nil p))
    ∙ (let e = le-leb (length p) 260 small in rw e refl)

pub close_whole : (p : List ℕ) → length p ≤ 261 → judged (resumed (record { plain = p; rest = [] }) []) ≡ content p
close_whole p fits =
    ap judged (ap (after p) unstuffed-nil ∙ ap (λ q. record { plain = q; rest = [] }) (append-nil p))
    ∙ judged_read p fits

-- ---- what is inside
pub inside_escaping : (fault : Option FrameFault) (p : List ℕ) (e : Bool) → fault ≡ None → e ≡ true
    → inside_of fault p e ≡ Part (record { plain = p; rest = 253 ∷ [] })
inside_escaping fault p e none on = ap (λ f. inside_of f p e) none ∙ ap (λ i. inside_of None p i) on

pub inside_plain : (fault : Option FrameFault) (p : List ℕ) (e : Bool) → fault ≡ None → e ≡ false
    → inside_of fault p e ≡ Part (record { plain = p; rest = [] })
inside_plain fault p e none off = ap (λ f. inside_of f p e) none ∙ ap (λ i. inside_of None p i) off

-- ---- what holds of a segment with no plain bytes
pub opens_kept : (s : OpenSegment) → s.plain.items ≡ [] → s.sent ≡ 0 → s.is_escaping ≡ false → IsOpenSegment s
opens_kept s none count plain = record {
  counted = λ e. count ∙ sym (ap (λ q. length (stuffed q)) none ∙ ap length stuffed-nil);
  room = λ e. let k : false ≡ true = sym plain ∙ e in absurd (cc);
}
