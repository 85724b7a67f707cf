-- What findings do to the two ends.
use Rattle.std.proofs.Common.{◌≡◌, ℕ, ◌%◌, ◌≤◌, ◌==◌, ◌&&◌, ◌/◌, ◌||◌, Bool, true, false, cond, List, [], ◌∷◌, ◌++◌}
use Rattle.std.proofs.Common.{Option, Some, None, refl, ap, ◌∙◌, eq-eqb, length, Ok, Err, not}
use Rattle.std.proofs.lemmas.Bool.{ne_eqb}
use Rattle.uecp_elements.specs.declared.code.Code.{Code}
use Rattle.uecp_elements.specs.declared.code.Code.TheVariants.{Applied, UnknownElement, DataSet, Service, OutOfRange}
use Rattle.uecp_elements.specs.declared.code.Code.TheVariants.{ElementLength, NotHere, BufferFull}
use Rattle.uecp_frame.specs.declared.frame.Frame.{Frame}
use Rattle.uecp_frame.specs.Findings.{Finding, has_frame, is_quiet, OpenPart, found, open_part}
use Rattle.uecp_frame.specs.Beyond.{found_beyond, open_beyond}
use Rattle.uecp_frame.specs.Frame.{spelling}
use Rattle.uecp_frame.specs.Address.{reaches}
use Rattle.uecp_encoder.proofs.Public.{after_findings-append}
use Rattle.uecp_link.specs.Kept.{EncoderIs, ServerIs}
use Rattle.uecp_link.proofs.Wire.{found_more, whole}
use Rattle.uecp_encoder.specs.Target.{Step}
use Rattle.uecp_elements.specs.Codes.{byte_of, code_of_byte}
use Rattle.reply_ring.specs.Ring.{kept_code, keep}
use Rattle.uecp_encoder.specs.State.{EncoderState, is_next, after_finding, after_findings, fed, numbered}
use Rattle.uecp_encoder.specs.Answering.{reply_of}
use Rattle.uecp_link.specs.Server.{ServerState, Held, waiting_among, waits_for, marked_at, freed_of, heard_finding}
use Rattle.uecp_link.specs.Server.{heard_findings, heard, acknowledges, freed}

pub has_frame-append : (xs ys : List Finding) → has_frame (xs ++ ys) ≡ false → has_frame ys ≡ false
has_frame-append [] ys h = h
has_frame-append (Err n ∷ xs) ys h = has_frame-append xs ys h
has_frame-append (Ok f ∷ xs) ys h = cc

pub has_frame-append_from : (xs ys : List Finding) → has_frame xs ≡ false → has_frame ys ≡ false
    → has_frame (xs ++ ys) ≡ false
has_frame-append_from [] ys h k = k
has_frame-append_from (Err n ∷ xs) ys h k = has_frame-append_from xs ys h k
has_frame-append_from (Ok f ∷ xs) ys h k = cc

pub no_frame : (z : List ℕ) → is_quiet z ≡ true → has_frame (found z) ≡ false
no_frame z h = go (has_frame (found z)) h
  where
    go : (b : Bool) → not b ≡ true → b ≡ false
    go true h = cc
    go false h = refl

pub heard_findings-append : (s : ServerState) (xs ys : List Finding)
    → heard_findings s (xs ++ ys) ≡ heard_findings (heard_findings s xs) ys
heard_findings-append s [] ys = refl
heard_findings-append s (x ∷ xs) ys = heard_findings-append (heard_finding s x) xs ys

-- faults change the counts alone
pub after_faults : {V : Type 0} (step : Step V) (e : EncoderState V) (a : ℕ) (v : V) (r : List (ℕ × Code))
    (fs : List Finding)
    → has_frame fs ≡ false → EncoderIs e a v r → EncoderIs (after_findings step e fs) a v r
after_faults step e a v r [] h is = is
after_faults step e a v r (Err n ∷ fs) h is =
    after_faults step (after_finding step e (Err n)) a v r fs h
    (record { address = is.address; value = is.value; ring = is.ring })
after_faults step e a v r (Ok f ∷ fs) h is = cc

pub heard_faults : (s : ServerState) (a l : ℕ) (hs : List Held) (fs : List Finding) → has_frame fs ≡ false
    → ServerIs s a l hs → ServerIs (heard_findings s fs) a l hs
heard_faults s a l hs [] h is = is
heard_faults s a l hs (Err n ∷ fs) h is = heard_faults (heard_finding s (Err n)) a l hs fs h
    (record { address = is.address; last = is.last; held = is.held })
heard_faults s a l hs (Ok f ∷ fs) h is = cc

pub reaches_self : (a : ℕ) → reaches a a ≡ true
reaches_self a = rw (eq-eqb (a / 64) (a / 64) refl, eq-eqb (a % 64) (a % 64) refl) (go (a / 64 == 0) (a % 64 == 0))
  where
    go : (x y : Bool) → ((x || true) && (y || true)) ≡ true
    go true true = refl
    go true false = refl
    go false true = refl
    go false false = refl

-- a numbered frame for the encoder, at what the ring has for its counter
pub after_whole : {V : Type 0} (step : Step V) (e : EncoderState V) (f : Frame) → reaches f.address e.address ≡ true
    → (f.counter ≡ 0 → ⊥)
    → after_finding step e (Ok f) ≡ numbered step e f (kept_code e.ring f.counter)
after_whole step e f r ne = rw (r, ne_eqb f.counter 0 ne)

pub numbered_kept : {V : Type 0} (step : Step V) (e : EncoderState V) (a : ℕ) (v : V) (r : List (ℕ × Code)) (f : Frame)
    (o : Option Code) (code : Code)
    → o ≡ Some code → EncoderIs e a v r → EncoderIs (numbered step e f o) a v r
numbered_kept step e a v r f (Some c) code is_o is = record { address = is.address; value = is.value; ring = is.ring }
numbered_kept step e a v r f None code is_o is = cc

pub numbered_fresh : {V : Type 0} (step : Step V) (e : EncoderState V) (a : ℕ) (v : V) (r : List (ℕ × Code)) (f : Frame)
    (o : Option Code)
    → o ≡ None → is_next r f.counter ≡ true → EncoderIs e a v r
    → EncoderIs (numbered step e f o) a (step v f.message).0 (keep r f.counter (step v f.message).1)
numbered_fresh step e a v r f (Some c) is_o next is = cc
numbered_fresh step e a v r f None is_o next is = rw (ap (λ ring. is_next ring f.counter) is.ring ∙ next) (record {
  address = is.address;
  value = ap (λ x. (step x f.message).0) is.value;
  ring = rw (is.ring, is.value);
})

-- a code comes back from its byte
pub code_of_byte-byte_of : (c : Code) → code_of_byte (byte_of c) ≡ Some c
unfolding code_of_byte
code_of_byte-byte_of Applied = refl
code_of_byte-byte_of UnknownElement = refl
code_of_byte-byte_of DataSet = refl
code_of_byte-byte_of Service = refl
code_of_byte-byte_of OutOfRange = refl
code_of_byte-byte_of ElementLength = refl
code_of_byte-byte_of NotHere = refl
code_of_byte-byte_of BufferFull = refl

-- a reply acknowledges where its counter waits
pub acknowledges_reply : (s : ServerState) (a l : ℕ) (hs : List Held) (counter : ℕ) (code : Code) → ServerIs s a l hs
    → acknowledges s (reply_of a counter code) ≡ cond (waits_for (waiting_among hs) counter) (Some (counter, code)) None
acknowledges_reply s a l hs counter code is = rw (is.held, is.address, eq-eqb a a refl, code_of_byte-byte_of code) refl

-- a reply to a message that waits marks it, and lets go what may go
pub heard_match : (s : ServerState) (a l : ℕ) (hs : List Held) (counter : ℕ) (code : Code)
    → waits_for (waiting_among hs) counter ≡ true → ServerIs s a l hs
    → ServerIs (heard_finding s (Ok (reply_of a counter code))) a l (freed_of (marked_at counter hs))
heard_match s a l hs counter code waits is =
    rw (acknowledges_reply s a l hs counter code is, waits)
    (record { address = is.address; last = is.last; held = ap (λ x. freed_of (marked_at counter x)) is.held })

-- a reply to another counter is stray
pub heard_other : (s : ServerState) (a l : ℕ) (hs : List Held) (counter : ℕ) (code : Code)
    → waits_for (waiting_among hs) counter ≡ false → ServerIs s a l hs
    → ServerIs (heard_finding s (Ok (reply_of a counter code))) a l hs
heard_other s a l hs counter code waits is =
    rw (acknowledges_reply s a l hs counter code is, waits)
    (record { address = is.address; last = is.last; held = is.held })

-- Bytes.

-- bytes with no frame change the encoder's counts and its open part alone
pub fed_faults : {V : Type 0} (step : Step V) (e : EncoderState V) (a : ℕ) (v : V) (r : List (ℕ × Code)) (x : List ℕ)
    → has_frame (found_beyond e.part x) ≡ false → EncoderIs e a v r → EncoderIs (fed step e x) a v r
fed_faults step e a v r x none is =
    after_faults step (record e { part = open_beyond e.part x }) a v r (found_beyond e.part x) none
    (record { address = is.address; value = is.value; ring = is.ring })

pub heard_bytes_faults : (s : ServerState) (a l : ℕ) (hs : List Held) (x : List ℕ)
    → has_frame (found_beyond s.part x) ≡ false → ServerIs s a l hs → ServerIs (heard s x) a l hs
heard_bytes_faults s a l hs x none is =
    heard_faults (record s { part = open_beyond s.part x }) a l hs (found_beyond s.part x) none
    (record { address = is.address; last = is.last; held = is.held })

-- a frame comes as one finding to an end that is as it was, but for its counts and its open part
pub fed_frame : {V : Type 0} (step : Step V) (e : EncoderState V) (a : ℕ) (v : V) (r : List (ℕ × Code)) (f : Frame)
    → length f.message ≤ 255 → EncoderIs e a v r
    → (e' : EncoderState V) × EncoderIs e' a v r × (fed step e (spelling f) ≡ after_finding step e' (Ok f))
fed_frame step e a v r f is_f is =
    let w = whole e.part f is_f in
    let e1 : EncoderState _ = record e { part = open_beyond e.part (spelling f) } in (
      after_findings step e1 w.0,
      after_faults step e1 a v r w.0 w.1 (record { address = is.address; value = is.value; ring = is.ring }),
      ap (after_findings step e1) w.2 ∙ after_findings-append step e1 w.0 (Ok f ∷ []),
    )

pub heard_frame : (s : ServerState) (a l : ℕ) (hs : List Held) (f : Frame)
    → length f.message ≤ 255 → ServerIs s a l hs
    → (s' : ServerState) × ServerIs s' a l hs × (heard s (spelling f) ≡ heard_finding s' (Ok f))
heard_frame s a l hs f is_f is =
    let w = whole s.part f is_f in
    let s1 : ServerState = record s { part = open_beyond s.part (spelling f) } in (
      heard_findings s1 w.0,
      heard_faults s1 a l hs w.0 w.1 (record { address = is.address; last = is.last; held = is.held }),
      ap (heard_findings s1) w.2 ∙ heard_findings-append s1 w.0 (Ok f ∷ []),
    )

-- The open part.

freed-part : (s : ServerState) (o : Option (ℕ × Code)) → (freed s o).part ≡ s.part
freed-part s None = refl
freed-part s (Some reply) = refl

heard_findings-part : (s : ServerState) (fs : List Finding) → (heard_findings s fs).part ≡ s.part
heard_findings-part s [] = refl
heard_findings-part s (Err n ∷ fs) = heard_findings-part (heard_finding s (Err n)) fs
heard_findings-part s (Ok f ∷ fs) = heard_findings-part (heard_finding s (Ok f)) fs ∙ freed-part s (acknowledges s f)

pub heard-part : (s : ServerState) (x : List ℕ) → (heard s x).part ≡ open_beyond s.part x
heard-part s x = heard_findings-part (record s { part = open_beyond s.part x }) (found_beyond s.part x)

-- noise that goes on quietly finds no frame
pub quiet_rest : (o : OpenPart) (z x : List ℕ) → o ≡ open_part z → is_quiet (z ++ x) ≡ true
    → has_frame (found_beyond o x) ≡ false
quiet_rest o z x is quiet =
    rw is (has_frame-append (found z) (found_beyond (open_part z) x) (rw found_more at (no_frame (z ++ x) quiet)))
