-- What a frame that the line lets pass does: for the call that delivers it.
use Rattle.std.proofs.Common.{◌≡◌, ℕ, ◌+◌, ◌%◌, ◌<◌, ◌≤◌, ◌==◌, Bool, true, false, cond, List, [], ◌∷◌, ◌++◌, length}
use Rattle.std.proofs.Common.{get_or, Option, Some, None, Ok, Err, refl, ap, sym, subst, ◌∙◌, arith}
use Rattle.std.specs.Prelude.{is_some, slice_get}
use Rattle.std.specs.List.{last_or, cons_option}
use Rattle.std.proofs.lemmas.Bool.{lt-ltb, le-leb, ne_eqb, false≢true, ltb-false}
use Rattle.std.proofs.lemmas.List.{get_or_default}
use Rattle.uecp_elements.specs.declared.code.Code.{Code}
use Rattle.reply_ring.specs.Ring.{kept_code}
use Rattle.uecp_frame.specs.declared.frame.Frame.{Frame}
use Rattle.uecp_frame.specs.Address.{reaches}
use Rattle.uecp_frame.specs.Frame.{spelling}
use Rattle.uecp_frame.specs.Findings.{Finding, has_frame}
use Rattle.uecp_frame.specs.Beyond.{found_beyond, open_beyond}
use Rattle.uecp_encoder.specs.Target.{Step, Taken}
use Rattle.uecp_encoder.specs.State.{EncoderState, raised, is_next, applied, numbered, after_finding, after_findings}
use Rattle.uecp_encoder.specs.State.{fed}
use Rattle.uecp_link.specs.Counters.{counter_of}
use Rattle.uecp_link.specs.declared.stepped.Stepped.{Stepped}
use Rattle.uecp_encoder.specs.ReplyCodes.{coded, reply_to, replies_to, replies}
use Rattle.uecp_link.specs.Once.{Event, FrameComes, Delivered, NotNext, message_at, delivery}
use Rattle.uecp_link.specs.Law.{frame_of, Fits}
use Rattle.uecp_link.specs.Holds.{LineState, let_go, once_of, IsLine}
use Rattle.uecp_link.specs.Once.{is_next as is_next_number}
use Rattle.uecp_link.specs.Events.{answer_seen}
use Rattle.std.specs.Option.{option_map_or}
use Rattle.uecp_link.specs.Next.{line_next, codes_with, codes_next, codes_by, delivered_by, Passes, Goes}
use Rattle.uecp_link.proofs.Wire.{whole}
use Rattle.uecp_link.proofs.Hearing.{after_faults, reaches_self}
use Rattle.uecp_link.proofs.Steps.{ring_answers, in_turn}
use Rattle.uecp_link.proofs.Least.{next_number}
use Rattle.uecp_link.proofs.Goes.{stays}

-- faults are not replied to
last_or-faults : {V : Type 0} (step : Step V) (e : EncoderState V) (xs ys : List Finding) → has_frame xs ≡ false
    → last_or None (replies_to step e (xs ++ ys)) ≡ last_or None (replies_to step (after_findings step e xs) ys)
last_or-faults step e [] ys h = refl
last_or-faults step e (Err fault ∷ xs) ys h = last_or-faults step (after_finding step e (Err fault)) xs ys h
last_or-faults step e (Ok f ∷ xs) ys h = absurd (cc)

-- the reply to a number's frame, by the code that the line has for it
abbrev pub reply_for : {V : Type 0} → Step V → LineState V → ℕ → Option Code → Bool → Option (Bool × Code)
reply_for step line k (Some code) next = Some (false, code)
reply_for step line k None next = cond next (Some (true, (step line.encoder.value (message_at line.sent k)).1)) None

-- the last of one reply, or of none
last_or-one : {A : Type 0} (r : Option A) → last_or None (cons_option r []) ≡ r
last_or-one None = refl
last_or-one (Some x) = refl

module _ {V : Type 0} (step : Step V) (taken : Taken V) (line : LineState V) (is : IsLine line) (k : ℕ)
    (below : k < length line.sent) (near : length line.sent ≤ k + 127) (bytes : List ℕ)
    (spelled : bytes ≡ spelling (frame_of line.encoder.address (once_of line) k)) where
  abbrev next : Bool
  next = is_next_number (slice_get line.codes) (length line.sent) k

  passes : Passes line (FrameComes k)
  passes = rw (lt-ltb k (length line.sent) below, le-leb (length line.sent) (k + 127) near) refl

  pub replied : last_or None (replies step line.encoder bytes) ≡ reply_for step line k (slice_get line.codes k) next
  replied =
      let f : Frame = frame_of line.encoder.address (once_of line) k in
      let w = whole line.encoder.part f (is.fits k) in
      let e : EncoderState V = line.encoder in
      let e2 : EncoderState V = after_findings step e w.0 in
      let same = after_faults step e e.address e.value e.ring w.0 w.1
      (record { address = refl; value = refl; ring = refl }) in
      let reached : reaches e.address e2.address ≡ true = rw same.address (reaches_self e.address) in
      let some_number : counter_of k ≡ 0 → ⊥ = λ h. omega arith in
      let known : kept_code e2.ring (counter_of k) ≡ slice_get line.codes k =
      rw same.ring (ring_answers e.address e line.server (once_of line) (length line.codes) (let_go line) is k below
      near) in
      let turn : slice_get line.codes k ≡ None → is_next e2.ring (counter_of k) ≡ next =
      λ none. ap (λ ring. is_next ring (counter_of k)) (same.ring ∙ is.encoder.ring)
      ∙ (in_turn e.address e line.server (once_of line) (length line.codes) (let_go line) is k below none
      ∙ sym (next_number (slice_get line.codes) (length line.codes) (length line.sent) k is.applied is.p_le)) in
      let one : reply_to step e2 (Ok f) ≡ coded step e2 f (slice_get line.codes k) =
      rw (reached, ne_eqb (counter_of k) 0 some_number, known) refl in
      ap (λ bs. last_or None (replies step e bs)) spelled
      ∙ ap (λ fs. last_or None (replies_to step e fs)) w.2
      ∙ last_or-faults step e w.0 (Ok f ∷ []) w.1
      ∙ last_or-one (reply_to step e2 (Ok f))
      ∙ (one ∙ go e2 same.value (slice_get line.codes k) turn)
    where
      go : (e2 : EncoderState V) → e2.value ≡ line.encoder.value → (o : Option Code)
          → (o ≡ None → is_next e2.ring (counter_of k) ≡ next)
          → coded step e2 (frame_of line.encoder.address (once_of line) k) o ≡ reply_for step line k o next
      go e2 h (Some code) turn = refl
      go e2 h None turn =
          ap (λ b. cond b (Some (true, (step e2.value (message_at line.sent k)).1)) None) (turn refl)
          ∙ ap (λ v. cond next (Some (true, (step v (message_at line.sent k)).1)) None) h

  -- a fresh reply is to a number that was not applied, for whose code there is room
  pub fresh_room : (code : Code) → last_or None (replies step line.encoder bytes) ≡ Some (true, code)
      → length line.codes < length line.sent
  fresh_room code h = go (slice_get line.codes k) refl (sym replied ∙ h)
    where
      go : (o : Option Code) → slice_get line.codes k ≡ o → reply_for step line k o next ≡ Some (true, code)
          → length line.codes < length line.sent
      go (Some c) e h = absurd (false≢true
          (ap (λ (r : Option (Bool × Code)). option_map_or (λ (p : Bool × Code). p.0) r true) h))
      go None e h = let past = sym (is.applied k) ∙ ap is_some e in omega (arith, ltb-false k (length line.codes) past)

  -- the codes after it, by the reply
  codes_are : codes_by line.codes (reply_for step line k (slice_get line.codes k) next)
      ≡ codes_next step line (FrameComes k)
  codes_are = go (slice_get line.codes k) next
    where
      go : (o : Option Code) (b : Bool) → codes_by line.codes (reply_for step line k o b)
          ≡ codes_with line.codes o b (step line.encoder.value (message_at line.sent k)).1
      go (Some c) b = refl
      go None true = refl
      go None false = refl

  answered : answer_seen (delivered_by (reply_for step line k (slice_get line.codes k) next))
      ≡ delivery step (once_of line) k (slice_get line.codes k)
  answered = go (slice_get line.codes k)
    where
      by : (b : Bool) (c : Code) → answer_seen (delivered_by (cond b (Some (true, c)) None))
          ≡ cond b (Delivered true c) NotNext
      by true c = refl
      by false c = refl

      go : (o : Option Code) → answer_seen (delivered_by (reply_for step line k o next))
          ≡ delivery step (once_of line) k o
      go (Some c) = refl
      go None = by next (step line.encoder.value (message_at line.sent k)).1

  -- the line with the fed encoder and these codes is the next
  is_next_line : (e : EncoderState V) (cs : List Code) → e ≡ fed step line.encoder bytes
      → cs ≡ codes_next step line (FrameComes k)
      → ◌≡◌ {A = LineState V} (record { encoder = e; server = line.server; sent = line.sent; codes = cs })
      (line_next step taken line (FrameComes k))
  is_next_line e cs e_is cs_is =
      ap (λ x. record { encoder = x; server = line.server; sent = line.sent; codes = cs })
      (e_is ∙ ap (fed step line.encoder) spelled)
      ∙ ap (λ x. record {
        encoder = fed step line.encoder (spelling (frame_of line.encoder.address (once_of line) k));
        server = line.server;
        sent = line.sent;
        codes = x;
      }) cs_is

  -- what the call owes
  pub delivers : (reply : Option (Bool × Code)) → reply ≡ last_or None (replies step line.encoder bytes)
      → (e : EncoderState V) (cs : List Code) → e ≡ fed step line.encoder bytes → cs ≡ codes_by line.codes reply
      → Goes step taken line (FrameComes k) (delivered_by reply)
      (record { encoder = e; server = line.server; sent = line.sent; codes = cs })
  delivers reply said e cs e_is cs_is =
      let reply_is : reply ≡ reply_for step line k (slice_get line.codes k) next = said ∙ replied in
      record {
        line = is;
        passes = passes;
        answer = ap (λ r. answer_seen (delivered_by r)) reply_is ∙ answered;
        next = is_next_line e cs e_is (cs_is ∙ (ap (codes_by line.codes) reply_is ∙ codes_are));
      }

-- what goes through stays a line
pub goes_stays : {V : Type 0} (step : Step V) (taken : Taken V) (line line' : LineState V) (event : Event)
    (answer : Stepped) → Fits event → Goes step taken line event answer line' → IsLine line'
goes_stays step taken line line' event answer fit goes =
    subst (λ (l : LineState _). IsLine l) (sym goes.next) (stays step taken line event fit goes.passes goes.line)

-- the bytes that were spelled are those of the number's frame
pub spelled_from : {V : Type 0} (line : LineState V) (k a counter : ℕ) (m bytes result : List ℕ)
    → a ≡ line.encoder.address → counter ≡ 1 + k % 255 → k < length line.sent → m ≡ get_or line.sent k m
    → result ≡ spelling (record { address = a; counter = counter; message = m }) → bytes ≡ result
    → bytes ≡ spelling (frame_of line.encoder.address (once_of line) k)
spelled_from line k a counter m bytes result a_is counter_is below m_is spelled same =
    let m_at : m ≡ message_at line.sent k = m_is ∙ get_or_default line.sent k m [] below in
    same ∙ (spelled ∙ (ap (λ x. spelling (record { address = x; counter = counter; message = m })) a_is
    ∙ (ap (λ x. spelling (record { address = line.encoder.address; counter = x; message = m })) counter_is
    ∙ ap (λ x. spelling (record { address = line.encoder.address; counter = 1 + k % 255; message = x })) m_at)))

-- findings leave the address
pub findings_address : {V : Type 0} (step : Step V) (e : EncoderState V) (fs : List Finding)
    → (after_findings step e fs).address ≡ e.address
findings_address step e [] = refl
findings_address step e (Err fault ∷ fs) = findings_address step (after_finding step e (Err fault)) fs
findings_address step e (Ok f ∷ fs) = findings_address step (after_finding step e (Ok f)) fs
    ∙ go (reaches f.address e.address) (f.counter == 0) (kept_code e.ring f.counter)
  where
    go : (r z : Bool) (o : Option Code)
        → (cond r (cond z (record e { counts = record e.counts { unnumbered = raised e.counts.unnumbered } })
        (numbered step e f o)) (record e {
          counts = record e.counts { not_for_me = raised e.counts.not_for_me };
        })).address ≡ e.address
    go true true o = refl
    go true false None = by (is_next e.ring f.counter)
      where
        by : (n : Bool) → (cond n (applied step e f) e).address ≡ e.address
        by true = refl
        by false = refl
    go true false (Some c) = refl
    go false z o = refl

pub fed_address : {V : Type 0} (step : Step V) (e : EncoderState V) (bytes : List ℕ)
    → (fed step e bytes).address ≡ e.address
fed_address step e bytes = findings_address step (record e { part = open_beyond e.part bytes })
    (found_beyond e.part bytes)

pub frame_address : {V : Type 0} (step : Step V) (taken : Taken V) (line : LineState V) (k : ℕ)
    → (line_next step taken line (FrameComes k)).encoder.address ≡ line.encoder.address
frame_address step taken line k = fed_address step line.encoder
    (spelling (frame_of line.encoder.address (once_of line) k))

-- bytes in which a frame does not stand are quiet
pub is_quiet_then : (b : Bool) → (b ≡ true → true ≡ false) → b ≡ false
is_quiet_then true h = h refl
is_quiet_then false h = refl
