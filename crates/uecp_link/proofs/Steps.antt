-- What every event keeps.
use Rattle.std.proofs.Common.{◌≡◌, ℕ, suc, ◌+◌, ◌<◌, ◌≤◌, ◌-◌, ◌||◌, ◌==◌, Bool, true, false, cond, List, [], ◌∷◌, ◌++◌}
use Rattle.std.proofs.Common.{length, take, Option, Some, None, nat_lt, refl, ap, sym, ◌∙◌, arith, inl, inr}
use Rattle.std.proofs.Common.{length-append, Ok}
use Rattle.std.specs.Prelude.{is_some, is_none, unwrap_or}
use Rattle.std.proofs.lemmas.Bool.{cases_Bool, cases_eq, eqb-true, ltb-true, ltb-false, lt-ltb, le-ltb, cases_lt}
use Rattle.std.proofs.lemmas.Bool.{leb-true, false≢true}
use Rattle.uecp_elements.specs.declared.code.Code.{Code}
use Rattle.uecp_elements.specs.declared.code.Code.TheVariants.{Applied}
use Rattle.uecp_frame.specs.Findings.{has_frame, is_quiet, Closed, open_part}
use Rattle.uecp_frame.specs.Beyond.{found_beyond, open_beyond}
use Rattle.uecp_frame.specs.Frame.{spelling}
use Rattle.uecp_frame.specs.Address.{reaches}
use Rattle.uecp_encoder.specs.Target.{Step, Taken}
use Rattle.reply_ring.specs.Ring.{kept_code, keep}
use Rattle.uecp_encoder.specs.State.{EncoderState, restarted, fed, applied, numbered}
use Rattle.uecp_encoder.specs.State.{is_next as is_next_kept}
use Rattle.uecp_encoder.specs.Answering.{reply_of}
use Rattle.uecp_link.specs.Counters.{is_recent, counter_of, next_counter}
use Rattle.uecp_link.specs.Server.{ServerState, Held, restarted_server, is_marked, freed_of, heard}
use Rattle.uecp_link.specs.Server.{submitted, heard_finding}
use Rattle.uecp_link.specs.Once.{Event, Submit, FrameComes, ReplyComes, NoiseToEncoder, NoiseToServer, EncoderLost}
use Rattle.uecp_link.specs.Once.{ServerLost, EncoderRestart, ServerRestart, Take, Once, message_at, least_missing}
use Rattle.uecp_link.specs.Once.{has_room, with_code, with_member, refusal_of, after, applied_once, delivered}
use Rattle.uecp_link.specs.Once.{is_next as is_next_number}
use Rattle.uecp_link.specs.Law.{frame_of, encoder_after, server_after, reply_bytes, Fits}
use Rattle.uecp_link.specs.Kept.{pairs, last_counter, code_at, held_from, IsMessage, EncoderIs, ServerIs, Kept, Hears}
use Rattle.uecp_encoder.proofs.Public.{fed-part}
use Rattle.uecp_link.proofs.Wire.{found_none, left_none, left_more, ended}
use Rattle.uecp_link.proofs.Ring.{pairs_agree, kept_code-found, kept_code-absent, keep_next}
use Rattle.uecp_link.proofs.Hearing.{fed_faults, heard_bytes_faults, fed_frame, heard_frame, after_whole, heard-part}
use Rattle.uecp_link.proofs.Hearing.{quiet_rest, heard_match, heard_other, reaches_self}
use Rattle.uecp_link.proofs.Numbering.{last_counter-next, last_counter-at, code_at-some, some_code_at, none_of}
use Rattle.uecp_link.proofs.Numbering.{is_none-of, with_code-same, with_code-other, with_code-next, with_member-other}
use Rattle.uecp_link.proofs.Numbering.{with_member-old, with_member-true, fits_push}
use Rattle.uecp_link.proofs.HeldNumbers.{held_from-agree, held_from-submitted, marked-held, freed-held}
use Rattle.uecp_link.proofs.HeldNumbers.{length-held_from, waits_not, waits_so}
use Rattle.uecp_link.proofs.Least.{least_is, next_number, turn_is, marked_or_gone}

-- how many are applied after an event that is not refused
abbrev pub one_more : ℕ → Option Code → Bool → ℕ
one_more p None next = cond next (p + 1) p
one_more p (Some code) next = p

abbrev pub applied_after : {V : Type 0} → Once V → Event → ℕ → ℕ
applied_after o (FrameComes k) p = one_more p (o.codes k) (is_next_number o.codes (length o.sent) k)
applied_after o _ p = p

-- all that were sent are acknowledged up to the last eight at most
pub sent_le : {V : Type 0} (address : ℕ) (e : EncoderState V) (s : ServerState) (o : Once V) (p q : ℕ)
    → Kept address e s o p q → (q ≤ length o.sent) × (length o.sent ≤ q + 8)
sent_le address e s o p q kept = (omega (arith, kept.count_is), omega (arith, kept.count_is, kept.few))

-- the least number that is not acknowledged is q
pub least_acknowledged : {V : Type 0} (address : ℕ) (e : EncoderState V) (s : ServerState) (o : Once V) (p q : ℕ)
    → Kept address e s o p q → least_missing o.acknowledged (length o.sent) ≡ q
least_acknowledged address e s o p q kept = least_is o.acknowledged q kept.count (length o.sent) kept.count_is
    kept.below kept.oldest

-- the server holds all but the first q
pub let_go_is : {V : Type 0} (address : ℕ) (e : EncoderState V) (s : ServerState) (o : Once V) (p q : ℕ)
    → Kept address e s o p q → length o.sent - length s.held ≡ q
let_go_is address e s o p q kept =
    let held : length s.held ≡ kept.count = ap length kept.server.held
    ∙ length-held_from o.sent o.acknowledged q kept.count in
    omega (arith, held, kept.count_is)

-- what the server shows to be acknowledged is
pub acknowledged_are : {V : Type 0} (address : ℕ) (e : EncoderState V) (s : ServerState) (o : Once V) (p q : ℕ)
    → Kept address e s o p q
    → (k : ℕ) → (nat_lt k (length o.sent - length s.held) || is_marked s.held (k - (length o.sent - length s.held)))
    ≡ o.acknowledged k
acknowledged_are address e s o p q kept k =
    ap (λ (x : ℕ). nat_lt k x || is_marked s.held (k - x)) (let_go_is address e s o p q kept)
    ∙ (ap (λ (hs : List Held). nat_lt k q || is_marked hs (k - q)) kept.server.held
    ∙ marked_or_gone o.sent o.acknowledged q kept.count (length o.sent) kept.count_is kept.below
    (λ j there. let l : j < p = kept.within j there in omega (arith, l, kept.p_le)) k)

-- What is known of an event that is not refused.

pub recent_le : (n k : ℕ) → is_recent n k ≡ true → n ≤ k + 127
recent_le n k h = leb-true n (k + 127) h

pub test_of : {A : Type 0} (b c : Bool) (x y : A) → is_none (cond b (cond c None (Some x)) (Some y)) ≡ true
    → (b ≡ true) × (c ≡ true)
test_of true true x y h = (refl, refl)
test_of true false x y h = cc
test_of false c x y h = cc

test_of_one : {A : Type 0} (b : Bool) (x : A) → is_none (cond b None (Some x)) ≡ true → b ≡ true
test_of_one true x h = refl
test_of_one false x h = cc

-- the ring answers for each recent number as the map does
pub ring_answers : {V : Type 0} (address : ℕ) (e : EncoderState V) (s : ServerState) (o : Once V) (p q : ℕ)
    → Kept address e s o p q
    → (k : ℕ) → k < length o.sent → length o.sent ≤ k + 127 → kept_code e.ring (counter_of k) ≡ o.codes k
ring_answers address e s o p q kept k l r =
    rw kept.encoder.ring (elim (cases_lt k p) [
      | inl below ↦
          let some : is_some (o.codes k) ≡ true = kept.applied k ∙ lt-ltb k p below in
          let near : p ≤ k + 127 = omega (arith, kept.p_le) in
          kept_code-found kept.base (code_at o.codes) 127 p k (omega arith) below near ∙ some_code_at (o.codes k) some
      | inr above ↦
          let none : is_some (o.codes k) ≡ false = kept.applied k ∙ le-ltb k p above in
          let far : k + 127 < p + 255 = omega (arith, kept.q_le, kept.count_is, kept.few) in
          kept_code-absent kept.base (code_at o.codes) 127 p k kept.ready above far ∙ none_of (o.codes k) none
    ])

-- of the numbers that are not applied, the encoder takes the next alone
pub in_turn : {V : Type 0} (address : ℕ) (e : EncoderState V) (s : ServerState) (o : Once V) (p q : ℕ)
    (kept : Kept address e s o p q)
    → (k : ℕ) → k < length o.sent → o.codes k ≡ None
    → is_next_kept (take 127 (pairs kept.base (code_at o.codes) p)) (counter_of k) ≡ (k == p)
in_turn address e s o p q kept k below is =
    let n = sent_le address e s o p q kept in
    let above : p ≤ k = ltb-false k p (sym (kept.applied k) ∙ is_none-of (o.codes k) is) in
    turn_is kept.base kept.ready o.codes p k above (omega (arith, n.1, kept.q_le))

pub reply_fits : (address k : ℕ) (code : Code) → length (reply_of address (counter_of k) code).message ≤ 255
reply_fits address k code = omega arith

-- keeping the next number's code
pub ring_next : (base : List (ℕ × Code)) (codes : ℕ → Option Code) (p k : ℕ) (c : Code) → k ≡ p
    → keep (take 127 (pairs base (code_at codes) p)) (counter_of k) c
    ≡ take 127 (pairs base (code_at (with_code codes k c)) (p + 1))
ring_next base codes p k c e =
    let codes' : ℕ → Option Code = with_code codes k c in
    let agree : pairs base (code_at codes) p ≡ pairs base (code_at codes') p =
    pairs_agree base (code_at codes) (code_at codes') p
    (λ j l. ap (λ o. unwrap_or o Applied) (sym (with_code-other codes k c j (omega arith)))) in
    let here : code_at codes' p ≡ c = ap (code_at codes') (sym e)
    ∙ code_at-some codes' k c (with_code-same codes k c) in
    let more : suc p ≡ p + 1 = omega arith in
    ap (λ xs. keep (take 127 xs) (counter_of k) c) agree
    ∙ (ap (λ j. keep (take 127 (pairs base (code_at codes') p)) (counter_of j) c) e
    ∙ (ap (λ d. keep (take 127 (pairs base (code_at codes') p)) (counter_of p) d) (sym here)
    ∙ (keep_next base (code_at codes') p
    ∙ ap (λ n. take 127 (pairs base (code_at codes') n)) more)))

pub quiet_none : is_quiet [] ≡ true
quiet_none = rw found_none refl

-- The events.

-- what is known of the numbers stays where the ends, the value and the noise alone change
with_ends : {V : Type 0} (address : ℕ) (e : EncoderState V) (s : ServerState) (o : Once V) (p q : ℕ)
    (kept : Kept address e s o p q) (e' : EncoderState V) (s' : ServerState) (value : V) (x y : List ℕ)
    → EncoderIs e' address value (take 127 (pairs kept.base (code_at o.codes) p))
    → ServerIs s' address (last_counter (length o.sent)) (held_from o.sent o.acknowledged q kept.count)
    → Kept address e' s' (record o { value = value; to_encoder = x; to_server = y }) p q
with_ends address e s o p q kept e' s' value x y encoder server = record {
  encoder = encoder;
  server = server;
  base = kept.base;
  ready = kept.ready;
  count = kept.count;
  count_is = kept.count_is;
  few = kept.few;
  below = kept.below;
  oldest = kept.oldest;
  applied = kept.applied;
  within = kept.within;
  p_le = kept.p_le;
  q_le = kept.q_le;
  fits = kept.fits;
}

module _ {V : Type 0} (step : Step V) (taken : Taken V) (address : ℕ) where
  pub keeps_submit : (e : EncoderState V) (s : ServerState) (o : Once V) (p q : ℕ) (m : List ℕ) → IsMessage m
      → is_none (refusal_of o (Submit m)) ≡ true
      → Kept address e s o p q → Kept address e (submitted s m) (after step taken o (Submit m)) p q
  keeps_submit e s o p q m fit open_ kept =
      let room : length o.sent < q + 8 =
      (let l = ltb-true (length o.sent) (least_missing o.acknowledged (length o.sent) + 8)
      (test_of_one (has_room o.acknowledged (length o.sent)) _ open_) in
      omega (arith, l, least_acknowledged address e s o p q kept)) in
      let n : ℕ = length o.sent in
      let more : length (o.sent ++ m ∷ []) ≡ n + 1 = length-append o.sent (m ∷ []) in
      let new : o.acknowledged n ≡ false = elim (cases_Bool (o.acknowledged n)) [
        | inl acked ↦ let under : n < p = kept.within n acked in absurd (omega (arith, under, kept.p_le))
        | inr unacked ↦ unacked
      ] in
      let counter : next_counter s.last ≡ counter_of n =
      ap next_counter kept.server.last ∙ last_counter-next n ∙ last_counter-at (n + 1) n refl in
      record {
        encoder = kept.encoder;
        count = suc kept.count;
        server = record {
          address = kept.server.address;
          last = rw (kept.server.last, more) (last_counter-next (length o.sent));
          held =
              ap (λ hs. hs ++ record { counter = next_counter s.last; message = m; marked = false } ∷ [])
              kept.server.held
              ∙ ap (λ (c : ℕ). held_from o.sent o.acknowledged q kept.count
              ++ record { counter = c; message = m; marked = false } ∷ []) counter
              ∙ held_from-submitted o.sent m o.acknowledged q kept.count n refl kept.count_is new;
        };
        base = kept.base;
        ready = kept.ready;
        count_is = omega (arith, more, kept.count_is);
        few = omega (arith, room, kept.count_is);
        below = kept.below;
        oldest = λ _. elim (cases_lt 0 kept.count) [
          | inl some ↦ kept.oldest some
          | inr none ↦ ap o.acknowledged (let last : q ≡ n = omega (arith, none, kept.count_is) in last) ∙ new
        ];
        applied = kept.applied;
        within = kept.within;
        p_le = omega (arith, more, kept.p_le);
        q_le = kept.q_le;
        fits = fits_push o.sent m fit kept.fits;
      }

  pub keeps_frame : (e : EncoderState V) (s : ServerState) (o : Once V) (p q k : ℕ)
      → is_none (refusal_of o (FrameComes k)) ≡ true
      → Kept address e s o p q → Kept address (fed step e (spelling (frame_of address o k))) s
      (after step taken o (FrameComes k)) (applied_after o (FrameComes k) p) q
  keeps_frame e s o p q k open_ kept =
      let tests = test_of (nat_lt k (length o.sent)) (is_recent (length o.sent) k) _ _ open_ in
      let below : k < length o.sent = ltb-true k (length o.sent) tests.0 in
      let near : length o.sent ≤ k + 127 = recent_le (length o.sent) k tests.1 in
      let answers : kept_code e.ring (counter_of k) ≡ o.codes k = ring_answers address e s o p q kept k below near in
      let came = fed_frame step e address o.value (take 127 (pairs kept.base (code_at o.codes) p))
      (frame_of address o k) (kept.fits k) kept.encoder in
      let reached : reaches address came.0.address ≡ true = rw came.1.address (reaches_self address) in
      let some_number : counter_of k ≡ 0 → ⊥ = λ h. omega arith in
      let whole : fed step e (spelling (frame_of address o k))
      ≡ numbered step came.0 (frame_of address o k) (kept_code came.0.ring (counter_of k)) =
      came.2 ∙ after_whole step came.0 (frame_of address o k) reached some_number in
      let known : kept_code came.0.ring (counter_of k) ≡ o.codes k = rw (came.1.ring, ← kept.encoder.ring) answers in
      rw (whole, known) (go (o.codes k) refl came.0 came.1 below)
    where
      -- a frame that is not applied
      passed : (e' : EncoderState V) → EncoderIs e' address o.value (take 127 (pairs kept.base (code_at o.codes) p))
          → Kept address e' s (record o { to_encoder = [] }) p q
      passed e' e'_is = with_ends address e s o p q kept e' s o.value [] o.to_server e'_is kept.server

      go : (c : Option Code) → o.codes k ≡ c → (e' : EncoderState V)
          → EncoderIs e' address o.value (take 127 (pairs kept.base (code_at o.codes) p)) → k < length o.sent
          → Kept address (numbered step e' (frame_of address o k) c) s (delivered step o k c)
          (one_more p c (is_next_number o.codes (length o.sent) k)) q
      go (Some c) is e' e'_is below =
          passed (numbered step e' (frame_of address o k) (Some c))
          (record { address = e'_is.address; value = e'_is.value; ring = e'_is.ring })
      go None is e' e'_is below =
          let turn : is_next_kept e'.ring (counter_of k) ≡ (k == p) =
          ap (λ ring. is_next_kept ring (counter_of k)) e'_is.ring ∙ in_turn address e s o p q kept k below is in
          rw (turn, next_number o.codes p (length o.sent) k kept.applied kept.p_le) (by (k == p) refl)
        where
          m : List ℕ
          m = message_at o.sent k

          by : (b : Bool) → (k == p) ≡ b → Kept address (cond b (applied step e' (frame_of address o k)) e') s
              (cond b (applied_once step o k) (record o { to_encoder = [] })) (cond b (p + 1) p) q
          by true same =
              let next : k ≡ p = eqb-true k p same in
              let code : Code = (step o.value m).1 in
              record {
                encoder = record {
                  address = e'_is.address;
                  value = ap (λ x. (step x m).0) e'_is.value;
                  ring = ap (λ r. keep r (counter_of k) (step e'.value m).1) e'_is.ring
                      ∙ (ap (λ x. keep (take 127 (pairs kept.base (code_at o.codes) p)) (counter_of k) (step x m).1)
                      e'_is.value ∙ ring_next kept.base o.codes p k code next);
                };
                count = kept.count;
                server = kept.server;
                base = kept.base;
                ready = kept.ready;
                count_is = kept.count_is;
                few = kept.few;
                below = kept.below;
                oldest = kept.oldest;
                applied = λ j. with_code-next o.codes k code (λ i. kept.applied i ∙ ap (nat_lt i) (sym next)) j
                    ∙ ap (λ x. nat_lt j (x + 1)) next;
                within = λ j acked. let under : j < p = kept.within j acked in omega (arith, under);
                p_le = omega (arith, below, next);
                q_le = omega (arith, kept.q_le);
                fits = kept.fits;
              }
          by false other = passed e' e'_is

  pub keeps_reply : (e : EncoderState V) (s : ServerState) (o : Once V) (p q k : ℕ)
      → is_none (refusal_of o (ReplyComes k)) ≡ true
      → Kept address e s o p q → (q' : ℕ) × Kept address e (heard s (reply_bytes address k (o.codes k)))
      (after step taken o (ReplyComes k)) p q'
  keeps_reply e s o p q k open_ kept = go (o.codes k) refl
    where
      tests : (is_some (o.codes k) ≡ true) × (is_recent (length o.sent) k ≡ true)
      tests = test_of (is_some (o.codes k)) (is_recent (length o.sent) k) _ _ open_

      near : length o.sent ≤ k + 127
      near = recent_le (length o.sent) k tests.1

      below : k < p
      below = ltb-true k p (sym (kept.applied k) ∙ tests.0)

      n : ℕ
      n = length o.sent

      set : ℕ → Bool
      set = with_member o.acknowledged k

      -- the numbers that the server holds, and which of them is the least that is not acknowledged
      kept_with : (s' : ServerState) (q' count : ℕ) → ServerIs s' address (last_counter n)
          (held_from o.sent set q' count) → n ≡ q' + count → q ≤ q' → ((j : ℕ) → q ≤ j → j < q' → set j ≡ true)
          → (0 < count → set q' ≡ false)
          → Kept address e s' (after step taken o (ReplyComes k)) p q'
      kept_with s' q' count is all from_ there least = record {
        encoder = kept.encoder;
        count = count;
        server = is;
        base = kept.base;
        ready = kept.ready;
        count_is = all;
        few = omega (arith, all, kept.count_is, kept.few, from_);
        below = below_all;
        oldest = least;
        applied = kept.applied;
        within = among;
        p_le = kept.p_le;
        q_le = elim (cases_lt p q') [
          | inl l ↦ absurd (let under : p < p = among p (below_all p l) in omega (arith, under))
          | inr g ↦ g
        ];
        fits = kept.fits;
      }
        where
          below_all : (j : ℕ) → j < q' → set j ≡ true
          below_all j l = elim (cases_lt j q) [
            | inl old ↦ with_member-true o.acknowledged k j (kept.below j old)
            | inr new ↦ there j new l
          ]

          among : (j : ℕ) → set j ≡ true → j < p
          among j acked = elim (cases_eq j k) [
            | inl e ↦ omega (arith, below, e)
            | inr ne ↦ kept.within j (sym (with_member-other o.acknowledged k j ne) ∙ acked)
          ]

      -- the reply to a number that was acknowledged before
      heard_again : (code : Code) → o.acknowledged k ≡ true → (s' : ServerState)
          → ServerIs s' address (last_counter n) (held_from o.sent o.acknowledged q kept.count)
          → (q' : ℕ) × Kept address e (heard_finding s' (Ok (reply_of address (counter_of k) code)))
          (after step taken o (ReplyComes k)) p q'
      heard_again code acked s' is =
          let other : k ≡ q → ⊥ = λ same.
          false≢true (sym (kept.oldest (omega (arith, below, kept.p_le, kept.count_is, same)))
          ∙ (ap o.acknowledged (sym same) ∙ acked)) in
          let stays = heard_other s' address (last_counter n) (held_from o.sent o.acknowledged q kept.count)
          (counter_of k) code
          (waits_not o.sent o.acknowledged k q kept.count acked (omega (arith, near, kept.count_is))
          (omega (arith, below, kept.p_le, kept.count_is, kept.few))) is in
          let agree : held_from o.sent o.acknowledged q kept.count ≡ held_from o.sent set q kept.count =
          held_from-agree o.sent o.sent o.acknowledged set q kept.count (λ j a b. refl)
          (λ j a b. sym (with_member-old o.acknowledged k acked j)) in (
            q,
            kept_with (heard_finding s' (Ok (reply_of address (counter_of k) code))) q kept.count
                (record { address = stays.address; last = stays.last; held = stays.held ∙ agree }) kept.count_is
                (omega arith) (λ j a b. absurd (omega (arith, a, b)))
                (λ some. with_member-other o.acknowledged k q (λ same. other (sym same)) ∙ kept.oldest some),
          )

      -- the first reply to a number
      heard_first : (code : Code) → o.acknowledged k ≡ false → (s' : ServerState)
          → ServerIs s' address (last_counter n) (held_from o.sent o.acknowledged q kept.count)
          → (q' : ℕ) × Kept address e (heard_finding s' (Ok (reply_of address (counter_of k) code)))
          (after step taken o (ReplyComes k)) p q'
      heard_first code unacked s' is =
          let here : q ≤ k = elim (cases_lt k q) [
            | inl l ↦ absurd (false≢true (sym unacked ∙ kept.below k l))
            | inr g ↦ g
          ] in
          let inside : k < q + kept.count = omega (arith, below, kept.p_le, kept.count_is) in
          let left = freed-held o.sent set q kept.count in
          let marks = heard_match s' address (last_counter n) (held_from o.sent o.acknowledged q kept.count)
          (counter_of k) code (waits_so o.sent o.acknowledged k q kept.count unacked here inside) is in
          let marked = marked-held o.sent o.acknowledged k q kept.count (omega (arith, near, kept.count_is))
          (omega (arith, inside, kept.few)) in (
            left.at,
            kept_with (heard_finding s' (Ok (reply_of address (counter_of k) code))) left.at left.many
                (record {
                  address = marks.address;
                  last = marks.last;
                  held = marks.held ∙ ap freed_of marked ∙ left.is;
                }) (omega (arith, left.whole, kept.count_is))
                left.from left.below left.least,
          )

      heard_as : (code : Code) (s' : ServerState) → ServerIs s' address (last_counter n)
          (held_from o.sent o.acknowledged q kept.count)
          → (q' : ℕ) × Kept address e (heard_finding s' (Ok (reply_of address (counter_of k) code)))
          (after step taken o (ReplyComes k)) p q'
      heard_as code s' is = elim (cases_Bool (o.acknowledged k)) [
        | inl acked ↦ heard_again code acked s' is
        | inr unacked ↦ heard_first code unacked s' is
      ]

      go : (c : Option Code) → o.codes k ≡ c
          → (q' : ℕ) × Kept address e (heard s (reply_bytes address k c)) (after step taken o (ReplyComes k)) p q'
      go None is = absurd (false≢true (sym (is_none-of (o.codes k) is) ∙ tests.0))
      go (Some code) is =
          let came = heard_frame s address (last_counter n) (held_from o.sent o.acknowledged q kept.count)
          (reply_of address (counter_of k) code) (reply_fits address k code) kept.server in
          rw came.2 (heard_as code came.0 came.1)

  pub keeps_noise_to_encoder : (e : EncoderState V) (s : ServerState) (o : Once V) (p q : ℕ) (x : List ℕ)
      → has_frame (found_beyond e.part x) ≡ false
      → Kept address e s o p q → Kept address (fed step e x) s (after step taken o (NoiseToEncoder x)) p q
  keeps_noise_to_encoder e s o p q x none kept =
      with_ends address e s o p q kept (fed step e x) s o.value (o.to_encoder ++ x) o.to_server
      (fed_faults step e address o.value (take 127 (pairs kept.base (code_at o.codes) p)) x none kept.encoder)
      kept.server

  pub keeps_noise_to_server : (e : EncoderState V) (s : ServerState) (o : Once V) (p q : ℕ) (x : List ℕ)
      → has_frame (found_beyond s.part x) ≡ false
      → Kept address e s o p q → Kept address e (heard s x) (after step taken o (NoiseToServer x)) p q
  keeps_noise_to_server e s o p q x none kept =
      with_ends address e s o p q kept e (heard s x) o.value o.to_encoder (o.to_server ++ x) kept.encoder
      (heard_bytes_faults s address _ (held_from o.sent o.acknowledged q kept.count) x none kept.server)

  pub keeps_encoder_lost : (e : EncoderState V) (s : ServerState) (o : Once V) (p q : ℕ) → Kept address e s o p q
      → Kept address (record e { part = Closed }) s (after step taken o EncoderLost) p q
  keeps_encoder_lost e s o p q kept =
      with_ends address e s o p q kept (record e { part = Closed }) s o.value [] o.to_server
      (record { address = kept.encoder.address; value = kept.encoder.value; ring = kept.encoder.ring }) kept.server

  pub keeps_server_lost : (e : EncoderState V) (s : ServerState) (o : Once V) (p q : ℕ) → Kept address e s o p q
      → Kept address e (record s { part = Closed }) (after step taken o ServerLost) p q
  keeps_server_lost e s o p q kept =
      with_ends address e s o p q kept e (record s { part = Closed }) o.value o.to_encoder [] kept.encoder
      (record { address = kept.server.address; last = kept.server.last; held = kept.server.held })

  pub keeps_encoder_restart : (e : EncoderState V) (s : ServerState) (o : Once V) (p q : ℕ) → Kept address e s o p q
      → Kept address (restarted e) s (after step taken o EncoderRestart) p q
  keeps_encoder_restart e s o p q kept =
      with_ends address e s o p q kept (restarted e) s o.value [] o.to_server
      (record { address = kept.encoder.address; value = kept.encoder.value; ring = kept.encoder.ring }) kept.server

  pub keeps_server_restart : (e : EncoderState V) (s : ServerState) (o : Once V) (p q : ℕ) → Kept address e s o p q
      → Kept address e (restarted_server s) (after step taken o ServerRestart) p q
  keeps_server_restart e s o p q kept =
      with_ends address e s o p q kept e (restarted_server s) o.value o.to_encoder [] kept.encoder
      (record { address = kept.server.address; last = kept.server.last; held = kept.server.held })

  pub keeps_take : (e : EncoderState V) (s : ServerState) (o : Once V) (p q : ℕ) → Kept address e s o p q
      → Kept address (encoder_after step taken address o e Take) s (after step taken o Take) p q
  keeps_take e s o p q kept =
      let value = ap (λ v. (taken v).0) kept.encoder.value in
      with_ends address e s o p q kept (encoder_after step taken address o e Take) s (taken o.value).0 o.to_encoder
      o.to_server
      (record { address = kept.encoder.address; value = value; ring = kept.encoder.ring }) kept.server

  -- an event that is not refused keeps the facts
  pub keeps : (e : EncoderState V) (s : ServerState) (o : Once V) (p q : ℕ) (event : Event) → Fits event
      → is_none (refusal_of o event) ≡ true → Hears e s o → Kept address e s o p q
      → (q' : ℕ) × Kept address (encoder_after step taken address o e event) (server_after address o s event)
      (after step taken o event) (applied_after o event p) q'
  keeps e s o p q (Submit m) fit open_ hears kept = (q, keeps_submit e s o p q m fit open_ kept)
  keeps e s o p q (FrameComes k) fit open_ hears kept = (q, keeps_frame e s o p q k open_ kept)
  keeps e s o p q (ReplyComes k) fit open_ hears kept = keeps_reply e s o p q k open_ kept
  keeps e s o p q (NoiseToEncoder x) fit open_ hears kept = (
    q,
    keeps_noise_to_encoder e s o p q x (quiet_rest e.part o.to_encoder x hears.encoder
        (test_of_one (is_quiet (o.to_encoder ++ x)) _ open_)) kept,
  )
  keeps e s o p q (NoiseToServer x) fit open_ hears kept = (
    q,
    keeps_noise_to_server e s o p q x (quiet_rest s.part o.to_server x hears.server
        (test_of_one (is_quiet (o.to_server ++ x)) _ open_)) kept,
  )
  keeps e s o p q EncoderLost fit open_ hears kept = (q, keeps_encoder_lost e s o p q kept)
  keeps e s o p q ServerLost fit open_ hears kept = (q, keeps_server_lost e s o p q kept)
  keeps e s o p q EncoderRestart fit open_ hears kept = (q, keeps_encoder_restart e s o p q kept)
  keeps e s o p q ServerRestart fit open_ hears kept = (q, keeps_server_restart e s o p q kept)
  keeps e s o p q Take fit open_ hears kept = (q, keeps_take e s o p q kept)

  -- and so do the open parts
  pub hears_after : (e : EncoderState V) (s : ServerState) (o : Once V) (p q : ℕ) (event : Event)
      → is_none (refusal_of o event) ≡ true → Kept address e s o p q → Hears e s o
      → Hears (encoder_after step taken address o e event) (server_after address o s event) (after step taken o event)
  hears_after e s o p q (Submit m) open_ kept h = record {
    encoder = h.encoder;
    server = h.server;
    encoder_quiet = h.encoder_quiet;
    server_quiet = h.server_quiet;
  }
  hears_after e s o p q (FrameComes k) open_ kept h = go (o.codes k)
    where
      closed : (fed step e (spelling (frame_of address o k))).part ≡ open_part []
      closed = fed-part step e (spelling (frame_of address o k))
          ∙ (ended e.part (frame_of address o k) (kept.fits k) ∙ sym left_none)

      go : (c : Option Code) → Hears (fed step e (spelling (frame_of address o k))) s (delivered step o k c)
      go (Some code) = record {
        encoder = closed;
        server = h.server;
        encoder_quiet = quiet_none;
        server_quiet = h.server_quiet;
      }
      go None = by (is_next_number o.codes (length o.sent) k)
        where
          by : (b : Bool) → Hears (fed step e (spelling (frame_of address o k))) s
              (cond b (applied_once step o k) (record o { to_encoder = [] }))
          by true = record {
            encoder = closed;
            server = h.server;
            encoder_quiet = quiet_none;
            server_quiet = h.server_quiet;
          }
          by false = record {
            encoder = closed;
            server = h.server;
            encoder_quiet = quiet_none;
            server_quiet = h.server_quiet;
          }
  hears_after e s o p q (ReplyComes k) open_ kept h = go (o.codes k) refl
    where
      tests : (is_some (o.codes k) ≡ true) × (is_recent (length o.sent) k ≡ true)
      tests = test_of (is_some (o.codes k)) (is_recent (length o.sent) k) _ _ open_

      go : (c : Option Code) → o.codes k ≡ c → Hears e (heard s (reply_bytes address k c))
          (after step taken o (ReplyComes k))
      go None is = absurd (false≢true (sym (is_none-of (o.codes k) is) ∙ tests.0))
      go (Some code) is = record {
        encoder = h.encoder;
        server = heard-part s (spelling (reply_of address (counter_of k) code))
            ∙ (ended s.part (reply_of address (counter_of k) code) (reply_fits address k code) ∙ sym left_none);
        encoder_quiet = h.encoder_quiet;
        server_quiet = quiet_none;
      }
  hears_after e s o p q (NoiseToEncoder x) open_ kept h = record {
    encoder = fed-part step e x ∙ (ap (λ t. open_beyond t x) h.encoder ∙ sym (left_more o.to_encoder x));
    server = h.server;
    encoder_quiet = test_of_one (is_quiet (o.to_encoder ++ x)) _ open_;
    server_quiet = h.server_quiet;
  }
  hears_after e s o p q (NoiseToServer x) open_ kept h = record {
    encoder = h.encoder;
    server = heard-part s x ∙ (ap (λ t. open_beyond t x) h.server ∙ sym (left_more o.to_server x));
    encoder_quiet = h.encoder_quiet;
    server_quiet = test_of_one (is_quiet (o.to_server ++ x)) _ open_;
  }
  hears_after e s o p q EncoderLost open_ kept h =
      record { encoder = sym left_none; server = h.server; encoder_quiet = quiet_none; server_quiet = h.server_quiet }
  hears_after e s o p q ServerLost open_ kept h = record {
    encoder = h.encoder;
    server = sym left_none;
    encoder_quiet = h.encoder_quiet;
    server_quiet = quiet_none;
  }
  hears_after e s o p q EncoderRestart open_ kept h =
      record { encoder = sym left_none; server = h.server; encoder_quiet = quiet_none; server_quiet = h.server_quiet }
  hears_after e s o p q ServerRestart open_ kept h = record {
    encoder = h.encoder;
    server = sym left_none;
    encoder_quiet = h.encoder_quiet;
    server_quiet = quiet_none;
  }
  hears_after e s o p q Take open_ kept h = record {
    encoder = h.encoder;
    server = h.server;
    encoder_quiet = h.encoder_quiet;
    server_quiet = h.server_quiet;
  }
