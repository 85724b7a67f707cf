-- What a listener heard that counts, and what it counted.
use Rattle.std.proofs.Common.{◌≡◌, ℕ, ◌+◌, ◌^◌, ◌-◌, ◌≤◌, Bool, List, [], ◌∷◌, length, refl, ap}
use Rattle.std.proofs.Common.{◌∙◌, sym, subst, arith, length-append}
use Rattle.std.specs.Prelude.{flat_map, Option, Ok, Err}
use Rattle.uecp_frame.specs.Findings.{Finding}
use Rattle.uecp_encoder.specs.Target.{Step}
use Rattle.uecp_encoder.specs.State.{EncoderState, after_finding}
use Rattle.uecp_encoder.specs.Answering.{response_to, responses, responses_to, answers, bytes_sent}
use Rattle.uecp_encoder.specs.Serving.{replies_in, replies_among}
use Rattle.uecp_encoder.specs.declared.serving.ServeFault.TheVariants.{ReadFailed, WriteFailed, TurnsSpent}
use Rattle.uecp_encoder.specs.declared.serving.KeptFault.TheVariants.{Serve, StateFailed}
use Rattle.uecp_encoder.specs.ServingWith.{Ended, ServesOrStops, KeptReadsMade}
use Rattle.uecp_encoder.specs.declared.listener.Answered.{Answered}
use Rattle.uecp_encoder.specs.declared.listener.Answered.TheVariants.{New, Repeat, NotNext, Unnumbered, NotForMe}
use Rattle.uecp_encoder.specs.declared.listener.Answered.TheVariants.{Dropped}
use Rattle.uecp_encoder.specs.declared.listener.Event.{Event}
use Rattle.uecp_encoder.specs.Telling.{HearsEach, HearsWithin, HasHeard, response_of}
use Rattle.device_serving.specs.declared.air.line.Sent.{Sent}
use Rattle.device_serving.specs.AirLines.{together, sent_too}
use Rattle.device_serving.specs.AirParts.{sent_with, counts_with}

-- counts that can be counted
pub record Countable (s : Sent) : Type 0 where
  pub replies : s.replies ≤ 2 ^ 64 - 1
  pub bytes : s.bytes ≤ 2 ^ 64 - 1

abbrev counts : (replies bytes : ℕ) → Sent
counts replies bytes = record { replies = replies; bytes = bytes }

none_more : (s : Sent) → Countable s → sent_too s 0 0 ≡ s
none_more s few =
    let replies : together s.replies 0 ≡ s.replies = omega (arith, few.replies) in
    let bytes : together s.bytes 0 ≡ s.bytes = omega (arith, few.bytes) in
    ap (λ n. counts n (together s.bytes 0)) replies ∙ ap (λ n. counts s.replies n) bytes

two_more : (s : Sent) (a b c d : ℕ) → sent_too (sent_too s a b) c d ≡ sent_too s (a + c) (b + d)
two_more s a b c d =
    let replies : together (together s.replies a) c ≡ together s.replies (a + c) = omega arith in
    let bytes : together (together s.bytes b) d ≡ together s.bytes (b + d) = omega arith in
    ap (λ n. counts n (together (together s.bytes b) d)) replies
    ∙ ap (λ n. counts (together s.replies (a + c)) n) bytes

still : (s : Sent) (a b : ℕ) → Countable (sent_too s a b)
still s a b = record { replies = omega arith; bytes = omega arith }

one_counted : (s : Sent) (answer : Answered) → Countable s
    → sent_with s answer ≡ sent_too s (replies_in (response_of answer)) (length (bytes_sent (response_of answer)))
one_counted s (New code reply) few = refl
one_counted s (Repeat code reply) few = refl
one_counted s NotNext few = sym (none_more s few)
one_counted s Unnumbered few = sym (none_more s few)
one_counted s NotForMe few = sym (none_more s few)
one_counted s (Dropped fault) few = sym (none_more s few)

module _ {V T L : Type 0} (most : ℕ) (hears : L → Event → Bool → L → Type 0) (now : T → L) (sent : T → Sent) (name : T →
    ℕ) (step : Step V) where
  -- a listener that tells another, and counts
  abbrev pub HearsAndCounts : T → Event → Bool → T → Type 0
  HearsAndCounts t event whole t' =
      hears (now t) event whole (now t') × (sent t' ≡ counts_with (sent t) event.answer whole) × (name t' ≡ name t)

  -- what that one heard, and what was counted
  pub record Counted (e : EncoderState V) (xs : List Finding) (t t' : T) : Type 0 where
    pub heard : HearsEach hears step e xs (now t) (now t')
    pub same : name t' ≡ name t
    pub counted : sent t' ≡ sent_too (sent t) (replies_among (responses step e xs))
        (length (flat_map bytes_sent (responses step e xs)))

  each : (e : EncoderState V) (xs : List Finding) (t t' : T) → Countable (sent t)
      → HearsEach HearsAndCounts step e xs t t' → Counted e xs t t'
  each e [] t t' few is =
      record { heard = ap now is; same = ap name is; counted = ap sent is ∙ sym (none_more (sent t) few) }
  each e (x ∷ xs) t t' few (between, (event, tells, (heard, counted, same)), rest) =
      let r = response_to step e x in
      let rs = responses step (after_finding step e x) xs in
      let one : sent between ≡ sent_too (sent t) (replies_in r) (length (bytes_sent r)) =
      counted ∙ one_counted (sent t) event.answer few
      ∙ ap (λ r. sent_too (sent t) (replies_in r) (length (bytes_sent r))) (sym tells.answer) in
      let others = each (after_finding step e x) xs between t'
      (subst Countable (sym one) (still (sent t) (replies_in r) (length (bytes_sent r)))) rest in
      record {
        heard = (now between, (event, tells, heard), others.heard);
        same = others.same ∙ same;
        counted = others.counted
            ∙ ap (λ s. sent_too s (replies_among rs) (length (flat_map bytes_sent rs))) one
            ∙ two_more (sent t) (replies_in r) (length (bytes_sent r)) (replies_among rs)
            (length (flat_map bytes_sent rs))
            ∙ ap (λ n. sent_too (sent t) (replies_in r + replies_among rs) n)
            (sym (length-append (bytes_sent r) (flat_map bytes_sent rs)));
      }

  within : (e : EncoderState V) (xs : List Finding) (w : ℕ) (t t' : T) → HearsWithin HearsAndCounts step e xs w t t'
      → HearsWithin hears step e xs w (now t) (now t') × (name t' ≡ name t)
  within e [] w t t' is = (ap now is, ap name is)
  within e (x ∷ xs) w t t' (between, (event, tells, (heard, counted, same)), rest) =
      let (others, still_same) = within (after_finding step e x) xs (w - length (bytes_sent (response_to step e x)))
      between t' rest in
      ((now between, (event, tells, heard), others), still_same ∙ same)

  -- what that one heard in a call, and what was counted in it where it goes on
  pub record CountedIn (e e' : EncoderState V) (t t' : T) (s written : List ℕ) (ended : Ended) : Type 0 where
    pub heard : HasHeard most hears step e e' (now t) (now t') s written ended
    pub same : name t' ≡ name t
    pub counted : ended ≡ Err (Serve TurnsSpent)
        → sent t' ≡ sent_too (sent t) (replies_among (responses_to step e s)) (length (answers step e s))

  pub has_counted : (e e' : EncoderState V) (t t' : T) (s written : List ℕ) (ended : Ended) → Countable (sent t)
      → HasHeard most HearsAndCounts step e e' t t' s written ended → CountedIn e e' t t' s written ended
  has_counted e e' t t' s written (Ok served) few heard =
      let all = each e _ t t' few heard in
      record { heard = all.heard; same = all.same; counted = λ is. all.counted }
  has_counted e e' t t' s written (Err (Serve ReadFailed)) few heard =
      let all = each e _ t t' few heard in
      record { heard = all.heard; same = all.same; counted = λ is. all.counted }
  has_counted e e' t t' s written (Err (Serve TurnsSpent)) few heard =
      let all = each e _ t t' few heard in
      record { heard = all.heard; same = all.same; counted = λ is. all.counted }
  has_counted e e' t t' s written (Err (Serve (WriteFailed w))) few (start, place, stops, unsent) =
      let all = each e _ t unsent.before few unsent.earlier in
      let (heard, same) = within _ _ _ unsent.before t' unsent.unsent in
      record {
        heard = (
          start,
          place,
          stops,
          record { before = now unsent.before; earlier = all.heard; unsent = heard },
        );
        same = same ∙ all.same;
        counted = λ is. absurd (let no : Err (Serve (WriteFailed w)) ≡ Err (Serve TurnsSpent) = is in cc);
      }
  has_counted e e' t t' s written (Err StateFailed) few (start, place, stops, heard) =
      let all = each e _ t t' few heard in
      record {
        heard = (start, place, stops, all.heard);
        same = all.same;
        counted = λ is. absurd (let no : Err StateFailed ≡ Err (Serve TurnsSpent) = is in cc);
      }

-- what was sent where the turns were spent
pub all_written : {V : Type 0} (most room : ℕ) (step : Step V) (e e' : EncoderState V) (s written : List ℕ)
    (unread : Option (List ℕ)) (turns : ℕ) (ended : Ended) → ended ≡ Err (Serve TurnsSpent)
    → ServesOrStops most room step e e' s written unread turns ended → written ≡ answers step e s
all_written most room step e e' s written unread turns ended is serves =
    (subst (λ (how : Ended). ServesOrStops most room step e e' s written unread turns how) is serves).0.written

-- one turn is one read
pub one_read : (ended : Ended) (n : ℕ) → KeptReadsMade ended 1 n → n ≡ 1
one_read (Ok served) n (some, few) = omega (arith, some, few)
one_read (Err (Serve ReadFailed)) n (some, few) = omega (arith, some, few)
one_read (Err (Serve (WriteFailed w))) n (some, few) = omega (arith, some, few)
one_read (Err (Serve TurnsSpent)) n all = all
one_read (Err StateFailed) n (some, few) = omega (arith, some, few)
