-- What a call of a line promises, from what it does by the line's own fields.
use Rattle.std.proofs.Common.{◌≡◌, ℕ, ◌-◌, Bool, true, false, not, cond, List, [], ◌∷◌, ◌++◌, Ok, Err, length, Option}
use Rattle.std.proofs.Common.{Some, None, refl, ap, sym, subst, ◌∙◌, arith, length-append}
use Rattle.std.specs.Prelude.{is_none, slice_get}
use mathlib.Core.Path.{fun_ext}
use Rattle.uecp_frame.specs.Findings.{Finding, has_frame, is_quiet, OpenPart, found, open_part}
use Rattle.uecp_frame.specs.Beyond.{found_beyond}
use Rattle.uecp_encoder.specs.Target.{Step, Taken}
use Rattle.uecp_link.specs.declared.stepped.Stepped.{Stepped}
use Rattle.uecp_link.specs.declared.refusal.LineRefusal.{LineRefusal}
use Rattle.uecp_link.specs.declared.refusal.LineRefusal.TheVariants as line_refusal
use Rattle.uecp_link.specs.Once.{Event, Submit, FrameComes, ReplyComes, NoiseToEncoder, NoiseToServer, EncoderLost}
use Rattle.uecp_link.specs.Once.{ServerLost, EncoderRestart, ServerRestart, Take, Once, Noise, Refusal}
use Rattle.uecp_link.specs.Once.{HoldsAFrame, refusal_of, after, answer_of}
use Rattle.uecp_link.specs.Law.{Fits}
use Rattle.uecp_link.specs.Events.{Refuses}
use Rattle.uecp_link.specs.Holds.{LineState, once_of, Holds, StepsAs}
use Rattle.uecp_link.specs.Next.{line_answer, Passes, LineRefuses, Goes}
use Rattle.uecp_link.proofs.Wire.{found_more}
use Rattle.uecp_link.proofs.Hearing.{no_frame}
use Rattle.uecp_link.proofs.Goes.{goes_on, encoder_same, server_same}

-- but for the noise, what the once-machine holds is what the line shows
pub same_once : {V : Type 0} (line : LineState V) (o : Once V) → Holds line o
    → ◌≡◌ {A = Once V} (record {
      sent = line.sent;
      value = line.encoder.value;
      codes = slice_get line.codes;
      acknowledged = (once_of line).acknowledged;
      to_encoder = o.to_encoder;
      to_server = o.to_server;
    }) o
same_once line o h =
    ap (λ x. record {
      sent = x;
      value = line.encoder.value;
      codes = slice_get line.codes;
      acknowledged = (once_of line).acknowledged;
      to_encoder = o.to_encoder;
      to_server = o.to_server;
    }) h.sent
    ∙ (ap (λ x. record {
      sent = o.sent;
      value = x;
      codes = slice_get line.codes;
      acknowledged = (once_of line).acknowledged;
      to_encoder = o.to_encoder;
      to_server = o.to_server;
    }) h.value
    ∙ (ap (λ x. record {
      sent = o.sent;
      value = o.value;
      codes = x;
      acknowledged = (once_of line).acknowledged;
      to_encoder = o.to_encoder;
      to_server = o.to_server;
    }) (fun_ext h.codes)
    ∙ ap (λ x. record {
      sent = o.sent;
      value = o.value;
      codes = o.codes;
      acknowledged = x;
      to_encoder = o.to_encoder;
      to_server = o.to_server;
    }) (fun_ext h.acknowledged)))

-- ---- noise, by the open part that the noise before it left
has_frame-rest : (xs ys : List Finding) → has_frame xs ≡ false → has_frame (xs ++ ys) ≡ has_frame ys
has_frame-rest [] ys h = refl
has_frame-rest (Err fault ∷ xs) ys h = has_frame-rest xs ys h
has_frame-rest (Ok f ∷ xs) ys h = absurd (cc)

quiet_on : (z x : List ℕ) (o : OpenPart) → o ≡ open_part z → is_quiet z ≡ true → (b : Bool)
    → has_frame (found_beyond o x) ≡ b → is_quiet (z ++ x) ≡ not b
quiet_on z x o is quiet b h =
    ap (λ fs. not (has_frame fs)) (found_more z x)
    ∙ ap not (has_frame-rest (found z) (found_beyond (open_part z) x) (no_frame z quiet)
    ∙ ap (λ p. has_frame (found_beyond p x)) (sym is) ∙ h)

noise_counted : (z x : List ℕ) (o : OpenPart) → o ≡ open_part z
    → length (found_beyond o x) ≡ length (found (z ++ x)) - length (found z)
noise_counted z x o is =
    let whole = ap length (found_more z x) ∙ length-append (found z) (found_beyond (open_part z) x) in
    let same = ap (λ p. length (found_beyond p x)) is in
    omega (arith, whole, same)

refusal_none : (b : Bool) → b ≡ true → cond b None (Some HoldsAFrame) ≡ None
refusal_none true h = refl
refusal_none false h = absurd (cc)

refusal_some : (b : Bool) → b ≡ false → cond b None (Some HoldsAFrame) ≡ Some HoldsAFrame
refusal_some true h = absurd (cc)
refusal_some false h = refl

none_is : (o : Option Refusal) → is_none o ≡ true → o ≡ None
none_is None h = refl
none_is (Some r) h = absurd (cc)

-- ---- where the event goes through
accepted : {V : Type 0} (line : LineState V) (o : Once V) (event : Event) → Holds line o → Passes line event
    → refusal_of o event ≡ None
accepted line o (Submit m) h p = ap (λ (x : Once _). refusal_of x (Submit m)) (sym (same_once line o h))
    ∙ none_is (refusal_of (once_of line) (Submit m)) p
accepted line o (FrameComes k) h p = ap (λ (x : Once _). refusal_of x (FrameComes k)) (sym (same_once line o h))
    ∙ none_is (refusal_of (once_of line) (FrameComes k)) p
accepted line o (ReplyComes k) h p = ap (λ (x : Once _). refusal_of x (ReplyComes k)) (sym (same_once line o h))
    ∙ none_is (refusal_of (once_of line) (ReplyComes k)) p
accepted line o (NoiseToEncoder x) h p = refusal_none (is_quiet (o.to_encoder ++ x))
    (quiet_on o.to_encoder x line.encoder.part h.open_parts.encoder h.open_parts.encoder_quiet false p)
accepted line o (NoiseToServer x) h p = refusal_none (is_quiet (o.to_server ++ x))
    (quiet_on o.to_server x line.server.part h.open_parts.server h.open_parts.server_quiet false p)
accepted line o EncoderLost h p = refl
accepted line o ServerLost h p = refl
accepted line o EncoderRestart h p = refl
accepted line o ServerRestart h p = refl
accepted line o Take h p = refl

answered : {V : Type 0} (step : Step V) (taken : Taken V) (line : LineState V) (o : Once V) (event : Event)
    → Holds line o → line_answer step taken line event ≡ answer_of step taken o event
answered step taken line o (Submit m) h = ap (λ (x : Once _). answer_of step taken x (Submit m)) (same_once line o h)
answered step taken line o (FrameComes k) h = ap (λ (x : Once _). answer_of step taken x (FrameComes k))
    (same_once line o h)
answered step taken line o (ReplyComes k) h = ap (λ (x : Once _). answer_of step taken x (ReplyComes k))
    (same_once line o h)
answered step taken line o (NoiseToEncoder x) h =
    ap (λ n. Noise n) (noise_counted o.to_encoder x line.encoder.part h.open_parts.encoder)
answered step taken line o (NoiseToServer x) h =
    ap (λ n. Noise n) (noise_counted o.to_server x line.server.part h.open_parts.server)
answered step taken line o EncoderLost h = refl
answered step taken line o ServerLost h = refl
answered step taken line o EncoderRestart h = refl
answered step taken line o ServerRestart h = refl
answered step taken line o Take h = ap (λ (x : Once _). answer_of step taken x Take) (same_once line o h)

pub goes_promise : {V : Type 0} (step : Step V) (taken : Taken V) (line line' : LineState V) (event : Event)
    (stepped : Stepped) → Fits event → Goes step taken line event stepped line' → (o : Once V) → Holds line o
    → StepsAs step taken line o event stepped line'
goes_promise step taken line line' event stepped fit goes o h =
    let open_ : refusal_of o event ≡ None = accepted line o event h goes.passes in
    record {
      accepted = open_;
      answer = goes.answer ∙ answered step taken line o event h;
      encoder = ap (λ (l : LineState _). l.encoder) goes.next
          ∙ encoder_same step taken line.encoder.address (once_of line) o line.encoder event h.sent;
      server = ap (λ (l : LineState _). l.server) goes.next
          ∙ server_same step taken line.encoder.address (once_of line) o line.server event h.codes;
      holds = subst (λ (l : LineState _). Holds l (after step taken o event)) (sym goes.next)
          (goes_on step taken line o event fit (ap is_none open_) goes.line h).1;
    }

-- ---- where it is refused
refused_same : {V : Type 0} (a b : Once V) (event : Event) → refusal_of a event ≡ refusal_of b event
    → (refusal : LineRefusal) → Refuses a event refusal → Refuses b event refusal
refused_same a b event same line_refusal.Busy r = sym same ∙ r
refused_same a b event same line_refusal.NotSent r = sym same ∙ r
refused_same a b event same line_refusal.TooLate r = sym same ∙ r
refused_same a b event same line_refusal.HoldsAFrame r = sym same ∙ r
refused_same a b event same line_refusal.OutOfMemory r = (sym same ∙ r.0, r.1)

holds_a_frame : {V : Type 0} (o : Once V) (event : Event) (refusal : LineRefusal) → refusal ≡ line_refusal.HoldsAFrame
    → refusal_of o event ≡ Some HoldsAFrame → Refuses o event refusal
holds_a_frame o event refusal is r = subst (λ x. Refuses o event x) (sym is) r

pub stops_promise : {V : Type 0} (line : LineState V) (event : Event) (refusal : LineRefusal)
    → LineRefuses line event refusal → (o : Once V) → Holds line o → Refuses o event refusal
stops_promise line (Submit m) refusal r o h = refused_same (once_of line) o (Submit m)
    (ap (λ (x : Once _). refusal_of x (Submit m)) (same_once line o h)) refusal r
stops_promise line (FrameComes k) refusal r o h =
    refused_same (once_of line) o (FrameComes k) (ap (λ (x : Once _). refusal_of x (FrameComes k)) (same_once line o h))
    refusal r
stops_promise line (ReplyComes k) refusal r o h =
    refused_same (once_of line) o (ReplyComes k) (ap (λ (x : Once _). refusal_of x (ReplyComes k)) (same_once line o h))
    refusal r
stops_promise line (NoiseToEncoder x) refusal r o h =
    holds_a_frame o (NoiseToEncoder x) refusal r.0 (refusal_some (is_quiet (o.to_encoder ++ x))
    (quiet_on o.to_encoder x line.encoder.part h.open_parts.encoder h.open_parts.encoder_quiet true r.1))
stops_promise line (NoiseToServer x) refusal r o h =
    holds_a_frame o (NoiseToServer x) refusal r.0 (refusal_some (is_quiet (o.to_server ++ x))
    (quiet_on o.to_server x line.server.part h.open_parts.server h.open_parts.server_quiet true r.1))
stops_promise line EncoderLost refusal r o h = refused_same (once_of line) o EncoderLost refl refusal r
stops_promise line ServerLost refusal r o h = refused_same (once_of line) o ServerLost refl refusal r
stops_promise line EncoderRestart refusal r o h = refused_same (once_of line) o EncoderRestart refl refusal r
stops_promise line ServerRestart refusal r o h = refused_same (once_of line) o ServerRestart refl refusal r
stops_promise line Take refusal r o h = refused_same (once_of line) o Take refl refusal r
