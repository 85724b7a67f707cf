-- What the calls of a line owe: it stays a line, and holds what the once-machine holds.
use Rattle.std.proofs.Common.{◌≡◌, ℕ, ◌+◌, ◌≤◌, ◌-◌, ◌||◌, ◌==◌, Bool, true, false, cond, List, [], ◌∷◌, ◌++◌, length}
use Rattle.std.proofs.Common.{take, Option, Some, None, nat_lt, refl, ap, sym, subst, ◌∙◌, length-append}
use Rattle.std.specs.Prelude.{is_some, is_none, slice_get}
use mathlib.Core.Path.{fun_ext}
use Rattle.std.proofs.lemmas.Bool.{eqb-true}
use Rattle.uecp_elements.specs.declared.code.Code.{Code}
use Rattle.uecp_frame.specs.Frame.{spelling}
use Rattle.uecp_encoder.specs.Target.{Step, Taken}
use Rattle.uecp_encoder.specs.State.{EncoderState, fed}
use Rattle.uecp_link.specs.Counters.{counter_of}
use Rattle.uecp_link.specs.Server.{ServerState, is_marked, heard}
use Rattle.uecp_link.specs.Once.{Event, Submit, FrameComes, ReplyComes, NoiseToEncoder, NoiseToServer, EncoderLost}
use Rattle.uecp_link.specs.Once.{ServerLost, EncoderRestart, ServerRestart, Take, Once, message_at, with_code}
use Rattle.uecp_link.specs.Once.{refusal_of, after, applied_once, delivered}
use Rattle.uecp_link.specs.Once.{is_next as is_next_number}
use Rattle.uecp_link.specs.Law.{encoder_after, server_after, reply_bytes, Fits}
use Rattle.uecp_link.specs.Kept.{pairs, last_counter, code_at, held_from, Kept, Hears}
use Rattle.uecp_link.specs.Holds.{LineState, let_go, is_acknowledged, once_of, IsLine, Holds}
use Rattle.uecp_link.specs.Next.{line_next, codes_with, codes_next, Passes}
use Rattle.uecp_link.proofs.Steps.{keeps_submit, keeps_frame, keeps_reply, keeps_noise_to_encoder}
use Rattle.uecp_link.proofs.Steps.{keeps_noise_to_server, keeps_encoder_lost, keeps_server_lost, keeps_encoder_restart}
use Rattle.uecp_link.proofs.Steps.{keeps_server_restart, keeps_take, keeps, hears_after, one_more, applied_after}
use Rattle.uecp_link.proofs.Steps.{let_go_is, acknowledged_are}
use Rattle.uecp_link.proofs.Least.{next_number}
use Rattle.uecp_link.proofs.Folding.{slice_get-push}

-- what is kept depends on what the once-machine holds, but for the noise
pub kept_same : {V : Type 0} (a : ℕ) (e : EncoderState V) (s : ServerState) (o o' : Once V) (p q : ℕ)
    → o.sent ≡ o'.sent → o.value ≡ o'.value → o.codes ≡ o'.codes → o.acknowledged ≡ o'.acknowledged → Kept a e s o p q
    → Kept a e s o' p q
kept_same a e s o o' p q sent value codes acknowledged k = record {
  encoder = record {
    address = k.encoder.address;
    value = k.encoder.value ∙ value;
    ring = k.encoder.ring ∙ ap (λ c. take 127 (pairs k.base (code_at c) p)) codes;
  };
  count = k.count;
  server = record {
    address = k.server.address;
    last = k.server.last ∙ ap (λ x. last_counter (length x)) sent;
    held = k.server.held ∙ ap (λ x. held_from x o.acknowledged q k.count) sent
        ∙ ap (λ x. held_from o'.sent x q k.count) acknowledged;
  };
  base = k.base;
  ready = k.ready;
  count_is = ap length (sym sent) ∙ k.count_is;
  few = k.few;
  below = λ j l. ap (λ c. c j) (sym acknowledged) ∙ k.below j l;
  oldest = λ some. ap (λ c. c q) (sym acknowledged) ∙ k.oldest some;
  applied = λ j. ap (λ c. is_some (c j)) (sym codes) ∙ k.applied j;
  within = λ j acked. k.within j (ap (λ c. c j) acknowledged ∙ acked);
  p_le = subst (λ (x : List (List ℕ)). p ≤ length x) sent k.p_le;
  q_le = k.q_le;
  fits = subst (λ (x : List (List ℕ)). (j : ℕ) → length (message_at x j) ≤ 255) sent k.fits;
}

pub kept_at : {V : Type 0} (line : LineState V) (o : Once V) → IsLine line → Holds line o
    → Kept line.encoder.address line.encoder line.server o (length line.codes) (let_go line)
kept_at line o is h = kept_same line.encoder.address line.encoder line.server (once_of line) o (length line.codes)
    (let_go line) h.sent h.value (fun_ext h.codes) (fun_ext h.acknowledged) is

-- a line whose parts are those of what is kept
shown : {V : Type 0} (a : ℕ) (line : LineState V) (o : Once V) (p q : ℕ) → Kept a line.encoder line.server o p q
    → line.sent ≡ o.sent → (j : ℕ) → is_acknowledged line j ≡ o.acknowledged j
shown a line o p q k sent j =
    ap (λ (x : List (List ℕ)). nat_lt j (length x - length line.server.held)
    || is_marked line.server.held (j - (length x - length line.server.held))) sent
    ∙ acknowledged_are a line.encoder line.server o p q k j

pub line_stays : {V : Type 0} (a : ℕ) (line : LineState V) (o : Once V) (p q : ℕ)
    → Kept a line.encoder line.server o p q
    → line.sent ≡ o.sent → ((k : ℕ) → slice_get line.codes k ≡ o.codes k) → length line.codes ≡ p → IsLine line
line_stays a line o p q k sent codes len =
    let gone : let_go line ≡ q = ap (λ (x : List (List ℕ)). length x - length line.server.held) sent
    ∙ let_go_is a line.encoder line.server o p q k in
    let here : Kept a line.encoder line.server (once_of line) p q =
    kept_same a line.encoder line.server o (once_of line) p q (sym sent) (sym k.encoder.value) (sym (fun_ext codes))
    (sym (fun_ext (shown a line o p q k sent))) k in
    let at_q : Kept a line.encoder line.server (once_of line) p (let_go line) =
    subst (λ (b : ℕ). Kept a line.encoder line.server (once_of line) p b) (sym gone) here in
    let at_p : Kept line.encoder.address line.encoder line.server (once_of line) p (let_go line) =
    subst (λ (b : ℕ). Kept b line.encoder line.server (once_of line) p (let_go line)) (sym k.encoder.address) at_q in
    subst (λ (n : ℕ). Kept line.encoder.address line.encoder line.server (once_of line) n (let_go line)) (sym len) at_p

pub line_from : {V : Type 0} (a : ℕ) (line : LineState V) (o : Once V) (p q : ℕ) → Kept a line.encoder line.server o p q
    → line.sent ≡ o.sent → ((k : ℕ) → slice_get line.codes k ≡ o.codes k) → length line.codes ≡ p
    → Hears line.encoder line.server o
    → IsLine line × Holds line o
line_from a line o p q k sent codes len hears = (
  line_stays a line o p q k sent codes len,
  record {
    sent = sent;
    value = k.encoder.value;
    codes = codes;
    acknowledged = shown a line o p q k sent;
    open_parts = hears;
  },
)

module _ {V : Type 0} (step : Step V) (taken : Taken V) where
  pub encoder_same : (a : ℕ) (o o' : Once V) (e : EncoderState V) (event : Event) → o.sent ≡ o'.sent
      → encoder_after step taken a o e event ≡ encoder_after step taken a o' e event
  encoder_same a o o' e (Submit m) h = refl
  encoder_same a o o' e (FrameComes k) h =
      ap (λ (x : List (List ℕ)). fed step e
      (spelling (record { address = a; counter = counter_of k; message = message_at x k }))) h
  encoder_same a o o' e (ReplyComes k) h = refl
  encoder_same a o o' e (NoiseToEncoder x) h = refl
  encoder_same a o o' e (NoiseToServer x) h = refl
  encoder_same a o o' e EncoderLost h = refl
  encoder_same a o o' e ServerLost h = refl
  encoder_same a o o' e EncoderRestart h = refl
  encoder_same a o o' e ServerRestart h = refl
  encoder_same a o o' e Take h = refl

  pub server_same : (a : ℕ) (o o' : Once V) (s : ServerState) (event : Event) → ((k : ℕ) → o.codes k ≡ o'.codes k)
      → server_after a o s event ≡ server_after a o' s event
  server_same a o o' s (Submit m) h = refl
  server_same a o o' s (FrameComes k) h = refl
  server_same a o o' s (ReplyComes k) h = ap (λ (c : Option Code). heard s (reply_bytes a k c)) (h k)
  server_same a o o' s (NoiseToEncoder x) h = refl
  server_same a o o' s (NoiseToServer x) h = refl
  server_same a o o' s EncoderLost h = refl
  server_same a o o' s ServerLost h = refl
  server_same a o o' s EncoderRestart h = refl
  server_same a o o' s ServerRestart h = refl
  server_same a o o' s Take h = refl

  sent_same : (line : LineState V) (o : Once V) (event : Event) → line.sent ≡ o.sent
      → (line_next step taken line event).sent ≡ (after step taken o event).sent
  sent_same line o (Submit m) h = ap (λ x. x ++ m ∷ []) h
  sent_same line o (FrameComes k) h = h ∙ go (o.codes k)
    where
      by : (b : Bool) → o.sent ≡ (cond b (applied_once step o k) (record o { to_encoder = [] })).sent
      by true = refl
      by false = refl

      go : (c : Option Code) → o.sent ≡ (delivered step o k c).sent
      go None = by (is_next_number o.codes (length o.sent) k)
      go (Some c) = refl
  sent_same line o (ReplyComes k) h = h
  sent_same line o (NoiseToEncoder x) h = h
  sent_same line o (NoiseToServer x) h = h
  sent_same line o EncoderLost h = h
  sent_same line o ServerLost h = h
  sent_same line o EncoderRestart h = h
  sent_same line o ServerRestart h = h
  sent_same line o Take h = h

  codes_same : (line : LineState V) (o : Once V) (event : Event) → line.sent ≡ o.sent → line.encoder.value ≡ o.value
      → ((k : ℕ) → slice_get line.codes k ≡ o.codes k)
      → ((k : ℕ) → is_next_number o.codes (length o.sent) k ≡ (k == length line.codes))
      → ((j : ℕ) → slice_get (codes_next step line event) j ≡ (after step taken o event).codes j)
      × (length (codes_next step line event) ≡ applied_after o event (length line.codes))
  codes_same line o (Submit m) sent value h next = (h, refl)
  codes_same line o (FrameComes k) sent value h next = rw (h k, nx_is) (go (o.codes k))
    where
      c : Code
      c = (step line.encoder.value (message_at line.sent k)).1

      nx : Bool
      nx = is_next_number o.codes (length o.sent) k

      nx_is : is_next_number (slice_get line.codes) (length line.sent) k ≡ nx
      nx_is = ap (λ (f : ℕ → Option Code). is_next_number f (length line.sent) k) (fun_ext h)
          ∙ ap (λ (x : List (List ℕ)). is_next_number o.codes (length x) k) sent

      by : (b : Bool) → nx ≡ b → ((j : ℕ) → slice_get (cond b (line.codes ++ c ∷ []) line.codes) j
          ≡ (cond b (applied_once step o k) (record o { to_encoder = [] })).codes j)
          × (length (cond b (line.codes ++ c ∷ []) line.codes) ≡ cond b (length line.codes + 1) (length line.codes))
      by true same = (
        (λ j. sym (slice_get-push line.codes c j)
            ∙ (ap (λ n. with_code (slice_get line.codes) n c j)
            (sym (eqb-true k (length line.codes) (sym (next k) ∙ same)))
            ∙ (ap (λ x. cond (j == k) (Some c) x) (h j)
            ∙ (ap (λ v. with_code o.codes k (step v (message_at line.sent k)).1 j) value
            ∙ ap (λ x. with_code o.codes k (step o.value (message_at x k)).1 j) sent)))),
        length-append line.codes (c ∷ []),
      )
      by false other = (h, refl)

      go : (d : Option Code) → ((j : ℕ) → slice_get (codes_with line.codes d nx c) j ≡ (delivered step o k d).codes j)
          × (length (codes_with line.codes d nx c) ≡ one_more (length line.codes) d nx)
      go (Some x) = (h, refl)
      go None = by nx refl
  codes_same line o (ReplyComes k) sent value h next = (h, refl)
  codes_same line o (NoiseToEncoder x) sent value h next = (h, refl)
  codes_same line o (NoiseToServer x) sent value h next = (h, refl)
  codes_same line o EncoderLost sent value h next = (h, refl)
  codes_same line o ServerLost sent value h next = (h, refl)
  codes_same line o EncoderRestart sent value h next = (h, refl)
  codes_same line o ServerRestart sent value h next = (h, refl)
  codes_same line o Take sent value h next = (h, refl)

  -- the line goes on as the once-machine does
  pub goes_on : (line : LineState V) (o : Once V) (event : Event) → Fits event → is_none (refusal_of o event) ≡ true
      → IsLine line → Holds line o → IsLine (line_next step taken line event)
      × Holds (line_next step taken line event) (after step taken o event)
  goes_on line o event fit open_ is h =
      let a : ℕ = line.encoder.address in
      let p : ℕ = length line.codes in
      let k : Kept a line.encoder line.server o p (let_go line) = kept_at line o is h in
      let e_is : encoder_after step taken a (once_of line) line.encoder event
      ≡ encoder_after step taken a o line.encoder event =
      encoder_same a (once_of line) o line.encoder event h.sent in
      let s_is : server_after a (once_of line) line.server event ≡ server_after a o line.server event =
      server_same a (once_of line) o line.server event h.codes in
      let codes = codes_same line o event h.sent h.value h.codes
      (λ j. next_number o.codes p (length o.sent) j k.applied k.p_le) in
      let k' = keeps step taken a line.encoder line.server o p (let_go line) event fit open_ h.open_parts k in
      let hears' = hears_after step taken a line.encoder line.server o p (let_go line) event open_ k h.open_parts in
      let k2 : Kept a (line_next step taken line event).encoder (line_next step taken line event).server
      (after step taken o event) (applied_after o event p) k'.0 =
      rw (e_is, s_is) k'.1 in
      let hears2 : Hears (line_next step taken line event).encoder (line_next step taken line event).server
      (after step taken o event) = rw (e_is, s_is) hears' in
      line_from a (line_next step taken line event) (after step taken o event) (applied_after o event p) k'.0 k2
      (sent_same line o event h.sent) codes.0 codes.1 hears2

  passed_keeps : (line : LineState V) (event : Event) → Fits event → Passes line event → IsLine line
      → (q' : ℕ) × Kept line.encoder.address (line_next step taken line event).encoder
      (line_next step taken line event).server (after step taken (once_of line) event)
      (applied_after (once_of line) event (length line.codes)) q'
  passed_keeps line (Submit m) fit pass is = (
    let_go line,
    keeps_submit step taken line.encoder.address line.encoder line.server (once_of line) (length line.codes)
        (let_go line) m fit pass is,
  )
  passed_keeps line (FrameComes k) fit pass is = (
    let_go line,
    keeps_frame step taken line.encoder.address line.encoder line.server (once_of line) (length line.codes)
        (let_go line) k pass is,
  )
  passed_keeps line (ReplyComes k) fit pass is = keeps_reply step taken line.encoder.address line.encoder line.server
      (once_of line) (length line.codes) (let_go line) k pass is
  passed_keeps line (NoiseToEncoder x) fit pass is = (
    let_go line,
    keeps_noise_to_encoder step taken line.encoder.address line.encoder line.server (once_of line)
        (length line.codes) (let_go line) x pass is,
  )
  passed_keeps line (NoiseToServer x) fit pass is = (
    let_go line,
    keeps_noise_to_server step taken line.encoder.address line.encoder line.server (once_of line)
        (length line.codes) (let_go line) x pass is,
  )
  passed_keeps line EncoderLost fit pass is = (
    let_go line,
    keeps_encoder_lost step taken line.encoder.address line.encoder line.server (once_of line) (length line.codes)
        (let_go line) is,
  )
  passed_keeps line ServerLost fit pass is = (
    let_go line,
    keeps_server_lost step taken line.encoder.address line.encoder line.server (once_of line) (length line.codes)
        (let_go line) is,
  )
  passed_keeps line EncoderRestart fit pass is = (
    let_go line,
    keeps_encoder_restart step taken line.encoder.address line.encoder line.server (once_of line) (length line.codes)
        (let_go line) is,
  )
  passed_keeps line ServerRestart fit pass is = (
    let_go line,
    keeps_server_restart step taken line.encoder.address line.encoder line.server (once_of line) (length line.codes)
        (let_go line) is,
  )
  passed_keeps line Take fit pass is = (
    let_go line,
    keeps_take step taken line.encoder.address line.encoder line.server (once_of line) (length line.codes)
        (let_go line) is,
  )

  -- an event that passes leaves a line
  pub stays : (line : LineState V) (event : Event) → Fits event → Passes line event → IsLine line
      → IsLine (line_next step taken line event)
  stays line event fit pass is =
      let a : ℕ = line.encoder.address in
      let p : ℕ = length line.codes in
      let o : Once V = once_of line in
      let codes = codes_same line o event refl refl (λ j. refl)
      (λ j. next_number o.codes p (length line.sent) j is.applied is.p_le) in
      let kept = passed_keeps line event fit pass is in
      let l : LineState V = line_next step taken line event in
      line_stays a l (after step taken o event) (applied_after o event p) kept.0 kept.1 (sent_same line o event refl)
      codes.0 codes.1
