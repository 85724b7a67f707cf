-- The headline, of a line that went on by steps.
use mathlib.Core.Path.{fun_ext}
use Rattle.std.proofs.Common.{◌≡◌, ℕ, suc, List, [], ◌∷◌, ◌++◌, append-nil, append_assoc, Ok, Err, length, map, nat_lt}
use Rattle.std.proofs.Common.{refl, ap, sym, subst, ◌∙◌, arith, inl, inr}
use Rattle.std.specs.Prelude.{is_some, is_none, slice_get}
use Rattle.std.proofs.lemmas.Bool.{cases_order, lt-ltb, le-ltb, false≢true}
use Rattle.std.proofs.lemmas.Option.{slice_get-get_or, slice_get_past}
use Rattle.uecp_elements.specs.declared.code.Code.{Code}
use Rattle.uecp_elements.specs.declared.code.Code.TheVariants.{Applied}
use Rattle.uecp_frame.specs.Frame.{spelling}
use Rattle.uecp_frame.specs.Findings.{Closed}
use Rattle.uecp_encoder.specs.Target.{Step, Taken}
use Rattle.uecp_encoder.specs.State.{EncoderState, opening}
use Rattle.uecp_link.specs.Counters.{counter_of}
use Rattle.uecp_link.specs.declared.stepped.Stepped.{Stepped}
use Rattle.uecp_link.specs.Frames.{frame_under}
use Rattle.uecp_link.specs.Server.{ServerState, idle_at, waiting, frames_waiting}
use Rattle.uecp_link.specs.Once.{Event, Once, Answer, message_at, missing, after, at_first}
use Rattle.uecp_link.specs.Events.{answer_seen}
use Rattle.uecp_link.specs.History.{Act, act_of}
use Rattle.uecp_link.specs.Fold.{value_after, codes_after}
use Rattle.uecp_link.specs.Law.{encoder_after, Fits, Numbers}
use Rattle.uecp_link.specs.Kept.{IsReady, Kept}
use Rattle.uecp_link.specs.Holds.{LineState, let_go, is_acknowledged, Outcome, IsLine, Holds, once_of, StepsAs, Plays}
use Rattle.uecp_link.specs.Holds.{history_by, line_from, new_line, world_of}
use Rattle.uecp_link.specs.Headline.{IsHeadline}
use Rattle.uecp_link.proofs.Steps.{sent_le}
use Rattle.uecp_link.proofs.Folding.{Folded}
use Rattle.uecp_link.proofs.Goes.{kept_at, kept_same, line_stays}
use Rattle.uecp_link.proofs.Opening.{holds_from}
use Rattle.uecp_link.proofs.Lawful.{kept_at_first, lawful_after, waiting_is, numbers_from, ready_at_first}

-- two bounds below which the same numbers are
pub same_bound : (p q : ℕ) → ((k : ℕ) → nat_lt k p ≡ nat_lt k q) → p ≡ q
same_bound p q h =
    elim (cases_order p q) [
      | inl e ↦ e
      | inr other ↦ elim other [
        | inl l ↦ absurd (false≢true (sym (le-ltb p p (omega arith)) ∙ (h p ∙ lt-ltb p q l)))
        | inr l ↦ absurd (false≢true (sym (le-ltb q q (omega arith)) ∙ (sym (h q) ∙ lt-ltb q p l)))
      ]
    ]

-- a list has an entry at each place below its length
has_entry : (cs : List Code) (k : ℕ) → is_some (slice_get cs k) ≡ nat_lt k (length cs)
has_entry cs k =
    elim (cases_order k (length cs)) [
      | inl e ↦ ap is_some (slice_get_past cs k (omega arith)) ∙ sym (le-ltb k (length cs) (omega arith))
      | inr other ↦ elim other [
        | inl l ↦ ap is_some (slice_get-get_or cs k Applied l) ∙ sym (lt-ltb k (length cs) l)
        | inr l ↦ ap is_some (slice_get_past cs k (omega arith)) ∙ sym (le-ltb k (length cs) (omega arith))
      ]
    ]

-- equal lists of codes, by look-up
same_codes : (cs ds : List Code) → ((k : ℕ) → slice_get cs k ≡ slice_get ds k) → cs ≡ ds
same_codes [] [] h = refl
same_codes [] (d ∷ ds) h = absurd (cc (h 0))
same_codes (c ∷ cs) [] h = absurd (cc (h 0))
same_codes (c ∷ cs) (d ∷ ds) h = let rest : cs ≡ ds = same_codes cs ds (λ k. h (suc k)) in cc (h 0, rest)

-- the frames of numbers, each by its counter and its message
frames_of : (a : ℕ) (sent : List (List ℕ)) (ks : List ℕ)
    → map (λ w. spelling (frame_under a w)) (map (λ k. (counter_of k, message_at sent k)) ks)
    ≡ map (λ k. spelling (frame_under a (counter_of k, message_at sent k))) ks
frames_of a sent [] = refl
frames_of a sent (k ∷ ks) = ap (λ fs. spelling (frame_under a (counter_of k, message_at sent k)) ∷ fs)
    (frames_of a sent ks)

-- an encoder that is ready and a new server are a line
pub line_ready : {V : Type 0} (e : EncoderState V) → IsReady e.ring → e.part ≡ Closed → IsLine (line_from e)
line_ready e ready shut =
    let h = holds_from e shut in
    kept_same e.address e (idle_at e.address) (at_first e.value) (once_of (line_from e)) 0 0 refl refl
    (fun_ext (λ k. sym (h.codes k))) (fun_ext (λ k. sym (h.acknowledged k))) (kept_at_first e ready)

module _ {V : Type 0} (step : Step V) (taken : Taken V) (address : ℕ) (opening : V) where
  -- the state is that of a line to this address, it holds what the once-machine holds, and that has the value and the
  -- codes of its history
  pub record Follows (line : LineState V) (o : Once V) (acts : List Act) : Type 0 where
    pub is_line : IsLine line
    pub at_address : line.encoder.address ≡ address
    pub holds : Holds line o
    pub folded_is : Folded step taken opening o (length line.codes) acts

  -- and so does one after an event that takes place
  follows_after : (line line' : LineState V) (o : Once V) (acts : List Act) (event : Event) (answer : Stepped)
      → Fits event → Follows line o acts → StepsAs step taken line o event answer line'
      → Follows line' (after step taken o event) (acts ++ act_of event (answer_seen answer))
  follows_after line line' o acts event answer fit f steps =
      let a : ℕ = line.encoder.address in
      let w = lawful_after step taken a opening (world_of line o) acts event fit (ap is_none steps.accepted)
      (record {
        p = length line.codes;
        q = let_go line;
        hears = f.holds.open_parts;
        kept = kept_at line o f.is_line f.holds;
        folded_is = f.folded_is;
      }) in
      let p_is : length line'.codes ≡ w.p = same_bound (length line'.codes) w.p
      (λ k. sym (has_entry line'.codes k) ∙ (ap is_some (steps.holds.codes k) ∙ w.kept.applied k)) in
      let ends : Kept a line'.encoder line'.server (after step taken o event) w.p w.q =
      subst (λ (e : EncoderState V). Kept a e line'.server (after step taken o event) w.p w.q) (sym steps.encoder)
      (subst (λ (s : ServerState). Kept a (encoder_after step taken a o line.encoder event) s (after step taken o event)
      w.p w.q) (sym steps.server) w.kept) in
      record {
        is_line = line_stays a line' (after step taken o event) w.p w.q ends steps.holds.sent steps.holds.codes p_is;
        at_address = ends.encoder.address ∙ f.at_address;
        holds = steps.holds;
        folded_is = subst (λ (n : ℕ). Folded step taken opening (after step taken o event) n
            (acts ++ act_of event (answer_seen answer))) (sym p_is)
            (subst (λ (x : Answer). Folded step taken opening (after step taken o event) w.p (acts ++ act_of event x))
            (sym steps.answer) w.folded_is);
      }

  -- and one after any events
  follows_on : (line : LineState V) (o : Once V) (acts : List Act) (events : List Event) (outcomes : List Outcome)
      (line' : LineState V) (o' : Once V) → Follows line o acts
      → Plays step taken line o events outcomes line' o' → Follows line' o' (acts ++ history_by events outcomes)
  follows_on line o acts [] [] line' o' f p =
      subst (λ (x : List Act). Follows line' o' x) (sym (append-nil acts))
      (subst (λ (l : LineState V). Follows l o' acts) (sym p.0)
      (subst (λ (x : Once V). Follows line x acts) (sym p.1) f))
  follows_on line o acts [] (r ∷ rs) line' o' f p = absurd p
  follows_on line o acts (e ∷ es) [] line' o' f p = absurd p
  follows_on line o acts (e ∷ es) (Ok stepped ∷ rs) line' o' f p =
      let brought : List Act = act_of e (answer_seen stepped) in
      subst (λ (x : List Act). Follows line' o' x) (append_assoc acts brought (history_by es rs))
      (follows_on p.0 (after step taken o e) (acts ++ brought) es rs line' o'
      (follows_after line p.0 o acts e stepped p.1.0 f p.1.1) p.2)
  follows_on line o acts (e ∷ es) (Err refusal ∷ rs) line' o' f p =
      follows_on p.0 o acts es rs line' o' (subst (λ (l : LineState V). Follows l o acts) (sym p.1.1) f) p.2

  -- the frames that the server lends are those of the numbers that are not acknowledged
  lent : (line : LineState V) → IsLine line → line.encoder.address ≡ address
      → frames_waiting line.server ≡ map (λ k. spelling (frame_under address (counter_of k, message_at line.sent k)))
      (missing (is_acknowledged line) (length line.sent))
  lent line is a =
      ap (λ (b : ℕ). map (λ w. spelling (frame_under b w)) (waiting line.server)) (is.server.address ∙ a)
      ∙ ap (map (λ w. spelling (frame_under address w)))
      (waiting_is line.encoder.address line.encoder line.server (once_of line) (length line.codes) (let_go line) is)
      ∙ frames_of address line.sent (missing (is_acknowledged line) (length line.sent))

  headline_of : (line : LineState V) (o : Once V) (acts : List Act) → Follows line o acts
      → IsHeadline step taken address opening acts line
  headline_of line o acts f =
      let is = f.is_line in
      let n = sent_le line.encoder.address line.encoder line.server (once_of line) (length line.codes) (let_go line)
      is in
      let sent : o.sent ≡ line.sent = sym f.holds.sent in
      record {
        order = f.folded_is.order;
        store = f.holds.value ∙ (f.folded_is.value ∙ ap (λ x. value_after step taken x opening acts) sent);
        codes = same_codes line.codes (codes_after step taken line.sent opening acts)
            (λ k. f.holds.codes k ∙ (f.folded_is.codes k ∙ ap (λ x. slice_get (codes_after step taken x opening acts) k)
            sent));
        applied = (is.p_le, omega (arith, n.1, is.q_le));
        acknowledged = is.within;
        outstanding = lent line is f.at_address;
      }

-- a line of an encoder that is ready, with nothing open, follows
follows_from : {V : Type 0} (step : Step V) (taken : Taken V) (e : EncoderState V) → IsReady e.ring → e.part ≡ Closed
    → Follows step taken e.address e.value (line_from e) (at_first e.value) []
follows_from step taken e ready shut = record {
  is_line = line_ready e ready shut;
  at_address = refl;
  holds = holds_from e shut;
  folded_is = record { order = refl; value = refl; codes = λ k. refl };
}

-- any list of steps from there keeps the headline
pub headline_from : {V : Type 0} (step : Step V) (taken : Taken V) (e : EncoderState V) → IsReady e.ring
    → e.part ≡ Closed → (events : List Event) (outcomes : List Outcome) (line : LineState V) (o : Once V)
    → Plays step taken (line_from e) (at_first e.value) events outcomes line o
    → IsHeadline step taken e.address e.value (history_by events outcomes) line
headline_from step taken e ready shut events outcomes line o plays =
    headline_of step taken e.address e.value line o (history_by events outcomes)
    (follows_on step taken e.address e.value (line_from e) (at_first e.value) [] events outcomes line o
    (follows_from step taken e ready shut) plays)

-- and of its two ends, beside whatever the line holds, the law of numbers holds
pub numbers_on : {V : Type 0} (step : Step V) (taken : Taken V) (e : EncoderState V) → IsReady e.ring → e.part ≡ Closed
    → (events : List Event) (outcomes : List Outcome) (line : LineState V) (o : Once V)
    → Plays step taken (line_from e) (at_first e.value) events outcomes line o → (o' : Once V) → Holds line o'
    → Numbers step e.address (world_of line o') (length line.codes)
numbers_on {V} step taken e ready shut events outcomes line o plays o' h =
    let f = follows_on step taken e.address e.value (line_from e) (at_first e.value) [] events outcomes line o
    (follows_from step taken e ready shut) plays in
    numbers_from step e.address (world_of line o') (length line.codes) (let_go line)
    (subst (λ (a : ℕ). Kept a line.encoder line.server o' (length line.codes) (let_go line)) f.at_address
    (kept_at line o' f.is_line h))

module _ {V : Type 0} (step : Step V) (taken : Taken V) (address : ℕ) (value : V) where
  -- from a new line
  pub headline : (events : List Event) (outcomes : List Outcome) (line : LineState V) (o : Once V)
      → Plays step taken (new_line address value) (at_first value) events outcomes line o
      → IsHeadline step taken address value (history_by events outcomes) line
  headline events outcomes line o plays = headline_from step taken (opening address value) ready_at_first refl events
      outcomes line o plays

  pub numbers : (events : List Event) (outcomes : List Outcome) (line : LineState V) (o : Once V)
      → Plays step taken (new_line address value) (at_first value) events outcomes line o
      → (o' : Once V) → Holds line o' → Numbers step address (world_of line o') (length line.codes)
  numbers events outcomes line o plays o' h = numbers_on step taken (opening address value) ready_at_first refl events
      outcomes line o plays o' h
