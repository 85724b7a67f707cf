-- What a server marks of the bytes that an event brings.
use Rattle.std.proofs.Common.{◌≡◌, ℕ, ◌+◌, ◌<◌, ◌≤◌, Bool, true, false, cond, List, [], ◌∷◌, ◌++◌, length, Option, Some}
use Rattle.std.proofs.Common.{None, Ok, Err, refl, ap, sym, ◌∙◌, arith, inl, inr}
use Rattle.std.specs.Prelude.{is_some, is_none, not, filter_map}
use Rattle.std.proofs.lemmas.Bool.{cases_Bool, cases_lt, ltb-true, false≢true}
use Rattle.uecp_elements.specs.declared.code.Code.{Code}
use Rattle.uecp_frame.specs.declared.frame.Frame.{Frame}
use Rattle.uecp_frame.specs.Findings.{Finding, has_frame, is_quiet}
use Rattle.uecp_frame.specs.Beyond.{found_beyond}
use Rattle.uecp_frame.proofs.Public.{new_start_lem}
use Rattle.uecp_encoder.specs.Target.{Step, Taken}
use Rattle.uecp_encoder.specs.Answering.{reply_of}
use Rattle.uecp_link.specs.Counters.{counter_of, is_recent}
use Rattle.uecp_link.specs.Server.{ServerState, waiting_among, waits_for, heard_finding}
use Rattle.uecp_link.specs.Server.{heard_findings, all_heard_as, told}
use Rattle.uecp_link.specs.Window.{mark_in, marks_in}
use Rattle.uecp_link.specs.Once.{Event, Submit, FrameComes, ReplyComes, NoiseToEncoder, NoiseToServer, EncoderLost}
use Rattle.uecp_link.specs.Once.{ServerLost, EncoderRestart, ServerRestart, Take, refusal_of, answer_of}
use Rattle.uecp_link.specs.Once.{acknowledgement, Refusal, HoldsAFrame}
use Rattle.uecp_link.specs.Law.{World, run, start_from, reply_bytes}
use Rattle.uecp_link.specs.Kept.{last_counter, held_from, Kept, Hears}
use Rattle.uecp_link.proofs.Public.{whole, heard_faults, acknowledges_reply, quiet_rest, waits_not, waits_so}
use Rattle.uecp_link.proofs.Public.{is_none-of, reply_fits, recent_le, test_of, lawful_run, lawful_from}
use Rattle.promises.specs.StationTold.{told_by}
use Rattle.promises.specs.Heard.{bytes_to_server, marks_of}
use Rattle.promises.specs.StationLaws.{ToldIsMarked}

-- faults bring no mark
marks-faults : (s : ServerState) (xs ys : List Finding) → has_frame xs ≡ false
    → filter_map mark_in (all_heard_as s (xs ++ ys)) ≡ filter_map mark_in (all_heard_as (heard_findings s xs) ys)
marks-faults s [] ys h = refl
marks-faults s (Err fault ∷ xs) ys h = marks-faults (heard_finding s (Err fault)) xs ys h
marks-faults s (Ok g ∷ xs) ys h = absurd (cc)

no_marks : (s : ServerState) (xs : List Finding) → has_frame xs ≡ false → filter_map mark_in (all_heard_as s xs) ≡ []
no_marks s [] h = refl
no_marks s (Err fault ∷ xs) h = no_marks (heard_finding s (Err fault)) xs h
no_marks s (Ok g ∷ xs) h = absurd (cc)

let_pass : (b : Bool) (r : Refusal) → is_none (cond b None (Some r)) ≡ true → b ≡ true
let_pass true r h = refl
let_pass false r h = cc

silent : (s : ServerState) → marks_in s [] ≡ []
silent s = ap (λ (fs : List Finding). filter_map mark_in (all_heard_as s fs)) (new_start_lem s.part []).nothing

module _ {V : Type 0} (step : Step V) (taken : Taken V) (address : ℕ) (w : World V) (p q : ℕ)
    (kept : Kept address w.encoder w.server w.once p q) (hears : Hears w.encoder w.server w.once) where
  marks_reply : (k : ℕ) → is_none (refusal_of w.once (ReplyComes k)) ≡ true
      → marks_in w.server (reply_bytes address k (w.once.codes k))
      ≡ marks_of (told_by (ReplyComes k) (acknowledgement (w.once.acknowledged k) (w.once.codes k)))
  marks_reply k open_ = go (w.once.codes k) refl
    where
      tests : (is_some (w.once.codes k) ≡ true) × (is_recent (length w.once.sent) k ≡ true)
      tests = test_of (is_some (w.once.codes k)) (is_recent (length w.once.sent) k) _ _ open_

      near : length w.once.sent ≤ k + 127
      near = recent_le (length w.once.sent) k tests.1

      below : k < p
      below = ltb-true k p (sym (kept.applied k) ∙ tests.0)

      waits_is : waits_for (waiting_among (held_from w.once.sent w.once.acknowledged q kept.count)) (counter_of k)
          ≡ not (w.once.acknowledged k)
      waits_is =
          elim (cases_Bool (w.once.acknowledged k)) [
            | inl yes_ ↦
                waits_not w.once.sent w.once.acknowledged k q kept.count yes_ (omega (arith, near, kept.count_is))
                (omega (arith, below, kept.p_le, kept.count_is, kept.few))
                ∙ ap not (sym yes_)
            | inr not_yet ↦
                let here : q ≤ k = elim (cases_lt k q) [
                  | inl l ↦ absurd (false≢true (sym not_yet ∙ kept.below k l))
                  | inr g ↦ g
                ] in
                waits_so w.once.sent w.once.acknowledged k q kept.count not_yet here
                (omega (arith, below, kept.p_le, kept.count_is)) ∙ ap not (sym not_yet)
          ]

      first : (b : Bool) (code : Code)
          → filter_map mark_in (told (cond (not b) (Some (counter_of k, code)) None) ∷ [])
          ≡ marks_of (told_by (ReplyComes k) (acknowledgement b (Some code)))
      first true code = refl
      first false code = refl

      go : (c : Option Code) → w.once.codes k ≡ c → marks_in w.server (reply_bytes address k c)
          ≡ marks_of (told_by (ReplyComes k) (acknowledgement (w.once.acknowledged k) c))
      go None is = absurd (false≢true (sym (is_none-of (w.once.codes k) is) ∙ tests.0))
      go (Some code) is =
          let f : Frame = reply_of address (counter_of k) code in
          let heard = whole w.server.part f (reply_fits address k code) in
          let s1 : ServerState = heard_findings w.server heard.0 in
          let s1_is = heard_faults w.server address (last_counter (length w.once.sent))
          (held_from w.once.sent w.once.acknowledged q kept.count) heard.0 heard.1 kept.server in
          ap (λ fs. filter_map mark_in (all_heard_as w.server fs)) heard.2
          ∙ marks-faults w.server heard.0 (Ok f ∷ []) heard.1
          ∙ ap (λ (r : Option (ℕ × Code)). filter_map mark_in (told r ∷ []))
          (acknowledges_reply s1 address (last_counter (length w.once.sent))
          (held_from w.once.sent w.once.acknowledged q kept.count) (counter_of k) code s1_is
          ∙ ap (λ (b : Bool). cond b (Some (counter_of k, code)) None) waits_is)
          ∙ first (w.once.acknowledged k) code

  marked : (event : Event) → is_none (refusal_of w.once event) ≡ true
      → marks_in w.server (bytes_to_server address w.once event)
      ≡ marks_of (told_by event (answer_of step taken w.once event))
  marked (Submit m) open_ = silent w.server
  marked (FrameComes k) open_ = silent w.server
  marked (ReplyComes k) open_ = marks_reply k open_
  marked (NoiseToEncoder x) open_ = silent w.server
  marked (NoiseToServer x) open_ =
      no_marks w.server (found_beyond w.server.part x) (quiet_rest w.server.part w.once.to_server x hears.server
      (let_pass (is_quiet (w.once.to_server ++ x)) HoldsAFrame open_))
  marked EncoderLost open_ = silent w.server
  marked ServerLost open_ = silent w.server
  marked EncoderRestart open_ = silent w.server
  marked ServerRestart open_ = silent w.server
  marked Take open_ = silent w.server

pub told_is_marked_lem : {V : Type 0} (step : Step V) (taken : Taken V) → ToldIsMarked step taken
told_is_marked_lem {V} step taken e ready shut events fit event open_ =
    let w : World V = run step taken e.address (start_from e) events in
    let law = lawful_run step taken e.address e.value (start_from e) [] events fit
    (lawful_from step taken e ready shut) in
    marked step taken e.address w law.p law.q law.kept law.hears event open_
