-- What a reply that the line lets pass does: for the call that brings it to the server.
use Rattle.std.proofs.Common.{◌≡◌, ℕ, ◌+◌, ◌<◌, ◌≤◌, Bool, true, false, cond, List, [], ◌∷◌, ◌++◌, length, Option, Some}
use Rattle.std.proofs.Common.{None, Ok, Err, refl, ap, sym, ◌∙◌, arith, inl, inr}
use Rattle.std.specs.Prelude.{slice_get, not, filter_map}
use Rattle.std.specs.List.{last_or}
use Rattle.std.specs.Option.{option_map}
use Rattle.std.proofs.lemmas.Bool.{cases_Bool, cases_lt, le-leb, false≢true}
use Rattle.uecp_elements.specs.declared.code.Code.{Code}
use Rattle.uecp_frame.specs.declared.frame.Frame.{Frame}
use Rattle.uecp_frame.specs.Frame.{spelling}
use Rattle.uecp_frame.specs.Findings.{Finding, has_frame}
use Rattle.uecp_encoder.specs.Target.{Step, Taken}
use Rattle.uecp_encoder.specs.Answering.{reply_of}
use Rattle.uecp_link.specs.Counters.{counter_of}
use Rattle.uecp_link.specs.Server.{ServerState, Held, waiting_among, waits_for, acknowledges, heard_finding}
use Rattle.uecp_link.specs.Server.{heard_findings, heard, all_heard_as, told}
use Rattle.uecp_link.specs.Replying.{code_heard, acknowledgements}
use Rattle.uecp_link.specs.Holds.{let_go, is_acknowledged}
use Rattle.uecp_link.specs.Once.{ReplyComes, acknowledgement}
use Rattle.uecp_link.specs.Law.{reply_bytes}
use Rattle.uecp_link.specs.Kept.{last_counter, held_from}
use Rattle.uecp_link.specs.Holds.{LineState, once_of, IsLine}
use Rattle.uecp_link.specs.Events.{answer_seen}
use Rattle.uecp_link.specs.Next.{Passes, Goes, stepped_by}
use Rattle.uecp_link.proofs.Wire.{whole}
use Rattle.uecp_link.proofs.Hearing.{heard_faults, acknowledges_reply}
use Rattle.uecp_link.proofs.HeldNumbers.{waits_not, waits_so}
use Rattle.uecp_link.proofs.Steps.{reply_fits}

-- what is heard acknowledged after faults is what the rest acknowledges
acknowledgements-faults : (s : ServerState) (xs ys : List Finding) → has_frame xs ≡ false
    → filter_map code_heard (all_heard_as s (xs ++ ys)) ≡ filter_map code_heard (all_heard_as (heard_findings s xs) ys)
acknowledgements-faults s [] ys h = refl
acknowledgements-faults s (Err fault ∷ xs) ys h = acknowledgements-faults (heard_finding s (Err fault)) xs ys h
acknowledgements-faults s (Ok g ∷ xs) ys h = absurd (cc)

-- and of one frame its code, or none
one_code : (reply : Option (ℕ × Code)) → last_or None (filter_map code_heard (told reply ∷ []))
    ≡ option_map (λ (r : ℕ × Code). r.1) reply
one_code None = refl
one_code (Some reply) = refl

-- with which code a reply acknowledges, by whether its number is acknowledged already
abbrev pub code_for : Bool → Code → Option Code
code_for acked code = cond acked None (Some code)

module _ {V : Type 0} (step : Step V) (taken : Taken V) (line : LineState V) (is : IsLine line) (k : ℕ)
    (below : k < length line.codes) (near : length line.sent ≤ k + 127) (bytes : List ℕ)
    (spelled : bytes ≡ reply_bytes line.encoder.address k (slice_get line.codes k)) where
  abbrev a : ℕ
  a = line.encoder.address

  abbrev q : ℕ
  q = let_go line

  abbrev acked : Bool
  acked = is_acknowledged line k

  abbrev hs : List Held
  hs = held_from line.sent (once_of line).acknowledged q is.count

  -- the server waits for it where it is not acknowledged
  waits_is : waits_for (waiting_among hs) (counter_of k) ≡ not acked
  waits_is =
      elim (cases_Bool acked) [
        | inl yes_ ↦
            waits_not line.sent (once_of line).acknowledged k q is.count yes_ (omega (arith, near, is.count_is))
            (omega (arith, below, is.p_le, is.count_is, is.few))
            ∙ ap not (sym yes_)
        | inr not_yet ↦
            let here : q ≤ k = elim (cases_lt k q) [
              | inl l ↦ absurd (false≢true (sym not_yet ∙ is.below k l))
              | inr g ↦ g
            ] in
            waits_so line.sent (once_of line).acknowledged k q is.count not_yet here
            (omega (arith, below, is.p_le, is.count_is)) ∙ ap not (sym not_yet)
      ]

  -- what the server hears
  pub heard_code : (code : Code) → slice_get line.codes k ≡ Some code
      → last_or None (acknowledgements line.server bytes) ≡ code_for acked code
  heard_code code at =
      let f : Frame = reply_of a (counter_of k) code in
      let w = whole line.server.part f (reply_fits a k code) in
      let s1 : ServerState = heard_findings line.server w.0 in
      let s1_is = heard_faults line.server a (last_counter (length line.sent)) hs w.0 w.1 is.server in
      let bytes_is : bytes ≡ spelling f = spelled ∙ ap (reply_bytes a k) at in
      ap (λ bs. last_or None (acknowledgements line.server bs)) bytes_is
      ∙ ap (λ fs. last_or None (filter_map code_heard (all_heard_as line.server fs))) w.2
      ∙ ap (last_or None) (acknowledgements-faults line.server w.0 (Ok f ∷ []) w.1)
      ∙ one_code (acknowledges s1 f)
      ∙ ap (option_map (λ (r : ℕ × Code). r.1)) (acknowledges_reply s1 a (last_counter (length line.sent)) hs
      (counter_of k) code s1_is ∙ ap (λ (b : Bool). cond b (Some (counter_of k, code)) None) waits_is)
      ∙ go acked
    where
      go : (b : Bool) → option_map (λ (r : ℕ × Code). r.1) (cond (not b) (Some (counter_of k, code)) None)
          ≡ code_for b code
      go true = refl
      go false = refl

  answered : (code : Code) → slice_get line.codes k ≡ Some code
      → answer_seen (stepped_by (code_for acked code)) ≡ acknowledgement acked (slice_get line.codes k)
  answered code at = rw at (go acked)
    where
      go : (b : Bool) → answer_seen (stepped_by (code_for b code)) ≡ acknowledgement b (Some code)
      go true = refl
      go false = refl

  passes : (code : Code) → slice_get line.codes k ≡ Some code → Passes line (ReplyComes k)
  passes code at = rw (at, le-leb (length line.sent) (k + 127) near) refl

  -- what the call owes
  pub hears_reply : (code : Code) → slice_get line.codes k ≡ Some code → (s : ServerState) → s ≡ heard line.server bytes
      → Goes step taken line (ReplyComes k) (stepped_by (last_or None (acknowledgements line.server bytes)))
      (record { encoder = line.encoder; server = s; sent = line.sent; codes = line.codes })
  hears_reply code at s s_is = record {
    line = is;
    passes = passes code at;
    answer = ap (λ o. answer_seen (stepped_by o)) (heard_code code at) ∙ answered code at;
    next = ap (λ (t : ServerState). let l : LineState V =
        record { encoder = line.encoder; server = t; sent = line.sent; codes = line.codes } in l)
        (s_is ∙ ap (heard line.server) spelled);
  }
