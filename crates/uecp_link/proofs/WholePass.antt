-- A pass of which nothing is lost brings both replies.
use Rattle.std.proofs.Common.{◌≡◌, ℕ, zero, suc, ◌+◌, ◌<◌, ◌≤◌, List, [], ◌∷◌, ◌++◌, map, Contains, slice_index_or, Ok}
use Rattle.std.proofs.Common.{refl, ◌∙◌, ap, sym, subst, arith, inl, inr, append_assoc, append-nil}
use Rattle.std.specs.Prelude.{filter_map, flat_map}
use Rattle.std.specs.List.{concat}
use Rattle.std.proofs.lemmas.List.Elements.{Contains-append_cases}
use Rattle.uecp_frame.specs.declared.frame.Frame.{Frame}
use Rattle.uecp_frame.specs.Frame.{spelling}
use Rattle.uecp_frame.specs.Findings.{Closed}
use Rattle.uecp_frame.specs.Beyond.{found_beyond, open_beyond}
use Rattle.uecp_frame.proofs.Public.{in_pieces_lem, new_start_lem, always_heard_lem}
use Rattle.uecp_encoder.specs.Target.{Step}
use Rattle.reply_ring.specs.Ring.{newest}
use Rattle.uecp_encoder.specs.State.{EncoderState, opening, next_after, after_findings, fed}
use Rattle.uecp_encoder.specs.Answering.{responses, bytes_sent, answers}
use Rattle.uecp_encoder.specs.Laws.{after_happenings}
use Rattle.uecp_encoder.specs.Joining.{messages_to, counters_replied, rising, HasJoined}
use Rattle.uecp_encoder.proofs.Public.{counters, back, some_back, joins_from, replied_from, findings_open, fed-part}
use Rattle.uecp_link.specs.Frames.{frame_under}
use Rattle.uecp_link.specs.Joining.{pass_sent, reply_counter, reply_counters, IsJoinedBy, BringsBoth, HasJoinedWith}
use Rattle.uecp_link.specs.Joining.{WholePassBringsBoth}
use Rattle.uecp_link.proofs.Beginnings.{Small, spelled, found_as, second_empty}
use Rattle.uecp_link.proofs.Replying.{Rises, no_more, reply_as, firsts, taken, Replies, replies, after_taken}
use Rattle.uecp_link.proofs.Replying.{without_taken, address_is}
use Rattle.uecp_link.proofs.PassComes.{empties, pass_is, empties_small, is_message, Passing, passing, replies_small}
use Rattle.uecp_link.proofs.PassComes.{counters_of}

-- ---- a place among counters

record Stands (cs : List ℕ) (c : ℕ) : Type 0 where
  pub before : List ℕ
  pub after : List ℕ
  pub are : cs ≡ before ++ c ∷ after

one_of : (d c : ℕ) → Contains (d ∷ []) c → d ≡ c
one_of d c h = go h.0 h.1 h.2
  where
    go : (k : ℕ) → k < 1 → slice_index_or (d ∷ []) k c ≡ c → d ≡ c
    go zero within is = is
    go (suc k) within is = absurd (omega arith)

stands : (cs : List ℕ) (c : ℕ) → Contains cs c → Stands cs c
stands [] c h = let within = h.1 in absurd (omega arith)
stands (d ∷ cs) c h =
    elim (Contains-append_cases (d ∷ []) cs c h) [
      | inl here ↦ record { before = []; after = cs; are = ap (λ n. n ∷ cs) (one_of d c here) }
      | inr later ↦ (let rest = stands cs c later in record {
        before = d ∷ rest.before;
        after = rest.after;
        are = ap (λ l. d ∷ l) rest.are;
      })
    ]

-- counters that rise and hold both hold them in order
in_order : (least : ℕ) (cs : List ℕ) → Rises least 255 cs → Contains cs 0x81 → Contains cs 0xFF → IsJoinedBy cs
in_order least cs rise low high =
    let l : Stands cs 0x81 = stands cs 0x81 low in
    elim (Contains-append_cases l.before (0x81 ∷ l.after) 0xFF (subst (λ xs. Contains xs 0xFF) l.are high)) [
      | inl early ↦
          (let h : Stands l.before 0xFF = stands l.before 0xFF early in
          let at : cs ≡ h.before ++ 0xFF ∷ (h.after ++ 0x81 ∷ l.after) =
          l.are ∙ ap (λ xs. xs ++ 0x81 ∷ l.after) h.are ∙ append_assoc h.before (0xFF ∷ h.after) (0x81 ∷ l.after) in
          let none = second_empty h.after (0x81 ∷ l.after)
          (no_more least h.before (h.after ++ 0x81 ∷ l.after) (subst (Rises least 255) at rise)) in
          absurd (cc))
      | inr later ↦
          elim (Contains-append_cases (0x81 ∷ []) l.after 0xFF later) [
            | inl same ↦ (let e = one_of 0x81 0xFF same in absurd (omega arith))
            | inr after ↦
                (let h : Stands l.after 0xFF = stands l.after 0xFF after in
                record {
                  before = l.before;
                  between = h.before;
                  after = h.after;
                  are = l.are ∙ ap (λ xs. l.before ++ 0x81 ∷ xs) h.are;
                })
          ]
    ]

-- ---- all of the frames come

whole_found : (fs : List Frame) → Small fs → found_beyond Closed (concat (spelled fs)) ≡ found_as fs
whole_found [] small = (new_start_lem Closed []).nothing
whole_found (f ∷ fs) small =
    let here = always_heard_lem Closed f small.0 in
    (in_pieces_lem Closed (spelling f) (concat (spelled fs))).found
    ∙ ap (λ xs. xs ++ found_beyond (open_beyond Closed (spelling f)) (concat (spelled fs))) here.found
    ∙ ap (λ o. Ok f ∷ found_beyond o (concat (spelled fs))) here.left ∙ ap (λ xs. Ok f ∷ xs) (whole_found fs small.1)

all_messages : (V : Type 0) (address first many : ℕ) → 1 ≤ first
    → messages_to address (taken {V = V} (empties address (rising first many))) ≡ empties address (rising first many)
all_messages V address first zero some = refl
all_messages V address first (suc many) some =
    rw (is_message address first some) (ap (λ fs. frame_under address (first, []) ∷ fs)
    (all_messages V address (first + 1) many (omega arith)))

counters_are : (address : ℕ) (cs : List ℕ) → map (λ f. f.counter) (empties address cs) ≡ cs
counters_are address [] = refl
counters_are address (c ∷ cs) = ap (λ l. c ∷ l) (counters_are address cs)

whole_closed : (fs : List Frame) → Small fs → open_beyond Closed (concat (spelled fs)) ≡ Closed
whole_closed [] small = (new_start_lem Closed []).stays
whole_closed (f ∷ fs) small =
    let here = always_heard_lem Closed f small.0 in
    (in_pieces_lem Closed (spelling f) (concat (spelled fs))).left
    ∙ ap (λ o. open_beyond o (concat (spelled fs))) here.left ∙ whole_closed fs small.1

module _ {V : Type 0} (step : Step V) where
  -- what a whole pass to an encoder with nothing open comes to
  record Got (e : EncoderState V) : Type 0 where
    pub finds : found_beyond e.part (pass_sent e.address) ≡ found_as (empties e.address (rising 1 255))
    pub closed : open_beyond e.part (pass_sent e.address) ≡ Closed
    pub passing_is : Passing V e.address 1 1 (empties e.address (rising 1 255)) []
    pub got : (c : ℕ) → 0x81 ≤ c → c ≤ 0xFF → Contains
        (counters_replied step e (taken (empties e.address (rising 1 255)))) c

  got : (e : EncoderState V) (p : ℕ) → counters e.ring ≡ back p 127 → e.part ≡ Closed → Got e
  got e p old closed =
      let fs : List Frame = empties e.address (rising 1 255) in
      let small : Small fs = empties_small e.address (rising 1 255) in
      let all : map (λ f. f.counter) (messages_to e.address (taken {V = V} fs)) ≡ rising 1 255 =
      ap (map (λ f. f.counter)) (all_messages V e.address 1 255 (omega arith))
      ∙ counters_are e.address (rising 1 255) in
      record {
        finds = ap (λ o. found_beyond o (pass_sent e.address)) closed ∙ ap (found_beyond Closed) (pass_is e.address)
            ∙ whole_found fs small;
        closed = ap (λ o. open_beyond o (pass_sent e.address)) closed ∙ ap (open_beyond Closed) (pass_is e.address)
            ∙ whole_closed fs small;
        passing_is = passing V e.address 1 255 1 fs [] refl (omega arith) (omega arith) (sym (append-nil fs));
        got = λ c low high. replied_from step e (taken fs) p c old all low high;
      }

  -- its replies hold both
  pub brings_both : (e : EncoderState V) (p : ℕ) → counters e.ring ≡ back p 127 → e.part ≡ Closed
      → BringsBoth e.address (answers step e (pass_sent e.address))
  brings_both e p old closed =
      let g : Got e = got e p old closed in
      let fs : List Frame = empties e.address (rising 1 255) in
      let r : Replies step e fs = replies step e fs in
      let sent : answers step e (pass_sent e.address) ≡ concat (spelled (map (reply_as e.address) r.made)) =
      ap (λ xs. flat_map bytes_sent (responses step e xs)) g.finds ∙ r.sent in
      let heard : reply_counters e.address Closed (answers step e (pass_sent e.address)) ≡ firsts r.made =
      ap (reply_counters e.address Closed) sent ∙ ap (filter_map (reply_counter e.address))
      (whole_found (map (reply_as e.address) r.made) (replies_small e.address r.made))
      ∙ counters_of e.address r.made in
      let has : (c : ℕ) → 0x81 ≤ c → c ≤ 0xFF → Contains (firsts r.made) c =
      λ (c : ℕ) low high. subst (λ cs. Contains cs c) r.counters (g.got c low high) in
      subst IsJoinedBy (sym heard) (in_order 1 (firsts r.made) (r.rise 1 255 g.passing_is.rise)
      (has 0x81 (omega arith) (omega arith)) (has 0xFF (omega arith) (omega arith)))

  -- and the encoder has joined
  pub joined_whole : ((v : V) → (step v []).0 ≡ v) → (e : EncoderState V) (p : ℕ) → counters e.ring ≡ back p 127
      → e.part ≡ Closed → HasJoinedWith (fed step e (pass_sent e.address)) e.value
  joined_whole same e p old closed =
      let g : Got e = got e p old closed in
      let fs : List Frame = empties e.address (rising 1 255) in
      let j : HasJoined step e (taken fs) = joins_from step same e (taken fs) p old g.passing_is.pass
      (g.got 0x81 (omega arith) (omega arith)) (g.got 0xFF (omega arith) (omega arith)) in
      let state : fed step e (pass_sent e.address) ≡ record (after_happenings step e (taken fs)) {
        part =
            open_beyond e.part (pass_sent e.address);
      } =
      ap (after_findings step (record e { part = open_beyond e.part (pass_sent e.address) })) g.finds
      ∙ findings_open step e (open_beyond e.part (pass_sent e.address)) (found_as fs)
      ∙ ap (λ (d : EncoderState V). record d { part = open_beyond e.part (pass_sent e.address) })
      (sym (after_taken step e fs)) in
      record {
        value_is = ap (λ (d : EncoderState V). d.value) state ∙ j.value ∙ without_taken step e.value fs;
        kept = ap (λ (d : EncoderState V). map (λ pair. pair.0) d.ring) state ∙ j.kept;
        next = ap (λ (d : EncoderState V). next_after (newest d.ring)) state ∙ j.next;
        closed = fed-part step e (pass_sent e.address) ∙ g.closed;
      }

  pub address_after : (e : EncoderState V) (p : ℕ) → counters e.ring ≡ back p 127 → e.part ≡ Closed
      → (fed step e (pass_sent e.address)).address ≡ e.address
  address_after e p old closed =
      let g : Got e = got e p old closed in
      let fs : List Frame = empties e.address (rising 1 255) in
      ap (λ (d : EncoderState V). d.address)
      (ap (after_findings step (record e { part = open_beyond e.part (pass_sent e.address) })) g.finds
      ∙ findings_open step e (open_beyond e.part (pass_sent e.address)) (found_as fs)
      ∙ ap (λ (d : EncoderState V). record d { part = open_beyond e.part (pass_sent e.address) })
      (sym (after_taken step e fs)))
      ∙ address_is step e (taken fs)

  pub whole_pass_brings_both_lem : WholePassBringsBoth step
  whole_pass_brings_both_lem address value before closed =
      let old = some_back step (opening address value) before 0 refl in
      let e : EncoderState V = after_happenings step (opening address value) before in
      subst (λ (a : ℕ). BringsBoth a (answers step e (pass_sent a))) (address_is step (opening address value) before)
      (brings_both e old.0 old.1 closed)
