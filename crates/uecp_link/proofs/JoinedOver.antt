-- A pass over one line: what of it has come is so many of its frames and a beginning of the next, and what of the
-- replies was read is so many of them and a beginning of the next.
use Rattle.std.proofs.Common.{◌≡◌, ℕ, zero, suc, ◌+◌, ◌-◌, ◌<◌, ◌≤◌, ◌==◌, Bool, true, false, List, [], ◌∷◌, ◌++◌, map}
use Rattle.std.proofs.Common.{Contains, Ok, refl, ◌∙◌, ap, sym, subst, arith, inl, inr, ◌⊎◌, append_assoc, append-nil}
use Rattle.std.specs.Prelude.{filter_map, flat_map, nat_lt}
use Rattle.std.specs.List.{concat}
use Rattle.std.proofs.lemmas.Bool.{eqb-true, ltb-false}
use Rattle.std.proofs.lemmas.List.{map-append}
use Rattle.std.proofs.lemmas.List.Elements.{Contains-append_cases, Contains-append_right}
use Rattle.uecp_elements.specs.declared.code.Code.{Code}
use Rattle.uecp_frame.specs.declared.frame.Frame.{Frame}
use Rattle.uecp_frame.specs.Findings.{Closed}
use Rattle.uecp_frame.specs.Beyond.{found_beyond, open_beyond}
use Rattle.reply_ring.specs.Ring.{newest}
use Rattle.uecp_encoder.specs.Target.{Step}
use Rattle.uecp_encoder.specs.State.{EncoderState, opening, next_after, after_findings, fed}
use Rattle.uecp_encoder.specs.Answering.{responses, bytes_sent}
use Rattle.uecp_encoder.specs.Laws.{Happening, Finds, after_happenings}
use Rattle.uecp_encoder.specs.Joining.{messages_to, IsPass, counters_replied, falling, rising, HasJoined}
use Rattle.uecp_encoder.proofs.Public.{joins_lem, findings_open, fed-part}
use Rattle.uecp_link.specs.Frames.{frame_under}
use Rattle.uecp_link.specs.Joining.{twice, counters_behind, reply_counter, reply_counters, IsJoinedBy, BringsBoth}
use Rattle.uecp_link.specs.Joining.{JoinsOverALine}
use Rattle.uecp_link.proofs.Beginnings.{spelled, found_as, Begins, second_empty, begins}
use Rattle.uecp_link.proofs.Replying.{Rises, no_more, not_there, reply_as, firsts, taken, Replies, replies, after_taken}
use Rattle.uecp_link.proofs.Replying.{without_taken, address_is, Low, LastHigh, low_not, last_no_more, low_before}
use Rattle.uecp_link.proofs.Replying.{Among, among_low, among_last, Within, among_within, after_more, replied_more}
use Rattle.uecp_link.proofs.Replying.{empties_keep}
use Rattle.uecp_link.proofs.Passing.{later_behind, last_early, last_late}
use Rattle.uecp_link.proofs.PassComes.{empties, sent_is, Climbs, climbs_pass, ends_pass, empties_small, Passing}
use Rattle.uecp_link.proofs.PassComes.{passing}
use Rattle.uecp_link.proofs.PassComes.{replies_small}
use Rattle.uecp_link.proofs.PassComes.{counters_of}
use Rattle.uecp_link.proofs.PassComes.{IsCut, cut_map, none_of, is_none}

-- What was read is some of the replies, and their counters are those that rise.
record Read (address : ℕ) (made : List (ℕ × Code)) (read unread : List ℕ) : Type 0 where
  pub low : Contains (firsts made) 0x81
  pub high : Contains (firsts made) 0xFF
  pub first : List ℕ
  pub later : List ℕ
  pub at : firsts made ≡ first ++ 0xFF ∷ later
  pub over : later ≡ [] → unread ≡ []
  pub closed : later ≡ [] → open_beyond Closed read ≡ Closed

first_of_all : (x : ℕ) (xs : List ℕ) → Contains (x ∷ xs) x
first_of_all x xs = (0, omega arith, refl)

read_of : (address : ℕ) (made : List (ℕ × Code)) (read unread : List ℕ)
    → read ++ unread ≡ concat (spelled (map (reply_as address) made)) → BringsBoth address read
    → Read address made read unread
read_of address made read unread is brought =
    let h : Begins (map (reply_as address) made) read unread =
    begins (map (reply_as address) made) read unread (replies_small address made) is in
    let s : IsCut (reply_as address) made h.come h.to_come = cut_map (reply_as address) made h.come h.to_come h.all in
    let heard : reply_counters address Closed read ≡ firsts s.first =
    ap (filter_map (reply_counter address)) (h.finds ∙ ap found_as s.front_is) ∙ counters_of address s.first in
    let j : IsJoinedBy (firsts s.first) = subst IsJoinedBy heard brought in
    let more : List ℕ = j.after ++ firsts s.second in
    let at : firsts made ≡ j.before ++ 0x81 ∷ (j.between ++ 0xFF ∷ more) =
    ap firsts s.all ∙ map-append (λ (r : ℕ × Code). r.0) s.first s.second ∙ ap (λ cs. cs ++ firsts s.second) j.are
    ∙ append_assoc j.before (0x81 ∷ (j.between ++ 0xFF ∷ j.after)) (firsts s.second)
    ∙ ap (λ l. j.before ++ 0x81 ∷ l) (append_assoc j.between (0xFF ∷ j.after) (firsts s.second)) in
    let none : more ≡ [] → h.to_come ≡ [] = λ (e : more ≡ []). s.back_is
    ∙ ap (map (reply_as address)) (none_of s.second (second_empty j.after (firsts s.second) e)) in
    record {
      low = subst (λ cs. Contains cs 0x81) (sym at) (Contains-append_right j.before (0x81 ∷ (j.between ++ 0xFF ∷ more))
          0x81 (first_of_all 0x81 (j.between ++ 0xFF ∷ more)));
      high = subst (λ cs. Contains cs 0xFF) (sym at) (Contains-append_right j.before (0x81 ∷ (j.between ++ 0xFF ∷ more))
          0xFF (Contains-append_right (0x81 ∷ j.between) (0xFF ∷ more) 0xFF (first_of_all 0xFF more)));
      first = j.before ++ 0x81 ∷ j.between;
      later = more;
      at = at ∙ sym (append_assoc j.before (0x81 ∷ j.between) (0xFF ∷ more));
      over = λ e. h.none_left (none e);
      closed = λ e. h.closed (none e);
    }

-- What there is to know of a part of a pass that came so far: the replies to it, and that it came to its end, with
-- which the encoder has joined.
record Over {V : Type 0} (step : Step V) (e : EncoderState V) (made : List (ℕ × Code)) (come to_come : List Frame)
    (later : List ℕ) : Type 0 where
  pub all_come : to_come ≡ []
  pub no_later : later ≡ []
  pub value : (after_happenings step e (taken come)).value ≡ e.value
  pub kept : map (λ pair. pair.0) (after_happenings step e (taken come)).ring ≡ falling 0xFF 127
  pub next : next_after (newest (after_happenings step e (taken come)).ring) ≡ 1

-- of what joins, whether the first replies are those to other frames, and not to these
later_has : (xs ys : List ℕ) (c : ℕ) → (Contains xs c → ⊥) → Contains (xs ++ ys) c → Contains ys c
later_has xs ys c not has = elim (Contains-append_cases xs ys c has) [
  | inl early ↦ absurd (not early)
  | inr late ↦ late
]

not_among : (least most : ℕ) (xs : List ℕ) (c : ℕ) → Within least most xs → (c < least) ⊎ (most < c) → Contains xs c
    → ⊥
not_among least most [] c w out (k, lt, is) = omega arith
not_among least most (x ∷ xs) c w out (zero, lt, is) = go out
  where
    go : (c < least) ⊎ (most < c) → ⊥
    go (inl below) = let a = w.0 in let same : x ≡ c = is in omega arith
    go (inr above) = let a = w.1 in let same : x ≡ c = is in omega arith
not_among least most (x ∷ xs) c w out (suc k, lt, is) = not_among least most xs c w.2 out (k, omega arith, is)

counters_are : (address : ℕ) (cs : List ℕ) → map (λ f. f.counter) (empties address cs) ≡ cs
counters_are address [] = refl
counters_are address (c ∷ cs) = ap (λ l. c ∷ l) (counters_are address cs)

no_frames : (fs : List Frame) → map (λ f. f.counter) fs ≡ [] → fs ≡ []
no_frames [] h = refl
no_frames (f ∷ fs) h = absurd (cc)

-- ---- counters up to FE, each twice

within_twice : (least first many : ℕ) → least ≤ first → first + many ≤ 255
    → Within least 254 (twice (rising first many))
within_twice least first zero low most = tt
within_twice least first (suc many) low most = (
  low,
  omega arith,
  (
    low,
    omega arith,
    within_twice least (first + 1) many (omega arith) (omega arith),
  ),
)

last_twice : (first many : ℕ) (ys : List ℕ) → first + many ≤ 255 → LastHigh ys
    → LastHigh (twice (rising first many) ++ ys)
last_twice first zero ys most last = last
last_twice first (suc many) ys most last =
    inl (omega arith, inl (omega arith, last_twice (first + 1) many ys (omega arith) last))

climbs_twice : (least first many : ℕ) → least ≤ first → first + many ≤ 255
    → Climbs least (twice (rising first many) ++ 0xFF ∷ [])
climbs_twice least first zero low most = (omega arith, tt)
climbs_twice least first (suc many) low most =
    (low, (omega arith, climbs_twice first (first + 1) many (omega arith) (omega arith)))

-- where of the counters the last alone is FF, and that got a reply: all have come, and no reply is left
ends_with_last : (address : ℕ) (cs : List ℕ) (come to_come : List Frame) (made first later : List ℕ) → LastHigh cs
    → empties address cs ≡ come ++ to_come → Among made (map (λ f. f.counter) come) → made ≡ first ++ 0xFF ∷ later
    → (to_come ≡ []) × (later ≡ [])
ends_with_last address cs come to_come made first later last all among at =
    let counted : cs ≡ map (λ f. f.counter) come ++ map (λ f. f.counter) to_come =
    sym (counters_are address cs) ∙ ap (map (λ f. f.counter)) all
    ∙ map-append (λ (f : Frame). f.counter) come to_come in
    let all_come : to_come ≡ [] = is_none to_come (λ more.
    low_not first later (subst Low at (among_low made (map (λ f. f.counter) come) among
    (low_before (map (λ f. f.counter) come) (map (λ f. f.counter) to_come) cs counted
    (λ none. more (no_frames to_come none)) last)))) in
    let here : map (λ f. f.counter) come ≡ cs =
    ap (map (λ f. f.counter)) (sym (all ∙ ap (λ fs. come ++ fs) all_come ∙ append-nil come))
    ∙ counters_are address cs in (
      all_come,
      last_no_more first later
          (subst LastHigh at (among_last made (map (λ f. f.counter) come) among (subst LastHigh (sym here) last))),
    )

come_whole : (come to_come all : List Frame) → all ≡ come ++ to_come → to_come ≡ [] → come ≡ all
come_whole come to_come all is none = sym (is ∙ ap (λ fs. come ++ fs) none ∙ append-nil come)

-- a whole pass: the counters rise up to FF
over_whole : {V : Type 0} (step : Step V) → ((v : V) → (step v []).0 ≡ v)
    → (address behind : ℕ) (value : V) (before : List (Happening V)) →
    let e : EncoderState V = after_happenings step (opening address value) before in
    (come to_come : List Frame) (r : Replies step e come) (first later : List ℕ)
    → behind ≤ 254 → empties address (rising (behind + 1) (255 - behind)) ≡ come ++ to_come
    → Contains (firsts r.made) 0x81 → Contains (firsts r.made) 0xFF → firsts r.made ≡ first ++ 0xFF ∷ later
    → Over step e r.made come to_come later
over_whole {V} step same address behind value before come to_come r first later most all low high at =
    let e : EncoderState V = after_happenings step (opening address value) before in
    let p : Passing V address (behind + 1) 1 come to_come =
    passing V address (behind + 1) (255 - behind) 1 come to_come (omega arith) (omega arith) (omega arith) all in
    let j : HasJoined step e (taken come) =
    joins_lem step same address value before (taken come) p.pass
    (subst (λ cs. Contains cs 0x81) (sym r.counters) low)
    (subst (λ cs. Contains cs 0xFF) (sym r.counters) high) in
    record {
      all_come = is_none to_come (λ more. not_there (behind + 1) first later
          (subst (Rises (behind + 1) 254) at (r.rise (behind + 1) 254 (p.fewer more))));
      no_later = no_more (behind + 1) first later
          (subst (Rises (behind + 1) 255) at (r.rise (behind + 1) 255 p.rise));
      value = j.value ∙ without_taken step e.value come;
      kept = j.kept;
      next = j.next;
    }

-- behind a counter from 01 on and below 81: those up to FE twice, and then FF
over_early : {V : Type 0} (step : Step V) → ((v : V) → (step v []).0 ≡ v)
    → (address behind : ℕ) (value : V) (before : List (Happening V)) →
    let e : EncoderState V = after_happenings step (opening address value) before in
    (come to_come : List Frame) (r : Replies step e come) (first later : List ℕ)
    → behind ≤ 254 → empties address (twice (rising (behind + 1) (254 - behind)) ++ 0xFF ∷ []) ≡ come ++ to_come
    → Contains (firsts r.made) 0x81 → Contains (firsts r.made) 0xFF → firsts r.made ≡ first ++ 0xFF ∷ later
    → Over step e r.made come to_come later
over_early {V} step same address behind value before come to_come r first later most all low high at =
    let e : EncoderState V = after_happenings step (opening address value) before in
    let cs : List ℕ = twice (rising (behind + 1) (254 - behind)) ++ 0xFF ∷ [] in
    let (all_come, no_later) = ends_with_last address cs come to_come (firsts r.made) first later
    (last_twice (behind + 1) (254 - behind) (0xFF ∷ []) (omega arith) (inr refl)) all r.among at in
    let come_is : come ≡ empties address cs = come_whole come to_come (empties address cs) all all_come in
    let j : HasJoined step e (taken come) =
    joins_lem step same address value before (taken come)
    (subst (λ fs. IsPass 1 (messages_to address (taken {V = V} fs))) (sym come_is)
    (climbs_pass V address 1 cs (omega arith)
    (climbs_twice 1 (behind + 1) (254 - behind) (omega arith) (omega arith))))
    (subst (λ cs. Contains cs 0x81) (sym r.counters) low)
    (subst (λ cs. Contains cs 0xFF) (sym r.counters) high) in
    record {
      all_come = all_come;
      no_later = no_later;
      value = j.value ∙ without_taken step e.value come;
      kept = j.kept;
      next = j.next;
    }

-- behind one of 81 .. FE: those up to FE twice, and then 81 and FF
over_late : {V : Type 0} (step : Step V) → ((v : V) → (step v []).0 ≡ v)
    → (address behind : ℕ) (value : V) (before : List (Happening V)) →
    let e : EncoderState V = after_happenings step (opening address value) before in
    (come to_come : List Frame) (r : Replies step e come) (first later : List ℕ)
    → 0x81 ≤ behind → behind ≤ 254
    → empties address (twice (rising (behind + 1) (254 - behind)) ++ 0x81 ∷ 0xFF ∷ []) ≡ come ++ to_come
    → Contains (firsts r.made) 0x81 → Contains (firsts r.made) 0xFF → firsts r.made ≡ first ++ 0xFF ∷ later
    → Over step e r.made come to_come later
over_late {V} step same address behind value before come to_come r first later least most all low high at =
    let e : EncoderState V = after_happenings step (opening address value) before in
    let cs : List ℕ = twice (rising (behind + 1) (254 - behind)) in
    let ends : List ℕ = 0x81 ∷ 0xFF ∷ [] in
    let (all_come, no_later) = ends_with_last address (cs ++ ends) come to_come (firsts r.made) first later
    (last_twice (behind + 1) (254 - behind) ends (omega arith) (inl (omega arith, inr refl)))
    all r.among at in
    let come_is : come ≡ empties address cs ++ empties address ends =
    come_whole come to_come (empties address (cs ++ ends)) all all_come
    ∙ map-append (λ counter. frame_under address (counter, [])) cs ends in
    let mid : List (Happening V) = taken (empties address cs) in
    let end : List (Happening V) = taken (empties address ends) in
    let parts : taken {V = V} come ≡ mid ++ end = ap (λ fs. taken {V = V} fs) come_is
    ∙ map-append (λ f. Finds (Ok f)) (empties address cs) (empties address ends) in
    let e2 : EncoderState V = after_happenings step e mid in
    let q : Replies step e (empties address cs) = replies step e (empties address cs) in
    let few : Within (behind + 1) 254 (firsts q.made) =
    among_within (behind + 1) 254 (firsts q.made) (map (λ f. f.counter) (empties address cs)) q.among
    (subst (Within (behind + 1) 254) (sym (counters_are address cs))
    (within_twice (behind + 1) (behind + 1) (254 - behind) (omega arith) (omega arith))) in
    let has : (c : ℕ) → (c < behind + 1) ⊎ (254 < c) → Contains (firsts r.made) c
    → Contains (counters_replied step e2 end) c =
    λ (c : ℕ) out there. later_has (counters_replied step e mid) (counters_replied step e2 end) c
    (λ early. not_among (behind + 1) 254 (firsts q.made) c few out (subst (λ xs. Contains xs c) q.counters early))
    (subst (λ xs. Contains xs c) (sym r.counters ∙ ap (counters_replied step e) parts
    ∙ replied_more step e mid end) there) in
    let whole : after_happenings step (opening address value) (before ++ mid) ≡ e2 =
    after_more step (opening address value) before mid in
    let j : HasJoined step e2 end = subst (λ (d : EncoderState V). HasJoined step d end) whole
    (joins_lem step same address value (before ++ mid) end (ends_pass V address)
    (subst (λ (d : EncoderState V). Contains (counters_replied step d end) 0x81) (sym whole)
    (has 0x81 (inl (omega arith)) low))
    (subst (λ (d : EncoderState V). Contains (counters_replied step d end) 0xFF) (sym whole)
    (has 0xFF (inr (omega arith)) high))) in
    let after : after_happenings step e (taken come) ≡ after_happenings step e2 end =
    ap (after_happenings step e) parts ∙ after_more step e mid end in
    record {
      all_come = all_come;
      no_later = no_later;
      value = ap (λ (d : EncoderState V). d.value) after ∙ j.value
          ∙ without_taken step e2.value (empties address ends) ∙ empties_keep step same address e cs;
      kept = ap (λ (d : EncoderState V). map (λ pair. pair.0) d.ring) after ∙ j.kept;
      next = ap (λ (d : EncoderState V). next_after (newest d.ring)) after ∙ j.next;
    }

over_any : {V : Type 0} (step : Step V) → ((v : V) → (step v []).0 ≡ v)
    → (address behind : ℕ) (value : V) (before : List (Happening V)) →
    let e : EncoderState V = after_happenings step (opening address value) before in
    (come to_come : List Frame) (r : Replies step e come) (first later : List ℕ)
    → behind ≤ 254 → empties address (counters_behind behind) ≡ come ++ to_come
    → Contains (firsts r.made) 0x81 → Contains (firsts r.made) 0xFF → firsts r.made ≡ first ++ 0xFF ∷ later
    → Over step e r.made come to_come later
over_any {V} step same address behind value before come to_come r first later most all low high at =
    go (behind == 0) (nat_lt behind 0x81) refl refl
  where
    go : (is_whole early : Bool) → (behind == 0) ≡ is_whole → nat_lt behind 0x81 ≡ early
        → Over step (after_happenings step (opening address value) before) r.made come to_come later
    go true early none is_early = over_whole step same address 0 value before come to_come r first later (omega arith)
        (ap (λ n. empties address (counters_behind n)) (sym (eqb-true behind 0 none)) ∙ all) low high at
    go false true some early = over_early step same address behind value before come to_come r first later most
        (ap (empties address) (sym (later_behind behind some
        ∙ ap (λ ys. twice (rising (behind + 1) (254 - behind)) ++ ys) (last_early behind early))) ∙ all) low high at
    go false false some late = over_late step same address behind value before come to_come r first later
        (ltb-false behind 0x81 late) most
        (ap (empties address) (sym (later_behind behind some
        ∙ ap (λ ys. twice (rising (behind + 1) (254 - behind)) ++ ys) (last_late behind late))) ∙ all) low high at

pub joins_over_a_line_lem : {V : Type 0} (step : Step V) → JoinsOverALine step
joins_over_a_line_lem {V} step same address behind value before got coming read unread closed most whole answered
    brought =
    let e : EncoderState V = after_happenings step (opening address value) before in
    let own : e.address ≡ address = address_is step (opening address value) before in
    let cs : List ℕ = counters_behind behind in
    let g : Begins (empties address cs) got coming =
    begins (empties address cs) got coming (empties_small address cs) (whole ∙ sent_is address behind) in
    let r : Replies step e g.come = replies step e g.come in
    let finds : found_beyond e.part got ≡ found_as g.come = ap (λ o. found_beyond o got) closed ∙ g.finds in
    let sent : read ++ unread ≡ concat (spelled (map (reply_as address) r.made)) =
    answered ∙ ap (λ fs. flat_map bytes_sent (responses step e fs)) finds ∙ r.sent
    ∙ ap (λ (a : ℕ). concat (spelled (map (reply_as a) r.made))) own in
    let d : Read address r.made read unread = read_of address r.made read unread sent brought in
    let o : Over step e r.made g.come g.to_come d.later =
    over_any step same address behind value before g.come g.to_come r d.first d.later most g.all d.low d.high d.at in
    let state : fed step e got ≡ record (after_happenings step e (taken g.come)) { part = open_beyond e.part got } =
    ap (after_findings step (record e { part = open_beyond e.part got })) finds
    ∙ findings_open step e (open_beyond e.part got) (found_as g.come)
    ∙ ap (λ (d : EncoderState V). record d { part = open_beyond e.part got }) (sym (after_taken step e g.come)) in
    record {
      pass = g.none_left o.all_come;
      replies = d.over o.no_later;
      encoder = record {
        value_is = ap (λ (d : EncoderState V). d.value) state ∙ o.value;
        kept = ap (λ (d : EncoderState V). map (λ pair. pair.0) d.ring) state ∙ o.kept;
        next = ap (λ (d : EncoderState V). next_after (newest d.ring)) state ∙ o.next;
        closed = fed-part step e got ∙ ap (λ o. open_beyond o got) closed ∙ g.closed o.all_come;
      };
      server = d.closed o.no_later;
    }
