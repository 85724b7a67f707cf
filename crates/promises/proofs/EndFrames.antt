-- What frames and replies that come whole do to both ends, as events of a line.
use Rattle.std.proofs.Common.{◌≡◌, ℕ, ◌+◌, ◌<◌, ◌≤◌, ◌==◌, ◌&&◌, ◌||◌, ◌/◌, ◌%◌, Bool, true, false, cond, List, []}
use Rattle.std.proofs.Common.{◌∷◌, ◌++◌, length, map, Option, Some, None, Ok, Err, ◌⊎◌, refl, ap, sym, subst, ◌∙◌}
use Rattle.std.proofs.Common.{arith}
use Rattle.std.proofs.Common.{inl, inr, append_assoc, append-nil, eq-eqb}
use Rattle.std.specs.Prelude.{is_none, is_some, flat_map}
use Rattle.std.specs.List.{AllByRecursion}
use Rattle.std.proofs.lemmas.Bool.{cases_order, cases_lt, le-ltb, false≢true, lt-ltb, le-leb, ne_eqb}
use Rattle.std.proofs.lemmas.List.{map-append}
use Rattle.uecp_elements.specs.declared.code.Code.{Code}
use Rattle.uecp_frame.specs.declared.frame.Frame.{Frame}
use Rattle.uecp_frame.specs.Address.{reaches}
use Rattle.uecp_frame.specs.Frame.{spelling}
use Rattle.uecp_frame.specs.Findings.{Finding, OpenPart, Closed, open_part, has_frame}
use Rattle.uecp_frame.specs.Beyond.{found_beyond, open_beyond}
use Rattle.uecp_frame.proofs.Public.{new_start_lem, always_heard_lem}
use Rattle.reply_ring.specs.Ring.{kept_code, keep}
use Rattle.uecp_encoder.specs.Target.{Step, Taken}
use Rattle.uecp_encoder.specs.State.{EncoderState, is_next, applied, numbered, after_finding, after_findings, fed}
use Rattle.uecp_encoder.specs.State.{raised}
use Rattle.uecp_encoder.specs.Answering.{Response, Replied, NotForMe, Unnumbered, NotNext, Dropped, reply_of, replied}
use Rattle.uecp_encoder.specs.Answering.{response_to, responses, responses_to, bytes_sent, answers}
use Rattle.uecp_encoder.specs.Laws.{fresh_in}
use Rattle.uecp_encoder.proofs.Public.{findings_open, in_pieces_of_encoder, fed_none}
use Rattle.uecp_link.specs.Counters.{counter_of, is_recent}
use Rattle.uecp_link.specs.Frames.{frame_under}
use Rattle.uecp_link.specs.Once.{FrameComes, Once, message_at, refusal_of, TooLate, NotSent, delivered, delivery}
use Rattle.uecp_link.specs.Once.{applied_once, answer_of, Delivered, at_first}
use Rattle.uecp_link.specs.Once.{NotNext as NotNextAnswer}
use Rattle.uecp_link.specs.Once.{is_next as once_next}
use Rattle.uecp_link.specs.History.{Act, Message, Taking, act_of, history}
use Rattle.uecp_link.specs.Law.{fresh_among, World, frame_of, reply_bytes, Numbers, Values}
use Rattle.uecp_link.specs.Kept.{IsReady, code_at}
use Rattle.uecp_link.proofs.Public.{law_from}
use Rattle.promises.specs.Station.{Station, station_after}
use Rattle.promises.specs.DeviceLives.{Deed, Applies, TakesOne, deeds_in, deeds_among, deeds_of}
use Rattle.promises.proofs.Reaching.{lawful_of}
use Rattle.promises.proofs.Backing.{Backed, backed_after, codes_stay}
use Rattle.promises.proofs.Cutting.{spelled}
use Rattle.promises.proofs.Uncounted.{deeds_in_pieces, quiet_answers, quiet_deeds}
use Rattle.promises.proofs.EndLists.{Sub}

-- the deed of an act, where these messages were sent
abbrev pub deed_at : (sent : List (List ℕ)) → Act → Deed
deed_at sent (Message k) = Applies (counter_of k) (message_at sent k)
deed_at sent Taking = TakesOne

-- the frame of a number, where these messages were sent
abbrev pub frame_in : (address : ℕ) → (sent : List (List ℕ)) → ℕ → Frame
frame_in address sent k = frame_under address (counter_of k, message_at sent k)

-- the replies to these numbers, as an encoder writes them one behind another
abbrev pub replies_of : {V : Type 0} → (address : ℕ) → Once V → (numbers : List ℕ) → List ℕ
replies_of address o [] = []
replies_of address o (k ∷ ks) = reply_bytes address k (o.codes k) ++ replies_of address o ks

-- a number that does not come too late: one of the last 127 of so many
pub record IsNear (n k : ℕ) : Type 0 where
  pub below : k < n
  pub recent : n ≤ k + 127

reaches_self : (a : ℕ) → reaches a a ≡ true
reaches_self a = rw (eq-eqb (a / 64) (a / 64) refl, eq-eqb (a % 64) (a % 64) refl) (go (a / 64 == 0) (a % 64 == 0))
  where
    go : (x y : Bool) → ((x || true) && (y || true)) ≡ true
    go true true = refl
    go true false = refl
    go false true = refl
    go false false = refl

kept_now : (ring : List (ℕ × Code)) (counter : ℕ) (code : Code)
    → kept_code (keep ring counter code) counter ≡ Some code
kept_now ring counter code = rw (eq-eqb counter counter refl) refl

none_is_some : {A : Type 0} (x : A) → None ≡ Some x → ⊥
none_is_some x is = absurd (cc)

-- Some of those below the first number, and the next ones in turn, up to the second.
abbrev pub RunsTo : (p : ℕ) → List ℕ → (end : ℕ) → Type 0
RunsTo p [] end = p ≡ end
RunsTo p (k ∷ ks) end = ((k < p) × RunsTo p ks end) ⊎ ((k ≡ p) × RunsTo (p + 1) ks end)

module _ {V : Type 0} (step : Step V) (taken : Taken V) (e : EncoderState V) (before : ℕ) (ready : IsReady e.ring)
    (shut : e.part ≡ Closed) where
  abbrev pub IsBacked : Station V → List Act → Type 0
  IsBacked s acts = Backed step taken e before ready shut s acts

  abbrev LawAt : World V → List Act → Type 0
  LawAt w acts = (p : ℕ) × Numbers step e.address w p × Values step taken e.value w p acts

  -- the law of a line, there
  pub law_at : (s : Station V) (acts : List Act) → IsBacked s acts → LawAt s.world acts
  law_at s acts h =
      let r = h.now in
      subst (λ (a : List Act). LawAt s.world a) r.acts_are
      (subst (λ (w : World V). LawAt w (history step taken (at_first e.value) r.events)) r.same (law_from step taken
      e ready shut r.events r.fits))

  -- with no noise nothing is open
  pub closed_at : (s : Station V) (acts : List Act) → IsBacked s acts → s.world.once.to_encoder ≡ []
      → s.world.encoder.part ≡ Closed
  closed_at s acts h none =
      (lawful_of step taken e ready shut s.world acts h.now).hears.encoder ∙ ap open_part none
      ∙ (sym (new_start_lem Closed []).left ∙ (new_start_lem Closed []).stays)

  pub server_closed_at : (s : Station V) (acts : List Act) → IsBacked s acts → s.world.once.to_server ≡ []
      → s.world.server.part ≡ Closed
  server_closed_at s acts h none =
      (lawful_of step taken e ready shut s.world acts h.now).hears.server ∙ ap open_part none
      ∙ (sym (new_start_lem Closed []).left ∙ (new_start_lem Closed []).stays)

  pub address_at : (s : Station V) (acts : List Act) → IsBacked s acts → s.world.encoder.address ≡ e.address
  address_at s acts h = (lawful_of step taken e ready shut s.world acts h.now).kept.encoder.address

  pub server_address_at : (s : Station V) (acts : List Act) → IsBacked s acts → s.world.server.address ≡ e.address
  server_address_at s acts h = (lawful_of step taken e ready shut s.world acts h.now).kept.server.address

  pub fits_at : (s : Station V) (acts : List Act) → IsBacked s acts → (k : ℕ)
      → length (message_at s.world.once.sent k) ≤ 255
  fits_at s acts h k = (lawful_of step taken e ready shut s.world acts h.now).kept.fits k

  -- ---- One frame.

  pub open_frame : (o : Once V) (k : ℕ) → IsNear (length o.sent) k → refusal_of o (FrameComes k) ≡ None
  open_frame o k is =
      ap (λ (b : Bool). cond b (cond (is_recent (length o.sent) k) None (Some TooLate)) (Some NotSent))
      (lt-ltb k (length o.sent) is.below)
      ∙ ap (λ (b : Bool). cond b None (Some TooLate)) (le-leb (length o.sent) (k + 127) is.recent)

  abbrev pub framed : Station V → ℕ → Station V
  framed s k = station_after step taken e.address s (FrameComes k)

  abbrev pub bytes_at : Station V → ℕ → List ℕ
  bytes_at s k = spelling (frame_of e.address s.world.once k)

  abbrev pub brought_at : Station V → ℕ → List Act
  brought_at s k = act_of (FrameComes k) (answer_of step taken s.world.once (FrameComes k))

  -- what it does: the reply is to its number, if it is applied by then, and the deed is its message, if that is fresh
  pub record FrameDoes (s : Station V) (acts : List Act) (k : ℕ) : Type 0 where
    pub backed : IsBacked (framed s k) (acts ++ brought_at s k)
    pub answered : answers step s.world.encoder (bytes_at s k)
        ≡ reply_bytes e.address k ((framed s k).world.once.codes k)
    pub done : deeds_of step s.world.encoder (bytes_at s k) ≡ map (deed_at s.world.once.sent) (brought_at s k)

  module _ (s : Station V) (acts : List Act) (k : ℕ) (h : IsBacked s acts)
      (near : IsNear (length s.world.once.sent) k) (none : s.world.once.to_encoder ≡ []) where
    abbrev f : Frame
    f = frame_of e.address s.world.once k

    h1 : IsBacked (framed s k) (acts ++ brought_at s k)
    h1 = backed_after step taken e before ready shut s acts (FrameComes k) tt
        (ap is_none (open_frame s.world.once k near)) h

    known : kept_code s.world.encoder.ring (counter_of k) ≡ s.world.once.codes k
    known = (law_at s acts h).1.replies k near.below (le-leb (length s.world.once.sent) (k + 127) near.recent)

    sent_stays : (c : Option Code) → (delivered step s.world.once k c).sent ≡ s.world.once.sent
    sent_stays (Some c) = refl
    sent_stays None = go (once_next s.world.once.codes (length s.world.once.sent) k)
      where
        go : (b : Bool) → (cond b (applied_once step s.world.once k)
            (record s.world.once { to_encoder = [] })).sent ≡ s.world.once.sent
        go true = refl
        go false = refl

    sent1 : (framed s k).world.once.sent ≡ s.world.once.sent
    sent1 = sent_stays (s.world.once.codes k)

    known1 : kept_code (framed s k).world.encoder.ring (counter_of k) ≡ (framed s k).world.once.codes k
    known1 =
        let same : length (framed s k).world.once.sent ≡ length s.world.once.sent = ap length sent1 in
        (law_at (framed s k) (acts ++ brought_at s k) h1).1.replies k (omega (arith, same, near.below))
        (le-leb (length (framed s k).world.once.sent) (k + 127) (omega (arith, same, near.recent)))

    -- the frame is found, and nothing else
    found_is : found_beyond s.world.encoder.part (spelling f) ≡ Ok f ∷ []
    found_is =
        ap (λ (p : OpenPart). found_beyond p (spelling f)) (closed_at s acts h none)
        ∙ (always_heard_lem Closed f (fits_at s acts h k)).found

    reached_is : reaches f.address s.world.encoder.address ≡ true
    reached_is = ap (reaches e.address) (address_at s acts h) ∙ reaches_self e.address

    numbered_is : (f.counter == 0) ≡ false
    numbered_is = ne_eqb f.counter 0 (λ z. omega (arith, z))

    -- the response, and what it leaves, by the code that the number has
    response_is : response_to step s.world.encoder (Ok f)
        ≡ replied step s.world.encoder f (s.world.once.codes k)
    response_is =
        ap (λ (b : Bool). cond b (cond (f.counter == 0) Unnumbered
        (replied step s.world.encoder f (kept_code s.world.encoder.ring f.counter))) NotForMe) reached_is
        ∙ ap (λ (b : Bool). cond b Unnumbered
        (replied step s.world.encoder f (kept_code s.world.encoder.ring f.counter))) numbered_is
        ∙ ap (replied step s.world.encoder f) known

    ring_is : (framed s k).world.encoder.ring ≡ (numbered step s.world.encoder f (s.world.once.codes k)).ring
    ring_is =
        let o1 : OpenPart = open_beyond s.world.encoder.part (spelling f) in
        ap (λ (d : EncoderState V). d.ring)
        (findings_open step s.world.encoder o1 (found_beyond s.world.encoder.part (spelling f)))
        ∙ ap (λ (fs : List Finding). (after_findings step s.world.encoder fs).ring) found_is
        ∙ ap (λ (d : EncoderState V). d.ring) after_is
      where
        after_is : after_finding step s.world.encoder (Ok f)
            ≡ numbered step s.world.encoder f (s.world.once.codes k)
        after_is =
            ap (λ (b : Bool). cond b (cond (f.counter == 0)
            (record s.world.encoder {
              counts = record s.world.encoder.counts { unnumbered = raised s.world.encoder.counts.unnumbered };
            })
            (numbered step s.world.encoder f (kept_code s.world.encoder.ring f.counter)))
            (record s.world.encoder {
              counts = record s.world.encoder.counts { not_for_me = raised s.world.encoder.counts.not_for_me };
            })) reached_is
            ∙ ap (λ (b : Bool). cond b
            (record s.world.encoder {
              counts = record s.world.encoder.counts { unnumbered = raised s.world.encoder.counts.unnumbered };
            })
            (numbered step s.world.encoder f (kept_code s.world.encoder.ring f.counter))) numbered_is
            ∙ ap (numbered step s.world.encoder f) known

    answers_is : answers step s.world.encoder (bytes_at s k)
        ≡ bytes_sent (replied step s.world.encoder f (s.world.once.codes k))
    answers_is =
        ap (λ (fs : List Finding). flat_map bytes_sent (responses step s.world.encoder fs)) found_is
        ∙ append-nil (bytes_sent (response_to step s.world.encoder (Ok f)))
        ∙ ap bytes_sent response_is

    abbrev deed_by : Response → List Deed
    deed_by r = cond (fresh_in r == 1) (Applies f.counter f.message ∷ []) []

    deeds_is : deeds_of step s.world.encoder (bytes_at s k)
        ≡ deed_by (replied step s.world.encoder f (s.world.once.codes k))
    deeds_is =
        ap (deeds_among step s.world.encoder) found_is
        ∙ append-nil (deeds_in step s.world.encoder (Ok f))
        ∙ ap deed_by response_is

    address_is : spelling (reply_of s.world.encoder.address (counter_of k) (code_at s.world.once.codes k))
        ≡ spelling (reply_of e.address (counter_of k) (code_at s.world.once.codes k))
    address_is = ap (λ (a : ℕ). spelling (reply_of a (counter_of k) (code_at s.world.once.codes k))) (address_at s
        acts h)

    -- by the code of the number, and whether it is the next for the encoder, and for the once-machine
    abbrev Does : Option Code → Type 0
    Does c =
        (bytes_sent (replied step s.world.encoder f c) ≡ reply_bytes e.address k ((delivered step s.world.once k
        c).codes k))
        × (deed_by (replied step s.world.encoder f c)
        ≡ map (deed_at s.world.once.sent) (act_of (FrameComes k) (delivery step s.world.once k c)))

    abbrev NewDoes : (next turn : Bool) → Type 0
    NewDoes next turn =
        let code : Code = (step s.world.encoder.value f.message).1 in
        let r : Response = cond next (Replied (spelling (reply_of s.world.encoder.address f.counter code)) true)
        NotNext in
        let after_ : Once V = cond turn (applied_once step s.world.once k) (record s.world.once { to_encoder = [] }) in
        (bytes_sent r ≡ reply_bytes e.address k (after_.codes k))
        × (deed_by r ≡ map (deed_at s.world.once.sent) (act_of (FrameComes k)
        (cond turn (Delivered true (step s.world.once.value (message_at s.world.once.sent k)).1) NotNextAnswer)))

    by_turn : (next turn : Bool)
        → kept_code (cond next (applied step s.world.encoder f) s.world.encoder).ring (counter_of k)
        ≡ (cond turn (applied_once step s.world.once k) (record s.world.once { to_encoder = [] })).codes k
        → s.world.once.codes k ≡ None → NewDoes next turn
    by_turn true true same new =
        let code : Code = (step s.world.encoder.value f.message).1 in
        let has : (applied_once step s.world.once k).codes k ≡ Some code =
        sym same ∙ kept_now s.world.encoder.ring (counter_of k) code in (
          ap (λ (a : ℕ). spelling (reply_of a (counter_of k) code)) (address_at s acts h)
              ∙ ap (reply_bytes e.address k) (sym has),
          refl,
        )
    by_turn true false same new =
        absurd (none_is_some (step s.world.encoder.value f.message).1
        (sym new ∙ sym same ∙ kept_now s.world.encoder.ring (counter_of k) (step s.world.encoder.value f.message).1))
    by_turn false true same new =
        absurd (none_is_some (step s.world.once.value (message_at s.world.once.sent k)).1
        (sym new ∙ sym known ∙ same ∙ own_code))
      where
        own_code : (applied_once step s.world.once k).codes k
            ≡ Some (step s.world.once.value (message_at s.world.once.sent k)).1
        own_code = rw (eq-eqb k k refl) refl
    by_turn false false same new = (ap (reply_bytes e.address k) (sym new), refl)

    by_code : (c : Option Code) → s.world.once.codes k ≡ c
        → kept_code (numbered step s.world.encoder f c).ring (counter_of k)
        ≡ (delivered step s.world.once k c).codes k → Does c
    by_code (Some c) is same = (
      ap (λ (a : ℕ). spelling (reply_of a (counter_of k) c)) (address_at s acts h)
          ∙ ap (reply_bytes e.address k) (sym is),
      refl,
    )
    by_code None is same =
        by_turn (is_next s.world.encoder.ring f.counter) (once_next s.world.once.codes (length s.world.once.sent) k)
        same is

    pub frame_does : FrameDoes s acts k
    frame_does =
        let does = by_code (s.world.once.codes k) refl
        (ap (λ (r : List (ℕ × Code)). kept_code r (counter_of k)) (sym ring_is) ∙ known1) in
        record {
          backed = h1;
          answered = answers_is ∙ does.0;
          done = deeds_is ∙ does.1;
        }

  -- ---- The next one is applied.

  -- each number below this has a code
  abbrev pub IsCodedTo : Station V → ℕ → Type 0
  IsCodedTo s p = (j : ℕ) → j < p → is_some (s.world.once.codes j) ≡ true

  no_deed : (r : Response) (d : Deed) → cond (fresh_in r == 1) (d ∷ []) [] ≡ [] → fresh_in r ≡ 0
  no_deed (Replied bytes true) d is = absurd (cc)
  no_deed (Replied bytes false) d is = refl
  no_deed NotForMe d is = refl
  no_deed Unnumbered d is = refl
  no_deed NotNext d is = refl
  no_deed (Dropped fault) d is = refl

  none_in : (xs ys : List Deed) → xs ++ ys ≡ [] → (xs ≡ []) × (ys ≡ [])
  none_in [] ys is = (refl, is)
  none_in (x ∷ xs) ys is = absurd (cc)

  not_fresh : (d : EncoderState V) (fs : List Finding) → deeds_among step d fs ≡ []
      → fresh_among (responses step d fs) ≡ 0
  not_fresh d [] is = refl
  not_fresh d (Err fault ∷ fs) is =
      let later = not_fresh (after_finding step d (Err fault)) fs is in omega (arith, later)
  not_fresh d (Ok f ∷ fs) is =
      let (first, rest) = none_in (deeds_in step d (Ok f)) (deeds_among step (after_finding step d (Ok f)) fs) is in
      let one = no_deed (response_to step d (Ok f)) (Applies f.counter f.message) first in
      let later = not_fresh (after_finding step d (Ok f)) fs rest in omega (arith, one, later)

  -- the frame of one of these, or of the next, is replied to
  replied_one : (s : Station V) (acts : List Act) (k p : ℕ) → IsBacked s acts
      → IsNear (length s.world.once.sent) k → s.world.once.to_encoder ≡ [] → IsCodedTo s p → (k < p) ⊎ (k ≡ p)
      → is_some ((framed s k).world.once.codes k) ≡ true
  replied_one s acts k p h near none coded (inl below) = had (s.world.once.codes k) refl (coded k below)
    where
      had : (c : Option Code) → s.world.once.codes k ≡ c → is_some (s.world.once.codes k) ≡ true
          → is_some ((framed s k).world.once.codes k) ≡ true
      had (Some c) is some = ap is_some (codes_stay step taken s.world.once (FrameComes k) k c is)
      had None is some = absurd (false≢true (sym (ap is_some is) ∙ some))
  replied_one s acts k p h near none coded (inr here) =
      by (s.world.once.codes k) refl (once_next s.world.once.codes (length s.world.once.sent) k) refl
    where
      by : (c : Option Code) → s.world.once.codes k ≡ c → (b : Bool)
          → once_next s.world.once.codes (length s.world.once.sent) k ≡ b
          → is_some ((framed s k).world.once.codes k) ≡ true
      by (Some c) is b next = ap is_some (codes_stay step taken s.world.once (FrameComes k) k c is)
      by None is true next =
          ap (λ (c : Option Code). is_some ((delivered step s.world.once k c).codes k)) is
          ∙ ap (λ (b : Bool). is_some ((cond b (applied_once step s.world.once k)
          (record s.world.once { to_encoder = [] })).codes k)) next
          ∙ rw (eq-eqb k k refl) refl
      by None is false next =
          let does = frame_does s acts k h near none in
          let law = (law_at s acts h).1 in
          let nothing : brought_at s k ≡ [] =
          ap (λ (c : Option Code). act_of (FrameComes k) (delivery step s.world.once k c)) is
          ∙ ap (λ (b : Bool). act_of (FrameComes k)
          (cond b (Delivered true (step s.world.once.value (message_at s.world.once.sent k)).1) NotNextAnswer)) next in
          let no_deeds : deeds_of step s.world.encoder (bytes_at s k) ≡ [] =
          does.done ∙ ap (map (deed_at s.world.once.sent)) nothing in
          let zero_ : fresh_among (responses_to step s.world.encoder (bytes_at s k)) ≡ 0 =
          not_fresh s.world.encoder (found_beyond s.world.encoder.part (bytes_at s k)) no_deeds in
          let fresh = law.fresh k near.below (le-leb (length s.world.once.sent) (k + 127) near.recent) in
          let at : k ≡ (law_at s acts h).0 = elim (cases_order k (law_at s acts h).0) [
            | inl same ↦ same
            | inr other ↦ elim other [
              | inl before ↦ absurd (false≢true (sym (ap is_some is)
                  ∙ (law.applied k ∙ lt-ltb k (law_at s acts h).0 before)))
              | inr past ↦ absurd (false≢true
                  (sym (law.applied (law_at s acts h).0 ∙ le-ltb (law_at s acts h).0 (law_at s acts h).0 (omega arith))
                  ∙ coded (law_at s acts h).0 (omega (arith, past, here))))
            ]
          ] in
          let one : fresh_among (responses_to step s.world.encoder (bytes_at s k)) ≡ 1 =
          fresh ∙ ap (λ (b : Bool). cond b 1 0) (eq-eqb k (law_at s acts h).0 at) in
          absurd (omega (arith, zero_, one))

  -- ---- Frames one behind another.

  -- What they do: the replies are to some of them, all of which are applied by then; and nothing is done to the server.
  pub record FramesDo (s : Station V) (acts : List Act) (came : List ℕ) : Type 0 where
    pub after_them : Station V
    pub brought : List Act
    pub replied_to : List ℕ
    pub backed : IsBacked after_them (acts ++ brought)
    pub none : after_them.world.once.to_encoder ≡ []
    pub encoder : fed step s.world.encoder (spelled (frame_in e.address s.world.once.sent) came)
        ≡ after_them.world.encoder
    pub answered : answers step s.world.encoder (spelled (frame_in e.address s.world.once.sent) came)
        ≡ replies_of e.address after_them.world.once replied_to
    pub done : deeds_of step s.world.encoder (spelled (frame_in e.address s.world.once.sent) came)
        ≡ map (deed_at s.world.once.sent) brought
    pub some : Sub replied_to came
    pub coded : AllByRecursion (λ k. is_some (after_them.world.once.codes k) ≡ true) replied_to
    -- to all, where each is the next, or was before
    pub whole : (p end : ℕ) → IsCodedTo s p → RunsTo p came end → replied_to ≡ came
    pub server : after_them.world.server ≡ s.world.server
    pub file : after_them.server_file ≡ s.server_file
    pub sent : after_them.world.once.sent ≡ s.world.once.sent
    pub acknowledged : after_them.world.once.acknowledged ≡ s.world.once.acknowledged
    pub to_server : after_them.world.once.to_server ≡ s.world.once.to_server
    pub grow : (k : ℕ) (code : Code) → s.world.once.codes k ≡ Some code
        → after_them.world.once.codes k ≡ Some code

  nothing_found : (o : OpenPart) → has_frame (found_beyond o []) ≡ false
  nothing_found o = ap has_frame (new_start_lem o []).nothing

  -- what one leaves
  record FrameLeaves (o o1 : Once V) : Type 0 where
    to_encoder : o1.to_encoder ≡ []
    acknowledged : o1.acknowledged ≡ o.acknowledged
    to_server : o1.to_server ≡ o.to_server

  frame_leaves : (o : Once V) (k : ℕ) (c : Option Code) → FrameLeaves o (delivered step o k c)
  frame_leaves o k (Some c) = record { to_encoder = refl; acknowledged = refl; to_server = refl }
  frame_leaves o k None = go (once_next o.codes (length o.sent) k)
    where
      go : (b : Bool) → FrameLeaves o (cond b (applied_once step o k) (record o { to_encoder = [] }))
      go true = record { to_encoder = refl; acknowledged = refl; to_server = refl }
      go false = record { to_encoder = refl; acknowledged = refl; to_server = refl }

  some_code : (c d : Option Code) (code : Code) → c ≡ d → d ≡ Some code → is_some c ≡ true
  some_code c d code same is = ap is_some (same ∙ is)

  pub frames_do : (s : Station V) (acts : List Act) (came : List ℕ) → IsBacked s acts
      → AllByRecursion (IsNear (length s.world.once.sent)) came → s.world.once.to_encoder ≡ []
      → FramesDo s acts came
  frames_do s acts [] h near none = record {
    after_them = s;
    brought = [];
    replied_to = [];
    backed = subst (λ (a : List Act). IsBacked s a) (sym (append-nil acts)) h;
    none = none;
    encoder = fed_none step s.world.encoder;
    answered = quiet_answers step s.world.encoder [] (nothing_found s.world.encoder.part);
    done = quiet_deeds step s.world.encoder [] (nothing_found s.world.encoder.part);
    some = tt;
    coded = tt;
    whole = λ p end coded runs. refl;
    server = refl;
    file = refl;
    sent = refl;
    acknowledged = refl;
    to_server = refl;
    grow = λ k code is. is;
  }
  frames_do s acts (k ∷ ks) h near none =
      let one = frame_does s acts k h near.0 none in
      let s1 : Station V = framed s k in
      let left = frame_leaves s.world.once k (s.world.once.codes k) in
      let same : s1.world.once.sent ≡ s.world.once.sent = sent1 s acts k h near.0 none in
      goes_on one left same
      (frames_do s1 (acts ++ brought_at s k) ks one.backed
      (subst (λ (ms : List (List ℕ)). AllByRecursion (IsNear (length ms)) ks) (sym same) near.1) left.to_encoder)
    where
      goes_on : FrameDoes s acts k → FrameLeaves s.world.once (framed s k).world.once
          → (framed s k).world.once.sent ≡ s.world.once.sent
          → FramesDo (framed s k) (acts ++ brought_at s k) ks → FramesDo s acts (k ∷ ks)
      goes_on one left same more =
          let sent : List (List ℕ) = s.world.once.sent in
          let first : List ℕ = bytes_at s k in
          let rest : List ℕ = spelled (frame_in e.address sent) ks in
          let pieces = in_pieces_of_encoder step s.world.encoder first rest in
          let as_sent : (ms : List (List ℕ)) → ms ≡ sent → spelled (frame_in e.address ms) ks ≡ rest =
          λ ms is. ap (λ (l : List (List ℕ)). spelled (frame_in e.address l) ks) is in
          let later : answers step (framed s k).world.encoder rest
          ≡ replies_of e.address more.after_them.world.once more.replied_to =
          ap (answers step (framed s k).world.encoder) (sym (as_sent (framed s k).world.once.sent same))
          ∙ more.answered in
          let all : answers step s.world.encoder (first ++ rest)
          ≡ reply_bytes e.address k ((framed s k).world.once.codes k)
          ++ replies_of e.address more.after_them.world.once more.replied_to =
          pieces.answers
          ∙ ap (λ (z : List ℕ). z ++ answers step (framed s k).world.encoder rest) one.answered
          ∙ ap (λ (z : List ℕ). reply_bytes e.address k ((framed s k).world.once.codes k) ++ z) later in
          by ((framed s k).world.once.codes k) refl all
        where
          coded_on : (p : ℕ) → IsCodedTo s p → IsCodedTo (framed s k) p
          coded_on p coded j l = had (s.world.once.codes j) refl (coded j l)
            where
              had : (c : Option Code) → s.world.once.codes j ≡ c → is_some (s.world.once.codes j) ≡ true
                  → is_some ((framed s k).world.once.codes j) ≡ true
              had (Some c) is some = ap is_some (codes_stay step taken s.world.once (FrameComes k) j c is)
              had None is some = absurd (false≢true (sym (ap is_some is) ∙ some))

          later : (p end : ℕ) → IsCodedTo s p → RunsTo p (k ∷ ks) end
              → (more.replied_to ≡ ks) × (is_some ((framed s k).world.once.codes k) ≡ true)
          later p end coded (inl (below, rest)) = (
            more.whole p end (coded_on p coded) rest,
            replied_one s acts k p h near.0 none coded (inl below),
          )
          later p end coded (inr (here, rest)) =
              let now = replied_one s acts k p h near.0 none coded (inr here) in (
                more.whole (p + 1) end
                    (λ j l. elim (cases_lt j p) [
                      | inl before ↦ coded_on p coded j before
                      | inr at ↦
                          (let same : k ≡ j = omega (arith, here, l, at) in
                          subst (λ (i : ℕ). is_some ((framed s k).world.once.codes i) ≡ true) same now)
                    ]) rest,
                now,
              )

          with_replies : (rs : List ℕ)
              → answers step s.world.encoder (bytes_at s k ++ spelled (frame_in e.address s.world.once.sent) ks)
              ≡ replies_of e.address more.after_them.world.once rs
              → Sub rs (k ∷ ks)
              → AllByRecursion (λ k. is_some (more.after_them.world.once.codes k) ≡ true) rs
              → ((p end : ℕ) → IsCodedTo s p → RunsTo p (k ∷ ks) end → rs ≡ k ∷ ks)
              → FramesDo s acts (k ∷ ks)
          with_replies rs answered some coded whole = record {
            after_them = more.after_them;
            brought = brought_at s k ++ more.brought;
            replied_to = rs;
            backed = subst (λ (a : List Act). IsBacked more.after_them a)
                (append_assoc acts (brought_at s k) more.brought) more.backed;
            none = more.none;
            encoder = (in_pieces_of_encoder step s.world.encoder (bytes_at s k)
                (spelled (frame_in e.address s.world.once.sent) ks)).state
                ∙ ap (λ (ms : List (List ℕ)). fed step (framed s k).world.encoder (spelled (frame_in e.address ms)
                ks)) (sym same)
                ∙ more.encoder;
            answered = answered;
            done = deeds_in_pieces step s.world.encoder (bytes_at s k) (spelled (frame_in e.address
                s.world.once.sent) ks)
                ∙ ap (λ (ds : List Deed). ds ++ deeds_of step (framed s k).world.encoder
                (spelled (frame_in e.address s.world.once.sent) ks)) one.done
                ∙ ap (λ (ds : List Deed). map (deed_at s.world.once.sent) (brought_at s k) ++ ds)
                (ap (λ (ms : List (List ℕ)). deeds_of step (framed s k).world.encoder (spelled (frame_in e.address
                ms) ks))
                (sym same) ∙ more.done
                ∙ ap (λ (ms : List (List ℕ)). map (deed_at ms) more.brought) same)
                ∙ sym (map-append (deed_at s.world.once.sent) (brought_at s k) more.brought);
            some = some;
            coded = coded;
            whole = whole;
            server = more.server;
            file = more.file;
            sent = more.sent ∙ same;
            acknowledged = more.acknowledged ∙ left.acknowledged;
            to_server = more.to_server ∙ left.to_server;
            grow = λ j code is. more.grow j code (codes_stay step taken s.world.once (FrameComes k) j code is);
          }

          by : (c : Option Code) → (framed s k).world.once.codes k ≡ c
              → answers step s.world.encoder (bytes_at s k ++ spelled (frame_in e.address s.world.once.sent) ks)
              ≡ reply_bytes e.address k ((framed s k).world.once.codes k)
              ++ replies_of e.address more.after_them.world.once more.replied_to
              → FramesDo s acts (k ∷ ks)
          by (Some c) is all =
              let stays : more.after_them.world.once.codes k ≡ Some c = more.grow k c is in
              with_replies (k ∷ more.replied_to)
              (all ∙ ap (λ (d : Option Code). reply_bytes e.address k d
              ++ replies_of e.address more.after_them.world.once more.replied_to) (is ∙ sym stays))
              (inl (refl, more.some)) (ap is_some stays, more.coded)
              (λ p end coded runs. ap (λ (l : List ℕ). k ∷ l) (later p end coded runs).0)
          by None is all =
              with_replies more.replied_to
              (all ∙ ap (λ (d : Option Code). reply_bytes e.address k d
              ++ replies_of e.address more.after_them.world.once more.replied_to) is)
              (sub_one more.replied_to more.some) more.coded
              (λ p end coded runs. absurd (false≢true (sym (ap is_some is) ∙ (later p end coded runs).1)))
            where
              sub_one : (rs : List ℕ) → Sub rs ks → Sub rs (k ∷ ks)
              sub_one [] h = tt
              sub_one (r ∷ rs) h = inr h
