-- Each line once.
use Rattle.std.proofs.Common.{◌≡◌, ℕ, zero, suc, ◌+◌, ◌-◌, ◌<◌, ◌≤◌, nat_lt, Bool, true, false, cond, List, [], ◌∷◌}
use Rattle.std.proofs.Common.{◌++◌, length}
use Rattle.std.proofs.Common.{map, take, Option, Some, None, refl, ap, sym, subst, ◌∙◌, arith, inl, inr}
use Rattle.std.specs.Prelude.{is_some, slice_get, Contains}
use Rattle.std.proofs.lemmas.Bool.{cases_Bool, cases_lt, le-ltb, lt-ltb, ltb-true}
use Rattle.std.proofs.lemmas.List.{get_or-map, length-map}
use Rattle.std.proofs.lemmas.List.Elements.{Contains-append_left, Contains-push}
use Rattle.uecp_elements.specs.declared.code.Code.{Code}
use Rattle.uecp_frame.specs.Findings.{Closed}
use Rattle.uecp_encoder.specs.Target.{Step, Taken}
use Rattle.uecp_encoder.specs.State.{EncoderState}
use Rattle.uecp_link.specs.Counters.{counter_of}
use Rattle.uecp_link.specs.Server.{ServerState, Held, waiting_among}
use Rattle.uecp_link.specs.Once.{message_at, missing}
use Rattle.uecp_link.specs.History.{Act, Message, Taking, messages_in}
use Rattle.uecp_link.specs.Fold.{codes_after}
use Rattle.uecp_link.specs.Law.{World}
use Rattle.uecp_link.specs.Kept.{IsReady}
use Rattle.promises.specs.Station.{Station, acknowledged_by}
use Rattle.promises.specs.Ends.{Ends, Studio, EndEvent, SaysStation, TakesLines, Dials, Writes, Hears, Tells}
use Rattle.promises.specs.Ends.{StudioCrashes}
use Rattle.promises.specs.Ends.{Reads, Leaves}
use Rattle.promises.specs.Ends.{EncoderCrashes, Gives, Stranger, IsNewServer, ends_from, ends_after, run_ends}
use Rattle.promises.specs.Ends.{MayHappen, MayAll}
use Rattle.promises.specs.EachLine.{messages_of, codes_of, IsEachOnce, EachLineOnce, IsOfItsOwn, EachEndIsItsOwn}
use Rattle.promises.specs.EachLine.{Stretch, end_of, AreStretches, AreEachOnce, told_list, told_of_line, all_told}
use Rattle.promises.specs.EachLine.{EachLineOnceOverStretches}
use Rattle.promises.proofs.Reaching.{lawful_of, with_server}
use Rattle.promises.proofs.Backing.{shown}
use Rattle.promises.proofs.Holding.{files_hold}
use Rattle.promises.proofs.StationTurns.{first_ones}
use Rattle.promises.proofs.EndFrames.{deed_at, law_at}
use Rattle.promises.proofs.EndsMatch.{Matches, first_match}
use Rattle.promises.proofs.AtTransmitter.{leaves_match, encoder_crash_matches, gives_match, stranger_matches}
use Rattle.promises.proofs.AtTransmitter.{reads_match}
use Rattle.promises.proofs.AtStudio.{says_match, takes_match, dials_match, writes_match, tells_match}
use Rattle.promises.proofs.AtStudio.{studio_crash_matches}
use Rattle.promises.proofs.StudioHears.{hears_match}

-- what a history makes, as deeds
messages_so : (sent : List (List ℕ)) (acts : List Act)
    → messages_of (map (deed_at sent) acts) ≡ map (message_at sent) (messages_in acts)
messages_so sent [] = refl
messages_so sent (Message k ∷ acts) = ap (λ (ms : List (List ℕ)). message_at sent k ∷ ms) (messages_so sent acts)
messages_so sent (Taking ∷ acts) = messages_so sent acts

codes_so : {V : Type 0} (step : Step V) (taken : Taken V) (v : V) (sent : List (List ℕ)) (acts : List Act)
    → codes_of step taken v (map (deed_at sent) acts) ≡ codes_after step taken sent v acts
codes_so step taken v sent [] = refl
codes_so step taken v sent (Message k ∷ acts) =
    ap (λ (cs : List Code). (step v (message_at sent k)).1 ∷ cs)
    (codes_so step taken (step v (message_at sent k)).0 sent acts)
codes_so step taken v sent (Taking ∷ acts) = codes_so step taken (taken v).0 sent acts

-- one that is missing is among those that are
is_missing : (set : ℕ → Bool) (n k : ℕ) → k < n → set k ≡ false → Contains (missing set n) k
is_missing set zero k l is = absurd (omega (arith, l))
is_missing set (suc n) k l is = elim (cases_lt k n) [
  | inl before ↦ Contains-append_left (missing set n) (cond (set n) [] (n ∷ [])) k (is_missing set n k before is)
  | inr here ↦
      let same : n ≡ k = omega (arith, l, here) in
      subst (λ (b : Bool). Contains (missing set n ++ cond b [] (n ∷ [])) k) (sym (ap set same ∙ is))
      (subst (λ (j : ℕ). Contains (missing set n ++ n ∷ []) j) same (Contains-push (missing set n) n))
]

contains_map : {A B : Type 0} (f : A → B) (xs : List A) (x : A) → Contains xs x → Contains (map f xs) (f x)
contains_map f xs x (k, l, is) =
    (k, (let n = length-map xs f in omega (arith, n, l)), get_or-map f xs k x (f x) l ∙ ap f is)

module _ {V : Type 0} (step : Step V) (taken : Taken V) (e : EncoderState V) (before : ℕ) (ready : IsReady e.ring)
    (shut : e.part ≡ Closed) where
  abbrev M : Ends V → Type 0
  M x = Matches step taken e before ready shut x

  match_event : (x : Ends V) (event : EndEvent) → MayHappen x event → M x → M (ends_after step taken x event)
  match_event x (SaysStation ms) may m = says_match step taken e before ready shut x ms may m
  match_event x (TakesLines ms) may m = takes_match step taken e before ready shut x ms may m
  match_event x Dials may m = dials_match step taken e before ready shut x m
  match_event x Writes may m = writes_match step taken e before ready shut x m
  match_event x (Hears bytes) may m = hears_match step taken e before ready shut x bytes may m
  match_event x Tells may m = tells_match step taken e before ready shut x m
  match_event x (StudioCrashes saved) may m = studio_crash_matches step taken e before ready shut x saved may m
  match_event x (Reads bytes) may m = reads_match step taken e before ready shut x bytes may m
  match_event x Leaves may m = leaves_match step taken e before ready shut x m
  match_event x EncoderCrashes may m = encoder_crash_matches step taken e before ready shut x m
  match_event x Gives may m = gives_match step taken e before ready shut x m
  match_event x (Stranger bytes) may m = stranger_matches step taken e before ready shut x bytes may m

  pub match_all : (x : Ends V) (events : List EndEvent) → MayAll step taken x events → M x
      → M (run_ends step taken x events)
  match_all x [] may m = m
  match_all x (event ∷ events) may m =
      match_all (ends_after step taken x event) events may.1 (match_event x event may.0 m)

  pub each_once : (x : Ends V) → M x → IsEachOnce step taken e before x
  each_once x m =
      let s : Station V = m.s in
      let sent : List (List ℕ) = s.world.once.sent in
      let law = law_at step taken e before ready shut s m.acts m.backed in
      let p : ℕ = law.0 in
      let n_is : length x.studio.sent ≡ length sent = ap length m.studio.sent in
      let files = files_hold step taken e before ready shut s m.acts m.backed in
      let codes_are : codes_of step taken e.value x.transmitter.deeds
      ≡ codes_after step taken sent e.value m.acts =
      ap (codes_of step taken e.value) m.deeds ∙ codes_so step taken e.value sent m.acts in
      record {
        applied = p;
        some = (
          (let few = law.1.all_but_eight.0 in omega (arith, n_is, few)),
          (let few = law.1.all_but_eight.1 in omega (arith, n_is, few)),
        );
        all = λ each.
            let least : length sent ≤ p = all_below (length sent) p
            (λ k below. told_below k (x.studio.told k) refl (each k (omega (arith, below, n_is)))) in
            (let few = law.1.all_but_eight.0 in omega (arith, least, few, n_is));
        once = ap messages_of m.deeds ∙ messages_so sent m.acts ∙ ap (map (message_at sent)) law.2.order
            ∙ first_ones sent p law.1.all_but_eight.0 ∙ ap (take p) (sym m.studio.sent);
        store = m.lived.store;
        told = λ k code is. (
          ltb-true k p (sym (law.1.applied k) ∙ ap is_some (m.studio.told k code is)),
          ap (λ (cs : List Code). slice_get cs k) codes_are ∙ sym (law.2.codes k) ∙ m.studio.told k code is,
        );
        waits = λ saved k from below. waits_so saved k from (omega (arith, below, n_is));
        said = subst (λ (ms : List (List ℕ)). x.studio.station ≤ length ms) (sym m.studio.sent) m.studio.said;
        counted = m.studio.counted ∙ files.taken
            ∙ ap (λ (ms : List (List ℕ)). before + length ms) (sym m.studio.sent);
      }
    where
      told_below : (k : ℕ) (c : Option Code) → x.studio.told k ≡ c → is_some c ≡ true
          → k < (law_at step taken e before ready shut m.s m.acts m.backed).0
      told_below k (Some c) is some =
          let law = law_at step taken e before ready shut m.s m.acts m.backed in
          ltb-true k law.0 (sym (law.1.applied k) ∙ ap is_some (m.studio.told k c is))
      told_below k None is some = absurd (cc)

      all_below : (n bound : ℕ) → ((k : ℕ) → k < n → k < bound) → n ≤ bound
      all_below zero bound h = omega arith
      all_below (suc n) bound h = let last = h n (omega arith) in omega (arith, last)

      shows_not : (k : ℕ) → (law_at step taken e before ready shut m.s m.acts m.backed).0 ≤ k
          → acknowledged_by m.s.server_file.held (length m.s.world.once.sent) k ≡ false
      shows_not k from =
          let law = law_at step taken e before ready shut m.s m.acts m.backed in
          let h = m.backed in
          let w : World V = with_server m.s.world h.server h.acknowledged h.noise in
          let saved = lawful_of step taken e ready shut w m.acts h.saved in
          let not_in : (b : Bool) → h.acknowledged k ≡ b → b ≡ false = λ b is.
          elim (cases_Bool b) [
            | inl set ↦
                let l = saved.kept.within k (is ∙ set) in
                let coded : is_some (m.s.world.once.codes k) ≡ true = saved.kept.applied k ∙ lt-ltb k saved.p l in
                let past = ltb-true k law.0 (sym (law.1.applied k) ∙ coded) in
                absurd (omega (arith, past, from))
            | inr unset ↦ unset
          ] in
          ap (λ (f : ℕ → Bool). f k) (shown step taken e before ready shut m.s m.acts h)
          ∙ not_in (h.acknowledged k) refl

      waits_so : x.studio.is_saved ≡ true → (k : ℕ) → (law_at step taken e before ready shut m.s m.acts m.backed).0 ≤ k
          → k < length m.s.world.once.sent
          → Contains (waiting_among x.studio.file.held) (counter_of k, message_at x.studio.sent k)
      waits_so saved k from below =
          let sent : List (List ℕ) = m.s.world.once.sent in
          let files = files_hold step taken e before ready shut m.s m.acts m.backed in
          let there : Contains (waiting_among m.s.server_file.held) (counter_of k, message_at sent k) =
          subst (λ ws. Contains ws (counter_of k, message_at sent k)) (sym files.outstanding)
          (contains_map (λ j. (counter_of j, message_at sent j))
          (missing (acknowledged_by m.s.server_file.held (length sent)) (length sent)) k
          (is_missing (acknowledged_by m.s.server_file.held (length sent)) (length sent) k below (shows_not k from))) in
          subst (λ (ms : List (List ℕ)). Contains (waiting_among x.studio.file.held) (counter_of k, message_at ms k))
          (sym m.studio.sent)
          (subst (λ (hs : List Held). Contains (waiting_among hs) (counter_of k, message_at sent k))
          (sym (m.studio.file_held saved)) there)

-- what is come to, as a line and its files come to it
pub each_matches : {V : Type 0} (step : Step V) (taken : Taken V) (e : EncoderState V) (server : ServerState)
    (before : ℕ) (ready : IsReady e.ring) (shut : e.part ≡ Closed) → IsNewServer e.address server
    → (events : List EndEvent) → MayAll step taken (ends_from e server before) events
    → Matches step taken e before ready shut (run_ends step taken (ends_from e server before) events)
each_matches step taken e server before ready shut new events may =
    match_all step taken e before ready shut (ends_from e server before) events may
    (first_match step taken e before ready shut server new)

pub each_line_once_lem : {V : Type 0} (step : Step V) (taken : Taken V) → EachLineOnce step taken
each_line_once_lem step taken e server before ready shut new events may =
    each_once step taken e before ready shut (run_ends step taken (ends_from e server before) events)
    (each_matches step taken e server before ready shut new events may)

-- ---- Each end alone.

module _ {V : Type 0} (step : Step V) (taken : Taken V) where
  own_event : (x : Ends V) (event : EndEvent) (events : List EndEvent)
      → IsOfItsOwn step taken (ends_after step taken x event) events → IsOfItsOwn step taken x (event ∷ events)
  own_event x (SaysStation ms) events h = record { studio = h.studio; transmitter = h.transmitter }
  own_event x (TakesLines ms) events h = record { studio = h.studio; transmitter = h.transmitter }
  own_event x Dials events h = record { studio = h.studio; transmitter = h.transmitter }
  own_event x Writes events h = record { studio = h.studio; transmitter = h.transmitter }
  own_event x (Hears bytes) events h = record { studio = h.studio; transmitter = h.transmitter }
  own_event x Tells events h = record { studio = h.studio; transmitter = h.transmitter }
  own_event x (StudioCrashes saved) events h = record { studio = h.studio; transmitter = h.transmitter }
  own_event x (Reads bytes) events h = record { studio = h.studio; transmitter = h.transmitter }
  own_event x Leaves events h = record { studio = h.studio; transmitter = h.transmitter }
  own_event x EncoderCrashes events h = record { studio = h.studio; transmitter = h.transmitter }
  own_event x Gives events h = record { studio = h.studio; transmitter = h.transmitter }
  own_event x (Stranger bytes) events h = record { studio = h.studio; transmitter = h.transmitter }

  pub own_lem : EachEndIsItsOwn step taken
  own_lem x [] = record { studio = refl; transmitter = refl }
  own_lem x (event ∷ events) = own_event x event events (own_lem (ends_after step taken x event) events)

-- ---- Over beginnings anew.

module _ {V : Type 0} (step : Step V) (taken : Taken V) where
  each_stretch : (address : ℕ) (opening : V) (before : ℕ) (left : V) (stretches : List (Stretch V))
      → AreStretches step taken address opening before left stretches → AreEachOnce step taken before stretches
  each_stretch address opening before left [] are = tt
  each_stretch address opening before left (x ∷ xs) (at, ready, shut, store, new, may, later) = (
    each_line_once_lem step taken x.encoder x.server before ready shut
        (subst (λ (a : ℕ). IsNewServer a x.server) (sym at) new) x.events may,
    each_stretch address opening (end_of step taken before x).studio.file.taken
        (end_of step taken before x).transmitter.encoder.value xs later,
  )

  -- of the lines of before nothing is told
  none_below : (before : ℕ) (stretches : List (Stretch V)) → AreEachOnce step taken before stretches → (number : ℕ)
      → number ≤ before → all_told step taken before stretches number ≡ []
  none_below before [] each number below = refl
  none_below before (x ∷ xs) (h, rest) number below =
      let s : Studio = (end_of step taken before x).studio in
      let later : all_told step taken s.file.taken xs number ≡ [] =
      none_below s.file.taken xs rest number (omega (arith, h.counted, h.said, below)) in
      let none : told_of_line before s number ≡ [] =
      ap (λ (b : Bool). cond b (told_list (s.told (number - (before + 1) + s.station))) [])
      (le-ltb before number (omega (arith, below))) in
      ap (λ (l : List Code). l ++ all_told step taken s.file.taken xs number) none ∙ later

  once_told : (before : ℕ) (stretches : List (Stretch V)) → AreEachOnce step taken before stretches → (number : ℕ)
      → length (all_told step taken before stretches number) ≤ 1
  once_told before [] each number = omega arith
  once_told before (x ∷ xs) (h, rest) number =
      from_here (nat_lt before number) refl
      (once_told (end_of step taken before x).studio.file.taken xs rest number)
    where
      s : Studio
      s = (end_of step taken before x).studio

      k : ℕ
      k = number - (before + 1) + s.station

      more : List Code
      more = all_told step taken s.file.taken xs number

      by_told : (told : Option Code) → s.told k ≡ told → before < number → length more ≤ 1
          → length (told_list told ++ more) ≤ 1
      by_told None is above later = later
      by_told (Some one) is above later =
          let below = (h.told k one is).0 in
          let nothing : more ≡ [] =
          none_below s.file.taken xs rest number (omega (arith, below, h.some.0, above, h.counted)) in
          let one_told : length (one ∷ more) ≡ 1 = ap (λ (l : List Code). suc (length l)) nothing in
          omega (arith, one_told)

      from_here : (b : Bool) → nat_lt before number ≡ b → length more ≤ 1
          → length (cond b (told_list (s.told k)) [] ++ more) ≤ 1
      from_here true above later = by_told (s.told k) refl (ltb-true before number above) later
      from_here false below later = later

  pub over_stretches_lem : EachLineOnceOverStretches step taken
  over_stretches_lem address opening before left stretches are =
      let each = each_stretch address opening before left stretches are in
      (each, once_told before stretches each)
