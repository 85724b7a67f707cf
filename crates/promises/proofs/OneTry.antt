-- Where a connection holds, one try is enough.
use Rattle.std.proofs.Common.{◌≡◌, ℕ, zero, suc, ◌+◌, ◌<◌, ◌≤◌, Bool, true, false, cond, List, [], ◌∷◌, ◌++◌}
use Rattle.std.proofs.Common.{length, drop, refl, ap, sym, subst, ◌∙◌, arith}
use Rattle.std.proofs.Common.{Option, Some, None, inl, inr, append-nil}
use Rattle.std.specs.Prelude.{is_some, IsSome, Contains}
use Rattle.std.specs.List.{AllByRecursion}
use Rattle.std.specs.Option.{option_or}
use Rattle.std.proofs.lemmas.Bool.{cases_lt, false≢true, lt-ltb}
use Rattle.std.proofs.lemmas.List.{take_all}
use Rattle.uecp_elements.specs.declared.code.Code.{Code}
use Rattle.uecp_frame.specs.Findings.{Closed}
use Rattle.uecp_encoder.specs.Target.{Step, Taken}
use Rattle.uecp_encoder.specs.State.{EncoderState}
use Rattle.uecp_encoder.specs.Answering.{answers}
use Rattle.uecp_encoder.specs.Keeping.{kept_of}
use Rattle.uecp_link.specs.Counters.{counter_of}
use Rattle.uecp_link.specs.Server.{ServerState, Held, heard, waiting, waiting_among, waits_for}
use Rattle.uecp_link.specs.Window.{code_under, marks_in, window_sent}
use Rattle.uecp_link.proofs.Public.{marks_complete}
use Rattle.uecp_link.specs.Once.{Once, message_at, missing}
use Rattle.uecp_link.specs.History.{Act}
use Rattle.uecp_link.specs.Kept.{IsReady, held_from}
use Rattle.promises.specs.Station.{Station}
use Rattle.promises.specs.Ends.{Ends, EndEvent, Dials, Writes, Reads, Hears, Tells, Leaves}
use Rattle.promises.specs.Ends.{ends_from, ends_after, studio_after, run_ends, MayAll}
use Rattle.promises.specs.EachLine.{leaves_each, one_try, IsAllDone, OneTryIsEnough, IsEachOnce}
use Rattle.promises.proofs.Reaching.{lawful_of}
use Rattle.promises.proofs.Backing.{Backed}
use Rattle.promises.proofs.Cutting.{spelled}
use Rattle.promises.proofs.Uncounted.{uncounted, answers_alike, unheard, heard_alike}
use Rattle.promises.proofs.EndLists.{all_front, all_back, missing_have, more_on_the_way, AreOnTheWay}
use Rattle.promises.proofs.EndFrames.{IsNear, closed_at, server_closed_at, address_at}
use Rattle.promises.proofs.EndFrames.{server_address_at, FramesDo, frames_do, RunsTo}
use Rattle.promises.proofs.EndReplies.{reply_in, replies_spelled, RepliesDo, replies_do}
use Rattle.promises.proofs.EndsMatch.{Matches, encoder_of}
use Rattle.promises.proofs.AtStudio.{window_so, last_ones}
use Rattle.promises.proofs.StudioHears.{server_of}
use Rattle.promises.proofs.EachLine.{each_matches, match_all, each_once}

-- ---- Numbers.

runs_on : (ks js : List ℕ) (p q r : ℕ) → RunsTo p ks q → RunsTo q js r → RunsTo p (ks ++ js) r
runs_on [] js p q r first then_ = subst (λ (i : ℕ). RunsTo i js r) (sym first) then_
runs_on (k ∷ ks) js p q r (inl (below, first)) then_ = inl (below, runs_on ks js p q r first then_)
runs_on (k ∷ ks) js p q r (inr (here, first)) then_ = inr (here, runs_on ks js (p + 1) q r first then_)

stays_below : (ks : List ℕ) (p q : ℕ) → p ≡ q → AllByRecursion (λ k. k < p) ks → RunsTo p ks q
stays_below [] p q same below = same
stays_below (k ∷ ks) p q same below = inl (below.0, stays_below ks p q same below.1)

-- where each that is acknowledged is below the next one, the others run from that to the end
missing_run : (set : ℕ → Bool) (p n : ℕ) → p ≤ n → ((k : ℕ) → set k ≡ true → k < p) → RunsTo p (missing set n) n
missing_run set p zero le within = omega (arith, le)
missing_run set p (suc n) le within = elim (cases_lt n p) [
  | inl all ↦ stays_below (missing set n ++ cond (set n) [] (n ∷ [])) p (suc n) (omega (arith, all, le))
      (missing_have (λ k. k < p) set (suc n) (λ k l is. omega (arith, l, all)))
  | inr more ↦ runs_on (missing set n) (cond (set n) [] (n ∷ [])) p n (suc n) (missing_run set p n more within)
      (last (set n) refl more)
]
  where
    last : (b : Bool) → set n ≡ b → p ≤ n → RunsTo n (cond b [] (n ∷ [])) (suc n)
    last true is more = let l = within n is in absurd (omega (arith, l, more))
    last false is more = inr (refl, omega arith)

-- what all have that are missing, one has that is
of_missing : (P : ℕ → Type 0) (set : ℕ → Bool) (n : ℕ) → AllByRecursion P (missing set n) → (k : ℕ) → k < n
    → set k ≡ false → P k
of_missing P set zero all k l is = absurd (omega (arith, l))
of_missing P set (suc n) all k l is = elim (cases_lt k n) [
  | inl before ↦ of_missing P set n (all_front P (missing set n) (cond (set n) [] (n ∷ [])) all) k before is
  | inr here ↦
      let same : n ≡ k = omega (arith, l, here) in
      subst P same (last (set n) (ap set same ∙ is) (all_back P (missing set n) (cond (set n) [] (n ∷ [])) all))
]
  where
    last : (b : Bool) → b ≡ false → AllByRecursion P (cond b [] (n ∷ [])) → P n
    last true is all = absurd (false≢true (sym is))
    last false is all = all.0

or_some : {A : Type 0} (a b : Option A) → is_some b ≡ true → is_some (option_or a b) ≡ true
or_some (Some x) b is = refl
or_some None b is = is

-- ---- The connections.

module _ {V : Type 0} (step : Step V) (taken : Taken V) where
  -- on a new connection, with no other
  abbrev dialled : Ends V → Ends V
  dialled x = record {
    studio = studio_after x.studio Dials;
    transmitter = record x.transmitter { encoder = record x.transmitter.encoder { part = Closed } };
    between = record { coming = [] ∷ []; is_there = true; going = [] };
  }

  all_left : (x : Ends V) (cs : List (List ℕ)) (rest : List EndEvent) → x.between.coming ≡ cs
      → run_ends step taken x (leaves_each cs ++ Dials ∷ rest) ≡ run_ends step taken (dialled x) rest
  all_left x [] rest is =
      ap (λ (c : List (List ℕ)). run_ends step taken (record (dialled x) {
        between = record { coming = drop 1 c ++ [] ∷ []; is_there = true; going = [] };
      }) rest) is
  all_left x (c ∷ cs) rest is = all_left (ends_after step taken x Leaves) cs rest (ap (drop 1) is)

  may_leave : (x : Ends V) (cs : List (List ℕ)) (rest : List EndEvent) → x.between.coming ≡ cs
      → MayAll step taken (dialled x) rest → MayAll step taken x (leaves_each cs ++ Dials ∷ rest)
  may_leave x [] rest is may = (
    tt,
    (
      tt,
      subst (λ (c : List (List ℕ)). MayAll step taken (record (dialled x) {
        between = record { coming = drop 1 c ++ [] ∷ []; is_there = true; going = [] };
      }) rest) (sym is) may,
    ),
  )
  may_leave x (c ∷ cs) rest is may =
      (tt, may_leave (ends_after step taken x Leaves) cs rest (ap (drop 1) is) may)

  module _ (e : EncoderState V) (before : ℕ) (ready : IsReady e.ring) (shut : e.part ≡ Closed) where
    abbrev M : Ends V → Type 0
    M x = Matches step taken e before ready shut x

    -- the encoder on a new connection is that of the line, but for its counts
    encoder_anew : (x : Ends V) (m : M x)
        → uncounted (record x.transmitter.encoder { part = Closed }) ≡ uncounted m.s.world.encoder
    encoder_anew x m =
        let closed = closed_at step taken e before ready shut m.s m.acts m.backed m.none in
        ap (λ (a : ℕ). encoder_of a (kept_of x.transmitter.encoder) Closed)
        (m.lived.address ∙ sym (address_at step taken e before ready shut m.s m.acts m.backed))
        ∙ ap (λ k. encoder_of m.s.world.encoder.address k Closed) m.kept
        ∙ ap (encoder_of m.s.world.encoder.address (kept_of m.s.world.encoder))
        (sym closed)

    -- and so is the server
    server_anew : (x : Ends V) (m : M x)
        → unheard (record x.studio.server { part = Closed }) ≡ unheard m.s.world.server
    server_anew x m =
        let srv : ServerState = m.s.world.server in
        let closed = server_closed_at step taken e before ready shut m.s m.acts m.backed m.none_back in
        ap (λ (a : ℕ). server_of a x.studio.server.last x.studio.server.held Closed)
        (m.studio.address ∙ sym (server_address_at step taken e before ready shut m.s m.acts m.backed))
        ∙ ap (λ (l : ℕ). server_of srv.address l x.studio.server.held Closed) m.studio.last
        ∙ ap (λ (hs : List Held). server_of srv.address srv.last hs Closed) m.studio.held
        ∙ ap (server_of srv.address srv.last srv.held) (sym closed)

    -- nothing waits where all is acknowledged
    none_held : (s : Station V) (acts : List Act) → (h : Backed step taken e before ready shut s acts)
        → ((k : ℕ) → k < length s.world.once.sent → s.world.once.acknowledged k ≡ true) → s.world.server.held ≡ []
    none_held s acts h all =
        let lawful = lawful_of step taken e ready shut s.world acts h.now in
        lawful.kept.server.held ∙ by lawful.kept.count lawful.q lawful.kept.count_is lawful.kept.oldest
      where
        by : (count q : ℕ) → length s.world.once.sent ≡ q + count
            → (0 < count → s.world.once.acknowledged q ≡ false)
            → held_from s.world.once.sent s.world.once.acknowledged q count ≡ []
        by zero q is oldest = refl
        by (suc count) q is oldest =
            absurd (false≢true (sym (oldest (omega arith)) ∙ all q (omega (arith, is))))

    -- what the server holds behind all that the encoder answers to what waits: nothing
    all_heard : (x : Ends V) (m : M x)
        → (heard (record x.studio.server { part = Closed })
        (answers step (record x.transmitter.encoder { part = Closed }) (window_sent x.studio.server))).held ≡ []
    all_heard x m =
        with_frames (frames_do step taken e before ready shut m.s m.acts ws m.backed
        (missing_have (IsNear n) o.acknowledged n near) m.none)
      where
        o : Once V
        o = m.s.world.once

        n : ℕ
        n = length o.sent

        ws : List ℕ
        ws = missing o.acknowledged n

        near : (k : ℕ) → k < n → o.acknowledged k ≡ false → IsNear n k
        near k l is =
            let last = of_missing (λ j. n ≤ j + 8) o.acknowledged n
            (last_ones step taken e before ready shut m.s m.acts m.backed) k l is in
            record { below = l; recent = omega (arith, last) }

        with_frames : FramesDo step taken e before ready shut m.s m.acts ws
            → (heard (record x.studio.server { part = Closed })
            (answers step (record x.transmitter.encoder { part = Closed }) (window_sent x.studio.server))).held ≡ []
        with_frames f =
            let lawful = lawful_of step taken e ready shut m.s.world m.acts m.backed.now in
            let s1 : Station V = f.after_them in
            let n_is : length s1.world.once.sent ≡ n = ap length f.sent in
            let all : f.replied_to ≡ ws = f.whole lawful.p n
            (λ k l. lawful.kept.applied k ∙ lt-ltb k lawful.p l)
            (missing_run o.acknowledged lawful.p n lawful.kept.p_le lawful.kept.within) in
            let coded : AllByRecursion (λ k. is_some (s1.world.once.codes k) ≡ true) ws =
            subst (AllByRecursion (λ k. is_some (s1.world.once.codes k) ≡ true)) all f.coded in
            let answered : answers step (record x.transmitter.encoder { part = Closed }) (window_sent x.studio.server)
            ≡ spelled (reply_in e.address s1.world.once.codes) ws =
            answers_alike step (record x.transmitter.encoder { part = Closed }) m.s.world.encoder
            (window_sent x.studio.server) (encoder_anew x m)
            ∙ ap (answers step m.s.world.encoder) (window_so step taken e before ready shut x m)
            ∙ f.answered ∙ replies_spelled e.address s1.world.once f.replied_to f.coded
            ∙ ap (spelled (reply_in e.address s1.world.once.codes)) all in
            let few = m.in_time.few in
            let most = m.in_time.most in
            let way : AreOnTheWay n m.in_time.top (ws ++ []) =
            subst (AreOnTheWay n m.in_time.top) (sym (append-nil ws))
            (more_on_the_way n m.in_time.top [] ws most (record { sent = tt; near = tt; falls = tt })
            (missing_have (λ k. k < n) o.acknowledged n (λ k l is. l))
            (last_ones step taken e before ready shut m.s m.acts m.backed)) in
            let r : RepliesDo step taken e before ready shut s1 (m.acts ++ f.brought) ws [] m.in_time.top =
            replies_do step taken e before ready shut s1 (m.acts ++ f.brought) ws [] m.in_time.top f.backed coded
            (subst (λ (i : ℕ). AreOnTheWay i m.in_time.top (ws ++ [])) (sym n_is) way)
            (omega (arith, n_is, few)) (omega (arith, n_is, most))
            (λ k is. m.in_time.acked k (ap (λ (g : ℕ → Bool). g k) (sym f.acknowledged) ∙ is))
            (f.to_server ∙ m.none_back) in
            let r_is : length r.after_them.world.once.sent ≡ length s1.world.once.sent = ap length r.sent in
            let same : unheard (heard (record x.studio.server { part = Closed })
            (answers step (record x.transmitter.encoder { part = Closed }) (window_sent x.studio.server)))
            ≡ unheard r.after_them.world.server =
            ap (λ (bytes : List ℕ). unheard (heard (record x.studio.server { part = Closed }) bytes)) answered
            ∙ heard_alike (record x.studio.server { part = Closed }) m.s.world.server
            (spelled (reply_in e.address s1.world.once.codes) ws) (server_anew x m)
            ∙ ap unheard (ap (λ (y : ServerState). heard y (spelled (reply_in e.address s1.world.once.codes) ws))
            (sym f.server) ∙ r.server) in
            ap (λ (y : ServerState). y.held) same
            ∙ none_held r.after_them (m.acts ++ f.brought) r.backed
            (λ k l. one k (omega (arith, l, r_is, n_is)) f r (o.acknowledged k) refl)
          where
            one : (k : ℕ) → k < n → (f : FramesDo step taken e before ready shut m.s m.acts ws)
                → (r : RepliesDo step taken e before ready shut f.after_them (m.acts ++ f.brought) ws [] m.in_time.top)
                → (b : Bool) → o.acknowledged k ≡ b → r.after_them.world.once.acknowledged k ≡ true
            one k l f r true is = r.still k (ap (λ (g : ℕ → Bool). g k) f.acknowledged ∙ is)
            one k l f r false is =
                of_missing (λ j. r.after_them.world.once.acknowledged j ≡ true) o.acknowledged n r.heard_all k l is

    -- ---- The try.

    abbrev window : Ends V → List ℕ
    window x = window_sent x.studio.server

    abbrev answer : Ends V → List ℕ
    answer x = answers step (record x.transmitter.encoder { part = Closed }) (window x)

    may_try : (x : Ends V) → MayAll step taken x (one_try step x)
    may_try x =
        may_leave x x.between.coming (Writes ∷ Reads (window x) ∷ Hears (answer x) ∷ Tells ∷ []) refl (
          tt,
          (
            take_all (length (window x)) (window x) (omega arith),
            (
              take_all (length (answer x)) (answer x) (omega
                  arith),
              (tt, tt),
            ),
          ),
        )

    all_done : (x : Ends V) → M x → IsAllDone x (run_ends step taken x (one_try step x))
    all_done x m =
        let y : Ends V = run_ends step taken x (one_try step x) in
        let last : List EndEvent = Writes ∷ Reads (window x) ∷ Hears (answer x) ∷ Tells ∷ [] in
        let is : y ≡ run_ends step taken (dialled x) last = all_left x x.between.coming last refl in
        let none : y.studio.server.held ≡ [] = ap (λ (z : Ends V). z.studio.server.held) is ∙ all_heard x m in
        let file : y.studio.file.held ≡ [] = ap (λ (z : Ends V). z.studio.file.held) is ∙ all_heard x m in
        let saved : y.studio.is_saved ≡ true = ap (λ (z : Ends V). z.studio.is_saved) is in
        let sent : y.studio.sent ≡ x.studio.sent = ap (λ (z : Ends V). z.studio.sent) is in
        let each : IsEachOnce step taken e before y = each_once step taken e before ready shut y
        (match_all step taken e before ready shut x (one_try step x) (may_try x) m) in
        record {
          once = each.once ∙ take_all each.applied y.studio.sent (let all = as_many y each file saved in omega
              (arith, all)) ∙ sent;
          sent = sent;
          told = λ k of_last waits.
              ap (λ (z : Ends V). is_some (z.studio.told k)) is
              ∙ or_some (x.studio.told k) _
              (ap (λ (b : Bool). is_some (cond b (option_or (x.studio.heard k)
              (code_under (counter_of k) (marks_in (record x.studio.server { part = Closed }) (answer x))))
              (x.studio.heard k))) of_last
              ∙ or_some (x.studio.heard k) _ (marked k waits));
          none = none;
          file = file;
        }
      where
        marked : (k : ℕ) → waits_for (waiting x.studio.server) (counter_of k) ≡ true
            → is_some (code_under (counter_of k) (marks_in (record x.studio.server { part = Closed }) (answer x)))
            ≡ true
        marked k waits =
            has (code_under (counter_of k) (marks_in (record x.studio.server { part = Closed }) (answer x)))
            (marks_complete (counter_of k) (record x.studio.server { part = Closed }) (answer x) waits
            (ap (λ (hs : List Held). waits_for (waiting_among hs) (counter_of k)) (all_heard x m)))
          where
            has : (c : Option Code) → IsSome c → is_some c ≡ true
            has (Some c) h = refl
            has None h = absurd (cc)

        as_many : (y : Ends V) (each : IsEachOnce step taken e before y) → y.studio.file.held ≡ []
            → y.studio.is_saved ≡ true → each.applied ≡ length y.studio.sent
        as_many y each file saved = elim (cases_lt each.applied (length y.studio.sent)) [
          | inl fewer ↦
              let there : Contains [] (counter_of each.applied, message_at y.studio.sent each.applied) =
              subst (λ (hs : List Held). Contains (waiting_among hs)
              (counter_of each.applied, message_at y.studio.sent each.applied)) file
              (each.waits saved each.applied (omega arith) fewer) in
              let l = there.1 in absurd (omega (arith, l))
          | inr all ↦ (let some = each.some.0 in omega (arith, some, all))
        ]

pub one_try_lem : {V : Type 0} (step : Step V) (taken : Taken V) → OneTryIsEnough step taken
one_try_lem step taken e server before ready shut new events may =
    let x : Ends _ = run_ends step taken (ends_from e server before) events in (
      may_try step taken e before ready shut x,
      all_done step taken e before ready shut x
          (each_matches step taken e server before ready shut new events may),
    )
