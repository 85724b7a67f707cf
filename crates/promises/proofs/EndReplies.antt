-- What replies that come whole do to the server, as events of a line.
use Rattle.std.proofs.Common.{◌≡◌, ℕ, ◌+◌, ◌<◌, ◌≤◌, ◌==◌, Bool, true, false, cond, List, [], ◌∷◌, ◌++◌, length, Option}
use Rattle.std.proofs.Common.{Some, None, Ok, Err, refl, ap, sym, subst, ◌∙◌, inl, inr, ◌⊎◌, append-nil, arith}
use Rattle.std.specs.Prelude.{is_none, is_some, filter_map, unwrap_or}
use Rattle.std.specs.List.{AllByRecursion, cons_option}
use Rattle.std.proofs.lemmas.Bool.{cases_Bool, le-leb, eqb-true}
use Rattle.uecp_elements.specs.declared.code.Code.{Code}
use Rattle.uecp_elements.specs.declared.code.Code.TheVariants.{Applied}
use Rattle.uecp_frame.specs.declared.frame.Frame.{Frame}
use Rattle.uecp_frame.specs.Frame.{spelling}
use Rattle.uecp_frame.specs.Findings.{Finding, Closed, has_frame}
use Rattle.uecp_encoder.specs.Target.{Step, Taken}
use Rattle.uecp_encoder.specs.State.{EncoderState}
use Rattle.uecp_encoder.specs.Answering.{reply_of}
use Rattle.uecp_link.specs.Counters.{counter_of, is_recent}
use Rattle.uecp_link.specs.Server.{ServerState, acknowledges, freed, heard, heard_finding, all_heard_as, waiting}
use Rattle.uecp_link.specs.Server.{waits_for}
use Rattle.uecp_link.specs.Server.{told as said_of}
use Rattle.uecp_link.specs.Window.{mark_in, code_under}
use Rattle.uecp_link.specs.Once.{Once, ReplyComes, refusal_of, TooLate, NotSent, with_member}
use Rattle.uecp_link.specs.History.{Act}
use Rattle.uecp_link.specs.Law.{reply_bytes}
use Rattle.uecp_link.specs.Kept.{IsReady, code_at}
use Rattle.uecp_link.proofs.Public.{heard_none, acknowledges_reply, reply_fits, with_member-same, with_member-true}
use Rattle.promises.specs.Station.{Station, station_after}
use Rattle.promises.proofs.EndFrames.{replies_of}
use Rattle.promises.proofs.Backing.{Backed, backed_after}
use Rattle.promises.proofs.Uncounted.{heard_in_two}
use Rattle.promises.proofs.Cutting.{spelled, as_found}
use Rattle.promises.proofs.EndLists.{AreOnTheWay, heard_on_the_way}

-- the reply to a number, where these are the codes
abbrev pub reply_in : (address : ℕ) → (codes : ℕ → Option Code) → ℕ → Frame
reply_in address codes k = reply_of address (counter_of k) (code_at codes k)

pub replies_spelled : {V : Type 0} (address : ℕ) (o : Once V) (ks : List ℕ)
    → AllByRecursion (λ k. is_some (o.codes k) ≡ true) ks
    → replies_of address o ks ≡ spelled (reply_in address o.codes) ks
replies_spelled address o [] all = refl
replies_spelled address o (k ∷ ks) all =
    ap (λ (z : List ℕ). z ++ replies_of address o ks) (one (o.codes k) all.0)
    ∙ ap (λ (z : List ℕ). spelling (reply_in address o.codes k) ++ z) (replies_spelled address o ks all.1)
  where
    one : (c : Option Code) → is_some c ≡ true
        → reply_bytes address k c ≡ spelling (reply_of address (counter_of k) (unwrap_or c Applied))
    one (Some c) is = refl
    one None is = absurd (cc)

-- ---- the marks of replies

-- a counter and a code are those of a number among these that was applied
pub record IsMarkOf (codes : ℕ → Option Code) (n top : ℕ) (mark : ℕ × Code) : Type 0 where
  pub number : ℕ
  pub counter : mark.0 ≡ counter_of number
  pub code : codes number ≡ Some mark.1
  pub below : number < n
  pub near : top ≤ number + 8

-- a finding is a fault, or such a reply
abbrev pub IsReplyOf : (address : ℕ) → (codes : ℕ → Option Code) → (n top : ℕ) → Finding → Type 0
IsReplyOf address codes n top (Err fault) = Unit {0}
IsReplyOf address codes n top (Ok f) =
    (k : ℕ) × (code : Code) × (f ≡ reply_of address (counter_of k) code) × IsMarkOf codes n top (counter_of k, code)

freed_address : (s : ServerState) (reply : Option (ℕ × Code)) → (freed s reply).address ≡ s.address
freed_address s None = refl
freed_address s (Some reply) = refl

abbrev Marked : (codes : ℕ → Option Code) → (n top : ℕ) → (rest : List (ℕ × Code)) → Option (ℕ × Code) → Type 0
Marked codes n top rest said = AllByRecursion (IsMarkOf codes n top) (cons_option (mark_in (said_of said)) rest)

pub marks_are : (address : ℕ) (codes : ℕ → Option Code) (n top : ℕ) (s : ServerState) (fs : List Finding)
    → s.address ≡ address → AllByRecursion (IsReplyOf address codes n top) fs
    → AllByRecursion (IsMarkOf codes n top) (filter_map mark_in (all_heard_as s fs))
marks_are address codes n top s [] at all = tt
marks_are address codes n top s (Err fault ∷ fs) at all =
    marks_are address codes n top (heard_finding s (Err fault)) fs at all.1
marks_are address codes n top s (Ok f ∷ fs) at all =
    let (k, code, is, mark) = all.0 in
    by (marks_are address codes n top (heard_finding s (Ok f)) fs (freed_address s (acknowledges s f) ∙ at) all.1)
    k code mark (waits_for (waiting s) (counter_of k)) (acknowledges s f)
    (ap (acknowledges s) is ∙ acknowledges_reply s address s.last s.held (counter_of k) code
    (record { address = at; last = refl; held = refl }))
  where
    by : AllByRecursion (IsMarkOf codes n top) (filter_map mark_in (all_heard_as (heard_finding s (Ok f)) fs))
        → (k : ℕ) (code : Code) → IsMarkOf codes n top (counter_of k, code) → (b : Bool)
        → (said : Option (ℕ × Code)) → said ≡ cond b (Some (counter_of k, code)) None
        → Marked codes n top (filter_map mark_in (all_heard_as (heard_finding s (Ok f)) fs)) said
    by rest k code mark true said is =
        subst (Marked codes n top (filter_map mark_in (all_heard_as (heard_finding s (Ok f)) fs))) (sym is) (mark, rest)
    by rest k code mark false said is =
        subst (Marked codes n top (filter_map mark_in (all_heard_as (heard_finding s (Ok f)) fs))) (sym is) rest

-- the code under a counter is that of a mark
pub code_of_mark : (codes : ℕ → Option Code) (n top counter : ℕ) (marks : List (ℕ × Code)) (code : Code)
    → AllByRecursion (IsMarkOf codes n top) marks → code_under counter marks ≡ Some code
    → IsMarkOf codes n top (counter, code)
code_of_mark codes n top counter [] code all is = absurd (cc)
code_of_mark codes n top counter (m ∷ marks) code all is =
    elim (cases_Bool (m.0 == counter)) [
      | inl here ↦
          let same : Some m.1 ≡ Some code = rw here at is in
          subst (λ (c : ℕ). IsMarkOf codes n top (c, code)) (eqb-true m.0 counter here)
          (subst (λ (d : Code). IsMarkOf codes n top (m.0, d)) (some_same m.1 code same) all.0)
      | inr other ↦
          code_of_mark codes n top counter marks code all.1
          (let later : code_under counter marks ≡ Some code = rw other at is in later)
    ]
  where
    some_same : (c d : Code) → Some c ≡ Some d → c ≡ d
    some_same c d h = cc

-- two numbers of the last some twenty have different counters
pub same_counter : (j k n top : ℕ) → counter_of j ≡ counter_of k → j < n → k < n → top ≤ j + 8 → n ≤ top + 8
    → n ≤ k + 8 → j ≡ k
same_counter j k n top same jn kn near few last = omega (arith, same, jn, kn, near, few, last)

-- whole ones are such replies, and behind them come faults alone
pub faults_are : (address : ℕ) (codes : ℕ → Option Code) (n top : ℕ) (fs : List Finding) → has_frame fs ≡ false
    → AllByRecursion (IsReplyOf address codes n top) fs
faults_are address codes n top [] none = tt
faults_are address codes n top (Err fault ∷ fs) none = (tt, faults_are address codes n top fs none)
faults_are address codes n top (Ok f ∷ fs) none = absurd (cc)

pub small_reply : (address : ℕ) (codes : ℕ → Option Code) (k : ℕ)
    → length (reply_in address codes k).message ≤ 255
small_reply address codes k = reply_fits address k (code_at codes k)

pub replies_found : (address : ℕ) (codes : ℕ → Option Code) (n top : ℕ) (ks : List ℕ) (rest : List Finding)
    → AllByRecursion (λ k. is_some (codes k) ≡ true) ks → AllByRecursion (λ k. k < n) ks
    → AllByRecursion (λ k. top ≤ k + 8) ks → has_frame rest ≡ false
    → AllByRecursion (IsReplyOf address codes n top)
    (as_found (reply_in address codes) (small_reply address codes) ks ++ rest)
replies_found address codes n top [] rest coded below near none = faults_are address codes n top rest none
replies_found address codes n top (k ∷ ks) rest coded below near none = (
  (
    k,
    code_at codes k,
    refl,
    record {
      number = k;
      counter = refl;
      code = has (codes k) coded.0;
      below = below.0;
      near = near.0;
    },
  ),
  replies_found address codes n top ks rest coded.1 below.1 near.1 none,
)
  where
    has : (c : Option Code) → is_some c ≡ true → c ≡ Some (unwrap_or c Applied)
    has (Some c) is = refl
    has None is = absurd (cc)

module _ {V : Type 0} (step : Step V) (taken : Taken V) (e : EncoderState V) (before : ℕ) (ready : IsReady e.ring)
    (shut : e.part ≡ Closed) where
  abbrev heard_one : Station V → ℕ → Station V
  heard_one s k = station_after step taken e.address s (ReplyComes k)

  -- What they do: nothing is done to the encoder; each number that is acknowledged then is below what was heard last,
  -- or so; and what comes behind is on its way still.
  pub record RepliesDo (s : Station V) (acts : List Act) (came later : List ℕ) (top : ℕ) : Type 0 where
    pub after_them : Station V
    pub backed : Backed step taken e before ready shut after_them acts
    pub none : after_them.world.once.to_server ≡ []
    pub server : heard s.world.server (spelled (reply_in e.address s.world.once.codes) came)
        ≡ after_them.world.server
    pub encoder : after_them.world.encoder ≡ s.world.encoder
    pub file : after_them.server_file ≡ s.server_file
    pub sent : after_them.world.once.sent ≡ s.world.once.sent
    pub codes : after_them.world.once.codes ≡ s.world.once.codes
    pub to_encoder : after_them.world.once.to_encoder ≡ s.world.once.to_encoder
    pub top1 : ℕ
    pub up : top ≤ top1
    pub most : top1 ≤ length s.world.once.sent
    pub way : AreOnTheWay (length s.world.once.sent) top1 later
    pub acked : (k : ℕ) → after_them.world.once.acknowledged k ≡ true → k < top1
    pub still : (k : ℕ) → s.world.once.acknowledged k ≡ true → after_them.world.once.acknowledged k ≡ true
    pub heard_all : AllByRecursion (λ k. after_them.world.once.acknowledged k ≡ true) came

  open_reply : (o : Once V) (k : ℕ) → is_some (o.codes k) ≡ true → length o.sent ≤ k + 127
      → refusal_of o (ReplyComes k) ≡ None
  open_reply o k coded recent =
      ap (λ (b : Bool). cond b (cond (is_recent (length o.sent) k) None (Some TooLate)) (Some NotSent)) coded
      ∙ ap (λ (b : Bool). cond b None (Some TooLate)) (le-leb (length o.sent) (k + 127) recent)

  pub replies_do : (s : Station V) (acts : List Act) (came later : List ℕ) (top : ℕ)
      → Backed step taken e before ready shut s acts
      → AllByRecursion (λ k. is_some (s.world.once.codes k) ≡ true) came
      → AreOnTheWay (length s.world.once.sent) top (came ++ later)
      → length s.world.once.sent ≤ top + 8 → top ≤ length s.world.once.sent
      → ((k : ℕ) → s.world.once.acknowledged k ≡ true → k < top) → s.world.once.to_server ≡ []
      → RepliesDo s acts came later top
  replies_do s acts [] later top h coded way few le acked none = record {
    after_them = s;
    backed = h;
    none = none;
    server = heard_none s.world.server;
    encoder = refl;
    file = refl;
    sent = refl;
    codes = refl;
    to_encoder = refl;
    top1 = top;
    up = omega arith;
    most = le;
    way = way;
    acked = acked;
    still = λ k is. is;
    heard_all = tt;
  }
  replies_do s acts (k ∷ ks) later top h coded way few le acked none =
      let (top1, up, over, most, way1) = heard_on_the_way (length s.world.once.sent) top k (ks ++ later) way in
      let near = way.near.0 in
      let open_ = open_reply s.world.once k coded.0 (omega (arith, near, few)) in
      goes_on top1 up
      (replies_do (heard_one s k) acts ks later top1
      (subst (λ (a : List Act). Backed step taken e before ready shut (heard_one s k) a) (append-nil acts)
      (backed_after step taken e before ready shut s acts (ReplyComes k) tt (ap is_none open_) h))
      coded.1 way1 (omega (arith, few, up)) (at_most top1 most) (λ j is. one_more top1 up over j is) refl)
    where
      at_most : (top1 : ℕ) → ((top1 ≤ length s.world.once.sent) ⊎ (top1 ≡ top)) → top1 ≤ length s.world.once.sent
      at_most top1 (inl l) = l
      at_most top1 (inr is) = omega (arith, is, le)

      one_more : (top1 : ℕ) → top ≤ top1 → k < top1 → (j : ℕ)
          → with_member s.world.once.acknowledged k j ≡ true → j < top1
      one_more top1 up over j is =
          elim (cases_Bool (j == k)) [
            | inl same ↦ let e1 = eqb-true j k same in omega (arith, e1, over)
            | inr other ↦
                let l = acked j (let was : s.world.once.acknowledged j ≡ true = rw other at is in was) in
                omega (arith, l, up)
          ]

      goes_on : (top1 : ℕ) → top ≤ top1 → RepliesDo (heard_one s k) acts ks later top1
          → RepliesDo s acts (k ∷ ks) later top
      goes_on top1 up more = record {
        after_them = more.after_them;
        backed = more.backed;
        none = more.none;
        server = heard_in_two s.world.server (spelling (reply_in e.address s.world.once.codes k))
            (spelled (reply_in e.address s.world.once.codes) ks)
            ∙ ap (λ (x : List ℕ). heard (heard s.world.server x) (spelled (reply_in e.address s.world.once.codes) ks))
            (sym (one_reply (s.world.once.codes k) coded.0))
            ∙ more.server;
        encoder = more.encoder;
        file = more.file;
        sent = more.sent;
        codes = more.codes;
        to_encoder = more.to_encoder;
        top1 = more.top1;
        up = (let a = more.up in omega (arith, a, up));
        most = more.most;
        way = more.way;
        acked = more.acked;
        still = λ j is. more.still j (with_member-true s.world.once.acknowledged k j is);
        heard_all = (more.still k (with_member-same s.world.once.acknowledged k k refl), more.heard_all);
      }
        where
          one_reply : (c : Option Code) → is_some c ≡ true
              → reply_bytes e.address k c ≡ spelling (reply_of e.address (counter_of k) (unwrap_or c Applied))
          one_reply (Some c) is = refl
          one_reply None is = absurd (cc)
