-- The messages of a station go out under the counters of their numbers.
use Rattle.std.proofs.Common.{◌≡◌, ℕ, zero, suc, ◌+◌, ◌<◌, Bool, true, false, ◌&&◌, if◌then◌else◌, List, []}
use Rattle.std.proofs.Common.{◌∷◌, ◌++◌, length, map, take, drop, append-nil, append_assoc, length-append, Option, Some}
use Rattle.std.proofs.Common.{Result, Ok, Err, refl, ap, sym, subst, ◌∙◌, arith, inl, inr}
use Rattle.std.specs.Prelude.{slice_get}
use Rattle.std.specs.List.{list_all}
use Rattle.std.proofs.lemmas.Bool.{false≢true}
use Rattle.std.proofs.lemmas.List.{take-append-drop}
use Rattle.uecp_elements.specs.declared.code.Code.{Code}
use Rattle.uecp_elements.specs.declared.code.Code.TheVariants.{Applied, UnknownElement, DataSet, Service, OutOfRange}
use Rattle.uecp_elements.specs.declared.code.Code.TheVariants.{ElementLength, NotHere, BufferFull}
use Rattle.uecp_link.specs.Counters.{counter_of, next_counter}
use Rattle.uecp_link.specs.Kept.{last_counter}
use Rattle.uecp_link.specs.Server.{ServerState, Held, waiting_among, waiting}
use Rattle.uecp_link.specs.Window.{code_under}
use Rattle.uecp_link.proofs.Public.{still_new, last_counter-next, last_counter-at}
use Rattle.uecp_net.specs.declared.sender.Outstanding.{Outstanding as Reason}
use Rattle.uecp_net.specs.Sending.{SenderOver, submitted_to, submitted_all}
use Rattle.uecp_net.specs.Joining.{JoinsOver}
use Rattle.uecp_jobs.specs.Batches.{Acknowledges}
use Rattle.sending.specs.Lines.{is_applied}
use Rattle.sending.specs.Station.{SentFor}
use Rattle.promises.specs.Sent.{under_counters, GoesOut, GoOut}
use Rattle.promises.specs.StationLaws.{StationIsOut}

-- ---- What waits once messages were submitted.

waiting-append : (hs : List Held) (counter : ℕ) (m : List ℕ)
    → waiting_among (hs ++ record { counter = counter; message = m; marked = false } ∷ [])
    ≡ waiting_among hs ++ (counter, m) ∷ []
waiting-append [] counter m = refl
waiting-append (h ∷ hs) counter m = by h.marked (waiting-append hs counter m)
  where
    by : (b : Bool) → waiting_among (hs ++ record { counter = counter; message = m; marked = false } ∷ [])
        ≡ waiting_among hs ++ (counter, m) ∷ []
        → (if b then waiting_among (hs ++ record { counter = counter; message = m; marked = false } ∷ [])
        else (h.counter, h.message)
        ∷ waiting_among (hs ++ record { counter = counter; message = m; marked = false } ∷ []))
        ≡ (if b then waiting_among hs else (h.counter, h.message) ∷ waiting_among hs) ++ (counter, m) ∷ []
    by true is = is
    by false is = ap (λ (ws : List (ℕ × List ℕ)). (h.counter, h.message) ∷ ws) is

module _ {C I O : Type 0} where
  record Waits (s : SenderOver C I O) (q : ℕ) (batch : List (List ℕ)) : Type 0 where
    pub waiting_are : waiting (submitted_all s batch).sender.server
        ≡ waiting s.sender.server ++ under_counters q batch
    pub last : (submitted_all s batch).sender.server.last ≡ last_counter (q + length batch)

  waits_after : (s : SenderOver C I O) (q : ℕ) (batch : List (List ℕ)) → s.sender.server.last ≡ last_counter q
      → Waits s q batch
  waits_after s q [] is = record {
    waiting_are = sym (append-nil (waiting s.sender.server));
    last = is ∙ ap last_counter (let none : q ≡ q + 0 = omega arith in none);
  }
  waits_after s q (m ∷ batch) is =
      let counter : next_counter s.sender.server.last ≡ last_counter (q + 1) =
      ap next_counter is ∙ last_counter-next q in
      let later = waits_after (submitted_to s m) (q + 1) batch counter in
      let under : next_counter s.sender.server.last ≡ counter_of q = counter ∙ last_counter-at (q + 1) q refl in
      record {
        waiting_are = later.waiting_are
            ∙ (ap (λ (ws : List (ℕ × List ℕ)). ws ++ under_counters (q + 1) batch)
            (waiting-append s.sender.server.held (next_counter s.sender.server.last) m
            ∙ ap (λ (c : ℕ). waiting s.sender.server ++ (c, m) ∷ []) under)
            ∙ append_assoc (waiting s.sender.server) ((counter_of q, m) ∷ []) (under_counters (q + 1) batch));
        last = later.last ∙ ap last_counter
            (let more : q + 1 + length batch ≡ q + suc (length batch) = omega arith in more);
      }

codes_by : (f : ℕ → Option Code) (ws : List (ℕ × List ℕ)) → map f (map (λ w. w.0) ws) ≡ map (λ w. f w.0) ws
codes_by f [] = refl
codes_by f (w ∷ ws) = ap (λ (os : List (Option Code)). f w.0 ∷ os) (codes_by f ws)

-- ---- Batch by batch.

module _ {C I O : Type 0} (opens : C → Option (I × O) → C → Type 0) (closes : C → I → O → C → Type 0)
    (remaining : I → Option (List ℕ)) (contents : O → Option (List ℕ)) where
  -- so many batches went out, and these messages are left
  record WentOut (size n : ℕ) (messages : List (List ℕ)) (told : List Code) (left : List (List ℕ))
      (s y : SenderOver C I O) : Type 0 where
    pub before : List (List ℕ)
    pub all : messages ≡ before ++ left
    pub goes : GoOut opens closes remaining contents n before told s y
    pub held : y.sender.server.held ≡ []
    pub last : y.sender.server.last ≡ last_counter (length before)
    pub count : length told ≡ length before

  one_out : (q : ℕ) (batch : List (List ℕ)) (more : List Code) (tries : ℕ) (y s' : SenderOver C I O)
      → y.sender.server.held ≡ [] → y.sender.server.last ≡ last_counter q
      → Acknowledges opens closes remaining contents y batch more tries s'
      → GoesOut opens closes remaining contents q batch more y s'
  one_out q batch more tries y s' held last a =
      let waits = waits_after y q batch last in
      let are : waiting (submitted_all y batch).sender.server ≡ under_counters q batch =
      waits.waiting_are ∙ ap (λ (hs : List Held). waiting_among hs ++ under_counters q batch) held in
      record {
        ended = a.ended;
        tries = tries;
        marks = a.marks;
        waited = are;
        delivers = a.delivers;
        codes = a.are_told
            ∙ (codes_by (λ c. code_under c a.marks) (waiting (submitted_all y batch).sender.server)
            ∙ ap (map (λ w. code_under w.0 a.marks)) are);
      }

  went_out : (size n : ℕ) (messages : List (List ℕ)) (told : List Code) (left : List (List ℕ))
      (s y : SenderOver C I O) → s.sender.server.held ≡ [] → s.sender.server.last ≡ 0
      → SentFor opens closes remaining contents size messages n told left s y
      → WentOut size n messages told left s y
  went_out size zero messages told left s y held last h = record {
    before = [];
    all = sym h.1;
    goes = (refl, h.0, h.2);
    held = ap (λ (x : SenderOver C I O). x.sender.server.held) h.2 ∙ held;
    last = ap (λ (x : SenderOver C I O). x.sender.server.last) h.2 ∙ last;
    count = ap length h.0;
  }
  went_out size (suc n) messages told left s s' held last h =
      let codes : List Code = h.0 in
      let rest : List (List ℕ) = h.1 in
      let y : SenderOver C I O = h.2 in
      let more : List Code = h.3 in
      let w = went_out size n messages codes rest s y held last h.5 in
      let a = h.7 in
      let batch : List (List ℕ) = take size rest in
      let both : length (w.before ++ batch) ≡ length w.before + length batch = length-append w.before batch in
      let told_both : length (codes ++ more) ≡ length codes + length more = length-append codes more in
      let told_is : length told ≡ length (codes ++ more) = ap length h.8 in
      record {
        before = w.before ++ batch;
        all = w.all
            ∙ (ap (λ (ms : List (List ℕ)). w.before ++ ms) (sym (take-append-drop size rest))
            ∙ (sym (append_assoc w.before batch (drop size rest))
            ∙ ap (λ (ms : List (List ℕ)). (w.before ++ batch) ++ ms) (sym h.9)));
        goes = (
          w.before,
          batch,
          codes,
          more,
          y,
          w.goes,
          one_out (length w.before) batch more h.4 y s' w.held w.last a,
          refl,
          h.8,
        );
        held = ap (λ (x : ServerState). x.held) a.freed;
        last = ap (λ (x : ServerState). x.last) a.freed
            ∙ ((waits_after y (length w.before) batch w.last).last ∙ ap last_counter (sym both));
        count = omega (arith, both, told_both, told_is, w.count, a.all);
      }

  -- ---- From a pass on.
  new_over : (ended : ℕ) (before : Reason) (behind : ℕ) (s y : SenderOver C I O)
      → JoinsOver opens closes remaining contents ended before behind s y (Ok tt)
      → (y.sender.server.held ≡ []) × (y.sender.server.last ≡ 0)
  new_over zero before behind s y (behind', p) =
      let new = still_new p.start.sender.server y.sender.server p.went.read p.went.state in
      (ap (λ (x : ServerState). x.held) new, ap (λ (x : ServerState). x.last) new)
  new_over (suc n) before behind s y p = new_over n p.1 p.2 _ y p.9

all_applied : (told : List Code) → list_all is_applied told ≡ true → (k : ℕ) → k < length told
    → slice_get told k ≡ Some Applied
all_applied [] h k l = absurd (omega (arith, l))
all_applied (code ∷ told) h zero l = by code (list_all is_applied told) h
  where
    by : (c : Code) (b : Bool) → (is_applied c && b) ≡ true → ◌≡◌ {A = Option Code} (Some c) (Some Applied)
    by Applied b h = refl
    by UnknownElement b h = absurd (false≢true h)
    by DataSet b h = absurd (false≢true h)
    by Service b h = absurd (false≢true h)
    by OutOfRange b h = absurd (false≢true h)
    by ElementLength b h = absurd (false≢true h)
    by NotHere b h = absurd (false≢true h)
    by BufferFull b h = absurd (false≢true h)
all_applied (code ∷ told) h (suc k) l = all_applied told (by (is_applied code) (list_all is_applied told) h) k
    (omega (arith, l))
  where
    by : (a b : Bool) → (a && b) ≡ true → b ≡ true
    by true b h = h
    by false b h = absurd (false≢true h)

pub station_is_out_lem : {C I O : Type 0} (opens : C → Option (I × O) → C → Type 0) (closes : C → I → O → C → Type 0)
    (remaining : I → Option (List ℕ)) (contents : O → Option (List ℕ))
    → StationIsOut opens closes remaining contents
station_is_out_lem {C} {I} {O} opens closes remaining contents size station told s s' (inr failed) =
    absurd (let bad : ⊥ = bad_result failed.0 failed.3 in bad)
  where
    bad_result : (reason : Reason) → ◌≡◌ {A = Result (Unit {0}) Reason} (Ok tt) (Err reason) → ⊥
    bad_result reason h = cc
station_is_out_lem {C} {I} {O} opens closes remaining contents size station told s s' (inl made) =
    let y : SenderOver C I O = made.0 in
    let new = new_over opens closes remaining contents made.1.1 _ 0 made.1.0 y made.1.3 in
    let w = went_out opens closes remaining contents size made.2.0 station told [] y s' new.0 new.1 made.2.1 in
    let all : station ≡ w.before = w.all ∙ append-nil w.before in
    let count : length station ≡ length w.before = ap length all in
    record {
      begins = y;
      joins = made.1;
      batches = made.2.0;
      goes = subst (λ (ms : List (List ℕ)). GoOut opens closes remaining contents made.2.0 ms told y s') (sym all)
          w.goes;
      each = omega (arith, count, w.count);
      none = w.held;
      next = w.last ∙ ap last_counter (sym count);
      applied = λ h k l. all_applied told h k (omega (arith, count, w.count, l));
    }
