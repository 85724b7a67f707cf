-- The lines of a batch, and its messages, one by one.
use Rattle.std.proofs.Common.{◌≡◌, ℕ, ◌+◌, ◌<◌, ◌==◌, cond, Bool, true, false, get_or, List, [], ◌∷◌, ◌++◌, length}
use Rattle.std.proofs.Common.{take, drop, min, zero, suc, refl, eqb-true, ◌∙◌, ap, sym, arith, append_assoc, append-nil}
use Rattle.std.proofs.Common.{length-append}
use Rattle.std.proofs.Math.Nat.{suc-min-suc}
use Rattle.std.proofs.lemmas.List.{take_more}
use Rattle.uecp_elements.specs.declared.code.Code.{Code}
use Rattle.uecp_link.specs.Counters.{next_counter}
use Rattle.uecp_link.specs.Server.{Held, waiting, waiting_among}
use Rattle.uecp_text.specs.Written.{Kept, Adds}
use Rattle.uecp_net.specs.Sending.{SenderOver, submitted_to, submitted_all}
use Rattle.uecp_jobs.specs.Batches.{acknowledged_line, batch_lines}

pub adds_on : (a b c : Kept) (x y : List ℕ) → Adds a b x → Adds b c y → Adds a c (x ++ y)
adds_on a b c x y first second whole =
    let (middle, added) = second whole in
    let (start, before) = first middle in
    (start, added ∙ ap (λ l. l ++ y) before ∙ append_assoc a.bytes x y)

batch_append : (some more : List Code) (tries : ℕ)
    → batch_lines (some ++ more) tries ≡ batch_lines some tries ++ batch_lines more tries
batch_append [] more tries = refl
batch_append (code ∷ some) more tries =
    ap (λ l. acknowledged_line code tries ++ l) (batch_append some more tries)
    ∙ sym (append_assoc (acknowledged_line code tries) (batch_lines some tries) (batch_lines more tries))

-- the line of one message more
pub batch_on : (told : List Code) (place : ℕ) (d : Code) (tries : ℕ) → place < length told
    → batch_lines (take (place + 1) told) tries ≡ batch_lines (take place told) tries
    ++ acknowledged_line (get_or told place d) tries
batch_on told place d tries within =
    ap (λ l. batch_lines l tries) (take_more told place d within)
    ∙ batch_append (take place told) (get_or told place d ∷ []) tries
    ∙ ap (λ l. batch_lines (take place told) tries ++ l) (append-nil (acknowledged_line (get_or told place d) tries))

-- ---- the messages of a batch

drop_none : {X : Type 0} (n : ℕ) → drop {A = X} n [] ≡ []
drop_none zero = refl
drop_none (suc n) = refl

pub drop_min : {X : Type 0} (n : ℕ) (xs : List X) → drop (min n (length xs)) xs ≡ drop n xs
drop_min zero xs = ap (λ k. drop k xs) (let q : min 0 (length xs) ≡ 0 = omega arith in q)
drop_min {X} (suc n) [] = drop_none {X = X} (min (suc n) 0) ∙ sym (drop_none {X = X} (suc n))
drop_min (suc n) (x ∷ xs) = ap (λ k. drop k (x ∷ xs)) (suc-min-suc n (length xs)) ∙ drop_min n xs

pub none_left : {X : Type 0} (xs : List X) → length xs ≡ 0 → xs ≡ []
none_left [] none = refl
none_left (x ∷ xs) none = absurd (let no : length xs + 1 ≡ 0 = omega (arith, none) in omega (arith, no))

pub none_by_test : {X : Type 0} (xs : List X) → true ≡ (length xs == 0) → xs ≡ []
none_by_test [] is = refl
none_by_test (x ∷ xs) is = absurd (let k : suc (length xs) ≡ 0 = eqb-true (suc (length xs)) 0 (sym is) in omega arith)

-- ---- messages that are submitted

waiting_more : (hs : List Held) (counter : ℕ) (m : List ℕ)
    → length (waiting_among (hs ++ record { counter = counter; message = m; marked = false } ∷ []))
    ≡ length (waiting_among hs) + 1
waiting_more [] counter m = refl
waiting_more (h ∷ hs) counter m = go h.marked (waiting_more hs counter m)
  where
    after : List Held
    after = hs ++ record { counter = counter; message = m; marked = false } ∷ []

    go : (b : Bool) → length (waiting_among after) ≡ length (waiting_among hs) + 1 →
        length (cond b (waiting_among after) ((h.counter, h.message) ∷ waiting_among after))
        ≡ length (cond b (waiting_among hs) ((h.counter, h.message) ∷ waiting_among hs)) + 1
    go true one = one
    go false one = omega (arith, one)

module _ {C I O : Type 0} where
  abbrev held_by : SenderOver C I O → List Held
  held_by s = s.sender.server.held

  abbrev waiting_with : SenderOver C I O → ℕ
  waiting_with s = length (waiting s.sender.server)

  pub all_held : (s : SenderOver C I O) (batch : List (List ℕ))
      → length (held_by (submitted_all s batch)) ≡ length (held_by s) + length batch
  all_held s [] = omega arith
  all_held s (m ∷ batch) =
      let later = all_held (submitted_to s m) batch in
      let h : Held = record { counter = next_counter s.sender.server.last; message = m; marked = false } in
      let one : length (held_by (submitted_to s m)) ≡ length (held_by s) + 1 = length-append (held_by s) (h ∷ []) in
      omega (arith, later, one)

  pub all_wait : (s : SenderOver C I O) (batch : List (List ℕ))
      → waiting_with (submitted_all s batch) ≡ waiting_with s + length batch
  all_wait s [] = omega arith
  all_wait s (m ∷ batch) =
      let later = all_wait (submitted_to s m) batch in
      let one : waiting_with (submitted_to s m) ≡ waiting_with s + 1 =
      waiting_more (held_by s) (next_counter s.sender.server.last) m in
      omega (arith, later, one)

  -- the sender itself, but for its server, and the loan stay as they are
  pub all_tries : (s : SenderOver C I O) (batch : List (List ℕ)) → (submitted_all s batch).sender.tries ≡ s.sender.tries
  all_tries s [] = refl
  all_tries s (m ∷ batch) = all_tries (submitted_to s m) batch

  pub all_loan : (s : SenderOver C I O) (batch : List (List ℕ)) → (submitted_all s batch).loan ≡ s.loan
  all_loan s [] = refl
  all_loan s (m ∷ batch) = all_loan (submitted_to s m) batch

  submitted_append : (s : SenderOver C I O) (batch more : List (List ℕ))
      → submitted_all s (batch ++ more) ≡ submitted_all (submitted_all s batch) more
  submitted_append s [] more = refl
  submitted_append s (m ∷ batch) more = submitted_append (submitted_to s m) batch more

  -- one message more
  pub submitted_on : (s : SenderOver C I O) (batch : List (List ℕ)) (place : ℕ) (d : List ℕ) → place < length batch
      → submitted_all s (take (place + 1) batch) ≡ submitted_to (submitted_all s (take place batch))
      (get_or batch place d)
  submitted_on s batch place d within = ap (submitted_all s) (take_more batch place d within)
      ∙ submitted_append s (take place batch) (get_or batch place d ∷ [])
