-- Messages with their sequence counters.
use Rattle.std.proofs.Common.{◌≡◌, ℕ, zero, suc, ◌+◌, Bool, true, false, cond, List, [], ◌∷◌, ◌++◌, take}
use Rattle.std.proofs.Common.{Some, refl, ap, subst, sym, ◌∙◌, arith, unwrap_or, append_assoc, append-nil}
use Rattle.std.specs.List.{slice_get}
use Rattle.uecp_link.specs.Counters.{next_counter}
use Rattle.uecp_link.specs.Server.{Held, waiting, waiting_among}
use Rattle.uecp_net.specs.Sending.{SenderOver, submitted_to, submitted_all}
use Rattle.sending.specs.Sent.{sent_after}

-- ---- The messages that wait among the first that are held.

-- what of one that is held waits
abbrev pub waits : Held → List (ℕ × List ℕ)
waits h = cond h.marked [] ((h.counter, h.message) ∷ [])

waits_first : (h : Held) (hs : List Held) → waiting_among (h ∷ hs) ≡ waits h ++ waiting_among hs
waits_first h hs = by h.marked
  where
    by : (b : Bool) → cond b (waiting_among hs) ((h.counter, h.message) ∷ waiting_among hs)
        ≡ cond b [] ((h.counter, h.message) ∷ []) ++ waiting_among hs
    by true = refl
    by false = refl

among_on : (hs : List Held) (place : ℕ) (h : Held) → slice_get hs place ≡ Some h
    → waiting_among (take (suc place) hs) ≡ waiting_among (take place hs) ++ waits h
among_on [] zero h is = cc
among_on [] (suc place) h is = cc
among_on (x ∷ hs) zero h is =
    let same : x ≡ h = ap (λ o. unwrap_or o x) is in
    waits_first x [] ∙ append-nil (waits x) ∙ ap waits same
among_on (x ∷ hs) (suc place) h is =
    waits_first x (take (suc place) hs)
    ∙ ap (λ l. waits x ++ l) (among_on hs place h is)
    ∙ sym (append_assoc (waits x) (waiting_among (take place hs)) (waits h))
    ∙ ap (λ l. l ++ waits h) (sym (waits_first x (take place hs)))

-- one more that is held
pub waiting_on : (hs : List Held) (place : ℕ) (h : Held) → slice_get hs place ≡ Some h
    → waiting_among (take (place + 1) hs) ≡ waiting_among (take place hs) ++ waits h
waiting_on hs place h is =
    subst (λ n. waiting_among (take n hs) ≡ waiting_among (take place hs) ++ waits h)
    (let same : suc place ≡ place + 1 = omega arith in same) (among_on hs place h is)

-- ---- Messages that are submitted.

append_one : (hs : List Held) (counter : ℕ) (m : List ℕ)
    → waiting_among (hs ++ record { counter = counter; message = m; marked = false } ∷ [])
    ≡ waiting_among hs ++ (counter, m) ∷ []
append_one [] counter m = refl
append_one (h ∷ hs) counter m =
    waits_first h (hs ++ record { counter = counter; message = m; marked = false } ∷ [])
    ∙ ap (λ l. waits h ++ l) (append_one hs counter m)
    ∙ sym (append_assoc (waits h) (waiting_among hs) ((counter, m) ∷ []))
    ∙ ap (λ l. l ++ (counter, m) ∷ []) (sym (waits_first h hs))

module _ {C I O : Type 0} where
  waiting_all : (s : SenderOver C I O) (batch : List (List ℕ))
      → waiting (submitted_all s batch).sender.server
      ≡ waiting s.sender.server ++ sent_after s.sender.server.last batch
  waiting_all s [] = sym (append-nil (waiting s.sender.server))
  waiting_all s (m ∷ batch) =
      waiting_all (submitted_to s m) batch
      ∙ ap (λ l. l ++ sent_after (next_counter s.sender.server.last) batch)
      (append_one s.sender.server.held (next_counter s.sender.server.last) m)
      ∙ append_assoc (waiting s.sender.server) ((next_counter s.sender.server.last, m) ∷ [])
      (sent_after (next_counter s.sender.server.last) batch)

  -- of an idle server that takes a batch, the messages of that wait under the next counters
  pub waiting_of_batch : (s : SenderOver C I O) (batch : List (List ℕ)) → s.sender.server.held ≡ []
      → waiting (submitted_all s batch).sender.server ≡ sent_after s.sender.server.last batch
  waiting_of_batch s batch idle = waiting_all s batch
      ∙ ap (λ hs. waiting_among hs ++ sent_after s.sender.server.last batch) idle
