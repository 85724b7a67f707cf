-- Held messages, of which at most one waits.
use Rattle.std.proofs.Common.{◌≡◌, ℕ, ◌≤◌, ◌==◌, ◌||◌, Bool, true, false, cond, List, [], ◌∷◌, length, Option, Some}
use Rattle.std.proofs.Common.{None, refl, ap, sym, ◌∙◌, arith}
use Rattle.uecp_elements.specs.declared.code.Code.{Code}
use Rattle.uecp_frame.specs.declared.frame.Frame.{Frame}
use Rattle.uecp_link.specs.Server.{ServerState, Held, waiting_among, waiting, waits_for, marked_at, freed_of}
use Rattle.uecp_link.specs.Server.{reply_from, reply_to_one, acknowledges}

pub or_true : (b : Bool) → (b || true) ≡ true
or_true true = refl
or_true false = refl

pub none_in : (ws : List (ℕ × List ℕ)) → length ws ≤ 0 → ws ≡ []
none_in [] h = refl
none_in (w ∷ ws) h = absurd (omega arith)

-- where none waits, all are let go
pub none_waits : (counter : ℕ) (hs : List Held) → waiting_among hs ≡ [] → freed_of (marked_at counter hs) ≡ []
none_waits counter [] none = refl
none_waits counter (h ∷ hs) none = go h.marked none (none_waits counter hs)
  where
    go : (b : Bool) → cond b (waiting_among hs) ((h.counter, h.message) ∷ waiting_among hs) ≡ []
        → (waiting_among hs ≡ [] → freed_of (marked_at counter hs) ≡ [])
        → cond (h.counter == counter || b) (freed_of (marked_at counter hs))
        (record h { marked = h.counter == counter || b } ∷ marked_at counter hs) ≡ []
    go true none rest = rw (or_true (h.counter == counter)) (rest none)
    go false none rest = absurd (cc)

-- and where at most one waits, once that is marked
pub one_waits : (counter : ℕ) (hs : List Held) → length (waiting_among hs) ≤ 1
    → waits_for (waiting_among hs) counter ≡ true → freed_of (marked_at counter hs) ≡ []
one_waits counter [] few waits = absurd (cc)
one_waits counter (h ∷ hs) few waits = go h.marked few waits (one_waits counter hs)
  where
    go : (b : Bool) → length (cond b (waiting_among hs) ((h.counter, h.message) ∷ waiting_among hs)) ≤ 1
        → waits_for (cond b (waiting_among hs) ((h.counter, h.message) ∷ waiting_among hs)) counter ≡ true
        → (length (waiting_among hs) ≤ 1 → waits_for (waiting_among hs) counter ≡ true
        → freed_of (marked_at counter hs) ≡ [])
        → cond (h.counter == counter || b) (freed_of (marked_at counter hs))
        (record h { marked = h.counter == counter || b } ∷ marked_at counter hs) ≡ []
    go true few waits later = rw (or_true (h.counter == counter)) (later few waits)
    go false few waits later = by_counter (h.counter == counter)
        (ap (λ ws. h.counter == counter || waits_for ws counter) (sym rest) ∙ waits)
      where
        rest : waiting_among hs ≡ []
        rest = none_in (waiting_among hs) (omega (arith, few))

        by_counter : (b : Bool) → (b || false) ≡ true → cond (b || false) (freed_of (marked_at counter hs))
            (record h { marked = b || false } ∷ marked_at counter hs) ≡ []
        by_counter true is = none_waits counter hs rest
        by_counter false is = absurd (cc)

-- what is acknowledged waits
pub acknowledged_waits : (s : ServerState) (f : Frame) (reply : ℕ × Code) → acknowledges s f ≡ Some reply
    → waits_for (waiting s) reply.0 ≡ true
acknowledged_waits s f reply is = go (reply_from s.address f) is
  where
    go : (o : Option (ℕ × Code)) → reply_to_one (waiting s) o ≡ Some reply → waits_for (waiting s) reply.0 ≡ true
    go None e = absurd (cc)
    go (Some r) e = by_waiting (waits_for (waiting s) r.0) refl e
      where
        by_waiting : (b : Bool) → waits_for (waiting s) r.0 ≡ b → cond b (Some r) None ≡ Some reply
            → waits_for (waiting s) reply.0 ≡ true
        by_waiting true is e = let same : r ≡ reply = cc in
            ap (λ (x : ℕ × Code). waits_for (waiting s) x.0) (sym same) ∙ is
        by_waiting false is e = absurd (cc)

-- and nothing is, where none waits
pub none_acknowledged : (s : ServerState) (f : Frame) → waiting s ≡ [] → acknowledges s f ≡ None
none_acknowledged s f none = by_reply (acknowledges s f) refl
  where
    by_reply : (o : Option (ℕ × Code)) → acknowledges s f ≡ o → o ≡ None
    by_reply None is = refl
    by_reply (Some reply) is = let waits = acknowledged_waits s f reply is in let nothing =
        ap (λ ws. waits_for ws reply.0) none in absurd (cc)

-- letting go leaves those that wait
pub freed_waits : (hs : List Held) → waiting_among (freed_of hs) ≡ waiting_among hs
freed_waits [] = refl
freed_waits (h ∷ hs) = go h.marked refl (freed_waits hs)
  where
    go : (b : Bool) → h.marked ≡ b → waiting_among (freed_of hs) ≡ waiting_among hs
        → waiting_among (cond b (freed_of hs) (h ∷ hs)) ≡ cond b (waiting_among hs)
        ((h.counter, h.message) ∷ waiting_among hs)
    go true is rest = rest
    go false is rest = rw is refl
