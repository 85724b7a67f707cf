-- A server that goes on: the counters of what it holds, from their places and back.
use Rattle.std.proofs.Common.{◌≡◌, ℕ, zero, suc, ◌+◌, ◌-◌, ◌<◌, ◌≤◌, ◌==◌, ◌&&◌, ◌||◌, nat_le, not, Bool, true, false}
use Rattle.std.proofs.Common.{List, [], ◌∷◌, ◌++◌, length, map, take, get_or, refl, ap, sym, ◌∙◌, arith, eq-eqb}
use Rattle.std.proofs.lemmas.Bool.{le-leb, leb-true, ne_eqb, eqb-true, false≢true}
use Rattle.uecp_link.specs.Counters.{counter_of, next_counter}
use Rattle.uecp_link.specs.Server.{Held}
use Rattle.uecp_link.specs.declared.kept_message.KeptMessage.{KeptMessage}
use Rattle.uecp_link.specs.declared.held_message.HeldMessage.{HeldMessage}
use Rattle.uecp_link.specs.HeldMessages.{held_as, held_in, oldest_marked, AreSpelled, AreInTurn, AreNumbered, IsHolding}
use Rattle.uecp_link.specs.Resuming.{kept_of, numbered_from, held_up_to, is_oldest_kept_marked, can_hold}

-- ---- counters

abbrev pub oldest_counter : List Held → ℕ
oldest_counter [] = 0
oldest_counter (h ∷ hs) = h.counter

abbrev pub later : List Held → List Held
later [] = []
later (h ∷ hs) = hs

counter_next : (n : ℕ) → counter_of (suc n) ≡ next_counter (counter_of n)
counter_next n = omega arith

-- ---- one more

pub numbered_more : (n i : ℕ) (ms : List KeptMessage) (m : KeptMessage) → i < length ms → m ≡ get_or ms i m
    → numbered_from n (take (suc i) ms)
    ≡ numbered_from n (take i ms) ++ record { counter = counter_of (n + i); message = m.message; marked = m.marked }
    ∷ []
numbered_more n i [] m within is = absurd (omega (arith, within))
numbered_more n zero (k ∷ ms) m within is =
    let same : n ≡ n + 0 = omega arith in
    ap (λ (x : KeptMessage). record { counter = counter_of n; message = x.message; marked = x.marked } ∷ []) (sym is)
    ∙ ap (λ (c : ℕ). record { counter = counter_of c; message = m.message; marked = m.marked } ∷ []) same
numbered_more n (suc i) (k ∷ ms) m within is =
    let same : suc n + i ≡ n + suc i = omega arith in
    ap (λ hs. record { counter = counter_of n; message = k.message; marked = k.marked } ∷ hs)
    (numbered_more (suc n) i ms m (omega (arith, within)) is
    ∙ ap (λ (x : ℕ). numbered_from (suc n) (take i ms)
    ++ record { counter = counter_of x; message = m.message; marked = m.marked } ∷ []) same)

pub held_more : (hs : List HeldMessage) (h : HeldMessage) → held_in (hs ++ h ∷ []) ≡ held_in hs ++ held_as h ∷ []
held_more [] h = refl
held_more (g ∷ hs) h = ap (λ ks. held_as g ∷ ks) (held_more hs h)

pub spelled_more : (address : ℕ) (hs : List HeldMessage) (h : HeldMessage) → AreSpelled address hs
    → AreSpelled address (h ∷ []) → AreSpelled address (hs ++ h ∷ [])
spelled_more address [] h s t = t
spelled_more address (g ∷ hs) h s t = (s.0, spelled_more address hs h s.1 t)

-- ---- what can be held

pub record Can (last : ℕ) (ms : List KeptMessage) : Type 0 where
  pub few : length ms ≤ 8
  pub waits : is_oldest_kept_marked ms ≡ false
  pub begun : last ≡ 0 → length ms ≡ 0

pub can_parts : (last : ℕ) (ms : List KeptMessage) → can_hold last ms ≡ true → Can last ms
can_parts last ms can =
    go (nat_le (length ms) 8) refl (is_oldest_kept_marked ms) refl (last == 0) refl can
  where
    go : (a : Bool) → nat_le (length ms) 8 ≡ a → (b : Bool) → is_oldest_kept_marked ms ≡ b → (c : Bool)
        → (last == 0) ≡ c → (a && (not b && (not c || length ms == 0))) ≡ true → Can last ms
    go false is b oldest c first h = absurd (false≢true h)
    go true is true oldest c first h = absurd (false≢true h)
    go true is false oldest false first h = record {
      few = leb-true (length ms) 8 is;
      waits = oldest;
      begun = λ none. absurd (false≢true (sym first ∙ eq-eqb last 0 none));
    }
    go true is false oldest true first h = record {
      few = leb-true (length ms) 8 is;
      waits = oldest;
      begun = λ none. eqb-true (length ms) 0 h;
    }

-- ---- from places to counters

in_turn_from : (last k n : ℕ) (hs : List HeldMessage) (ms : List KeptMessage) → held_in hs ≡ numbered_from n ms
    → n + length ms ≡ suc k → counter_of k ≡ last → AreInTurn last hs
in_turn_from last k n [] ms is whole ends = tt
in_turn_from last k n (h ∷ []) [] is whole ends = cc
in_turn_from last k n (h ∷ []) (m ∷ []) is whole ends =
    let same : n ≡ k = omega (arith, whole) in
    ap oldest_counter is ∙ ap counter_of same ∙ ends
in_turn_from last k n (h ∷ []) (m ∷ m' ∷ ms) is whole ends =
    let rest : [] ≡ numbered_from (suc n) (m' ∷ ms) = ap later is in cc
in_turn_from last k n (h ∷ g ∷ hs) [] is whole ends = cc
in_turn_from last k n (h ∷ g ∷ hs) (m ∷ []) is whole ends =
    let rest : held_in (g ∷ hs) ≡ [] = ap later is in cc
in_turn_from last k n (h ∷ g ∷ hs) (m ∷ m' ∷ ms) is whole ends =
    let rest : held_in (g ∷ hs) ≡ numbered_from (suc n) (m' ∷ ms) = ap later is in (
      ap oldest_counter rest ∙ counter_next n ∙ ap next_counter (sym (ap oldest_counter is)),
      in_turn_from last k (suc n) (g ∷ hs) (m' ∷ ms) rest (omega (arith, whole)) ends,
    )

are_numbered_from : (n : ℕ) (hs : List HeldMessage) (ms : List KeptMessage) → held_in hs ≡ numbered_from n ms
    → AreNumbered hs
are_numbered_from n [] ms is = tt
are_numbered_from n (h ∷ hs) [] is = cc
are_numbered_from n (h ∷ hs) (m ∷ ms) is =
    let counter : h.counter ≡ counter_of n = ap oldest_counter is in
    ((omega (arith, counter), omega (arith, counter)), are_numbered_from (suc n) hs ms (ap later is))

abbrev pub oldest_mark : List Held → Bool
oldest_mark [] = false
oldest_mark (h ∷ hs) = h.marked

oldest_from : (n : ℕ) (hs : List HeldMessage) (ms : List KeptMessage) → held_in hs ≡ numbered_from n ms
    → oldest_marked hs ≡ is_oldest_kept_marked ms
oldest_from n [] [] is = refl
oldest_from n [] (m ∷ ms) is = cc
oldest_from n (h ∷ hs) [] is = cc
oldest_from n (h ∷ hs) (m ∷ ms) is = ap oldest_mark is

pub same_many : (n : ℕ) (hs : List HeldMessage) (ms : List KeptMessage) → held_in hs ≡ numbered_from n ms
    → length hs ≡ length ms
same_many n [] [] is = refl
same_many n [] (m ∷ ms) is = cc
same_many n (h ∷ hs) [] is = cc
same_many n (h ∷ hs) (m ∷ ms) is = ap suc (same_many (suc n) hs ms (ap later is))

-- what goes on is a server's
pub holds_from : (address last : ℕ) (hs : List HeldMessage) (ms : List KeptMessage) → last < 256 → length ms ≤ 8
    → is_oldest_kept_marked ms ≡ false → (last ≡ 0 → length ms ≡ 0)
    → held_in hs ≡ held_up_to last ms → AreSpelled address hs → IsHolding address last hs
holds_from address last hs ms byte few waits begun is spelled = record {
  few = omega (arith, few, same_many (last + 255 - length ms) hs ms is);
  spelled = spelled;
  in_turn = turn hs ms begun is few;
  oldest = oldest_from (last + 255 - length ms) hs ms is ∙ waits;
  numbered = are_numbered_from (last + 255 - length ms) hs ms is;
}
  where
    turn : (hs : List HeldMessage) (ms : List KeptMessage) → (last ≡ 0 → length ms ≡ 0)
        → held_in hs ≡ held_up_to last ms → length ms ≤ 8 → AreInTurn last hs
    turn [] ms begun is few = tt
    turn (h ∷ hs) [] begun is few = cc
    turn (h ∷ hs) (m ∷ ms) begun is few =
        let some : (last ≡ 0) → ⊥ = λ e. absurd (omega (arith, begun e)) in
        let k : ℕ = last + 254 in
        let ends : counter_of k ≡ last = omega (arith, byte, some) in
        in_turn_from last k (last + 255 - length (m ∷ ms)) (h ∷ hs) (m ∷ ms) is (omega (arith, few)) ends

-- ---- and back

from_next : (n counter next : ℕ) → 1 ≤ counter → counter ≤ 255 → next ≡ counter_of (suc n) → next ≡ next_counter counter
    → counter ≡ counter_of n
from_next n counter next low high is turn = omega (arith, low, high, is, turn)

numbered_again : (last n : ℕ) (hs : List HeldMessage) → AreInTurn last hs → AreNumbered hs
    → n + length hs ≡ last + 255 → held_in hs ≡ numbered_from n (map kept_of (held_in hs))
numbered_again last n [] turn numbered whole = refl
numbered_again last n (h ∷ []) turn numbered whole =
    let same : h.counter ≡ counter_of n = omega (arith, turn, numbered.0.0, numbered.0.1, whole) in
    ap (λ (c : ℕ). record { counter = c; message = h.message; marked = h.marked } ∷ []) same
numbered_again last n (h ∷ g ∷ hs) turn numbered whole =
    let rest : held_in (g ∷ hs) ≡ numbered_from (suc n) (map kept_of (held_in (g ∷ hs))) =
    numbered_again last (suc n) (g ∷ hs) turn.1 numbered.1 (omega (arith, whole)) in
    let same : h.counter ≡ counter_of n =
    from_next n h.counter g.counter numbered.0.0 numbered.0.1 (ap oldest_counter rest) turn.0 in
    ap (λ (c : ℕ). record { counter = c; message = h.message; marked = h.marked } ∷ held_in (g ∷ hs)) same
    ∙ ap (λ ks. record { counter = counter_of n; message = h.message; marked = h.marked } ∷ ks) rest

oldest_again : (hs : List HeldMessage) → is_oldest_kept_marked (map kept_of (held_in hs)) ≡ oldest_marked hs
oldest_again [] = refl
oldest_again (h ∷ hs) = refl

many_again : (hs : List HeldMessage) → length (map kept_of (held_in hs)) ≡ length hs
many_again [] = refl
many_again (h ∷ hs) = ap suc (many_again hs)

begun_again : (last : ℕ) (hs : List HeldMessage) → AreInTurn last hs → AreNumbered hs → last ≡ 0 → length hs ≡ 0
begun_again last [] turn numbered none = refl
begun_again last (h ∷ []) turn numbered none = absurd (omega (arith, turn, numbered.0.0, none))
begun_again last (h ∷ g ∷ hs) turn numbered none =
    absurd (omega (arith, begun_again last (g ∷ hs) turn.1 numbered.1 none))

may_hold : (last : ℕ) (ms : List KeptMessage) → length ms ≤ 8 → is_oldest_kept_marked ms ≡ false
    → (last ≡ 0 → length ms ≡ 0) → can_hold last ms ≡ true
may_hold last [] few waits begun = go (last == 0)
  where
    go : (b : Bool) → (not b || true) ≡ true
    go true = refl
    go false = refl
may_hold last (m ∷ ms) few waits begun =
    let some : (last ≡ 0) → ⊥ = λ e. absurd (omega (arith, begun e)) in
    rw (le-leb (length (m ∷ ms)) 8 few, waits, ne_eqb last 0 some) refl

-- every server's messages have the counters of their places
pub holds_again : (address last : ℕ) (hs : List HeldMessage) → IsHolding address last hs
    → held_in hs ≡ held_up_to last (map kept_of (held_in hs))
holds_again address last hs is =
    numbered_again last (last + 255 - length (map kept_of (held_in hs))) hs is.in_turn is.numbered
    (omega (arith, many_again hs, is.few))

pub can_again : (address last : ℕ) (hs : List HeldMessage) → IsHolding address last hs
    → can_hold last (map kept_of (held_in hs)) ≡ true
can_again address last hs is =
    may_hold last (map kept_of (held_in hs)) (omega (arith, many_again hs, is.few)) (oldest_again hs ∙ is.oldest)
    (λ none. many_again hs ∙ begun_again last hs is.in_turn is.numbered none)
