-- What a server's fields keep where a message is marked and marked ones are let go, and the frames that they lend.
use Rattle.std.proofs.Common.{◌≡◌, ℕ, zero, suc, ◌≤◌, Bool, true, false, cond, List, [], ◌∷◌, length, map, Option, Some}
use Rattle.std.proofs.Common.{None, IsNone, Bor, refl, ap, ◌∙◌, arith, inl, inr}
use Rattle.std.specs.Prelude.{slice_get}
use Rattle.std.specs.Option.{option_copied, option_map_or}
use Rattle.std.proofs.lemmas.Bool.{cases_lt}
use Rattle.std.proofs.lemmas.Option.{slice_get_past, slice_get-get_or}
use Rattle.std.proofs.lemmas.List.{length-map}
use Rattle.uecp_frame.specs.Frame.{spelling}
use Rattle.uecp_link.specs.Frames.{frame_under}
use Rattle.uecp_link.specs.Server.{ServerState, waiting_among, waiting, frames_waiting, is_marked, marked_at, freed_of}
use Rattle.uecp_link.specs.declared.held_message.HeldMessage.{HeldMessage}
use Rattle.uecp_link.specs.HeldMessages.{held_as, held_in, frames_among, with_mark, left_of, AreSpelled, AreInTurn}
use Rattle.uecp_link.specs.HeldMessages.{AreNumbered, IsHolding}

-- the frames that are lent are the spellings of the messages that wait
pub frames_are : (address : ℕ) (hs : List HeldMessage) → AreSpelled address hs
    → frames_among hs ≡ map (λ w. spelling (frame_under address w)) (waiting_among (held_in hs))
frames_are address [] s = refl
frames_are address (h ∷ hs) s = go h.marked (frames_are address hs s.1)
  where
    go : (b : Bool) → frames_among hs ≡ map (λ w. spelling (frame_under address w)) (waiting_among (held_in hs))
        → cond b (frames_among hs) (h.frame.items ∷ frames_among hs)
        ≡ map (λ w. spelling (frame_under address w)) (cond b (waiting_among (held_in hs))
        ((h.counter, h.message) ∷ waiting_among (held_in hs)))
    go true rest = rest
    go false rest = ap (λ x. x ∷ frames_among hs) s.0
        ∙ ap (λ fs. spelling (frame_under address (h.counter, h.message)) ∷ fs) rest

-- none is lent from as many on as wait
pub none_past : (s : ServerState) (place : ℕ) (lent : Option (Bor (List ℕ)))
    → option_copied lent ≡ slice_get (frames_waiting s) place
    → (IsNone lent → length (waiting s) ≤ place) × (length (waiting s) ≤ place → IsNone lent)
none_past s place lent is = (λ none. from lent none is, λ past. to past lent is)
  where
    many : length (frames_waiting s) ≡ length (waiting s)
    many = length-map (waiting s) (λ w. spelling (frame_under s.address w))

    from : (lent : Option (Bor (List ℕ))) → IsNone lent → option_copied lent ≡ slice_get (frames_waiting s) place
        → length (waiting s) ≤ place
    from None none is =
        elim (cases_lt place (length (waiting s))) [
          | inl l ↦ let some = slice_get-get_or (frames_waiting s) place [] (omega (arith, many, l)) in
              absurd (cc (is, some))
          | inr g ↦ g
        ]
    from (Some f) none is = absurd (cc)

    to : length (waiting s) ≤ place → (lent : Option (Bor (List ℕ)))
        → option_copied lent ≡ slice_get (frames_waiting s) place → IsNone lent
    to past None is = refl
    to past (Some f) is = let nothing = slice_get_past (frames_waiting s) place (omega (arith, many, past)) in
        absurd (cc (is, nothing))

-- a mark is seen as a mark
pub marked_in : (counter : ℕ) (hs : List HeldMessage)
    → held_in (map (with_mark counter) hs) ≡ marked_at counter (held_in hs)
marked_in counter [] = refl
marked_in counter (h ∷ hs) = ap (λ ks. held_as (with_mark counter h) ∷ ks) (marked_in counter hs)

-- what is left is seen as what is left
pub left_in : (hs : List HeldMessage) → held_in (left_of hs) ≡ freed_of (held_in hs)
left_in [] = refl
left_in (h ∷ hs) = go h.marked (left_in hs)
  where
    go : (b : Bool) → held_in (left_of hs) ≡ freed_of (held_in hs)
        → held_in (cond b (left_of hs) (h ∷ hs)) ≡ cond b (freed_of (held_in hs)) (held_as h ∷ held_in hs)
    go true rest = rest
    go false rest = refl

-- ---- marking
spelled-marked : (address counter : ℕ) (hs : List HeldMessage) → AreSpelled address hs
    → AreSpelled address (map (with_mark counter) hs)
spelled-marked address counter [] s = tt
spelled-marked address counter (h ∷ hs) s = (s.0, spelled-marked address counter hs s.1)

in_turn-marked : (last counter : ℕ) (hs : List HeldMessage) → AreInTurn last hs
    → AreInTurn last (map (with_mark counter) hs)
in_turn-marked last counter [] t = tt
in_turn-marked last counter (h ∷ []) t = t
in_turn-marked last counter (h ∷ g ∷ hs) t = (t.0, in_turn-marked last counter (g ∷ hs) t.1)

numbered-marked : (counter : ℕ) (hs : List HeldMessage) → AreNumbered hs → AreNumbered (map (with_mark counter) hs)
numbered-marked counter [] n = tt
numbered-marked counter (h ∷ hs) n = (n.0, numbered-marked counter hs n.1)

-- ---- letting go
in_turn-rest : (last : ℕ) (h : HeldMessage) (hs : List HeldMessage) → AreInTurn last (h ∷ hs) → AreInTurn last hs
in_turn-rest last h [] t = tt
in_turn-rest last h (g ∷ hs) t = t.1

left_holds : (address last : ℕ) (hs : List HeldMessage) → length hs ≤ 8 → AreSpelled address hs → AreInTurn last hs
    → AreNumbered hs → IsHolding address last (left_of hs)
left_holds address last [] few s t n = record {
  few = omega arith;
  spelled = tt;
  in_turn = tt;
  oldest = refl;
  numbered = tt;
}
left_holds address last (h ∷ hs) few s t n = go h.marked refl
    (left_holds address last hs (omega arith) s.1 (in_turn-rest last h hs t) n.1)
  where
    go : (b : Bool) → h.marked ≡ b → IsHolding address last (left_of hs)
        → IsHolding address last (cond b (left_of hs) (h ∷ hs))
    go true is rest = rest
    go false is rest = record { few = few; spelled = s; in_turn = t; oldest = is; numbered = n }

-- a message is marked, and what may be let go is
pub still_holds : (address last counter : ℕ) (hs : List HeldMessage) → IsHolding address last hs
    → IsHolding address last (left_of (map (with_mark counter) hs))
still_holds address last counter hs is =
    left_holds address last (map (with_mark counter) hs) (omega (arith, length-map hs (with_mark counter), is.few))
    (spelled-marked address counter hs is.spelled) (in_turn-marked last counter hs is.in_turn)
    (numbered-marked counter hs is.numbered)

-- the mark at a place
pub mark_at : (hs : List HeldMessage) (place : ℕ)
    → is_marked (held_in hs) place ≡ option_map_or (λ (h : HeldMessage). h.marked) (slice_get hs place) false
mark_at [] place = refl
mark_at (h ∷ hs) zero = refl
mark_at (h ∷ hs) (suc place) = mark_at hs place
