-- The room of a line for one message more.
use Rattle.std.proofs.Common.{◌≡◌, ℕ, suc, ◌+◌, ◌<◌, ◌≤◌, sym, ap, subst, ◌∙◌, cond, arith}
use Rattle.std.proofs.lemmas.Bool.{eq-eqb, ne_eqb}
use Rattle.uecp_link.specs.Whole.{room_for}

-- the room is full
pub room_when_full : (n room : ℕ) → room ≡ room_for n → room ≤ n → n ≤ room → room_for (n + 1) ≡ n + (n + 8)
room_when_full n room is few many =
    let full : room_for n ≡ n = omega (arith, is, few, many) in
    let next : suc n ≡ n + 1 = omega arith in
    subst (λ m. room_for m ≡ n + (n + 8)) next
    (ap (λ b. cond b (n + n + 8) (room_for n)) (eq-eqb (room_for n) n full) ∙ omega arith)

-- some of it is left
pub room_when_left : (n room : ℕ) → room ≡ room_for n → n < room → room_for (n + 1) ≡ room
room_when_left n room is left =
    let next : suc n ≡ n + 1 = omega arith in
    subst (λ m. room_for m ≡ room) next
    (ap (λ b. cond b (n + n + 8) (room_for n)) (ne_eqb (room_for n) n (λ e. omega (arith, is, left, e))) ∙ sym is)
