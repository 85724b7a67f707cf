-- Whether a control line has a place among those that are kept.
use Rattle.std.proofs.Common.{◌≡◌, ℕ, ◌+◌, ◌-◌, ◌<◌, ◌≤◌, ◌==◌, true, false, not, ◌||◌, List, length, map}
use Rattle.std.proofs.Common.{drop, get_or, ◌∙◌, ap, arith}
use Rattle.std.proofs.lemmas.List.{length-map, drop_all}
use Rattle.page.specs.ControlLine.{Line, is_named}
use Rattle.page.specs.State.{State, has_place}
use Rattle.page.proofs.Among.{parts}

pub place_here : {X : Type 0} (f : X → Line) (name : List ℕ) (k : ℕ) (xs : List X) (x : X) → k < length xs
    → x ≡ get_or xs k x → is_named name (f x) ≡ true → has_place (128 - k) name (drop k (map f xs)) ≡ true
place_here f name k xs x h is found =
    ap (has_place (128 - k) name) (parts f xs k x h is)
    ∙ ap (λ b. b || has_place ((128 - k) - 1) name (drop (k + 1) (map f xs))) found

pub place_behind : {X : Type 0} (f : X → Line) (name : List ℕ) (k : ℕ) (xs : List X) (x : X) → k < length xs
    → x ≡ get_or xs k x → is_named name (f x) ≡ false
    → has_place (128 - k) name (drop k (map f xs)) ≡ has_place (128 - (k + 1)) name (drop (k + 1) (map f xs))
place_behind f name k xs x h is other =
    let room : (128 - k) - 1 ≡ 128 - (k + 1) = omega arith in
    ap (has_place (128 - k) name) (parts f xs k x h is)
    ∙ ap (λ b. b || has_place ((128 - k) - 1) name (drop (k + 1) (map f xs))) other
    ∙ ap (λ r. has_place r name (drop (k + 1) (map f xs))) room

at_end : {X : Type 0} (f : X → Line) (name : List ℕ) (k : ℕ) (xs : List X) → k ≡ length xs
    → has_place (128 - k) name (drop k (map f xs)) ≡ not (128 - k == 0)
at_end f name k xs h =
    let long : length (map f xs) ≤ k = rw length-map (omega (arith, h)) in
    ap (has_place (128 - k) name) (drop_all k (map f xs) long)

pub place_left : {X : Type 0} (f : X → Line) (name : List ℕ) (k : ℕ) (xs : List X) → k ≡ length xs → k < 128
    → has_place (128 - k) name (drop k (map f xs)) ≡ true
place_left f name k xs h room =
    let test : (128 - k == 0) ≡ false = grind (arith, room) in
    at_end f name k xs h ∙ ap not test

pub no_place_left : {X : Type 0} (f : X → Line) (name : List ℕ) (k : ℕ) (xs : List X) → k ≡ length xs → 128 ≤ k
    → has_place (128 - k) name (drop k (map f xs)) ≡ false
no_place_left f name k xs h full =
    let test : (128 - k == 0) ≡ true = grind (arith, full) in
    at_end f name k xs h ∙ ap not test

-- two states that have the same are one
pub state_same : (a b : State) → a.lines ≡ b.lines → a.others ≡ b.others → a.messages ≡ b.messages
    → a.further ≡ b.further → a ≡ b
state_same a b lines others messages further =
    ap (λ x. record { lines = x; others = a.others; further = a.further; messages = a.messages }) lines
    ∙ ap (λ x. record { lines = b.lines; others = x; further = a.further; messages = a.messages }) others
    ∙ ap (λ x. record { lines = b.lines; others = b.others; further = a.further; messages = x }) messages
    ∙ ap (λ x. record { lines = b.lines; others = b.others; further = x; messages = b.messages }) further
