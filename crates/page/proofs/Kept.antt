-- Of rows that come one behind another the last 1,000 are kept.
use Rattle.std.proofs.Common.{◌≡◌, ℕ, ◌+◌, ◌-◌, ◌<◌, ◌≤◌, List, [], ◌∷◌, ◌++◌, length, map, drop, get_or, ◌∙◌, ap}
use Rattle.std.proofs.Common.{sym, arith}
use Rattle.std.specs.Prelude.{flat_map}
use Rattle.std.proofs.lemmas.List.{append-nil, append_assoc, drop-drop, drop-append-le, drop-map, drop_all}
use Rattle.std.proofs.lemmas.List.{length-append, length-drop, length-map, map-append}
use Rattle.page.specs.Changes.{Change, last_1000}
use Rattle.page.proofs.Among.{parts}

pub kept_few : (cs : List Change) → length cs ≤ 1000 → last_1000 cs ≡ cs
kept_few cs h =
    let none : length cs - 1000 ≡ 0 = omega (arith, h) in
    ap (λ n. drop n cs) none

pub kept_length : (cs : List Change) → length (last_1000 cs) ≤ 1000
kept_length cs =
    let long : length (last_1000 cs) ≡ length cs - (length cs - 1000) = length-drop (length cs - 1000) cs in
    omega (arith, long)

pub kept_more : (xs ys : List Change) → last_1000 (last_1000 xs ++ ys) ≡ last_1000 (xs ++ ys)
kept_more xs ys =
    let gone = length xs - 1000 in
    let within : gone ≤ length xs = omega arith in
    let whole : last_1000 xs ++ ys ≡ drop gone (xs ++ ys) = sym (drop-append-le gone xs ys within) in
    let long : length (last_1000 xs ++ ys) ≡ (length xs - gone) + length ys =
    length-append (last_1000 xs) ys ∙ ap (λ n. n + length ys) (length-drop gone xs) in
    let all : length (xs ++ ys) ≡ length xs + length ys = length-append xs ys in
    let more = length (last_1000 xs ++ ys) - 1000 in
    let same : gone + more ≡ length (xs ++ ys) - 1000 = omega (arith, long, all) in
    ap (drop more) whole ∙ drop-drop more gone (xs ++ ys) ∙ ap (λ n. drop n (xs ++ ys)) same

-- none more changes nothing
pub none_more : (cs : List Change) → length cs ≤ 1000 → cs ≡ last_1000 (cs ++ [])
none_more cs h = sym (ap last_1000 (append-nil cs) ∙ kept_few cs h)

-- some, and then others
pub in_turn : (cs cs' cs'' xs ys : List Change) → cs' ≡ last_1000 (cs ++ xs) → cs'' ≡ last_1000 (cs' ++ ys)
    → cs'' ≡ last_1000 (cs ++ (xs ++ ys))
in_turn cs cs' cs'' xs ys h h' =
    h' ∙ ap (λ c. last_1000 (c ++ ys)) h ∙ kept_more (cs ++ xs) ys ∙ ap last_1000 (append_assoc cs xs ys)

-- one more: behind 1,000 the first goes for it
pub one_few : {X : Type 0} (f : X → Change) (xs ys : List X) (x : X) → length xs < 1000 → ys ≡ xs ++ x ∷ []
    → map f ys ≡ last_1000 (map f xs ++ f x ∷ [])
one_few f xs ys x h is =
    let long : length (map f xs ++ f x ∷ []) ≤ 1000 = rw (length-append (map f xs) (f x ∷ []), length-map xs f) omega
    (arith, h) in
    ap (map f) is ∙ map-append f xs (x ∷ []) ∙ sym (kept_few (map f xs ++ f x ∷ []) long)

pub one_full : {X : Type 0} (f : X → Change) (xs ys : List X) (x : X) → length xs ≡ 1000 → ys ≡ drop 1 xs ++ x ∷ []
    → map f ys ≡ last_1000 (map f xs ++ f x ∷ [])
one_full f xs ys x h is =
    let many : length (map f xs) ≡ 1000 = length-map xs f ∙ h in
    let within : 1 ≤ length (map f xs) = omega (arith, many) in
    let one : length (map f xs ++ f x ∷ []) - 1000 ≡ 1 =
    ap (λ n. n - 1000) (length-append (map f xs) (f x ∷ [])) ∙ omega (arith, many) in
    ap (map f) is ∙ map-append f (drop 1 xs) (x ∷ []) ∙ ap (λ c. c ++ f x ∷ []) (sym (drop-map f 1 xs))
    ∙ sym (drop-append-le 1 (map f xs) (f x ∷ []) within)
    ∙ sym (ap (λ n. drop n (map f xs ++ f x ∷ [])) one)

-- the rows of each of some things
pub each_more : {X Y : Type 0} (f : X → Y) (g : Y → List Change) (k : ℕ) (xs : List X) (x : X)
    (cs cs' whole : List Change)
    → k < length xs → x ≡ get_or xs k x → last_1000 (cs ++ flat_map g (drop k (map f xs))) ≡ whole
    → cs' ≡ last_1000 (cs ++ g (f x)) → last_1000 (cs' ++ flat_map g (drop (k + 1) (map f xs))) ≡ whole
each_more f g k xs x cs cs' whole h is before one =
    let rest = flat_map g (drop (k + 1) (map f xs)) in
    ap (λ c. last_1000 (c ++ rest)) one ∙ kept_more (cs ++ g (f x)) rest
    ∙ ap last_1000 (append_assoc cs (g (f x)) rest)
    ∙ sym (ap (λ ys. last_1000 (cs ++ flat_map g ys)) (parts f xs k x h is)) ∙ before

pub each_done : {X Y : Type 0} (f : X → Y) (g : Y → List Change) (k : ℕ) (xs : List X) (cs whole : List Change)
    → length xs ≤ k → length cs ≤ 1000 → last_1000 (cs ++ flat_map g (drop k (map f xs))) ≡ whole → cs ≡ whole
each_done f g k xs cs whole h few before =
    let long : length (map f xs) ≤ k = rw length-map h in
    none_more cs few ∙ sym (ap (λ ys. last_1000 (cs ++ flat_map g ys)) (drop_all k (map f xs) long)) ∙ before
