-- The first of these that is the one that is told of.
use Rattle.std.proofs.Common.{◌≡◌, ℕ, zero, suc, ◌+◌, ◌-◌, ◌<◌, ◌≤◌, ◌==◌, ◌||◌, Bool, true, false, cond, List, [], ◌∷◌}
use Rattle.std.specs.List.{list_any}
use Rattle.std.proofs.Common.{◌++◌, length, take, drop, map, get_or, refl, ◌∙◌, ap, sym, subst, arith}
use Rattle.std.proofs.Math.ListN.{set}
use Rattle.std.proofs.lemmas.List.{append-nil, append_assoc, get_or_read, length-map, map-set, map-append, set_split}
use Rattle.std.proofs.lemmas.List.{take_more, drop_more, drop_all, take_all}
use Rattle.page.specs.Shown.{told_among}

-- a test of what is seen of each
pub any_map : {X Y : Type 0} (f : X → Y) (p : Y → Bool) (xs : List X)
    → list_any (λ x. p (f x)) xs ≡ list_any p (map f xs)
any_map f p [] = refl
any_map f p (x ∷ xs) = ap (λ b. p (f x) || b) (any_map f p xs)

-- what is read twice is the same
pub same_read : {X : Type 0} (xs : List X) (k : ℕ) (x y : X) → k < length xs → x ≡ get_or xs k x → y ≡ get_or xs k y
    → x ≡ y
same_read xs k x y h is also = get_or_read xs k x h is y ∙ sym also

at_map : {X Y : Type 0} (f : X → Y) (xs : List X) (k : ℕ) (x : X) → k < length xs → x ≡ get_or xs k x
    → (y : Y) → get_or (map f xs) k y ≡ f x
at_map f [] k x h is y = absurd (omega (arith, h))
at_map f (z ∷ zs) zero x h is y = ap f (sym is)
at_map f (z ∷ zs) (suc k) x h is y = at_map f zs k x (omega (arith, h)) is y

pub parts : {X Y : Type 0} (f : X → Y) (xs : List X) (k : ℕ) (x : X) → k < length xs → x ≡ get_or xs k x
    → drop k (map f xs) ≡ f x ∷ drop (k + 1) (map f xs)
parts f xs k x h is =
    let long : k < length (map f xs) = rw length-map h in
    drop_more (map f xs) k (f x) long ∙ ap (λ s. s ∷ drop (k + 1) (map f xs)) (at_map f xs k x h is (f x))

-- so far none was, and the rest has the others
pub after_some : {X Y : Type 0} → (X → Y) → (Y → Bool) → (Y → Y) → Y → ℕ → List X → List Y
after_some f is_it tell new k xs = take k (map f xs) ++ told_among (128 - k) is_it tell new (drop k (map f xs))

pub none_yet : {X Y : Type 0} (f : X → Y) (is_it : Y → Bool) (tell : Y → Y) (new : Y) (xs : List X)
    → told_among 128 is_it tell new (map f xs) ≡ after_some f is_it tell new 0 xs
unfolding after_some
none_yet f is_it tell new xs = refl

pub not_this : {X Y : Type 0} (f : X → Y) (is_it : Y → Bool) (tell : Y → Y) (new : Y) (k : ℕ) (xs : List X) (x : X)
    → k < length xs → x ≡ get_or xs k x → is_it (f x) ≡ false
    → after_some f is_it tell new k xs ≡ after_some f is_it tell new (k + 1) xs
unfolding after_some
not_this f is_it tell new k xs x h is other =
    let long : k < length (map f xs) = rw length-map h in
    let room : (128 - k) - 1 ≡ 128 - (k + 1) = omega arith in
    let rest = drop (k + 1) (map f xs) in
    let more : take (k + 1) (map f xs) ≡ take k (map f xs) ++ f x ∷ [] =
    take_more (map f xs) k (f x) long ∙ ap (λ s. take k (map f xs) ++ s ∷ []) (at_map f xs k x h is (f x)) in
    ap (λ ss. take k (map f xs) ++ told_among (128 - k) is_it tell new ss) (parts f xs k x h is)
    ∙ ap (λ t. take k (map f xs) ++ cond t (tell (f x) ∷ rest) (f x ∷ told_among ((128 - k) - 1) is_it tell new rest))
    other
    ∙ ap (λ r. take k (map f xs) ++ f x ∷ told_among r is_it tell new rest) room
    ∙ sym (append_assoc (take k (map f xs)) (f x ∷ []) (told_among (128 - (k + 1)) is_it tell new rest))
    ∙ ap (λ t. t ++ told_among (128 - (k + 1)) is_it tell new rest) (sym more)

pub this : {X Y : Type 0} (f : X → Y) (is_it : Y → Bool) (tell : Y → Y) (new : Y) (k : ℕ) (xs ys : List X) (x y : X)
    → k < length xs → x ≡ get_or xs k x → is_it (f x) ≡ true → f y ≡ tell (f x) → ys ≡ set xs k y
    → map f ys ≡ after_some f is_it tell new k xs
unfolding after_some
this f is_it tell new k xs ys x y h is found told now =
    let long : k < length (map f xs) = rw length-map h in
    let rest = drop (k + 1) (map f xs) in
    let next : suc k ≡ k + 1 = omega arith in
    ap (map f) now ∙ map-set f xs k y ∙ ap (set (map f xs) k) told ∙ set_split (map f xs) k (tell (f x)) long
    ∙ ap (λ n. take k (map f xs) ++ tell (f x) ∷ drop n (map f xs)) next
    ∙ sym (ap (λ ss. take k (map f xs) ++ told_among (128 - k) is_it tell new ss) (parts f xs k x h is)
    ∙ ap (λ t. take k (map f xs) ++ cond t (tell (f x) ∷ rest) (f x ∷ told_among ((128 - k) - 1) is_it tell new rest))
    found)

none_at_all : {X Y : Type 0} (f : X → Y) (is_it : Y → Bool) (tell : Y → Y) (new : Y) (k : ℕ) (xs : List X)
    → length xs ≤ k
    → after_some f is_it tell new k xs ≡ map f xs ++ cond (128 - k == 0) [] (tell new ∷ [])
unfolding after_some
none_at_all f is_it tell new k xs h =
    let long : length (map f xs) ≤ k = rw length-map h in
    ap (λ ss. ss ++ told_among (128 - k) is_it tell new (drop k (map f xs))) (take_all k (map f xs) long)
    ∙ ap (λ ss. map f xs ++ told_among (128 - k) is_it tell new ss) (drop_all k (map f xs) long)

-- a new one comes last, where there is room
pub comes_last : {X Y : Type 0} (f : X → Y) (is_it : Y → Bool) (tell : Y → Y) (new : Y) (k : ℕ) (xs : List X)
    → k ≡ length xs → k < 128 → map f xs ++ tell new ∷ [] ≡ after_some f is_it tell new k xs
comes_last f is_it tell new k xs h room =
    let long : length xs ≤ k = omega (arith, h) in
    let test : (128 - k == 0) ≡ false = grind (arith, room) in
    sym (none_at_all f is_it tell new k xs long ∙ ap (λ t. map f xs ++ cond t [] (tell new ∷ [])) test)

pub one_more : {X Y : Type 0} (f : X → Y) (is_it : Y → Bool) (tell : Y → Y) (new : Y) (k : ℕ) (xs ys : List X) (y : X)
    → k ≡ length xs → k < 128 → f y ≡ tell new → ys ≡ xs ++ y ∷ [] → map f ys ≡ after_some f is_it tell new k xs
one_more f is_it tell new k xs ys y h room told now =
    ap (map f) now ∙ map-append f xs (y ∷ []) ∙ ap (λ s. map f xs ++ s ∷ []) told
    ∙ comes_last f is_it tell new k xs h room

pub no_room : {X Y : Type 0} (f : X → Y) (is_it : Y → Bool) (tell : Y → Y) (new : Y) (k : ℕ) (xs : List X)
    → k ≡ length xs → 128 ≤ k → map f xs ≡ after_some f is_it tell new k xs
no_room f is_it tell new k xs h full =
    let long : length xs ≤ k = omega (arith, h) in
    let test : (128 - k == 0) ≡ true = grind (arith, full) in
    sym (none_at_all f is_it tell new k xs long ∙ ap (λ t. map f xs ++ cond t [] (tell new ∷ [])) test
    ∙ append-nil (map f xs))

-- of each of the first so many what is made of it
pub each : {Y : Type 0} → (Y → Y) → ℕ → List Y → List Y
each g zero ys = ys
each g (suc k) [] = []
each g (suc k) (y ∷ ys) = g y ∷ each g k ys

pub each_more : {X Y : Type 0} (f : X → Y) (g : Y → Y) (k : ℕ) (ys : List Y) (xs : List X) (x x' : X)
    → map f xs ≡ each g k ys → k < length xs → x ≡ get_or xs k x → f x' ≡ g (f x)
    → map f (set xs k x') ≡ each g (suc k) ys
unfolding each
each_more f g zero ys [] x x' so h is told = absurd (omega (arith, h))
each_more {X} {Y} f g zero ys (z ∷ xs) x x' so h is told =
    let P : List Y → Type 0 = λ l. f x' ∷ map f xs ≡ each g 1 l in
    subst P so (ap (λ y. y ∷ map f xs) (told ∙ ap (λ w. g (f w)) is))
each_more f g (suc k) ys [] x x' so h is told = absurd (omega (arith, h))
each_more f g (suc k) [] (z ∷ xs) x x' so h is told = absurd (cc so)
each_more f g (suc k) (y ∷ ys) (z ∷ xs) x x' so h is told =
    let less : k < length xs = omega (arith, h) in
    ap (λ l. get_or l 0 (f z) ∷ map f (set xs k x')) so
    ∙ ap (λ l. g y ∷ l) (each_more f g k ys xs x x' (ap (drop 1) so) less is told)

pub each_all : {Y : Type 0} (g : Y → Y) (k : ℕ) (ys : List Y) → length ys ≤ k → each g k ys ≡ map g ys
unfolding each
each_all g zero [] h = refl
each_all g zero (y ∷ ys) h = absurd (omega (arith, h))
each_all g (suc k) [] h = refl
each_all g (suc k) (y ∷ ys) h =
    let less : length ys ≤ k = omega (arith, h) in
    ap (λ l. g y ∷ l) (each_all g k ys less)

pub each_none : {Y : Type 0} (g : Y → Y) (ys : List Y) → ys ≡ each g 0 ys
unfolding each
each_none g ys = refl
