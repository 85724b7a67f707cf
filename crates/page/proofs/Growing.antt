-- A text, or another list, to which the parts of some things are added, one after another.
use Rattle.std.proofs.Common.{◌≡◌, ℕ, ◌+◌, ◌<◌, ◌≤◌, List, [], ◌∷◌, ◌++◌, length, map, take, drop, get_or, refl, ◌∙◌}
use Rattle.std.proofs.Common.{ap, sym}
use Rattle.std.specs.Prelude.{flat_map}
use Rattle.std.proofs.lemmas.List.{append-nil, append_assoc, drop_all, drop_more, length-map, map-append, take_more}
use Rattle.page.proofs.Among.{parts}

-- what the rest adds, behind what was added, is what all add
pub grown : {X Y Z : Type 0} (f : X → Y) (g : Y → List Z) (k : ℕ) (xs : List X) (x : X) (t t' whole : List Z)
    → k < length xs → x ≡ get_or xs k x → t ++ flat_map g (drop k (map f xs)) ≡ whole → t' ≡ t ++ g (f x)
    → t' ++ flat_map g (drop (k + 1) (map f xs)) ≡ whole
grown f g k xs x t t' whole h is before added =
    let rest = flat_map g (drop (k + 1) (map f xs)) in
    ap (λ u. u ++ rest) added ∙ append_assoc t (g (f x)) rest
    ∙ sym (ap (λ ys. t ++ flat_map g ys) (parts f xs k x h is)) ∙ before

pub grown_all : {X Y Z : Type 0} (f : X → Y) (g : Y → List Z) (k : ℕ) (xs : List X) (t whole : List Z) → length xs ≤ k
    → t ++ flat_map g (drop k (map f xs)) ≡ whole → t ≡ whole
grown_all f g k xs t whole h before =
    let long : length (map f xs) ≤ k = rw length-map h in
    sym (append-nil t) ∙ sym (ap (λ ys. t ++ flat_map g ys) (drop_all k (map f xs) long)) ∙ before

-- what is made of one more, behind what is made of those before it
pub one_further : {X Y V : Type 0} (v : V → Y) (g : X → Y) (k : ℕ) (xs : List X) (x : X) (vs vs' : List V) (new : V)
    → k < length xs → x ≡ get_or xs k x → map v vs ≡ map g (take k xs) → vs' ≡ vs ++ new ∷ [] → v new ≡ g x
    → map v vs' ≡ map g (take (k + 1) xs)
one_further v g k xs x vs vs' new h is before added made =
    let more : take (k + 1) xs ≡ take k xs ++ x ∷ [] =
    take_more xs k x h ∙ ap (λ y. take k xs ++ y ∷ []) (sym is) in
    ap (map v) added ∙ map-append v vs (new ∷ []) ∙ ap (λ ys. ys ++ v new ∷ []) before
    ∙ ap (λ y. map g (take k xs) ++ y ∷ []) made
    ∙ sym (ap (map g) more ∙ map-append g (take k xs) (x ∷ []))

-- what is made of each in two steps
pub twice : {X Y Z : Type 0} (f : X → Y) (g : Y → Z) (xs : List X) → map (λ x. g (f x)) xs ≡ map g (map f xs)
twice f g [] = refl
twice f g (x ∷ xs) = ap (λ ys. g (f x) ∷ ys) (twice f g xs)

pub grown_by : (g : ℕ → List ℕ) (k : ℕ) (xs : List ℕ) (x : ℕ) (t t' whole : List ℕ) → k < length xs
    → get_or xs k 0 ≡ x → t ++ flat_map g (drop k xs) ≡ whole → t' ≡ t ++ g x
    → t' ++ flat_map g (drop (k + 1) xs) ≡ whole
grown_by g k xs x t t' whole h is before added =
    let rest = flat_map g (drop (k + 1) xs) in
    ap (λ u. u ++ rest) added ∙ append_assoc t (g x) rest
    ∙ sym (ap (λ ys. t ++ flat_map g ys) (drop_more xs k 0 h ∙ ap (λ y. y ∷ drop (k + 1) xs) is)) ∙ before

pub grown_by_all : (g : ℕ → List ℕ) (k : ℕ) (xs : List ℕ) (t whole : List ℕ) → length xs ≤ k
    → t ++ flat_map g (drop k xs) ≡ whole → t ≡ whole
grown_by_all g k xs t whole h before =
    sym (append-nil t) ∙ sym (ap (λ ys. t ++ flat_map g ys) (drop_all k xs h)) ∙ before
