-- Beginnings of bytes that a writer got.
use Rattle.std.proofs.Common.{◌≡◌, ℕ, List, [], ◌++◌, Option, Some, None, Bor, take, drop, length, get_or, flat_map}
use Rattle.std.proofs.Common.{◌<◌, refl, sym, ap, ◌∙◌, append_assoc, append-nil, take-append-drop, arith, zero, suc}
use Rattle.std.proofs.Common.{◌∷◌}
use Rattle.std.specs.Io.KnownBytes.{Keeps, Appends}
use Rattle.uecp_text.specs.Written.{Begins}

pub appends_nothing : (held : Option (List ℕ)) → Appends held held []
appends_nothing None = tt
appends_nothing (Some xs) = sym (append-nil xs)

pub appends_then : (a b c : Option (List ℕ)) (x y : List ℕ) → Appends a b x → Appends b c y → Appends a c (x ++ y)
appends_then None b c x y p q = tt
appends_then (Some xs) None c x y p q = absurd p
appends_then (Some xs) (Some ys) None x y p q = absurd q
appends_then (Some xs) (Some ys) (Some zs) x y p q = q ∙ ap (λ l. l ++ y) p ∙ append_assoc xs x y

pub keeps_appends : (a b c : Option (List ℕ)) (x : List ℕ) → Appends a b x → Keeps b c → Appends a c x
keeps_appends None b c x p q = tt
keeps_appends (Some xs) None c x p q = absurd p
keeps_appends (Some xs) (Some ys) None x p q = absurd q
keeps_appends (Some xs) (Some ys) (Some zs) x p q = q ∙ p

-- a writer that got all of them got a beginning
pub all_begun : (a b : Option (List ℕ)) (x : List ℕ) → Appends a b x → Begins a b x
all_begun a b x p = (x, [], sym (append-nil x), p)

-- a writer that got some, and then a beginning of the others
pub begun_on : (a b c : Option (List ℕ)) (x y whole : List ℕ) → whole ≡ x ++ y → Appends a b x → Begins b c y
    → Begins a c whole
begun_on a b c x y whole whole_is p (part, rest, y_is, q) =
    (x ++ part, rest, whole_is ∙ ap (λ l. x ++ l) y_is ∙ sym (append_assoc x part rest), appends_then a b c x part p q)

-- ---- bytes written from the front
pub more_written : (a b c : Option (List ℕ)) (whole part rest rest' : List ℕ) (count : ℕ) → whole ≡ part ++ rest
    → Appends a b part → Appends b c (take count rest) → rest' ≡ drop count rest →
    (part' : List ℕ) × (whole ≡ part' ++ rest') × Appends a c part'
more_written a b c whole part rest rest' count whole_is p q rest_is = (
  part ++ take count rest,
  whole_is ∙ ap (λ l. part ++ l) (sym (take-append-drop count rest))
      ∙ sym (append_assoc part (take count rest) (drop count rest))
      ∙ ap (λ l. (part ++ take count rest) ++ l) (sym rest_is),
  appends_then a b c part (take count rest) p q,
)

-- ---- parts written one after another
abbrev pub joined : List (Bor (List ℕ)) → List ℕ
joined parts = flat_map (λ part. part.now) parts

joined_at : (parts : List (Bor (List ℕ))) (i : ℕ) (d : Bor (List ℕ)) → i < length parts
    → joined parts ≡ joined (take i parts) ++ ((get_or parts i d).now ++ joined (drop (suc i) parts))
joined_at [] i d h = absurd (omega (arith, h))
joined_at (part ∷ parts) zero d h = refl
joined_at (part ∷ parts) (suc i) d h = ap (λ l. part.now ++ l) (joined_at parts i d (omega (arith, h)))
    ∙ sym (append_assoc part.now (joined (take i parts)) ((get_or parts i d).now ++ joined (drop (suc i) parts)))

-- a beginning of one of the parts, behind all of those before it
pub begun_at : (a b c : Option (List ℕ)) (parts : List (Bor (List ℕ))) (i : ℕ) (d : Bor (List ℕ)) → i < length parts
    → Appends a b (joined (take i parts)) → Begins b c (get_or parts i d).now → Begins a c (joined parts)
begun_at a b c parts i d h p (part, rest, is, q) =
    begun_on a b c (joined (take i parts)) ((get_or parts i d).now ++ joined (drop (suc i) parts)) (joined parts)
    (joined_at parts i d h) p (
      part,
      rest ++ joined (drop (suc i) parts),
      ap (λ l. l ++ joined (drop (suc i) parts)) is
          ∙ append_assoc part rest (joined (drop (suc i) parts)),
      q,
    )
