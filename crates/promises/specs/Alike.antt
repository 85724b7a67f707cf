-- What two stores have of what was told to both; a reader has to believe it. Source: profile.
use Rattle.std.specs.Prelude.{◌≡◌, ◌⊎◌, ℕ, List, ◌++◌, Option, Some, None}
use Rattle.std.specs.FinMap.{get}
use Rattle.rds_store.specs.Value.{ServiceData, Store}

-- Of two values, which were a and b, both are now the same, or each is what it was.
abbrev pub SaidOrKept : {A : Type 0} → (a b a' b' : A) → Type 0
SaidOrKept a b a' b' = (a' ≡ b') ⊎ ((a' ≡ a) × (b' ≡ b))

-- Of two lists both are now the same, or each is what it was, with the same behind it.
abbrev pub SaidOrAdded : {A : Type 0} → (a b a' b' : List A) → Type 0
SaidOrAdded {A} a b a' b' = (a' ≡ b') ⊎ ((added : List A) × (a' ≡ a ++ added) × (b' ≡ b ++ added))

-- So it is with each value that a service has in a set, and with its texts. (SPB 490, elements 01, 02, 03, 05, 07 and
-- 0A)
pub record ServicesAgree (a b a' b' : ServiceData) : Type 0 where
  pub pi : SaidOrKept a.pi b.pi a'.pi b'.pi
  pub ps : SaidOrKept a.ps b.ps a'.ps b'.ps
  pub tp : SaidOrKept a.tp b.tp a'.tp b'.tp
  pub ta : SaidOrKept a.ta b.ta a'.ta b'.ta
  pub music : SaidOrKept a.music b.music a'.music b'.music
  pub pty : SaidOrKept a.pty b.pty a'.pty b'.pty
  pub texts : SaidOrAdded a.texts b.texts a'.texts b'.texts

-- So it is at a place, where both stores have a service there; or neither has one, before and after.
abbrev pub PlacesAgree : (a b a' b' : Option ServiceData) → Type 0
PlacesAgree (Some a) (Some b) (Some a') (Some b') = ServicesAgree a b a' b'
PlacesAgree None None None None = Unit {0}
PlacesAgree _ _ _ _ = ⊥

-- Two stores, which were v and w, have the same current set, and at each place what both were told they have the same,
-- and what neither was told each has as it was.
pub record AgreeAsTold (v w v' w' : Store) : Type 0 where
  pub current : v'.current ≡ w'.current
  pub places : (place : ℕ × ℕ) → PlacesAgree (get v.places place) (get w.places place) (get v'.places place)
      (get w'.places place)

-- Two stores are the same but for the groups that wait.
abbrev pub AreSameButGroups : Store → Store → Type 0
AreSameButGroups v w = v ≡ record w { groups = v.groups }
