-- What is heard of a group.
use Rattle.std.specs.Prelude.{ℕ, ◌≡◌, ◌⊎◌, true, false, Option, Some, None, IfSome}
use Rattle.rds_groups.specs.Groups.{blocks}
use Rattle.rds_groups.specs.Lines.{IsGroup}
use Rattle.rds_groups.specs.declared.group.Group.{Group}
use Rattle.rds_groups.specs.declared.heard.HeardGroup.{HeardGroup}
use Rattle.rds_groups.specs.Heard.{whole, came}
use Rattle.rds_groups.specs.Damage.{GroupDamage, IsGroupDamage, damaged}
use Rattle.rds_groups.specs.Shown.{Receiver, switched_on, is_another, hears, text_shown}

-- A group that comes as it went out comes whole.
abbrev pub ComesWhole : Type 0
ComesWhole = (g : Group) → IsGroup g → came (blocks g) ≡ whole g

-- A word came, or is missing.
abbrev pub IsRightOrMissing : (word : ℕ) → Option ℕ → Type 0
IsRightOrMissing word came = (came ≡ Some word) ⊎ (came ≡ None)

-- Each word of a group came, or is missing.
pub record IsPartOf (g : Group) (h : HeardGroup) : Type 0 where
  pub block1 : IsRightOrMissing g.block1 h.block1
  pub block2 : IsRightOrMissing g.block2 h.block2
  pub block3 : IsRightOrMissing g.block3 h.block3
  pub block4 : IsRightOrMissing g.block4 h.block4

-- Where in each block no bit is wrong, one, two, or some of ten in a row, each word comes as it is or is missing.
abbrev pub NoWordIsWrong : Type 0
NoWordIsWrong =
    (g : Group) (d : GroupDamage) → IsGroup g → IsGroupDamage d → IsPartOf g (came (damaged d (blocks g)))

-- ---- Another station.
-- A group of which nothing came.
abbrev pub nothing_came : HeardGroup
nothing_came = record { block1 = None; block2 = None; block3 = None; block4 = None }

-- Behind two groups of another station, one right behind the other, a receiver is what one is that was switched on and
-- heard just these two.
abbrev pub BeginsAnew : Type 0
BeginsAnew =
    (pi : ℕ) (one other : HeardGroup) (r : Receiver) → one.block1 ≡ Some pi → other.block1 ≡ Some pi
    → is_another r.pi (Some pi) ≡ true → IfSome r.held (λ g. is_another g.block1 (Some pi) ≡ true)
    → hears other (hears one r) ≡ hears other (hears one switched_on)

-- The same is shown.
pub record ShowsTheSame (r q : Receiver) : Type 0 where
  pub pi : q.pi ≡ r.pi
  pub tp : q.tp ≡ r.tp
  pub pty : q.pty ≡ r.pty
  pub ta : q.ta ≡ r.ta
  pub music : q.music ≡ r.music
  pub name : q.name ≡ r.name
  pub text : text_shown q ≡ text_shown r

-- One alone changes nothing that is shown; and behind the next group of its own station a receiver is as if nothing had
-- come in its time.
pub record OneChangesNothing : Type 0 where
  pub shown : (g : HeardGroup) (r : Receiver) → is_another r.pi g.block1 ≡ true → r.held ≡ None
      → ShowsTheSame r (hears g r)
  pub dropped : (g own : HeardGroup) (r : Receiver) → is_another r.pi g.block1 ≡ true → r.held ≡ None
      → is_another r.pi own.block1 ≡ false → hears own (hears g r) ≡ hears own (hears nothing_came r)
