-- What comes wrong of a group on its way.
use Rattle.std.specs.Prelude.{ℕ, ◌+◌, ◌*◌, ◌^◌, ◌<◌, ◌≤◌, List, [], ◌∷◌, bit_xor, slice_index, ⊤}

-- What comes wrong of a block: no bit, one, two, or some of ten in a row.
pub data Damage : Type 0 where
  NoBit : Damage
  OneBit : (i : ℕ) → Damage
  TwoBits : (i j : ℕ) → Damage
  Burst : (burst i : ℕ) → Damage

-- Damage within the 26 bits of a block: a bit below 26; two, in order; a burst within ten bits in a row.
abbrev pub IsDamage : Damage → Type 0
IsDamage NoBit = ⊤
IsDamage (OneBit i) = i < 26
IsDamage (TwoBits i j) = (i < j) × (j < 26)
IsDamage (Burst burst i) = (0 < burst) × (burst < 2 ^ 10) × (i + 10 ≤ 26)

-- The bits that are wrong.
abbrev pub wrong : Damage → ℕ
wrong NoBit = 0
wrong (OneBit i) = 2 ^ i
wrong (TwoBits i j) = 2 ^ i + 2 ^ j
wrong (Burst burst i) = burst * 2 ^ i

-- What comes wrong of a group.
pub record GroupDamage : Type 0 where
  pub block1 : Damage
  pub block2 : Damage
  pub block3 : Damage
  pub block4 : Damage

-- So it is of each block.
pub record IsGroupDamage (d : GroupDamage) : Type 0 where
  pub block1 : IsDamage d.block1
  pub block2 : IsDamage d.block2
  pub block3 : IsDamage d.block3
  pub block4 : IsDamage d.block4

-- The four blocks as they come.
abbrev pub damaged : GroupDamage → (blocks : List ℕ) → List ℕ
damaged d blocks =
    bit_xor (slice_index blocks 0) (wrong d.block1) ∷ bit_xor (slice_index blocks 1) (wrong d.block2)
    ∷ bit_xor (slice_index blocks 2) (wrong d.block3) ∷ bit_xor (slice_index blocks 3) (wrong d.block4) ∷ []
