-- Addresses: a number of 16 bits, the site times 64 plus the encoder (SPB 490, addressing).
use Rattle.std.specs.Prelude.{ℕ, ◌/◌, ◌%◌, ◌==◌, Bool, not, ◌&&◌, ◌||◌}

-- The site is the upper 10 bits (SPB 490, addressing).
abbrev pub site_of : ℕ → ℕ
site_of address = address / 64

-- The encoder at the site is the lower 6 bits (SPB 490, addressing).
abbrev pub encoder_of : ℕ → ℕ
encoder_of address = address % 64

-- An address is exact where neither part is 0, since 0 stands for all of them (SPB 490, addressing).
abbrev pub is_exact : ℕ → Bool
is_exact address = not (site_of address == 0) && not (encoder_of address == 0)

-- A frame to the one address is for the encoder of the other where each part is 0 or that encoder's own (SPB 490,
-- addressing).
abbrev pub reaches : (to own : ℕ) → Bool
reaches to own = (site_of to == 0 || site_of to == site_of own)
    && (encoder_of to == 0 || encoder_of to == encoder_of own)
