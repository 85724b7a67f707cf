-- Buffers of the caller's (profile).
use Rattle.std.specs.Prelude.{ℕ, nat_le, if◌then◌else◌, List, ◌++◌, length, drop}

-- A buffer into which bytes were to be put has them at its start and is as it was behind them; where it is too short
-- for them, all of it is as it was (profile).
abbrev pub filled : (bytes buffer : List ℕ) → List ℕ
filled bytes buffer =
    if nat_le (length bytes) (length buffer) then bytes ++ drop (length bytes) buffer else buffer
