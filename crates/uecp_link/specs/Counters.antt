-- Counters of numbered messages, and how late one may come; a reader has to believe it. Source: RDS Forum SPB 490,
-- sequence counter, for the range; profile for the rest.
use Rattle.std.specs.Prelude.{ℕ, ◌+◌, ◌%◌, nat_le, Bool}

-- The counter of a message's number, which counts from 0: 01 to FF in turn, and then 01 again. 00 is none.
abbrev pub counter_of : ℕ → ℕ
counter_of k = 1 + k % 255

-- The counter after this one, and after none (0) the first: as number c comes after c messages.
abbrev pub next_counter : ℕ → ℕ
next_counter c = counter_of c

-- Of n messages, at most 126 were numbered after number k: one fewer than the replies that an encoder keeps.
abbrev pub is_recent : ℕ → ℕ → Bool
is_recent n k = nat_le n (k + 127)
