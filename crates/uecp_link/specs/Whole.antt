-- What the fields of every line keep; for proofs alone. Source: profile.
use Rattle.std.specs.Prelude.{◌≡◌, ◌≤◌, ◌+◌, ◌==◌, ℕ, zero, suc, length, if◌then◌else◌}
use Rattle.uecp_link.specs.Holds.{LineState, IsLine}

-- How many messages, and as many codes, a line has room for once so many were sent: none at first, and where the room
-- is full the next message makes it twice as large and eight more.
abbrev pub room_for : (sent : ℕ) → ℕ
room_for zero = 0
room_for (suc sent) = if room_for sent == sent then sent + sent + 8 else room_for sent

-- A line keeps what every line does, its address is its encoder's, its list of codes has room for a code of each
-- message that was sent, and how much room its two lists have depends on nothing but how many were sent.
pub record IsWhole {V : Type 0} (address : ℕ) (line : LineState V) (sent_room code_room : ℕ) : Type 0 where
  pub is_line : IsLine line
  pub address_is : line.encoder.address ≡ address
  pub fits : length line.sent ≤ code_room
  pub sent_room_is : sent_room ≡ room_for (length line.sent)
  pub code_room_is : code_room ≡ room_for (length line.sent)
