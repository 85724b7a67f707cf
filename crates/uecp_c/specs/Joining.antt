-- Joining an encoder, for C (profile).
use Rattle.std.specs.Prelude.{ℕ, ◌+◌, ◌*◌, ◌<◌, ◌==◌, ◌&&◌, ◌||◌, List, [], ◌∷◌}
use Rattle.uecp_link.specs.Joining.{BringsBoth}
use Rattle.uecp_c.specs.declared.seen.Seen.{Seen}

-- The bytes hold the reply to 81 of an encoder and, after it, the one to FF; the encoder is told by the parts of its
-- address, and there is none with a site above 1023 or a number above 63 (SPB 490, addressing).
abbrev pub IsJoined : (site encoder : ℕ) → List ℕ → Type 0
IsJoined site encoder bytes = (site < 1024) × (encoder < 64) × BringsBoth (site * 64 + encoder) bytes

-- ---- How far the replies have come (private).

-- After the reply to one counter more.
abbrev pub seen_with : Seen → ℕ → Seen
seen_with s counter = record {
  is_first = s.is_first || (counter == 0x81);
  are_both = s.are_both || (s.is_first && (counter == 0xFF));
}

-- After the replies to counters, one after another.
abbrev pub seen_after : Seen → List ℕ → Seen
seen_after s [] = s
seen_after s (counter ∷ counters) = seen_after (seen_with s counter) counters
