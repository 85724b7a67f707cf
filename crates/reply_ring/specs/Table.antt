-- How a ring is kept: its counters in order, and a table of codes by counter. No public clause cites this.
use Rattle.std.specs.Prelude.{◌≡◌, ℕ, ◌<◌, List, get_or, map, Option, None, unwrap_or}
use Rattle.uecp_elements.specs.declared.code.Code.{Code}
use Rattle.uecp_elements.specs.declared.code.Code.TheVariants.{Applied}
use Rattle.reply_ring.specs.Ring.{kept_code, IsRing}

-- The entry of a counter.
abbrev pub entry : (codes : List (Option Code)) → (counter : ℕ) → Option Code
entry codes counter = get_or codes counter None

-- Each counter with the code in its entry, which every counter of a ring has.
abbrev pub pairs_of : (counters : List ℕ) → (codes : List (Option Code)) → List (ℕ × Code)
pairs_of counters codes = map (λ counter. (counter, unwrap_or (entry codes counter) Applied)) counters

-- There is room for 127 counters and no more, the pairs are a ring, and each entry is what the ring has for its
-- counter.
pub record IsKept (capacity : ℕ) (counters : List ℕ) (codes : List (Option Code)) : Type 0 where
  pub room : capacity ≡ 127
  pub ring : IsRing (pairs_of counters codes)
  pub entries : (counter : ℕ) → counter < 256 → entry codes counter ≡ kept_code (pairs_of counters codes) counter
