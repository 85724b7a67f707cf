-- A turn in which a connection is sent what waits, and what it is owed (profile).
use Rattle.std.specs.Prelude.{◌≡◌, ◌≤◌, ◌⊎◌, ℕ, false, List, [], length, take, drop}
use Rattle.page.specs.declared.guests.connection.Passed.{Passed}
use Rattle.page.specs.declared.guests.connection.Passed.TheVariants.{Bytes, NotNow, Gone}
use Rattle.page.specs.Events.{Event, Past}
use Rattle.page.specs.Sending.{Standing, IsLive, Delivers, Writes, owed}
use Rattle.page.specs.Talk.{Talk, Gets}

-- A connection was offered once all that waits: what it took of that waits no more.
abbrev pub WritesOnce : (said said' : Talk) → (x x' : Standing) → Passed → Type 0
WritesOnce said said' x x' (Bytes count) =
    Gets (take count x.output) said said' × (count ≤ length x.output) × (x' ≡ record x { output = drop count x.output })
WritesOnce said said' x x' NotNow = (said' ≡ record said { takes_now = false }) × (x' ≡ x)
WritesOnce said said' x x' Gone = (said' ≡ said) × (x' ≡ x)

-- Of one that gets events these were put behind what waits, and these bytes written, as `Delivers` has it; of another
-- these bytes of what waited were written, and nothing else changed.
pub record IsSent (past : Past) (events : List Event) (written : List ℕ) (x x' : Standing) : Type 0 where
  pub phase : x'.phase ≡ x.phase
  pub live : IsLive x → Delivers past events written x x'
  pub idle : (IsLive x → ⊥) → (events ≡ []) × Writes written x x'

-- All that it is owed waits, or 64 KiB of it do. So where nothing waits it is owed nothing.
abbrev pub IsCaughtUp : Past → Standing → Type 0
IsCaughtUp past x = IsLive x → (owed past x ≡ []) ⊎ (65536 ≤ length x.output)

-- It was sent all that there is for it: nothing waits. Or it takes no more now; or these bytes were written by 16
-- writes, so that others have their turn. What it is owed waits then.
abbrev pub IsServed : Past → (written : List ℕ) → (said : Talk) → Standing → Type 0
IsServed past written said x =
    IsCaughtUp past x × ((x.output ≡ []) ⊎ (said.takes_now ≡ false) ⊎ (16 ≤ length written))
