-- How long a line is waited for: when it is given up, and when an encoder is told to be silent (profile). Times are
-- milliseconds, limits and pauses seconds; numbers have 64 bits.
use Rattle.std.specs.Prelude.{◌≡◌, ◌⊎◌, ℕ, ◌+◌, ◌*◌, ◌/◌, ◌^◌, ◌-◌, ◌<◌, ◌≤◌, max, min, Bool, true, false, List, []}
use Rattle.std.specs.Prelude.{◌∷◌, Option, Some, None}
use Rattle.std.specs.Prelude.{if◌then◌else◌, ◌&&◌, not}
use Rattle.live_edges.specs.declared.patience.Patience.{Patience}
use Rattle.live_edges.specs.declared.patience.Wait.{Wait}

-- The greatest number.
abbrev pub most : ℕ
most = 2 ^ 64 - 1

-- The pause after a try that fails where there was one of so many seconds before it: it is doubled, and is 1 where
-- there was none, up to the longest. Numbers have 64 bits.
abbrev pub next_pause : (pause longest : ℕ) → ℕ
next_pause pause longest = min (max (min (pause * 2) (2 ^ 64 - 1)) 1) longest

-- So many seconds.
abbrev pub milliseconds : (seconds : ℕ) → ℕ
milliseconds seconds = min (seconds * 1000) most

-- Since when something waits that waits now.
abbrev pub since_or : Option ℕ → (now : ℕ) → ℕ
since_or None now = now
since_or (Some since) now = since

-- ---- How a line stands.

-- Nothing waited yet.
abbrev pub nothing_waits : Wait
nothing_waits = record {
  pause = 0;
  since = None;
  silent_since = None;
  is_told = false;
  opened = 0;
}

-- A connection is wanted now, or one is used: something waits.
abbrev pub wanted : (now : ℕ) → Wait → Wait
wanted now w = record w { since = Some (since_or w.since now) }

abbrev pub used : (now : ℕ) → Wait → Wait
used now w = record w { since = Some (since_or w.since now); silent_since = Some (since_or w.silent_since now) }

-- A connection was made.
abbrev pub made : (now : ℕ) → Wait → Wait
made now w = record w { silent_since = Some (since_or w.silent_since now); opened = now }

-- A reply came to something that waited: time begins anew.
abbrev pub after_reply : Wait → Wait
after_reply w = record w { pause = 0; since = None; silent_since = None; is_told = false }

-- There was no connection to be had.
abbrev pub after_refusal : (longest : ℕ) → Wait → Wait
after_refusal longest w = record w { pause = next_pause w.pause longest; silent_since = None }

-- A connection is done with. One that broke is no silent encoder's; one on which no reply came is like a try that
-- failed.
abbrev pub after_close : (is_answered is_broken : Bool) → (longest : ℕ) → Wait → Wait
after_close is_answered is_broken longest w = record w {
  pause = if is_answered then w.pause else next_pause w.pause longest;
  silent_since = if is_broken then None else w.silent_since;
}

-- ---- What comes of it.

-- There is a limit, and so many milliseconds reach it.
abbrev pub IsReached : Option ℕ → (passed : ℕ) → Type 0
IsReached limit passed = (seconds : ℕ) × (limit ≡ Some seconds) × (milliseconds seconds ≤ passed)

-- The line is given up where a connection is wanted: no try since the last reply came to anything, there was one at
-- least, and something has waited for as long as the limit.
abbrev pub IsGivenUp : Patience → (now : ℕ) → Wait → Type 0
IsGivenUp p now w = (0 < w.pause) × IsReached p.give_up (now - since_or w.since now)

-- The encoder is silent: there were connections for so long on which something waited, and no reply came.
abbrev pub IsSilent : Patience → (now : ℕ) → Wait → Type 0
IsSilent p now w = (since : ℕ) × (w.silent_since ≡ Some since) × (milliseconds p.silent ≤ now - since)

-- It is not told yet, or the encoder is joined anew by it.
abbrev pub IsOpen : Patience → Wait → Type 0
IsOpen p w = (w.is_told ≡ false) ⊎ (p.stop_when_silent ≡ true)

-- Its silence is due to be told, or to be acted on.
abbrev pub IsDue : Patience → (now : ℕ) → Wait → Type 0
IsDue p now w = IsOpen p w × IsSilent p now w

-- It was told, and where the encoder is joined anew its time begins anew.
abbrev pub after_silence : Patience → Wait → Wait
after_silence p w = record w {
  silent_since = if p.stop_when_silent then None else w.silent_since;
  is_told = true;
}

-- Something has waited for as long as the limit.
abbrev pub IsLate : Patience → (now : ℕ) → Wait → Type 0
IsLate p now w = (since : ℕ) × (w.since ≡ Some since) × IsReached p.give_up (now - since)

-- The last connection is there for a second.
abbrev pub HadItsChance : (now : ℕ) → Wait → Type 0
HadItsChance now w = 1000 ≤ now - w.opened

-- The connection is written to and read of no more.
abbrev pub IsSpent : Patience → (now : ℕ) → Wait → Type 0
IsSpent p now w = HadItsChance now w × IsLate p now w

-- The connection is read of no more: so too where its encoder's silence is due.
abbrev pub IsCut : Patience → (now : ℕ) → Wait → Type 0
IsCut p now w = HadItsChance now w × (IsLate p now w ⊎ IsDue p now w)

-- So many seconds are left of a limit where so many milliseconds have passed; a part of one counts as one.
abbrev pub seconds_left : (limit passed : ℕ) → ℕ
seconds_left limit passed = (milliseconds limit - passed + 999) / 1000

abbrev pub left_of : Option ℕ → (passed : ℕ) → ℕ
left_of None passed = most
left_of (Some limit) passed = seconds_left limit passed

abbrev pub left_since : Option ℕ → (limit now : ℕ) → ℕ
left_since None limit now = most
left_since (Some since) limit now = seconds_left limit (now - since)

-- So many seconds are left until the encoder's silence is due.
abbrev pub until_silent : Patience → (now : ℕ) → Wait → ℕ
until_silent p now w = if w.is_told && not p.stop_when_silent then most else left_since w.silent_since p.silent now

-- The pause before the next try: as long as it is to be, and no longer than to where the line is given up or the
-- encoder's silence is due.
abbrev pub pause_of : Patience → (now : ℕ) → Wait → ℕ
pause_of p now w = min (min w.pause (left_of p.give_up (now - since_or w.since now))) (until_silent p now w)

-- ---- What the laws say.

-- What may come between two replies: a connection is wanted, or used, or made, or none is to be had, or one is done
-- with.
pub data Happening : Type 0 where
  Wanted : (now : ℕ) → Happening
  Used : (now : ℕ) → Happening
  Made : (now : ℕ) → Happening
  Refused : (longest : ℕ) → Happening
  Closed : (is_answered is_broken : Bool) → (longest : ℕ) → Happening

abbrev pub after_one : Happening → Wait → Wait
after_one (Wanted now) w = wanted now w
after_one (Used now) w = used now w
after_one (Made now) w = made now w
after_one (Refused longest) w = after_refusal longest w
after_one (Closed is_answered is_broken longest) w = after_close is_answered is_broken longest w

abbrev pub after_all : List Happening → Wait → Wait
after_all [] w = w
after_all (h ∷ hs) w = after_all hs (after_one h w)
