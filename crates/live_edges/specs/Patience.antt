-- How long a line is waited for; and connections that are tried again (profile).
use Rattle.std.specs.Prelude.{◌≡◌, ◌≢◌, ◌⊎◌, ℕ, zero, suc, ◌^◌, List, Option, Some, None, true}
use Rattle.std.specs.Io.KnownBytes.{Appends}
use Rattle.live_edges.specs.declared.patience.Patience.{Patience}
use Rattle.live_edges.specs.Heard.{Heard, unheard}

-- Where the connections come from, for how long one is waited for, and what was said of it.
pub record Dialled (C : Type 0) : Type 0 where
  pub connect : C
  pub patience : Patience
  pub told : Option (List ℕ)

-- It is waited as long as before, and more may have been said: what was said stays at the front.
abbrev pub SaysOn : {C : Type 0} → Dialled C → Dialled C → Type 0
SaysOn d d' = (d'.patience ≡ d.patience) × ((lines : List ℕ) × Appends d.told d'.told lines)

-- So many connections were asked for, one after another, and none was to be had.
abbrev pub Misses : {C I O : Type 0} → (opens : C → Option (I × O) → C → Type 0) → (count : ℕ) → (old new : C) → Type 0
Misses opens zero old new = new ≡ old
Misses {C} opens (suc count) old new = (between : C) × opens old None between × Misses opens count between new

-- A connection was asked for, once. Where there was one these are its two ends, and nothing was read of it yet.
abbrev pub Tries : {C I O : Type 0} → (opens : C → Option (I × O) → C → Type 0) → C → Option (Heard I × O) → C → Type 0
Tries opens c (Some (input, output)) c' =
    opens c (Some (input.reader, output)) c' × (input ≡ unheard input.reader)
Tries opens c None c' = opens c None c'

-- Waiting comes to an end: after a time, or where the encoder is silent, if that is asked for; or after so many tries.
abbrev pub IsOver : Patience → (tries : ℕ) → Type 0
IsOver patience tries =
    (patience.give_up ≢ None) ⊎ (patience.stop_when_silent ≡ true) ⊎ (tries ≡ 2 ^ 59)

-- A connection was asked for again and again, up to the first that was to be had, and no further; nothing else was
-- opened. Or none was to be had up to where waiting comes to an end.
abbrev pub OpensAtLast : {C I O : Type 0} → (opens : C → Option (I × O) → C → Type 0) → Dialled C
    → Option (Heard I × O) → Dialled C → Type 0
OpensAtLast {C} opens d (Some ends) d' =
    (count : ℕ) × (between : C) × Misses opens count d.connect between × Tries opens between (Some ends) d'.connect
    × SaysOn d d'
OpensAtLast opens d None d' =
    (count : ℕ) × Misses opens count d.connect d'.connect × IsOver d.patience count × SaysOn d d'

-- The two ends of a connection, as they are, go back to where it came from, and no more is said.
abbrev pub GivesBack : {C I O : Type 0} → (closes : C → I → O → C → Type 0) → Dialled C → Heard I → O → Dialled C
    → Type 0
GivesBack closes d input output d' =
    closes d.connect input.reader output d'.connect × (d' ≡ record d { connect = d'.connect })
