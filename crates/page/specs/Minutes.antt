-- How many messages were told of a control line in each minute of the page's clock (profile).
use Rattle.std.specs.Prelude.{ℕ, zero, suc, ◌-◌, ◌/◌, ◌%◌, ◌==◌, true, nat_lt, List, [], ◌∷◌, replicate}
use Rattle.std.specs.Prelude.{slice_index, slice_set, if◌then◌else◌}
use Rattle.serde_json.specs.Data.{Data}
use Rattle.page.specs.Counts.{one_more, is_told}

-- 60 places, one for each minute of an hour: the minute of which messages were counted there last, and how many came in
-- it.
pub record Minutes : Type 0 where
  pub numbers : List ℕ
  pub counts : List ℕ

-- None came yet.
abbrev pub no_minutes : Minutes
no_minutes = record { numbers = replicate 60 0; counts = replicate 60 0 }

-- The minute of a time in milliseconds.
abbrev pub minute_of : (time : ℕ) → ℕ
minute_of time = time / 60000

-- How many came in this minute.
abbrev pub count_in : (minute : ℕ) → Minutes → ℕ
count_in minute m =
    if slice_index m.numbers (minute % 60) == minute then slice_index m.counts (minute % 60) else 0

-- One more came in it.
abbrev pub one_more_in : (minute : ℕ) → Minutes → Minutes
one_more_in minute m = record {
  numbers = slice_set m.numbers (minute % 60) minute;
  counts = slice_set m.counts (minute % 60) (one_more true (count_in minute m));
}

-- Behind an object that came then.
abbrev pub minutes_after : (came : ℕ) → Data → Minutes → Minutes
minutes_after came d m = if is_told d then one_more_in (minute_of came) m else m

-- How many came so many minutes before this one.
abbrev pub count_before : (newest ago : ℕ) → Minutes → ℕ
count_before newest ago m = if nat_lt newest ago then 0 else count_in (newest - ago) m

-- Of so many minutes up to this one, oldest first.
abbrev pub counts_until : (newest many : ℕ) → Minutes → List ℕ
counts_until newest zero m = []
counts_until newest (suc many) m = count_before newest many m ∷ counts_until newest many m

-- Of the hour up to this minute, oldest first.
unfoldable pub last_hour : (newest : ℕ) → Minutes → List ℕ
last_hour newest m = counts_until newest 60 m
