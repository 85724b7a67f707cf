-- What goes out to a reader that is waited for no longer than so long (profile).
use Rattle.std.specs.Prelude.{◌≡◌, ◌+◌, ◌-◌, ◌^◌, ◌==◌, ◌||◌, ◌⊎◌, ℕ, Bool, false, not, List, [], ◌++◌, Option, length}
use Rattle.std.specs.Prelude.{count_by, decimal, min, if◌then◌else◌}
use Rattle.std.specs.Io.KnownBytes.{Appends, Keeps, append_known}
use Rattle.device_edges.specs.declared.outlet.Fate.{Fate}
use Rattle.device_edges.specs.declared.outlet.Fate.TheVariants.{Told, LeftOut}

-- What the writer has got, as far as that is known; what is owed, the rest of a text of which some has gone out; and
-- how many lines were left out since the last that was told.
pub record Outlet : Type 0 where
  pub held : Option (List ℕ)
  pub owed : List ℕ
  pub left_out : ℕ

-- An outlet of which nothing went out yet.
abbrev pub outlet_at_first : (held : Option (List ℕ)) → Outlet
outlet_at_first held = record { held = held; owed = []; left_out = 0 }

-- What the writer will have got once nothing is owed.
abbrev pub standing : Outlet → Option (List ℕ)
standing o = append_known o.held o.owed

-- Lines were left out, or a text has gone out in part: the reader has stopped reading.
abbrev pub is_stalled : Outlet → Bool
is_stalled o = not (o.left_out == 0) || not (length o.owed == 0)

-- For how long the reader is waited for, of so many milliseconds: not at all once it has stopped.
abbrev pub patience : Outlet → (milliseconds : ℕ) → ℕ
patience o milliseconds = if is_stalled o then 0 else milliseconds

-- The lines of a text, each with its end.
abbrev pub lines_of : List ℕ → ℕ
lines_of text = count_by (λ byte. byte == 10) text

-- So many more; at the most that can be counted it stays.
abbrev pub more : (left_out lines : ℕ) → ℕ
more left_out lines = min (left_out + lines) (2 ^ 64 - 1)

-- How it is told how many lines were left out: what stands before the number, and behind it.
pub record Wording : Type 0 where
  pub before : List ℕ
  pub behind : List ℕ

-- A gap is told by the number of its lines; where none were left out there is none.
abbrev pub gap : Wording → (left_out : ℕ) → List ℕ
gap wording left_out = if left_out == 0 then [] else wording.before ++ (decimal left_out ++ wording.behind)

-- A text is told: it goes out whole, behind what is owed, and behind the gap before it. Or it is left out, nothing of
-- it goes out, and its lines are counted.
abbrev pub Comes : Wording → Fate → List ℕ → (o o' : Outlet) → Type 0
Comes wording Told text o o' =
    Appends (standing o) (standing o') (gap wording o.left_out ++ text) × (o'.left_out ≡ 0)
Comes wording LeftOut text o o' =
    Keeps (standing o) (standing o') × (o'.left_out ≡ more o.left_out (lines_of text))

-- The writer failed: nothing of a text goes out, or it does as where it is told.
abbrev pub Stops : Wording → List ℕ → (o o' : Outlet) → Type 0
Stops wording text o o' =
    Keeps (standing o) (standing o') ⊎ Appends (standing o) (standing o') (gap wording o.left_out ++ text)

-- The reader took no more within so many milliseconds.
abbrev pub HasStopped : {T : Type 0} → (answers : T → ℕ → Bool → T → Type 0) → (milliseconds : ℕ) → Type 0
HasStopped {T} answers milliseconds = (before : T) × (after : T) × answers before milliseconds false after

-- How many lines a run ends without having told: those that were left out, and the rest of a text.
abbrev pub untold : Outlet → ℕ
untold o = more o.left_out (lines_of o.owed)
