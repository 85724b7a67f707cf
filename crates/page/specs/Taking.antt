-- How a line is taken (profile).
use Rattle.std.specs.Prelude.{◌≡◌, ℕ, true, false, List, Some, string_bytes, ◌≤◌}
use Rattle.std.specs.Str.{IsUtf8}
use Rattle.serde_json.specs.Data.{Data, depth}
use Rattle.serde_json.specs.Read.{read, max_depth}
use Rattle.serde_json.specs.Written.{compact_text, has_float}
use Rattle.page.specs.declared.state.page.Took.{Took}
use Rattle.page.specs.declared.state.page.Took.TheVariants.{Ours, Other}
use Rattle.page.specs.Members.{is_ours}
use Rattle.page.specs.State.{State, after, after_other}

-- A line is an object of ours: it is JSON, in UTF-8, that nests no deeper than 127, with our format and a kind.
abbrev pub IsOurs : (line : List ℕ) → Data → Type 0
IsOurs line d = IsUtf8 line × (read line ≡ Some d) × (is_ours d ≡ true)

-- A line was taken that came then: as an object of ours, and its text written anew says the same, with no space where
-- it has no number with a fraction; or as another line, which is only counted.
abbrev pub Takes : (line : List ℕ) → (came : ℕ) → (before behind : State) → Took → Type 0
Takes line came before behind (Ours text) =
    (d : Data) × IsOurs line d × (behind ≡ after (record { object = d; came = came }) before)
    × (has_float d ≡ false → string_bytes text ≡ compact_text d)
    × (depth d ≤ max_depth → read (string_bytes text) ≡ Some d)
Takes line came before behind Other = (behind ≡ after_other before) × ((d : Data) → IsOurs line d → ⊥)
