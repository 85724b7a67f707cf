-- What is told last of a run: how it ended (profile).
use Rattle.std.specs.Prelude.{◌≡◌, ◌⊎◌, ℕ, List, [], ◌∷◌, codes, Option}
use Rattle.std.specs.Io.KnownBytes.{Appends}
use Rattle.serde_json.specs.Data.{string}
use Rattle.output_forms.specs.declared.form.Form.{Form}
use Rattle.output_forms.specs.declared.form.Form.TheVariants.{Lines, Words, Json}
use Rattle.json_lines.specs.Objects.{Field, in_decimal, line_of}
use Rattle.json_lines.specs.Stamps.{IsStamp}
use Rattle.uecp_text.specs.Written.{Begins}
use Rattle.notices.specs.Told.{Told, Says}

-- When the run ended, and its exit status.
abbrev pub ended_fields : (stamp : List ℕ) → (status : ℕ) → List Field
ended_fields stamp status = (codes "time", string stamp) ∷ (codes "status", in_decimal status) ∷ []

-- The line of that.
abbrev pub ended_line : (stamp : List ℕ) → (status : ℕ) → List ℕ
ended_line stamp status = line_of (codes "ended") (ended_fields stamp status)

-- What is said where that line can't be written.
abbrev pub untold_line : List ℕ
untold_line = codes "uecp: the end of the run can't be told\n"

-- That line was written, with some time, whole and once; or it could not be, and that was said.
abbrev pub TellsLine : (status : ℕ) → (held held' : Option (List ℕ)) → (said said' : Told) → Type 0
TellsLine status held held' said said' =
    (stamp : List ℕ) × IsStamp stamp
    × ((Appends held held' (ended_line stamp status) × (said' ≡ said))
    ⊎ (Begins held held' (ended_line stamp status) × Says said said' untold_line))

-- How a run ended was told: in JSON by that line; in lines and in words nothing is told of it.
abbrev pub TellsEnd : Form → (status : ℕ) → (held held' : Option (List ℕ)) → (said said' : Told) → Type 0
TellsEnd Json status held held' said said' = TellsLine status held held' said said'
TellsEnd Lines status held held' said said' = (held' ≡ held) × (said' ≡ said)
TellsEnd (Words region) status held held' said said' = (held' ≡ held) × (said' ≡ said)
