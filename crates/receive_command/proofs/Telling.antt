-- What is told, part by part.
use Rattle.std.proofs.Common.{◌≡◌, ◌≢◌, ℕ, Bool, List, [], ◌∷◌, ◌++◌, codes, flat_map, is_some, Option, Some, refl, sym}
use Rattle.std.proofs.Common.{subst}
use Rattle.serde_json.specs.Data.{string}
use Rattle.uecp_elements.specs.Grammar.{Element}
use Rattle.rds_text.specs.declared.programme_type.Region.{Region}
use Rattle.output_forms.specs.declared.form.Form.TheVariants as form
use Rattle.json_lines.specs.Objects.{Field}
use Rattle.json_lines.specs.Texts.{field_text, fields_text}
use Rattle.json_lines.proofs.Public.{adds_field}
use Rattle.uecp_text.specs.Written.{Kept, Adds}
use Rattle.uecp_text.proofs.Public.{adds_then}
use Rattle.json_lines.specs.Stamps.{IsStamp}
use Rattle.uecp_watch.specs.Watching.{IsTime, time_line}
use Rattle.receive_command.specs.Told.{phrase_line, AreTold, IsTimeIn}

-- the time of a clock that there is
pub timed_line : {A : Type 0} (o : Option A) (clock : A) (region : Region) (stamp : List ℕ) (a b c d : Kept)
    → o ≡ Some clock → IsStamp stamp → Adds a b (codes "# ") → Adds b c stamp → Adds c d (codes "\n")
    → (time : List ℕ) × IsTime (form.Words region) (is_some o) time × Adds a d time
timed_line o clock region stamp a b c d is is_stamp first second third =
    subst (λ k. (time : List ℕ) × IsTime (form.Words region) (is_some k) time × Adds a d time) (sym is) (
      time_line (form.Words region) stamp,
      (stamp, is_stamp, refl),
      adds_then a b d (codes "# ") (stamp ++ codes "\n") first (adds_then b c d stamp (codes "\n") second third),
    )

-- its member
pub timed_field : {A : Type 0} (o : Option A) (clock : A) (stamp : List ℕ) (a b : Kept) → o ≡ Some clock
    → IsStamp stamp → Adds a b (field_text (codes "time") (string stamp))
    → (time : List Field) × IsTimeIn (is_some o) time × Adds a b (fields_text time)
timed_field o clock stamp a b is is_stamp adds =
    subst (λ k. (time : List Field) × IsTimeIn (is_some k) time × Adds a b (fields_text time)) (sym is) (
      (codes "time", string stamp) ∷ [],
      (stamp, is_stamp, refl),
      adds_field a b (codes "time") (string stamp) adds,
    )

-- the time, and then the phrases of what is new
pub told_in_words : (region : Region) (timed : Bool) (es : List Element) (time : List ℕ) (a b c : Kept) → es ≢ []
    → IsTime (form.Words region) timed time → Adds a b time → Adds b c (flat_map (phrase_line region) es)
    → (lines : List ℕ) × AreTold region timed es lines × Adds a c lines
told_in_words region timed [] time a b c some is_time first second = absurd (some refl)
told_in_words region timed (e ∷ es) time a b c some is_time first second = (
  time ++ flat_map (phrase_line region) (e ∷ es),
  (time, is_time, refl),
  adds_then a b c time (flat_map (phrase_line region) (e ∷ es)) first second,
)
