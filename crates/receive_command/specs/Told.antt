-- What is told where what is shown changes. (profile)
use Rattle.std.specs.Prelude.{◌≡◌, ◌≢◌, ℕ, ◌+◌, ◌*◌, Bool, true, false, if◌then◌else◌, List, [], ◌∷◌, ◌++◌, codes}
use Rattle.std.specs.Prelude.{nat_eq, bytes_eq, flat_map, encode_utf8_all, Option, Some, None}
use Rattle.std.specs.Option.{option_map}
use Rattle.serde_json.specs.Data.{Data, null, boolean, string}
use Rattle.uecp_frame.specs.Frame.{high_first}
use Rattle.uecp_elements.specs.Grammar.{Element, Pi, Ps, TaTp, Ms, Pty, Rt, Text}
use Rattle.rds_text.specs.declared.programme_type.Region.{Region}
use Rattle.rds_groups.specs.Groups.{bit}
use Rattle.phrase_tokens.specs.Tokens.{written_tokens}
use Rattle.uecp_phrases.specs.Written.{phrase_of}
use Rattle.json_lines.specs.Objects.{Field, object_of, in_decimal, in_digits, said_fields, line_of}
use Rattle.output_forms.specs.declared.form.Form.TheVariants as form
use Rattle.json_lines.specs.Stamps.{IsStamp}
use Rattle.uecp_watch.specs.Watching.{IsTime}
use Rattle.commands.specs.declared.receive_options.ShownForm.{ShownForm}
use Rattle.commands.specs.declared.receive_options.ShownForm.TheVariants.{Words, Json}
use Rattle.receive_command.specs.Shown.{Shown}

-- ---- In words: each thing that is shown now, and was not or was another, as a phrase of the main service in the
-- current data set. What is shown no more is not told.
-- What is there now, where it was not there before, or another was.
abbrev pub news : {A : Type 0} → (same : A → A → Bool) → (before after : Option A) → Option A
news same before None = None
news same None (Some now) = Some now
news same (Some before) (Some now) = if same before now then None else Some now

-- TP in bit 1 and TA in bit 0, once both were heard. (SPB 490, TA/TP; bits: profile)
abbrev pub traffic : (tp ta : Option Bool) → Option ℕ
traffic None ta = None
traffic (Some tp) None = None
traffic (Some tp) (Some ta) = Some (2 * bit tp + bit ta)

-- The element of a thing, if there is one.
abbrev pub said : {A : Type 0} → (A → Element) → Option A → List Element
said element None = []
said element (Some thing) = element thing ∷ []

-- A RadioText with no choice made, so with its toggle set. (SPB 490, element 0A)
abbrev pub radio_text : List ℕ → Element
radio_text text = Rt 0x00 0x00 (Text 0x01 text)

-- What is new, as elements: PI, PS, TA/TP, MS, PTY and RadioText. (SPB 490, elements 01, 02, 03, 05, 07 and 0A)
abbrev pub new_elements : (before after : Shown) → List Element
new_elements before after =
    said (Pi 0x00 0x00) (news nat_eq before.pi after.pi)
    ++ (said (Ps 0x00 0x00) (news bytes_eq before.name after.name)
    ++ (said (TaTp 0x00 0x00) (news nat_eq (traffic before.tp before.ta) (traffic after.tp after.ta))
    ++ (said (Ms 0x00 0x00) (news nat_eq (option_map bit before.music) (option_map bit after.music))
    ++ (said (Pty 0x00 0x00) (news nat_eq before.pty after.pty)
    ++ said radio_text (news bytes_eq before.text after.text)))))

-- The line of an element: its phrase.
abbrev pub phrase_line : Region → Element → List ℕ
phrase_line region e = encode_utf8_all (written_tokens (phrase_of region e)) ++ codes "\n"

-- Nothing where nothing is new; else the time behind `#`, with some stamp where there is a clock, and then a line for
-- each element.
abbrev pub AreTold : Region → (timed : Bool) → List Element → (lines : List ℕ) → Type 0
AreTold region timed [] lines = lines ≡ []
AreTold region timed (e ∷ es) lines =
    (time : List ℕ) × IsTime (form.Words region) timed time × (lines ≡ time ++ flat_map (phrase_line region) (e ∷ es))

-- ---- In JSON: all that is shown, where any of it has changed, also to nothing.
abbrev pub flag_value : Option Bool → Data
flag_value None = null
flag_value (Some is_set) = boolean is_set

abbrev pub pi_value : Option ℕ → Data
pi_value None = null
pi_value (Some pi) = in_digits (high_first pi)

abbrev pub type_value : Option ℕ → Data
type_value None = null
type_value (Some pty) = in_decimal pty

-- The name as bytes, and what they say.
abbrev pub name_fields : Option (List ℕ) → List Field
name_fields None = (codes "name", null) ∷ (codes "text", null) ∷ []
name_fields (Some name) = said_fields (codes "name") name

-- The RadioText as bytes, and what they say.
abbrev pub radio_text_fields : Option (List ℕ) → List Field
radio_text_fields None = (codes "rt", null) ∷ []
radio_text_fields (Some text) = (codes "rt", object_of (said_fields (codes "bytes") text)) ∷ []

abbrev pub flag_fields : Shown → List Field
flag_fields s =
    (codes "tp", flag_value s.tp) ∷ (codes "ta", flag_value s.ta) ∷ (codes "music", flag_value s.music)
    ∷ (codes "type", type_value s.pty) ∷ []

abbrev pub shown_fields : Shown → List Field
shown_fields s =
    (codes "pi", pi_value s.pi) ∷ (name_fields s.name ++ (flag_fields s ++ radio_text_fields s.text))

-- The time, with some stamp where there is a clock.
abbrev pub IsTimeIn : (timed : Bool) → List Field → Type 0
IsTimeIn false fields = fields ≡ []
IsTimeIn true fields = (stamp : List ℕ) × IsStamp stamp × (fields ≡ (codes "time", string stamp) ∷ [])

abbrev pub IsShownLine : (timed : Bool) → Shown → List ℕ → Type 0
IsShownLine timed shown line =
    (time : List Field) × IsTimeIn timed time × (line ≡ line_of (codes "shown") (time ++ shown_fields shown))

-- ---- What is told where this was shown, and then that.
abbrev pub IsTold : ShownForm → (timed : Bool) → (before after : Shown) → (lines : List ℕ) → Type 0
IsTold (Words region) timed before after lines = AreTold region timed (new_elements before after) lines
IsTold Json timed before after lines =
    (before ≡ after → lines ≡ []) × (before ≢ after → IsShownLine timed after lines)
