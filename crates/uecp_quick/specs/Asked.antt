-- What the words of the quick program ask for (profile).
use Rattle.std.specs.Prelude.{◌≡◌, ℕ, Bool, None, Some, List, [], ◌∷◌, codes, if◌then◌else◌}
use Rattle.std.specs.List.{list_any}
use Rattle.std.specs.Str.{bytes_eq}
use Rattle.commands.specs.declared.job.Job.{Job}
use Rattle.commands.specs.declared.job.Job.TheVariants.{AnswerWith, LineWith, Make, MakeWith, ShowWith}
use Rattle.output_forms.specs.declared.form.Form.{Form}
use Rattle.output_forms.specs.declared.form.Form.TheVariants.{Lines, Words, Json}
use Rattle.rds_text.specs.declared.programme_type.Region.{Region}
use Rattle.rds_text.specs.declared.programme_type.Region.TheVariants.{Europe, NorthAmerica}

-- The flag is one of the words.
abbrev pub has : (flag : List ℕ) → (words : List (List ℕ)) → Bool
has flag words = list_any (λ word. bytes_eq word flag) words

-- The form for which flags ask: JSON goes before words.
abbrev pub form_of : (words : List (List ℕ)) → Form
form_of words = if has (codes "--json") words then Json
    else if has (codes "--rbds") words then Words NorthAmerica
    else if has (codes "--words") words then Words Europe else Lines

-- The encoder is 1 at site 1, with one data set of the service 01.
abbrev pub IsFirst : (site encoder sets : ℕ) → (services : List ℕ) → Type 0
IsFirst site encoder sets services = (site ≡ 1) × (encoder ≡ 1) × (sets ≡ 1) × (services ≡ 1 ∷ [])

-- The job is that of the command of this name, with the flags among these words.
abbrev pub IsAsked : (name : List ℕ) → (words : List (List ℕ)) → Job → Type 0
IsAsked name words (AnswerWith o) =
    (name ≡ codes "answer") × IsFirst o.site o.encoder o.sets o.services.items
    × (o.store ≡ has (codes "--store") words) × (o.form ≡ form_of words) × (o.air ≡ None)
IsAsked name words (LineWith o) =
    (name ≡ codes "line") × IsFirst o.site o.encoder o.sets o.services.items
    × (o.store ≡ has (codes "--store") words) × (o.form ≡ form_of words) × (o.ladder ≡ None)
IsAsked name words (ShowWith o) = (name ≡ codes "show") × (o.form ≡ form_of words)
IsAsked name words Make = (name ≡ codes "make") × (form_of words ≡ Lines)
IsAsked name words (MakeWith o) = (name ≡ codes "make")
    × ((region : Region) × (o.words ≡ Some region) × (form_of words ≡ Words region))
IsAsked name words job = ⊥
