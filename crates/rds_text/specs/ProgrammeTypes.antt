-- The names of the programme types, as receivers with sixteen characters show them. Source: IEC 62106, programme types.
use Rattle.std.specs.Prelude.{◌≡◌, ℕ, List, [], ◌∷◌, Option, Some, None, codes, map, slice_get}
use Rattle.std.specs.Char.{to_ascii_lowercase}
use Rattle.rds_text.specs.declared.programme_type.Region.{Region}
use Rattle.rds_text.specs.declared.programme_type.Region.TheVariants.{Europe, NorthAmerica}

-- The names by their numbers, from 0. In North America 27 and 28 have none.
unfoldable pub names : Region → List (List ℕ)
names Europe =
    codes "None" ∷ codes "News" ∷ codes "Current Affairs" ∷ codes "Information" ∷ codes "Sport" ∷ codes "Education" ∷
    codes "Drama" ∷ codes "Cultures" ∷ codes "Science" ∷ codes "Varied Speech" ∷ codes "Pop Music" ∷
    codes "Rock Music" ∷ codes "Easy Listening" ∷ codes "Light Classics M" ∷ codes "Serious Classics" ∷
    codes "Other Music" ∷ codes "Weather & Metr" ∷ codes "Finance" ∷ codes "Children's Progs" ∷
    codes "Social Affairs" ∷ codes "Religion" ∷ codes "Phone In" ∷ codes "Travel & Touring" ∷
    codes "Leisure & Hobby" ∷ codes "Jazz Music" ∷ codes "Country Music" ∷ codes "National Music" ∷
    codes "Oldies Music" ∷ codes "Folk Music" ∷ codes "Documentary" ∷ codes "Alarm Test" ∷ codes "Alarm - Alarm !" ∷
    []
names NorthAmerica =
    codes "None" ∷ codes "News" ∷ codes "Information" ∷ codes "Sports" ∷ codes "Talk" ∷ codes "Rock" ∷
    codes "Classic Rock" ∷ codes "Adult Hits" ∷ codes "Soft Rock" ∷ codes "Top 40" ∷ codes "Country" ∷
    codes "Oldies" ∷ codes "Soft" ∷ codes "Nostalgia" ∷ codes "Jazz" ∷ codes "Classical" ∷ codes "Rhythm and Blues" ∷
    codes "Soft R & B" ∷ codes "Foreign Language" ∷ codes "Religious Music" ∷ codes "Religious Talk" ∷
    codes "Personality" ∷ codes "Public" ∷ codes "College" ∷ codes "Spanish Talk" ∷ codes "Spanish Music" ∷
    codes "Hip-Hop" ∷ [] ∷ [] ∷ codes "Weather" ∷ codes "Emergency Test" ∷ codes "ALERT! ALERT!" ∷ []

-- A name, or none where it is empty.
abbrev pub named : List ℕ → Option (List ℕ)
named [] = None
named (letter ∷ letters) = Some (letter ∷ letters)

-- The name of a number, where it has one.
unfoldable pub name_of : Region → ℕ → Option (List ℕ)
name_of region number = named_at (slice_get (names region) number)
  where
    named_at : Option (List ℕ) → Option (List ℕ)
    named_at None = None
    named_at (Some name) = named name

-- A number has this name, whatever the case of its letters.
abbrev pub HasName : Region → ℕ → List ℕ → Type 0
HasName region number text =
    (name : List ℕ) × (name_of region number ≡ Some name) × (map to_ascii_lowercase name ≡ map to_ascii_lowercase text)

-- Law: no name is that of two numbers.
abbrev pub IsNamedOnce : Type 0
IsNamedOnce = (region : Region) (a b : ℕ) (text : List ℕ) → HasName region a text → HasName region b text → a ≡ b
