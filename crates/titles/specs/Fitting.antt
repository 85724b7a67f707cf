-- How a text is made to fit the basic character set of RDS (profile). Characters are their Unicode numbers.
use Rattle.std.specs.Prelude.{◌≡◌, ◌≢◌, ◌⊎◌, ℕ, Bool, true, false, List, [], ◌∷◌, ◌++◌, codes, Some, None}
use Rattle.unicode_normalization.specs.Forms.{nfkd}
use Rattle.unicode_normalization.specs.Lookups.{is_combining_mark}
use Rattle.rds_text.specs.BasicSet.{character_of}
use Rattle.titles.specs.Nearest.{nearest}

-- No byte of the set stands for the character.
abbrev pub IsNotInSet : (character : ℕ) → Type 0
IsNotInSet character = (byte : ℕ) → character_of byte ≢ Some character

-- These bytes tell the character: its own byte, where it is in the set; else the nearest, where something is near.
abbrev pub IsTold : (character : ℕ) → (bytes : List ℕ) → Type 0
IsTold character bytes =
    ((byte : ℕ) × (character_of byte ≡ Some character) × (bytes ≡ byte ∷ []))
    ⊎ (IsNotInSet character × (nearest character ≡ Some bytes))

-- Nothing tells it.
abbrev pub IsUntold : (character : ℕ) → Type 0
IsUntold character = IsNotInSet character × (nearest character ≡ None)

-- What a part of a character is: nothing, where it is a mark, as an accent; else what tells it.
abbrev pub IsPart : (part : ℕ) → (bytes : List ℕ) → Type 0
IsPart part bytes =
    ((is_combining_mark part ≡ true) × (bytes ≡ [])) ⊎ ((is_combining_mark part ≡ false) × IsTold part bytes)

-- It is no mark, and nothing tells it.
abbrev pub IsNoPart : (part : ℕ) → Type 0
IsNoPart part = (is_combining_mark part ≡ false) × IsUntold part

-- What parts are, each by itself and in order.
abbrev pub AreParts : (parts bytes : List ℕ) → Type 0
AreParts [] bytes = bytes ≡ []
AreParts (part ∷ others) bytes =
    (first more : List ℕ) × (bytes ≡ first ++ more) × IsPart part first × AreParts others more

-- One of them is none.
abbrev pub IsOneNoPart : (parts : List ℕ) → Type 0
IsOneNoPart parts = (before after : List ℕ) × (part : ℕ) × (parts ≡ before ++ part ∷ after) × IsNoPart part

-- What a character is where it is made to fit: what tells it; where nothing does what tells its parts, without marks,
-- as of a letter with accents (Unicode, compatibility decomposition); and where nothing tells one of these a question
-- mark.
abbrev pub IsFitted : (character : ℕ) → (bytes : List ℕ) → Type 0
IsFitted character bytes =
    IsTold character bytes
    ⊎ (IsUntold character × (AreParts (nfkd (character ∷ [])) bytes
    ⊎ (IsOneNoPart (nfkd (character ∷ [])) × (bytes ≡ codes "?"))))

-- What characters are, each by itself and in order.
abbrev pub AreFitted : (characters bytes : List ℕ) → Type 0
AreFitted [] bytes = bytes ≡ []
AreFitted (c ∷ others) bytes =
    (first more : List ℕ) × (bytes ≡ first ++ more) × IsFitted c first × AreFitted others more

-- ---- What is added to a text.

-- Some bytes of which this holds were added.
abbrev pub Puts : (is : List ℕ → Type 0) → (before after : List ℕ) → Type 0
Puts is before after = (bytes : List ℕ) × is bytes × (after ≡ before ++ bytes)

-- What tells a character was added; or nothing, since nothing tells it. (private)
abbrev pub Tells : (character : ℕ) → (is_told : Bool) → (before after : List ℕ) → Type 0
Tells character true before after = Puts (IsTold character) before after
Tells character false before after = IsUntold character × (after ≡ before)

-- What a part is was added; or nothing, since it is none. (private)
abbrev pub PutsPart : (part : ℕ) → (is_part : Bool) → (before after : List ℕ) → Type 0
PutsPart part true before after = Puts (IsPart part) before after
PutsPart part false before after = IsNoPart part × (after ≡ before)

-- What parts are was added; or something, since one is none. (private)
abbrev pub PutsParts : (parts : List ℕ) → (are_parts : Bool) → (before after : List ℕ) → Type 0
PutsParts parts true before after = Puts (AreParts parts) before after
PutsParts parts false before after = IsOneNoPart parts × Puts (λ bytes. Unit {0}) before after
