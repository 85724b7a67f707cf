-- Which word is offered where a token can't stand: the nearest of those that may (profile).
use Rattle.std.specs.Prelude.{◌≡◌, ◌≤◌, ◌<◌, ◌⊎◌, ℕ, zero, suc, List, [], ◌∷◌, ◌++◌, length, map, max}
use Rattle.std.specs.Prelude.{nat_eq, slice_get, codes, Option, Some, None, IfSome, option_map, if◌then◌else◌}
use Rattle.std.specs.List.{AllByRecursion}
use Rattle.std.specs.Char.{to_ascii_lowercase}
use Rattle.strsim.specs.Edits.{levenshtein_row}
use Rattle.rds_text.specs.declared.programme_type.Region.{Region}
use Rattle.rds_text.specs.ProgrammeTypes.{name_of}
use Rattle.phrase_tokens.specs.Tokens.{Token, Word, Quoted, Semicolon}
use Rattle.uecp_phrases.specs.declared.expectation.Expectation.{Expectation}
use Rattle.uecp_phrases.specs.declared.expectation.Expectation.TheVariants as what
use Rattle.uecp_phrases.specs.declared.head.Head.{Head}
use Rattle.uecp_phrases.specs.declared.nearest.Near.{Near}
use Rattle.uecp_phrases.specs.Expecting.{MayStand}
use Rattle.uecp_phrases.specs.Phrases.{IsHead}

-- ---- The words that may stand at a place.

-- The words that are offered where this may stand, in the order in which they are tried, but for the names of programme
-- types. Digits and texts are offered nowhere.
abbrev pub words_at : Expectation → List (List ℕ)
words_at what.FirstWord =
    codes "in" ∷ codes "for" ∷ codes "pi" ∷ codes "ps" ∷ codes "rt" ∷ codes "traffic" ∷ codes "ta"
    ∷ codes "tp" ∷ codes "music" ∷ codes "speech" ∷ codes "ms" ∷ codes "pty" ∷ codes "set" ∷ codes "group"
    ∷ codes "ack" ∷ codes "raw" ∷ []
words_at what.WordInSet =
    codes "for" ∷ codes "pi" ∷ codes "ps" ∷ codes "rt" ∷ codes "traffic" ∷ codes "ta" ∷ codes "tp"
    ∷ codes "music" ∷ codes "speech" ∷ codes "ms" ∷ codes "pty" ∷ []
words_at what.WordForService =
    codes "pi" ∷ codes "ps" ∷ codes "rt" ∷ codes "traffic" ∷ codes "ta" ∷ codes "tp" ∷ codes "music"
    ∷ codes "speech" ∷ codes "ms" ∷ codes "pty" ∷ []
words_at what.DataSet = codes "all" ∷ codes "others" ∷ []
words_at what.RadioText = codes "clear" ∷ codes "bits" ∷ []
words_at what.Traffic =
    codes "none" ∷ codes "eon" ∷ codes "programme" ∷ codes "announcement" ∷ codes "bits" ∷ []
words_at what.Switch = codes "off" ∷ codes "on" ∷ []
words_at what.Bits = codes "bits" ∷ []
words_at what.ProgrammeType = codes "bits" ∷ []
words_at what.GroupType = codes "bits" ∷ []
words_at what.Added = codes "add" ∷ []
words_at (what.Choice add same times) =
    (if add then codes "add" ∷ [] else []) ++ ((if same then codes "same" ∷ [] else [])
    ++ (if times then codes "times" ∷ [] else []))
words_at expected = []

-- A name, if there is one.
abbrev pub the_name : Option (List ℕ) → List (List ℕ)
the_name None = []
the_name (Some name) = name ∷ []

-- The names of the programme types below this number, in the region, in their order.
abbrev pub names_below : Region → ℕ → List (List ℕ)
names_below region zero = []
names_below region (suc number) = names_below region number ++ the_name (name_of region number)

-- The names of how many programme types are offered.
abbrev pub name_count : Expectation → ℕ
name_count what.ProgrammeType = 32
name_count expected = 0

-- All words that are offered where this may stand.
abbrev pub offered : Region → Expectation → List (List ℕ)
offered region expected = words_at expected ++ names_below region (name_count expected)

-- Law: each of them may stand there: a word as it is, a name between quotes.
abbrev pub OfferedMayStand : Type 0
OfferedMayStand = (region : Region) (expected : Expectation)
    → AllByRecursion (λ word. MayStand region expected (Word word) ⊎ MayStand region expected (Quoted word))
    (offered region expected)

-- ---- How near a word is.

-- The letters of a word, or of a text between quotes.
abbrev pub letters_of : Token → List ℕ
letters_of (Word w) = w
letters_of (Quoted bytes) = bytes
letters_of Semicolon = []

-- How many letters are added, left out or changed to make the one of the other, whatever their case: the distance of
-- Levenshtein.
abbrev pub distance : (letters word : List ℕ) → ℕ
distance letters word =
    levenshtein_row nat_eq (map to_ascii_lowercase letters) (map to_ascii_lowercase word) (length word)

-- At most two letters differ, and not all.
abbrev pub IsNear : (letters word : List ℕ) → Type 0
IsNear letters word = (distance letters word ≤ 2) × (distance letters word < max (length letters) (length word))

-- ---- Which one is offered.

-- This is the nearest of these words, and of several the first; or none of them is near.
abbrev pub IsNearest : (letters : List ℕ) → (words : List (List ℕ)) → Option (List ℕ) → Type 0
IsNearest letters words None = AllByRecursion (λ word. IsNear letters word → ⊥) words
IsNearest letters words (Some word) = (before : List (List ℕ)) × (behind : List (List ℕ))
    × (words ≡ before ++ word ∷ behind) × IsNear letters word
    × AllByRecursion (λ other. IsNear letters other → distance letters word < distance letters other) before
    × AllByRecursion (λ other. IsNear letters other → distance letters word ≤ distance letters other) behind

-- The token is the first word of a phrase, spelled right, whatever the case of its letters.
abbrev pub IsFirstWord : Token → Type 0
IsFirstWord t = (h : Head) × IsHead t h

-- This is offered for a token that stands where this may: the nearest of the words that may stand there, if one is
-- near; and nothing for the first word of a phrase, spelled right, which stands at the wrong place.
abbrev pub Offers : Region → Expectation → Token → Option (List ℕ) → Type 0
Offers region expected t near =
    (IsFirstWord t × (near ≡ None))
    ⊎ ((IsFirstWord t → ⊥) × IsNearest (letters_of t) (offered region expected) near)

-- The same for the token of an index; behind the last nothing is offered.
abbrev pub OffersAt : Region → Expectation → List Token → (index : ℕ) → Option (List ℕ) → Type 0
OffersAt region expected tokens index near = offers (slice_get tokens index)
  where
    offers : Option Token → Type 0
    offers None = near ≡ None
    offers (Some t) = Offers region expected t near

-- Of these words the nearest was found, with its distance (private).
abbrev pub IsFound : (letters : List ℕ) → (words : List (List ℕ)) → Option Near → Type 0
IsFound letters words found = IsNearest letters words (option_map (λ near. near.word.now) found)
    × IfSome found (λ near. near.distance ≡ distance letters near.word.now)
