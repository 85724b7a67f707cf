-- The lines of a file of cases, and what they say (profile).
use Rattle.std.specs.Prelude.{◌≡◌, ◌≤◌, ◌⊎◌, ℕ, List, [], ◌∷◌, ◌++◌, length, codes, Some, Ok}
use Rattle.hex.specs.Hex.{decode_of}
use Rattle.uecp_text.specs.Words.{words, decimal_in, IsByte}
use Rattle.uecp_link.specs.Driving.{copies}
use Rattle.conformance.specs.declared.case.Counters.{Counters}
use Rattle.conformance.specs.declared.case.To.TheVariants.{Own, All, AllEncoders, AllSites, AnotherEncoder, AnotherSite}
use Rattle.conformance.specs.declared.case.Edit.{Edit}
use Rattle.conformance.specs.declared.case.Edit.TheVariants.{Whole, Length, Check, Byte, Cut}
use Rattle.conformance.specs.declared.case.Step.{Step}
use Rattle.conformance.specs.declared.case.Step.TheVariants.{Send, Bytes, Reply, Refusal, Nothing}
use Rattle.conformance.specs.declared.line.Line.{Line}
use Rattle.conformance.specs.declared.line.Line.TheVariants.{Form, Name, Group, Rule, Profile, Pieces, Does}

-- ---- Words.

-- The word is a number from 1 to 999999999 in decimal digits.
abbrev pub IsCount : (word : List ℕ) → ℕ → Type 0
IsCount word number = (decimal_in 999999999 word ≡ Some number) × (1 ≤ number)

-- The word is a row of counters: its only one, or the first and the last with two dots between.
abbrev pub IsRowOf : (word : List ℕ) → Counters → Type 0
IsRowOf word row = (IsByte word row.first × (row.last ≡ row.first))
    ⊎ ((first last : List ℕ) × (word ≡ first ++ codes ".." ++ last) × IsByte first row.first × IsByte last row.last
    × (row.first ≤ row.last))

-- The digits spell these bytes, at most 255.
abbrev pub IsOf : (digits bytes : List ℕ) → Type 0
IsOf digits bytes = (decode_of digits ≡ Ok bytes) × (length bytes ≤ 255)

-- Digits, `x` and a number.
abbrev pub between : (digits number : List ℕ) → List ℕ
between digits number = digits ++ 0x78 ∷ number

-- The word is these bytes, so many times: a hyphen, digits, or digits, `x` and a number.
abbrev pub IsCopies : (word bytes : List ℕ) → (count : ℕ) → Type 0
IsCopies word bytes count = ((word ≡ codes "-") × (bytes ≡ []) × (count ≡ 1))
    ⊎ (IsOf word bytes × (count ≡ 1))
    ⊎ ((digits number : List ℕ) × (word ≡ between digits number) × IsOf digits bytes × IsCount number count)

-- The word is this message: some bytes, so many times.
abbrev pub IsMessage : (word message : List ℕ) → Type 0
IsMessage word message =
    (bytes : List ℕ) × (count : ℕ) × IsCopies word bytes count × (message ≡ copies bytes count)

-- ---- Steps.

-- The words behind a message say how its frame is sent.
abbrev pub SaysEdit : List (List ℕ) → Edit → Type 0
SaysEdit words (Whole Own) = words ≡ []
SaysEdit words (Whole All) = words ≡ codes "to" ∷ codes "all" ∷ []
SaysEdit words (Whole AllEncoders) = words ≡ codes "to" ∷ codes "all" ∷ codes "encoders" ∷ []
SaysEdit words (Whole AllSites) = words ≡ codes "to" ∷ codes "all" ∷ codes "sites" ∷ []
SaysEdit words (Whole AnotherEncoder) = words ≡ codes "to" ∷ codes "another" ∷ codes "encoder" ∷ []
SaysEdit words (Whole AnotherSite) = words ≡ codes "to" ∷ codes "another" ∷ codes "site" ∷ []
SaysEdit words (Length said) =
    (word : List ℕ) × (words ≡ codes "with" ∷ codes "length" ∷ word ∷ []) × IsByte word said
SaysEdit words Check = words ≡ codes "with" ∷ codes "check" ∷ codes "damaged" ∷ []
SaysEdit words (Byte place bytes) = (number word : List ℕ)
    × (words ≡ codes "with" ∷ codes "byte" ∷ number ∷ codes "as" ∷ word ∷ []) × IsCount number place
    × IsMessage word bytes
SaysEdit words (Cut count) =
    (number : List ℕ) × (words ≡ codes "cut" ∷ codes "after" ∷ number ∷ codes "bytes" ∷ []) × IsCount number count

-- The words of a line say a step.
abbrev pub SaysStep : List (List ℕ) → Step → Type 0
SaysStep words (Send row message edit) = (first second : List ℕ) × (others : List (List ℕ))
    × (words ≡ codes "send" ∷ first ∷ second ∷ others) × IsRowOf first row × IsMessage second message
    × SaysEdit others edit
SaysStep words (Bytes bytes count) =
    (word : List ℕ) × (words ≡ codes "bytes" ∷ word ∷ []) × IsCopies word bytes count
SaysStep words (Reply row code) = (first second : List ℕ) × (words ≡ codes "reply" ∷ first ∷ second ∷ [])
    × IsRowOf first row × IsByte second code
SaysStep words (Refusal row) = (word : List ℕ) × (words ≡ codes "refusal" ∷ word ∷ []) × IsRowOf word row
SaysStep words Nothing = words ≡ codes "nothing" ∷ []

-- ---- Lines.

-- The words of a line say at which size bytes are written.
abbrev pub SaysPieces : List (List ℕ) → ℕ → Type 0
SaysPieces words size = (number : List ℕ)
    × (words ≡ codes "in" ∷ codes "pieces" ∷ codes "of" ∷ number ∷ []) × IsCount number size

-- The words of a line say this.
abbrev pub IsSpoken : List (List ℕ) → Line → Type 0
IsSpoken words (Pieces size) = SaysPieces words size
IsSpoken words (Does step) = SaysStep words step
IsSpoken words line = ⊥

-- The text of a line says this. What is named stands behind the first word and one space.
abbrev pub IsLine : (text : List ℕ) → Line → Type 0
IsLine text Form = text ≡ codes "format 1"
IsLine text (Name name) = text ≡ codes "case " ++ name.now
IsLine text (Group group) = text ≡ codes "group " ++ group.now
IsLine text (Rule rule) = text ≡ codes "rule " ++ rule.now
IsLine text Profile = text ≡ codes "profile"
IsLine text (Pieces size) = SaysPieces (words text) size
IsLine text (Does step) = SaysStep (words text) step
