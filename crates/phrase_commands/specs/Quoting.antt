-- Lines of text as strings of phrases (profile). Characters are their Unicode numbers.
use Rattle.std.specs.Prelude.{◌≡◌, ◌≢◌, ◌⊎◌, ◌≤◌, ℕ, ◌+◌, List, [], ◌∷◌, ◌++◌, length, map, chars, codes, Some}
use Rattle.std.specs.Prelude.{Option}
use Rattle.std.specs.Prelude.{encode_utf8_all, IsUtf8, Result, MatchResult}
use Rattle.std.specs.Io.KnownBytes.{Appends}
use Rattle.rds_text.specs.BasicSet.{character_of}
use Rattle.uecp_text.specs.Faults.{Fails, error_lines}
use Rattle.uecp_text.specs.Input.{lines_of, without_end}
use Rattle.uecp_text.specs.Run.{IsInput, IsUnread}
use Rattle.uecp_text.specs.Written.{Kept, Adds, Begins}
use Rattle.uecp_text.specs.declared.run_fault.RunFault.{RunFault}
use Rattle.uecp_text.specs.declared.run_fault.RunFault.TheVariants.{OutOfMemory, Text, Writing}
use Rattle.uecp_text.specs.declared.text_fault.TextFault.{TextFault}
use Rattle.phrase_scripts.specs.Lines.{IsUnsaid}
use Rattle.phrase_tokens.specs.Tokens.{Token, Word, Quoted, Semicolon, Lays, written_tokens}
use Rattle.notices.specs.Told.{Told, Says}
use Rattle.phrase_commands.specs.declared.page.TheConstants.{PHRASES}

-- ---- A text.

-- The bytes say the text, which is in UTF-8: each is one of its characters, in order, and they are 64 at most.
abbrev pub SayText : (text bytes : List ℕ) → Type 0
SayText text bytes = IsUtf8 text × (map character_of bytes ≡ map Some (chars text)) × (length bytes ≤ 64)

-- It is a string that says the text.
abbrev pub IsString : (text : List ℕ) → Token → Type 0
IsString text (Word w) = ⊥
IsString text (Quoted bytes) = SayText text bytes
IsString text Semicolon = ⊥

-- No string says it.
abbrev pub HasNoString : (text : List ℕ) → Type 0
HasNoString text = (bytes : List ℕ) → SayText text bytes → ⊥

-- ---- A line.

-- Read by the grammar of phrases the text is this token, and nothing else.
abbrev pub IsAlone : (text : List ℕ) → Token → Type 0
IsAlone text token =
    IsUtf8 text × Lays (token ∷ []) (chars text)
    × ((tokens : List Token) → Lays tokens (chars text) → tokens ≡ token ∷ [])

-- How a string is written, in UTF-8.
abbrev pub string_text : Token → List ℕ
string_text string = encode_utf8_all (written_tokens (string ∷ []))

-- The line of a string.
abbrev pub string_line : Token → List ℕ
string_line string = string_text string ++ codes "\n"

-- What is written of a text: a string that says it. Read by the grammar of phrases that is this string, and nothing
-- else.
abbrev pub IsQuoted : (text quoted : List ℕ) → Type 0
IsQuoted text quoted =
    (string : Token) × IsString text string × (quoted ≡ string_text string) × IsAlone quoted string

-- What is written of lines: of each what stands before its end as a string, and a line feed.
abbrev pub AreQuoted : (lines : List (List ℕ)) → (written : List ℕ) → Type 0
AreQuoted [] written = written ≡ []
AreQuoted (line ∷ lines) written =
    (quoted more : List ℕ) × IsQuoted (without_end line) quoted × (written ≡ (quoted ++ codes "\n") ++ more)
    × AreQuoted lines more

-- ---- An input.

-- What is taken of an input: all of it; and of one that has no bytes one empty line.
abbrev pub taken : (input : List ℕ) → List ℕ
taken [] = codes "\n"
taken (byte ∷ input) = byte ∷ input

-- The first of these lines were written, all that stand before one that no string says, with this number and fault.
pub record Stops (lines : List (List ℕ)) (written : List ℕ) (number : ℕ) (fault : TextFault) : Type 0 where
  pub before : List (List ℕ)
  pub line : List ℕ
  pub after : List (List ℕ)
  pub split : lines ≡ before ++ line ∷ after
  pub quoted : AreQuoted before written
  pub none : HasNoString (without_end line)
  pub counted : number ≡ length before + 1
  pub said : IsUnsaid fault

-- Some first lines are written so.
abbrev pub AreFirst : (lines : List (List ℕ)) → (written : List ℕ) → Type 0
AreFirst lines written =
    (before after : List (List ℕ)) × (lines ≡ before ++ after) × AreQuoted before written

-- What lines come to was added to the output: the strings of all; or those before one that no string says, and the
-- result says why; or of some, and memory was wanting.
abbrev pub QuotesInto : (input : List ℕ) → (before after : Kept) → Result (Unit {0}) RunFault → Type 0
QuotesInto input before after result =
    (written : List ℕ) × Adds before after written
    × MatchResult result (λ _. AreQuoted (lines_of input) written)
    (λ fault. ((fault ≡ OutOfMemory) × AreFirst (lines_of input) written)
    ⊎ ((number : ℕ) × (refusal : TextFault) × (fault ≡ Text number refusal)
    × Stops (lines_of input) written number refusal))

-- All that was read was written as strings, a line each, and nothing else was.
abbrev pub HasQuoted : (unread unread' held held' : Option (List ℕ)) → Type 0
HasQuoted unread unread' held held' =
    (input written : List ℕ) × IsInput unread unread' input × AreQuoted (lines_of (taken input)) written
    × Appends held held' written

-- All was read, and no string says one of its lines: what stands before it was written as strings, and nothing else;
-- and which line it is was said, and where it is at fault.
abbrev pub HasRefused : (unread unread' held held' : Option (List ℕ)) → (told told' : Told) → Type 0
HasRefused unread unread' held held' told told' =
    (input written : List ℕ) × (number : ℕ) × (refusal : TextFault) × IsInput unread unread' input
    × Stops (lines_of (taken input)) written number refusal × Appends held held' written
    × Says told told' (error_lines (Text number refusal))

-- The strings of some first lines, or a beginning of them, were written of what was read.
abbrev pub HasBegun : (unread unread' held held' : Option (List ℕ)) → Type 0
HasBegun unread unread' held held' =
    (input written : List ℕ) × IsInput unread unread' input × AreFirst (lines_of (taken input)) written
    × Begins held held' written

-- It failed, and that was said: the input was not read to its end, and nothing was written; or some strings were, as
-- far as it came.
abbrev pub HasStopped : (unread unread' held held' : Option (List ℕ)) → (told told' : Told) → Type 0
HasStopped unread unread' held held' told told' =
    (fault : RunFault) × Fails fault × Says told told' (error_lines fault)
    × ((IsUnread unread unread' fault × (held' ≡ held)) ⊎ HasBegun unread unread' held held')

-- What an input comes to, by the result. (private)
abbrev pub Quotes : (unread unread' held held' : Option (List ℕ)) → Result (Unit {0}) RunFault → Type 0
Quotes unread unread' held held' result =
    MatchResult result (λ _. HasQuoted unread unread' held held')
    (λ fault. (Fails fault × ((IsUnread unread unread' fault × (held' ≡ held)) ⊎ HasBegun unread unread' held held'))
    ⊎ ((input written : List ℕ) × (number : ℕ) × (refusal : TextFault) × (fault ≡ Text number refusal)
    × IsInput unread unread' input × Stops (lines_of (taken input)) written number refusal
    × Appends held held' written))

-- ---- By the exit status.

-- What comes of an input whose lines are quoted: its strings; or those of the lines before one that no string says; or
-- it failed.
pub record QuotesLines (status : ℕ) (unread unread' held held' : Option (List ℕ)) (told told' : Told) : Type 0 where
  pub done : status ≡ 0 → HasQuoted unread unread' held held' × (told' ≡ told)
  pub refused : status ≡ 1 → HasRefused unread unread' held held' told told'
  pub failed : status ≡ 3 → HasStopped unread unread' held held' told told'
  pub most : (status ≤ 3) × (status ≢ 2)

-- The page of phrases was written; or writing failed, and that was said.
pub record TellsPhrases (status : ℕ) (held held' : Option (List ℕ)) (told told' : Told) : Type 0 where
  pub done : status ≡ 0 → Appends held held' PHRASES.now × (told' ≡ told)
  pub failed : status ≢ 0 → (status ≡ 3) × Begins held held' PHRASES.now × Says told told' (error_lines Writing)
