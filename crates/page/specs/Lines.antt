-- Bytes that come in pieces, as lines (profile).
use Rattle.std.specs.Prelude.{◌≡◌, ◌≢◌, ℕ, Bool, List, [], ◌∷◌, ◌++◌, length, map, All, Option, Some, None}
use Rattle.std.specs.Prelude.{if◌then◌else◌, nat_le}
use Rattle.page.specs.declared.intake.open_line.Cut.{Cut}
use Rattle.page.specs.declared.intake.open_line.Cut.TheVariants.{Line, TooLong, Nothing}

-- No line feed is among these bytes.
abbrev pub HasNoEnd : List ℕ → Type 0
HasNoEnd bytes = All (λ byte. byte ≢ 10) bytes

-- Lines, and behind each the line feed that ends it.
abbrev pub ended : List (List ℕ) → List ℕ
ended [] = []
ended (line ∷ lines) = line ++ 10 ∷ ended lines

-- What is handed out of a line: its bytes, or of one of more than 65,536 bytes no more than that it was one.
abbrev pub handed : List ℕ → Option (List ℕ)
handed line = if nat_le (length line) 65536 then Some line else None

-- What is known of a line that goes on with more bytes.
abbrev pub longer : (begun : Option (List ℕ)) → (more : List ℕ) → Option (List ℕ)
longer None more = None
longer (Some begun) more = handed (begun ++ more)

-- The line that was handed out last, and what is known of the next: its bytes so far, or that it is too long.
pub record HeldLine : Type 0 where
  pub line : List ℕ
  pub begun : Option (List ℕ)

abbrev pub begun_of : (is_long : Bool) → (part : List ℕ) → Option (List ℕ)
begun_of is_long part = if is_long then None else Some part

-- The line has ended and is handed out: as it is known, or as one that is too long, of which nothing is left. The next
-- has no bytes yet.
abbrev pub IsHanded : (before behind : HeldLine) → Cut → Type 0
IsHanded before behind Line = (before.begun ≡ Some behind.line) × (behind.begun ≡ Some [])
IsHanded before behind TooLong = (before.begun ≡ None) × (behind.line ≡ []) × (behind.begun ≡ Some [])
IsHanded before behind Nothing = ⊥

-- At the end of the input the line is handed out that no line feed ends, if there are any bytes of it.
abbrev pub IsLast : (before behind : HeldLine) → Cut → Type 0
IsLast before behind Line = IsHanded before behind Line × (behind.line ≢ [])
IsLast before behind TooLong = IsHanded before behind TooLong
IsLast before behind Nothing = (before.begun ≡ Some []) × (behind ≡ before)

-- Where the cutting stands: at which line, and what was read behind that and is not yet cut.
pub record Cutting : Type 0 where
  pub held : HeldLine
  pub ahead : List ℕ

-- Nothing was read.
abbrev pub nothing_read : Cutting
nothing_read = record { held = record { line = []; begun = Some [] }; ahead = [] }

-- What was read goes on with this text, a line feed, and what is ahead then; so the line ends, and is handed out.
pub record CutsLine (before behind : Cutting) (cut : Cut) : Type 0 where
  pub text : List ℕ
  pub no_end : HasNoEnd text
  pub parts : before.ahead ≡ text ++ 10 ∷ behind.ahead
  pub handed : IsHanded (record (before.held) { begun = longer before.held.begun text }) behind.held cut

-- The next line was cut of what was read; or no line feed is in that, and the line goes on with all of it.
abbrev pub Cuts : (before behind : Cutting) → Cut → Type 0
Cuts before behind Line = CutsLine before behind Line
Cuts before behind TooLong = CutsLine before behind TooLong
Cuts before behind Nothing =
    HasNoEnd before.ahead × (behind.held.begun ≡ longer before.held.begun before.ahead) × (behind.ahead ≡ [])

-- What happens to a cutting: a read brings bytes, where all before is cut; or the next line is asked for, and this is
-- handed out.
pub data Turn : Type 0 where
  bytes_come : (bytes : List ℕ) → Turn
  is_asked : (cut : Cut) → (line : List ℕ) → Turn

-- What each turn makes of it, as the contracts of `Lines::read` and `Lines::cut` have it.
abbrev pub Becomes : Turn → (x x' : Cutting) → Type 0
Becomes (bytes_come bytes) x x' = (x.ahead ≡ []) × (x' ≡ record x { ahead = bytes })
Becomes (is_asked cut line) x x' = Cuts x x' cut × (line ≡ x'.held.line)

-- One turn after another.
abbrev pub Runs : (x : Cutting) → List Turn → (x' : Cutting) → Type 0
Runs x [] x' = x' ≡ x
Runs x (turn ∷ turns) x' = (next : Cutting) × Becomes turn x next × Runs next turns x'

-- All bytes that came.
abbrev pub bytes_of : List Turn → List ℕ
bytes_of [] = []
bytes_of (bytes_come bytes ∷ turns) = bytes ++ bytes_of turns
bytes_of (is_asked cut line ∷ turns) = bytes_of turns

-- All that was handed out: a line, or of one that was too long that it was one.
abbrev pub out_of : Cut → (line : List ℕ) → List (Option (List ℕ))
out_of Line line = Some line ∷ []
out_of TooLong line = None ∷ []
out_of Nothing line = []

abbrev pub handed_of : List Turn → List (Option (List ℕ))
handed_of [] = []
handed_of (bytes_come bytes ∷ turns) = handed_of turns
handed_of (is_asked cut line ∷ turns) = out_of cut line ++ handed_of turns

-- Of all bytes that came these lines have ended and were handed out, each once and in order; then these have begun
-- the next; and the rest is ahead.
pub record Stands (bytes : List ℕ) (out : List (Option (List ℕ))) (x : Cutting) : Type 0 where
  pub lines : List (List ℕ)
  pub rest : List ℕ
  pub parts : bytes ≡ ended lines ++ (rest ++ x.ahead)
  pub no_ends : All HasNoEnd lines
  pub no_end : HasNoEnd rest
  pub out_is : out ≡ map handed lines
  pub begun_is : x.held.begun ≡ handed rest

-- Law: so it stands whatever came and whenever a line was asked for.
abbrev pub EachLineOnce : Type 0
EachLineOnce =
    (turns : List Turn) (x : Cutting) → Runs nothing_read turns x → Stands (bytes_of turns) (handed_of turns) x

-- What stands behind the last line feed is a line, if anything does.
abbrev pub last_of : List ℕ → List (List ℕ)
last_of [] = []
last_of (byte ∷ rest) = (byte ∷ rest) ∷ []

-- These are the lines of all bytes, each handed out once and in order.
pub record AreAll (bytes : List ℕ) (out : List (Option (List ℕ))) : Type 0 where
  pub lines : List (List ℕ)
  pub rest : List ℕ
  pub parts : bytes ≡ ended lines ++ rest
  pub no_ends : All HasNoEnd lines
  pub no_end : HasNoEnd rest
  pub out_is : out ≡ map handed (lines ++ last_of rest)

-- Law: at the end of the input, where all is cut, with the last line, as `Lines::last` has it, all lines were.
abbrev pub AllLinesAtEnd : Type 0
AllLinesAtEnd =
    (bytes : List ℕ) (out : List (Option (List ℕ))) (x : Cutting) (held : HeldLine) (cut : Cut) → Stands bytes out x
    → x.ahead ≡ [] → IsLast x.held held cut → AreAll bytes (out ++ out_of cut held.line)
