-- What a live page made of the bytes of its input (profile).
use Rattle.std.specs.Prelude.{◌≡◌, ◌≢◌, ℕ, Bool, true, false, List, [], ◌∷◌, ◌++◌, All, Any, Option, Some, None}
use Rattle.serde_json.specs.Data.{Data}
use Rattle.page.specs.declared.intake.open_line.Cut.{Cut}
use Rattle.page.specs.declared.intake.open_line.Cut.TheVariants.{Nothing}
use Rattle.page.specs.declared.intake.taking.Taken.{Taken}
use Rattle.page.specs.declared.intake.taking.Intake.{Intake}
use Rattle.page.specs.State.{at_first}
use Rattle.page.specs.Taking.{IsOurs}
use Rattle.page.specs.Lines.{Cutting, Cuts, IsLast, Stands, AreAll}
use Rattle.page.specs.Intake.{Board, board_of, TakesIn}

-- Before the first line; the first event gets this number.
abbrev pub at_start : (first : ℕ) → Board
at_start first = record { shown = at_first; past = record { first = first; lines = [] }; count = 0; refused = false }

-- What was read and is not yet taken.
abbrev pub cutting_of : Intake → Cutting
cutting_of i = i.lines

-- The bytes of a line as they are taken: none of one that was too long.
abbrev pub bytes_left : Option (List ℕ) → List ℕ
bytes_left None = []
bytes_left (Some line) = line

-- Lines that were handed out were taken, each once and in this order, each as one that came at some time.
abbrev pub TakesAll : (out : List (Option (List ℕ))) → (before behind : Board) → Type 0
TakesAll [] before behind = behind ≡ before
TakesAll (told ∷ out) before behind =
    (came : ℕ) × (next : Board) × (taken : Taken) × TakesIn (bytes_left told) came before next taken
    × TakesAll out next behind

-- These bytes were read of an input, and this came of them: of their lines those that have ended were taken, each once
-- and in order; and what stands behind them waits.
pub record IntakeOf (first : ℕ) (bytes : List ℕ) (i : Intake) : Type 0 where
  pub out : List (Option (List ℕ))
  pub stands : Stands bytes out (cutting_of i)
  pub taken : TakesAll out (at_start first) (board_of i)

-- These are all bytes of an input, and this came of them: all their lines were taken, each once and in order.
pub record AllTaken (first : ℕ) (bytes : List ℕ) (behind : Board) : Type 0 where
  pub out : List (Option (List ℕ))
  pub are_all : AreAll bytes out
  pub taken : TakesAll out (at_start first) behind

-- One read brought these bytes, which are ahead then; no line was taken.
abbrev pub Brings : (bytes : List ℕ) → (before behind : Intake) → Type 0
Brings bytes before behind =
    (cutting_of behind ≡ record (cutting_of before) { ahead = bytes }) × (board_of behind ≡ board_of before)

-- The next line of what was read was cut and taken, once, as one that came then, and this is what it was; or none has
-- ended, and none was taken.
abbrev pub TakesNext : (came : ℕ) → (before behind : Intake) → Option Taken → Type 0
TakesNext came before behind None =
    Cuts (cutting_of before) (cutting_of behind) Nothing × (board_of behind ≡ board_of before)
TakesNext came before behind (Some taken) =
    (cut : Cut) × (cut ≢ Nothing) × Cuts (cutting_of before) (cutting_of behind) cut
    × TakesIn (cutting_of behind).held.line came (board_of before) (board_of behind) taken

-- At the end of the input the line that no line feed ends was taken, once, as one that came then, and this is what it
-- was; or there is none.
abbrev pub TakesLast : (came : ℕ) → (before behind : Intake) → Option Taken → Type 0
TakesLast came before behind None =
    IsLast (cutting_of before).held (cutting_of behind).held Nothing × (board_of behind ≡ board_of before)
TakesLast came before behind (Some taken) =
    (cut : Cut) × (cut ≢ Nothing) × IsLast (cutting_of before).held (cutting_of behind).held cut
    × TakesIn (cutting_of behind).held.line came (board_of before) (board_of behind) taken

-- Whatever was read before, these bytes were read behind it, and what came of all is this.
abbrev pub GoesOn : (more : List ℕ) → (before behind : Intake) → Type 0
GoesOn more before behind =
    (first : ℕ) (bytes : List ℕ) → IntakeOf first bytes before → IntakeOf first (bytes ++ more) behind

-- The same to the end of the input.
abbrev pub Ends : (more : List ℕ) → (before behind : Intake) → Type 0
Ends more before behind =
    (first : ℕ) (bytes : List ℕ) → IntakeOf first bytes before → AllTaken first (bytes ++ more) (board_of behind)

-- A line is an object of ours; one that was too long is none.
abbrev pub IsOurLine : Option (List ℕ) → Type 0
IsOurLine None = ⊥
IsOurLine (Some line) = (d : Data) × IsOurs line d

-- Whether one of these lines is no object of ours.
abbrev pub HasOther : (out : List (Option (List ℕ))) → Bool → Type 0
HasOther out true = Any (λ told. IsOurLine told → ⊥) out
HasOther out false = All IsOurLine out

-- Law: of an input it is remembered that a line was no object of ours exactly where one of its lines was none.
abbrev pub RefusedExactly : Type 0
RefusedExactly =
    (first : ℕ) (bytes : List ℕ) (behind : Board) → AllTaken first bytes behind
    → (out : List (Option (List ℕ))) × AreAll bytes out × HasOther out behind.refused
