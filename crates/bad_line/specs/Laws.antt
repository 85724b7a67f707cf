-- Laws of a stream that is cut (profile).
use Rattle.std.specs.Prelude.{◌≡◌, ◌≤◌, ℕ, zero, suc, List, [], ◌∷◌, ◌++◌, ◌<◌, ◌-◌, ◌^◌}
use Rattle.bad_line.specs.declared.rules.fate.Fate.{Fate}
use Rattle.bad_line.specs.declared.rules.rule.Way.{Way}
use Rattle.bad_line.specs.declared.rules.rule.Rule.{Rule}
use Rattle.bad_line.specs.declared.rules.rule.Rule.TheVariants.{Lose, LoseByChance, DamageByChance, Delay, Pace}
use Rattle.bad_line.specs.Pieces.{Piece, Byte, Segment, bytes_of, AreCut}
use Rattle.bad_line.specs.Crossing.{Cutting, Crosses}

-- Law: what comes out of two parts of a stream, one behind the other, comes out of the stream.
abbrev pub CrossesInParts : Type 0
CrossesInParts = (a b c : Cutting) (first second out more : List ℕ) (fates others : List Fate)
    → Crosses a b first out fates → Crosses b c second more others
    → Crosses a c (first ++ second) (out ++ more) (fates ++ others)

-- Law: without rules what comes out is what came, but for what is held.
abbrev pub CrossesWhole : Type 0
CrossesWhole = (old new : Cutting) (bytes out : List ℕ) (fates : List Fate) → old.faults.rules ≡ []
    → Crosses old new bytes out fates → out ++ new.held ≡ old.held ++ bytes

-- The rule changes nothing of the segments up to this number: it is one of chance that holds from a later one on, or a
-- delay or a pace, which change none.
abbrev pub IsLater : (number : ℕ) → Rule → Type 0
IsLater number (LoseByChance percent from) = number < from
IsLater number (DamageByChance percent from) = number < from
IsLater number (Delay milliseconds from) = Unit {0}
IsLater number (Pace milliseconds from) = Unit {0}
IsLater number rule = ⊥

-- All of the rules do.
abbrev pub AreLater : (number : ℕ) → List Rule → Type 0
AreLater number [] = Unit {0}
AreLater number (rule ∷ rules) = IsLater number rule × AreLater number rules

-- Law: with rules that hold from a later segment on than the last that came, what comes out is what came, but for what
-- is held.
abbrev pub CrossesUntouched : Type 0
CrossesUntouched = (old new : Cutting) (bytes out : List ℕ) (fates : List Fate)
    → AreLater new.faults.passed old.faults.rules → new.faults.passed < 2 ^ 64 - 1
    → Crosses old new bytes out fates → out ++ new.held ≡ old.held ++ bytes

-- What came without the segment of this number, counted from 1.
abbrev pub without : (number : ℕ) → List Piece → List Piece
without number [] = []
without number (Byte byte ∷ pieces) = Byte byte ∷ without number pieces
without zero (Segment segment fate ∷ pieces) = Segment segment fate ∷ without zero pieces
without (suc zero) (Segment segment fate ∷ pieces) = pieces
without (suc (suc number)) (Segment segment fate ∷ pieces) = Segment segment fate ∷ without (suc number) pieces

-- Law: of a stream with the one rule that the segment of some number is lost all comes out but that segment.
abbrev pub LosesOne : Type 0
LosesOne = (way : Way) (number : ℕ) (new : Cutting) (bytes out : List ℕ) (fates : List Fate) → 1 ≤ number
    → number < 2 ^ 32
    → Crosses (record {
      held = [];
      faults = record { rules = Lose way (record { first = number; last = number }) ∷ []; way = way; passed = 0 };
    }) new bytes out fates
    → (pieces : List Piece) × (bytes_of pieces ++ new.held ≡ bytes) × AreCut pieces new.held
    × (out ≡ bytes_of (without number pieces))
