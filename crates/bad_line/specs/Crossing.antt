-- What comes out of a stream on a bad line (profile).
use Rattle.std.specs.Prelude.{◌≡◌, ◌+◌, ◌-◌, ◌^◌, min, ℕ, List, [], ◌∷◌, ◌++◌, length}
use Rattle.bad_line.specs.declared.rules.fate.Fate.{Fate}
use Rattle.bad_line.specs.Fates.{Passing, MayCome}
use Rattle.bad_line.specs.Pieces.{Piece, Byte, Segment, bytes_of, fates_of, out_of, AreCut}

-- A stream that is cut: what is held of a segment whose end has not come, and the rules of its direction with how many
-- segments have come.
pub record Cutting : Type 0 where
  pub held : List ℕ
  pub faults : Passing

-- One more segment has come; 2^64 - 1 stands for all numbers above it.
abbrev pub one_more : Passing → Passing
one_more faults = record faults { passed = min (faults.passed + 1) (2 ^ 64 - 1) }

-- What comes of each segment is what may come of the segment of its number; and only segments are counted.
abbrev pub AreRuled : Passing → List Piece → Passing → Type 0
AreRuled before [] after = after ≡ before
AreRuled before (Byte byte ∷ pieces) after = AreRuled before pieces after
AreRuled before (Segment segment fate ∷ pieces) after =
    MayCome before.rules before.way (one_more before).passed (length segment) fate
    × AreRuled (one_more before) pieces after

-- Bytes came behind what was held, in pieces and with what is held now behind them. These bytes came out, and this came
-- of the segments.
pub record Crosses (old new : Cutting) (bytes out : List ℕ) (fates : List Fate) : Type 0 where
  pub pieces : List Piece
  pub joined : bytes_of pieces ++ new.held ≡ old.held ++ bytes
  pub are_cut : AreCut pieces new.held
  pub are_ruled : AreRuled old.faults pieces new.faults
  pub out_is : out ≡ out_of pieces
  pub fates_are : fates ≡ fates_of pieces
