use Rattle.std.proofs.Common.{◌≡◌, length}
use Rattle.std.specs.List.{last_or}
use Rattle.uecp_link.proofs.pieces.give_piece.Given as goal

abbrev pub invariant-loop-rest : goal.invariant-loop-rest
invariant-loop-rest g l = record {
  state : g.E.End.after l.end l.rest ≡ g.E.End.after l.fn.end l.piece;
  said : last_or l.last (g.E.End.says l.end l.rest) ≡ last_or l.fn.before (g.E.End.says l.fn.end l.piece);
}

abbrev pub decreases-loop-rest : goal.decreases-loop-rest
decreases-loop-rest g l = length l.rest
