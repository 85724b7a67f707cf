use Rattle.std.proofs.Common.{◌≡◌, None}
use Rattle.std.specs.List.{last_or}
use Rattle.uecp_link.proofs.pieces.give_cut.Given as goal

abbrev pub invariant-loop-length : goal.invariant-loop-length
invariant-loop-length g l = record {
  state : g.E.End.after l.end l.rest ≡ g.E.End.after l.fn.end l.bytes;
  said : last_or l.last (g.E.End.says l.end l.rest) ≡ last_or None (g.E.End.says l.fn.end l.bytes);
}
