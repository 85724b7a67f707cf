use Rattle.std.proofs.Common.{◌≡◌, ◌≤◌, length}
use Rattle.rds_groups.specs.Shown.{text_shown}
use Rattle.rds_groups.specs.View.{receiver_of, heard_in}
use Rattle.rds_groups.proofs.Lines.{IsSoFar}
use Rattle.rds_groups.proofs.receiver.Receiver.text_shown.Given as goal

abbrev pub invariant-loop-place : goal.invariant-loop-place
invariant-loop-place l = record {
  few : l.count ≤ 64;
  long : length l.shown.items ≡ l.place;
  so_far : IsSoFar (text_shown (receiver_of l.self)) l.shown.items l.count l.place (heard_in l.self.text);
}
