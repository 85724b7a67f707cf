use Rattle.std.proofs.Common.{◌≡◌, ◌*◌, ◌≤◌, length, take}
use Rattle.std.specs.List.{concat}
use Rattle.std.specs.Io.KnownBytes.{Appends}
use Rattle.uecp_link.specs.Joining.{frames_behind}
use Rattle.uecp_link.proofs.joining.write_pass.Given as goal

-- the frames up to this place are written
abbrev pub invariant-loop-place : goal.invariant-loop-place
invariant-loop-place g l = record {
  written : l.written ≡ length (concat (take l.place (frames_behind l.address l.behind)));
  few : l.written ≤ 524 * l.place;
  appended : Appends (g.W.Write.contents l.fn.writer.device) (g.W.Write.contents l.writer.device)
      (concat (take l.place (frames_behind l.address l.behind)));
  failures : l.writer.failures ≡ l.fn.writer.failures;
}
