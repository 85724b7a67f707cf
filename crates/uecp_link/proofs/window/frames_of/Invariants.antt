use Rattle.std.proofs.Common.{◌≡◌, ◌*◌, ◌≤◌, length, take}
use Rattle.std.specs.List.{concat}
use Rattle.uecp_link.specs.Server.{frames_waiting}
use Rattle.uecp_link.proofs.window.frames_of.Given as goal

-- the frames up to this place, one after another
abbrev pub invariant-loop-place : goal.invariant-loop-place
invariant-loop-place l = record {
  all : l.bytes.items ≡ concat (take l.place (frames_waiting l.server));
  few : length l.bytes.items ≤ 524 * l.place;
}
