use Rattle.std.proofs.Common.{◌≡◌, ◌≤◌, take}
use Rattle.uecp_c.specs.Findings.{open_length}
use Rattle.uecp_c.proofs.first_finding.open_length.Given as goal

abbrev pub invariant-loop-byte : goal.invariant-loop-byte
invariant-loop-byte l = record {
  exact : l.open ≡ open_length (take l.byte-index l.bytes);
  fits : l.open ≤ l.byte-index;
}
