use Rattle.std.proofs.Common.{◌≡◌, ◌<◌, ◌≤◌, ◌-◌, ℕ, false, None, [], length, take, slice_index}
use Rattle.uecp_frame.specs.Stuffing.{stuffed}
use Rattle.uecp_frame.specs.Findings.{Part}
use Rattle.uecp_frame.specs.Beyond.{prolonged}
use Rattle.uecp_frame.proofs.open_segment.OpenSegment.keep_escape.Given as goal

abbrev pub invariant-loop-used : goal.invariant-loop-used
invariant-loop-used l = record {
  fits : l.used ≤ length l.rest;
  inside : (k : ℕ) → k < l.used → slice_index l.rest k < 254;
  certain : l.self.fault ≡ None;
  plain : l.self.is_escaping ≡ false;
  opened : l.self.is_open ≡ l.fn.self.is_open;
  counted : l.self.sent ≡ length (stuffed l.self.plain.items);
  part : prolonged (Part (record { plain = l.fn.self.plain.items; rest = [] })) (take l.used l.rest)
      ≡ Part (record { plain = l.self.plain.items; rest = [] });
}

abbrev pub decreases-loop-used : goal.decreases-loop-used
decreases-loop-used l = length l.rest - l.used
