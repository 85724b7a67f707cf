use Rattle.std.proofs.Common.{◌≡◌, length, false}
use Rattle.uecp_frame.specs.Beyond.{found_beyond, open_beyond}
use Rattle.live_edges.specs.Awaited.{heard_all}
use Rattle.live_edges.proofs.awaited.Awaited.heard.Given as goal

-- what is left comes to the same
abbrev pub invariant-loop-rest : goal.invariant-loop-rest
invariant-loop-rest l = record {
  address : l.self.address ≡ l.fn.self.address;
  written : l.self.written ≡ l.fn.self.written;
  part : open_beyond l.self.read l.rest ≡ open_beyond l.fn.self.read l.bytes;
  replies : heard_all l.fn.self.address (record { waits = l.self.waits; came = l.came })
      (found_beyond l.self.read l.rest)
      ≡ heard_all l.fn.self.address (record { waits = l.fn.self.waits; came = false })
      (found_beyond l.fn.self.read l.bytes);
}

abbrev pub decreases-loop-rest : goal.decreases-loop-rest
decreases-loop-rest l = length l.rest
