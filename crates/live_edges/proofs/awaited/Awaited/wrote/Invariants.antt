use Rattle.std.proofs.Common.{◌≡◌, length}
use Rattle.uecp_frame.specs.Beyond.{found_beyond, open_beyond}
use Rattle.live_edges.specs.Awaited.{sent_all}
use Rattle.live_edges.proofs.awaited.Awaited.wrote.Given as goal

-- what is left comes to the same
abbrev pub invariant-loop-rest : goal.invariant-loop-rest
invariant-loop-rest l = record {
  address : l.self.address ≡ l.fn.self.address;
  read : l.self.read ≡ l.fn.self.read;
  part : open_beyond l.self.written l.rest ≡ open_beyond l.fn.self.written l.bytes;
  waits : sent_all l.fn.self.address l.self.waits (found_beyond l.self.written l.rest)
      ≡ sent_all l.fn.self.address l.fn.self.waits (found_beyond l.fn.self.written l.bytes);
}

abbrev pub decreases-loop-rest : goal.decreases-loop-rest
decreases-loop-rest l = length l.rest
