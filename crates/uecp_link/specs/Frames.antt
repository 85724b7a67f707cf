-- Frames that carry messages; a reader has to believe it. Source: RDS Forum SPB 490, frame format.
use Rattle.std.specs.Prelude.{ℕ, List}
use Rattle.uecp_frame.specs.declared.frame.Frame.{Frame}

-- The frame that carries a message under a counter to an address.
abbrev pub frame_under : ℕ → ℕ × List ℕ → Frame
frame_under address w = record { address = address; counter = w.0; message = w.1 }
