-- Frames by the parts of their address (SPB 490, addressing and frame format).
use Rattle.std.specs.Prelude.{ℕ, ◌+◌, ◌*◌, ◌&&◌, nat_lt, nat_le, if◌then◌else◌, List, [], length}
use Rattle.uecp_frame.specs.Frame.{spelling}

-- What is sent of a frame with these parts: its spelling. There is none with a site above 1023, an encoder above 63 or
-- more than 255 bytes of message, and nothing is sent of it (SPB 490, addressing and frame format).
abbrev pub frame_bytes : (site encoder counter : ℕ) → (message : List ℕ) → List ℕ
frame_bytes site encoder counter message =
    if nat_lt site 1024 && nat_lt encoder 64 && nat_le (length message) 255 then
    spelling (record { address = site * 64 + encoder; counter = counter; message = message })
    else []
