-- What an encoder holds apart from the open part of the line. Source: profile.
use Rattle.uecp_frame.specs.Findings.{OpenPart}
use Rattle.uecp_encoder.specs.declared.holdings.Holdings.{Holdings}
use Rattle.uecp_encoder.specs.State.{EncoderState}

-- an encoder with these holdings, and with this part of the stream open
abbrev pub with_part : {T : Type 0} → Holdings T → OpenPart → EncoderState T
with_part h part = record { address = h.address; value = h.target; ring = h.ring; counts = h.counts; part = part }
