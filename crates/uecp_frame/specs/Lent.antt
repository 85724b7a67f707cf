-- What a deframer lends.
use Rattle.std.specs.Prelude.{◌≡◌, ℕ, ◌≤◌, length}
use Rattle.uecp_frame.specs.declared.frame.Frame.{Frame}
use Rattle.uecp_frame.specs.declared.fed.Found.{Found}
use Rattle.uecp_frame.specs.declared.fed.Found.TheVariants as owned
use Rattle.uecp_frame.specs.declared.fed.Fed.{Fed}
use Rattle.uecp_frame.specs.declared.fed_ref.FrameRef.{FrameRef}
use Rattle.uecp_frame.specs.declared.fed_ref.FoundRef.{FoundRef}
use Rattle.uecp_frame.specs.declared.fed_ref.FoundRef.TheVariants as lent
use Rattle.uecp_frame.specs.declared.fed_ref.FedRef.{FedRef}

-- A lent frame stands for the frame with its address, its counter and the lent message (profile).
abbrev pub frame_lent : FrameRef → Frame
frame_lent f = record { address = f.address.now; counter = f.counter; message = f.message.now }

-- What was found is the same, lent or not (profile).
abbrev pub found_lent : FoundRef → Found
found_lent lent.Nothing = owned.Nothing
found_lent (lent.Frame f) = owned.Frame (frame_lent f)
found_lent (lent.Refused fault) = owned.Refused fault

-- A lent answer stands for the answer with as many used bytes that found the same (profile).
abbrev pub fed_lent : FedRef → Fed
fed_lent fed = record { used = fed.used; found = found_lent fed.found }

-- A lent message has at most n bytes.
abbrev pub LendsAtMost : ℕ → FoundRef → Type 0
LendsAtMost n found = (f : FrameRef) → found ≡ lent.Frame f → length f.message.now ≤ n
