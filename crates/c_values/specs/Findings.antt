-- What was found in a stream, as it is told (profile).
use Rattle.std.specs.Prelude.{ℕ, ◌++◌, length, drop}
use Rattle.uecp_frame.specs.declared.frame.Frame.{Frame}
use Rattle.uecp_frame.specs.declared.fault.FrameFault.{FrameFault}
use Rattle.uecp_frame.specs.declared.fault.FrameFault.TheVariants.{Unended, BadStuffing, TooLong, TooShort, WrongLength}
use Rattle.uecp_frame.specs.declared.fault.FrameFault.TheVariants.{WrongCheck}
use Rattle.uecp_frame.specs.declared.fed.Found.{Found}
use Rattle.uecp_frame.specs.declared.fed.Found.TheVariants as it
use Rattle.uecp_frame.specs.Address.{site_of, encoder_of}
use Rattle.uecp_frame.specs.Fault.{number_of}
use Rattle.c_values.specs.declared.finding.Finding.{Finding}

-- The place of a bad stuffing; 0 of every other fault (profile).
abbrev pub place_of : FrameFault → ℕ
place_of Unended = 0
place_of (BadStuffing place) = place
place_of TooLong = 0
place_of TooShort = 0
place_of WrongLength = 0
place_of WrongCheck = 0

-- A frame is told by kind 1, its counter, the parts of its address, and its message at the start of the room for it;
-- all else stays (profile).
abbrev pub shown_frame : Finding → Frame → Finding
shown_frame told f = record told {
  kind = 1;
  counter = f.counter;
  length = length f.message;
  site = site_of f.address;
  encoder = encoder_of f.address;
  message = f.message ++ drop (length f.message) told.message;
}

-- Nothing is told by kind 0, a segment that is no frame by kind 2, its fault's number and its place; all else stays
-- (profile).
abbrev pub shown : Finding → Found → Finding
shown told it.Nothing = record told { kind = 0 }
shown told (it.Frame f) = shown_frame told f
shown told (it.Refused fault) = record told { kind = 2; fault = number_of fault; place = place_of fault }
