-- The lines of frames, of segments that are none, and of what an encoder answers (profile).
use Rattle.std.specs.Prelude.{ℕ, List, [], ◌∷◌, ◌++◌, codes, Option, Some, None, Ok, Err}
use Rattle.serde_json.specs.Data.{Data, null, boolean, string}
use Rattle.uecp_frame.specs.declared.fault.FrameFault.{FrameFault}
use Rattle.uecp_frame.specs.declared.fault.FrameFault.TheVariants.{Unended, BadStuffing, TooLong, TooShort, WrongLength}
use Rattle.uecp_frame.specs.declared.fault.FrameFault.TheVariants.{WrongCheck}
use Rattle.uecp_frame.specs.Fault.{number_of, name_of}
use Rattle.uecp_frame.specs.Address.{site_of, encoder_of}
use Rattle.uecp_frame.specs.declared.frame.Frame.{Frame}
use Rattle.uecp_frame.specs.Findings.{Finding}
use Rattle.uecp_elements.specs.Codes.{byte_of}
use Rattle.uecp_elements.specs.declared.fault.ElementFault.{ElementFault}
use Rattle.uecp_elements.specs.Reading.{Item, items}
use Rattle.uecp_encoder.specs.Answering.{Response, Replied, NotForMe, Unnumbered, NotNext, Dropped}
use Rattle.json_lines.specs.Objects.{Field, object_of, list_of, in_decimal, in_digits, line_of}
use Rattle.uecp_json.specs.Elements.{element_object}

-- The objects of the elements among the items of a message (profile).
abbrev pub objects_in : List Item → List Data
objects_in [] = []
objects_in (Ok element ∷ rest) = element_object element ∷ objects_in rest
objects_in (Err fault ∷ rest) = objects_in rest

-- The fault among the items of a message, where it has one (profile).
abbrev pub fault_in : List Item → Option ElementFault
fault_in [] = None
fault_in (Ok element ∷ rest) = fault_in rest
fault_in (Err fault ∷ rest) = Some fault

-- The object of that fault: its code and its place; null where there is none (profile).
abbrev pub fault_object : Option ElementFault → Data
fault_object None = null
fault_object (Some fault) =
    object_of ((codes "code", in_digits (byte_of fault.code ∷ [])) ∷ (codes "place", in_decimal fault.place) ∷ [])

-- To whom a frame is sent, as a site and an encoder there, and its sequence counter (SPB 490, frame format).
abbrev pub head_fields : (address counter : ℕ) → List Field
head_fields address counter =
    (codes "site", in_decimal (site_of address)) ∷ (codes "encoder", in_decimal (encoder_of address))
    ∷ (codes "counter", in_decimal counter) ∷ []

-- A message as its bytes and as its elements, and the fault that ends it, if one does (profile).
abbrev pub message_fields : (message : List ℕ) → List Field
message_fields message =
    (codes "message", in_digits message) ∷ (codes "elements", list_of (objects_in (items message)))
    ∷ (codes "fault", fault_object (fault_in (items message))) ∷ []

-- The line of a frame (profile).
abbrev pub frame_line : Frame → List ℕ
frame_line f = line_of (codes "frame") (head_fields f.address f.counter ++ message_fields f.message)

-- Where BadStuffing stands; the other faults have no place (profile).
abbrev pub place_of : FrameFault → Data
place_of (BadStuffing place) = in_decimal place
place_of Unended = null
place_of TooLong = null
place_of TooShort = null
place_of WrongLength = null
place_of WrongCheck = null

-- The line of a segment that is no frame: the number, the name and the place of its fault (profile).
abbrev pub dropped_line : FrameFault → List ℕ
dropped_line fault = line_of (codes "dropped") (
    (codes "fault", in_decimal (number_of fault)) ∷ (codes "name", string (name_of fault))
    ∷ (codes "place", place_of fault) ∷ [])

-- The line of a finding: a frame, or a segment that is none (profile).
abbrev pub finding_line : Finding → List ℕ
finding_line (Ok f) = frame_line f
finding_line (Err fault) = dropped_line fault

-- The line of what an encoder answers: the reply, and whether it is fresh or the kept one; or why there is none
-- (profile).
abbrev pub response_line : Response → List ℕ
response_line (Replied bytes fresh) =
    line_of (codes "reply") ((codes "fresh", boolean fresh) ∷ (codes "reply", in_digits bytes) ∷ [])
response_line NotForMe = line_of (codes "not_for_me") []
response_line Unnumbered = line_of (codes "unnumbered") []
response_line NotNext = line_of (codes "not_next") []
response_line (Dropped fault) = dropped_line fault
