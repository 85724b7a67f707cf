-- Names by their numbers (profile).
use Rattle.std.specs.Prelude.{ℕ, ◌==◌, if◌then◌else◌, List, [], codes, Option, Some, None}
use Rattle.std.specs.Option.{option_map_or}
use Rattle.uecp_frame.specs.declared.fault.FrameFault.{FrameFault}
use Rattle.uecp_frame.specs.declared.fault.FrameFault.TheVariants.{Unended, BadStuffing, TooLong, TooShort, WrongLength}
use Rattle.uecp_frame.specs.declared.fault.FrameFault.TheVariants.{WrongCheck}
use Rattle.uecp_frame.specs.Fault.{name_of}
use Rattle.uecp_elements.specs.declared.code.Code.{Code}
use Rattle.uecp_elements.specs.declared.code.Code.TheVariants.{Applied, UnknownElement, DataSet, Service, OutOfRange}
use Rattle.uecp_elements.specs.declared.code.Code.TheVariants.{ElementLength, NotHere, BufferFull}
use Rattle.uecp_elements.specs.Codes.{code_of_byte}

-- The fault of a segment that has this number; a bad stuffing with any place, as 0 (profile).
abbrev pub fault_of : ℕ → Option FrameFault
fault_of number =
    if number == 1 then Some Unended
    else if number == 2 then Some (BadStuffing 0)
    else if number == 3 then Some TooLong
    else if number == 4 then Some TooShort
    else if number == 5 then Some WrongLength
    else if number == 6 then Some WrongCheck
    else None

-- Its name; none where no fault has this number (profile).
abbrev pub fault_name : ℕ → List ℕ
fault_name number = option_map_or name_of (fault_of number) []

-- The name of a reply code (profile).
abbrev pub code_name : Code → List ℕ
code_name Applied = codes "Applied"
code_name UnknownElement = codes "UnknownElement"
code_name DataSet = codes "DataSet"
code_name Service = codes "Service"
code_name OutOfRange = codes "OutOfRange"
code_name ElementLength = codes "ElementLength"
code_name NotHere = codes "NotHere"
code_name BufferFull = codes "BufferFull"

-- The name of the code that is sent by this byte; none where none is (profile).
abbrev pub byte_name : ℕ → List ℕ
byte_name byte = option_map_or code_name (code_of_byte byte) []
