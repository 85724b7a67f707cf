-- The byte of each reply code, and the code of each byte.
use Rattle.std.specs.Prelude.{◌≡◌, ℕ, ◌==◌, if◌then◌else◌, Option, Some, None}
use Rattle.uecp_elements.specs.declared.code.Code.{Code}
use Rattle.uecp_elements.specs.declared.code.Code.TheVariants.{Applied, UnknownElement, DataSet, Service, OutOfRange}
use Rattle.uecp_elements.specs.declared.code.Code.TheVariants.{ElementLength, NotHere, BufferFull}

-- The byte by which a code is sent (profile).
abbrev pub byte_of : Code → ℕ
byte_of Applied = 0x00
byte_of UnknownElement = 0x03
byte_of DataSet = 0x04
byte_of Service = 0x05
byte_of OutOfRange = 0x06
byte_of ElementLength = 0x07
byte_of NotHere = 0x09
byte_of BufferFull = 0x0B

-- The code that a byte stands for; every other byte stands for none (profile).
unfoldable pub code_of_byte : ℕ → Option Code
code_of_byte byte =
    if byte == 0x00 then Some Applied
    else if byte == 0x03 then Some UnknownElement
    else if byte == 0x04 then Some DataSet
    else if byte == 0x05 then Some Service
    else if byte == 0x06 then Some OutOfRange
    else if byte == 0x07 then Some ElementLength
    else if byte == 0x09 then Some NotHere
    else if byte == 0x0B then Some BufferFull
    else None

-- Law: a code's byte stands for that code (profile).
abbrev pub IsReadBack : Type 0
IsReadBack = (code : Code) → code_of_byte (byte_of code) ≡ Some code

-- Law: a byte that stands for a code is that code's byte (profile).
abbrev pub IsWrittenBack : Type 0
IsWrittenBack = (byte : ℕ) (code : Code) → code_of_byte byte ≡ Some code → byte_of code ≡ byte
