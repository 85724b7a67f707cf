-- What a reply's code means, in a user's words (profile).
use Rattle.std.specs.Prelude.{ℕ, List, codes}
use Rattle.uecp_elements.specs.declared.code.Code.{Code}
use Rattle.uecp_elements.specs.declared.code.Code.TheVariants.{Applied, UnknownElement, DataSet, Service, OutOfRange}
use Rattle.uecp_elements.specs.declared.code.Code.TheVariants.{ElementLength, NotHere, BufferFull}

-- The meaning of each code, in the order of their bytes (profile).
abbrev pub meaning_of : Code → List ℕ
meaning_of Applied = codes "applied"
meaning_of UnknownElement = codes "unknown element"
meaning_of DataSet = codes "no such data set, or a selection of several"
meaning_of Service = codes "no such programme service"
meaning_of OutOfRange = codes "a value out of range"
meaning_of ElementLength = codes "wrong length of an element"
meaning_of NotHere = codes "an acknowledgement was sent to the encoder"
meaning_of BufferFull = codes "the buffer is full"
