-- The lines of frames, elements and faults, as `show` and `answer` write them (profile).
use Rattle.std.specs.Prelude.{ℕ, List, [], ◌++◌, codes, flat_map, if◌then◌else◌, Ok, Err}
use Rattle.uecp_frame.specs.declared.fault.FrameFault.{FrameFault}
use Rattle.uecp_frame.specs.declared.fault.FrameFault.TheVariants.{Unended, BadStuffing, TooLong, TooShort, WrongLength}
use Rattle.uecp_frame.specs.declared.fault.FrameFault.TheVariants.{WrongCheck}
use Rattle.uecp_frame.specs.Fault.{number_of, name_of}
use Rattle.uecp_elements.specs.Grammar.{Part, NoText, Text, Element, Pi, Ps, TaTp, Ms, Pty, Rt, Select, Group, Ack}
use Rattle.uecp_elements.specs.Codes.{byte_of}
use Rattle.uecp_elements.specs.Reading.{Item, items}
use Rattle.uecp_frame.specs.declared.frame.Frame.{Frame}
use Rattle.uecp_frame.specs.Findings.{Finding}
use Rattle.uecp_encoder.specs.Answering.{Response, Replied, NotForMe, Unnumbered, NotNext, Dropped}
use Rattle.uecp_text.specs.Digits.{byte_word, number_word, row_word, decimal_word}

-- What an element's line says after the numbers of data set and service, for the part of a RadioText.
abbrev pub part_words : Part → List ℕ
part_words NoText = codes " empty"
part_words (Text head text) = byte_word head ++ row_word text

-- What the line of an element says: its name and its content, in the order in which they are sent.
abbrev pub element_words : Element → List ℕ
element_words (Pi dsn psn pi) = codes "pi" ++ byte_word dsn ++ byte_word psn ++ number_word pi
element_words (Ps dsn psn name) = codes "ps" ++ byte_word dsn ++ byte_word psn ++ row_word name
element_words (TaTp dsn psn raw) = codes "tatp" ++ byte_word dsn ++ byte_word psn ++ byte_word raw
element_words (Ms dsn psn raw) = codes "ms" ++ byte_word dsn ++ byte_word psn ++ byte_word raw
element_words (Pty dsn psn raw) = codes "pty" ++ byte_word dsn ++ byte_word psn ++ byte_word raw
element_words (Rt dsn psn part) = codes "rt" ++ byte_word dsn ++ byte_word psn ++ part_words part
element_words (Select dsn) = codes "select" ++ byte_word dsn
element_words (Group kind mode block3 block4) = codes "group" ++ byte_word kind ++ byte_word mode ++ number_word block3
    ++ number_word block4
element_words (Ack code counter) = codes "ack" ++ byte_word code ++ byte_word counter

-- Where BadStuffing stands is said after its name; the other faults have no place.
abbrev pub place_words : FrameFault → List ℕ
place_words (BadStuffing place) = decimal_word place
place_words Unended = []
place_words TooLong = []
place_words TooShort = []
place_words WrongLength = []
place_words WrongCheck = []

-- The line of a segment that is no frame: the number and the name of its fault.
abbrev pub dropped_line : FrameFault → List ℕ
dropped_line fault = codes "dropped" ++ decimal_word (number_of fault) ++ codes " " ++ name_of fault
    ++ place_words fault ++ codes "\n"

-- The line of an item of a message: an element, or the fault that ends it, by its code and its place.
abbrev pub item_line : Item → List ℕ
item_line (Ok element) = element_words element ++ codes "\n"
item_line (Err fault) = codes "fault" ++ byte_word (byte_of fault.code) ++ decimal_word fault.place ++ codes "\n"

-- The lines of a frame: its address and counter, and then those of its message.
abbrev pub frame_lines : Frame → List ℕ
frame_lines f = codes "frame" ++ number_word f.address ++ byte_word f.counter ++ codes "\n"
    ++ flat_map item_line (items f.message)

-- The lines of a finding: a frame, or a segment that is none.
abbrev pub finding_lines : Finding → List ℕ
finding_lines (Ok f) = frame_lines f
finding_lines (Err fault) = dropped_line fault

-- The line of what an encoder answers: the reply, and whether it is new or the kept one.
abbrev pub response_line : Response → List ℕ
response_line (Replied bytes fresh) = codes "reply" ++ row_word bytes
    ++ (if fresh then codes " new\n" else codes " kept\n")
response_line NotForMe = codes "not for me\n"
response_line Unnumbered = codes "unnumbered\n"
response_line NotNext = codes "not next\n"
response_line (Dropped fault) = dropped_line fault
