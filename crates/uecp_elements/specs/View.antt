-- What the code's elements hold, without where their names and texts lie in memory.
use Rattle.std.specs.Prelude.{Result, Ok, Err}
use Rattle.uecp_elements.specs.declared.part.RtPart.{RtPart}
use Rattle.uecp_elements.specs.declared.part.RtPart.TheVariants as part
use Rattle.uecp_elements.specs.declared.element.Element.{Element as Borrowed}
use Rattle.uecp_elements.specs.declared.element.Element.TheVariants as borrowed
use Rattle.uecp_elements.specs.declared.fault.ElementFault.{ElementFault}
use Rattle.uecp_elements.specs.Grammar.{Part, NoText, Text, Element, Pi, Ps, TaTp, Ms, Pty, Rt, Select, Group, Ack}
use Rattle.uecp_elements.specs.Reading.{Item}

-- What a RadioText's part holds.
abbrev pub part_of : RtPart → Part
part_of part.Empty = NoText
part_of (part.Text head text) = Text head text.now

-- What an element holds.
abbrev pub element_of : Borrowed → Element
element_of (borrowed.Pi dsn psn pi) = Pi dsn psn pi
element_of (borrowed.Ps dsn psn name) = Ps dsn psn name.now
element_of (borrowed.TaTp dsn psn raw) = TaTp dsn psn raw
element_of (borrowed.Ms dsn psn raw) = Ms dsn psn raw
element_of (borrowed.Pty dsn psn raw) = Pty dsn psn raw
element_of (borrowed.Rt dsn psn part) = Rt dsn psn (part_of part)
element_of (borrowed.Select dsn) = Select dsn
element_of (borrowed.Group kind mode block3 block4) = Group kind mode block3 block4
element_of (borrowed.Ack code counter) = Ack code counter

-- What an item of the iterator holds.
abbrev pub item_of : Result Borrowed ElementFault → Item
item_of (Ok e) = Ok (element_of e)
item_of (Err fault) = Err fault
