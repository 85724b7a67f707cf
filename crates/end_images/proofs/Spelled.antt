-- A message has room for each element.
use Rattle.std.proofs.Common.{◌≤◌, length, arith}
use Rattle.uecp_elements.specs.Grammar.{Element, Pi, Ps, TaTp, Ms, Pty, Rt, NoText, Text, Select, Group, Ack, IsElement}
use Rattle.uecp_elements.specs.Grammar.{spelling}

pub short : (e : Element) → IsElement e → length (spelling e) ≤ 255
short (Pi dsn psn pi) is = omega arith
short (Ps dsn psn name) is = omega (arith, is)
short (TaTp dsn psn raw) is = omega arith
short (Ms dsn psn raw) is = omega arith
short (Pty dsn psn raw) is = omega arith
short (Rt dsn psn NoText) is = omega arith
short (Rt dsn psn (Text head text)) is = omega (arith, is)
short (Select dsn) is = omega arith
short (Group kind mode block3 block4) is = omega arith
short (Ack code counter) is = omega arith
