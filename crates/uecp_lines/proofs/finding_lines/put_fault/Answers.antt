use Rattle.std.proofs.Common.{lit<}
use Rattle.std.proofs.lemmas.Fmt.{decimal_digit}
use Rattle.uecp_text.specs.Digits.{decimal_word}
use Rattle.uecp_lines.proofs.finding_lines.put_fault.Goals as goal

pub returns-in-Unended : goal.returns-in-Unended
unfolding decimal_word
returns-in-Unended c = rw (c.in-Unended.is, decimal_digit 1 (lit< tt)) c.text.ensures.added
