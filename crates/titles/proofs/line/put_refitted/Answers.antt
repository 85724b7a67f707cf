use Rattle.std.specs.String.{string_bytes}
use Rattle.titles.proofs.Refitting.{line_end, line_on}
use Rattle.titles.proofs.line.put_refitted.Goals as goal

pub strings-preserved : goal.strings-preserved
strings-preserved c =
    line_on c.args.text.now c.strings.left.now c.in-Some.behind.now (string_bytes c.args.fitted.now)
    (string_bytes c.strings.fitted) (string_bytes c.put_next.new.fitted) c.strings.invariant
    (rw c.in-Some.is at c.in_ok-behind.ensures)

pub returns-in-None : goal.returns-in-None
returns-in-None c =
    line_end c.args.text.now c.strings.left.now (string_bytes c.args.fitted.now) (string_bytes c.strings.fitted)
    (string_bytes c.put_next.new.fitted) c.strings.invariant (rw c.in-None.is at c.in_ok-behind.ensures)
