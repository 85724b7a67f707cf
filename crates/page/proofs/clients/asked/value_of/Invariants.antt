-- What the fields say that are left is what all say.
use Rattle.std.proofs.Common.{◌≡◌, drop, map}
use Rattle.httparse.specs.Spans.{header_bytes}
use Rattle.page.specs.Asking.{value_at}
use Rattle.page.proofs.clients.asked.value_of.Given as goal

abbrev pub invariant-loop-field : goal.invariant-loop-field
invariant-loop-field l =
    value_at l.name (map (header_bytes l.input) (drop l.field-index l.fields))
    ≡ value_at l.name (map (header_bytes l.input) l.fields)
