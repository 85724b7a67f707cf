use Rattle.std.proofs.Common.{ap, ◌∙◌}
use Rattle.bad_line.proofs.Filling.{is_some_byte, not_empty}
use Rattle.bad_line.proofs.connections.reader.FaultyReader.waits.Goals as goal

pub returns : goal.returns
returns g c =
    not_empty c.args.self.now.direction.waiting c.is_empty.result
    (is_some_byte c.waiting.result.now c.args.self.now.direction.waiting c.is_empty.result
    (c.waiting.ensures ∙ ap (λ e. e.direction.waiting) c.self.view_is) c.is_empty.ensures)
