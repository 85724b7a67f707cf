use Rattle.std.proofs.Common.{arith, ap, length}
use Rattle.std.proofs.lemmas.List.{length-drop}
use Rattle.bad_line.proofs.connections.passage.Passage.give.Goals as goal

pub overflow_add-self : goal.overflow_add-self
overflow_add-self c =
    let waits = ap (λ d. length d.waiting) c.self.view_is in
    omega (arith, waits, length-drop c.self.inside.given c.self.inside.out.items)
