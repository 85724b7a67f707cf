use Rattle.std.proofs.Common.{inr, inl}
use Rattle.bad_line.proofs.Filling.{where_true, where_false}
use Rattle.bad_line.proofs.connections.reader.FaultyReader.wait.Goals as goal

pub returns-in-Ok-true : goal.returns-in-Ok-true
returns-in-Ok-true g c =
    inr (inl (where_true c.in-Ok-true.field-0 _ _ c.in-Ok-true.field-0-test c.in-Ok-true.ensures))

pub returns-in-Ok-false : goal.returns-in-Ok-false
returns-in-Ok-false g c =
    inr (inr (
      c.requires,
      where_false c.in-Ok-false.field-0 _ _ c.in-Ok-false.field-0-test c.in-Ok-false.ensures,
    ))
