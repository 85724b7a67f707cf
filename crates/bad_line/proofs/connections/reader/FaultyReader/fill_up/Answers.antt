use Rattle.std.proofs.Common.{refl}
use Rattle.std.proofs.KnownBytes.{Keeps-refl}
use Rattle.bad_line.proofs.Filling.{goes_on, where_true, where_false}
use Rattle.bad_line.proofs.connections.reader.FaultyReader.fill_up.Goals as goal

pub returns-then-is_due : goal.returns-then-is_due
returns-then-is_due g c = (
  c.loop-read.invariant.0,
  c.loop-read.self,
  c.loop-read.invariant.1,
  (refl, c.if-is_due.ensures refl),
)

pub returns-in-Ok-false : goal.returns-in-Ok-false
returns-in-Ok-false g c = (
  c.loop-read.invariant.0,
  c.loop-read.self,
  c.loop-read.invariant.1,
  where_false c.in-Ok-false.field-0 _ _ c.in-Ok-false.field-0-test c.in-Ok-false.ensures,
)

pub returns-in-Err : goal.returns-in-Err
returns-in-Err g c = (
  c.loop-read.invariant.0,
  c.loop-read.self,
  c.loop-read.invariant.1,
  c.in-Err.ensures,
)

pub loop-read-preserved : goal.loop-read-preserved
loop-read-preserved g c =
    goes_on g.R.Read.remaining c.loop-read.invariant.0 c.args.self.now c.loop-read.self c.go_on.new.self
    c.loop-read.invariant.1
    (where_true c.in-Ok-true.field-0 _ _ c.in-Ok-true.field-0-test c.in-Ok-true.ensures)

pub returns : goal.returns
returns g c = (
  c.loop-read.invariant.0,
  c.loop-read.self,
  c.loop-read.invariant.1,
  (refl, Keeps-refl (g.R.Read.remaining c.loop-read.self.device)),
)
