use Rattle.std.proofs.Common.{refl, inl, sym, ◌∙◌, arith, ap, length}
use Rattle.bad_line.proofs.Filling.{as_step, where_false}
use Rattle.bad_line.proofs.connections.reader.FaultyReader.go_on.Goals as goal

pub fill-requires-clause-room : goal.fill-requires-clause-room
fill-requires-clause-room g c =
    let none = where_false c.waits.result _ _ c.if-waits.false c.waits.ensures in
    omega (arith, ap length none)

pub returns-then-is_broken : goal.returns-then-is_broken
returns-then-is_broken g c = (
  where_false c.waits.result _ _ c.if-waits.false c.waits.ensures,
  inl (sym c.is_broken.ensures ∙ c.if-is_broken.true, refl),
)

pub returns : goal.returns
returns g c =
    as_step g.R.Read.remaining c.args.self.now c.fill.new.self c.fill.result _
    (where_false c.waits.result _ _ c.if-waits.false c.waits.ensures) c.fill.ensures
