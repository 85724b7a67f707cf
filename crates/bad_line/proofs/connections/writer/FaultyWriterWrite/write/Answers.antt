use Rattle.std.proofs.Common.{arith, ap, length, ◌∙◌, sym, subst}
use Rattle.std.proofs.lemmas.List.{length-take}
use Rattle.bad_line.specs.Passages.{TakesAll}
use Rattle.bad_line.proofs.connections.writer.FaultyWriterWrite.write.Goals as goal

pub returns-else-is_broken-clause-bound : goal.returns-else-is_broken-clause-bound
returns-else-is_broken-clause-bound g c =
    omega (
      arith,
      c.take-count.ensures.takes.takes.within,
      ap length c.first.ensures.first,
      length-take 512 c.args.buf.now,
    )

pub returns-else-is_broken-clause-writes : goal.returns-else-is_broken-clause-writes
returns-else-is_broken-clause-writes g c = (
  c.deliver.new.self,
  c.take-count.new.self,
  c.deliver-in-Ok.result,
  c.in-Ok.ensures,
  sym c.is_broken.ensures ∙ c.if-is_broken.false,
  c.take-count.ensures.device,
  subst (λ some. TakesAll c.deliver.new.self.direction c.take-count.new.self.direction some c.take-count.result)
      c.first.ensures.first c.take-count.ensures.takes,
  c.deliver-in-Ok.ensures,
)
