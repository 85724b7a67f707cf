use Rattle.std.proofs.Common.{refl, inl, inr, sym, ◌∙◌, subst, ℕ, Ok, true}
use Rattle.bad_line.specs.Ends.{FillsUp}
use Rattle.bad_line.proofs.Filling.{positive}
use Rattle.bad_line.proofs.Bytes.{some_held}
use Rattle.bad_line.proofs.connections.reader.FaultyReaderRead.read.Goals as goal

pub returns-in-Ok-true-clause-reads : goal.returns-in-Ok-true-clause-reads
returns-in-Ok-true-clause-reads g c =
    let up : FillsUp {E = ℕ} g.R.Read.remaining c.args.self.now c.fill_up.new.self (Ok true) =
    subst (λ some. FillsUp {E = ℕ} g.R.Read.remaining c.args.self.now c.fill_up.new.self (Ok some))
    c.in-Ok-true.field-0-test
    c.in-Ok-true.ensures in
    inr (inl (
      c.fill_up.new.self,
      up,
      c.hand_on.ensures.hands,
      positive c.hand_on.result
          (λ none. up.3.1 (c.hand_on.ensures.none none (some_held c.args.buf.now
          (sym c.if-is_empty.false ∙ c.is_empty.ensures)))),
    ))

pub returns-in-Ok-false-clause-reads : goal.returns-in-Ok-false-clause-reads
returns-in-Ok-false-clause-reads g c =
    inr (inr (
      subst (λ some. FillsUp {E = ℕ} g.R.Read.remaining c.args.self.now c.fill_up.new.self (Ok some))
          c.in-Ok-false.field-0-test c.in-Ok-false.ensures,
      refl,
    ))
