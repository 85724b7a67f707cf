use Rattle.std.proofs.Common.{[], ◌∙◌, sym, arith, append-nil, subst, get_or}
use Rattle.bad_line.proofs.Bytes.{nothing, one_more_byte, held_short, none_told, Made}
use Rattle.bad_line.proofs.segments.cutter.Cutter.cross.Goals as goal

pub loop-place-init : goal.loop-place-init
loop-place-init c = record {
  crosses = (
    [],
    sym (append-nil c.args.out.now.items),
    nothing c.args.self.now c.self.inside.held.items c.self.inside.faults c.self.view_is c.self.invariant,
  );
  few = omega arith;
}

pub returns-then-is_some-clause-crosses : goal.returns-then-is_some-clause-crosses
returns-then-is_some-clause-crosses c =
    one_more_byte c.args.self.now c.loop-place.self c.put-fate.new.self c.args.bytes.now c.loop-place.place
    c.args.out.now.items c.loop-place.out.items c.put-fate.new.out.items _ (omega arith) c.loop-place.invariant.crosses
    c.put-fate.ensures.crosses

pub returns-then-is_some-clause-held : goal.returns-then-is_some-clause-held
returns-then-is_some-clause-held c =
    let crosses = c.put-fate.ensures.crosses.2 in held_short crosses.pieces _ crosses.are_cut

pub loop-place-preserved : goal.loop-place-preserved
loop-place-preserved c = record {
  crosses = one_more_byte c.args.self.now c.loop-place.self c.put-fate.new.self c.args.bytes.now c.loop-place.place
      c.args.out.now.items c.loop-place.out.items c.put-fate.new.out.items [] (omega arith)
      c.loop-place.invariant.crosses
      (subst (λ told. Made c.loop-place.self c.put-fate.new.self (get_or c.args.bytes.now c.loop-place.place 0)
      c.loop-place.out.items c.put-fate.new.out.items told)
      (none_told c.put-fate.result (sym c.is_some.ensures ∙ c.if-is_some.false)) c.put-fate.ensures.crosses);
  few = omega (arith, c.put-fate.ensures.few);
}

pub returns-clause-held : goal.returns-clause-held
returns-clause-held c =
    let crosses = c.loop-place.invariant.crosses.2 in held_short crosses.pieces _ crosses.are_cut
