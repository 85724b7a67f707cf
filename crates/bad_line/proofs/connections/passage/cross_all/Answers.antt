use Rattle.std.proofs.Common.{arith, ap, length, refl, sym, ◌∙◌, [], Some, None}
use Rattle.std.proofs.lemmas.Bool.{false≢true}
use Rattle.std.proofs.lemmas.List.{length-drop}
use Rattle.bad_line.proofs.Bytes.{held_short}
use Rattle.bad_line.proofs.Taking.{takes_nothing, takes_more, rest_is, holding, told, some_used}
use Rattle.bad_line.proofs.connections.passage.cross_all.Goals as goal

pub loop-used-init : goal.loop-used-init
loop-used-init g c = record {
  takes = takes_nothing c.args.cutter.now c.args.out.now.items c.args.bytes.now c.held.ensures.beginning;
  few =
      omega (arith, held_short [] c.args.cutter.now.held c.held.ensures.beginning);
  some = λ e. absurd (false≢true e);
}

pub cross-crossed-requires : goal.cross-crossed-requires
cross-crossed-requires g c = record {
  room = omega (
    arith,
    c.loop-used.invariant.few,
    c.requires.room,
    ap length (rest_is c.args.bytes.now c.loop-used.used),
    length-drop c.loop-used.used c.args.bytes.now,
  );
}

pub loop-used-preserved-in-Some : goal.loop-used-preserved-in-Some
loop-used-preserved-in-Some g c = record {
  takes = takes_more c.args.cutter.now c.loop-used.cutter c.cross-crossed.new.self c.args.out.now.items
      c.loop-used.out.items c.cross-crossed.new.out.items c.args.bytes.now c.loop-used.used c.cross-crossed.result.used
      c.in-Some.fate.breaks (Some c.in-Some.fate)
      (holding _ _ _ _ _ _ c.loop-used.is_broken c.if-not-is_broken.true c.loop-used.invariant.takes)
      c.cross-crossed.ensures.used refl
      (told _ _ _ _ _ c.cross-crossed.result.fate (Some c.in-Some.fate) c.in-Some.is c.cross-crossed.ensures.crosses);
  few = omega (arith, c.loop-used.invariant.few, c.cross-crossed.ensures.few);
  some = λ e. let some = some_used c.cross-crossed.result.fate c.in-Some.fate _ c.in-Some.is
      c.cross-crossed.ensures.some in
      omega (arith, some);
}

pub loop-used-preserved : goal.loop-used-preserved
loop-used-preserved g c = record {
  takes = takes_more c.args.cutter.now c.loop-used.cutter c.cross-crossed.new.self c.args.out.now.items
      c.loop-used.out.items c.cross-crossed.new.out.items c.args.bytes.now c.loop-used.used c.cross-crossed.result.used
      c.loop-used.is_broken None
      (holding _ _ _ _ _ _ c.loop-used.is_broken c.if-not-is_broken.true c.loop-used.invariant.takes)
      c.cross-crossed.ensures.used c.if-not-is_broken.true
      (told _ _ _ _ _ c.cross-crossed.result.fate None c.in_default.is c.cross-crossed.ensures.crosses);
  few = omega (arith, c.loop-used.invariant.few, c.cross-crossed.ensures.few);
  some = λ e. absurd (false≢true (sym c.if-not-is_broken.true ∙ e));
}
