use Rattle.std.proofs.Common.{◌++◌, take, ◌<◌, length, rules, arith, sym, ap, ◌∙◌, subst}
use Rattle.std.proofs.Math.Seq.{take-add}
use Rattle.std.proofs.lemmas.List.{take_rest}
use Rattle.std.specs.Io.KnownBytes.{Appends}
use Rattle.std.proofs.KnownBytes.{Appends-trans}
use Rattle.uecp_encoder.proofs.meter.Meter.write_whole.Goals as goal

pub loop-at-preserved : goal.loop-at-preserved
loop-at-preserved g c =
    let (within, at_is, failures, empty, calls) = c.loop-at.invariant in
    let bytes = c.args.bytes.now in
    let at = c.loop-at.at in
    let n = c.in-Ok.count in
    let joined = ap (λ l. take at bytes ++ take n l) (take_rest bytes at) ∙ sym (take-add at n bytes) in
    let made = c.write.ensures.calls in
    let some = c.in-Ok.ensures.moves in
    let below : at < length bytes = search rules in (
      search rules,
      subst (Appends _ _) joined (Appends-trans _ _ _ _ _ at_is c.in-Ok.ensures.bytes),
      search rules,
      search rules,
      λ few. (let so_far = calls few in (
        omega (arith, few, below, so_far, made),
        omega (arith, few, below, so_far, made, some),
      )),
    )

pub returns-in-Err-clause-calls : goal.returns-in-Err-clause-calls
returns-in-Err-clause-calls g c =
    let (within, at_is, failures, empty, calls) = c.loop-at.invariant in
    let made = c.write.ensures.calls in
    let below : c.loop-at.at < length c.args.bytes.now = search rules in
    λ few. (let so_far = calls few in (
      omega (arith, few, below, so_far, made),
      omega (arith, few, below, so_far, made),
    ))
