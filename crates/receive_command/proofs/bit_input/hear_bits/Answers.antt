use Rattle.std.proofs.Common.{rules, ◌≡◌, ℕ, List, [], ◌∷◌, ◌++◌, ◌+◌, ◌∙◌, suc, take, drop, get_or, take-append-drop}
use Rattle.std.proofs.Common.{Err, IfErr, is_some, sym, ap, subst, arith}
use Rattle.std.proofs.Math.Seq.{take-suc}
use Rattle.receive_command.specs.Bits.{HearsText, FailsInText}
use Rattle.receive_command.specs.View.{bits_of_hearing}
use Rattle.receive_command.proofs.Texts.{hears_more, fails_more, fails_still}
use Rattle.receive_command.proofs.bit_input.hear_bits.Goals as goal

pub returns-in_err-hear_character-clause-failed : goal.returns-in_err-hear_character-clause-failed
returns-in_err-hear_character-clause-failed g c =
    let contents = g.W.Write.contents in
    let form = c.args.form in
    let timed = is_some c.args.clock in
    let bytes : List ℕ = c.args.bytes.now in
    let place : ℕ = c.loop-place.place in
    let x = bits_of_hearing c.args.hearing.now (contents c.args.writer.now) in
    let y = bits_of_hearing c.loop-place.hearing (contents c.loop-place.writer) in
    let held' = contents c.hear_character.new.writer in
    let fault = c.in_err-hear_character.field-0.0 in
    let same : c.from_residual.result ≡ Err fault = search rules in
    let last = get_or bytes place 0 ∷ [] in
    let here = fails_more form timed (take place bytes) last x y c.loop-place.invariant.0 held' fault
    c.in_err-hear_character.ensures.failed in
    let whole : (take place bytes ++ last) ++ drop (suc place) bytes ≡ bytes =
    ap (λ t. t ++ drop (suc place) bytes) (sym (take-suc bytes place 0 (omega (arith, c.loop-place-test.true))))
    ∙ take-append-drop (suc place) bytes in
    subst (λ r. IfErr r (FailsInText form timed bytes x held')) (sym same)
    (subst (λ t. FailsInText form timed t x held' fault) whole
    (fails_still form timed (take place bytes ++ last) (drop (suc place) bytes) x held' fault here))

pub loop-place-preserved : goal.loop-place-preserved
loop-place-preserved g c =
    let contents = g.W.Write.contents in
    let form = c.args.form in
    let timed = is_some c.args.clock in
    let bytes : List ℕ = c.args.bytes.now in
    let place : ℕ = c.loop-place.place in
    let x = bits_of_hearing c.args.hearing.now (contents c.args.writer.now) in
    let y = bits_of_hearing c.loop-place.hearing (contents c.loop-place.writer) in
    let z = bits_of_hearing c.hear_character.new.hearing (contents c.hear_character.new.writer) in
    let last = get_or bytes place 0 ∷ [] in
    let one : place + 1 ≡ suc place = omega arith in
    let on : take (place + 1) bytes ≡ take place bytes ++ last =
    ap (λ n. take n bytes) one ∙ take-suc bytes place 0 (omega (arith, c.loop-place-test.true)) in (
      subst (λ t. HearsText form timed t x z) (sym on)
          (hears_more form timed (take place bytes) last x y c.loop-place.invariant.0 z
          c.in_ok-hear_character.ensures.heard),
      c.hear_character.ensures.foreign ∙ c.loop-place.invariant.1,
      c.in_ok-hear_character.ensures.empty,
      c.in_ok-hear_character.ensures.whole,
    )
