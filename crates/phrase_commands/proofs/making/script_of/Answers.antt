use Rattle.std.proofs.Common.{◌≡◌, ◌++◌, [], refl, sym, ap, subst, ◌∙◌, arith, append-nil}
use Rattle.std.proofs.Common.{option_map}
use Rattle.std.specs.String.{string_bytes}
use Rattle.uecp_text.specs.Input.{lines_of}
use Rattle.uecp_text.proofs.Public.{empty_is}
use Rattle.phrase_commands.specs.Scripts.{AreTaken}
use Rattle.phrase_commands.proofs.Taking.{so_on}
use Rattle.phrase_commands.proofs.making.script_of.Goals as goal

pub loop-rest-init : goal.loop-rest-init
loop-rest-init g c = record {
  count = omega arith;
  so_far = ([], refl, (c.new-script.ensures.items, refl), refl);
}

pub loop-rest-preserved : goal.loop-rest-preserved
loop-rest-preserved g c =
    let now = c.loop-rest in
    let line = c.first_input_line.result.0.now in
    let more = c.first_input_line.result.1.now in
    let (taken, whole, takes) = c.in_ok-take.ensures.taken in
    let shorter = c.first_input_line.ensures.shorter in
    let count = now.invariant.count in
    record {
      count = omega (arith, shorter, count);
      so_far = so_on c.args.region c.args.input.now now.rest.now more line now.script.items taken
          c.take.new.script.items now.number c.args.errors.now now.errors c.take.new.errors now.invariant.so_far
          c.first_input_line.ensures.lines
          (option_map string_bytes c.in_ok-fitted.fitted, c.in_ok-fitted.ensures, takes) whole;
    }

pub loop-rest-preserved-in_ok-take : goal.loop-rest-preserved-in_ok-take
loop-rest-preserved-in_ok-take g c =
    let now = c.loop-rest in
    let line = c.first_input_line.result.0.now in
    let more = c.first_input_line.result.1.now in
    let (taken, whole, takes) = c.in_ok-take.ensures.taken in
    let shorter = c.first_input_line.ensures.shorter in
    let count = now.invariant.count in
    record {
      count = omega (arith, shorter, count);
      so_far = so_on c.args.region c.args.input.now now.rest.now more line now.script.items taken
          c.take.new.script.items now.number c.args.errors.now now.errors c.take.new.errors now.invariant.so_far
          c.first_input_line.ensures.lines
          (option_map string_bytes c.in_ok-fitted.fitted, c.in_ok-fitted.ensures, takes) whole;
    }

pub returns-clause-taken : goal.returns-clause-taken
unfolding lines_of
returns-clause-taken g c =
    let now = c.loop-rest in
    let far = now.invariant.so_far in
    let all : lines_of c.args.input.now ≡ far.0 =
    far.1 ∙ ap (λ r. far.0 ++ lines_of r) (empty_is now.rest.now c.loop-rest-test.ensures) ∙ append-nil far.0 in
    subst (λ lines. AreTaken c.args.region 1 lines now.script.items c.args.errors.now now.errors) (sym all) far.2
