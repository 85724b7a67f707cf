use Rattle.std.proofs.Common.{◌≡◌, ◌+◌, [], arith, rules, sym, subst, inl, inr}
use Rattle.uecp_text.specs.declared.run_fault.RunFault.TheVariants.{OutOfMemory}
use Rattle.uecp_text.specs.Input.{texts_of, numbered, lines_of}
use Rattle.uecp_text.specs.Written.{Writes}
use Rattle.uecp_text.proofs.Runs.{Led, both, both_more, both_out, both_none, still_whole, Waits, waits_added}
use Rattle.uecp_text.proofs.Runs.{first_none, writes_nothing, led_at_first, led_on, led_out, led_end}
use Rattle.uecp_text.proofs.Lines.{empty_is}
use Rattle.uecp_text.proofs.interpreter.run_lines.Goals as goal
use Rattle.uecp_text.proofs.interpreter.run_lines.Goals.{then-is_long+in_ok-append, else-is_long}

pub loop-rest-init : goal.loop-rest-init
loop-rest-init g c =
    let meaning = g.I.Interpreter.meaning in
    let texts = texts_of c.args.input.now in
    let start = c.args.interpreter.now in
    record {
      count = omega arith;
      whole = c.requires.whole;
      led = subst (λ out. Led meaning start texts c.args.output.now start texts out)
          (sym (both_none c.args.output.now c.args.lines.now c.requires.empty))
          (led_at_first meaning start texts c.args.output.now);
      some = ([], first_none meaning start texts, writes_nothing c.args.output.now);
    }

pub returns-in-Err : goal.returns-in-Err
returns-in-Err g c =
    let meaning = g.I.Interpreter.meaning in
    let now = c.loop-rest in
    let out = c.append.new.self in
    let taken = c.take_line.new.lines in
    let other : c.in-Err.fault ≡ OutOfMemory → ⊥ = search rules in
    elim c.in-Err.ensures [
      | inl wanting ↦ absurd (other wanting)
      | inr stopped ↦ led_out meaning c.args.interpreter.now now.interpreter (texts_of c.args.input.now)
          c.args.output.now (both now.output now.lines) out now.number now.rest.now c.first_input_line.result.0.now
          c.first_input_line.result.1.now now.invariant.led c.first_input_line.ensures.lines c.take_line.new.interpreter
          c.in-Err.fault (inr (
            stopped.0,
            stopped.1,
            subst (λ o. Writes (both now.output now.lines) o stopped.0)
                (both_out now.output out taken c.in_ok-append-in-Err.ensures.added
                c.in_ok-append-in-Err.ensures.whole)
                (both_more now.output now.lines taken stopped.0 now.invariant.whole stopped.2),
          ))
    ]

pub loop-rest-preserved : goal.loop-rest-preserved
loop-rest-preserved g c =
    let meaning = g.I.Interpreter.meaning in
    let now = c.loop-rest in
    let texts = texts_of c.args.input.now in
    let start = c.args.interpreter.now in
    let left = numbered (now.number + 1) (lines_of c.first_input_line.result.1.now) in
    let taken = c.take_line.new.lines in
    let came = c.in-Ok.ensures in
    let waits : Waits meaning start texts c.args.output.now c.take_line.new.interpreter left now.output taken = (
      still_whole now.lines taken came.0 now.invariant.whole came.2,
      led_on meaning start now.interpreter texts c.args.output.now (both now.output now.lines) (both now.output taken)
          now.number now.rest.now c.first_input_line.result.0.now c.first_input_line.result.1.now now.invariant.led
          c.first_input_line.ensures.lines c.take_line.new.interpreter
          (came.0, came.1, both_more now.output now.lines taken came.0 now.invariant.whole came.2),
      now.invariant.some,
    ) in
    let kept : Waits meaning start texts c.args.output.now c.take_line.new.interpreter left c.if-is_long.output
    c.if-is_long.lines = elim c.if-is_long.branch [
      | then-is_long+in_ok-append w ↦ subst (λ o. Waits meaning start texts c.args.output.now
          c.take_line.new.interpreter left o c.if-is_long.lines) (sym w.output-is)
          (subst (λ l. Waits meaning start texts c.args.output.now c.take_line.new.interpreter left
          w.append-then-is_long.new.self l) (sym w.lines-is)
          (waits_added meaning start c.take_line.new.interpreter texts left c.args.output.now now.output
          w.append-then-is_long.new.self taken w.clear.new.self waits w.in_ok-append.ensures.added
          w.in_ok-append.ensures.whole w.clear.ensures.empty w.clear.ensures.whole))
      | else-is_long w ↦ subst (λ o. Waits meaning start texts c.args.output.now c.take_line.new.interpreter left o
          c.if-is_long.lines) (sym w.output-is)
          (subst (λ l. Waits meaning start texts c.args.output.now c.take_line.new.interpreter left now.output l)
          (sym w.lines-is) waits)
    ] in
    record {
      count = let shorter = c.first_input_line.ensures.shorter in let so_far = now.invariant.count in
          omega (arith, shorter, so_far);
      whole = kept.0;
      led = kept.1;
      some = kept.2;
    }

pub returns : goal.returns
returns g c =
    let now = c.loop-rest in
    let out = c.append-2.new.self in
    led_end g.I.Interpreter.meaning c.args.interpreter.now now.interpreter (texts_of c.args.input.now) c.args.output.now
    out now.number now.rest.now
    (subst (λ o. Led g.I.Interpreter.meaning c.args.interpreter.now (texts_of c.args.input.now) c.args.output.now
    now.interpreter (numbered now.number (lines_of now.rest.now)) o)
    (both_out now.output out now.lines c.in_ok-append-2.ensures.added c.in_ok-append-2.ensures.whole)
    now.invariant.led)
    (empty_is now.rest.now c.loop-rest-test.ensures)
