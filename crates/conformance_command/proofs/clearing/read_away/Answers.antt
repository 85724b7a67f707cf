use Rattle.std.proofs.Common.{rules, arith, [], ◌≡◌, ◌<◌, ◌≤◌, length, subst, sym}
use Rattle.conformance_command.specs.Running.{ReadsAway}
use Rattle.conformance_command.proofs.Heard.{left_more, left_failed, left_ended, left_all}
use Rattle.conformance_command.proofs.clearing.read_away.Goals as goal

pub loop-turn-init : goal.loop-turn-init
loop-turn-init g c = record {
  so_far = record { read = []; reading = search rules; count = search rules };
  few = omega arith;
}

pub returns-in-Err : goal.returns-in-Err
returns-in-Err g c =
    let so = c.loop-turn.invariant.so_far in
    let less : c.loop-turn._turn < 16384 = search rules in
    let away = left_failed g.R.Read.remaining _ _ _ _ so _ c.in-Err.ensures.bytes c.read.ensures.calls
    c.in-Err.ensures.failures c.in-Err.ensures.empty less in
    subst (λ left. ReadsAway g.R.Read.remaining c.args.input.now c.read.new.self left.bytes left.is_quiet)
    (sym c.quiet_behind.ensures) away

pub returns-in-Ok-eq0 : goal.returns-in-Ok-eq0
returns-in-Ok-eq0 g c =
    let so = c.loop-turn.invariant.so_far in
    let less : c.loop-turn._turn < 16384 = search rules in
    let away = left_ended g.R.Read.remaining _ _ _ _ so _ c.read.new.buffer _ c.in-Ok-eq0.field-0-test
    c.in-Ok-eq0.ensures.bytes.0 c.read.ensures.calls c.in-Ok-eq0.ensures.failures (search rules) less in
    subst (λ left. ReadsAway g.R.Read.remaining c.args.input.now c.read.new.self left.bytes left.is_quiet)
    (sym c.quiet_behind-in-Ok-eq0.ensures) away

pub loop-turn-preserved : goal.loop-turn-preserved
loop-turn-preserved g c =
    let so = c.loop-turn.invariant.so_far in
    let before = c.loop-turn.invariant.few in
    let within : c.in-Ok.count ≤ length c.read.new.buffer = search rules in
    let few : c.in-Ok.count ≤ 64 = search rules in
    let stays : c.read.new.self.empty ≡ c.loop-turn.input.empty = search rules in
    record {
      so_far = left_more g.R.Read.remaining _ _ _ _ so _ c.read.new.buffer c.in-Ok.count within few
          c.in-Ok.ensures.bytes.0 c.read.ensures.calls c.in-Ok.ensures.failures stays;
      few = omega (arith, before, few);
    }

pub returns : goal.returns
returns g c = left_all g.R.Read.remaining _ _ _ _ c.loop-turn.invariant.so_far (search rules)
