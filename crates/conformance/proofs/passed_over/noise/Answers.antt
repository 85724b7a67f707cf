use Rattle.std.proofs.Common.{rules, ◌≡◌, ◌≢◌, ◌+◌, ◌<◌, length, get_or, refl, subst, sym}
use Rattle.conformance.proofs.NoiseSoFar.{NoiseSoFar, noise_first, noise_start, noise_outside, noise_end, noise_inside}
use Rattle.conformance.proofs.NoiseSoFar.{noise_all}
use Rattle.conformance.proofs.passed_over.noise.Goals as goal
use Rattle.conformance.proofs.passed_over.noise.Goals.{then-byte, else-byte+then-unended-eq0}
use Rattle.conformance.proofs.passed_over.noise.Goals.{else-byte+else-unended-eq0+then-byte-2}
use Rattle.conformance.proofs.passed_over.noise.Goals.{else-byte+else-unended-eq0+else-byte-2}

pub loop-byte-init : goal.loop-byte-init
loop-byte-init c = noise_first c.args.came.now

pub loop-byte-preserved : goal.loop-byte-preserved
loop-byte-preserved c =
    let came = c.args.came.now in
    let at = c.loop-byte.byte-index in
    let within : at < length came = search rules in
    let so = c.loop-byte.invariant in
    elim c.if-byte.branch [
      | then-byte w ↦ let start : get_or came at 0 ≡ 0xFE = w.if-byte.true in
          let next = noise_start came at c.loop-byte.outside c.loop-byte.unended (get_or came at 0) within refl so
          start in
          subst (λ o. NoiseSoFar came (at + 1) o c.if-byte.unended) (sym w.outside-is)
          (subst (λ u. NoiseSoFar came (at + 1) c.loop-byte.outside u) (sym w.unended-is) next)
      | else-byte+then-unended-eq0 w ↦ let start : get_or came at 0 ≢ 0xFE = w.if-byte.false in
          let next = noise_outside came at c.loop-byte.outside c.loop-byte.unended (get_or came at 0) within refl so
          w.if-unended-eq0.true start in
          subst (λ o. NoiseSoFar came (at + 1) o c.if-byte.unended) (sym w.outside-is)
          (subst (λ u. NoiseSoFar came (at + 1) (c.loop-byte.outside + 1) u) (sym w.unended-is) next)
      | else-byte+else-unended-eq0+then-byte-2 w ↦ let end : get_or came at 0 ≡ 0xFF = w.if-byte-2.true in
          let next = noise_end came at c.loop-byte.outside c.loop-byte.unended (get_or came at 0) within refl so
          w.if-unended-eq0.false end in
          subst (λ o. NoiseSoFar came (at + 1) o c.if-byte.unended) (sym w.outside-is)
          (subst (λ u. NoiseSoFar came (at + 1) c.loop-byte.outside u) (sym w.unended-is) next)
      | else-byte+else-unended-eq0+else-byte-2 w ↦ let start : get_or came at 0 ≢ 0xFE = w.if-byte.false in
          let end : get_or came at 0 ≢ 0xFF = w.if-byte-2.false in
          let next = noise_inside came at c.loop-byte.outside c.loop-byte.unended (get_or came at 0) within refl so
          w.if-unended-eq0.false start end in
          subst (λ o. NoiseSoFar came (at + 1) o c.if-byte.unended) (sym w.outside-is)
          (subst (λ u. NoiseSoFar came (at + 1) c.loop-byte.outside u) (sym w.unended-is) next)
    ]

pub returns : goal.returns
returns c = noise_all c.args.came.now c.loop-byte.byte-index c.loop-byte.outside c.loop-byte.unended
    c.loop-byte.invariant (search rules)
