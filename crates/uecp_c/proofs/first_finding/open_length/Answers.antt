use Rattle.std.proofs.Common.{◌≡◌, ◌+◌, sym, ◌∙◌, ap, arith, get_or, take}
use Rattle.std.proofs.lemmas.List.{take_more}
use Rattle.uecp_c.specs.Findings.{open_length}
use Rattle.uecp_c.proofs.Opened.{open_length-nil, open_length-start, open_length-end, open_length-none}
use Rattle.uecp_c.proofs.Opened.{open_length-more}
use Rattle.uecp_c.proofs.first_finding.open_length.Goals as goal
use Rattle.uecp_c.proofs.first_finding.open_length.Goals.{then-byte, else-byte+then-byte-2}
use Rattle.uecp_c.proofs.first_finding.open_length.Goals.{else-byte+else-byte-2+then-open-gt0}
use Rattle.uecp_c.proofs.first_finding.open_length.Goals.{else-byte+else-byte-2+else-open-gt0}

pub loop-byte-init : goal.loop-byte-init
loop-byte-init c = record { exact = sym open_length-nil; fits = omega arith }

pub loop-byte-preserved : goal.loop-byte-preserved
loop-byte-preserved c =
    let s = c.args.bytes.now in
    let i = c.loop-byte.byte-index in
    let longer = ap open_length (take_more s i 0 c.loop-byte-test.true) in
    let front = take i s in
    let b = get_or s i 0 in
    let exact = c.loop-byte.invariant.exact in
    elim c.if-byte.branch [
      | then-byte w ↦ record {
        exact = w.open-is ∙ sym (longer ∙ open_length-start front b w.if-byte.true);
        fits = omega (arith, w.open-is);
      }
      | else-byte+then-byte-2 w ↦ record {
        exact = w.open-is ∙ sym (longer ∙ open_length-end front b w.if-byte-2.true);
        fits = omega (arith, w.open-is);
      }
      | else-byte+else-byte-2+then-open-gt0 w ↦ record {
        exact =
            w.open-is ∙ ap (λ n. n + 1) exact
            ∙ sym (longer
            ∙ open_length-more front b w.if-byte.false w.if-byte-2.false (omega (arith, w.if-open-gt0.true, exact)));
        fits = omega (arith, w.open-is);
      }
      | else-byte+else-byte-2+else-open-gt0 w ↦ record {
        exact =
            let zero : open_length front ≡ 0 = omega (arith, w.if-open-gt0.false, exact) in
            let none : c.loop-byte.open ≡ 0 = omega (arith, w.if-open-gt0.false) in
            w.open-is ∙ none
            ∙ sym (longer ∙ open_length-none front b w.if-byte.false w.if-byte-2.false zero);
        fits = omega (arith, w.open-is);
      }
    ]
