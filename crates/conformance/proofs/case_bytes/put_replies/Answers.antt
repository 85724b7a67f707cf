use Rattle.std.proofs.Common.{◌≡◌, ◌-◌, ◌+◌, ◌++◌, ap, ◌∙◌, arith, map}
use Rattle.std.specs.List.{range_with_len}
use Rattle.conformance.specs.declared.verdict.Expected.TheVariants.{This}
use Rattle.conformance.proofs.Frames.{none_mapped, row_mapped}
use Rattle.conformance.proofs.case_bytes.put_replies.Goals as goal

pub loop-counter-init : goal.loop-counter-init
loop-counter-init c = (
  omega arith,
  omega arith,
  none_mapped (λ counter. This (record { counter = counter; code = c.args.code })) c.args.row.first
      c.from-counter.result c.args.replies.now.items c.from-counter.ensures,
)

pub loop-counter-preserved : goal.loop-counter-preserved
loop-counter-preserved c =
    let (from, most, so_far) = c.loop-counter.invariant in (
      omega (arith, from),
      omega (arith, from, most),
      row_mapped (λ counter. This (record { counter = counter; code = c.args.code })) c.args.row.first
          c.loop-counter.counter
          c.loop-counter.replies.items c.args.replies.now.items c.push.new.self.items from so_far
          c.in_ok-push.ensures.items,
    )

pub returns : goal.returns
returns c =
    let (from, most, so_far) = c.loop-counter.invariant in
    let all : c.loop-counter.counter - c.args.row.first ≡ c.args.row.last + 1 - c.args.row.first =
    omega (arith, from, most) in
    so_far ∙ ap (λ n. c.args.replies.now.items
    ++ map (λ counter. This (record { counter = counter; code = c.args.code })) (range_with_len c.args.row.first n)) all
