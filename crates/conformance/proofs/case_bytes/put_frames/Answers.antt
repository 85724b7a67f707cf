use Rattle.std.proofs.Common.{◌≡◌, ◌-◌, ◌+◌, ◌++◌, ap, ◌∙◌, arith, flat_map}
use Rattle.std.specs.List.{range_with_len}
use Rattle.conformance.specs.Sending.{frame_sent}
use Rattle.conformance.proofs.Frames.{row_none, row_put}
use Rattle.conformance.proofs.case_bytes.put_frames.Goals as goal

pub loop-counter-init : goal.loop-counter-init
loop-counter-init c = (
  omega arith,
  omega arith,
  row_none (λ counter. frame_sent c.args.own counter c.args.message.now c.args.edit.now) c.args.row.first
      c.from-counter.result c.args.bytes.now.items c.from-counter.ensures,
)

pub loop-counter-preserved : goal.loop-counter-preserved
loop-counter-preserved c =
    let (from, most, so_far) = c.loop-counter.invariant in (
      omega (arith, from),
      omega (arith, from, most),
      row_put (λ counter. frame_sent c.args.own counter c.args.message.now c.args.edit.now) c.args.row.first
          c.loop-counter.counter c.loop-counter.bytes.items c.args.bytes.now.items c.put_frame.new.bytes.items from
          so_far c.in_ok-put_frame.ensures,
    )

pub returns : goal.returns
returns c =
    let (from, most, so_far) = c.loop-counter.invariant in
    let all : c.loop-counter.counter - c.args.row.first ≡ c.args.row.last + 1 - c.args.row.first =
    omega (arith, from, most) in
    so_far ∙ ap (λ n. c.args.bytes.now.items
    ++ flat_map (λ counter. frame_sent c.args.own counter c.args.message.now c.args.edit.now)
    (range_with_len c.args.row.first n)) all
