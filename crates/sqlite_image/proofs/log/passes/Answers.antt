use Rattle.std.proofs.Common.{◌≡◌, ◌≤◌, length, take, arith, sym, length-take-le}
use Rattle.sqlite_wal.specs.Recovery.{header}
use Rattle.sqlite_wal.proofs.FormatLemmas.{part_front}
use Rattle.sqlite_image.proofs.LogLemmas.{frame_far}
use Rattle.sqlite_image.proofs.log.passes.Goals as goal

pub slice_bounds-is_frame-end : goal.slice_bounds-is_frame-end
slice_bounds-is_frame-end c =
    let far = frame_far c.args.size c.args.place.number in
    let long : 32 ≤ length c.args.log.now = omega (arith, c.requires.place.at_is, c.requires.place.within) in
    sym (length-take-le 32 c.args.log.now long)

pub is_frame-requires-clause-head : goal.is_frame-requires-clause-head
is_frame-requires-clause-head c =
    let far = frame_far c.args.size c.args.place.number in
    let long : 32 ≤ length c.args.log.now = omega (arith, c.requires.place.at_is, c.requires.place.within) in
    length-take-le 32 c.args.log.now long

pub returns : goal.returns
returns c =
    let log = c.args.log.now in
    let head : take 32 log ≡ header log = sym (part_front log 32) in (
      λ yes'. record {
        within = c.is_there.ensures.0 c.if-not-is_there.false;
        passes = rw (← head, ← c.requires.place.sum_is, ← c.frame_of.ensures.value) (c.is_frame.ensures.0 yes');
      },
      λ p. c.is_frame.ensures.1 (rw (head, c.requires.place.sum_is, c.frame_of.ensures.value) p.passes),
    )
