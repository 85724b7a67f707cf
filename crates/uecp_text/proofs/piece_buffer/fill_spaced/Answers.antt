use Rattle.std.proofs.Common.{◌≡◌, ◌+◌, ◌-◌, ◌*◌, length, arith, subst}
use Rattle.uecp_text.proofs.Spaced.{Spaced, spaced_start, one_spaced, two_small, two_spaced, last_spaced}
use Rattle.uecp_text.proofs.piece_buffer.fill_spaced.Goals as goal

pub twos-init : goal.twos-init
twos-init c = spaced_start c.args.text.now c.args.room.now

pub overflow_cast-room : goal.overflow_cast-room
overflow_cast-room c = record {
  fits = (two_small c.spelled-first.result c.spelled-second.result c.if-first-second-ge-NO_BYTE.false).0;
}

pub overflow_cast-room-in-twos : goal.overflow_cast-room-in-twos
overflow_cast-room-in-twos c = record {
  fits = (two_small c.spelled-first.result c.spelled-second.result c.if-first-second-ge-NO_BYTE.false).1;
}

pub twos-preserved : goal.twos-preserved
twos-preserved c =
    two_spaced c.args.text.now c.twos.room c.twos.i c.spelled-first.result c.spelled-second.result (omega arith)
    (omega arith) c.if-first-second-ge-NO_BYTE.false
    (record { byte = c.spelled-first.ensures.byte; other = c.spelled-first.ensures.other })
    (record { byte = c.spelled-second.ensures.byte; other = c.spelled-second.ensures.other })
    c.if-text-i-ne32.false c.if-text-i-ne32-2.false c.twos.invariant

pub others-preserved : goal.others-preserved
others-preserved c =
    one_spaced c.args.text.now c.others.room c.others.i (c.others.i + 1) (3 * c.others.i) (3 * c.others.i + 1)
    (3 * c.others.i + 2) c.spelled-byte.result (omega arith) (omega arith) (omega arith) (omega arith) (omega arith)
    (omega arith) c.if-byte-ge-NO_BYTE.false
    (record { byte = c.spelled-byte.ensures.byte; other = c.spelled-byte.ensures.other })
    c.if-text-i-ne32-3.false c.others.invariant

pub returns : goal.returns
returns c = λ _.
    let end : c.others.i ≡ length c.args.room.now - 1 = omega arith in
    last_spaced c.args.text.now c.others.room (length c.args.room.now - 1) (3 * (length c.args.room.now - 1))
    (3 * (length c.args.room.now - 1) + 1) c.spelled-last.result (omega arith) (omega arith) (omega arith)
    (omega arith) c.if-last-ge-NO_BYTE.false
    (record { byte = c.spelled-last.ensures.byte; other = c.spelled-last.ensures.other })
    (subst (λ i. Spaced c.args.text.now c.others.room i) end c.others.invariant)
