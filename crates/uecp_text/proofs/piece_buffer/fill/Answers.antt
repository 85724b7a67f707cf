use Rattle.std.proofs.Common.{◌≡◌, ◌+◌, ◌*◌, ◌/◌, length, subst, arith}
use Rattle.hex.proofs.Pairs.{decode_start}
use Rattle.uecp_text.proofs.DigitValues.{Decoded, one_more, no_more, all_read, four_small, four_more, four_fail}
use Rattle.uecp_text.proofs.piece_buffer.fill.Goals as goal

pub fours-init : goal.fours-init
fours-init c = decode_start c.args.text.now c.args.room.now

pub returns-then-first-second-ge-NO_BYTE-clause-refused :
    goal.returns-then-first-second-ge-NO_BYTE-clause-refused
returns-then-first-second-ge-NO_BYTE-clause-refused c = λ _.
    four_fail c.args.text.now c.fours.room c.fours.i c.spelled-first.result c.spelled-second.result
    c.spelled-third.result c.spelled-fourth.result (omega arith) (omega arith)
    (record { byte = c.spelled-first.ensures.byte; other = c.spelled-first.ensures.other })
    (record { byte = c.spelled-second.ensures.byte; other = c.spelled-second.ensures.other })
    (record { byte = c.spelled-third.ensures.byte; other = c.spelled-third.ensures.other })
    (record { byte = c.spelled-fourth.ensures.byte; other = c.spelled-fourth.ensures.other })
    c.fours.invariant (omega arith) c.if-first-second-ge-NO_BYTE.true

pub overflow_cast-room : goal.overflow_cast-room
overflow_cast-room c = record {
  fits = (four_small c.spelled-first.result c.spelled-second.result c.spelled-third.result c.spelled-fourth.result
      c.if-first-second-ge-NO_BYTE.false).0;
}

pub overflow_cast-room-in-fours : goal.overflow_cast-room-in-fours
overflow_cast-room-in-fours c = record {
  fits = (four_small c.spelled-first.result c.spelled-second.result c.spelled-third.result c.spelled-fourth.result
      c.if-first-second-ge-NO_BYTE.false).1;
}

pub overflow_cast-room-in-fours-2 : goal.overflow_cast-room-in-fours-2
overflow_cast-room-in-fours-2 c = record {
  fits = (four_small c.spelled-first.result c.spelled-second.result c.spelled-third.result c.spelled-fourth.result
      c.if-first-second-ge-NO_BYTE.false).2;
}

pub overflow_cast-room-in-fours-3 : goal.overflow_cast-room-in-fours-3
overflow_cast-room-in-fours-3 c = record {
  fits = (four_small c.spelled-first.result c.spelled-second.result c.spelled-third.result c.spelled-fourth.result
      c.if-first-second-ge-NO_BYTE.false).3;
}

pub fours-preserved : goal.fours-preserved
fours-preserved c =
    four_more c.args.text.now c.fours.room c.fours.i c.spelled-first.result c.spelled-second.result
    c.spelled-third.result c.spelled-fourth.result (omega arith) (omega arith)
    (record { byte = c.spelled-first.ensures.byte; other = c.spelled-first.ensures.other })
    (record { byte = c.spelled-second.ensures.byte; other = c.spelled-second.ensures.other })
    (record { byte = c.spelled-third.ensures.byte; other = c.spelled-third.ensures.other })
    (record { byte = c.spelled-fourth.ensures.byte; other = c.spelled-fourth.ensures.other })
    c.fours.invariant c.if-first-second-ge-NO_BYTE.false

pub others-init : goal.others-init
others-init c =
    let end : c.fours.i ≡ length c.args.room.now / 4 = omega arith in
    subst (λ i. Decoded c.args.text.now c.fours.room (4 * i)) end c.fours.invariant

pub returns-then-byte-ge-NO_BYTE-clause-refused : goal.returns-then-byte-ge-NO_BYTE-clause-refused
returns-then-byte-ge-NO_BYTE-clause-refused c = λ _.
    no_more c.args.text.now c.others.room c.others.i (2 * c.others.i) (2 * c.others.i + 1) c.spelled-byte.result
    (omega arith) (omega arith) (omega arith) (omega arith) c.if-byte-ge-NO_BYTE.true
    (record { byte = c.spelled-byte.ensures.byte; other = c.spelled-byte.ensures.other }) c.others.invariant

pub others-preserved : goal.others-preserved
others-preserved c =
    one_more c.args.text.now c.others.room c.others.i (c.others.i + 1) (2 * c.others.i) (2 * c.others.i + 1)
    c.spelled-byte.result (omega arith) (omega arith) (omega arith) (omega arith) (omega arith)
    c.if-byte-ge-NO_BYTE.false
    (record { byte = c.spelled-byte.ensures.byte; other = c.spelled-byte.ensures.other }) c.others.invariant

pub returns-clause-bytes : goal.returns-clause-bytes
returns-clause-bytes c = λ _.
    all_read c.args.text.now c.others.room c.others.i (omega arith) (omega arith) (omega arith) c.others.invariant
