-- The histories come out so.
use Rattle.std.proofs.Common.{refl, arith, inl, inr}
use Rattle.uecp_elements.specs.Codes.{code_of_byte}
use Rattle.uecp_frame.specs.Beyond.{found_beyond, open_beyond}
use Rattle.uecp_frame.specs.Frame.{spelling, plain_bytes, body}
use Rattle.uecp_frame.specs.Findings.{found, segment_found, open_bytes, progress}
use Rattle.uecp_frame.specs.Stuffing.{stuffed, code, unstuffed}
use Rattle.uecp_frame.specs.Check.{check, bits, with_bit}
use Rattle.uecp_frame.specs.Segment.{finding, judged, content}
use Rattle.promises.specs.Histories.{killed_within_saves, reply_is_lost, scanned_between, HasBoth, ComesBack}
use Rattle.promises.specs.Histories.{FourHistories}

killed : HasBoth killed_within_saves
unfolding found_beyond open_beyond spelling found segment_found open_bytes progress stuffed plain_bytes body code
    check bits with_bit finding judged unstuffed content code_of_byte
killed = record {
  may = (
    (omega arith, (omega arith, (omega arith, tt))),
    (
      tt,
      (
        tt,
        (
          refl,
          (
            tt,
            (
              refl,
              (
                inl refl,
                (
                  tt,
                  (
                    tt,
                    (
                      refl,
                      (refl, (tt, tt)),
                    ),
                  ),
                ),
              ),
            ),
          ),
        ),
      ),
    ),
  );
  store = refl;
  first = refl;
  second = refl;
}

lost : HasBoth reply_is_lost
unfolding found_beyond open_beyond spelling found segment_found open_bytes progress stuffed plain_bytes body code
    check bits with_bit finding judged unstuffed content code_of_byte
lost = record {
  may = (
    (omega arith, (omega arith, tt)),
    (
      tt,
      (
        tt,
        (
          refl,
          (
            tt,
            (
              refl,
              (
                tt,
                (
                  tt,
                  (
                    refl,
                    (
                      refl,
                      (
                        tt,
                        (
                          (
                            omega arith,
                            (omega arith, tt),
                          ),
                          (tt, (refl, (refl, (tt, tt)))),
                        ),
                      ),
                    ),
                  ),
                ),
              ),
            ),
          ),
        ),
      ),
    ),
  );
  store = refl;
  first = refl;
  second = refl;
}

scanned : HasBoth scanned_between
unfolding found_beyond open_beyond spelling found segment_found open_bytes progress stuffed plain_bytes body code
    check bits with_bit finding judged unstuffed content code_of_byte
scanned = record {
  may = (
    (omega arith, (omega arith, tt)),
    (
      tt,
      (
        tt,
        (
          refl,
          (
            tt,
            (
              (refl, (inl refl, tt)),
              (
                tt,
                (
                  tt,
                  (
                    refl,
                    (
                      refl,
                      (tt, ((omega arith, (omega arith, tt)), (tt, (refl, (refl, (tt, tt)))))),
                    ),
                  ),
                ),
              ),
            ),
          ),
        ),
      ),
    ),
  );
  store = refl;
  first = refl;
  second = refl;
}

comes_back : ComesBack
unfolding found_beyond open_beyond spelling found segment_found open_bytes progress stuffed plain_bytes body code
    check bits with_bit finding judged unstuffed content code_of_byte
comes_back = record {
  may = (
    refl,
    inl refl,
    refl,
    inl refl,
    record { at = refl; last = refl; held = refl; part = refl },
    (
      (
        omega arith,
        (omega arith, tt),
      ),
      (tt, (tt, (refl, (refl, (tt, tt))))),
    ),
    (
      refl,
      inl refl,
      refl,
      inr refl,
      record {
        at =
            refl;
        last = refl;
        held = refl;
        part = refl;
      },
      (
        (omega arith, (omega arith, (omega arith, tt))),
        (
          tt,
          (
            tt,
            (refl, (refl, (tt, tt))),
          ),
        ),
      ),
      tt,
    ),
  );
  store = refl;
  counted = refl;
  told = refl;
}

pub histories_lem : FourHistories
histories_lem = (killed, lost, scanned, comes_back)
