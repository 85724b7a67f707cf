use Rattle.seats.proofs.Shares.{more_below, most_then, no_more_of_all, below_all}
use Rattle.seats.proofs.seat.most_places.Goals as goal

pub loop-seat-preserved : goal.loop-seat-preserved
loop-seat-preserved c = record {
  no_more = more_below c.args.seats.now c.loop-seat.seat-index _ c.share.result c.loop-seat.most c.max-most.result
      c.loop-seat-test.true c.share.ensures c.max-most.ensures c.loop-seat.invariant.no_more;
  some_has = most_then c.args.seats.now _ c.share.result c.loop-seat.most c.max-most.result c.share.ensures
      c.max-most.ensures c.loop-seat.invariant.some_has;
}

pub returns : goal.returns
returns c = record {
  no_more = no_more_of_all c.args.seats.now c.loop-seat.most
      (below_all c.args.seats.now c.loop-seat.seat-index c.loop-seat.most c.loop-seat-test.false
      c.loop-seat.invariant.no_more);
  some_has = c.loop-seat.invariant.some_has;
}
