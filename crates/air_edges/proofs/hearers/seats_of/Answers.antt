use Rattle.std.proofs.Common.{◌<◌, ◌≤◌, length, rules, arith}
use Rattle.air_edges.proofs.Joining.{seats_more, seats_all}
use Rattle.air_edges.proofs.hearers.seats_of.Goals as goal

pub loop-hearer-preserved : goal.loop-hearer-preserved
loop-hearer-preserved g c =
    let hearers = c.args.hearers.now in
    let i = c.loop-hearer.hearer-index in
    let few : i < length hearers = search (rules, arith) in
    record {
      are = seats_more hearers i c.hearer-item.result c.loop-hearer.seats.items c.push.new.self.items c.seat.result few
          c.hearer-item.is c.seat.ensures c.loop-hearer.invariant.are c.push.ensures.items;
      many = omega (arith, c.push.ensures.len, c.loop-hearer.invariant.many);
    }

pub returns : goal.returns
returns g c =
    let over : length c.args.hearers.now ≤ c.loop-hearer.hearer-index = search (rules, arith) in
    seats_all c.args.hearers.now c.loop-hearer.hearer-index c.loop-hearer.seats.items over c.loop-hearer.invariant.are
