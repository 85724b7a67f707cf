use Rattle.std.proofs.Common.{get_or, ◌<◌, ◌≤◌, ◌≡◌, length, List, subst, ◌∙◌, rules, arith}
use Rattle.std.specs.Option.{IfSome, IfNone}
use Rattle.seats.specs.declared.seat.Seat.{Seat}
use Rattle.page.specs.declared.guests.guest.Guest.{Guest}
use Rattle.seats.specs.Seats.{IsSeatGiven, NoSeatGiven}
use Rattle.page.proofs.Seating.{seats_more, seats_all}
use Rattle.page.proofs.guests.all.Guests.seat_given.Goals as goal

pub loop-guest-preserved : goal.loop-guest-preserved
loop-guest-preserved g c =
    let items = c.args.self.now.guests.items in
    let i = c.loop-guest.guest-index in
    let few : i < length items = search (rules, arith) in
    let is = subst (λ (xs : List (Guest g.row.C.Denot)). c.guest-item.result ≡ get_or xs i c.guest-item.result)
    c.deref-guest-items.ensures.value c.guest-item.is in
    record {
      items =
          seats_more g.C.Connection.origin c.args.kind items i c.guest-item.result c.loop-guest.all.items
          c.push.new.self.items c.seat.result few is c.seat.ensures c.loop-guest.invariant.items
          c.push.ensures.items;
      count = omega (arith, c.push.ensures.len, c.loop-guest.invariant.count);
    }

pub returns : goal.returns
returns g c =
    let items = c.args.self.now.guests.items in
    let over : length items ≤ c.loop-guest.guest-index = search (rules, arith) in
    let is = c.as_slice.ensures.value
    ∙ seats_all g.C.Connection.origin c.args.kind items c.loop-guest.guest-index c.loop-guest.all.items over
    c.loop-guest.invariant.items in
    record {
      some =
          subst (λ (xs : List Seat). IfSome c.place_given.result (λ place. IsSeatGiven c.args.origin place xs)) is
          c.place_given.ensures.some;
      none =
          subst (λ (xs : List Seat). IfNone c.place_given.result (NoSeatGiven c.args.origin xs)) is
          c.place_given.ensures.none;
    }
