use Rattle.std.proofs.Common.{◌≡◌, ◌∙◌, List, ap, subst, IfSome, IfNone}
use Rattle.seats.specs.declared.seat.Seat.{Seat}
use Rattle.seats.specs.Seats.{IsSeatGiven, NoSeatGiven}
use Rattle.air_edges.specs.Hearers.{Hearing, seats_of}
use Rattle.air_edges.proofs.hearers.Hearers.given_place.Goals as goal

pub returns : goal.returns
returns g c =
    let is : c.as_slice.result.now ≡ seats_of c.args.self.now = c.as_slice.ensures.value ∙ c.seats_of-seats.ensures
    ∙ ap (λ (hearers : List (Hearing g.row.H.Denot)). seats_of hearers) (c.deref.ensures.value ∙ c.self.view_is) in
    record {
      some =
          subst (λ (xs : List Seat). IfSome c.place_given.result (λ place. IsSeatGiven c.args.origin place xs)) is
          c.place_given.ensures.some;
      none =
          subst (λ (xs : List Seat). IfNone c.place_given.result (NoSeatGiven c.args.origin xs)) is
          c.place_given.ensures.none;
    }
