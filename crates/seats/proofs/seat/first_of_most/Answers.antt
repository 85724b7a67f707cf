use Rattle.std.proofs.Common.{◌<◌, ◌≤◌, arith}
use Rattle.std.proofs.lemmas.Option.{IfSome_then}
use Rattle.seats.specs.declared.seat.Seat.{Seat}
use Rattle.seats.specs.Seats.{HasShare, IsOfMost, OfNone, share}
use Rattle.seats.proofs.Shares.{of_most, has_most, none_of_most, first_as, none_as, none_at_all, none_then}
use Rattle.seats.proofs.seat.first_of_most.Goals as goal

pub returns-then-share-most : goal.returns-then-share-most
returns-then-share-most c =
    let seats = c.args.seats.now in
    let most = c.most_places-most.result in
    let P : Seat → Type 0 = HasShare most seats in
    let Q : Seat → Type 0 = IsOfMost c.args.origin seats in
    let fewer : share c.args.origin seats < most = omega (arith, c.share.ensures) in
    let to : (s : Seat) → P s → Q s = λ s. of_most c.args.origin most seats s c.most_places-most.ensures fewer in
    let from : (s : Seat) → Q s → P s = λ s. has_most c.args.origin most seats s c.most_places-most.ensures in
    record {
      some = IfSome_then c.first_with_share.result c.first_with_share.ensures.some
          (λ place. first_as P Q place seats to from);
      none = none_then c.first_with_share.result (OfNone P seats) (OfNone Q seats) c.first_with_share.ensures.none
          (none_as P Q seats from);
    }

pub returns-else-share-most : goal.returns-else-share-most
returns-else-share-most c =
    let seats = c.args.seats.now in
    let most = c.most_places-most.result in
    let Q : Seat → Type 0 = IsOfMost c.args.origin seats in
    let all : most ≤ share c.args.origin seats = omega (arith, c.share.ensures) in
    record {
      some = tt;
      none = none_at_all Q seats (λ s. none_of_most c.args.origin most seats s c.most_places-most.ensures all);
    }
