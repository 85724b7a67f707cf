use Rattle.std.proofs.Common.{◌<◌, ◌∙◌, length, sym, ap, subst, refl, List}
use Rattle.page.specs.declared.guests.guest.Guest.{Guest}
use Rattle.page.specs.ClientView.{standing_of, came_of}
use Rattle.page.specs.Talk.{IsUnsaid}
use Rattle.page.specs.Visits.{GuestLives, AreServed}
use Rattle.page.specs.Places.{IsFresh}
use Rattle.page.proofs.Visiting.{lives_new, lived_new}
use Rattle.page.proofs.Visitors.{served_more}
use Rattle.page.proofs.Places.{comes_not, comes_in, owed_stay}
use Rattle.page.proofs.Caught.{caught_comes}
use Rattle.page.proofs.guests.all.Guests.add.Goals as goal

pub close-requires : goal.close-requires
close-requires g c =
    lived_new g.C.Connection.talk c.args.self.now.own_only c.args.history.now c.args.connection c.new-guest.result
    c.leave.result c.requires.unsaid c.new-guest.ensures.connection c.new-guest.ensures.is_new
    c.new-guest.ensures.came c.leave.ensures

pub close-requires-in-Err : goal.close-requires-in-Err
close-requires-in-Err g c =
    lived_new g.C.Connection.talk c.args.self.now.own_only c.args.history.now c.args.connection c.new-guest.result
    c.leave-in-Err.result c.requires.unsaid c.new-guest.ensures.connection c.new-guest.ensures.is_new
    c.new-guest.ensures.came
    (c.leave-in-Err.ensures ∙ ap (λ (h : Guest g.row.C.Denot). h.connection) c.in-Err.ensures.value_returned)

pub returns-then-not-make_place-clause-comes : goal.returns-then-not-make_place-clause-comes
returns-then-not-make_place-clause-comes g c =
    let others = c.make_place.new.self.guests.items in
    comes_not g.C.Connection.origin c.args.connection c.origin-origin.result c.args.self.now.guests.items others others
    c.make_place.result c.origin-origin.ensures c.make_place.ensures.place refl

pub returns-then-not-make_place-clause-stays : goal.returns-then-not-make_place-clause-stays
returns-then-not-make_place-clause-stays g c =
    let others = c.make_place.new.self.guests.items in
    owed_stay g.C.Connection.origin c.args.connection c.args.self.now.guests.items others
    (comes_not g.C.Connection.origin c.args.connection c.origin-origin.result c.args.self.now.guests.items others others
    c.make_place.result c.origin-origin.ensures c.make_place.ensures.place refl)

pub returns-in-Err-clause-comes : goal.returns-in-Err-clause-comes
returns-in-Err-clause-comes g c =
    comes_not g.C.Connection.origin c.args.connection c.origin-origin.result c.args.self.now.guests.items
    c.make_place.new.self.guests.items c.push.new.self.items c.make_place.result c.origin-origin.ensures
    c.make_place.ensures.place c.in-Err.ensures.items

pub returns-in-Err-clause-stays : goal.returns-in-Err-clause-stays
returns-in-Err-clause-stays g c =
    owed_stay g.C.Connection.origin c.args.connection c.args.self.now.guests.items c.push.new.self.items
    (comes_not g.C.Connection.origin c.args.connection c.origin-origin.result c.args.self.now.guests.items
    c.make_place.new.self.guests.items c.push.new.self.items c.make_place.result c.origin-origin.ensures
    c.make_place.ensures.place c.in-Err.ensures.items)

pub returns-in-Err-clause-caught_up : goal.returns-in-Err-clause-caught_up
returns-in-Err-clause-caught_up g c =
    caught_comes g.C.Connection.talk c.args.history.now g.C.Connection.origin c.args.connection
    c.args.self.now.guests.items c.push.new.self.items
    (comes_not g.C.Connection.origin c.args.connection c.origin-origin.result c.args.self.now.guests.items
    c.make_place.new.self.guests.items c.push.new.self.items c.make_place.result c.origin-origin.ensures
    c.make_place.ensures.place c.in-Err.ensures.items)

pub returns-in-Ok-clause-comes : goal.returns-in-Ok-clause-comes
returns-in-Ok-clause-comes g c =
    let fresh : IsFresh c.args.connection c.new-guest.result = record {
      connection_is = c.new-guest.ensures.connection;
      is_new = c.new-guest.ensures.is_new;
      came = c.new-guest.ensures.came;
      ticks = c.new-guest.ensures.ticks;
    } in
    comes_in g.C.Connection.origin c.args.connection c.origin-origin.result c.args.self.now.guests.items
    c.make_place.new.self.guests.items c.push.new.self.items c.make_place.result c.new-guest.result
    c.origin-origin.ensures c.make_place.ensures.place c.if-not-make_place.false fresh c.in-Ok.ensures.items

pub returns-in-Ok-clause-stays : goal.returns-in-Ok-clause-stays
returns-in-Ok-clause-stays g c =
    let fresh : IsFresh c.args.connection c.new-guest.result = record {
      connection_is = c.new-guest.ensures.connection;
      is_new = c.new-guest.ensures.is_new;
      came = c.new-guest.ensures.came;
      ticks = c.new-guest.ensures.ticks;
    } in
    owed_stay g.C.Connection.origin c.args.connection c.args.self.now.guests.items c.push.new.self.items
    (comes_in g.C.Connection.origin c.args.connection c.origin-origin.result c.args.self.now.guests.items
    c.make_place.new.self.guests.items c.push.new.self.items c.make_place.result c.new-guest.result
    c.origin-origin.ensures c.make_place.ensures.place c.if-not-make_place.false fresh c.in-Ok.ensures.items)

pub returns-in-Ok-clause-served : goal.returns-in-Ok-clause-served
returns-in-Ok-clause-served g c =
    let talk = g.C.Connection.talk in
    let own_only = c.make_place.new.self.own_only in
    let past = c.args.history.now in
    let guest = c.new-guest.result in
    let items = c.make_place.new.self.guests.items in
    let room : length items < 128 = c.make_place.ensures.free c.if-not-make_place.false in
    let unsaid = subst (λ (k : g.row.C.Denot). IsUnsaid (talk k)) (sym c.new-guest.ensures.connection)
    c.requires.unsaid in
    let lives : GuestLives talk own_only past guest = lives_new own_only past (talk guest.connection)
    (standing_of guest.client) (came_of guest.client) unsaid c.new-guest.ensures.is_new c.new-guest.ensures.came in
    subst (λ (xs : List (Guest g.row.C.Denot)). AreServed talk own_only past xs) (sym c.in-Ok.ensures.items)
    (served_more talk own_only past items guest c.make_place.ensures.served room lives c.new-guest.ensures.is_new.0)

pub returns-in-Ok-clause-caught_up : goal.returns-in-Ok-clause-caught_up
returns-in-Ok-clause-caught_up g c =
    let fresh : IsFresh c.args.connection c.new-guest.result = record {
      connection_is = c.new-guest.ensures.connection;
      is_new = c.new-guest.ensures.is_new;
      came = c.new-guest.ensures.came;
      ticks = c.new-guest.ensures.ticks;
    } in
    caught_comes g.C.Connection.talk c.args.history.now g.C.Connection.origin c.args.connection
    c.args.self.now.guests.items c.push.new.self.items
    (comes_in g.C.Connection.origin c.args.connection c.origin-origin.result c.args.self.now.guests.items
    c.make_place.new.self.guests.items c.push.new.self.items c.make_place.result c.new-guest.result
    c.origin-origin.ensures c.make_place.ensures.place c.if-not-make_place.false fresh c.in-Ok.ensures.items)
