use Rattle.std.proofs.Common.{◌≡◌, ◌<◌, ◌≤◌, ◌∙◌, sym, ap, subst, rules, arith, length, List, get_or, inr}
use Rattle.page.specs.declared.guests.guest.Guest.{Guest}
use Rattle.page.specs.Visits.{AreServed}
use Rattle.page.specs.Places.{GivesPlace}
use Rattle.page.proofs.Visiting.{lived}
use Rattle.page.proofs.Places.{given_within, gives_place, left_fewer, left_lived, left_served}
use Rattle.page.proofs.guests.all.Guests.make_place.Goals as goal

pub remove-guest-requires : goal.remove-guest-requires
remove-guest-requires g c =
    let more : c.in-Some.place < length c.args.self.now.guests.items =
    given_within g.C.Connection.origin c.args.origin c.in-Some.place c.args.self.now.guests.items
    c.in-Some.ensures.some in
    search (rules, arith)

pub close-requires : goal.close-requires
close-requires g c =
    let talk = g.C.Connection.talk in
    let own_only = c.args.self.now.own_only in
    let past = c.args.history.now in
    let now = c.args.self.now.guests.items in
    let place = c.in-Some.place in
    let d = c.remove-guest.result in
    let more = given_within g.C.Connection.origin c.args.origin place now c.in-Some.ensures.some in
    let lives = left_lived talk own_only past now place d c.requires more in
    let is : c.remove-guest.result ≡ get_or now place d = c.remove-guest.ensures.value in
    lived talk own_only past (get_or now place d) c.leave.result lives
    (c.leave.ensures ∙ ap (λ (h : Guest g.row.C.Denot). h.connection) is)

pub returns-clause-place : goal.returns-clause-place
returns-clause-place g c =
    let now = c.args.self.now.guests.items in
    let place = c.in-Some.place in
    let d = c.remove-guest.result in
    let full : 128 ≤ length now = search (rules, arith) in
    inr (
      full,
      subst (λ (xs : List (Guest g.row.C.Denot)). GivesPlace g.C.Connection.origin c.args.origin now xs)
          (sym c.remove-guest.ensures.by_index.2)
          (gives_place g.C.Connection.origin c.args.origin place now d c.in-Some.ensures.some),
    )

pub returns-clause-free : goal.returns-clause-free
returns-clause-free g c some =
    let now = c.args.self.now.guests.items in
    let place = c.in-Some.place in
    let d = c.remove-guest.result in
    let more = given_within g.C.Connection.origin c.args.origin place now c.in-Some.ensures.some in
    let left = left_fewer now place d more in
    let is = ap length c.remove-guest.ensures.by_index.2 in
    let few = c.requires.few in
    omega (arith, left, is, few)

pub returns-clause-served : goal.returns-clause-served
returns-clause-served g c =
    let talk = g.C.Connection.talk in
    let own_only = c.args.self.now.own_only in
    let past = c.args.history.now in
    let now = c.args.self.now.guests.items in
    let place = c.in-Some.place in
    let d = c.remove-guest.result in
    let more = given_within g.C.Connection.origin c.args.origin place now c.in-Some.ensures.some in
    subst (λ (xs : List (Guest g.row.C.Denot)). AreServed talk own_only past xs) (sym c.remove-guest.ensures.by_index.2)
    (left_served talk own_only past now place d c.requires more)
