use Rattle.std.proofs.Common.{◌<◌, ◌≤◌, ◌∙◌, sym, ap, subst, rules, arith, List, get_or, refl, inl}
use Rattle.page.specs.declared.guests.guest.Guest.{Guest}
use Rattle.page.specs.Visits.{AreServed, live_in}
use Rattle.page.proofs.Visiting.{lived}
use Rattle.page.proofs.Places.{heard_few, over_within, over_lived, over_left, over_gives}
use Rattle.page.proofs.guests.all.Guests.give_events.Goals as goal

pub returns-then-live-le-LIVE_MAX : goal.returns-then-live-le-LIVE_MAX
returns-then-live-le-LIVE_MAX g c =
    let heard = c.args.self.now.guests.items in
    let few : live_in heard ≤ 64 = omega (arith, c.live.ensures) in
    record {
      gives = inl (few, refl);
      served =
          heard_few g.C.Connection.talk c.args.room c.args.self.now.own_only c.args.history.now heard c.requires few;
      own_only = refl;
    }

pub remove-guest-requires : goal.remove-guest-requires
remove-guest-requires g c =
    let heard = c.args.self.now.guests.items in
    let more : 64 < live_in heard = omega (arith, c.live.ensures) in
    let within = over_within g.C.Connection.talk c.args.room c.in-Given.place c.args.self.now.own_only
    c.args.history.now heard c.requires more c.in-Given.is in
    search (rules, arith)

pub close-requires : goal.close-requires
close-requires g c =
    let talk = g.C.Connection.talk in
    let own_only = c.args.self.now.own_only in
    let past = c.args.history.now in
    let heard = c.args.self.now.guests.items in
    let place = c.in-Given.place in
    let d = c.remove-guest.result in
    let more : 64 < live_in heard = omega (arith, c.live.ensures) in
    lived talk own_only past (get_or heard place d) c.leave.result
    (over_lived talk c.args.room place own_only past heard d c.requires more c.in-Given.is)
    (c.leave.ensures ∙ ap (λ (h : Guest g.row.C.Denot). h.connection) c.remove-guest.ensures.value)

pub returns-in-Given : goal.returns-in-Given
returns-in-Given g c =
    let talk = g.C.Connection.talk in
    let own_only = c.args.self.now.own_only in
    let past = c.args.history.now in
    let heard = c.args.self.now.guests.items in
    let place = c.in-Given.place in
    let d = c.remove-guest.result in
    let more : 64 < live_in heard = omega (arith, c.live.ensures) in
    record {
      gives =
          over_gives talk c.args.room place own_only past heard c.remove-guest.new.self.items c.requires more
          c.in-Given.is c.remove-guest.ensures.by_index.2;
      served =
          subst (λ (xs : List (Guest g.row.C.Denot)). AreServed talk own_only past xs)
          (sym c.remove-guest.ensures.by_index.2)
          (over_left talk c.args.room place own_only past heard d c.requires more c.in-Given.is);
      own_only = refl;
    }
