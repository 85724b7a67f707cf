use Rattle.std.proofs.Common.{◌∙◌, sym, ap, subst, set, get_or, List, Bool, inr}
use Rattle.page.specs.declared.guests.guest.Guest.{Guest}
use Rattle.page.specs.ClientView.{source_of}
use Rattle.page.specs.StateView.{state_of}
use Rattle.page.specs.Events.{Past}
use Rattle.page.specs.EventPlaces.{AreHeard}
use Rattle.page.specs.Visits.{AreServed, HearsThen}
use Rattle.page.proofs.Visiting.{lived}
use Rattle.page.proofs.Caught.{caught_heard}
use Rattle.page.proofs.Rounds.{heard_from, heard_lived, heard_stays, heard_goes, heard_one, heard_gone, room_here}
use Rattle.page.proofs.Rounds.{get_set, source_in}
use Rattle.page.proofs.guests.all.Guests.hear.Goals as goal

pub give_events-requires : goal.give_events-requires
give_events-requires g c =
    let talk = g.C.Connection.talk in
    let reads = g.C.Connection.reads in
    let own_only = c.args.self.now.own_only in
    let shown = state_of c.args.intake.now.page in
    let past = c.args.intake.now.history in
    let now = c.args.self.now.guests.items in
    let place = c.in-Some.place in
    let room = c.room_for-room.result in
    let d = c.index_mut.result.now in
    let g' = c.hear.new.guest in
    let more = c.in-Some.ensures.some.0 in
    let hears = heard_from talk reads shown past c.args.moment own_only c.site-site.result.own_only c.is_full.result
    room now place d g' c.hear.result (source_of c.site-site.result) c.site-site.ensures.source c.is_full.ensures
    c.site-site.ensures.own_only c.index_mut.ensures.value c.hear.ensures in
    let P : Bool → Type 0 = λ b. HearsThen talk reads (source_in talk reads shown past c.args.moment room) own_only
    (get_or now place d) b g' in
    let heard = heard_stays talk reads g.C.Connection.origin c.origin.result shown past c.args.moment own_only room now
    place d g' c.requires more c.room_for-room.ensures (subst P c.if-hear.true hears) in
    subst (λ (p : Past). AreHeard talk room own_only p (set now place g')) (sym c.history.ensures) heard

pub returns-then-hear-clause-hears : goal.returns-then-hear-clause-hears
returns-then-hear-clause-hears g c =
    let talk = g.C.Connection.talk in
    let reads = g.C.Connection.reads in
    let origin = g.C.Connection.origin in
    let own_only = c.args.self.now.own_only in
    let shown = state_of c.args.intake.now.page in
    let past = c.args.intake.now.history in
    let now = c.args.self.now.guests.items in
    let place = c.in-Some.place in
    let room = c.room_for-room.result in
    let d = c.index_mut.result.now in
    let g' = c.hear.new.guest in
    let more = c.in-Some.ensures.some.0 in
    let hears = heard_from talk reads shown past c.args.moment own_only c.site-site.result.own_only c.is_full.result
    room now place d g' c.hear.result (source_of c.site-site.result) c.site-site.ensures.source c.is_full.ensures
    c.site-site.ensures.own_only c.index_mut.ensures.value c.hear.ensures in
    let P : Bool → Type 0 = λ b. HearsThen talk reads (source_in talk reads shown past c.args.moment room) own_only
    (get_or now place d) b g' in
    let has = room_here talk reads origin c.origin.result room now place d c.index.result.now more c.index.ensures
    c.origin.ensures c.room_for-room.ensures in
    inr (heard_one talk reads origin g.C.Connection.numbered c.args.number shown past c.args.moment own_only room now
    place d g' c.give_events.new.self.guests.items more (c.in-Some.ensures.some.1 d) has (subst P c.if-hear.true hears)
    c.give_events.ensures.gives)

pub close-requires : goal.close-requires
close-requires g c =
    let talk = g.C.Connection.talk in
    let reads = g.C.Connection.reads in
    let own_only = c.args.self.now.own_only in
    let shown = state_of c.args.intake.now.page in
    let past = c.args.intake.now.history in
    let now = c.args.self.now.guests.items in
    let place = c.in-Some.place in
    let room = c.room_for-room.result in
    let d = c.index_mut.result.now in
    let g' = c.hear.new.guest in
    let more = c.in-Some.ensures.some.0 in
    let hears = heard_from talk reads shown past c.args.moment own_only c.site-site.result.own_only c.is_full.result
    room now place d g' c.hear.result (source_of c.site-site.result) c.site-site.ensures.source c.is_full.ensures
    c.site-site.ensures.own_only c.index_mut.ensures.value c.hear.ensures in
    let lives = heard_lived talk reads shown past c.args.moment own_only room now place d g' c.hear.result c.requires
    more hears in
    let is = c.remove-guest.ensures.value ∙ get_set now place g' c.remove-guest.result more in
    lived talk own_only past g' c.leave.result lives
    (c.leave.ensures ∙ ap (λ (h : Guest g.row.C.Denot). h.connection) is)

pub returns-else-hear-clause-served : goal.returns-else-hear-clause-served
returns-else-hear-clause-served g c =
    let talk = g.C.Connection.talk in
    let own_only = c.args.self.now.own_only in
    let past = c.args.intake.now.history in
    subst (λ (xs : List (Guest g.row.C.Denot)). AreServed talk own_only past xs)
    (sym c.remove-guest.ensures.by_index.2)
    (heard_goes talk g.C.Connection.reads past own_only c.args.self.now.guests.items c.in-Some.place
    c.index_mut.result.now c.hear.new.guest c.requires c.in-Some.ensures.some.0)

pub returns-else-hear-clause-hears : goal.returns-else-hear-clause-hears
returns-else-hear-clause-hears g c =
    let talk = g.C.Connection.talk in
    let reads = g.C.Connection.reads in
    let origin = g.C.Connection.origin in
    let own_only = c.args.self.now.own_only in
    let shown = state_of c.args.intake.now.page in
    let past = c.args.intake.now.history in
    let now = c.args.self.now.guests.items in
    let place = c.in-Some.place in
    let room = c.room_for-room.result in
    let d = c.index_mut.result.now in
    let g' = c.hear.new.guest in
    let more = c.in-Some.ensures.some.0 in
    let hears = heard_from talk reads shown past c.args.moment own_only c.site-site.result.own_only c.is_full.result
    room now place d g' c.hear.result (source_of c.site-site.result) c.site-site.ensures.source c.is_full.ensures
    c.site-site.ensures.own_only c.index_mut.ensures.value c.hear.ensures in
    let P : Bool → Type 0 = λ b. HearsThen talk reads (source_in talk reads shown past c.args.moment room) own_only
    (get_or now place d) b g' in
    let has = room_here talk reads origin c.origin.result room now place d c.index.result.now more c.index.ensures
    c.origin.ensures c.room_for-room.ensures in
    inr (heard_gone talk reads origin g.C.Connection.numbered c.args.number shown past c.args.moment own_only room now
    place d g' c.remove-guest.new.self.items c.requires more (c.in-Some.ensures.some.1 d) has
    (subst P c.if-hear.false hears) c.remove-guest.ensures.by_index.2)

pub returns-then-hear-clause-caught_up : goal.returns-then-hear-clause-caught_up
returns-then-hear-clause-caught_up g c =
    let talk = g.C.Connection.talk in
    let reads = g.C.Connection.reads in
    let origin = g.C.Connection.origin in
    let own_only = c.args.self.now.own_only in
    let shown = state_of c.args.intake.now.page in
    let past = c.args.intake.now.history in
    let now = c.args.self.now.guests.items in
    let place = c.in-Some.place in
    let room = c.room_for-room.result in
    let d = c.index_mut.result.now in
    let g' = c.hear.new.guest in
    let more = c.in-Some.ensures.some.0 in
    let hears = heard_from talk reads shown past c.args.moment own_only c.site-site.result.own_only c.is_full.result
    room now place d g' c.hear.result (source_of c.site-site.result) c.site-site.ensures.source c.is_full.ensures
    c.site-site.ensures.own_only c.index_mut.ensures.value c.hear.ensures in
    let P : Bool → Type 0 = λ b. HearsThen talk reads (source_in talk reads shown past c.args.moment room) own_only
    (get_or now place d) b g' in
    let has = room_here talk reads origin c.origin.result room now place d c.index.result.now more c.index.ensures
    c.origin.ensures c.room_for-room.ensures in
    caught_heard talk past origin g.C.Connection.numbered reads c.args.number shown c.args.moment own_only now
    c.give_events.new.self.guests.items
    (heard_one talk reads origin g.C.Connection.numbered c.args.number shown past c.args.moment own_only room now
    place d g' c.give_events.new.self.guests.items more (c.in-Some.ensures.some.1 d) has (subst P c.if-hear.true hears)
    c.give_events.ensures.gives)

pub returns-else-hear-clause-caught_up : goal.returns-else-hear-clause-caught_up
returns-else-hear-clause-caught_up g c =
    let talk = g.C.Connection.talk in
    let reads = g.C.Connection.reads in
    let origin = g.C.Connection.origin in
    let own_only = c.args.self.now.own_only in
    let shown = state_of c.args.intake.now.page in
    let past = c.args.intake.now.history in
    let now = c.args.self.now.guests.items in
    let place = c.in-Some.place in
    let room = c.room_for-room.result in
    let d = c.index_mut.result.now in
    let g' = c.hear.new.guest in
    let more = c.in-Some.ensures.some.0 in
    let hears = heard_from talk reads shown past c.args.moment own_only c.site-site.result.own_only c.is_full.result
    room now place d g' c.hear.result (source_of c.site-site.result) c.site-site.ensures.source c.is_full.ensures
    c.site-site.ensures.own_only c.index_mut.ensures.value c.hear.ensures in
    let P : Bool → Type 0 = λ b. HearsThen talk reads (source_in talk reads shown past c.args.moment room) own_only
    (get_or now place d) b g' in
    let has = room_here talk reads origin c.origin.result room now place d c.index.result.now more c.index.ensures
    c.origin.ensures c.room_for-room.ensures in
    caught_heard talk past origin g.C.Connection.numbered reads c.args.number shown c.args.moment own_only now
    c.remove-guest.new.self.items
    (heard_gone talk reads origin g.C.Connection.numbered c.args.number shown past c.args.moment own_only room now
    place d g' c.remove-guest.new.self.items c.requires more (c.in-Some.ensures.some.1 d) has
    (subst P c.if-hear.false hears) c.remove-guest.ensures.by_index.2)
