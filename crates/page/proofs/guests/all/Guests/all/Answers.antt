use Rattle.std.proofs.Common.{◌<◌, ◌≤◌, ◌∙◌, refl, sym, ap, subst, length, List, true, false, rules}
use Rattle.std.proofs.Common.{arith}
use Rattle.page.specs.declared.guests.guest.Guest.{Guest}
use Rattle.page.specs.Visits.{TakesTurn}
use Rattle.page.proofs.Visiting.{lived}
use Rattle.page.proofs.Caught.{caught_all}
use Rattle.page.proofs.Rounds.{HasDone, none_done, all_done, one_stays, one_goes, gone_lived, get_set}
use Rattle.page.proofs.guests.all.Guests.all.Goals as goal

pub loop-place-init : goal.loop-place-init
loop-place-init g c = record {
  done = none_done g.C.Connection.talk c.args.self.now.own_only c.args.deed c.args.history.now
      c.args.self.now.guests.items c.requires;
  own_only = refl;
}

pub loop-place-preserved-then-take_turn : goal.loop-place-preserved-then-take_turn
loop-place-preserved-then-take_turn g c =
    let talk = g.C.Connection.talk in
    let now = c.loop-place.self.guests.items in
    let d = c.index_mut.result.now in
    let g' = c.take_turn.new.guest in
    let more : c.loop-place.place < length now = search (rules, arith) in
    let turn = subst (λ (h : Guest g.row.C.Denot). TakesTurn talk c.args.deed c.args.history.now h true g')
    c.index_mut.ensures.value c.if-take_turn.ensures in
    record {
      done = one_stays talk c.args.self.now.own_only c.args.deed c.args.history.now c.args.self.now.guests.items now
          c.loop-place.place d g' c.loop-place.invariant.done more turn;
      own_only = c.loop-place.invariant.own_only;
    }

pub close-requires : goal.close-requires
close-requires g c =
    let talk = g.C.Connection.talk in
    let now = c.loop-place.self.guests.items in
    let d = c.index_mut.result.now in
    let g' = c.take_turn.new.guest in
    let more : c.loop-place.place < length now = search (rules, arith) in
    let turn = subst (λ (h : Guest g.row.C.Denot). TakesTurn talk c.args.deed c.args.history.now h false g')
    c.index_mut.ensures.value c.if-take_turn.ensures in
    let lives = gone_lived talk c.args.self.now.own_only c.args.deed c.args.history.now c.args.self.now.guests.items now
    c.loop-place.place d g' c.loop-place.invariant.done more turn in
    let is = c.remove-guest.ensures.value ∙ get_set now c.loop-place.place g' c.remove-guest.result more in
    lived talk c.args.self.now.own_only c.args.history.now g' c.leave.result lives
    (c.leave.ensures ∙ ap (λ (h : Guest g.row.C.Denot). h.connection) is)

pub loop-place-preserved : goal.loop-place-preserved
loop-place-preserved g c =
    let talk = g.C.Connection.talk in
    let own_only = c.args.self.now.own_only in
    let before = c.args.self.now.guests.items in
    let now = c.loop-place.self.guests.items in
    let d = c.index_mut.result.now in
    let g' = c.take_turn.new.guest in
    let more : c.loop-place.place < length now = search (rules, arith) in
    let turn = subst (λ (h : Guest g.row.C.Denot). TakesTurn talk c.args.deed c.args.history.now h false g')
    c.index_mut.ensures.value c.if-take_turn.ensures in
    record {
      done = subst (λ (xs : List (Guest g.row.C.Denot)). HasDone talk own_only c.args.deed c.args.history.now before xs
          c.loop-place.place) (sym c.remove-guest.ensures.by_index.2)
          (one_goes talk own_only c.args.deed c.args.history.now before now c.loop-place.place d g'
          c.loop-place.invariant.done more turn);
      own_only = c.loop-place.invariant.own_only;
    }

pub returns-clause-all : goal.returns-clause-all
returns-clause-all g c =
    let over : length c.loop-place.self.guests.items ≤ c.loop-place.place = search (rules, arith) in
    all_done g.C.Connection.talk c.args.self.now.own_only c.args.deed c.args.history.now c.args.self.now.guests.items
    c.loop-place.self.guests.items c.loop-place.place c.loop-place.invariant.done over

pub returns-clause-caught_up : goal.returns-clause-caught_up
returns-clause-caught_up g c =
    let talk = g.C.Connection.talk in
    let before = c.args.self.now.guests.items in
    let after = c.loop-place.self.guests.items in
    let over : length after ≤ c.loop-place.place = search (rules, arith) in
    caught_all talk c.args.history.now c.args.deed before after
    (all_done talk c.args.self.now.own_only c.args.deed c.args.history.now before after c.loop-place.place
    c.loop-place.invariant.done over)
