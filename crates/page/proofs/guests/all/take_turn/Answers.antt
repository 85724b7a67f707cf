use Rattle.page.proofs.Visiting.{turn_kept, turn_gone, turn_watched}
use Rattle.page.proofs.guests.all.take_turn.Goals as goal

pub returns-then-not-take_turn : goal.returns-then-not-take_turn
returns-then-not-take_turn g c =
    turn_gone g.C.Connection.talk c.args.deed c.args.history.now c.args.guest.now c.take_turn.new.self
    c.take_turn.result c.take_turn.ensures c.if-not-take_turn.true

pub returns-then-was_behind : goal.returns-then-was_behind
returns-then-was_behind g c =
    turn_watched g.C.Connection.talk c.args.deed c.args.history.now c.args.guest.now c.take_turn.new.self
    c.take_turn.result c.watch.result c.take_turn.ensures c.if-not-take_turn.false c.in-Deliver.is

pub returns-in_default : goal.returns-in_default
returns-in_default g c =
    turn_kept g.C.Connection.talk c.args.deed c.args.history.now c.args.guest.now c.take_turn.new.self
    c.take_turn.result c.take_turn.ensures c.if-not-take_turn.false

pub returns-else-was_behind : goal.returns-else-was_behind
returns-else-was_behind g c =
    turn_kept g.C.Connection.talk c.args.deed c.args.history.now c.args.guest.now c.take_turn.new.self
    c.take_turn.result c.take_turn.ensures c.if-not-take_turn.false
