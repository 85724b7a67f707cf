use Rattle.air_edges.proofs.Joining.{takes_slow, takes_of_crowd}
use Rattle.air_edges.proofs.on_air.OnAir.replace.Goals as goal

pub returns-then-is_slow : goal.returns-then-is_slow
returns-then-is_slow g c =
    takes_slow c.is_behind-is_slow.result c.args.place c.args.output c.args.origin _ c.args.self.now
    c.tell_once.new.self c.replace.new.self c.self.view_is c.is_behind-is_slow.ensures c.if-is_slow.true
    c.replace.ensures c.tell_once.ensures.tells c.tell_once.ensures.same

pub returns-else-is_slow : goal.returns-else-is_slow
returns-else-is_slow g c =
    takes_of_crowd c.is_behind-is_slow.result c.args.place c.args.output c.args.origin _ c.args.self.now
    c.tell_crowd.new.self c.replace.new.self c.self.view_is c.is_behind-is_slow.ensures c.if-is_slow.false
    c.replace.ensures c.tell_crowd.ensures.tells c.tell_crowd.ensures.same
