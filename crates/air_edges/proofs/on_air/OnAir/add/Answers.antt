use Rattle.std.proofs.Common.{rules, arith, ◌<◌, ◌≤◌, length, subst}
use Rattle.air_edges.specs.Edge.{Edge}
use Rattle.air_edges.proofs.Joining.{given_there, joins_in_place, joins_not}
use Rattle.air_edges.proofs.on_air.OnAir.add.Goals as goal

pub replace-requires : goal.replace-requires
replace-requires g c =
    subst (λ (e : Edge g.row.S.Denot g.row.H.Denot). c.in-Some.place < length e.hearers) c.self.view_is
    (given_there c.args.origin c.in-Some.place c.self.inside.hearers c.in-Some.ensures.some)

pub returns-in-Some : goal.returns-in-Some
returns-in-Some g c =
    let full : 64 ≤ length c.self.inside.hearers = search (rules, arith) in
    joins_in_place c.args.output c.args.origin c.in-Some.place _ c.args.self.now c.replace.new.self c.self.view_is full
    c.in-Some.ensures.some c.replace.ensures

pub returns-in-None : goal.returns-in-None
returns-in-None g c =
    let full : 64 ≤ length c.self.inside.hearers = search (rules, arith) in
    joins_not c.args.output c.args.origin _ c.args.self.now c.tell_once.new.self c.self.view_is full
    c.in-None.ensures.none c.tell_once.ensures.tells c.tell_once.ensures.same
