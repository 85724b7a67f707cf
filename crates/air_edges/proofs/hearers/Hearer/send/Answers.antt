use Rattle.std.proofs.Common.{rules, arith, ◌≡◌, ◌+◌, ◌≤◌, ◌++◌, length, drop, refl, subst}
use Rattle.air_edges.specs.Hearers.{Hearing, GetsGroup, IsGone}
use Rattle.air_edges.proofs.Getting.{gets_first, is_gone}
use Rattle.air_edges.proofs.hearers.Hearer.send.Goals as goal

pub returns-in-First : goal.returns-in-First
returns-in-First g c =
    let before : Hearing g.row.H.Denot = record {
      output = c.self.inside.output;
      origin = c.self.inside.origin;
      waiting = c.self.inside.waiting.items;
    } in
    let after : Hearing g.row.H.Denot = record {
      output = c.take.new.self;
      origin = c.self.inside.origin;
      waiting = c.drop-drain.new.self.0.items;
    } in
    let offered : c.as_slice.result.now ≡ before.waiting ++ c.args.bytes.now = search rules in
    let room : length before.waiting + length c.args.bytes.now ≤ 4096 = search rules in
    let rest : after.waiting ≡ drop c.in-First.count c.as_slice.result.now = grind (arith, rules) in
    let gets : GetsGroup g.H.Hears.takes g.H.Write.contents c.args.bytes.now before after =
    gets_first g.H.Hears.takes g.H.Write.contents c.args.bytes.now c.as_slice.result.now before after
    c.in-First.count refl offered room rest c.in-First.ensures.within c.in-First.ensures.takes
    c.in-First.ensures.gets in
    subst (λ (h : Hearing g.row.H.Denot). GetsGroup g.H.Hears.takes g.H.Write.contents c.args.bytes.now h after)
    c.self.view_is gets

pub returns-in-Gone : goal.returns-in-Gone
returns-in-Gone g c =
    let before : Hearing g.row.H.Denot = record {
      output = c.self.inside.output;
      origin = c.self.inside.origin;
      waiting = c.self.inside.waiting.items;
    } in
    let offered : c.as_slice.result.now ≡ before.waiting ++ c.args.bytes.now = search rules in
    let room : length before.waiting + length c.args.bytes.now ≤ 4096 = search rules in
    subst (λ (h : Hearing g.row.H.Denot). IsGone g.H.Hears.takes c.args.bytes.now h) c.self.view_is
    (is_gone g.H.Hears.takes c.args.bytes.now c.as_slice.result.now before c.take.new.self offered room
    c.in-Gone.ensures.takes)
