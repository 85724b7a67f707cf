use Rattle.std.proofs.Common.{ap, ◌∙◌, sym, subst, refl}
use Rattle.std.proofs.Math.Numerals.{add-one}
use Rattle.std.proofs.lemmas.Bool.{false≢true}
use Rattle.bad_line.specs.Connections.{Refuses, Line}
use Rattle.bad_line.proofs.RefusedConnections.{refuses_more}
use Rattle.bad_line.proofs.connections.faulty.Faulty.open_next.Goals as goal

pub loop-refused-preserved : goal.loop-refused-preserved
loop-refused-preserved g c =
    let k = g.C.Connections in
    record {
      refused = subst (λ n. Refuses k.opens k.closes n c.args.self.now.connect c.close.new.self)
          (sym (add-one c.loop-refused._refused))
          (refuses_more k.opens k.closes c.loop-refused._refused c.args.self.now.connect c.self.inside.connect
          c.in-Some.input c.in-Some.output c.open.new.self c.close.new.self
          (subst (λ now. Refuses k.opens k.closes c.loop-refused._refused c.args.self.now.connect now)
          (sym (ap (λ l. l.connect) c.self.view_is)) c.loop-refused.invariant.refused) c.in-Some.ensures
          c.close.ensures);
      some = λ none. absurd (false≢true (sym (ap (λ l. l.refuses) c.self.view_is
          ∙ ap (λ l. l.refuses) c.loop-refused.invariant.same ∙ none) ∙ c.if-not-refuses.ensures refl));
      same = ap {A = Line g.row.C.Denot} (λ l. record l { connect = c.close.new.self })
          (c.self.view_is ∙ c.loop-refused.invariant.same);
    }
