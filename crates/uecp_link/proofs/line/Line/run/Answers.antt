use Rattle.std.proofs.Common.{◌≡◌, ◌+◌, ℕ, List, [], ◌∷◌, ◌++◌, take, get_or, map, refl, sym, ap, subst, ◌∙◌, arith}
use Rattle.std.specs.List.{AllByRecursion}
use Rattle.std.proofs.lemmas.List.{map_more, take_all}
use Rattle.uecp_link.specs.declared.event.LineEvent.{LineEvent}
use Rattle.uecp_link.specs.Once.{Event}
use Rattle.uecp_link.specs.Law.{Fits}
use Rattle.uecp_link.specs.Holds.{RunsAs}
use Rattle.uecp_link.specs.Events.{event_of}
use Rattle.uecp_link.proofs.Playing.{runs-none, runs-taken, runs-refused, fits_more}
use Rattle.uecp_link.proofs.line.Line.run.Goals as goal
use Rattle.uecp_link.proofs.line.Line.run.Goals.{in-Ok, in-Err}

pub loop-event-init : goal.loop-event-init
loop-event-init g c = record {
  few = omega arith;
  plays = λ o h. runs-none g.T.Target.step g.T.Target.taken c.args.self.now o h;
  fits = tt;
  address = refl;
}

pub loop-event-preserved : goal.loop-event-preserved
loop-event-preserved g c =
    let i : ℕ = c.loop-event.event-index in
    let event : Event = event_of c.event-item.result in
    let before : List Event = map event_of (take i c.args.events.now) in
    let here : event ≡ event_of (get_or c.args.events.now i c.event-item.result) = ap event_of c.event-item.is in
    let more : map event_of (take (i + 1) c.args.events.now) ≡ before ++ event ∷ [] =
    map_more event_of c.args.events.now i c.event-item.result c.loop-event-test.true
    ∙ ap (λ e. before ++ e ∷ []) (sym here) in
    let fits : AllByRecursion Fits (map event_of (take (i + 1) c.args.events.now)) =
    subst (λ (xs : List Event). AllByRecursion Fits xs) (sym more)
    (fits_more before event c.loop-event.invariant.fits c.step.ensures.fits) in
    elim c.match-step.branch [
      | in-Ok w ↦ record {
        few = omega (arith, w.refused-is, c.loop-event.invariant.few);
        plays = λ o h.
            let r = c.loop-event.invariant.plays o h in
            let s = w.in-Ok.ensures.steps r.last r.holds in
            subst (λ (xs : List Event). RunsAs g.T.Target.step g.T.Target.taken c.args.self.now o xs
            c.match-step.refused c.step.new.self) (sym more)
            (subst (λ (n : ℕ). RunsAs g.T.Target.step g.T.Target.taken c.args.self.now o (before ++ event ∷ []) n
            c.step.new.self) (sym w.refused-is)
            (runs-taken g.T.Target.step g.T.Target.taken c.args.self.now o before c.loop-event.refused c.loop-event.self
            r event w.in-Ok.field-0 c.step.new.self c.step.ensures.fits s));
        fits = fits;
        address = c.step.ensures.address ∙ c.loop-event.invariant.address;
      }
      | in-Err w ↦ record {
        few = omega (arith, w.refused-is, c.loop-event.invariant.few);
        plays = λ o h.
            let r = c.loop-event.invariant.plays o h in
            subst (λ (xs : List Event). RunsAs g.T.Target.step g.T.Target.taken c.args.self.now o xs
            c.match-step.refused c.step.new.self) (sym more)
            (subst (λ (n : ℕ). RunsAs g.T.Target.step g.T.Target.taken c.args.self.now o (before ++ event ∷ []) n
            c.step.new.self) (sym w.refused-is)
            (runs-refused g.T.Target.step g.T.Target.taken c.args.self.now o before c.loop-event.refused
            c.loop-event.self r event w.in-Err.field-0 c.step.new.self
            (w.in-Err.ensures.refused r.last r.holds) w.in-Err.ensures.unchanged));
        fits = fits;
        address = c.step.ensures.address ∙ c.loop-event.invariant.address;
      }
    ]

pub returns-clause-plays : goal.returns-clause-plays
returns-clause-plays g c = λ o h.
    let all : take c.loop-event.event-index c.args.events.now ≡ c.args.events.now =
    take_all c.loop-event.event-index c.args.events.now c.loop-event-test.false in
    subst (λ (xs : List LineEvent). RunsAs g.T.Target.step g.T.Target.taken c.args.self.now o (map event_of xs)
    c.loop-event.refused c.loop-event.self) all (c.loop-event.invariant.plays o h)

pub returns-clause-fits : goal.returns-clause-fits
returns-clause-fits g c =
    let all : take c.loop-event.event-index c.args.events.now ≡ c.args.events.now =
    take_all c.loop-event.event-index c.args.events.now c.loop-event-test.false in
    subst (λ (xs : List LineEvent). AllByRecursion Fits (map event_of xs)) all c.loop-event.invariant.fits
