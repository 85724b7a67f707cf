use Rattle.std.proofs.Common.{rules, arith, ◌≡◌, ◌⊎◌, refl, sym, subst, [], ◌∷◌, ◌++◌, ◌∙◌, inl, inr}
use Rattle.page.specs.Events.{Event}
use Rattle.page.specs.Sending.{Standing, FewWait}
use Rattle.page.specs.ClientView.{standing_of}
use Rattle.page.proofs.Delivered.{nothing_sent, one_more, more_wait}
use Rattle.page.proofs.clients.client.Client.catch_up.Goals as goal

pub loop-event-init : goal.loop-event-init
loop-event-init c = record {
  sends = λ live. ([], nothing_sent c.args.history.now (standing_of c.args.self.now));
  phase = refl;
  came = refl;
  few = inl refl;
}

pub loop-event-preserved : goal.loop-event-preserved
loop-event-preserved c =
    let e : Event = record { number = c.loop-event.self.due; line = c.in-Some.line.now } in
    record {
      sends = λ live.
          let h = c.loop-event.invariant.sends live in (
            h.0 ++ e ∷ [],
            one_more c.args.history.now h.0 (standing_of c.args.self.now) (standing_of c.loop-event.self)
                (standing_of c.send.new.self) e h.1
                c.in-Some.ensures.some.1 c.in_ok-send.ensures.due c.in_ok-send.ensures.output
                c.in_ok-send.ensures.writing,
          );
      phase = c.in_ok-send.ensures.phase ∙ c.loop-event.invariant.phase;
      came = c.in_ok-send.ensures.came ∙ c.loop-event.invariant.came;
      few = inr (more_wait (standing_of c.loop-event.self) (standing_of c.send.new.self) e c.in_ok-send.ensures.output
          c.in_ok-send.ensures.writing (search (rules, arith)));
    }

pub returns-in_err-send-clause-few : goal.returns-in_err-send-clause-few
returns-in_err-send-clause-few c =
    let same : standing_of c.send.new.self ≡ standing_of c.loop-event.self = c.in_err-send.ensures.err in
    subst (λ (s : Standing). (s.output ≡ (standing_of c.args.self.now).output) ⊎ FewWait s) (sym same)
    c.loop-event.invariant.few
