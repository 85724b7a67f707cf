use Rattle.std.proofs.Common.{inl, inr, subst}
use Rattle.page.specs.declared.state.silence.Moment.{Moment}
use Rattle.page.specs.Intake.{board_of}
use Rattle.page.specs.Visits.{guests_of}
use Rattle.page.specs.EventPlaces.{HearsOne}
use Rattle.page_server.proofs.server.Serving.hear.Goals as goal

pub returns-clause-hears : goal.returns-clause-hears
returns-clause-hears g c =
    let s = c.args.self.now in
    let P : Moment → Type 0 = λ m. HearsOne g.C.Connection.talk g.C.Connection.origin g.C.Connection.numbered
    g.C.Connection.reads c.args.number (board_of s.intake).shown (board_of s.intake).past m s.guests.own_only
    (guests_of s.guests) (guests_of c.hear.new.self) in
    elim c.hear.ensures.hears [
      | inl none ↦ inl none
      | inr h ↦ inr (c.now.result, c.now.new.self, c.now.ensures.reads, subst P c.moment-moment.ensures h)
    ]
