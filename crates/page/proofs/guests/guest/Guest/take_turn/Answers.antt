use Rattle.std.proofs.Common.{refl, sym, subst}
use Rattle.page.specs.declared.guests.guest.Guest.{Guest}
use Rattle.page.specs.declared.guests.guest.Deed.{Deed}
use Rattle.page.specs.Visits.{Does}
use Rattle.page.proofs.Visiting.{does_caught}
use Rattle.page.proofs.guests.guest.Guest.take_turn.Goals as goal

pub returns-in-CatchUp : goal.returns-in-CatchUp
returns-in-CatchUp g c =
    let after : Guest g.row.C.Denot = record {
      connection = c.args.self.now.connection;
      client = c.catch_up.new.self;
      ticks = c.args.self.now.ticks;
      is_shut = c.args.self.now.is_shut;
    } in
    subst (λ (d : Deed). Does g.C.Connection.talk d c.args.history.now c.args.self.now c.is_ok.result after)
    (sym c.in-CatchUp.is)
    (does_caught g.C.Connection.talk c.args.history.now c.args.self.now after c.catch_up.result c.is_ok.result
    c.catch_up.ensures.sends c.catch_up.ensures.phase c.catch_up.ensures.idle c.catch_up.ensures.came
    c.catch_up.ensures.all c.is_ok.ensures.value refl)
