use Rattle.std.proofs.Common.{[], refl, sym, inl, inr}
use Rattle.sending.proofs.Stationing.{adds_none, and_true}
use Rattle.sending.proofs.station.join_and_send.Goals as goal

pub returns-in-Err-clause-makes : goal.returns-in-Err-clause-makes
returns-in-Err-clause-makes g c = (
  [],
  inr (c.in-Err.reason, c.in-Err.ensures.joins, refl, refl),
  adds_none c.args.form c.args.lines.now,
  sym (and_true c.args.all.now),
)

pub returns-in-Ok-clause-makes : goal.returns-in-Ok-clause-makes
returns-in-Ok-clause-makes g c =
    let (told, sends, lines, all) = c.send_station.ensures.sends in
    (told, inl (c.join.new.self, c.in-Ok.ensures.joins, sends), lines, all)
