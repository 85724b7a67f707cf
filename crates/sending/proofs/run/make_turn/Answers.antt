use Rattle.std.proofs.Common.{refl}
use Rattle.sending.proofs.run.make_turn.Goals as goal

pub returns-in-Err-clause-stopped : goal.returns-in-Err-clause-stopped
returns-in-Err-clause-stopped g c = (
  c.take-after.result,
  record {
    messages = (g.S.Source.taken c.take-after.new.self);
    taken = c.take-after.ensures.takes;
    sends = rw c.batch.ensures at c.in-Err.ensures.sends;
    behind = refl;
  },
)

pub returns-in-Ok-clause-made : goal.returns-in-Ok-clause-made
returns-in-Ok-clause-made g c = record {
  messages = (g.S.Source.taken c.take-after.new.self);
  taken = c.take-after.ensures.takes;
  sends = rw c.batch.ensures at c.in-Ok.ensures.sends;
  behind = c.in-Ok.ensures.behind;
}
