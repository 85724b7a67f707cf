use Rattle.page.proofs.Public.{served_next}
use Rattle.page_server.proofs.Rest.{caught_next}
use Rattle.page_server.proofs.server.Serving.take_next.Goals as goal

pub tell-requires : goal.tell-requires
tell-requires g c = record {
  serving = served_next g.C.Connection.talk c.now-came.result c.args.self.now.intake c.take_next.new.self
      c.in-Ok-Some.field-0
      c.args.self.now.guests c.in-Ok-Some.ensures.takes c.requires.serving;
  caught_up = caught_next c.args.self.now.guests.guests.items c.args.self.now.intake c.take_next.new.self
      c.in-Ok-Some.field-0 c.in-Ok-Some.taken c.now-came.result c.in-Ok-Some.field-0-is c.in-Ok-Some.ensures.takes
      c.requires.caught_up;
}
