use Rattle.page.proofs.Public.{served_last}
use Rattle.page_server.proofs.Rest.{caught_last}
use Rattle.page_server.proofs.server.Serving.take_last.Goals as goal

pub tell-requires : goal.tell-requires
tell-requires g c = record {
  serving = served_last g.C.Connection.talk c.now-came.result c.args.self.now.intake c.take_last.new.self
      c.in-Ok-Some.field-0
      c.args.self.now.guests c.in-Ok-Some.ensures.takes c.requires.serving;
  caught_up = caught_last c.args.self.now.guests.guests.items c.args.self.now.intake c.take_last.new.self
      c.in-Ok-Some.field-0 c.in-Ok-Some.taken c.now-came.result c.in-Ok-Some.field-0-is c.in-Ok-Some.ensures.takes
      c.requires.caught_up;
}
