use Rattle.std.proofs.Common.{◌≤◌, refl, take, rules, arith}
use Rattle.page.specs.declared.guests.guest.Guest.{Guest}
use Rattle.page.specs.ClientView.{source_of}
use Rattle.page.proofs.Visiting.{heard_bytes}
use Rattle.page.proofs.guests.guest.Guest.hear.Goals as goal

pub returns-else-count-eq0 : goal.returns-else-count-eq0
returns-else-count-eq0 g c =
    let after : Guest g.row.C.Denot = record {
      connection = c.read.new.self;
      client = c.receive.new.self;
      ticks = c.args.self.now.ticks;
      is_shut = c.args.self.now.is_shut;
    } in
    let count = c.in-Bytes.count in
    let some : 1 ≤ count = search (rules, arith) in
    heard_bytes g.C.Connection.talk g.C.Connection.reads (source_of c.args.site.now) c.args.site.now.own_only
    c.read.new.buffer (take count c.read.new.buffer) count c.args.self.now after c.in-Bytes.ensures.reads some
    c.in-Bytes.ensures.is_read.1 refl c.receive.ensures.hears
    c.receive.ensures.came c.receive.ensures.kept refl
