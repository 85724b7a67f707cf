use Rattle.page.specs.ClientView.{source_of}
use Rattle.page.proofs.Visiting.{then_not_heard, then_not_sent, then_watched}
use Rattle.page.proofs.guests.all.hear.Goals as goal

pub returns-then-not-hear : goal.returns-then-not-hear
returns-then-not-hear g c =
    then_not_heard g.C.Connection.talk g.C.Connection.reads (source_of c.args.site.now) c.args.site.now.own_only
    c.args.guest.now c.hear.new.self c.hear.result c.hear.ensures c.if-not-hear.true

pub returns-then-not-deliver : goal.returns-then-not-deliver
returns-then-not-deliver g c =
    then_not_sent g.C.Connection.talk g.C.Connection.reads (source_of c.args.site.now) c.args.site.now.own_only
    c.args.guest.now c.hear.new.self c.deliver.new.self c.hear.result c.deliver.result c.hear.ensures
    c.if-not-hear.false c.deliver.ensures

pub returns : goal.returns
returns g c =
    then_watched g.C.Connection.talk g.C.Connection.reads (source_of c.args.site.now) c.args.site.now.own_only
    c.args.guest.now c.hear.new.self c.deliver.new.self c.hear.result c.deliver.result c.watch.result c.hear.ensures
    c.if-not-hear.false c.deliver.ensures c.if-not-deliver.false
