use Rattle.std.proofs.Common.{refl, sym, true, ◌∙◌}
use Rattle.std.proofs.lemmas.Bool.{iff_false, false≢true}
use Rattle.page.specs.declared.guests.guest.Guest.{Guest}
use Rattle.page.proofs.Visiting.{sends_failed, sends_more, sends_last}
use Rattle.page.proofs.guests.guest.Guest.deliver.Goals as goal

pub returns-then-is_err : goal.returns-then-is_err
returns-then-is_err g c =
    let (events, written, gets, sent, served) = c.deliver.ensures.sends in
    let after : Guest g.row.C.Denot = record {
      connection = c.deliver.new.connection;
      client = c.deliver.new.self;
      ticks = c.args.self.now.ticks;
      is_shut = c.args.self.now.is_shut;
    } in
    sends_failed g.C.Connection.talk c.args.history.now c.args.self.now after events written gets sent
    c.deliver.ensures.came refl

pub returns-then-not-rests_in : goal.returns-then-not-rests_in
returns-then-not-rests_in g c =
    let (events, written, gets, sent, served) = c.deliver.ensures.sends in
    let after : Guest g.row.C.Denot = record {
      connection = c.deliver.new.connection;
      client = c.deliver.new.self;
      ticks = c.args.self.now.ticks;
      is_shut = c.args.self.now.is_shut;
    } in
    sends_more g.C.Connection.talk c.args.history.now c.args.self.now after c.deliver.result events written gets sent
    served (sym c.is_err.ensures.value ∙ c.if-is_err.false) c.deliver.ensures.came refl
    (λ closing none. absurd (iff_false c.rests_in.ensures c.if-not-rests_in.true (closing, none)))

pub returns-then-self : goal.returns-then-self
returns-then-self g c =
    let (events, written, gets, sent, served) = c.deliver.ensures.sends in
    let after : Guest g.row.C.Denot = record {
      connection = c.deliver.new.connection;
      client = c.deliver.new.self;
      ticks = c.args.self.now.ticks;
      is_shut = c.args.self.now.is_shut;
    } in
    sends_more g.C.Connection.talk c.args.history.now c.args.self.now after c.deliver.result events written gets sent
    served (sym c.is_err.ensures.value ∙ c.if-is_err.false) c.deliver.ensures.came refl
    (λ closing none. (c.if-self.true, λ before. absurd (false≢true (sym before ∙ c.if-self.true))))

pub returns : goal.returns
returns g c =
    let (events, written, gets, sent, served) = c.deliver.ensures.sends in
    let after : Guest g.row.C.Denot = record {
      connection = c.shut.new.self;
      client = c.deliver.new.self;
      ticks = c.args.self.now.ticks;
      is_shut = true;
    } in
    sends_last g.C.Connection.talk c.args.history.now c.args.self.now after
    (g.C.Connection.talk c.deliver.new.connection) c.shut.result c.deliver.result events written gets sent served
    (sym c.is_err.ensures.value ∙ c.if-is_err.false) c.deliver.ensures.came refl refl c.shut.ensures
