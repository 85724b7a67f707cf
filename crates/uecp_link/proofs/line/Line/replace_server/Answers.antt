use Rattle.std.proofs.Common.{◌≡◌, ◌∙◌, ap, length, sym, subst, arith}
use Rattle.uecp_encoder.specs.State.{EncoderState, fed}
use Rattle.uecp_link.specs.Once.{at_first}
use Rattle.uecp_link.specs.Joining.{pass_sent, HasJoinedWith}
use Rattle.uecp_link.specs.Replacing.{Replaces, with_nothing_open}
use Rattle.uecp_link.specs.Holds.{LineState, IsLine, Holds, line_from}
use Rattle.uecp_link.specs.Whole.{room_for}
use Rattle.uecp_link.proofs.Replaced.{Replaced, replaced, left_is}
use Rattle.uecp_link.proofs.line.Line.replace_server.Goals as goal

pub invariant_of-self : goal.invariant_of-self
invariant_of-self g c =
    let old : LineState _ = record {
      encoder = c.self.inside.encoder;
      server = c.self.inside.server;
      sent = c.self.inside.sent.items;
      codes = c.self.inside.codes.items;
    } in
    let new : LineState _ = record {
      encoder = c.give_pass.new.encoder;
      server = c.begin_again.new.self;
      sent = c.forget.new.values.items;
      codes = c.forget-2.new.values.items;
    } in
    let e : EncoderState _ = fed g.T.Target.step (with_nothing_open old.encoder) (pass_sent old.encoder.address) in
    let r : Replaced g.T.Target.step old e = replaced g.T.Target.step c.requires.empty old c.self.invariant.is_line in
    let begins : new ≡ line_from e =
    left_is g.T.Target.step old c.self.invariant.is_line c.self.inside.address c.line_lost.new.self
    c.give_pass.new.encoder c.begin_again.new.self c.forget.new.values.items c.forget-2.new.values.items
    c.self.invariant.address_is c.line_lost.ensures c.give_pass.ensures c.begin_again.ensures c.forget.ensures.items
    c.forget-2.ensures.items r.address in
    record {
      is_line = subst IsLine (sym begins) r.is_line;
      address_is = ap (λ (l : LineState _). l.encoder.address) begins ∙ r.address ∙ c.self.invariant.address_is;
      fits = let none : length c.forget.new.values.items ≡ 0 = ap length c.forget.ensures.items in omega (arith, none);
      sent_room_is = c.forget.ensures.room ∙ ap room_for (sym (ap length c.forget.ensures.items));
      code_room_is = c.forget-2.ensures.room ∙ ap room_for (sym (ap length c.forget.ensures.items));
    }

pub returns-clause-replaces : goal.returns-clause-replaces
returns-clause-replaces g c =
    let old : LineState _ = record {
      encoder = c.self.inside.encoder;
      server = c.self.inside.server;
      sent = c.self.inside.sent.items;
      codes = c.self.inside.codes.items;
    } in
    let new : LineState _ = record {
      encoder = c.give_pass.new.encoder;
      server = c.begin_again.new.self;
      sent = c.forget.new.values.items;
      codes = c.forget-2.new.values.items;
    } in
    let e : EncoderState _ = fed g.T.Target.step (with_nothing_open old.encoder) (pass_sent old.encoder.address) in
    let r : Replaced g.T.Target.step old e = replaced g.T.Target.step c.requires.empty old c.self.invariant.is_line in
    let begins : new ≡ line_from e =
    left_is g.T.Target.step old c.self.invariant.is_line c.self.inside.address c.line_lost.new.self
    c.give_pass.new.encoder c.begin_again.new.self c.forget.new.values.items c.forget-2.new.values.items
    c.self.invariant.address_is c.line_lost.ensures c.give_pass.ensures c.begin_again.ensures c.forget.ensures.items
    c.forget-2.ensures.items r.address in
    subst (λ (l : LineState _). Replaces g.T.Target.step l c.waiting-given_up.result new) c.self.view_is
    (record {
      given_up_is = c.waiting-given_up.ensures.value;
      begins = begins;
      replied = r.replied;
      joined = subst (λ (l : LineState _). HasJoinedWith l.encoder old.encoder.value) (sym begins) r.joined;
      address = ap (λ (l : LineState _). l.encoder.address) begins ∙ r.address;
    })

pub returns-clause-holds : goal.returns-clause-holds
returns-clause-holds g c =
    let old : LineState _ = record {
      encoder = c.self.inside.encoder;
      server = c.self.inside.server;
      sent = c.self.inside.sent.items;
      codes = c.self.inside.codes.items;
    } in
    let new : LineState _ = record {
      encoder = c.give_pass.new.encoder;
      server = c.begin_again.new.self;
      sent = c.forget.new.values.items;
      codes = c.forget-2.new.values.items;
    } in
    let e : EncoderState _ = fed g.T.Target.step (with_nothing_open old.encoder) (pass_sent old.encoder.address) in
    let r : Replaced g.T.Target.step old e = replaced g.T.Target.step c.requires.empty old c.self.invariant.is_line in
    let begins : new ≡ line_from e =
    left_is g.T.Target.step old c.self.invariant.is_line c.self.inside.address c.line_lost.new.self
    c.give_pass.new.encoder c.begin_again.new.self c.forget.new.values.items c.forget-2.new.values.items
    c.self.invariant.address_is c.line_lost.ensures c.give_pass.ensures c.begin_again.ensures c.forget.ensures.items
    c.forget-2.ensures.items r.address in
    subst (λ (l : LineState _). Holds l (at_first l.encoder.value)) (sym begins) r.holds
