use Rattle.std.proofs.Common.{◌≡◌, ◌∙◌, ap, length, sym, subst, rules}
use Rattle.uecp_link.specs.Once.{at_first}
use Rattle.uecp_link.specs.Holds.{LineState, IsLine, Holds, line_from}
use Rattle.uecp_link.specs.Whole.{room_for}
use Rattle.uecp_link.proofs.Opening.{holds_from}
use Rattle.uecp_link.proofs.Played.{line_ready}
use Rattle.uecp_link.proofs.line.Line.of_encoder.Goals as goal

pub invariant_of-result : goal.invariant_of-result
invariant_of-result g c =
    let made : _ ≡ line_from c.args.encoder = search rules in
    record {
      is_line = subst IsLine (sym made) (line_ready c.args.encoder c.requires.ready c.requires.closed);
      address_is = c.requires.own;
      fits = search rules;
      sent_room_is = c.new-2.ensures.capacity ∙ ap room_for (sym (ap length c.new-2.ensures.items));
      code_room_is = c.new-3.ensures.capacity ∙ ap room_for (sym (ap length c.new-2.ensures.items));
    }

pub returns-clause-holds : goal.returns-clause-holds
returns-clause-holds g c =
    let made : _ ≡ line_from c.args.encoder = search rules in
    subst (λ (l : LineState _). Holds l (at_first c.args.encoder.value)) (sym made)
    (holds_from c.args.encoder c.requires.closed)
