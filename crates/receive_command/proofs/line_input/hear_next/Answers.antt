use Rattle.std.proofs.Common.{rules, ◌≡◌, Option, Err, is_some, subst, refl}
use Rattle.rds_groups.specs.View.{receiver_of}
use Rattle.receive_command.specs.declared.group_lines.group_line.GroupLine.{GroupLine}
use Rattle.receive_command.specs.View.{standing_of, NextIs}
use Rattle.receive_command.proofs.Heard.{fails_to_tell}
use Rattle.receive_command.proofs.line_input.hear_next.Goals as goal

pub returns-in_err-hear_group-clause-failed : goal.returns-in_err-hear_group-clause-failed
returns-in_err-hear_group-clause-failed g c =
    let unread = g.F.Feed.remaining c.args.feed.now in
    let left = g.F.Feed.remaining c.next_group.new.feed in
    let held = g.W.Write.contents c.args.writer.now in
    let fault = c.in_err-hear_group.field-0.0 in
    let x = standing_of c.args.hearing.now unread held c.args.errors.now in
    let takes = subst (λ (o : Option GroupLine). NextIs unread left o) c.in-Some.is c.in_ok-group.ensures.is in
    let err : c.from_residual-in_err-hear_group.result ≡ Err fault = search rules in
    rw err (
      fails_to_tell c.args.form (is_some c.args.clock) x left (g.W.Write.contents c.hear_group.new.writer)
          c.in-Some.group (receiver_of c.hear_group.new.receiver) takes c.hear_group.ensures.heard fault
          c.in_err-hear_group.ensures.failed,
      refl,
    )
