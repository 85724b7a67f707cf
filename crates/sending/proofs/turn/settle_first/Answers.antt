use Rattle.std.proofs.Common.{rules, ◌≡◌, ◌+◌, ◌-◌, length, subst, ◌∙◌, inr}
use Rattle.uecp_link.specs.declared.counts.ServerCounts.{ServerCounts}
use Rattle.uecp_link.specs.Server.{waiting}
use Rattle.sending.specs.Accounts.{AreHeld}
use Rattle.sending.specs.Run.{AnswersTold, marks_in, unknown_of}
use Rattle.sending.proofs.turn.settle_first.Goals as goal

pub returns-clause-settles : goal.returns-clause-settles
returns-clause-settles g c =
    let sent = c.settle_kept-ended in
    let server = c.args.sender.now.sender.server in
    let taken = c.args.course.now.progress.taken in
    let before = c.args.teller.now.held in
    let after = c.tell_held.new.self.held in
    let all : c.marks_of-marks.result.items ≡ marks_in server = search rules in
    let marks : c.as_slice.result.now ≡ marks_in server = c.as_slice.ensures.value ∙ all in
    let sent_is : c.as_slice-2.result.now ≡ waiting server = search rules in
    let counts : c.counts.result ≡ sent.new.sender.sender.server.counts = search rules in
    let first : c.first_of.result ≡ taken + 1 - length (marks_in server) = search rules in
    let unknown : c.unknown_of-course.result ≡ unknown_of (length (marks_in server)) sent.result = search rules in
    inr (
      search rules,
      (
        sent.result,
        search rules,
        subst (λ (cs : ServerCounts). AnswersTold c.args.account
            (AreHeld c.args.account (taken + 1 - length (marks_in server))
            (marks_in server) (waiting server)) cs sent.result before after c.tell_held.result) counts
            (subst (λ n. AnswersTold c.args.account (AreHeld c.args.account n (marks_in server) (waiting server))
            c.counts.result sent.result before after c.tell_held.result) first
            (subst (λ l. AnswersTold c.args.account (AreHeld c.args.account c.first_of.result l (waiting server))
            c.counts.result sent.result before after c.tell_held.result) marks
            (subst (λ l. AnswersTold c.args.account (AreHeld c.args.account c.first_of.result c.as_slice.result.now l)
            c.counts.result sent.result before after c.tell_held.result) sent_is c.tell_held.ensures.tells))),
        search rules,
        unknown,
      ),
    )
