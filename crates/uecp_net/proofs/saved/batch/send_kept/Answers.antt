use Rattle.std.proofs.Common.{length, ap, subst, ◌∙◌}
use Rattle.uecp_net.specs.Keeping.{taking}
use Rattle.uecp_net.specs.SavedSending.{SendsKept}
use Rattle.uecp_net.proofs.Submitting.{some_held, all_loan, settled_stays}
use Rattle.uecp_net.proofs.saved.batch.send_kept.Goals as goal

pub send_submitted-requires : goal.send_submitted-requires
send_submitted-requires g c = some_held c.args.sender.now c.submit_all.new.sender c.args.batch.now c.submit_all.ensures
    c.requires.some

pub returns-clause-sends : goal.returns-clause-sends
returns-clause-sends g c =
    let k = g.K.Keep in
    let s = c.send_submitted in
    subst (λ mid. SendsKept g.C.Connections.opens g.C.Connections.closes g.C.Input.Read.remaining
    g.C.Output.Write.contents
    k.saves k.fails (taking c.args.progress.now (length c.args.batch.now)) mid s.new.sender c.args.keeper.now
    s.new.keeper s.result) c.submit_all.ensures s.ensures.sends

pub returns-clause-stays : goal.returns-clause-stays
returns-clause-stays g c = settled_stays c.args.sender.now c.submit_all.new.sender c.send_submitted.new.sender
    c.args.batch.now c.submit_all.ensures c.send_submitted.ensures.stays

pub returns-clause-loan : goal.returns-clause-loan
returns-clause-loan g c = c.send_submitted.ensures.loan ∙ ap (λ s. s.loan) c.submit_all.ensures
    ∙ all_loan c.args.sender.now c.args.batch.now
