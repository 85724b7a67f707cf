use Rattle.std.proofs.Common.{ap, sym, subst, ◌∙◌}
use Rattle.uecp_jobs.proofs.Public.{all_loan, some_held, SettlesSo}
use Rattle.sending.proofs.Stationing.{settled_batch}
use Rattle.sending.proofs.station.settle_batch.Goals as goal

pub settle-requires : goal.settle-requires
settle-requires g c =
    let some = some_held g.C.Connections.opens g.C.Connections.closes g.C.Input.Read.remaining g.C.Output.Write.contents
    c.args.sender.now c.args.sender.now c.args.batch.now c.requires.some in
    λ none. some (ap (λ s. s.sender.server.held) (sym c.submit_all.ensures) ∙ none)

pub returns-clause-settles : goal.returns-clause-settles
returns-clause-settles g c =
    let s = c.settle in
    settled_batch g.C.Connections.opens g.C.Connections.closes g.C.Input.Read.remaining g.C.Output.Write.contents
    c.args.sender.now s.new.self c.args.batch.now s.result c.requires.idle
    (subst (λ mid. SettlesSo g.C.Connections.opens g.C.Connections.closes g.C.Input.Read.remaining
    g.C.Output.Write.contents mid
    s.new.self s.result) c.submit_all.ensures
    (record {
      freed = s.ensures.freed;
      all = s.ensures.all;
      tries = s.ensures.tries;
      outstanding = s.ensures.outstanding;
      stays = s.ensures.stays;
      delivers = s.ensures.delivers;
      gives_up = s.ensures.gives_up;
    }))

pub returns-clause-loan : goal.returns-clause-loan
returns-clause-loan g c = c.settle.ensures.loan ∙ ap (λ s. s.loan) c.submit_all.ensures
    ∙ all_loan c.args.sender.now c.args.batch.now
