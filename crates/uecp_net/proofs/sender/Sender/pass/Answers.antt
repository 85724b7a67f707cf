use Rattle.std.proofs.Common.{◌∙◌, sym}
use Rattle.uecp_net.proofs.Passing.{passed}
use Rattle.uecp_net.proofs.sender.Sender.pass.Goals as goal

pub returns-clause-passes : goal.returns-clause-passes
returns-clause-passes g c =
    let (start, opened, has, now_is) = c.in_ok-ends.ensures.opens in (
      c.join-went.result,
      passed g.C.Input.Read.remaining g.C.Output.Write.contents g.C.Connections.opens g.C.Connections.closes
          c.args.behind.now _ c.args.self.now
          start _ _ _ _ _ _ c.requires.none opened has (c.self.view_is ∙ now_is) c.saturating_mul-turns.ensures
          c.join-went.ensures.passes,
      sym c.end_of_pass.ensures,
    )
