use Rattle.std.proofs.Common.{◌≡◌}
use Rattle.uecp_link.specs.Server.{ServerState}
use Rattle.sending.specs.Run.{RunsFor, live}
use Rattle.sending.proofs.lives.run_all.Given as goal

-- one sender ran, and so many more after it; and what is lent stays so
abbrev pub invariant-loop-again : goal.invariant-loop-again
invariant-loop-again g l =
    let k = g.K.Keep in
    record {
      so : (last : ServerState) × RunsFor (g.S.Source.takes (g.S.Source.how l.fn.source))
          g.C.Connections.opens g.C.Connections.closes g.C.Input.Read.remaining
          g.C.Output.Write.contents k.leaves k.is_clean k.saves
          k.fails l.options l.due l._again l.fn.connect l.connect
          (live l.fn.server l.fn.keeper (g.S.Source.at l.fn.source) l.fn.teller l.fn.course)
          (live last l.keeper (g.S.Source.at l.source) l.teller l.course) l.ran;
      how : g.S.Source.how l.source ≡ g.S.Source.how l.fn.source;
      lent : g.S.Source.lent l.source ≡ g.S.Source.lent l.fn.source;
      writer : l.teller.writer ≡ l.fn.teller.writer;
    }
