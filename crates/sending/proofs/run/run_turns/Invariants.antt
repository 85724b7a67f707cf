use Rattle.std.proofs.Common.{◌≡◌, ◌+◌, ◌*◌, ◌≤◌, []}
use Rattle.sending.specs.Run.{GoesOnFor, live}
use Rattle.sending.proofs.run.run_turns.Given as goal

-- so many turns were made and the run goes on; each took at most eight messages, none waits, and what is lent stays so
abbrev pub invariant-loop-turn : goal.invariant-loop-turn
invariant-loop-turn g l =
    let k = g.K.Keep in
    record {
      idle : l.sender.sender.server.held ≡ [];
      loan : l.sender.loan ≡ l.fn.sender.loan;
      how : g.S.Source.how l.source ≡ g.S.Source.how l.fn.source;
      lent : g.S.Source.lent l.source ≡ g.S.Source.lent l.fn.source;
      writer : l.teller.writer ≡ l.fn.teller.writer;
      countable : l.course.progress.taken ≤ l.fn.course.progress.taken + 8 * l._turn;
      on : GoesOnFor (g.S.Source.takes (g.S.Source.how l.fn.source) l.options.size)
          g.C.Connections.opens
          g.C.Connections.closes g.C.Input.Read.remaining g.C.Output.Write.contents
          k.leaves
          k.is_clean k.saves k.fails l.options.account l._turn
          (live l.fn.sender l.fn.keeper (g.S.Source.at l.fn.source) l.fn.teller l.fn.course)
          (live l.sender l.keeper (g.S.Source.at l.source) l.teller l.course);
    }
