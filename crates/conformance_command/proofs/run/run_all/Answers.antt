use Rattle.std.proofs.Common.{ℕ, List, Option, Bor}
use Rattle.std.specs.Option.{option_map}
use Rattle.conformance_command.specs.Choosing.{chosen}
use Rattle.conformance_command.proofs.Chain.{from_none, not_all, not_last, all_run}
use Rattle.conformance_command.proofs.run.run_all.Goals as goal

pub returns-in-Err-run_cases-clause-some : goal.returns-in-Err-run_cases-clause-some
returns-in-Err-run_cases-clause-some g c =
    let only : Option (List ℕ) = option_map {T = Bor (List ℕ)} {U = List ℕ} (λ name. name.now) c.args.manner.now.only in
    let (status, stops) = c.in-Err-run_cases.ensures.some in (
      status,
      not_all g.C.Connections.opens g.C.Connections.closes g.C.Input.Read.remaining g.C.Output.Write.contents
          c.args.manner.now.way
          (chosen only c.args.cases.now) c.args.count c.requires.count c.in-Err-run_cases.fault c.args.connect.now
          c.run_cases.new.connect (g.W.Write.contents c.args.writer.now)
          (g.W.Write.contents c.tell_first.new.writer) (g.W.Write.contents c.run_cases.new.writer) c.in-Ok.ensures
          stops,
    )

pub returns-in-Err-tell_last-clause-some : goal.returns-in-Err-tell_last-clause-some
returns-in-Err-tell_last-clause-some g c =
    let only : Option (List ℕ) = option_map {T = Bor (List ℕ)} {U = List ℕ} (λ name. name.now) c.args.manner.now.only in
    let ran = from_none g.C.Connections.opens g.C.Connections.closes g.C.Input.Read.remaining g.C.Output.Write.contents
    c.args.manner.now.way
    (chosen only c.args.cases.now) (record {
      connect = c.args.connect.now;
      held = g.W.Write.contents c.tell_first.new.writer;
    })
    (record { connect = c.run_cases.new.connect; held = g.W.Write.contents c.run_cases.new.writer }) c.none-tally.result
    c.run_cases.new.tally
    c.none-tally.ensures c.in-Ok-run_cases.ensures.all in
    not_last g.C.Connections.opens g.C.Connections.closes g.C.Input.Read.remaining g.C.Output.Write.contents
    c.args.manner.now.way
    (chosen only c.args.cases.now) c.args.count c.requires.count c.in-Err-tell_last.fault c.args.connect.now
    c.run_cases.new.connect (g.W.Write.contents c.args.writer.now) (g.W.Write.contents c.tell_first.new.writer)
    (g.W.Write.contents c.run_cases.new.writer) (g.W.Write.contents c.tell_last.new.writer) c.run_cases.new.tally
    c.in-Ok.ensures ran
    c.in-Err-tell_last.ensures

pub returns-in-Ok-tell_last-clause-all : goal.returns-in-Ok-tell_last-clause-all
returns-in-Ok-tell_last-clause-all g c =
    let only : Option (List ℕ) = option_map {T = Bor (List ℕ)} {U = List ℕ} (λ name. name.now) c.args.manner.now.only in
    let ran = from_none g.C.Connections.opens g.C.Connections.closes g.C.Input.Read.remaining g.C.Output.Write.contents
    c.args.manner.now.way
    (chosen only c.args.cases.now) (record {
      connect = c.args.connect.now;
      held = g.W.Write.contents c.tell_first.new.writer;
    })
    (record { connect = c.run_cases.new.connect; held = g.W.Write.contents c.run_cases.new.writer }) c.none-tally.result
    c.run_cases.new.tally
    c.none-tally.ensures c.in-Ok-run_cases.ensures.all in
    all_run g.C.Connections.opens g.C.Connections.closes g.C.Input.Read.remaining g.C.Output.Write.contents
    c.args.manner.now.way
    (chosen only c.args.cases.now) c.args.count c.requires.count c.args.connect.now c.run_cases.new.connect
    (g.W.Write.contents c.args.writer.now) (g.W.Write.contents c.tell_first.new.writer)
    (g.W.Write.contents c.run_cases.new.writer) (g.W.Write.contents c.tell_last.new.writer) c.run_cases.new.tally
    c.in-Ok.ensures ran c.in-Ok-tell_last.ensures
