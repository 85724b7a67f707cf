use Rattle.std.proofs.Common.{rules, ◌≡◌, ℕ, true, List, [], ◌∷◌, Option, Bor}
use Rattle.std.specs.Option.{option_map}
use Rattle.conformance_command.specs.Choosing.{is_chosen}
use Rattle.conformance_command.proofs.Chain.{empty_of, none_run, first_stops, more_run, more_stop}
use Rattle.conformance_command.proofs.run.+run_cases.Goals as goal

pub returns-in_default-clause-all : goal.returns-in_default-clause-all
returns-in_default-clause-all g t c =
    let only : Option (List ℕ) = option_map {T = Bor (List ℕ)} {U = List ℕ} (λ name. name.now) c.args.manner.now.only in
    let none : c.args.cases.now ≡ [] = empty_of c.args.cases.now c.in_default.ensures.cases in
    let (ran, tallied) = none_run g.C.Connections.opens g.C.Connections.closes g.C.Input.Read.remaining
    g.C.Output.Write.contents c.args.manner.now.way
    only c.args.number c.args.cases.now (record {
      connect = c.args.connect.now;
      held = g.W.Write.contents c.args.writer.now;
    }) c.args.tally.now none in
    ([], ran, tallied)

pub returns-in-Err-clause-some : goal.returns-in-Err-clause-some
returns-in-Err-clause-some g t c =
    let only : Option (List ℕ) = option_map {T = Bor (List ℕ)} {U = List ℕ} (λ name. name.now) c.args.manner.now.only in
    let split : c.args.cases.now ≡ c.in-Some.case.now ∷ c.in-Some.rest.now = search rules in
    let picked : is_chosen only c.in-Some.case.now ≡ true = search rules in
    let (status, stops) = c.in-Err.ensures.some in (
      status,
      first_stops g.C.Connections.opens g.C.Connections.closes g.C.Input.Read.remaining g.C.Output.Write.contents
          c.args.manner.now.way
          only c.args.number c.args.cases.now c.in-Some.case.now c.in-Some.rest.now c.in-Err.fault
          (record { connect = c.args.connect.now; held = g.W.Write.contents c.args.writer.now })
          (record { connect = c.run_and_tell.new.connect; held = g.W.Write.contents c.run_and_tell.new.writer })
          split picked stops,
    )

pub returns-in-Ok-clause-all : goal.returns-in-Ok-clause-all
returns-in-Ok-clause-all g t c =
    let only : Option (List ℕ) = option_map {T = Bor (List ℕ)} {U = List ℕ} (λ name. name.now) c.args.manner.now.only in
    let split : c.args.cases.now ≡ c.in-Some.case.now ∷ c.in-Some.rest.now = search rules in
    let picked : is_chosen only c.in-Some.case.now ≡ true = search rules in
    more_run g.C.Connections.opens g.C.Connections.closes g.C.Input.Read.remaining g.C.Output.Write.contents
    c.args.manner.now.way
    only c.args.number c.args.cases.now c.in-Some.case.now c.in-Some.rest.now c.in-Ok.went
    (record { connect = c.args.connect.now; held = g.W.Write.contents c.args.writer.now })
    (record { connect = c.run_and_tell.new.connect; held = g.W.Write.contents c.run_and_tell.new.writer })
    (record { connect = c.run_cases-in-Ok.new.connect; held = g.W.Write.contents c.run_cases-in-Ok.new.writer })
    c.args.tally.now c.count.new.self c.run_cases-in-Ok.new.tally c.run_cases-in-Ok.result split picked
    c.in-Ok.ensures.all c.count.ensures.counts c.run_cases-in-Ok.ensures.all

pub returns-in-Ok-clause-some : goal.returns-in-Ok-clause-some
returns-in-Ok-clause-some g t c =
    let only : Option (List ℕ) = option_map {T = Bor (List ℕ)} {U = List ℕ} (λ name. name.now) c.args.manner.now.only in
    let split : c.args.cases.now ≡ c.in-Some.case.now ∷ c.in-Some.rest.now = search rules in
    let picked : is_chosen only c.in-Some.case.now ≡ true = search rules in
    more_stop g.C.Connections.opens g.C.Connections.closes g.C.Input.Read.remaining g.C.Output.Write.contents
    c.args.manner.now.way
    only c.args.number c.args.cases.now c.in-Some.case.now c.in-Some.rest.now c.in-Ok.went
    (record { connect = c.args.connect.now; held = g.W.Write.contents c.args.writer.now })
    (record { connect = c.run_and_tell.new.connect; held = g.W.Write.contents c.run_and_tell.new.writer })
    (record { connect = c.run_cases-in-Ok.new.connect; held = g.W.Write.contents c.run_cases-in-Ok.new.writer })
    c.run_cases-in-Ok.result split picked c.in-Ok.ensures.all c.run_cases-in-Ok.ensures.some
