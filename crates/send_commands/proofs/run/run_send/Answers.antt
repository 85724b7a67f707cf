use Rattle.std.proofs.Common.{rules, ◌≡◌, Some, None, sym, subst, inl, inr}
use Rattle.std.specs.Prelude.{option_map}
use Rattle.std.specs.String.{string_bytes}
use Rattle.uecp_jobs.specs.Setups.{address_of}
use Rattle.send_commands.specs.Job.{SendsFrom}
use Rattle.send_commands.proofs.run.run_send.Goals as goal

pub returns-in-Some-state-clause-sent : goal.returns-in-Some-state-clause-sent
returns-in-Some-state-clause-sent g c =
    let k = g.S.ServerKeeper.Keep in
    let run = c.run_live_in in
    let sent : SendsFrom g.F.Feed.remaining g.F.Feed.takes g.F.Feed.says g.F.Feed.passes g.C.Connections.opens
    g.C.Connections.closes
    g.C.Input.Read.remaining g.C.Output.Write.contents
    (g.S.OpenStates.gives_server c.args.states.now) (g.S.OpenStates.refuses_server c.args.states.now)
    (g.S.OpenStates.closes_server c.args.states.now) k.leaves k.is_clean k.saves k.fails
    (Some c.as_str-path.result.now) c.in-Some.address c.options_of-options.result c.args.connect.now
    run.new.connect c.args.feed.now run.new.feed
    c.args.teller.now.held run.new.teller.held
    c.args.errors.now run.new.errors run.result = elim run.ensures.lives [
      | inl lives ↦ inl lives
      | inr none ↦ inr
          (none.0, none.1, none.2, none.3)
    ] in
    let path : option_map string_bytes c.args.job.now.state ≡ Some c.as_str-path.result.now = search rules in
    inl (
      c.options_of-options.result,
      c.options_of-options.ensures,
      c.in-Some.ensures.some,
      subst (λ state. SendsFrom g.F.Feed.remaining g.F.Feed.takes g.F.Feed.says g.F.Feed.passes g.C.Connections.opens
          g.C.Connections.closes g.C.Input.Read.remaining
          g.C.Output.Write.contents
          (g.S.OpenStates.gives_server c.args.states.now) (g.S.OpenStates.refuses_server c.args.states.now)
          (g.S.OpenStates.closes_server c.args.states.now) k.leaves k.is_clean k.saves k.fails state
          (address_of c.args.job.now.site c.args.job.now.encoder)
          c.options_of-options.result c.args.connect.now run.new.connect c.args.feed.now
          run.new.feed c.args.teller.now.held
          run.new.teller.held c.args.errors.now
          run.new.errors run.result) (sym path)
          (subst (λ address. SendsFrom g.F.Feed.remaining g.F.Feed.takes g.F.Feed.says g.F.Feed.passes
          g.C.Connections.opens
          g.C.Connections.closes g.C.Input.Read.remaining
          g.C.Output.Write.contents (g.S.OpenStates.gives_server c.args.states.now)
          (g.S.OpenStates.refuses_server c.args.states.now) (g.S.OpenStates.closes_server c.args.states.now) k.leaves
          k.is_clean k.saves k.fails (Some c.as_str-path.result.now) address c.options_of-options.result
          c.args.connect.now run.new.connect c.args.feed.now run.new.feed
          c.args.teller.now.held run.new.teller.held
          c.args.errors.now run.new.errors run.result)
          c.in-Some.ensures.value sent),
    )

pub returns-in-None-clause-sent : goal.returns-in-None-clause-sent
returns-in-None-clause-sent g c =
    let k = g.S.ServerKeeper.Keep in
    let run = c.run_unkept in
    let none : option_map string_bytes c.args.job.now.state ≡ None = search rules in
    inl (
      c.options_of-options.result,
      c.options_of-options.ensures,
      c.in-Some.ensures.some,
      subst (λ state. SendsFrom g.F.Feed.remaining g.F.Feed.takes g.F.Feed.says g.F.Feed.passes g.C.Connections.opens
          g.C.Connections.closes g.C.Input.Read.remaining
          g.C.Output.Write.contents
          (g.S.OpenStates.gives_server c.args.states.now) (g.S.OpenStates.refuses_server c.args.states.now)
          (g.S.OpenStates.closes_server c.args.states.now) k.leaves k.is_clean k.saves k.fails state
          (address_of c.args.job.now.site c.args.job.now.encoder)
          c.options_of-options.result c.args.connect.now run.new.connect c.args.feed.now
          run.new.feed c.args.teller.now.held
          run.new.teller.held c.args.errors.now
          run.new.errors run.result) (sym none)
          (subst (λ address. SendsFrom g.F.Feed.remaining g.F.Feed.takes g.F.Feed.says g.F.Feed.passes
          g.C.Connections.opens
          g.C.Connections.closes g.C.Input.Read.remaining
          g.C.Output.Write.contents (g.S.OpenStates.gives_server c.args.states.now)
          (g.S.OpenStates.refuses_server c.args.states.now) (g.S.OpenStates.closes_server c.args.states.now) k.leaves
          k.is_clean k.saves k.fails None address c.options_of-options.result
          c.args.connect.now run.new.connect c.args.feed.now run.new.feed
          c.args.teller.now.held run.new.teller.held
          c.args.errors.now run.new.errors run.result)
          c.in-Some.ensures.value run.ensures.sends),
    )
