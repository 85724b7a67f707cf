use Rattle.std.proofs.Common.{◌≡◌, refl, ap, subst, inl}
use Rattle.uecp_net.specs.Sending.{SenderOver}
use Rattle.line_batches.specs.declared.taking.After.{After}
use Rattle.line_batches.specs.declared.taking.After.TheVariants.{GoesOn, Ends}
use Rattle.sending.specs.Run.{Live, RunsOn, live}
use Rattle.sending.proofs.run.run_sender.Goals as goal

pub returns-in-GoesOn-clause-runs : goal.returns-in-GoesOn-clause-runs
returns-in-GoesOn-clause-runs g c =
    let k = g.K.Keep in
    let ran = c.go_on in
    let made = c.make_if.new in
    let course = made.course in
    let at : After → Live g.S.Source.At (SenderOver g.row.C.Denot g.row.C-Input.Denot g.row.C-Output.Denot)
    g.row.K.Denot =
    λ b. live made.sender made.keeper (g.S.Source.at c.args.source.now) made.teller (record course { behind = b }) in
    let end = live ran.new.sender ran.new.keeper (g.S.Source.at ran.new.source) ran.new.teller ran.new.course in
    let is : GoesOn ≡ course.behind = c.in-GoesOn.ensures.value in
    inl (
      at course.behind,
      (c.in_ok-make_if.ensures.makes, refl, c.in_ok-make_if.ensures.unknown, c.in_ok-make_if.ensures.behind),
      subst (λ (b : After). RunsOn (g.S.Source.takes (g.S.Source.how c.args.source.now))
          g.C.Connections.opens
          g.C.Connections.closes g.C.Input.Read.remaining
          g.C.Output.Write.contents k.leaves k.is_clean k.saves k.fails c.args.options.now b (at b) end ran.result) is
          (subst (λ (b : After). RunsOn (g.S.Source.takes (g.S.Source.how c.args.source.now))
          g.C.Connections.opens
          g.C.Connections.closes g.C.Input.Read.remaining
          g.C.Output.Write.contents k.leaves k.is_clean k.saves k.fails c.args.options.now GoesOn (at b) end ran.result)
          c.replace.ensures.after ran.ensures.runs),
    )

pub returns-in-Ends-clause-runs : goal.returns-in-Ends-clause-runs
returns-in-Ends-clause-runs g c =
    let k = g.K.Keep in
    let made = c.make_if.new in
    let course = made.course in
    let at : After → Live g.S.Source.At (SenderOver g.row.C.Denot g.row.C-Input.Denot g.row.C-Output.Denot)
    g.row.K.Denot =
    λ b. live made.sender made.keeper (g.S.Source.at c.args.source.now) made.teller (record course { behind = b }) in
    let is : Ends c.in-Ends.ended ≡ course.behind = c.in-Ends.ensures.value in
    inl (
      at course.behind,
      (c.in_ok-make_if.ensures.makes, refl, c.in_ok-make_if.ensures.unknown, c.in_ok-make_if.ensures.behind),
      subst (λ (b : After). RunsOn (g.S.Source.takes (g.S.Source.how c.args.source.now))
          g.C.Connections.opens
          g.C.Connections.closes g.C.Input.Read.remaining
          g.C.Output.Write.contents k.leaves k.is_clean k.saves k.fails c.args.options.now b (at b)
          (at c.replace.new.dest) c.ended_as.result) is (ap at c.replace.ensures.after, c.ended_as.ensures),
    )
