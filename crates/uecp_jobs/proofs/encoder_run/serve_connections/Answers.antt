use Rattle.std.proofs.Common.{rules, arith, ◌≡◌, ℕ, ◌+◌, IsTrue, ◌++◌, ◌∷◌, [], List, length, refl, sym, ap, ◌∙◌, subst}
use Rattle.std.proofs.Common.{length-append}
use Rattle.std.specs.Io.KnownBytes.{Appends}
use Rattle.std.proofs.KnownBytes.{Appends-nil, Appends-trans}
use Rattle.uecp_net.specs.Sessions.{Sessions}
use Rattle.uecp_jobs.specs.EncoderRun.{connection_line, connection_lines}
use Rattle.uecp_text.specs.Written.{Begins}
use Rattle.uecp_jobs.proofs.Following.{sessions_on, lines_on, begun_on}
use Rattle.uecp_jobs.proofs.encoder_run.serve_connections.Goals as goal

pub loop-before-init : goal.loop-before-init
loop-before-init g c = ([], refl, (refl, refl), Appends-nil _, c.new-output.ensures.empty)

pub returns-clause-served : goal.returns-clause-served
returns-clause-served g c =
    let (outcomes, number, sessions, lines, empty) = c.loop-before.invariant in
    (outcomes, omega (arith, number), sessions, lines)

pub returns-in_default-clause-refused : goal.returns-in_default-clause-refused
returns-in_default-clause-refused g c = λ _.
    let (outcomes, number, sessions, lines, empty) = c.loop-before.invariant in
    let (opened, same) = c.in_default.ensures.none in (
      outcomes,
      c.loop-before.connect,
      omega (arith, number, c.loop-before-test.true),
      subst (λ e. Sessions g.T.Target.step g.C.Connections.opens g.C.Connections.closes g.C.Input.Read.remaining
          g.C.Output.Write.contents c.args.turns c.args.encoder.now c.args.connect.now outcomes e c.loop-before.connect)
          (sym same) sessions,
      opened,
      lines,
    )

pub returns-then-is_err-clause-broken : goal.returns-then-is_err-clause-broken
returns-then-is_err-clause-broken g c = λ _.
    let (outcomes, number, sessions, lines, empty) = c.loop-before.invariant in
    let served = c.in-Some.ensures.served in
    let outcome = c.in-Some.outcome in
    let held = g.W.Write.contents in
    let line : List ℕ = connection_line (c.loop-before.before + 1) outcome in (
      outcomes ++ outcome ∷ [],
      omega (arith, number, c.loop-before-test.true, length-append outcomes (outcome ∷ [])),
      sessions_on g.T.Target.step g.C.Connections.opens g.C.Connections.closes g.C.Input.Read.remaining
          g.C.Output.Write.contents c.args.turns _ c.loop-before.encoder _ _ c.loop-before.connect _ outcomes outcome
          sessions served,
      begun_on (held c.args.writer.now) (held c.loop-before.writer) (held c.loop-before.writer) outcomes outcome
          (c.loop-before.before + 1) (omega (arith, number)) lines ([], line, refl, Appends-nil _),
    )

pub returns-then-is_err-2-clause-broken : goal.returns-then-is_err-2-clause-broken
returns-then-is_err-2-clause-broken g c = λ _.
    let (outcomes, number, sessions, lines, empty) = c.loop-before.invariant in
    let served = c.in-Some.ensures.served in
    let outcome = c.in-Some.outcome in
    let held = g.W.Write.contents in
    let line : List ℕ = connection_line (c.loop-before.before + 1) outcome in
    let whole : IsTrue c.put_connection.new.output.is_whole = search rules in
    let kept : c.put_connection.new.output.bytes ≡ line =
    (c.put_connection.ensures whole).1 ∙ ap (λ l. l ++ line) empty in (
      outcomes ++ outcome ∷ [],
      omega (arith, number, c.loop-before-test.true, length-append outcomes (outcome ∷ [])),
      sessions_on g.T.Target.step g.C.Connections.opens g.C.Connections.closes g.C.Input.Read.remaining
          g.C.Output.Write.contents c.args.turns _ c.loop-before.encoder _ _ c.loop-before.connect _ outcomes outcome
          sessions served,
      begun_on (held c.args.writer.now) (held c.loop-before.writer) (held c.write_out.new.writer) outcomes outcome
          (c.loop-before.before + 1) (omega (arith, number)) lines
          (subst (Begins (held c.loop-before.writer) (held c.write_out.new.writer)) kept c.write_out.ensures.begun),
    )

pub loop-before-preserved : goal.loop-before-preserved
loop-before-preserved g c =
    let (outcomes, number, sessions, lines, empty) = c.loop-before.invariant in
    let served = c.in-Some.ensures.served in
    let outcome = c.in-Some.outcome in
    let line : List ℕ = connection_line (c.loop-before.before + 1) outcome in
    let whole : IsTrue c.put_connection.new.output.is_whole = search rules in
    let kept = (c.put_connection.ensures whole).1 in
    let written : Appends (g.W.Write.contents c.loop-before.writer) (g.W.Write.contents c.write_out.new.writer)
    c.put_connection.new.output.bytes = search rules in
    let bytes_are : c.put_connection.new.output.bytes ≡ line = kept ∙ ap (λ l. l ++ line) empty in
    let next : 1 + length outcomes ≡ c.loop-before.before + 1 = omega (arith, number) in (
      outcomes ++ outcome ∷ [],
      omega (arith, number, length-append outcomes (outcome ∷ [])),
      sessions_on g.T.Target.step g.C.Connections.opens g.C.Connections.closes g.C.Input.Read.remaining
          g.C.Output.Write.contents c.args.turns _ c.loop-before.encoder _ _ c.loop-before.connect _ outcomes outcome
          sessions served,
      subst (Appends (g.W.Write.contents c.args.writer.now) (g.W.Write.contents c.write_out.new.writer))
          (ap (λ l. connection_lines 1 outcomes ++ l) bytes_are
          ∙ ap (λ n. connection_lines 1 outcomes ++ connection_line n outcome) (sym next)
          ∙ sym (lines_on 1 outcomes outcome))
          (Appends-trans _ _ _ _ _ lines written),
      search rules,
    )
