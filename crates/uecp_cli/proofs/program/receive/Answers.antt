use Rattle.std.proofs.Common.{Bool, Option, List, ℕ, inl, subst}
use Rattle.std.proofs.Math.Bool.{and-true}
use Rattle.receive_command.specs.Receiving.{Receives, at_first}
use Rattle.line_feed.specs.Reading.{unread}
use Rattle.uecp_cli.proofs.program.receive.Goals as goal

pub returns-in-Ok-clause-lines : goal.returns-in-Ok-clause-lines
returns-in-Ok-clause-lines g c = λ lines.
    let o = c.args.options.now in
    let held = g.W.Write.contents in
    let receives : (timed : Bool) → (left : Option (List ℕ)) → Type 0 = λ timed left. Receives o.form timed
    c.run_receive.result (at_first left (held c.args.writer.now) c.args.errors.now) (unread c.run_receive.new.feed)
    (held c.run_receive.new.writer) c.run_receive.new.errors in
    inl (
      (unread c.run_receive.new.feed),
      subst (λ (left : Option (List ℕ)). receives o.time left) c.in-Ok.ensures.left
          (subst (λ (timed : Bool). receives timed (unread c.in-Ok.feed)) (and-true o.time) c.run_receive.ensures),
    )
