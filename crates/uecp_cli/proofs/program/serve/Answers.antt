use Rattle.std.proofs.Common.{inr, subst, ap}
use Rattle.std.specs.String.{string_bytes}
use Rattle.state_jobs.specs.Kept.{SaysWhy}
use Rattle.device_edges.specs.Screen.{Screening}
use Rattle.std.specs.Prelude.{ℕ}
use Rattle.uecp_cli.proofs.Options.{of_some}
use Rattle.uecp_cli.proofs.program.serve.Goals as goal

pub returns-in-Some-Some-clause-failed : goal.returns-in-Some-Some-clause-failed
returns-in-Some-Some-clause-failed g c = λ three.
    let said : SaysWhy (string_bytes c.in-Some-Some.path) c.args.errors.now c.run_encoder_in.new.errors =
    subst (λ p. SaysWhy p c.args.errors.now c.run_encoder_in.new.errors) c.as_str.ensures.value
    (c.run_encoder_in.ensures.said three) in
    inr (rw c.in-Some-Some.is-0 said)

pub returns-in-Some-Some-clause-plain : goal.returns-in-Some-Some-clause-plain
returns-in-Some-Some-clause-plain g c = λ plain.
    let served = c.run_encoder_in.ensures.serves in
    of_some _ _ c.args.options.now.state c.in-Some-Some.path c.in-Some-Some.is-0 (
    of_some _ _ c.args.options.now.port c.in-Some-Some.local (rw c.in-Some-Some.is-1 at c.local_with.ensures.port) (
      c.new.result,
      c.run_encoder_in.new.connect,
      served.0,
      served.1,
      ap (λ (s : Screening ℕ). s.connect) c.new.ensures,
      served.3,
      served.2,
    )
    )
