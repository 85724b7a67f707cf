use Rattle.std.proofs.Common.{rules, ◌≡◌, subst, Err}
use Rattle.uecp_encoder.specs.declared.serving.KeptFault.TheVariants.{Serve}
use Rattle.uecp_encoder.specs.ServingWith.{ServesOrStops}
use Rattle.uecp_encoder.proofs.Together.{serves_fault}
use Rattle.uecp_encoder.proofs.serving.serve.Goals as goal

pub returns-in-Err-Serve-clause-bytes : goal.returns-in-Err-Serve-clause-bytes
returns-in-Err-Serve-clause-bytes g c =
    let step = g.T.Target.step in
    let e = c.args.encoder.now in
    let e' = c.serve_with.new.encoder in
    let unread = g.R.Read.remaining c.serve_with.new.reader.device in
    let (s, written, n, took, gave, serves, heard, made, calls, few) = c.in-Err-Serve.ensures.bytes in
    let is : c.in-Err-Serve.field-0 ≡ Serve c.in-Err-Serve.fault = search rules in (
      s,
      written,
      took,
      gave,
      serves_fault step e e' s written unread c.args.turns c.in-Err-Serve.fault
          (subst (λ f. ServesOrStops 1 512 step e e' s written unread c.args.turns (Err f)) is serves.serves),
      few,
    )
