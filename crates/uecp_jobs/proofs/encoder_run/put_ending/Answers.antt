use Rattle.std.proofs.Common.{rules, ◌≡◌, Err, codes, sym, subst}
use Rattle.uecp_encoder.specs.declared.serving.ServeFault.TheVariants.{WriteFailed}
use Rattle.uecp_text.specs.Digits.{decimal_word}
use Rattle.uecp_text.specs.Written.{Adds}
use Rattle.uecp_text.proofs.Public.{adds_then}
use Rattle.uecp_net.specs.Sessions.{Outcome}
use Rattle.uecp_jobs.specs.EncoderRun.{ending_words}
use Rattle.uecp_jobs.proofs.encoder_run.put_ending.Goals as goal

pub returns-in-Err-WriteFailed : goal.returns-in-Err-WriteFailed
returns-in-Err-WriteFailed c =
    let i = c.in-Err-WriteFailed in
    let first = c.text-in-Err-WriteFailed in
    let second = c.decimal-in-Err-WriteFailed in
    let outcome : Outcome = Err (WriteFailed i.written) in
    let is : c.args.outcome ≡ outcome = search rules in
    subst (λ outcome. Adds c.args.output.now second.new.self (ending_words outcome)) (sym is)
    (adds_then c.args.output.now first.new.self second.new.self (codes " write failed") (decimal_word i.written)
    first.ensures.added second.ensures.added)
