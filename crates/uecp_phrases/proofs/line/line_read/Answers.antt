use Rattle.std.proofs.Common.{◌≤◌, ◌∙◌, length, ap, sym, subst}
use Rattle.std.specs.Option.{option_map}
use Rattle.phrase_tokens.specs.View.{tokens_of}
use Rattle.uecp_phrases.specs.Lines.{phrases_in, phrases_left}
use Rattle.uecp_phrases.proofs.Cutting.{SaidSoFar, said_more}
use Rattle.uecp_phrases.proofs.Faulting.{ReadSoFar, read_more, told_held, counted_tokens}
use Rattle.uecp_phrases.proofs.line.line_read.Goals as goal

pub returns-in-Err-clause-told : goal.returns-in-Err-clause-told
returns-in-Err-clause-told c =
    let so = subst (λ o. ReadSoFar c.args.region (tokens_of c.args.tokens.now)
    (option_map (λ more. tokens_of more.now) o) c.loop-left.message) c.in-Some.is c.loop-left.invariant.read in
    told_held c.args.region c.args.tokens.now c.in-Some.rest.now c.phrase_before.result.0.now
    (phrases_left (option_map (λ more. tokens_of more.now) c.phrase_before.result.1)) c.loop-left.message
    c.in-Err.stop.what c.stop_in_line.result.what c.in-Err.stop.left c.stop_in_line.result.left so
    c.phrase_before.ensures.cut c.in-Err.ensures.none c.in-Err.ensures.err c.phrase_before.ensures.within
    c.in-Err.ensures.range
    c.stop_in_line.ensures.left c.stop_in_line.ensures.what

pub loop-left-preserved : goal.loop-left-preserved
loop-left-preserved c =
    let so = subst (λ o. ReadSoFar c.args.region (tokens_of c.args.tokens.now)
    (option_map (λ more. tokens_of more.now) o) c.loop-left.message) c.in-Some.is c.loop-left.invariant.read in
    let added = c.in-Ok.ensures.ok in
    let few = subst (λ m. length m ≤ 255) added.2 c.in-Ok.ensures.few in
    let left = ap (λ o. phrases_left (option_map (λ more. tokens_of more.now) o)) c.in-Some.is
    ∙ c.phrase_before.ensures.cut in
    record {
      said = subst (λ m. SaidSoFar c.args.region (phrases_in (tokens_of c.args.tokens.now)) m
          (phrases_left (option_map (λ more. tokens_of more.now) c.phrase_before.result.1))) (sym added.2)
          (said_more c.args.region (phrases_in (tokens_of c.args.tokens.now)) _ _
          (tokens_of c.phrase_before.result.0.now) c.loop-left.message added.0 c.loop-left.invariant.said left added.1);
      read = subst (λ m. ReadSoFar c.args.region (tokens_of c.args.tokens.now)
          (option_map (λ more. tokens_of more.now) c.phrase_before.result.1) m) (sym added.2)
          (read_more c.args.region (tokens_of c.args.tokens.now) (tokens_of c.in-Some.rest.now)
          (tokens_of c.phrase_before.result.0.now) (option_map (λ more. tokens_of more.now) c.phrase_before.result.1)
          c.loop-left.message added.0 so c.phrase_before.ensures.cut
          (counted_tokens (λ more. more.now) c.phrase_before.result.1 c.phrase_before.result.0.now c.in-Some.rest.now
          c.phrase_before.ensures.counted) added.1 few);
    }
