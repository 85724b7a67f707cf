-- The head, and that events are gone where they are, as far as they could be written.
use Rattle.std.proofs.Common.{◌∙◌, rules, arith}
use Rattle.std.proofs.lemmas.Grind.{common_steps}
use Rattle.http1.specs.Server.{writing}
use Rattle.page.specs.Streaming.{IsStreaming}
use Rattle.page.specs.ClientView.{source_of}
use Rattle.page.proofs.Told.{told_full, opened_none, opened_head, opened_text, opened_all}
use Rattle.page.proofs.clients.client.Client.open_events.Goals as goal

pub returns-then-site-clause-told : goal.returns-then-site-clause-told
returns-then-site-clause-told c =
    told_full (source_of c.args.site.now) _ _ _ _ c.if-site.true c.whole.ensures.told

pub returns-in_err-head-clause-told : goal.returns-in_err-head-clause-told
returns-in_err-head-clause-told c =
    opened_none (source_of c.args.site.now) _ _ _ _ c.if-site.false c.in_err-head.ensures.err

pub returns-in_err-takes_chunks-clause-told : goal.returns-in_err-takes_chunks-clause-told
returns-in_err-takes_chunks-clause-told c =
    opened_head (source_of c.args.site.now) _ _ _ _ _ c.if-site.false c.in_ok-head.ensures.output
    c.takes_chunks.ensures.output

pub returns-then-not-branch-clause-told : goal.returns-then-not-branch-clause-told
returns-then-not-branch-clause-told c =
    opened_head (source_of c.args.site.now) _ _ _ _ _ c.if-site.false c.in_ok-head.ensures.output
    c.takes_chunks.ensures.output

pub returns-in_err-tell_gap-clause-told : goal.returns-in_err-tell_gap-clause-told
returns-in_err-tell_gap-clause-told c =
    opened_head (source_of c.args.site.now) _ _ _ _ _ c.if-site.false c.in_ok-head.ensures.output
    (c.in_err-tell_gap.ensures.err ∙ c.takes_chunks.ensures.output)

pub returns-clause-output : goal.returns-clause-output
returns-clause-output c =
    let chunks : IsStreaming (writing c.takes_chunks.new.self.server) =
    first_of (search rules, grind (arith, common_steps)) in
    λ live. opened_text _ _ _ _ _ _ _ (c.takes_chunks.ensures.output ∙ c.in_ok-head.ensures.output)
    c.in_ok-tell_gap.ensures.output chunks

pub returns-clause-told : goal.returns-clause-told
returns-clause-told c =
    let chunks : IsStreaming (writing c.takes_chunks.new.self.server) =
    first_of (search rules, grind (arith, common_steps)) in
    opened_all (source_of c.args.site.now) _ _ _ _ c.if-site.false
    (opened_text _ _ _ _ _ _ _ (c.takes_chunks.ensures.output ∙ c.in_ok-head.ensures.output)
    c.in_ok-tell_gap.ensures.output chunks)
