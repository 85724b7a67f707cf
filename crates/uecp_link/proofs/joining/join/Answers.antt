use Rattle.std.proofs.Common.{◌∙◌, refl, ap, sym, take, rules, inl, inr, Err}
use Rattle.uecp_link.specs.declared.driving.DriveFault.TheVariants.{WriteFailed}
use Rattle.uecp_link.specs.Server.{ServerState, heard}
use Rattle.uecp_link.specs.Joining.{sent_behind}
use Rattle.uecp_link.proofs.Answered.{idle_hears}
use Rattle.uecp_link.proofs.Passing.{pass_made, no_write_failed, still_new}
use Rattle.uecp_link.proofs.joining.join.Goals as goal

pub returns-in-Ok-clause-passes : goal.returns-in-Ok-clause-passes
returns-in-Ok-clause-passes g c =
    pass_made g.R.Read.remaining g.W.Write.contents c.args.behind.now _ c.args.server.now c.begin_anew.new.self
    c.read_replies-ended.new.server
    c.args.reader.now c.read_replies-ended.new.reader c.args.writer.now c.write_pass-sent.new.writer c.args.turns _
    (sent_behind c.args.server.now.address c.args.behind.now) c.read_replies-ended.result c.read_replies-ended.result
    c.begin_anew.ensures (search rules) (inl (refl, refl))
    (c.in-Ok.ensures.failures ∙ sym (no_write_failed g.R.Read.remaining c.begin_anew.new.self
    c.read_replies-ended.new.server c.args.reader.now c.read_replies-ended.new.reader c.args.turns
    c.args.writer.now.failures _ c.read_replies-ended.result c.read_replies-ended.ensures))
    c.read_replies-ended.ensures (search rules)

pub returns-in-Err-clause-passes : goal.returns-in-Err-clause-passes
returns-in-Err-clause-passes g c =
    let (below, wrote) = c.in-Err.ensures.err in
    pass_made g.R.Read.remaining g.W.Write.contents c.args.behind.now _ c.args.server.now c.begin_anew.new.self
    c.read_replies-ended.new.server
    c.args.reader.now c.read_replies-ended.new.reader c.args.writer.now c.write_pass-sent.new.writer c.args.turns _
    (take c.in-Err.written (sent_behind c.args.server.now.address c.args.behind.now)) c.read_replies-ended.result
    (Err (WriteFailed c.in-Err.written))
    c.begin_anew.ensures (search rules) (inr (c.in-Err.written, refl, search rules, refl)) (search rules)
    c.read_replies-ended.ensures (search rules)

pub returns-in-Ok-clause-idle : goal.returns-in-Ok-clause-idle
returns-in-Ok-clause-idle g c =
    ap (λ (s : ServerState). s.held) c.read_replies-ended.ensures.state
    ∙ idle_hears c.begin_anew.new.self c.read_replies-ended.ensures.read
    (ap (λ (s : ServerState). s.held) c.begin_anew.ensures)

pub returns-in-Err-clause-idle : goal.returns-in-Err-clause-idle
returns-in-Err-clause-idle g c =
    ap (λ (s : ServerState). s.held) c.read_replies-ended.ensures.state
    ∙ idle_hears c.begin_anew.new.self c.read_replies-ended.ensures.read
    (ap (λ (s : ServerState). s.held) c.begin_anew.ensures)

pub returns-in-Ok-clause-still_new : goal.returns-in-Ok-clause-still_new
returns-in-Ok-clause-still_new g c =
    still_new c.args.server.now c.read_replies-ended.new.server c.read_replies-ended.ensures.read
    (c.read_replies-ended.ensures.state ∙ ap (λ (s : ServerState). heard s c.read_replies-ended.ensures.read)
    c.begin_anew.ensures)

pub returns-in-Err-clause-still_new : goal.returns-in-Err-clause-still_new
returns-in-Err-clause-still_new g c =
    still_new c.args.server.now c.read_replies-ended.new.server c.read_replies-ended.ensures.read
    (c.read_replies-ended.ensures.state ∙ ap (λ (s : ServerState). heard s c.read_replies-ended.ensures.read)
    c.begin_anew.ensures)
