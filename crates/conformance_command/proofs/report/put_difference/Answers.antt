use Rattle.std.proofs.Common.{rules, ◌≡◌, ◌++◌, codes, sym, subst}
use Rattle.uecp_frame.specs.Fault.{name_of}
use Rattle.uecp_text.specs.Written.{Adds}
use Rattle.uecp_text.proofs.Public.{adds_then}
use Rattle.conformance.specs.declared.verdict.Verdict.TheVariants.{Missing, TooMany, NoReply, Dropped}
use Rattle.conformance_command.specs.Telling.{verdict_words, expected_words, reply_words}
use Rattle.conformance_command.proofs.report.put_difference.Goals as goal

pub returns-in-Missing : goal.returns-in-Missing
returns-in-Missing c =
    let is : c.args.verdict ≡ Missing c.in-Missing.reply = search rules in
    subst (λ v. Adds c.args.output.now c.text-in-Missing.new.self (verdict_words v)) (sym is)
    (adds_then c.args.output.now c.text.new.self c.text-in-Missing.new.self (codes "wanted ")
    (expected_words c.in-Missing.reply ++ codes ", came nothing") c.text.ensures.added
    (adds_then c.text.new.self c.put_expected.new.output c.text-in-Missing.new.self
    (expected_words c.in-Missing.reply) (codes ", came nothing") c.put_expected.ensures
    c.text-in-Missing.ensures.added))

pub returns-in-TooMany : goal.returns-in-TooMany
returns-in-TooMany c =
    let is : c.args.verdict ≡ TooMany c.in-TooMany.came = search rules in
    subst (λ v. Adds c.args.output.now c.put_reply-in-TooMany.new.output (verdict_words v)) (sym is)
    (adds_then c.args.output.now c.text-in-TooMany.new.self c.put_reply-in-TooMany.new.output
    (codes "wanted nothing, came ") (reply_words c.in-TooMany.came) c.text-in-TooMany.ensures.added
    c.put_reply-in-TooMany.ensures)

pub returns-in-NoReply : goal.returns-in-NoReply
returns-in-NoReply c =
    let is : c.args.verdict ≡ NoReply = search rules in
    subst (λ v. Adds c.args.output.now c.text-in-NoReply.new.self (verdict_words v)) (sym is)
    c.text-in-NoReply.ensures.added

pub returns-in-Dropped : goal.returns-in-Dropped
returns-in-Dropped c =
    let is : c.args.verdict ≡ Dropped c.in-Dropped.fault = search rules in
    subst (λ v. Adds c.args.output.now c.text-in-Dropped-2.new.self (verdict_words v)) (sym is)
    (adds_then c.args.output.now c.text-in-Dropped.new.self c.text-in-Dropped-2.new.self
    (codes "came a segment that is no frame: ") (name_of c.in-Dropped.fault) c.text-in-Dropped.ensures.added
    (subst (λ name. Adds c.text-in-Dropped.new.self c.text-in-Dropped-2.new.self name) c.name.ensures
    c.text-in-Dropped-2.ensures.added))
