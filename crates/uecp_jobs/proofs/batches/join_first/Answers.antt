use Rattle.std.proofs.Common.{rules, ◌≡◌, ◌++◌, [], Err, IsTrue, true, refl, ap, subst, ◌∙◌, inl, inr}
use Rattle.std.specs.Io.KnownBytes.{Appends}
use Rattle.std.proofs.KnownBytes.{Appends-nil}
use Rattle.uecp_text.specs.Written.{Begins}
use Rattle.uecp_text.specs.declared.run_fault.RunFault.TheVariants.{OutOfMemory, Writing}
use Rattle.uecp_net.specs.Sending.{SenderState}
use Rattle.uecp_jobs.specs.Batches.{Tells}
use Rattle.uecp_jobs.specs.JoiningFirst.{joining_line, joining_end, Joins}
use Rattle.uecp_jobs.proofs.JoiningFirst.{joins_so}
use Rattle.uecp_jobs.proofs.batches.join_first.Goals as goal

pub returns-in_err-check-clause-joins : goal.returns-in_err-check-clause-joins
returns-in_err-check-clause-joins g c =
    let j = c.join-joined in
    let held = g.W.Write.contents in
    let asked : c.args.join ≡ true = search rules in
    let joins : Joins g.C.Connections.opens g.C.Connections.closes g.C.Input.Read.remaining g.C.Output.Write.contents
    c.args.sender.now j.new.self j.result =
    record {
      first = j.ensures.joins.0;
      ended = j.ensures.joins.1;
      hangs_up = j.ensures.joins.2;
      joins = j.ensures.joins.3;
      tries = ap (λ (d : SenderState). d.tries) j.ensures.stays;
      idle = j.ensures.idle;
    } in
    let same : c.from_residual.result ≡ Err OutOfMemory = search rules in
    let tells : Tells (joining_line j.result) (joining_end j.result) (held c.args.writer.now) (held c.args.writer.now)
    c.from_residual.result = inr (([], joining_line j.result, refl, Appends-nil _), inr same) in
    joins_so g.C.Connections.opens g.C.Connections.closes g.C.Input.Read.remaining g.C.Output.Write.contents c.args.join
    c.args.sender.now j.new.self j.result (held c.args.writer.now) (held c.args.writer.now) c.from_residual.result
    asked joins tells

pub returns-in_err-write_out-clause-joins : goal.returns-in_err-write_out-clause-joins
returns-in_err-write_out-clause-joins g c =
    let j = c.join-joined in
    let held = g.W.Write.contents in
    let asked : c.args.join ≡ true = search rules in
    let joins : Joins g.C.Connections.opens g.C.Connections.closes g.C.Input.Read.remaining g.C.Output.Write.contents
    c.args.sender.now j.new.self j.result =
    record {
      first = j.ensures.joins.0;
      ended = j.ensures.joins.1;
      hangs_up = j.ensures.joins.2;
      joins = j.ensures.joins.3;
      tries = ap (λ (d : SenderState). d.tries) j.ensures.stays;
      idle = j.ensures.idle;
    } in
    let whole : IsTrue c.text.new.self.is_whole = search rules in
    let line_is : c.text.new.self.bytes ≡ joining_line j.result =
    (c.text.ensures.added whole).1 ∙ ap (λ l. l ++ c.joining_line.result.now) c.new-output.ensures.empty
    ∙ c.joining_line.ensures in
    let same : c.from_residual-in_err-write_out.result ≡ Err Writing = search rules in
    let begun : Begins (held c.args.writer.now) (held c.write_out.new.writer) (joining_line j.result) =
    subst (Begins (held c.args.writer.now) (held c.write_out.new.writer)) line_is c.write_out.ensures.begun in
    let tells : Tells (joining_line j.result) (joining_end j.result) (held c.args.writer.now)
    (held c.write_out.new.writer) c.from_residual-in_err-write_out.result = inr (begun, inl same) in
    joins_so g.C.Connections.opens g.C.Connections.closes g.C.Input.Read.remaining g.C.Output.Write.contents c.args.join
    c.args.sender.now j.new.self j.result (held c.args.writer.now) (held c.write_out.new.writer)
    c.from_residual-in_err-write_out.result asked joins tells

pub returns-clause-joins : goal.returns-clause-joins
returns-clause-joins g c =
    let j = c.join-joined in
    let held = g.W.Write.contents in
    let asked : c.args.join ≡ true = search rules in
    let joins : Joins g.C.Connections.opens g.C.Connections.closes g.C.Input.Read.remaining g.C.Output.Write.contents
    c.args.sender.now j.new.self j.result =
    record {
      first = j.ensures.joins.0;
      ended = j.ensures.joins.1;
      hangs_up = j.ensures.joins.2;
      joins = j.ensures.joins.3;
      tries = ap (λ (d : SenderState). d.tries) j.ensures.stays;
      idle = j.ensures.idle;
    } in
    let whole : IsTrue c.text.new.self.is_whole = search rules in
    let line_is : c.text.new.self.bytes ≡ joining_line j.result =
    (c.text.ensures.added whole).1 ∙ ap (λ l. l ++ c.joining_line.result.now) c.new-output.ensures.empty
    ∙ c.joining_line.ensures in
    let written : Appends (held c.args.writer.now) (held c.write_out.new.writer) c.text.new.self.bytes = search rules in
    let tells : Tells (joining_line j.result) (joining_end j.result) (held c.args.writer.now)
    (held c.write_out.new.writer) c.joining_end.result =
    inl (
      subst (Appends (held c.args.writer.now) (held c.write_out.new.writer)) line_is written,
      c.joining_end.ensures,
    ) in
    joins_so g.C.Connections.opens g.C.Connections.closes g.C.Input.Read.remaining g.C.Output.Write.contents c.args.join
    c.args.sender.now j.new.self j.result (held c.args.writer.now) (held c.write_out.new.writer)
    c.joining_end.result asked joins tells
