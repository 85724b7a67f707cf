use Rattle.std.proofs.Common.{rules, ◌≡◌, ◌++◌, [], Err, IsTrue, refl, ap, sym, subst, ◌∙◌, inl, inr}
use Rattle.std.specs.Io.KnownBytes.{Appends}
use Rattle.std.proofs.KnownBytes.{Appends-nil}
use Rattle.uecp_text.specs.Written.{Begins}
use Rattle.uecp_text.specs.declared.run_fault.RunFault.TheVariants.{OutOfMemory, Writing}
use Rattle.uecp_jobs.specs.Batches.{settled_lines, ended_by, Tells}
use Rattle.uecp_jobs.proofs.BatchLines.{all_loan}
use Rattle.uecp_jobs.proofs.Settling.{some_held, SettlesSo, settled_so}
use Rattle.uecp_jobs.proofs.batches.send_batch.Goals as goal

pub settle-settled-requires : goal.settle-settled-requires
settle-settled-requires g c =
    let some = some_held g.C.Connections.opens g.C.Connections.closes g.C.Input.Read.remaining g.C.Output.Write.contents
    c.args.sender.now c.args.sender.now c.args.batch.now c.requires.some in
    λ none. some (ap (λ s. s.sender.server.held) (sym c.submit_all.ensures) ∙ none)

pub returns-in_err-check-clause-sends : goal.returns-in_err-check-clause-sends
returns-in_err-check-clause-sends g c =
    let s = c.settle-settled in
    let held = g.W.Write.contents in
    let same : c.from_residual.result ≡ Err OutOfMemory = search rules in
    let tells : Tells (settled_lines s.result) (ended_by s.result) (held c.args.writer.now) (held c.args.writer.now)
    c.from_residual.result = inr (([], settled_lines s.result, refl, Appends-nil _), inr same) in
    settled_so g.C.Connections.opens g.C.Connections.closes g.C.Input.Read.remaining g.C.Output.Write.contents
    c.args.sender.now
    s.new.self c.args.batch.now s.result (held c.args.writer.now) (held c.args.writer.now) c.from_residual.result
    c.requires.idle
    (subst (λ mid. SettlesSo g.C.Connections.opens g.C.Connections.closes g.C.Input.Read.remaining
    g.C.Output.Write.contents mid
    s.new.self s.result) c.submit_all.ensures
    (record {
      freed = s.ensures.freed;
      all = s.ensures.all;
      tries = s.ensures.tries;
      outstanding = s.ensures.outstanding;
      stays = s.ensures.stays;
      delivers = s.ensures.delivers;
      gives_up =
          s.ensures.gives_up;
    })) tells

pub returns-in_err-check-clause-loan : goal.returns-in_err-check-clause-loan
returns-in_err-check-clause-loan g c = c.settle-settled.ensures.loan ∙ ap (λ s. s.loan) c.submit_all.ensures
    ∙ all_loan c.args.sender.now c.args.batch.now

pub returns-in_err-write_out-clause-sends : goal.returns-in_err-write_out-clause-sends
returns-in_err-write_out-clause-sends g c =
    let s = c.settle-settled in
    let held = g.W.Write.contents in
    let same : c.from_residual-in_err-write_out.result ≡ Err Writing = search rules in
    let whole : IsTrue c.put_batch.new.output.is_whole = search rules in
    let lines_are : c.put_batch.new.output.bytes ≡ settled_lines s.result =
    (c.put_batch.ensures whole).1 ∙ ap (λ l. l ++ settled_lines s.result) c.new-output.ensures.empty in
    let begun : Begins (held c.args.writer.now) (held c.write_out.new.writer) (settled_lines s.result) =
    subst (Begins (held c.args.writer.now) (held c.write_out.new.writer)) lines_are c.write_out.ensures.begun in
    let tells : Tells (settled_lines s.result) (ended_by s.result) (held c.args.writer.now)
    (held c.write_out.new.writer) c.from_residual-in_err-write_out.result = inr (begun, inl same) in
    settled_so g.C.Connections.opens g.C.Connections.closes g.C.Input.Read.remaining g.C.Output.Write.contents
    c.args.sender.now
    s.new.self c.args.batch.now s.result (held c.args.writer.now) (held c.write_out.new.writer)
    c.from_residual-in_err-write_out.result c.requires.idle
    (subst (λ mid. SettlesSo g.C.Connections.opens g.C.Connections.closes g.C.Input.Read.remaining
    g.C.Output.Write.contents mid
    s.new.self s.result) c.submit_all.ensures
    (record {
      freed = s.ensures.freed;
      all = s.ensures.all;
      tries = s.ensures.tries;
      outstanding = s.ensures.outstanding;
      stays = s.ensures.stays;
      delivers = s.ensures.delivers;
      gives_up =
          s.ensures.gives_up;
    })) tells

pub returns-in_err-write_out-clause-loan : goal.returns-in_err-write_out-clause-loan
returns-in_err-write_out-clause-loan g c = c.settle-settled.ensures.loan ∙ ap (λ s. s.loan) c.submit_all.ensures
    ∙ all_loan c.args.sender.now c.args.batch.now

pub returns-clause-sends : goal.returns-clause-sends
returns-clause-sends g c =
    let s = c.settle-settled in
    let held = g.W.Write.contents in
    let whole : IsTrue c.put_batch.new.output.is_whole = search rules in
    let lines_are : c.put_batch.new.output.bytes ≡ settled_lines s.result =
    (c.put_batch.ensures whole).1 ∙ ap (λ l. l ++ settled_lines s.result) c.new-output.ensures.empty in
    let written : Appends (held c.args.writer.now) (held c.write_out.new.writer) c.put_batch.new.output.bytes =
    search rules in
    let tells : Tells (settled_lines s.result) (ended_by s.result) (held c.args.writer.now)
    (held c.write_out.new.writer) c.ended_by.result =
    inl (
      subst (Appends (held c.args.writer.now) (held c.write_out.new.writer)) lines_are written,
      c.ended_by.ensures,
    ) in
    settled_so g.C.Connections.opens g.C.Connections.closes g.C.Input.Read.remaining g.C.Output.Write.contents
    c.args.sender.now
    s.new.self c.args.batch.now s.result (held c.args.writer.now) (held c.write_out.new.writer) c.ended_by.result
    c.requires.idle
    (subst (λ mid. SettlesSo g.C.Connections.opens g.C.Connections.closes g.C.Input.Read.remaining
    g.C.Output.Write.contents mid
    s.new.self s.result) c.submit_all.ensures
    (record {
      freed = s.ensures.freed;
      all = s.ensures.all;
      tries = s.ensures.tries;
      outstanding = s.ensures.outstanding;
      stays = s.ensures.stays;
      delivers = s.ensures.delivers;
      gives_up =
          s.ensures.gives_up;
    })) tells

pub returns-clause-loan : goal.returns-clause-loan
returns-clause-loan g c = c.settle-settled.ensures.loan ∙ ap (λ s. s.loan) c.submit_all.ensures
    ∙ all_loan c.args.sender.now c.args.batch.now
