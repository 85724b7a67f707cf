use Rattle.std.proofs.Common.{rules, ◌≡◌, ◌≢◌, suc, min, [], length, take, drop, Ok, Err, refl, subst, ◌∙◌, inl, inr}
use Rattle.std.proofs.lemmas.List.{take_min}
use Rattle.uecp_jobs.specs.Batches.{SendsBatch, SendsOut}
use Rattle.uecp_jobs.proofs.BatchLines.{drop_min, none_by_test}
use Rattle.uecp_jobs.proofs.batches.send_batches.Goals as goal

pub returns-in_err-send_batch-clause-sends : goal.returns-in_err-send_batch-clause-sends
returns-in_err-send_batch-clause-sends g c =
    let now = c.loop-rest in
    let rest = now.rest.now in
    let held = g.W.Write.contents in
    let next = c.send_batch.new in
    let fault = c.in_err-send_batch.field-0.0 in
    let same : c.from_residual.result ≡ Err fault = search rules in
    let some : rest ≢ [] = search rules in
    let front : c.split_at.result.0.now ≡ take (min c.args.size (length rest)) rest = search rules in
    now.invariant.on next.sender (held next.writer) c.from_residual.result 1 (
      some,
      inr (
        fault,
        subst (λ batch. SendsBatch g.C.Connections.opens g.C.Connections.closes g.C.Input.Read.remaining
            g.C.Output.Write.contents now.sender batch (held now.writer) (held next.writer) (Err fault) next.sender)
            (front ∙ take_min c.args.size rest) c.in_err-send_batch.ensures.sends,
        same,
        refl,
      ),
    )

pub loop-rest-preserved : goal.loop-rest-preserved
loop-rest-preserved g c =
    let now = c.loop-rest in
    let rest = now.rest.now in
    let held = g.W.Write.contents in
    let next = c.send_batch.new in
    let some : rest ≢ [] = search rules in
    let front : c.split_at.result.0.now ≡ take (min c.args.size (length rest)) rest = search rules in
    let back : c.split_at.result.1.now ≡ drop (min c.args.size (length rest)) rest = search rules in
    let sent : SendsBatch g.C.Connections.opens g.C.Connections.closes g.C.Input.Read.remaining
    g.C.Output.Write.contents
    now.sender c.split_at.result.0.now (held now.writer) (held next.writer) (Ok tt) next.sender =
    c.in_ok-send_batch.ensures.sends in
    record {
      idle = c.in_ok-send_batch.ensures.idle;
      loan = c.send_batch.ensures.loan ∙ now.invariant.loan;
      on = λ end held' result n later.
          now.invariant.on end held' result (suc n) (
            some,
            inl (
              next.sender,
              held next.writer,
              subst (λ batch. SendsBatch g.C.Connections.opens g.C.Connections.closes g.C.Input.Read.remaining
                  g.C.Output.Write.contents now.sender batch (held now.writer) (held next.writer) (Ok tt) next.sender)
                  (front ∙ take_min c.args.size rest) sent,
              subst (λ more. SendsOut g.C.Connections.opens g.C.Connections.closes g.C.Input.Read.remaining
                  g.C.Output.Write.contents c.args.size n next.sender more (held next.writer) held' result end)
                  (back ∙ drop_min c.args.size rest) later,
            ),
          );
    }

pub returns-clause-sends : goal.returns-clause-sends
returns-clause-sends g c =
    let now = c.loop-rest in
    let none : now.rest.now ≡ [] = none_by_test now.rest.now c.loop-rest-test.ensures in
    now.invariant.on now.sender (g.W.Write.contents now.writer) (Ok tt) 0 (none, refl, refl, refl)
