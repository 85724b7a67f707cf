use Rattle.std.proofs.Common.{rules, ◌≡◌, ◌≢◌, min, [], length, take, drop, sym, subst, ◌∙◌}
use Rattle.std.proofs.lemmas.List.{take_min}
use Rattle.uecp_jobs.specs.Batches.{Acknowledges, GivesUp}
use Rattle.uecp_jobs.proofs.Public.{drop_min, none_by_test}
use Rattle.sending.proofs.Stationing.{SoFar, begins, one_more, stops, ends}
use Rattle.sending.proofs.station.send_station.Goals as goal

pub loop-rest-init : goal.loop-rest-init
loop-rest-init g c = record {
  idle = c.requires.idle;
  loan = search rules;
  so = begins g.C.Connections.opens g.C.Connections.closes g.C.Input.Read.remaining g.C.Output.Write.contents
      c.args.form
      c.args.size
      c.args.station.now c.args.sender.now c.args.lines.now c.args.all.now;
}

pub returns-in-Err-clause-sends : goal.returns-in-Err-clause-sends
returns-in-Err-clause-sends g c =
    let now = c.loop-rest in
    let rest = now.rest.now in
    let next = c.send_one.new in
    let some : rest ≢ [] = search rules in
    let front : c.split_at.result.0.now ≡ take (min c.args.size (length rest)) rest = search rules in
    let gives = c.in-Err.ensures.outstanding in
    stops g.C.Connections.opens g.C.Connections.closes g.C.Input.Read.remaining g.C.Output.Write.contents c.args.form
    c.args.size
    c.args.station.now c.args.sender.now c.args.lines.now now.lines c.args.all.now now.all rest now.sender
    now.invariant.so some next.sender c.in-Err.reason
    (subst (λ batch. GivesUp g.C.Connections.opens g.C.Connections.closes g.C.Input.Read.remaining
    g.C.Output.Write.contents
    now.sender batch c.in-Err.reason next.sender) (front ∙ take_min c.args.size rest) gives.0) next.lines gives.1
    next.all gives.2

pub loop-rest-preserved : goal.loop-rest-preserved
loop-rest-preserved g c =
    let now = c.loop-rest in
    let rest = now.rest.now in
    let next = c.send_one.new in
    let some : rest ≢ [] = search rules in
    let front : c.split_at.result.0.now ≡ take (min c.args.size (length rest)) rest = search rules in
    let back : c.split_at.result.1.now ≡ drop (min c.args.size (length rest)) rest = search rules in
    let (told, tries, acknowledges, lines, all) = c.in-Ok.ensures.sent in
    record {
      idle = c.in-Ok.ensures.idle;
      loan = c.send_one.ensures.loan ∙ now.invariant.loan;
      so = subst (λ more. SoFar g.C.Connections.opens g.C.Connections.closes g.C.Input.Read.remaining
          g.C.Output.Write.contents c.args.form c.args.size c.args.station.now c.args.sender.now c.args.lines.now
          next.lines
          c.args.all.now next.all more next.sender) (sym (back ∙ drop_min c.args.size rest))
          (one_more g.C.Connections.opens g.C.Connections.closes g.C.Input.Read.remaining g.C.Output.Write.contents
          c.args.form
          c.args.size
          c.args.station.now c.args.sender.now c.args.lines.now now.lines c.args.all.now now.all rest now.sender
          now.invariant.so c.requires.some some next.sender told tries _ (search rules)
          (subst (λ batch. Acknowledges g.C.Connections.opens g.C.Connections.closes g.C.Input.Read.remaining
          g.C.Output.Write.contents now.sender batch told tries next.sender) (front ∙ take_min c.args.size rest)
          acknowledges) next.lines lines next.all all);
    }

pub returns-clause-sends : goal.returns-clause-sends
returns-clause-sends g c =
    let now = c.loop-rest in
    ends g.C.Connections.opens g.C.Connections.closes g.C.Input.Read.remaining g.C.Output.Write.contents c.args.form
    c.args.size
    c.args.station.now c.args.sender.now c.args.lines.now now.lines c.args.all.now now.all now.rest.now now.sender
    now.invariant.so (none_by_test now.rest.now c.loop-rest-test.ensures)
