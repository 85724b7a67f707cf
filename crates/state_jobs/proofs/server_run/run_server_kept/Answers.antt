use Rattle.std.proofs.Common.{◌≡◌, ◌∙◌, Ok, Err, refl, sym, inl, inr}
use Rattle.uecp_link.specs.Server.{ServerState}
use Rattle.kept_jobs.specs.ServerRun.{Standing}
use Rattle.state_jobs.proofs.FromChain.{server_so}
use Rattle.state_jobs.proofs.ServerTelling.{done_told, refused_told}
use Rattle.state_jobs.proofs.Surviving.{run_survives}
use Rattle.state_jobs.proofs.ServerEnding.{run_done, run_stopped, said_so}
use Rattle.state_jobs.proofs.server_run.run_server_kept.Goals as goal

pub returns-in-Ok : goal.returns-in-Ok
returns-in-Ok g c =
    let k = g.K.Keep in
    let ran = c.in-Ok.ensures.runs in
    let steps = server_so g.C.Connections.opens g.C.Connections.closes g.C.Input.Read.remaining
    g.C.Output.Write.contents
    k.leaves k.is_clean k.saves k.fails _ _ _ _ _ _ _ _ _ _ _ ran in
    let all = run_done g.C.Connections.opens g.C.Connections.closes g.C.Input.Read.remaining g.C.Output.Write.contents
    k.leaves
    k.is_clean k.saves k.fails _ _ _ _ _ _ _ _ _ _ steps in
    let left = run_survives g.C.Connections.opens g.C.Connections.closes g.C.Input.Read.remaining
    g.C.Output.Write.contents
    k.leaves k.is_clean k.saves k.fails _ _ _ _ _ _ _ _ _ _ _ steps in
    record {
      runs = (Ok tt, ran, (refl, refl));
      status = inl refl;
      done = λ is. (all.0, refl);
      refused = λ is. absurd (let no : 0 ≡ 1 = is in cc);
      failed = λ is. absurd (let no : 0 ≡ 3 = is in cc);
      kept = λ some. all.1;
      told = λ some. done_told g.C.Connections.opens g.C.Connections.closes g.C.Input.Read.remaining
          g.C.Output.Write.contents k.leaves k.is_clean k.saves k.fails _ _ _ _ _ _ _ _ _ _ steps;
      outlives = left.outlives;
      clean = left.clean;
    }

pub returns-in-Err : goal.returns-in-Err
returns-in-Err g c =
    let k = g.K.Keep in
    let stop = c.in-Err.stop in
    let ran = c.in-Err.ensures.runs in
    let steps = server_so g.C.Connections.opens g.C.Connections.closes g.C.Input.Read.remaining
    g.C.Output.Write.contents
    k.leaves k.is_clean k.saves k.fails _ _ _ _ _ _ _ _ _ _ _ ran in
    let told = c.fail_run.ensures in
    let start : Standing ServerState g.row.K.Denot = record {
      runs = c.args.start.server;
      keeper = c.args.keeper.now;
      progress = c.args.start.progress;
      held = g.W.Write.contents c.args.writer.now;
    } in
    let why = run_stopped g.C.Connections.opens g.C.Connections.closes g.C.Input.Read.remaining
    g.C.Output.Write.contents
    k.leaves k.is_clean k.saves k.fails _ _ _ _ _ _ _ _ _ _ stop steps in
    let said = said_so g.C.Connections.opens g.C.Connections.closes g.C.Input.Read.remaining g.C.Output.Write.contents
    k.leaves
    k.is_clean k.saves k.fails _ _ start _ stop _
    (g.E.Notices.says c.args.errors.now c.fail_run.new.errors) why told.status told.said in
    let left = run_survives g.C.Connections.opens g.C.Connections.closes g.C.Input.Read.remaining
    g.C.Output.Write.contents
    k.leaves k.is_clean k.saves k.fails _ _ _ _ _ _ _ _ _ _ _ steps in
    record {
      runs = (Err stop, ran, (told.status, told.said));
      status = said.status;
      done = λ is. absurd (said.not_done is);
      refused = said.refused;
      failed = said.failed;
      kept = said.kept;
      told = λ some. elim some [
        | inl zero_is ↦ absurd (said.not_done zero_is)
        | inr one_is ↦ refused_told g.C.Connections.opens g.C.Connections.closes g.C.Input.Read.remaining
            g.C.Output.Write.contents k.leaves k.is_clean k.saves k.fails _ _ _ _ _ _ _ _ _ _ stop steps
            (sym told.status ∙ one_is)
      ];
      outlives = left.outlives;
      clean = left.clean;
    }
