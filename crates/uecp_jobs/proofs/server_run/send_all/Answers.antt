use Rattle.std.proofs.Common.{◌≡◌, false, sym, subst}
use Rattle.uecp_jobs.specs.declared.server_setup.ServerSetup.{ServerSetup}
use Rattle.uecp_jobs.specs.Jobs.{RefusesJob}
use Rattle.uecp_jobs.specs.Setups.{RefusesAddress}
use Rattle.uecp_jobs.specs.ServerRun.{Sends, SendsAs}
use Rattle.uecp_jobs.proofs.ServerRun.{has_all, has_some}
use Rattle.uecp_jobs.proofs.server_run.send_all.Goals as goal

pub returns-in-Server-clause-all : goal.returns-in-Server-clause-all
returns-in-Server-clause-all g c =
    let left = g.R.Read.remaining in
    let held = g.W.Write.contents in
    let i = c.in-Server in
    let now = c.send_input in
    let opens = g.C.Connections.opens in
    let closes = g.C.Connections.closes in
    let got = g.C.Input.Read.remaining in
    let sent = g.C.Output.Write.contents in
    has_all opens closes got sent (record {
      site = c.in-Server.site;
      encoder = c.in-Server.encoder;
      limits = record {
        tries = c.in-Server.tries;
        turns = c.in-Server.turns;
        reconnects = c.in-Server.reconnects;
        reconnect_silent = false;
      };
      window = c.in-Server.window;
      join = false;
    }) c.args.job.now c.args.connect.now now.new.connect
    (left c.args.reader.now) (left now.new.reader) (held c.args.writer.now) (held now.new.writer)
    (λ input r sends. subst (λ job. Sends opens closes got sent job input c.args.connect.now now.new.connect
    (left c.args.reader.now) (left now.new.reader) (held c.args.writer.now) (held now.new.writer) r) (sym i.is)
    sends)
    now.result now.ensures.all

pub returns-in-Server-clause-some : goal.returns-in-Server-clause-some
returns-in-Server-clause-some g c =
    let left = g.R.Read.remaining in
    let held = g.W.Write.contents in
    let i = c.in-Server in
    let now = c.send_input in
    let opens = g.C.Connections.opens in
    let closes = g.C.Connections.closes in
    let got = g.C.Input.Read.remaining in
    let sent = g.C.Output.Write.contents in
    has_some opens closes got sent (record {
      site = c.in-Server.site;
      encoder = c.in-Server.encoder;
      limits = record {
        tries = c.in-Server.tries;
        turns = c.in-Server.turns;
        reconnects = c.in-Server.reconnects;
        reconnect_silent = false;
      };
      window = c.in-Server.window;
      join = false;
    }) c.args.job.now c.args.connect.now now.new.connect
    (left c.args.reader.now) (left now.new.reader) (held c.args.writer.now) (held now.new.writer)
    (λ input r sends. subst (λ job. Sends opens closes got sent job input c.args.connect.now now.new.connect
    (left c.args.reader.now) (left now.new.reader) (held c.args.writer.now) (held now.new.writer) r) (sym i.is)
    sends)
    (◌≡◌ {A = g.row.R.Denot} now.new.reader c.args.reader.now)
    (◌≡◌ {A = g.row.W.Denot} now.new.writer c.args.writer.now)
    (λ fault refused. subst (λ job. RefusesJob job fault) (sym i.is) refused) now.result now.ensures.some

pub returns-in-ServerWith-clause-all : goal.returns-in-ServerWith-clause-all
returns-in-ServerWith-clause-all g c =
    let left = g.R.Read.remaining in
    let held = g.W.Write.contents in
    let i = c.in-ServerWith in
    let now = c.send_input-in-ServerWith in
    let opens = g.C.Connections.opens in
    let closes = g.C.Connections.closes in
    let got = g.C.Input.Read.remaining in
    let sent = g.C.Output.Write.contents in
    has_all opens closes got sent c.server_setup_of.result c.args.job.now c.args.connect.now now.new.connect
    (left c.args.reader.now) (left now.new.reader) (held c.args.writer.now) (held now.new.writer)
    (λ input r sends. subst (λ job. Sends opens closes got sent job input c.args.connect.now now.new.connect
    (left c.args.reader.now) (left now.new.reader) (held c.args.writer.now) (held now.new.writer) r) (sym i.is)
    (subst (λ (s : ServerSetup). SendsAs opens closes got sent s input c.args.connect.now now.new.connect
    (left c.args.reader.now) (left now.new.reader) (held c.args.writer.now) (held now.new.writer) r)
    c.server_setup_of.ensures sends))
    now.result now.ensures.all

pub returns-in-ServerWith-clause-some : goal.returns-in-ServerWith-clause-some
returns-in-ServerWith-clause-some g c =
    let left = g.R.Read.remaining in
    let held = g.W.Write.contents in
    let i = c.in-ServerWith in
    let now = c.send_input-in-ServerWith in
    let opens = g.C.Connections.opens in
    let closes = g.C.Connections.closes in
    let got = g.C.Input.Read.remaining in
    let sent = g.C.Output.Write.contents in
    has_some opens closes got sent c.server_setup_of.result c.args.job.now c.args.connect.now now.new.connect
    (left c.args.reader.now) (left now.new.reader) (held c.args.writer.now) (held now.new.writer)
    (λ input r sends. subst (λ job. Sends opens closes got sent job input c.args.connect.now now.new.connect
    (left c.args.reader.now) (left now.new.reader) (held c.args.writer.now) (held now.new.writer) r) (sym i.is)
    (subst (λ (s : ServerSetup). SendsAs opens closes got sent s input c.args.connect.now now.new.connect
    (left c.args.reader.now) (left now.new.reader) (held c.args.writer.now) (held now.new.writer) r)
    c.server_setup_of.ensures sends))
    (◌≡◌ {A = g.row.R.Denot} now.new.reader c.args.reader.now)
    (◌≡◌ {A = g.row.W.Denot} now.new.writer c.args.writer.now)
    (λ fault refused. subst (λ job. RefusesJob job fault) (sym i.is)
    (subst (λ (s : ServerSetup). RefusesAddress s.site s.encoder fault)
    c.server_setup_of.ensures refused)) now.result now.ensures.some
