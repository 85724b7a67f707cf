use Rattle.uecp_cli.proofs.Options.{of_none}
use Rattle.uecp_cli.proofs.program.send_over.Goals as goal

pub returns-in-None-clause-over : goal.returns-in-None-clause-over
returns-in-None-clause-over g c =
    let run = c.run_server_over.ensures in
    of_none _ c.args.options.now.state c.in-None.is (
      λ zero. rw c.requires at ((run.sent zero).0),
      λ one. rw c.requires at (run.sent_before one),
      λ three. rw c.requires at (run.not_sent three),
    )
