use Rattle.uecp_cli.proofs.program.send_over_line.Goals as goal

pub returns : goal.returns
returns g c = (_, _, c.run_send_over_tcp-status.ensures)
