use Rattle.uecp_jobs.proofs.opened.run_server.Given as goal

abbrev pub ghosts-send_lent : goal.ghosts-send_lent
ghosts-send_lent g a = record { name = a.lent.connect.ghost_name }
