use Rattle.uecp_jobs.proofs.opened.run_encoder.Given as goal

abbrev pub ghosts-encode_lent : goal.ghosts-encode_lent
ghosts-encode_lent g a = record { name = a.lent.connect.ghost_name }
