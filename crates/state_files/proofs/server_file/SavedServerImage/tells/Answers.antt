use Rattle.state_files.proofs.Images.{servers_told}
use Rattle.state_files.proofs.server_file.SavedServerImage.tells.Goals as goal

pub returns-clause-kept : goal.returns-clause-kept
returns-clause-kept c = servers_told c.server_again.ensures
