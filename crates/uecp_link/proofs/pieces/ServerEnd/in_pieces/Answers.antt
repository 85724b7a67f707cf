use Rattle.uecp_link.proofs.FeedingLemmas.{heard_none, acknowledgements_none, server_in_pieces}
use Rattle.uecp_link.proofs.pieces.ServerEnd.in_pieces.Goals as goal

pub returns-clause-nothing : goal.returns-clause-nothing
returns-clause-nothing c = λ s. (heard_none s, acknowledgements_none s)

pub returns-clause-pieces : goal.returns-clause-pieces
returns-clause-pieces c = server_in_pieces
