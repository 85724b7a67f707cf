use Rattle.uecp_link.proofs.FeedingLemmas.{fed_none, replies_none, encoder_in_pieces}
use Rattle.uecp_link.proofs.pieces.EncoderEnd.in_pieces.Goals as goal

pub returns-clause-nothing : goal.returns-clause-nothing
returns-clause-nothing g c = λ e. (fed_none g.T.Target.step e, replies_none g.T.Target.step e)

pub returns-clause-pieces : goal.returns-clause-pieces
returns-clause-pieces g c = encoder_in_pieces g.T.Target.step
