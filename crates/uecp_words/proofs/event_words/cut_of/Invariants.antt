use Rattle.uecp_words.proofs.EventNames.{CutSoFar}
use Rattle.uecp_words.proofs.event_words.cut_of.Given as goal

-- what is left decides, and the words so far are the lengths so far
abbrev pub invariant-loop-word : goal.invariant-loop-word
invariant-loop-word l = CutSoFar l.words l.word-index l.cut.items
