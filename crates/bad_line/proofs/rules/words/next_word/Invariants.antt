use Rattle.std.proofs.Common.{◌≡◌, drop}
use Rattle.uecp_text.specs.Words.{words}
use Rattle.bad_line.proofs.rules.words.next_word.Given as goal

-- what was passed are spaces
abbrev pub invariant-loop-place : goal.invariant-loop-place
invariant-loop-place l = words l.text ≡ words (drop l.place l.text)
