use Rattle.std.proofs.Common.{◌≡◌, ◌≤◌, ◌++◌, length, true}
use Rattle.std.specs.List.{list_all}
use Rattle.phrase_tokens.specs.Tokens.{is_word_character}
use Rattle.phrase_tokens.proofs.tokens_read.word_at.Given as goal

-- the characters so far, all of them a word's, stand in front of the rest
abbrev pub invariant-loop-character : goal.invariant-loop-character
invariant-loop-character l = record {
  whole : l.text ≡ l.word.items ++ l.rest;
  all : list_all is_word_character l.word.items ≡ true;
  few : length l.word.items ≤ 16;
}

abbrev pub decreases-loop-character : goal.decreases-loop-character
decreases-loop-character l = length l.rest
