use Rattle.std.proofs.Common.{◌≡◌, map, take, string_bytes}
use Rattle.option_files.proofs.joined_words.words_to_try.Given as goal

-- the names so far
abbrev pub invariant-loop-word : goal.invariant-loop-word
invariant-loop-word l = map string_bytes l.all.items ≡ map string_bytes (take l.word-index l.word-items)
