use Rattle.std.proofs.Common.{◌≡◌, map, drop, string_bytes}
use Rattle.option_files.specs.Words.{file_in}
use Rattle.option_files.proofs.joined_words.file_in.Given as goal

-- the path is that of the words that are left
abbrev pub invariant-loop-index : goal.invariant-loop-index
invariant-loop-index l = file_in (map string_bytes l.options) ≡ file_in (map string_bytes (drop l.index l.options))
