use Rattle.std.proofs.Common.{◌≡◌, ◌++◌, map, drop, take, string_bytes}
use Rattle.option_files.specs.Words.{up_to_end}
use Rattle.option_files.proofs.joined_words.option_words.Given as goal

-- the words so far stand before the end
abbrev pub invariant-loop-index : goal.invariant-loop-index
invariant-loop-index l = up_to_end (map string_bytes l.options)
    ≡ map string_bytes (take l.index l.options) ++ up_to_end (map string_bytes (drop l.index l.options))
