use Rattle.std.proofs.Common.{◌≡◌, ◌++◌, map, take, string_bytes}
use Rattle.option_files.specs.Words.{words_beside}
use Rattle.option_files.specs.Entries.{entry_view}
use Rattle.option_files.proofs.joined_words.words_with.Given as goal

-- the names so far
abbrev pub invariant-loop-word : goal.invariant-loop-word
invariant-loop-word l = map string_bytes l.all.items ≡ map string_bytes (take l.word-index l.word-items)

-- the names, and the words of the entries so far
abbrev pub invariant-loop-entry : goal.invariant-loop-entry
invariant-loop-entry l = map string_bytes l.all.items ≡ map string_bytes (take 2 l.words)
    ++ words_beside (map string_bytes l.words) (map entry_view (take l.entry-index l.entries))

-- the names, the words of the entries, and the words so far
abbrev pub invariant-loop-word-2 : goal.invariant-loop-word-2
invariant-loop-word-2 l = map string_bytes l.all.items ≡ (map string_bytes (take 2 l.words)
    ++ words_beside (map string_bytes l.words) (map entry_view l.entries))
    ++ map string_bytes (take l.word-index l.word-items)
