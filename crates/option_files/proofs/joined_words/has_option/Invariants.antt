use Rattle.std.proofs.Common.{◌≡◌, false, map, take, string_bytes}
use Rattle.std.specs.Prelude.{is_some}
use Rattle.std.specs.List.{list_any}
use Rattle.option_files.specs.Words.{said}
use Rattle.option_files.proofs.joined_words.has_option.Given as goal

-- none of the words so far names the option
abbrev pub invariant-loop-word : goal.invariant-loop-word
invariant-loop-word l =
    list_any (λ word. is_some (said l.fn.name word)) (map string_bytes (take l.word-index l.word-items)) ≡ false
