use Rattle.std.proofs.Common.{◌≡◌, false, map, take, string_bytes}
use Rattle.std.specs.List.{list_any}
use Rattle.std.specs.Str.{bytes_eq}
use Rattle.uecp_quick.proofs.asked.has.Given as goal

-- none of the words so far is the flag
abbrev pub invariant-loop-word : goal.invariant-loop-word
invariant-loop-word l =
    list_any (λ word. bytes_eq word l.fn.flag) (map string_bytes (take l.word-index l.words)) ≡ false
