use Rattle.std.proofs.Common.{◌≡◌, ◌++◌, drop}
use Rattle.std.specs.Prelude.{encode_utf8_all}
use Rattle.std.specs.String.{string_bytes}
use Rattle.titles.proofs.texts.put_characters.Given as goal

-- what is left makes the same
abbrev pub invariant-loop-character : goal.invariant-loop-character
invariant-loop-character l = string_bytes l.text ++ encode_utf8_all (drop l.character-index l.characters)
    ≡ string_bytes l.fn.text ++ encode_utf8_all l.characters
