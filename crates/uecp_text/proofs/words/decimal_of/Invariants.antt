use Rattle.std.proofs.Common.{◌≡◌, ◌≤◌, take, true}
use Rattle.std.specs.List.{list_all}
use Rattle.std.specs.Char.{is_ascii_digit}
use Rattle.uecp_text.specs.Words.{decimal_value}
use Rattle.uecp_text.proofs.words.decimal_of.Given as goal

-- the number that the digits so far spell
abbrev pub invariant-loop-digit : goal.invariant-loop-digit
invariant-loop-digit l = record {
  value : l.number ≡ decimal_value (take l.digit-index l.word);
  digits : list_all is_ascii_digit (take l.digit-index l.word) ≡ true;
  range : l.number ≤ l.most;
}
