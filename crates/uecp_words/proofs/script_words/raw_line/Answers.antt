use Rattle.std.proofs.Common.{inl, inr, arith, rules}
use Rattle.uecp_words.proofs.ScriptLines.{nothing_raw}
use Rattle.uecp_words.proofs.script_words.raw_line.Goals as goal

pub returns-in_err-bytes_or_none-clause-refused : goal.returns-in_err-bytes_or_none-clause-refused
returns-in_err-bytes_or_none-clause-refused c =
    elim c.in_err-bytes_or_none.ensures.refused [
      | inl memory ↦ search rules
      | inr row ↦ let nothing = nothing_raw c.args.words.now _ (omega arith) row.1 in search rules
    ]
