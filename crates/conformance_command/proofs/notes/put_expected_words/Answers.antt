use Rattle.std.proofs.Common.{rules, ◌≡◌, ◌++◌, codes, sym, subst}
use Rattle.uecp_text.specs.Digits.{byte_word}
use Rattle.uecp_text.specs.Written.{Adds}
use Rattle.uecp_text.proofs.Public.{adds_then}
use Rattle.conformance.specs.declared.verdict.Expected.TheVariants.{Refusal}
use Rattle.conformance_command.specs.Telling.{expected_note}
use Rattle.conformance_command.proofs.notes.put_expected_words.Goals as goal

pub returns-in-Refusal : goal.returns-in-Refusal
returns-in-Refusal c =
    let is : c.args.expected ≡ Refusal c.in-Refusal.counter = search rules in
    subst (λ e. Adds c.args.output.now c.end.new.self (expected_note c.args.own e)) (sym is)
    (adds_then c.args.output.now c.text.new.self c.end.new.self (codes "#   refusal")
    (byte_word c.in-Refusal.counter ++ codes "\n") c.text.ensures.added
    (adds_then c.text.new.self c.byte.new.self c.end.new.self (byte_word c.in-Refusal.counter) (codes "\n")
    c.byte.ensures.added c.end.ensures.added))
