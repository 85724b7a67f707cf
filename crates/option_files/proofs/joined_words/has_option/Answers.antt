use Rattle.std.proofs.Common.{◌≡◌, string_bytes, List, ℕ, Bool, true, sym, ap, ◌∙◌, subst, arith}
use Rattle.std.specs.Prelude.{is_some}
use Rattle.std.specs.List.{list_any}
use Rattle.option_files.specs.Words.{said}
use Rattle.option_files.proofs.Joined.{any_at, there}
use Rattle.option_files.proofs.joined_words.has_option.Goals as goal

pub returns-then-is_some : goal.returns-then-is_some
returns-then-is_some c =
    let names : List ℕ → Bool = λ word. is_some (said c.args.name.now word) in
    let item = c.word-item.result in
    let hit : is_some (said c.args.name.now (string_bytes item)) ≡ true =
    ap (λ text. is_some (said c.args.name.now text)) (sym c.as_str.ensures.value)
    ∙ (ap is_some (sym c.said.ensures) ∙ there _ _ ∙ sym c.if-is_some.ensures) in
    let any = any_at names c.option_words-word-items.result.now c.loop-word.word-index item (omega arith)
    (subst (λ word. names (string_bytes word) ≡ true) c.word-item.is hit) in
    sym any ∙ ap (list_any names) c.option_words-word-items.ensures
