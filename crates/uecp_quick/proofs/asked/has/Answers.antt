use Rattle.std.proofs.Common.{◌≡◌, string_bytes, List, ℕ, Bool, true, sym, ap, ◌∙◌, subst, arith}
use Rattle.std.specs.Str.{bytes_eq}
use Rattle.uecp_quick.proofs.Flags.{any_at}
use Rattle.uecp_quick.proofs.asked.has.Goals as goal

pub returns-then-eq : goal.returns-then-eq
returns-then-eq c =
    let is_flag : List ℕ → Bool = λ word. bytes_eq word c.args.flag.now in
    let item = c.word-item.result in
    let hit : is_flag (string_bytes item) ≡ true = ap is_flag (sym c.as_str.ensures.value) ∙ sym c.if-eq.ensures in
    sym (any_at is_flag c.args.words.now c.loop-word.word-index item (omega arith)
    (subst (λ word. is_flag (string_bytes word) ≡ true) c.word-item.is hit))
