use Rattle.std.proofs.Common.{ℕ, List, ◌++◌, rules, tests, ◌==◌, not, ◌∙◌, ap, filter}
use Rattle.std.proofs.lemmas.List.Elements.{filter_from_retain}
use Rattle.uecp_text.proofs.piece_buffer.put_digits.Goals as goal

pub returns : goal.returns
returns c =
    filter_from_retain _ (λ byte. not (byte == 0x20)) (λ p x b q called. search (rules, tests)) _
    c.extend_from_slice.new.self.items c.retain.new.self.items c.retain.ensures.filtered
    ∙ ap (filter (λ byte. not (byte == 0x20))) (c.in_ok-extend_from_slice.ensures.items
    ∙ ap (λ (before : List ℕ). before ++ c.args.text.now) c.clear.ensures.items)
