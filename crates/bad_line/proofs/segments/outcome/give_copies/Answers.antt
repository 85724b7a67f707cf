use Rattle.std.proofs.Common.{◌≡◌, ◌+◌, ◌*◌, ℕ, length, ap, ◌∙◌, arith}
use Rattle.std.proofs.lemmas.List.{length-append}
use Rattle.bad_line.specs.Pieces.{times}
use Rattle.bad_line.proofs.Room.{length-times, one_more_fits}
use Rattle.bad_line.proofs.segments.outcome.give_copies.Goals as goal

pub give-requires : goal.give-requires
give-requires c =
    let bytes = c.args.bytes.now in
    let so_far : length c.loop-copy.out.items ≡ length c.args.out.now.items + c.loop-copy._copy * length bytes =
    ap length c.loop-copy.invariant ∙ length-append c.args.out.now.items (times c.loop-copy._copy bytes)
    ∙ ap (λ (n : ℕ). length c.args.out.now.items + n) (length-times c.loop-copy._copy bytes) in
    let fits = one_more_fits (length c.args.out.now.items) c.loop-copy._copy c.args.copies (length bytes) (omega arith)
    c.requires in
    omega (arith, so_far, fits)
