use Rattle.std.proofs.Common.{◌≡◌, ◌∷◌, ◌++◌, [], sym, ap, ◌∙◌, drop, append_assoc}
use Rattle.std.proofs.lemmas.List.{drop_at}
use Rattle.rds_text.specs.Quoted.{SpellsFirst}
use Rattle.titles.proofs.Spelling.{escape_front}
use Rattle.titles.proofs.strings.next_part.Goals as goal

pub returns-in_ok-push-in-Ok : goal.returns-in_ok-push-in-Ok
returns-in_ok-push-in-Ok c =
    let run = c.split_plain.result.0.now in
    let rest = c.split_plain.result.1.now in
    let s : SpellsFirst rest c.in-Ok.byte c.in-Ok.used = c.in-Ok.ensures.ok in
    let (first, are, put) = c.in_ok-fit.ensures in
    let behind : c.split_at.result.1.now ≡ s.more =
    c.split_at.ensures.back ∙ ap (drop c.in-Ok.used) s.whole ∙ drop_at s.front s.more c.in-Ok.used (sym s.counted) in (
      run,
      s.front,
      first,
      c.in-Ok.byte,
      c.split_plain.ensures.whole ∙ ap (λ k. run ++ k) (s.whole ∙ ap (λ k. s.front ++ k) (sym behind)),
      c.split_plain.ensures.plain,
      are,
      escape_front rest s.front s.more c.in-Ok.byte c.split_plain.ensures.ends s.whole s.spells,
      c.in_ok-push-in-Ok.ensures.items ∙ ap (λ k. k ++ c.in-Ok.byte ∷ []) put
          ∙ append_assoc c.args.bytes.now.items first (c.in-Ok.byte ∷ []),
    )
