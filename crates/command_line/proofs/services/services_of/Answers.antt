use Rattle.std.proofs.Common.{rules, tests, ◌==◌, length, map, ap, ◌∙◌, sym, inr, subst, refl, IsErr}
use Rattle.std.proofs.lemmas.Iterator.Consumers.{YieldsList-at, YieldsList-turn, YieldsList-end}
use Rattle.std.proofs.lemmas.Iterator.Splits.{YieldsList-from_slice_split}
use Rattle.hex.specs.Hex.{decode_sized}
use Rattle.command_line.proofs.Options.{spells_none}
use Rattle.command_line.proofs.services.services_of.Goals as goal

pub returns-in-None-byte_of-clause-refused : goal.returns-in-None-byte_of-clause-refused
returns-in-None-byte_of-clause-refused c =
    let turn = YieldsList-turn (YieldsList-at c.into_iter-word-iterator.ensures.into_iter_gives
    (YieldsList-from_slice_split {s = c.split-word-items.result} _ (λ b. b == 44) c.args.list.now (cc)
    c.split-word-items.ensures.done c.split-word-items.ensures.closure (λ x r q k. search (rules, tests))))
    c.loop-word.yielded _ c.loop-word.yielded_by _ _ c.in-Some.word c.in-Some.is c.next.ensures.steps in
    let err : IsErr (decode_sized c.in-Some.word.now 1) = search rules in
    inr (
      refl,
      λ bytes list. spells_none _ bytes (length c.loop-word.yielded) c.in-Some.word.now turn.0
          (subst (λ part. IsErr (decode_sized part 1)) turn.1 err) list,
    )

pub returns-clause-list : goal.returns-clause-list
returns-clause-list c =
    let whole = YieldsList-end (YieldsList-at c.into_iter-word-iterator.ensures.into_iter_gives
    (YieldsList-from_slice_split {s = c.split-word-items.result} _ (λ b. b == 44) c.args.list.now (cc)
    c.split-word-items.ensures.done c.split-word-items.ensures.closure (λ x r q k. search (rules, tests))))
    c.loop-word.yielded _ c.loop-word.yielded_by _ _ c.in-None.is c.next.ensures.steps in
    ap (map (λ part. decode_sized part 1)) (sym whole.0) ∙ c.loop-word.invariant
