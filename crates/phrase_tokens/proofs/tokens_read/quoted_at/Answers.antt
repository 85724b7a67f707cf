use Rattle.std.proofs.Common.{◌≡◌, ◌∷◌, ◌++◌, arith, rules, refl, sym, ap, length, ◌+◌, ◌∙◌, [], drop, subst}
use Rattle.std.proofs.lemmas.List.{drop_at, nil_from_length}
use Rattle.rds_text.specs.Quoted.{SpellsFirst}
use Rattle.phrase_tokens.specs.declared.tokens_read.Unread.TheVariants as why
use Rattle.phrase_tokens.proofs.Inner.{Spelled, spelled_end, spelled_open, spelled_full, spelled_stuck, spelled_more}
use Rattle.phrase_tokens.proofs.Told.{front_quoted, none_quoted, told_first, told_inside, not_in_set}
use Rattle.phrase_tokens.proofs.tokens_read.quoted_at.Goals as goal

pub returns-then-first-eq34-clause-ok : goal.returns-then-first-eq34-clause-ok
returns-then-first-eq34-clause-ok c =
    front_quoted c.args.body.now c.loop-first.bytes.items c.in-Some.more.now
    (spelled_end c.args.body.now c.loop-first.left.now c.loop-first.bytes.items c.in-Some.more.now
    c.loop-first.invariant.spelled
    (c.in-Some.ensures.cases.0 ∙ ap (λ x. x ∷ c.in-Some.more.now) c.if-first-eq34.true)) c.loop-first.invariant.few

pub returns-then-is_full-clause-err : goal.returns-then-is_full-clause-err
returns-then-is_full-clause-err c =
    none_quoted c.args.body.now
    (spelled_full c.args.body.now c.loop-first.left.now c.loop-first.bytes.items c.in-Some.first.now c.in-Some.more.now
    c.loop-first.invariant.spelled c.in-Some.ensures.cases.0 c.if-first-eq34.false (search rules))

pub returns-then-is_full-clause-told : goal.returns-then-is_full-clause-told
returns-then-is_full-clause-told c =
    told_first (0x22 ∷ c.args.body.now) c.args.body.now why.TooLong 0x22 (length c.args.body.now + 1) refl (omega arith)
    refl

pub loop-first-preserved : goal.loop-first-preserved
loop-first-preserved c =
    let s : SpellsFirst c.loop-first.left.now c.in-Ok.byte c.in-Ok.used = c.in-Ok.ensures.ok in
    let body = c.args.body.now in
    let got = c.loop-first.bytes.items in
    let more : Spelled body s.more (got ++ c.in-Ok.byte ∷ []) =
    spelled_more body c.loop-first.left.now got s.front s.more c.in-Ok.byte c.loop-first.invariant.spelled s.whole
    s.spells in
    let rest : c.split_at.result.1.now ≡ s.more =
    c.split_at.ensures.back ∙ ap (drop c.in-Ok.used) s.whole ∙ drop_at s.front s.more c.in-Ok.used (sym s.counted) in
    record {
      spelled = subst (λ r. Spelled body r c.push.new.self.items) (sym rest)
          (subst (λ g. Spelled body s.more g) (sym c.push.ensures.items) more);
      few = search rules;
    }

pub returns-in-Err-clause-err : goal.returns-in-Err-clause-err
returns-in-Err-clause-err c =
    none_quoted c.args.body.now
    (spelled_stuck c.args.body.now c.loop-first.left.now c.loop-first.bytes.items c.in-Some.first.now c.in-Some.more.now
    c.loop-first.invariant.spelled c.in-Some.ensures.cases.0 c.if-first-eq34.false c.in-Err.ensures.err)

pub returns-in-Err-clause-told : goal.returns-in-Err-clause-told
returns-in-Err-clause-told c =
    told_inside c.args.body.now c.loop-first.invariant.spelled.before c.loop-first.left.now c.in-Some.more.now
    why.Escape
    c.in-Some.first.now c.loop-first.invariant.spelled.whole c.in-Some.ensures.cases.0 c.if-first-eq92.true

pub returns-in-Err-2-clause-err : goal.returns-in-Err-2-clause-err
returns-in-Err-2-clause-err c =
    none_quoted c.args.body.now
    (spelled_stuck c.args.body.now c.loop-first.left.now c.loop-first.bytes.items c.in-Some.first.now c.in-Some.more.now
    c.loop-first.invariant.spelled c.in-Some.ensures.cases.0 c.if-first-eq34.false c.in-Err.ensures.err)

pub returns-in-Err-2-clause-told : goal.returns-in-Err-2-clause-told
returns-in-Err-2-clause-told c =
    told_inside c.args.body.now c.loop-first.invariant.spelled.before c.loop-first.left.now c.in-Some.more.now
    why.NotInSet
    c.in-Some.first.now c.loop-first.invariant.spelled.whole c.in-Some.ensures.cases.0
    (not_in_set c.loop-first.left.now c.in-Some.more.now c.in-Some.first.now c.in-Some.ensures.cases.0
    c.if-first-eq34.false
    c.if-first-eq92.false c.in-Err.ensures.err)

pub returns-clause-err : goal.returns-clause-err
returns-clause-err c = none_quoted c.args.body.now (spelled_open c.args.body.now c.loop-first.bytes.items
    (subst (λ l. Spelled c.args.body.now l c.loop-first.bytes.items)
    (nil_from_length c.loop-first.left.now c.in_default.ensures.cases) c.loop-first.invariant.spelled))

pub returns-clause-told : goal.returns-clause-told
returns-clause-told c =
    told_first (0x22 ∷ c.args.body.now) c.args.body.now why.Unclosed 0x22 (length c.args.body.now + 1) refl
    (omega arith)
    refl
