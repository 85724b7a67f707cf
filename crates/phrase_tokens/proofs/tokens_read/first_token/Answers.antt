use Rattle.std.proofs.Common.{◌≡◌, ◌∷◌, ◌∙◌, refl, sym, ap, subst, length, IfErr, IfNone, Option, Some, None}
use Rattle.std.specs.Option.{ok_or}
use Rattle.phrase_tokens.specs.declared.tokens_read.Unread.TheVariants as why
use Rattle.phrase_tokens.specs.Fronts.{FrontNone, ToldAt}
use Rattle.phrase_tokens.proofs.Told.{none_other, told_first}
use Rattle.phrase_tokens.proofs.tokens_read.first_token.Goals as goal

pub returns-then-first-eq34-clause-err : goal.returns-then-first-eq34-clause-err
returns-then-first-eq34-clause-err c =
    let same : 0x22 ∷ c.args.more.now ≡ c.args.text.now =
    ap (λ x. x ∷ c.args.more.now) (sym c.if-first-eq34.true) ∙ sym c.requires.begins in
    subst (λ l. IfErr c.quoted_at.result (λ _. FrontNone l)) same c.quoted_at.ensures.err

-- What an error says where nothing was found.
if_none : {X Y : Type 0} (r : Option X) (e : Y) {P : Type 0} (Q : Y → Type 0) → IfNone r P → (P → Q e)
    → IfErr (ok_or r e) Q
if_none (Some x) e Q p q = tt
if_none None e Q p q = q p

pub returns-else-first-eq34-clause-err : goal.returns-else-first-eq34-clause-err
returns-else-first-eq34-clause-err c =
    subst (λ r. IfErr r (λ _. FrontNone c.args.text.now)) (sym c.ok_or.ensures.value)
    (if_none c.word_at.result (why.Word, length c.args.text.now) (λ _. FrontNone c.args.text.now) c.word_at.ensures.none
    (none_other c.args.text.now c.args.more.now c.args.first c.requires.begins c.if-first-eq34.false
    c.if-first-eq59.false))

pub returns-else-first-eq34-clause-told : goal.returns-else-first-eq34-clause-told
returns-else-first-eq34-clause-told c =
    subst (λ r. IfErr r (λ e. ToldAt c.args.text.now e.0 e.1)) (sym c.ok_or.ensures.value)
    (if_none c.word_at.result (why.Word, length c.args.text.now) (λ e. ToldAt c.args.text.now e.0 e.1)
    c.word_at.ensures.none
    (λ _. told_first c.args.text.now c.args.more.now why.Word c.args.first (length c.args.text.now) c.requires.begins
    refl
    (c.requires.no_space, c.if-first-eq34.false, c.if-first-eq59.false)))
