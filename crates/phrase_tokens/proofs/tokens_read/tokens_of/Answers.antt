use Rattle.std.proofs.Common.{◌≡◌, ◌∷◌, ◌∙◌, ◌++◌, [], sym, ap, rules, subst, inr}
use Rattle.std.proofs.lemmas.List.{nil_from_length, map_push}
use Rattle.phrase_tokens.specs.View.{tokens_of, token_of}
use Rattle.phrase_tokens.proofs.LaysOn.{LaysOn, lays_space, lays_token, lays_end, lays_none}
use Rattle.phrase_tokens.proofs.tokens_read.tokens_of.Goals as goal

pub loop-first-preserved-then-first-eq32 : goal.loop-first-preserved-then-first-eq32
loop-first-preserved-then-first-eq32 c =
    lays_space c.args.text.now c.loop-first.rest.now c.in-Some.more.now (tokens_of c.loop-first.tokens.items)
    c.loop-first.invariant (c.in-Some.ensures.cases.0 ∙ ap (λ x. x ∷ c.in-Some.more.now) c.if-first-eq32.true)

pub returns-in-Err-clause-err : goal.returns-in-Err-clause-err
returns-in-Err-clause-err c =
    inr (lays_none c.args.text.now c.loop-first.rest.now c.in-Some.first.now c.in-Some.more.now
    (tokens_of c.loop-first.tokens.items) c.loop-first.invariant c.in-Some.ensures.cases.0 c.if-first-eq32.false
    c.in-Err.ensures.err)

pub loop-first-preserved : goal.loop-first-preserved
loop-first-preserved c =
    let pushed : c.push.new.self.items ≡ c.loop-first.tokens.items ++ c.in-Ok.found.0 ∷ [] = search rules in
    let more : tokens_of c.push.new.self.items
    ≡ tokens_of c.loop-first.tokens.items ++ token_of c.in-Ok.found.0 ∷ [] =
    ap tokens_of pushed ∙ map_push token_of c.loop-first.tokens.items c.in-Ok.found.0 in
    subst (λ g. LaysOn c.args.text.now c.in-Ok.found.1.now g) (sym more)
    (lays_token c.args.text.now c.loop-first.rest.now (token_of c.in-Ok.found.0) c.in-Ok.found.1.now
    (tokens_of c.loop-first.tokens.items) c.loop-first.invariant c.in-Ok.ensures.ok)

pub returns-clause-ok : goal.returns-clause-ok
returns-clause-ok c =
    lays_end c.args.text.now (tokens_of c.loop-first.tokens.items)
    (subst (λ l. LaysOn c.args.text.now l (tokens_of c.loop-first.tokens.items))
    (nil_from_length c.loop-first.rest.now c.in_default.ensures.cases) c.loop-first.invariant)
