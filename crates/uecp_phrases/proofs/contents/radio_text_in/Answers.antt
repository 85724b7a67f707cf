use Rattle.std.proofs.Common.{◌≡◌, [], ◌∷◌, ap, inl, sym, ◌∙◌, rules}
use Rattle.std.proofs.lemmas.Bool.{false≢true}
use Rattle.phrase_tokens.specs.Tokens.{Quoted}
use Rattle.phrase_tokens.specs.View.{token_of, tokens_of}
use Rattle.uecp_phrases.specs.declared.head.Head.TheVariants as head
use Rattle.uecp_phrases.specs.declared.expectation.Expectation.TheVariants as what
use Rattle.uecp_phrases.specs.Phrases.{no_choice}
use Rattle.uecp_phrases.specs.Stops.{Each, IsEnd, AreChosen}
use Rattle.uecp_phrases.proofs.Behind.{rt_bits, rt_clear, rt_chosen}
use Rattle.uecp_phrases.proofs.FirstWanted.{no_rt, not_text, behind_told}
use Rattle.uecp_phrases.proofs.Stopping.{err_is, stuck_at, stuck_at_end}
use Rattle.uecp_phrases.proofs.contents.radio_text_in.Goals as goal

pub returns-in_default-clause-err : goal.returns-in_default-clause-err
returns-in_default-clause-err c =
    let stop = c.stop_at-stop.result in
    no_rt (tokens_of c.args.tokens.now) stop.what stop.left (λ region.
    stuck_at_end region what.RadioText c.args.tokens.now stop.what stop.left c.stop_at-stop.ensures.what
    c.stop_at-stop.ensures.left c.in_default.ensures.cases)

pub returns-in_err-head-clause-err : goal.returns-in_err-head-clause-err
returns-in_err-head-clause-err c =
    let stop = c.in_err-head.field-0.0 in
    err_is c.from_residual.result stop _ (search rules)
    (behind_told head.Rt (token_of c.in-Some.first.now) (λ _. AreChosen no_choice) (tokens_of c.args.tokens.now)
    (tokens_of c.in-Some.rest.now) stop.what stop.left (ap tokens_of c.in-Some.ensures.cases.0) (λ region.
    rt_chosen region (token_of c.in-Some.first.now) c.in-Some-quoted.text.now c.in-Some-quoted.ensures.some)
    c.in_err-head.ensures.err)

pub returns-in-Some-quoted-clause-ok : goal.returns-in-Some-quoted-clause-ok
returns-in-Some-quoted-clause-ok c =
    let rest = tokens_of c.in-Some.rest.now in
    let first : tokens_of c.args.tokens.now ≡ Quoted c.in-Some-quoted.text.now ∷ rest =
    ap tokens_of c.in-Some.ensures.cases.0 ∙ ap (λ t. t ∷ rest) c.in-Some-quoted.ensures.some in
    let made = c.in_ok-head.ensures.ok in inl (rest, made.0, first, made.1, made.2)

pub returns-in_err-head-2-clause-err : goal.returns-in_err-head-2-clause-err
returns-in_err-head-2-clause-err c =
    let stop = c.in_err-head-2.field-0.0 in
    err_is c.from_residual-in_err-head-2.result stop _ (search rules)
    (behind_told head.Rt (token_of c.in-Some.first.now)
    (λ region. Each region (what.TwoDigits ∷ what.Text ∷ []) IsEnd) (tokens_of c.args.tokens.now)
    (tokens_of c.in-Some.rest.now) stop.what stop.left (ap tokens_of c.in-Some.ensures.cases.0)
    (λ region. rt_bits region (token_of c.in-Some.first.now) (c.is_word.ensures.0 c.if-is_word.true))
    c.in_err-head-2.ensures.err)

pub returns-then-not-is_word-clause-err : goal.returns-then-not-is_word-clause-err
returns-then-not-is_word-clause-err c =
    let stop = c.stop_at-stop.result in
    no_rt (tokens_of c.args.tokens.now) stop.what stop.left (λ region.
    stuck_at region what.RadioText c.args.tokens.now (tokens_of c.in-Some.rest.now) (token_of c.in-Some.first.now)
    stop.what stop.left (ap tokens_of c.in-Some.ensures.cases.0) c.stop_at-stop.ensures.what
    c.stop_at-stop.ensures.left
    (not_text region (token_of c.in-Some.first.now) c.in_default-quoted.ensures.none
    (λ is. false≢true (sym c.if-not-is_word.true ∙ c.is_word-2.ensures.1 is))
    (λ is. false≢true (sym c.if-is_word.false ∙ c.is_word.ensures.1 is))))

pub returns-in_err-end_in-clause-err : goal.returns-in_err-end_in-clause-err
returns-in_err-end_in-clause-err c =
    let stop = c.in_err-end_in.field-0.0 in
    err_is c.from_residual-in_err-end_in.result stop _ (search rules)
    (behind_told head.Rt (token_of c.in-Some.first.now) (λ _. IsEnd) (tokens_of c.args.tokens.now)
    (tokens_of c.in-Some.rest.now) stop.what stop.left (ap tokens_of c.in-Some.ensures.cases.0)
    (λ region. rt_clear region (token_of c.in-Some.first.now) (c.is_word-2.ensures.0 c.if-not-is_word.false))
    c.in_err-end_in.ensures.err)
