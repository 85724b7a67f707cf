use Rattle.std.proofs.Common.{ap, inl, sym, ◌∙◌}
use Rattle.std.proofs.lemmas.Bool.{false≢true}
use Rattle.phrase_tokens.specs.View.{token_of, tokens_of}
use Rattle.uecp_phrases.specs.declared.head.Head.TheVariants as head
use Rattle.uecp_phrases.specs.declared.expectation.Expectation.TheVariants as what
use Rattle.uecp_phrases.proofs.Behind.{GroupBits, GroupOther, group_bits, group_other}
use Rattle.uecp_phrases.proofs.FirstWanted.{no_group, not_group, behind_err}
use Rattle.uecp_phrases.proofs.Stopping.{stuck_at, stuck_at_end}
use Rattle.uecp_phrases.proofs.groups.group_in.Goals as goal

pub returns-in_default-clause-err : goal.returns-in_default-clause-err
returns-in_default-clause-err c =
    let stop = c.stop_at-stop.result in
    no_group (tokens_of c.args.tokens.now) stop.what stop.left (λ region.
    stuck_at_end region what.GroupType c.args.tokens.now stop.what stop.left c.stop_at-stop.ensures.what
    c.stop_at-stop.ensures.left c.in_default.ensures.cases)

pub returns-then-is_word-clause-err : goal.returns-then-is_word-clause-err
returns-then-is_word-clause-err c =
    behind_err c.group_of_bits.result head.Group (token_of c.in-Some.first.now) GroupBits
    (tokens_of c.args.tokens.now) (tokens_of c.in-Some.rest.now) (ap tokens_of c.in-Some.ensures.cases.0)
    (λ region. group_bits region (token_of c.in-Some.first.now) (c.is_word.ensures.0 c.if-is_word.true))
    c.group_of_bits.ensures.err

pub returns-in_default-type_in-clause-err : goal.returns-in_default-type_in-clause-err
returns-in_default-type_in-clause-err c =
    let stop = c.stop_at-stop.result in
    no_group (tokens_of c.args.tokens.now) stop.what stop.left (λ region.
    stuck_at region what.GroupType c.args.tokens.now (tokens_of c.in-Some.rest.now) (token_of c.in-Some.first.now)
    stop.what stop.left (ap tokens_of c.in-Some.ensures.cases.0) c.stop_at-stop.ensures.what
    c.stop_at-stop.ensures.left
    (not_group region (token_of c.in-Some.first.now)
    (λ is. false≢true (sym c.if-is_word.false ∙ c.is_word.ensures.1 is)) c.in_default-type_in.ensures.none))

pub returns-clause-err : goal.returns-clause-err
returns-clause-err c =
    let named = c.in-Some-type_in.ensures.some in
    behind_err c.called_group.result head.Group (token_of c.in-Some.first.now) GroupOther
    (tokens_of c.args.tokens.now) (tokens_of c.in-Some.rest.now) (ap tokens_of c.in-Some.ensures.cases.0) (λ region.
    group_other region (token_of c.in-Some.first.now)
    (λ is. false≢true (sym c.if-is_word.false ∙ c.is_word.ensures.1 is))
    (inl (named.0, c.in-Some-type_in.kind, named.1, named.2))) c.called_group.ensures.err
