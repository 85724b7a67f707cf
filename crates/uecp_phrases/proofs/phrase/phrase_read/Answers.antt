use Rattle.std.proofs.Common.{◌≡◌, ℕ, ◌<◌, List, false, length, Err, inl, inr, rules}
use Rattle.phrase_tokens.specs.View.{tokens_of}
use Rattle.uecp_phrases.specs.Phrases.{Tells}
use Rattle.uecp_phrases.proofs.Alone.{some_at, none_at}
use Rattle.uecp_phrases.proofs.Phrasing.{phrase_read}
use Rattle.uecp_phrases.proofs.Placing.{set_stop, service_stop, head_stop, may_act, told_stop, told_long}
use Rattle.uecp_phrases.proofs.Stopping.{err_is, counted}
use Rattle.uecp_phrases.proofs.Telling.{told_at}
use Rattle.uecp_phrases.proofs.phrase.phrase_read.Goals as goal

pub returns-in_err-set-clause-err : goal.returns-in_err-set-clause-err
returns-in_err-set-clause-err c =
    let stop = c.in_err-set.field-0.0 in
    let is : c.from_residual.result ≡ Err stop = search rules in
    err_is c.from_residual.result stop _ is
    (inl (set_stop c.args.region (tokens_of c.args.tokens.now) stop.what stop.left c.in_err-set.ensures.err))

pub returns-in_err-service-clause-err : goal.returns-in_err-service-clause-err
returns-in_err-service-clause-err c =
    let stop = c.in_err-service.field-0.0 in
    let is : c.from_residual-in_err-service.result ≡ Err stop = search rules in
    err_is c.from_residual-in_err-service.result stop _ is
    (inl (service_stop c.args.region (tokens_of c.args.tokens.now) (tokens_of c.in_ok-set.behind.now) c.in_ok-set.set
    stop.what stop.left c.in_ok-set.ensures.ok c.in_err-service.ensures.err))

pub returns-in_err-head-clause-err : goal.returns-in_err-head-clause-err
returns-in_err-head-clause-err c =
    let stop = c.in_err-head.field-0.0 in
    let is : c.from_residual-in_err-head.result ≡ Err stop = search rules in
    let err = c.in_err-head.ensures.err in
    err_is c.from_residual-in_err-head.result stop _ is
    (inl (head_stop c.args.region (tokens_of c.args.tokens.now) (tokens_of c.in_ok-set.behind.now)
    (tokens_of c.in_ok-service.behind.now) c.in_ok-set.set c.in_ok-service.service c.is_some.result c.is_some-2.result
    stop.what stop.left c.in_ok-set.ensures.ok c.in_ok-service.ensures.ok c.is_some.ensures c.is_some-2.ensures err.0
    (counted c.in_ok-service.behind.now stop.left err.1) err.2))

pub returns-in_err-message-clause-err : goal.returns-in_err-message-clause-err
returns-in_err-message-clause-err c =
    let stop = c.in_err-message.field-0.0 in
    let first = c.in_ok-head.ensures.ok in
    err_is c.from_residual-in_err-message.result stop _ (search rules)
    (inl (told_stop c.args.region (tokens_of c.args.tokens.now) (tokens_of c.in_ok-set.behind.now)
    (tokens_of c.in_ok-service.behind.now) (tokens_of c.in_ok-head.rest.now) c.in_ok-set.set c.in_ok-service.service
    first.0 c.in_ok-head.head stop.what stop.left c.in_ok-set.ensures.ok c.in_ok-service.ensures.ok first.1 first.2
    (may_act c.in_ok-set.set c.in_ok-service.service c.is_some.result c.is_some-2.result c.in_ok-head.head
    c.is_some.ensures c.is_some-2.ensures c.in_ok-head.ensures.acts) c.in_err-message.ensures.err))

pub returns-in-Some-clause-ok : goal.returns-in-Some-clause-ok
returns-in-Some-clause-ok c =
    let h = c.in_ok-head.head in
    let rest = tokens_of c.in_ok-head.rest.now in
    let told = some_at c.in_ok-message.field-0 c.in-Some.message
    (λ m. Tells c.args.region h false c.place_of.result.dsn c.place_of.result.psn rest m) c.in-Some.is
    c.in_ok-message.ensures.some in
    let first = c.in_ok-head.ensures.ok in
    phrase_read c.args.region (tokens_of c.args.tokens.now) (tokens_of c.in_ok-set.behind.now)
    (tokens_of c.in_ok-service.behind.now) rest c.in_ok-set.set c.in_ok-service.service first.0 h c.in-Some.message
    c.in_ok-set.ensures.ok c.in_ok-service.ensures.ok first.1 first.2
    (told_at c.args.region h c.place_of.result.dsn c.place_of.result.psn c.in_ok-set.set c.in_ok-service.service rest
    c.in-Some.message c.place_of.ensures.set c.place_of.ensures.service
    (may_act c.in_ok-set.set c.in_ok-service.service c.is_some.result c.is_some-2.result h c.is_some.ensures
    c.is_some-2.ensures c.in_ok-head.ensures.acts) told)

pub returns-in-None-clause-err : goal.returns-in-None-clause-err
returns-in-None-clause-err c =
    let h = c.in_ok-head.head in
    let rest = tokens_of c.in_ok-head.rest.now in
    let long = none_at c.in_ok-message.field-0
    ((bytes : List ℕ) × Tells c.args.region h false c.place_of.result.dsn c.place_of.result.psn rest bytes
    × (255 < length bytes)) c.in-None.is c.in_ok-message.ensures.long in
    let there = told_at c.args.region h c.place_of.result.dsn c.place_of.result.psn c.in_ok-set.set
    c.in_ok-service.service rest long.0 c.place_of.ensures.set c.place_of.ensures.service
    (may_act c.in_ok-set.set c.in_ok-service.service c.is_some.result c.is_some-2.result h c.is_some.ensures
    c.is_some-2.ensures c.in_ok-head.ensures.acts) long.1 in
    let first = c.in_ok-head.ensures.ok in
    inr (
      told_long c.args.region (tokens_of c.args.tokens.now) (tokens_of c.in_ok-set.behind.now)
          (tokens_of c.in_ok-service.behind.now) rest c.in_ok-set.set c.in_ok-service.service first.0 h long.0
          c.in_ok-set.ensures.ok c.in_ok-service.ensures.ok first.1 first.2 there long.2,
      c.stop_at.ensures.what,
      counted c.args.tokens.now c.stop_at.result.left c.stop_at.ensures.left,
    )
