use Rattle.std.proofs.Common.{◌≡◌, ◌<◌, ◌+◌, ◌-◌, [], ◌∷◌, ◌++◌, map, ◌∙◌, ap, sym, rules, arith}
use Rattle.std.proofs.lemmas.List.{append-nil, append_assoc, map-append}
use Rattle.serde_json.specs.Data.{array}
use Rattle.serde_json.specs.View.{view, items_of}
use Rattle.serde_json.proofs.Views.{view-Array}
use Rattle.page.specs.Minutes.{count_before, counts_until, last_hour}
use Rattle.page.specs.StateView.{minutes_of}
use Rattle.page.proofs.Minutes.{oldest, all_left, none_left, told_as, each_number}
use Rattle.page.proofs.state.texts.minutes_value.Goals as goal

pub loop-place-init : goal.loop-place-init
loop-place-init c =
    ap (λ xs. map view xs ++ map told_as (counts_until c.args.newest 60 (minutes_of c.args.minutes.now)))
    c.new-list.ensures.items
    ∙ ap (map told_as) (all_left c.args.newest (minutes_of c.args.minutes.now))

pub loop-place-preserved : goal.loop-place-preserved
loop-place-preserved c =
    let place = c.loop-place.place in
    let kept = minutes_of c.args.minutes.now in
    let items = c.loop-place.list.items in
    let within : place < 60 = search (rules, arith) in
    let rest = map told_as (counts_until c.args.newest (60 - (place + 1)) kept) in
    let one : view c.from.result ≡ told_as (count_before c.args.newest (59 - place) kept) =
    c.from.ensures ∙ ap told_as c.before-in-loop-place.ensures in
    ap (λ xs. map view xs ++ rest) c.in_ok-push.ensures.items
    ∙ ap (λ xs. xs ++ rest) (map-append view items (c.from.result ∷ []))
    ∙ append_assoc (map view items) (view c.from.result ∷ []) rest
    ∙ ap (λ x. map view items ++ x ∷ rest) one
    ∙ sym (ap (λ ns. map view items ++ map told_as ns) (oldest c.args.newest place kept within))
    ∙ c.loop-place.invariant

pub returns : goal.returns
returns c =
    let kept = minutes_of c.args.minutes.now in
    let items = c.loop-place.list.items in
    let all : map view items ≡ map told_as (last_hour c.args.newest kept) =
    sym (append-nil (map view items))
    ∙ sym (ap (λ ns. map view items ++ map told_as ns)
    (none_left c.args.newest c.loop-place.place kept c.loop-place-test.false))
    ∙ c.loop-place.invariant in
    view-Array c.loop-place.list ∙ ap array (ap items_of all ∙ each_number (last_hour c.args.newest kept))
