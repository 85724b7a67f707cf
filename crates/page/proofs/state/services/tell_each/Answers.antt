-- One service after another is told, if it is meant.
use Rattle.std.proofs.Common.{rules, arith, ◌≡◌, ◌≤◌, ◌<◌, ◌+◌, suc, length, map, refl, ◌∙◌, ap}
use Rattle.std.proofs.lemmas.List.{length-map, length-set}
use Rattle.serde_json.specs.View.{view}
use Rattle.page.specs.StateView.{service_of}
use Rattle.page.specs.Shown.{told_if}
use Rattle.page.proofs.Among.{each, each_none, each_more, each_all}
use Rattle.page.proofs.state.services.tell_each.Goals as goal

pub loop-place-init : goal.loop-place-init
loop-place-init c = record {
  told = each_none (told_if c.args.current c.args.set c.args.service (view c.args.value.now))
      (map service_of c.args.rows.now.items);
  long = refl;
}

pub loop-place-preserved : goal.loop-place-preserved
loop-place-preserved c =
    let tell = told_if c.args.current c.args.set c.args.service (view c.args.value.now) in
    let all = map service_of c.args.rows.now.items in
    let rows = c.loop-place.rows.items in
    let k = c.loop-place.place in
    let within : k < length rows = search rules in
    let next : suc k ≡ k + 1 = omega arith in
    record {
      told = each_more service_of tell k all rows c.index_mut.result.now c.tell_if.new.self c.loop-place.invariant.told
          within c.index_mut.ensures.value c.in_ok-tell_if.ensures ∙ ap (λ n. each tell n all) next;
      long = length-set rows k c.tell_if.new.self ∙ c.loop-place.invariant.long;
    }

pub returns : goal.returns
returns c =
    let tell = told_if c.args.current c.args.set c.args.service (view c.args.value.now) in
    let all = map service_of c.args.rows.now.items in
    let few : length c.args.rows.now.items ≤ c.loop-place.place = search (rules, arith) in
    let over : length all ≤ c.loop-place.place = rw length-map few in
    c.loop-place.invariant.told ∙ each_all tell c.loop-place.place all over
