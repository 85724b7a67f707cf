use Rattle.std.proofs.Common.{◌≡◌, ◌==◌, ◌&&◌, ◌||◌, not, true, false, map, ◌∙◌, ap, sym, arith}
use Rattle.std.specs.List.{list_any}
use Rattle.serde_json.specs.View.{view}
use Rattle.page.specs.StateView.{service_of}
use Rattle.page.specs.Shown.{is_in, is_stored}
use Rattle.page.proofs.Among.{any_map}
use Rattle.page.proofs.state.services.is_main.Goals as goal

pub returns-then-is_stored : goal.returns-then-is_stored
returns-then-is_stored c =
    let has = list_any (is_in c.args.set) (map service_of c.args.rows.now) in
    let any : c.has_set.result ≡ has = c.has_set.ensures ∙ any_map service_of (is_in c.args.set) c.args.rows.now in
    let stored : is_stored (view c.args.value.now) ≡ true = sym c.is_stored.ensures ∙ c.if-is_stored.true in
    let numbered = c.if-service-eq0.false in
    let other : (c.args.service == 0) ≡ false = grind (arith, numbered) in
    ap not any
    ∙ sym (ap (λ b. b || (is_stored (view c.args.value.now) && not has)) other ∙ ap (λ b. b && not has) stored)
