use Rattle.std.proofs.Common.{◌≡◌, Bool, true, false, cond, map, ◌∙◌, ap, sym}
use Rattle.std.specs.List.{list_any}
use Rattle.std.proofs.lemmas.Result.{on_ok_weaker}
use Rattle.serde_json.specs.View.{view}
use Rattle.page.specs.StateView.{service_of}
use Rattle.page.specs.Shown.{is_meant, told_if, with_new}
use Rattle.page.proofs.Among.{any_map}
use Rattle.page.proofs.state.services.tell_of.Goals as goal

pub returns-then-has_meant : goal.returns-then-has_meant
returns-then-has_meant c =
    let meant = is_meant c.args.current c.args.set c.args.service in
    let d = view c.args.value.now in
    let ss = map service_of c.args.rows.now.items in
    let any : c.has_meant.result ≡ list_any meant ss = c.has_meant.ensures
    ∙ any_map service_of meant c.as_slice.result.now
    ∙ ap (λ rows. list_any meant (map service_of rows)) c.as_slice.ensures.value in
    let is : list_any meant ss ≡ true = sym any ∙ c.if-has_meant.true in
    on_ok_weaker c.tell_each.result (λ told. told ∙ sym
    (ap (λ (b : Bool). cond b (map (told_if c.args.current c.args.set
    c.args.service d) ss) (with_new c.args.set c.args.service d ss)) is)) c.tell_each.ensures

pub returns-else-has_meant : goal.returns-else-has_meant
returns-else-has_meant c =
    let meant = is_meant c.args.current c.args.set c.args.service in
    let d = view c.args.value.now in
    let ss = map service_of c.args.rows.now.items in
    let any : c.has_meant.result ≡ list_any meant ss = c.has_meant.ensures
    ∙ any_map service_of meant c.as_slice.result.now
    ∙ ap (λ rows. list_any meant (map service_of rows)) c.as_slice.ensures.value in
    let is : list_any meant ss ≡ false = sym any ∙ c.if-has_meant.false in
    on_ok_weaker c.tell_new.result (λ told. told ∙ sym (ap (λ (b : Bool). cond b (map (told_if c.args.current c.args.set
    c.args.service d) ss) (with_new c.args.set c.args.service d ss)) is)) c.tell_new.ensures
