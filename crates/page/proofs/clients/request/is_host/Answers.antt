use Rattle.std.proofs.Common.{◌≡◌, true, ◌&&◌, length, drop, ◌∙◌, ap, sym}
use Rattle.std.specs.List.{starts_with}
use Rattle.std.specs.Prelude.{nat_eq}
use Rattle.std.proofs.lemmas.List.{take_rest}
use Rattle.page.specs.Asking.{is_port}
use Rattle.page.proofs.clients.request.is_host.Goals as goal

pub returns-then-starts_with : goal.returns-then-starts_with
returns-then-starts_with c =
    let begins : starts_with nat_eq c.args.host.now c.args.name.now ≡ true =
    sym c.starts_with.ensures.value ∙ c.if-starts_with.true in
    c.is_port.ensures ∙ ap is_port (take_rest c.args.host.now (length c.args.name.now))
    ∙ ap (λ b. b && is_port (drop (length c.args.name.now) c.args.host.now)) (sym begins)
