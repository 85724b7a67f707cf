use Rattle.std.proofs.Common.{rules, arith, ◌<◌, ◌∙◌, ℕ, sym, ap, subst, IfSome, Option, length}
use Rattle.device_edges.specs.Lobby.{arrived, without}
use Rattle.device_edges.proofs.Lobbies.{silent_found, joins_others, joins_for_one}
use Rattle.device_edges.proofs.lobby.Lobby.join.Goals as goal
use Rattle.device_edges.proofs.lobby.Lobby.join.Goals.{then-len-lt-GUESTS_MAX, else-len-lt-GUESTS_MAX}

pub take_at-gone-requires : goal.take_at-gone-requires
take_at-gone-requires g c =
    subst (λ (o : Option ℕ). IfSome o (λ i. i < length c.args.self.now)) (sym c.silent_place-place.ensures)
    (silent_found c.args.self.now)

pub returns : goal.returns
returns g c =
    let before = c.args.self.now in
    let one = arrived c.args.line c.args.now in
    let between = c.self-2.inside.guests.items in
    record {
      joins = c.push_reserved.ensures.items ∙ elim c.if-len-lt-GUESTS_MAX.branch [
        | then-len-lt-GUESTS_MAX w ↦ joins_others before between one (grind (arith, rules))
            (c.self-2.view_is ∙ w.self-is)
        | else-len-lt-GUESTS_MAX w ↦ joins_for_one before between one (grind (arith, rules))
            (c.self-2.view_is ∙ w.self-is ∙ w.take_at-gone.ensures.rest
            ∙ ap (λ (o : Option ℕ). without o before) w.silent_place-place.ensures)
      ];
    }
