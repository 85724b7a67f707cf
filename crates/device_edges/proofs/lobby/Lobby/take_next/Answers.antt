use Rattle.std.proofs.Common.{◌<◌, ℕ, sym, subst, IfSome, Option, length}
use Rattle.device_edges.proofs.Lobbies.{next_found}
use Rattle.device_edges.proofs.lobby.Lobby.take_next.Goals as goal

pub take_at-requires : goal.take_at-requires
take_at-requires g c =
    subst (λ (o : Option ℕ). IfSome o (λ i. i < length c.args.self.now)) (sym c.next_place-place.ensures)
    (next_found c.args.self.now)
