use Rattle.std.proofs.Common.{rules, ◌≡◌, ◌<◌, sym, subst, IfSome, Option, Some, ℕ, List, length, slice_index_or}
use Rattle.std.specs.Prelude.{remove}
use Rattle.device_edges.specs.declared.lobby.Guest.{Guest}
use Rattle.device_edges.specs.Lobby.{TakesFrom, without}
use Rattle.device_edges.proofs.Lobbies.{takes}
use Rattle.device_edges.proofs.lobby.Lobby.take_at.Goals as goal

pub returns-clause-takes : goal.returns-clause-takes
returns-clause-takes g c =
    let place = c.in_ok-place.field-0 in
    let guest = c.remove-line.result in
    let after = c.remove-line.new.self.items in
    let is : c.args.place ≡ Some place = search rules in
    let few = subst (λ (o : Option ℕ). IfSome o (λ i. i < length c.args.self.now)) is c.requires in
    let value = subst (λ (xs : List (Guest g.row.G.Denot)). guest ≡ slice_index_or xs place guest) c.self.view_is
    c.remove-line.ensures.value in
    let rest = subst (λ (xs : List (Guest g.row.G.Denot)). after ≡ remove xs place) c.self.view_is
    c.remove-line.ensures.items in
    subst (λ (o : Option ℕ). TakesFrom o c.args.self.now (Some guest.line) after) (sym is)
    (takes place c.args.self.now after guest few value rest)

pub returns-clause-rest : goal.returns-clause-rest
returns-clause-rest g c =
    let place = c.in_ok-place.field-0 in
    let after = c.remove-line.new.self.items in
    let is : c.args.place ≡ Some place = search rules in
    let rest = subst (λ (xs : List (Guest g.row.G.Denot)). after ≡ remove xs place) c.self.view_is
    c.remove-line.ensures.items in
    subst (λ (o : Option ℕ). after ≡ without o c.args.self.now) (sym is) rest
