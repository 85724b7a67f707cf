use Rattle.std.proofs.Common.{◌≡◌, ℕ, Some, None, refl, sym, subst}
use Rattle.uecp_link.specs.Server.{ServerState, idle_at}
use Rattle.end_images.specs.Images.{server_image}
use Rattle.state_files.proofs.server_opening.opened_server.Goals as goal

is_new : (address : ℕ) (s : ServerState) → s ≡ idle_at address → s ≡ idle_at s.address
is_new address s is = subst (λ (x : ServerState). x ≡ idle_at x.address) (sym is) refl

pub returns-in-Ok-server_over-clause-given : goal.returns-in-Ok-server_over-clause-given
returns-in-Ok-server_over-clause-given g c =
    let over = c.in-Ok-server_over.ensures in
    record {
      found = λ was is held clean. over.found was is
          (c.in-Ok.ensures.found (Some (server_image was.joined was.taken was.server)) held (over.clean clean));
      new = λ held clean. (
          let (server, progress) = over.new (c.in-Ok.ensures.found None held (over.clean clean)) in
          (is_new c.args.address _ server, progress));
      kept = over.kept;
    }
