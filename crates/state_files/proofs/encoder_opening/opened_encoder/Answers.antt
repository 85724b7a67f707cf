use Rattle.std.proofs.Common.{◌≡◌, ℕ, List, Some, None, refl, sym, subst}
use Rattle.rds_store.specs.Value.{Store}
use Rattle.rds_store.specs.Opening as stores
use Rattle.uecp_encoder.specs.State.{EncoderState, opening}
use Rattle.end_images.specs.Images.{encoder_image}
use Rattle.state_files.proofs.encoder_opening.opened_encoder.Goals as goal

is_new : (address sets : ℕ) (services : List ℕ) (e : EncoderState Store)
    → e ≡ opening address (stores.opening sets services)
    → e ≡ opening e.address (stores.opening e.value.sets e.value.services)
is_new address sets services e is =
    subst (λ (x : EncoderState Store). x ≡ opening x.address (stores.opening x.value.sets x.value.services)) (sym is)
    refl

pub returns-in-Ok-encoder_over-clause-given : goal.returns-in-Ok-encoder_over-clause-given
returns-in-Ok-encoder_over-clause-given g c =
    let over = c.in-Ok-encoder_over.ensures in
    record {
      found = λ was is held clean. over.found was is
          (c.in-Ok.ensures.found (Some (encoder_image was)) held (over.clean clean));
      new = λ held clean. is_new c.args.address c.args.sets c.args.services.now _
          (over.new (c.in-Ok.ensures.found None held (over.clean clean)));
      kept = over.kept;
    }
