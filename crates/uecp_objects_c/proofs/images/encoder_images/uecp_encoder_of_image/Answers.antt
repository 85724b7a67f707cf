use Rattle.std.proofs.Common.{◌≡◌, Option, Some, None, sym, subst, inl, refl, rules}
use Rattle.c_values.specs.declared.object.Object.{Object}
use Rattle.c_values.specs.declared.object.Object.TheVariants.{Encoder}
use Rattle.uecp_objects_c.specs.Images.{ReadsEncoder}
use Rattle.uecp_objects_c.proofs.images.encoder_images.uecp_encoder_of_image.Goals as goal

-- the handle had nothing, and has the encoder that was read
pub returns-in-Ok-new-clause-read : goal.returns-in-Ok-new-clause-read
returns-in-Ok-new-clause-read c =
    let none : c.args.handle.now.object.value ≡ None = search rules in
    let there : c.put-in-Ok-new.new.handle.object.value ≡ Some (Encoder c.in-Ok.encoder) = search rules in
    let read = c.in-Ok.ensures.read in
    subst (λ (old : Option Object). ReadsEncoder old c.put-in-Ok-new.new.handle.object.value c.args.bytes.now 0)
    (sym none) (inl (c.in-Ok.encoder, refl, there, read.0, read.1))
