use Rattle.std.proofs.Common.{◌≡◌, ◌∷◌, refl, ap, sym, subst, ◌∙◌}
use Rattle.uecp_encoder.specs.State.{restarted}
use Rattle.end_images.specs.Images.{version, encoder_kind, server_kind, encoder_content, encoder_image}
use Rattle.end_images.specs.Reading.{GivesBack}
use Rattle.end_images.proofs.Sealed.{content_same}
use Rattle.end_images.proofs.Unread.{unread, encoder_told}
use Rattle.end_images.proofs.encoder_parts.read_encoder.Goals as goal

pub returns-in-Err-clause-read : goal.returns-in-Err-clause-read
returns-in-Err-clause-read c = c.in-Err.ensures.fault.0

pub returns-in-Err-clause-complete : goal.returns-in-Err-clause-complete
returns-in-Err-clause-complete c = λ e is image. absurd (c.in-Err.ensures.fault.1 (record {
  body = version ∷ encoder_kind ∷ encoder_content e;
  is_sealed = image;
  headed = refl;
}))

pub returns-in-Err-encoder_in-clause-read : goal.returns-in-Err-encoder_in-clause-read
returns-in-Err-encoder_in-clause-read c =
    unread encoder_kind server_kind c.args.bytes.now c.in-Ok.content.now c.in-Err-encoder_in.fault refl refl
    c.in-Ok.ensures.content c.in-Err-encoder_in.ensures.fault

pub returns-in-Err-encoder_in-clause-complete : goal.returns-in-Err-encoder_in-clause-complete
returns-in-Err-encoder_in-clause-complete c = λ e is image.
    c.in-Err-encoder_in.ensures.complete e is
    (content_same encoder_kind c.args.bytes.now c.in-Ok.content.now (encoder_content e) c.in-Ok.ensures.content image)

pub returns-in-Ok-encoder_in-clause-read : goal.returns-in-Ok-encoder_in-clause-read
returns-in-Ok-encoder_in-clause-read c =
    encoder_told c.checked.result c.in-Ok-encoder_in.encoder c.args.bytes.now c.in-Ok.content.now
    c.in-Ok.ensures.content c.checked.ensures.same c.checked.ensures.image c.checked.ensures.fault
    c.in-Ok-encoder_in.ensures.started

pub returns-in-Ok-encoder_in-clause-complete : goal.returns-in-Ok-encoder_in-clause-complete
returns-in-Ok-encoder_in-clause-complete c = λ e is image.
    let content = content_same encoder_kind c.args.bytes.now c.in-Ok.content.now (encoder_content e)
    c.in-Ok.ensures.content image in
    let same : c.in-Ok-encoder_in.encoder ≡ restarted e = c.in-Ok-encoder_in.ensures.complete e is content in
    subst (GivesBack c.checked.result) same (c.checked.ensures.complete (image ∙ ap encoder_image (sym same)))
