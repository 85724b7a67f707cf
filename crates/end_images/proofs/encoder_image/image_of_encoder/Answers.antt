use Rattle.std.proofs.Common.{◌∷◌, ◌++◌, ap, ◌∙◌}
use Rattle.end_images.specs.Images.{version, encoder_kind, encoder_content, sealed}
use Rattle.end_images.proofs.encoder_image.image_of_encoder.Goals as goal

pub returns : goal.returns
returns c = λ whole.
    let all = c.seal.ensures whole in
    let added = c.add_encoder.ensures all.0 in
    all.1 ∙ ap sealed (added.1 ∙ ap (λ b. b ++ (version ∷ encoder_kind ∷ encoder_content c.args.encoder.now))
    c.new-image.ensures.empty)
