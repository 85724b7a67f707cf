use Rattle.std.proofs.Common.{◌∷◌, ◌++◌, ap, ◌∙◌}
use Rattle.end_images.specs.Images.{version, server_kind, server_content, sealed}
use Rattle.end_images.proofs.server_image.image_of_server.Goals as goal

pub returns : goal.returns
returns c = λ whole.
    let all = c.seal.ensures whole in
    let added = c.add_server.ensures all.0 in
    all.1 ∙ ap sealed (added.1 ∙ ap
    (λ b. b ++ (version ∷ server_kind ∷ server_content c.args.joined c.args.taken c.args.server.now))
    c.new-image.ensures.empty)
