use Rattle.std.proofs.Common.{List, ℕ, [], ◌∷◌, ◌++◌, flat_map, ap, ◌∙◌}
use Rattle.uecp_frame.specs.Frame.{high_first}
use Rattle.uecp_text.proofs.Public.{adds_then}
use Rattle.end_images.specs.Images.{version, server_kind, held_bytes}
use Rattle.end_images.proofs.Writing.{server_laid}
use Rattle.end_images.proofs.server_image.add_server.Goals as goal

pub returns : goal.returns
returns c =
    let s = c.args.server.now in
    let first = c.args.image.now in
    let last = c.add_held.new.image in
    let held : List ℕ = flat_map held_bytes s.held in
    let counts : List ℕ = c.last.result ∷ c.held_count.result ∷ [] in
    let number : List ℕ = c.to_be_bytes.result in
    let mark : List ℕ = c.flag.result ∷ [] in
    let address : List ℕ = high_first c.address.result in
    let a5 = adds_then c.add-3.new.self c.add-4.new.self last counts held c.add-4.ensures c.add_held.ensures in
    let a4 = adds_then c.add-2.new.self c.add-3.new.self last number (counts ++ held) c.add-3.ensures a5 in
    let a3 = adds_then c.add_address.new.self c.add-2.new.self last mark (number ++ (counts ++ held)) c.add-2.ensures a4
    in
    let a2 = adds_then c.add.new.self c.add_address.new.self last address (mark ++ (number ++ (counts ++ held)))
    c.add_address.ensures a3 in
    let a1 = adds_then first c.add.new.self last (version ∷ server_kind ∷ [])
    (address ++ (mark ++ (number ++ (counts ++ held)))) c.add.ensures a2 in
    let laid = server_laid s c.args.joined c.args.taken c.address.result c.flag.result c.last.result c.held_count.result
    number c.address.ensures c.flag.ensures c.to_be_bytes.ensures c.last.ensures.value c.held_count.ensures.value in
    λ whole. let all = a1 whole in (all.0, all.1 ∙ ap (λ b. first.bytes ++ b) laid)
