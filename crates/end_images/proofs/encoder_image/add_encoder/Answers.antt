use Rattle.std.proofs.Common.{List, ℕ, [], ◌∷◌, ◌++◌, flat_map, length, ap, ◌∙◌}
use Rattle.uecp_elements.specs.Grammar.{spelling}
use Rattle.uecp_frame.specs.Frame.{high_first}
use Rattle.rds_store.specs.Value.{Store}
use Rattle.store_phrases.specs.Said.{said_of}
use Rattle.uecp_text.proofs.Public.{adds_then}
use Rattle.end_images.specs.Images.{version, encoder_kind, counted, pair_bytes}
use Rattle.end_images.proofs.Writing.{encoder_laid}
use Rattle.end_images.proofs.encoder_image.add_encoder.Goals as goal

pub returns : goal.returns
returns c =
    let e = c.args.encoder.now in
    let v = c.target-store.result.now in
    let first = c.args.image.now in
    let last = c.put_elements.new.output in
    let told : List ℕ = flat_map (λ x. counted (spelling x)) (said_of v) in
    let kept : List ℕ = pair_bytes c.kept-2.result.now in
    let count : List ℕ = c.len.result ∷ [] in
    let services : List ℕ = counted c.as_slice.result.now in
    let sets : List ℕ = c.set_count.result ∷ [] in
    let address : List ℕ = high_first c.address.result in
    let a6 = adds_then c.add-3.new.self c.add_pairs.new.image last kept told c.add_pairs.ensures
    c.put_elements.ensures in
    let a5 = adds_then c.add_counted.new.self c.add-3.new.self last count (kept ++ told) c.add-3.ensures a6 in
    let a4 = adds_then c.add-2.new.self c.add_counted.new.self last services (count ++ (kept ++ told))
    c.add_counted.ensures a5 in
    let a3 = adds_then c.add_address.new.self c.add-2.new.self last sets (services ++ (count ++ (kept ++ told)))
    c.add-2.ensures a4 in
    let a2 = adds_then c.add.new.self c.add_address.new.self last address
    (sets ++ (services ++ (count ++ (kept ++ told)))) c.add_address.ensures a3 in
    let a1 = adds_then first c.add.new.self last (version ∷ encoder_kind ∷ [])
    (address ++ (sets ++ (services ++ (count ++ (kept ++ told))))) c.add.ensures a2 in
    let laid = encoder_laid e c.address.result c.set_count.result c.len.result c.as_slice.result.now c.kept-2.result.now
    v
    c.address.ensures (c.set_count.ensures.value ∙ ap (λ (s : Store). s.sets) c.target-store.ensures)
    (c.as_slice.ensures.value ∙ c.services_of.ensures ∙ ap (λ (s : Store). s.services) c.target-store.ensures)
    (c.len.ensures.value ∙ ap (λ r. length r) c.kept.ensures) c.kept-2.ensures c.target-store.ensures in
    λ whole. let all = a1 whole in (all.0, all.1 ∙ ap (λ b. first.bytes ++ b) laid)
