-- What is added part by part is the image.
use Rattle.std.proofs.Common.{◌≡◌, ℕ, Bool, List, [], ◌∷◌, ◌++◌, length, map, flat_map, refl, ap, ◌∙◌}
use Rattle.std.specs.Int.{w64, to_be_bytes}
use Rattle.uecp_elements.specs.declared.code.Code.{Code}
use Rattle.uecp_elements.specs.Grammar.{Element, spelling}
use Rattle.uecp_frame.specs.Frame.{high_first}
use Rattle.rds_store.specs.Value.{Store}
use Rattle.store_phrases.specs.Said.{said_of}
use Rattle.uecp_encoder.specs.State.{EncoderState}
use Rattle.uecp_link.specs.Server.{ServerState}
use Rattle.end_images.specs.Images.{version, encoder_kind, server_kind, counted, flag, pair_bytes, message_bytes}
use Rattle.end_images.specs.Images.{held_bytes, encoder_content, server_content}

counted_each : (es : List Element) → flat_map (λ e. counted (spelling e)) es ≡ flat_map counted (map spelling es)
counted_each [] = refl
counted_each (e ∷ es) = ap (λ b. counted (spelling e) ++ b) (counted_each es)

pub encoder_laid : (e : EncoderState Store) (address sets count : ℕ) (services : List ℕ) (ring : List (ℕ × Code))
    (v : Store) → address ≡ e.address → sets ≡ e.value.sets → services ≡ e.value.services → count ≡ length e.ring
    → ring ≡ e.ring → v ≡ e.value
    → version ∷ encoder_kind ∷ (high_first address ++ (sets ∷ (counted services ++ (count ∷ (pair_bytes ring
    ++ flat_map (λ x. counted (spelling x)) (said_of v))))))
    ≡ version ∷ encoder_kind ∷ encoder_content e
encoder_laid e address sets count services ring v a s n k r w =
    let told : flat_map (λ x. counted (spelling x)) (said_of v) ≡ message_bytes e.value =
    counted_each (said_of v) ∙ ap message_bytes w in
    λ i. version ∷ encoder_kind
    ∷ (high_first (a i) ++ (s i ∷ (counted (n i) ++ (k i ∷ (pair_bytes (r i) ++ told i)))))

pub server_laid : (s : ServerState) (joined : Bool) (taken address mark last count : ℕ) (number : List ℕ)
    → address ≡ s.address → mark ≡ flag joined → number ≡ to_be_bytes w64 taken → last ≡ s.last → count ≡ length s.held
    → version ∷ server_kind ∷ (high_first address ++ (mark ∷ (number ++ (last ∷ count ∷ flat_map held_bytes s.held))))
    ≡ version ∷ server_kind ∷ server_content joined taken s
server_laid s joined taken address mark last count number a m n l k =
    λ i. version ∷ server_kind
    ∷ (high_first (a i) ++ (m i ∷ (n i ++ (l i ∷ k i ∷ flat_map held_bytes s.held))))
