-- The image of an encoder tells what is kept of it.
use Rattle.std.proofs.Common.{◌≡◌, ℕ, ◌*◌, List, [], ◌∷◌, ◌++◌, length, flat_map, drop, get_or, Some}
use Rattle.std.proofs.Common.{arith, refl, ap, sym, ◌∙◌, length-append, unwrap_or}
use Rattle.uecp_elements.specs.declared.code.Code.{Code}
use Rattle.uecp_elements.specs.Codes.{byte_of, code_of_byte, IsReadBack}
use Rattle.rds_store.specs.Laws.{IsKnownByPlaces}
use Rattle.store_phrases.specs.Laws.{messages_of}
use Rattle.end_images.specs.Images.{version, encoder_kind, counted, pair_bytes, message_bytes, encoder_content}
use Rattle.state_files.specs.Encoders.{TellsWhatIsKept}
use Rattle.state_files.proofs.Lists.{apart}
use Rattle.state_files.proofs.Sealed.{sealed_same}
use Rattle.state_files.proofs.OneStore.{store_same}

pairs_length : (ring : List (ℕ × Code)) → length (pair_bytes ring) ≡ 2 * length ring
pairs_length [] = refl
pairs_length (pair ∷ older) =
    length-append (pair_bytes older) (pair.0 ∷ byte_of pair.1 ∷ []) ∙ omega (arith, pairs_length older)

code_same : IsReadBack → (c d : Code) → byte_of c ≡ byte_of d → c ≡ d
code_same read_back c d same =
    let both : Some c ≡ Some d = sym (read_back c) ∙ ap code_of_byte same ∙ read_back d in
    ap (λ o. unwrap_or o c) both

pairs_same : IsReadBack → (r s : List (ℕ × Code)) → length r ≡ length s → pair_bytes r ≡ pair_bytes s → r ≡ s
pairs_same read_back [] [] long same = refl
pairs_same read_back [] (q ∷ s) long same = absurd (omega (arith, long))
pairs_same read_back (p ∷ r) [] long same = absurd (omega (arith, long))
pairs_same read_back (p ∷ r) (q ∷ s) long same =
    let shorter : length r ≡ length s = omega (arith, long) in
    let both = apart (pair_bytes r) (pair_bytes s) (p.0 ∷ byte_of p.1 ∷ []) (q.0 ∷ byte_of q.1 ∷ [])
    (pairs_length r ∙ ap (λ n. 2 * n) shorter ∙ sym (pairs_length s)) same in
    let counter : p.0 ≡ q.0 = ap (λ l. get_or l 0 0) both.1 in
    let code : p.1 ≡ q.1 = code_same read_back p.1 q.1 (ap (λ l. get_or l 1 0) both.1) in
    let rest = pairs_same read_back r s shorter both.0 in
    λ i. (counter i, code i) ∷ rest i

messages_same : (ms ns : List (List ℕ)) → flat_map counted ms ≡ flat_map counted ns → ms ≡ ns
messages_same [] [] same = refl
messages_same [] (n ∷ ns) same = absurd (cc)
messages_same (m ∷ ms) [] same = absurd (cc)
messages_same (m ∷ ms) (n ∷ ns) same =
    let both = apart m n (flat_map counted ms) (flat_map counted ns) (ap (λ l. get_or l 0 0) same) (ap (drop 1) same) in
    let rest = messages_same ms ns both.1 in
    λ i. both.0 i ∷ rest i

pub encoders_told : IsReadBack → IsKnownByPlaces → TellsWhatIsKept
encoders_told read_back known d e placed_d placed_e image =
    let same : version ∷ encoder_kind ∷ encoder_content d ≡ version ∷ encoder_kind ∷ encoder_content e =
    sealed_same (version ∷ encoder_kind ∷ encoder_content d) (version ∷ encoder_kind ∷ encoder_content e) image in
    let sets : d.value.sets ≡ e.value.sets = ap (λ b. get_or b 4 0) same in
    let first = apart d.value.services e.value.services
    (length d.ring ∷ (pair_bytes d.ring ++ message_bytes d.value))
    (length e.ring ∷ (pair_bytes e.ring ++ message_bytes e.value))
    (ap (λ b. get_or b 5 0) same) (ap (drop 6) same) in
    let long : length d.ring ≡ length e.ring = ap (λ b. get_or b 0 0) first.1 in
    let second = apart (pair_bytes d.ring) (pair_bytes e.ring) (message_bytes d.value) (message_bytes e.value)
    (pairs_length d.ring ∙ ap (λ n. 2 * n) long ∙ sym (pairs_length e.ring)) (ap (drop 1) first.1) in
    let ring : d.ring ≡ e.ring = pairs_same read_back d.ring e.ring long second.0 in
    let messages : messages_of d.value ≡ messages_of e.value =
    messages_same (messages_of d.value) (messages_of e.value) second.1 in
    let value : d.value ≡ e.value = store_same d.value e.value sets first.0 placed_d placed_e known messages in
    λ i. record { value = value i; ring = ring i }
