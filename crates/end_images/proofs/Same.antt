-- An image says which end it is of.
use Rattle.std.proofs.Common.{◌≡◌, ℕ, List, [], ◌∷◌, ◌++◌, length, map, flat_map, Some}
use Rattle.std.proofs.Common.{refl, ap, sym, subst, ◌∙◌}
use Rattle.uecp_elements.specs.declared.code.Code.{Code}
use Rattle.uecp_elements.specs.Codes.{IsReadBack}
use Rattle.uecp_frame.specs.Findings.{Closed}
use Rattle.rds_store.specs.Value.{Store}
use Rattle.rds_store.specs.Step.{step}
use Rattle.rds_store.specs.Opening.{opening}
use Rattle.reply_ring.specs.Ring.{IsRing}
use Rattle.store_phrases.specs.Laws.{AppliesEach, IsMadeAgain, messages_of}
use Rattle.uecp_encoder.specs.State.{EncoderState, no_counts}
use Rattle.uecp_link.specs.Server.{nothing_counted}
use Rattle.uecp_link.specs.Resuming.{kept_of, held_up_to}
use Rattle.end_images.specs.Images.{version, encoder_kind, server_kind, counted, pair_bytes, message_bytes}
use Rattle.end_images.specs.Images.{encoder_content, server_content}
use Rattle.end_images.specs.Reading.{IsEncoder}
use Rattle.end_images.specs.Parsing.{split_off, pairs_kept, Tells, encoder_parts, says_encoder, EncoderSays, kept_each}
use Rattle.end_images.specs.Parsing.{server_parts, ServerSays}
use Rattle.end_images.specs.Laws.{SaysEncoder, SaysServer}
use Rattle.end_images.proofs.Apart.{split_whole, parts_back, some_same}
use Rattle.end_images.proofs.Pairs.{pairs_back}
use Rattle.end_images.proofs.Sealed.{sealed_same}
use Rattle.end_images.proofs.Telling.{halves, first_of, rest_of}
use Rattle.end_images.proofs.Servers.{each_back, server_back, says_server, is_flagged, flagged}

-- ---- Messages.

-- What is told by the same bytes is the same store.
told_same : (v x y : Store) (ms ns : List (List ℕ)) → flat_map counted ms ≡ flat_map counted ns
    → AppliesEach v ms x → AppliesEach v ns y → x ≡ y
told_same v x y [] [] same first second = first ∙ sym second
told_same v x y [] (n ∷ ns) same first second = cc
told_same v x y (m ∷ ms) [] same first second = cc
told_same v x y (m ∷ ms) (n ∷ ns) same first second =
    let long : length m ≡ length n = ap first_of same in
    let rest : m ++ flat_map counted ms ≡ n ++ flat_map counted ns = ap rest_of same in
    let both : Some (m, flat_map counted ms) ≡ Some (n, flat_map counted ns) =
    sym (split_whole m (flat_map counted ms)) ∙ ap (λ k. split_off k (m ++ flat_map counted ms)) long
    ∙ ap (split_off (length n)) rest ∙ split_whole n (flat_map counted ns) in
    let message : n ≡ m = ap (λ o. (halves o).0) (sym both) in
    let others : flat_map counted ms ≡ flat_map counted ns = ap (λ o. (halves o).1) both in
    told_same (step v m).0 x y ms ns others first.1
    (subst (λ (k : List ℕ). AppliesEach (step v k).0 ns y) message second.1)

pub one_told : (v x y : Store) (bytes : List ℕ) → Tells v bytes x → Tells v bytes y → x ≡ y
one_told v x y bytes first second =
    told_same v x y first.0 second.0 (sym first.1 ∙ second.1) first.2 second.2

pub tells_itself : IsMadeAgain → (e : EncoderState Store) → IsEncoder e
    → Tells (opening e.value.sets e.value.services) (message_bytes e.value) e.value
tells_itself remade e is = (messages_of e.value, refl, remade e.value is.store.station is.store.opens)

-- ---- Encoders.

pub same_rings : IsReadBack → (r s : List (ℕ × Code)) → IsRing r → IsRing s → pair_bytes r ≡ pair_bytes s → r ≡ s
same_rings read_back r s is_r is_s same =
    some_same r s (sym (pairs_back read_back r is_r) ∙ ap (pairs_kept []) same ∙ pairs_back read_back s is_s)

pub encoders_same : IsReadBack → IsMadeAgain → SaysEncoder
encoders_same read_back remade d e is_d is_e same =
    let content : encoder_content d ≡ encoder_content e =
    ap (λ b. rest_of (rest_of b))
    (sealed_same (version ∷ encoder_kind ∷ encoder_content d) (version ∷ encoder_kind ∷ encoder_content e) same) in
    let says : says_encoder d ≡ says_encoder e =
    some_same (says_encoder d) (says_encoder e) (sym (parts_back d) ∙ ap encoder_parts content ∙ parts_back e) in
    let address : d.address ≡ e.address = ap (λ (s : EncoderSays). s.address) says in
    let ring : d.ring ≡ e.ring =
    same_rings read_back d.ring e.ring is_d.ring is_e.ring (ap (λ (s : EncoderSays). s.pairs) says) in
    let told : Tells (opening e.value.sets e.value.services) (message_bytes e.value) d.value =
    subst (λ (s : EncoderSays). Tells (opening s.sets s.services) s.messages d.value) says
    (tells_itself remade d is_d) in
    let value : d.value ≡ e.value =
    one_told (opening e.value.sets e.value.services) d.value e.value (message_bytes e.value) told
    (tells_itself remade e is_e) in
    λ i. record { address = address i; value = value i; ring = ring i; counts = no_counts; part = Closed }

-- ---- Servers.

pub servers_same : SaysServer
servers_same j k is_j is_k same =
    let content : server_content j.joined j.taken j.server ≡ server_content k.joined k.taken k.server =
    ap (λ b. rest_of (rest_of b))
    (sealed_same (version ∷ server_kind ∷ server_content j.joined j.taken j.server)
    (version ∷ server_kind ∷ server_content k.joined k.taken k.server) same) in
    let says : says_server j.joined j.taken j.server ≡ says_server k.joined k.taken k.server =
    some_same (says_server j.joined j.taken j.server) (says_server k.joined k.taken k.server)
    (sym (server_back j.joined j.taken j.server is_j.taken) ∙ ap server_parts content
    ∙ server_back k.joined k.taken k.server is_k.taken) in
    let joined : j.joined ≡ k.joined =
    sym (flagged j.joined) ∙ ap (λ (s : ServerSays). is_flagged s.joined) says ∙ flagged k.joined in
    let taken : j.taken ≡ k.taken = ap (λ (s : ServerSays). s.taken) says in
    let address : j.server.address ≡ k.server.address = ap (λ (s : ServerSays). s.address) says in
    let last : j.server.last ≡ k.server.last = ap (λ (s : ServerSays). s.last) says in
    let messages : map kept_of j.server.held ≡ map kept_of k.server.held =
    some_same (map kept_of j.server.held) (map kept_of k.server.held)
    (sym (each_back j.server.held) ∙ ap (λ (s : ServerSays). kept_each s.count s.messages) says
    ∙ each_back k.server.held) in
    let held : j.server.held ≡ k.server.held =
    is_j.server.in_turn ∙ (λ i. held_up_to (last i) (messages i)) ∙ sym is_k.server.in_turn in
    λ i. record {
      joined = joined i;
      taken = taken i;
      server = record {
        address = address i;
        last = last i;
        held = held i;
        counts = nothing_counted;
        part = Closed;
      };
    }
