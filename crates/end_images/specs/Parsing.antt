-- How the content of an image comes apart; for proofs alone. Source: profile.
use Rattle.std.specs.Prelude.{◌≡◌, ℕ, zero, suc, ◌+◌, ◌*◌, ◌==◌, nat_lt, if◌then◌else◌, Bool, List, [], ◌∷◌}
use Rattle.std.specs.Prelude.{length, take, drop, flat_map, Option, Some, None, Result, Ok, Err}
use Rattle.std.specs.Option.{option_map, option_and_then}
use Rattle.std.specs.Borrow.{Bor}
use Rattle.std.specs.Int.{w64, from_be_bytes}
use Rattle.uecp_frame.specs.Address.{is_exact}
use Rattle.uecp_elements.specs.declared.code.Code.{Code}
use Rattle.uecp_elements.specs.Codes.{code_of_byte}
use Rattle.rds_store.specs.Value.{Store}
use Rattle.reply_ring.specs.Ring.{kept_code, keep, IsRing}
use Rattle.uecp_encoder.specs.State.{EncoderState, restarted}
use Rattle.store_phrases.specs.Laws.{AppliesEach}
use Rattle.uecp_link.specs.declared.kept_message.KeptMessage.{KeptMessage}
use Rattle.end_images.specs.declared.encoder_parts.EncoderParts.{EncoderParts}
use Rattle.end_images.specs.declared.server_parts.ServerParts.{ServerParts}
use Rattle.end_images.specs.declared.server_parts.KeptServer.{KeptServer}
use Rattle.end_images.specs.declared.fault.ImageFault.{ImageFault}
use Rattle.end_images.specs.declared.fault.ImageFault.TheVariants.{Newer, OtherEnd, Damaged, OutOfMemory}
use Rattle.end_images.specs.Reading.{IsEncoder, IsKeptServer, restarted_kept}
use Rattle.end_images.specs.Images.{counted, pair_bytes, message_bytes}

-- ---- Bytes and what is behind them.

abbrev pub halves_of : Bor (List ℕ) × Bor (List ℕ) → List ℕ × List ℕ
halves_of p = (p.0.now, p.1.now)

-- So many bytes, and those behind them; none where there are fewer.
unfoldable pub split_off : ℕ → List ℕ → Option (List ℕ × List ℕ)
split_off count bytes = if nat_lt (length bytes) count then None else Some (take count bytes, drop count bytes)

-- A value that is one encoder's own address.
abbrev pub exact_of : ℕ → Option ℕ
exact_of value = if is_exact value then Some value else None

-- ---- An encoder.

-- What an encoder's content says, part by part.
pub record EncoderSays : Type 0 where
  pub address : ℕ
  pub sets : ℕ
  pub services : List ℕ
  pub pairs : List ℕ
  pub messages : List ℕ

abbrev pub encoder_says : EncoderParts → EncoderSays
encoder_says p = record {
  address = p.address;
  sets = p.sets;
  services = p.services.now;
  pairs = p.pairs.now;
  messages = p.messages.now;
}

abbrev pub with_messages : (address sets : ℕ) → (services : List ℕ) → Option (List ℕ × List ℕ) → Option EncoderSays
with_messages address sets services None = None
with_messages address sets services (Some halves) = Some (record {
  address = address;
  sets = sets;
  services = services;
  pairs = halves.0;
  messages = halves.1;
})

abbrev pub with_pairs : (address sets : ℕ) → Option (List ℕ × List ℕ) → Option EncoderSays
with_pairs address sets None = None
with_pairs address sets (Some (services, [])) = None
with_pairs address sets (Some (services, count ∷ rest)) =
    with_messages address sets services (split_off (2 * count) rest)

abbrev pub encoder_parts : List ℕ → Option EncoderSays
encoder_parts (high ∷ low ∷ sets ∷ count ∷ rest) = with_pairs (high * 256 + low) sets (split_off count rest)
encoder_parts _ = None

-- What the content of an encoder's image says.
abbrev pub says_encoder : EncoderState Store → EncoderSays
says_encoder e = record {
  address = e.address;
  sets = e.value.sets;
  services = e.value.services;
  pairs = pair_bytes e.ring;
  messages = message_bytes e.value;
}

-- These parts say a store.
pub record SaysStore (sets : ℕ) (services messages : List ℕ) (v : Store) : Type 0 where
  pub sets_are : sets ≡ v.sets
  pub services_are : services ≡ v.services
  pub messages_are : messages ≡ message_bytes v

-- An encoder as a start leaves it.
pub record IsAsStarted (e : EncoderState Store) : Type 0 where
  pub started : e ≡ restarted e
  pub encoder : IsEncoder e

-- Why no end was made of content.
abbrev pub IsUnread : ImageFault → Type 0
IsUnread Damaged = Unit {0}
IsUnread OutOfMemory = Unit {0}
IsUnread OtherEnd = ⊥
IsUnread (Newer v) = ⊥

-- The ring once a counter with a code's byte is kept; none where it can't be.
abbrev pub kept_with : List (ℕ × Code) → ℕ → (held code : Option Code) → Option (List (ℕ × Code))
kept_with ring counter None (Some code) = Some (keep ring counter code)
kept_with ring counter _ _ = None

abbrev pub pair_kept : List (ℕ × Code) → (counter byte : ℕ) → Option (List (ℕ × Code))
pair_kept ring counter byte =
    if counter == 0 then None else kept_with ring counter (kept_code ring counter) (code_of_byte byte)

-- The ring once these pairs are kept in turn.
abbrev pub pairs_kept : List (ℕ × Code) → List ℕ → Option (List (ℕ × Code))
pairs_kept ring [] = Some ring
pairs_kept ring (counter ∷ []) = None
pairs_kept ring (counter ∷ byte ∷ rest) = option_and_then (λ more. pairs_kept more rest) (pair_kept ring counter byte)

-- What making a ring of pairs answers.
abbrev pub RingRead : List ℕ → Result (List (ℕ × Code)) ImageFault → Type 0
RingRead pairs (Ok ring) = (pairs_kept [] pairs ≡ Some ring) × IsRing ring
RingRead pairs (Err Damaged) = pairs_kept [] pairs ≡ None
RingRead pairs (Err OutOfMemory) = Unit {0}
RingRead pairs (Err OtherEnd) = ⊥
RingRead pairs (Err (Newer v)) = ⊥

-- These bytes are messages, each behind its length, which a store takes in turn, and which leave that store.
abbrev pub Tells : Store → List ℕ → (after : Store) → Type 0
Tells v bytes after = (ms : List (List ℕ)) × (bytes ≡ flat_map counted ms) × AppliesEach v ms after

-- ---- A server.

-- What a server's content says, part by part.
pub record ServerSays : Type 0 where
  pub address : ℕ
  pub joined : ℕ
  pub taken : ℕ
  pub last : ℕ
  pub count : ℕ
  pub messages : List ℕ

abbrev pub server_says : ServerParts → ServerSays
server_says p = record {
  address = p.address;
  joined = p.joined;
  taken = p.taken;
  last = p.last;
  count = p.count;
  messages = p.messages.now;
}

abbrev pub server_parts : List ℕ → Option ServerSays
server_parts (high ∷ low ∷ joined ∷ a ∷ b ∷ c ∷ d ∷ e ∷ f ∷ g ∷ h ∷ last ∷ count ∷ rest) = Some (record {
  address = high * 256 + low;
  joined = joined;
  taken = from_be_bytes w64 (a ∷ b ∷ c ∷ d ∷ e ∷ f ∷ g ∷ h ∷ []);
  last = last;
  count = count;
  messages = rest;
})
server_parts _ = None

abbrev pub kept_first_of : KeptMessage × Bor (List ℕ) → KeptMessage × List ℕ
kept_first_of p = (p.0, p.1.now)

abbrev pub with_mark : Bool → List ℕ × List ℕ → KeptMessage × List ℕ
with_mark marked halves = (record { message = halves.0; marked = marked }, halves.1)

-- The first message, and what is behind it.
unfoldable pub kept_first : List ℕ → Option (KeptMessage × List ℕ)
kept_first (mark ∷ count ∷ rest) =
    if nat_lt 1 mark then None else option_map (with_mark (mark == 1)) (split_off count rest)
kept_first _ = None

-- So many messages.
abbrev pub kept_each : ℕ → List ℕ → Option (List KeptMessage)
kept_each zero bytes = Some []
kept_each (suc n) bytes =
    option_and_then (λ first. option_map (λ ms. first.0 ∷ ms) (kept_each n first.1)) (kept_first bytes)

-- At most eight messages.
abbrev pub kept_few : ℕ → List ℕ → Option (List KeptMessage)
kept_few count bytes = if nat_lt 8 count then None else kept_each count bytes

-- A server as a start leaves it.
pub record IsServerAsStarted (k : KeptServer) : Type 0 where
  pub started : k ≡ restarted_kept k
  pub server : IsKeptServer k
