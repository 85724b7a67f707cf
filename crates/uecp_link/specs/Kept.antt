-- What holds of a line at every moment, by how many numbers were applied and acknowledged; for proofs alone, but for
-- `Hears`. Source: profile.
use Rattle.std.specs.Prelude.{ℕ, zero, suc, ◌≡◌, ◌⊎◌, ◌+◌, ◌<◌, ◌≤◌, nat_lt, Bool, true, false, List, [], ◌∷◌, length}
use Rattle.std.specs.Prelude.{map, take, Option, is_some, unwrap_or}
use Rattle.uecp_elements.specs.declared.code.Code.{Code}
use Rattle.uecp_elements.specs.declared.code.Code.TheVariants.{Applied}
use Rattle.uecp_frame.specs.Findings.{is_quiet, open_part}
use Rattle.uecp_encoder.specs.State.{EncoderState}
use Rattle.uecp_encoder.specs.Joining.{falling}
use Rattle.uecp_link.specs.Counters.{counter_of}
use Rattle.uecp_link.specs.Server.{ServerState, Held}
use Rattle.uecp_link.specs.Once.{Once, message_at}

-- What an encoder may keep when a line begins: nothing, as a new one does, or the replies to FF, FE .. 81, the newest
-- first, as one that has joined does. A reader has to believe it.
abbrev pub IsReady : List (ℕ × Code) → Type 0
IsReady base = (base ≡ []) ⊎ (map (λ pair. pair.0) base ≡ falling 0xFF 127)

-- The pairs of counter and code of all numbers below p, the newest first, and behind them those that were kept when the
-- line began.
abbrev pub pairs : List (ℕ × Code) → (ℕ → Code) → ℕ → List (ℕ × Code)
pairs base c zero = base
pairs base c (suc p) = (counter_of p, c p) ∷ pairs base c p

-- The server's last counter after n messages.
abbrev pub last_counter : ℕ → ℕ
last_counter zero = 0
last_counter (suc k) = counter_of k

-- The code of a number, where it has one.
abbrev pub code_at : (ℕ → Option Code) → ℕ → Code
code_at codes k = unwrap_or (codes k) Applied

-- A message has at most 255 bytes.
abbrev pub IsMessage : List ℕ → Type 0
IsMessage m = length m ≤ 255

-- Where an encoder is, but for its counts and its open part.
pub record EncoderIs {V : Type 0} (e : EncoderState V) (a : ℕ) (v : V) (r : List (ℕ × Code)) : Type 0 where
  pub address : e.address ≡ a
  pub value : e.value ≡ v
  pub ring : e.ring ≡ r

-- The message of a number as a server holds it: under its counter, marked where the number is acknowledged.
abbrev pub held_number : List (List ℕ) → (ℕ → Bool) → ℕ → Held
held_number sent set k = record { counter = counter_of k; message = message_at sent k; marked = set k }

-- The messages of so many numbers, from number q on.
abbrev pub held_from : List (List ℕ) → (ℕ → Bool) → ℕ → ℕ → List Held
held_from sent set q zero = []
held_from sent set q (suc count) = held_number sent set q ∷ held_from sent set (suc q) count

-- Where a server is, but for its counts and its open part.
pub record ServerIs (s : ServerState) (a l : ℕ) (hs : List Held) : Type 0 where
  pub address : s.address ≡ a
  pub last : s.last ≡ l
  pub held : s.held ≡ hs

-- Of a line's numbers those below p are applied, those below q acknowledged, and no number that is not applied; the
-- encoder keeps the last 127 of the applied ones, and the server holds the numbers from q on, eight at most, of which q
-- is not acknowledged.
pub record Kept {V : Type 0} (address : ℕ) (e : EncoderState V) (s : ServerState) (o : Once V) (p q : ℕ) : Type 0 where
  pub base : List (ℕ × Code)
  pub ready : IsReady base
  pub encoder : EncoderIs e address o.value (take 127 (pairs base (code_at o.codes) p))
  pub count : ℕ
  pub server : ServerIs s address (last_counter (length o.sent)) (held_from o.sent o.acknowledged q count)
  pub count_is : length o.sent ≡ q + count
  pub few : count ≤ 8
  pub below : (k : ℕ) → k < q → o.acknowledged k ≡ true
  pub oldest : 0 < count → o.acknowledged q ≡ false
  pub applied : (k : ℕ) → is_some (o.codes k) ≡ nat_lt k p
  pub within : (k : ℕ) → o.acknowledged k ≡ true → k < p
  pub p_le : p ≤ length o.sent
  pub q_le : q ≤ p
  pub fits : (k : ℕ) → IsMessage (message_at o.sent k)

-- What is open at each end is what the noise towards it leaves open, and no frame stands in that noise. A reader has to
-- believe it: it is part of what a line holds.
pub record Hears {V : Type 0} (e : EncoderState V) (s : ServerState) (o : Once V) : Type 0 where
  pub encoder : e.part ≡ open_part o.to_encoder
  pub server : s.part ≡ open_part o.to_server
  pub encoder_quiet : is_quiet o.to_encoder ≡ true
  pub server_quiet : is_quiet o.to_server ≡ true
