-- The images of the two ends: their bytes as they are kept. Source: profile.
use Rattle.std.specs.Prelude.{ℕ, Bool, if◌then◌else◌, List, [], ◌∷◌, ◌++◌, length, flat_map}
use Rattle.std.specs.Int.{w64, to_be_bytes}
use Rattle.uecp_frame.specs.Check.{check}
use Rattle.uecp_frame.specs.Frame.{high_first}
use Rattle.uecp_elements.specs.declared.code.Code.{Code}
use Rattle.uecp_elements.specs.Codes.{byte_of}
use Rattle.rds_store.specs.Value.{Store}
use Rattle.uecp_encoder.specs.State.{EncoderState}
use Rattle.uecp_link.specs.Server.{Held, ServerState}
use Rattle.store_phrases.specs.Laws.{messages_of}

-- The version of the layout below.
abbrev pub version : ℕ
version = 0x01

-- The kind of an image, behind the version: an encoder's, and a server's.
abbrev pub encoder_kind : ℕ
encoder_kind = 0x45

abbrev pub server_kind : ℕ
server_kind = 0x53

-- Bytes with their check behind them, high byte first: that of a frame (SPB 490, check). So ends each image, since
-- nothing else tells a changed byte from a kept one; the law `NoticesAChange` says which changes it notices.
unfoldable pub sealed : List ℕ → List ℕ
sealed bytes = bytes ++ high_first (check bytes)

-- Bytes behind their number.
abbrev pub counted : List ℕ → List ℕ
counted bytes = length bytes ∷ bytes

-- 01 for yes, 00 for no.
abbrev pub flag : Bool → ℕ
flag is_set = if is_set then 0x01 else 0x00

-- Kept pairs, each its counter and its code's byte, the oldest first.
abbrev pub pair_bytes : List (ℕ × Code) → List ℕ
pair_bytes [] = []
pair_bytes (pair ∷ older) = pair_bytes older ++ pair.0 ∷ byte_of pair.1 ∷ []

-- The messages that make a store again, each behind its length.
abbrev pub message_bytes : Store → List ℕ
message_bytes v = flat_map counted (messages_of v)

-- What is kept of an encoder, behind the kind: its address, high byte first; how many data sets and services its store
-- has, and the services; how many pairs it keeps, and the pairs; and the messages that make its store again.
abbrev pub encoder_content : EncoderState Store → List ℕ
encoder_content e =
    high_first e.address
    ++ (e.value.sets ∷ (counted e.value.services ++ (length e.ring ∷ (pair_bytes e.ring ++ message_bytes e.value))))

-- The image of an encoder.
abbrev pub encoder_image : EncoderState Store → List ℕ
encoder_image e = sealed (version ∷ encoder_kind ∷ encoder_content e)

-- A message that is held: its mark, and its bytes behind their number.
abbrev pub held_bytes : Held → List ℕ
held_bytes h = flag h.marked ∷ counted h.message

-- What is kept of a server, behind the kind: its address, high byte first; whether it has joined; how many messages of
-- its input were taken, in eight bytes, the highest first; its last counter; how many messages it holds, and these, the
-- oldest first.
abbrev pub server_content : (joined : Bool) (taken : ℕ) → ServerState → List ℕ
server_content joined taken s =
    high_first s.address
    ++ (flag joined ∷ (to_be_bytes w64 taken ++ (s.last ∷ length s.held ∷ flat_map held_bytes s.held)))

-- The image of a server.
abbrev pub server_image : (joined : Bool) (taken : ℕ) → ServerState → List ℕ
server_image joined taken s = sealed (version ∷ server_kind ∷ server_content joined taken s)
