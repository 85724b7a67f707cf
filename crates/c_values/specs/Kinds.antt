-- The object of a handle, as one of a kind (profile).
use Rattle.std.specs.Prelude.{ℕ, Option, Some, None, Result, Ok, Err}
use Rattle.uecp_frame.specs.Findings.{OpenPart, Closed}
use Rattle.rds_store.specs.Value.{Store}
use Rattle.uecp_encoder.specs.State.{EncoderState}
use Rattle.uecp_link.specs.Server.{ServerState}
use Rattle.c_values.specs.declared.object.Object.{Object}
use Rattle.c_values.specs.declared.object.Object.TheVariants.{Deframer, Encoder, Server}
use Rattle.c_values.specs.Statuses.{empty, other_kind}

-- The deframer that a handle has; else the status that says why there is none.
abbrev pub deframer_of : Option Object → Result OpenPart ℕ
deframer_of None = Err empty
deframer_of (Some (Deframer part)) = Ok part
deframer_of (Some (Encoder e)) = Err other_kind
deframer_of (Some (Server s)) = Err other_kind

-- The encoder that a handle has; else the status that says why there is none.
abbrev pub encoder_of : Option Object → Result (EncoderState Store) ℕ
encoder_of None = Err empty
encoder_of (Some (Deframer part)) = Err other_kind
encoder_of (Some (Encoder e)) = Ok e
encoder_of (Some (Server s)) = Err other_kind

-- The server that a handle has; else the status that says why there is none.
abbrev pub server_of : Option Object → Result ServerState ℕ
server_of None = Err empty
server_of (Some (Deframer part)) = Err other_kind
server_of (Some (Encoder e)) = Err other_kind
server_of (Some (Server s)) = Ok s

-- An object whose line was lost: nothing is open, and all else stays.
abbrev pub line_lost : Object → Object
line_lost (Deframer part) = Deframer Closed
line_lost (Encoder e) = Encoder (record e { part = Closed })
line_lost (Server s) = Server (record s { part = Closed })
