-- What is in a state, as lines (profile).
use Rattle.std.specs.Prelude.{ℕ, Bool, List, ◌++◌, codes, length, flat_map, Option, Some, None, if◌then◌else◌}
use Rattle.uecp_frame.specs.Address.{site_of, encoder_of}
use Rattle.reply_ring.specs.Ring.{newest}
use Rattle.rds_store.specs.Value.{Store}
use Rattle.uecp_encoder.specs.State.{EncoderState}
use Rattle.uecp_link.specs.Server.{Held, ServerState, waiting}
use Rattle.uecp_text.specs.Digits.{byte_word, decimal_word, row_word}
use Rattle.uecp_lines.specs.StoreLines.{store_lines}
use Rattle.uecp_net.specs.declared.saved.keep.Progress.{Progress}
use Rattle.state_files.specs.declared.reading.Found.{Found}
use Rattle.state_files.specs.declared.reading.Found.TheVariants as found

-- a site, and the number of an encoder there
unfoldable pub place_words : (address : ℕ) → List ℕ
place_words address =
    codes " site" ++ decimal_word (site_of address) ++ codes " encoder" ++ decimal_word (encoder_of address)

-- how many data sets a store has, and its services
unfoldable pub store_words : Store → List ℕ
store_words v = codes " sets" ++ decimal_word v.sets ++ codes " services" ++ flat_map byte_word v.services

-- a counter, or a hyphen where there is none
abbrev pub counter_word : Option ℕ → List ℕ
counter_word (Some counter) = byte_word counter
counter_word None = codes " -"

-- the counter of the last message, where there was one
unfoldable pub last_line : Option ℕ → List ℕ
last_line counter = codes "last" ++ counter_word counter ++ codes "\n"

-- which encoder it is
unfoldable pub encoder_line : (address : ℕ) → Store → List ℕ
encoder_line address v = codes "encoder" ++ place_words address ++ store_words v ++ codes "\n"

-- An encoder: which one it is, the counter of the last message that it applied, and its store.
unfoldable pub encoder_lines : EncoderState Store → List ℕ
encoder_lines e = encoder_line e.address e.value ++ last_line (newest e.ring) ++ store_lines e.value

-- whether a message that is held has its reply
abbrev pub held_word : (marked : Bool) → List ℕ
held_word marked = if marked then codes "acknowledged" else codes "outstanding"

-- a message that is held
unfoldable pub held_line : Held → List ℕ
held_line h = held_word h.marked ++ byte_word h.counter ++ row_word h.message ++ codes "\n"

-- whether its encoder was joined
abbrev pub joined_words : (joined : Bool) → List ℕ
joined_words joined = if joined then codes " joined\n" else codes " not joined\n"

-- of which encoder it is, and whether that was joined
unfoldable pub server_line : (address : ℕ) (joined : Bool) → List ℕ
server_line address joined = codes "server" ++ place_words address ++ joined_words joined

-- how many messages were taken, and how many of them wait
unfoldable pub taken_line : (taken outstanding : ℕ) → List ℕ
taken_line taken outstanding =
    codes "taken" ++ decimal_word taken ++ codes " outstanding" ++ decimal_word outstanding ++ codes "\n"

-- A server: of which encoder it is, and whether that was joined; how many messages were taken, and how many of them
-- wait; the counter of the last one; and those that are held, the oldest first.
unfoldable pub server_lines : ServerState → Progress → List ℕ
server_lines s progress = server_line s.address progress.joined ++ taken_line progress.taken (length (waiting s))
    ++ last_line (Some s.last) ++ flat_map held_line s.held

-- The lines of the end that was found; `empty` where none was.
abbrev pub found_lines : Found → List ℕ
found_lines (found.Encoder e) = encoder_lines e
found_lines (found.Server s progress) = server_lines s progress
found_lines found.Empty = codes "empty\n"
