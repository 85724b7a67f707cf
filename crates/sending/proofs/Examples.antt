-- The lines of a run, computed.
use Rattle.std.proofs.Common.{◌≡◌, List, ℕ, [], ◌∷◌, ◌++◌, codes, refl, true, false}
use Rattle.std.specs.Fmt.{digits}
use Rattle.hex.specs.Hex.{encode_with}
use Rattle.json.specs.Print.{escape_byte}
use Rattle.uecp_elements.specs.declared.code.Code.TheVariants.{Applied, BufferFull}
use Rattle.uecp_elements.specs.Reading.{items_at, first}
use Rattle.json_lines.specs.Objects.{line_of, object_of, list_of}
use Rattle.sending.specs.Objects.{answer_line, held_lines, unknown_lines, progress_line}
use Rattle.sending.specs.Objects.{joined_line, refused_lines, station_applied_line}

abbrev stamp : List ℕ
stamp = codes "2026-11-26T09:00:00.123Z"

applied : answer_line stamp 1 12 3 (5, 0x1C ∷ 2 ∷ []) Applied ≡ codes "{\"format\":1,\"kind\":\"answer\",\"number\":3,\"time\":\"2026-11-26T09:00:00.123Z\",\"counter\":5,\"code\":\"00\",\"meaning\":\"applied\",\"tries\":1,\"milliseconds\":12,\"message\":\"1C02\",\"elements\":[{\"element\":\"select\",\"set\":2}],\"fault\":null}\n"
unfolding line_of object_of list_of escape_byte encode_with digits items_at first
applied = refl

unknown : unknown_lines 5 1 ≡ codes "{\"format\":1,\"kind\":\"unknown\",\"number\":5}\n"
unfolding line_of object_of escape_byte encode_with digits
unknown = refl

progress : progress_line 2 1 ≡ codes "{\"format\":1,\"kind\":\"progress\",\"taken\":2,\"outstanding\":1}\n"
unfolding line_of object_of escape_byte encode_with digits
progress = refl

joined : joined_line true ++ joined_line false ++ station_applied_line
    ≡ codes "{\"format\":1,\"kind\":\"joined\"}\n{\"format\":1,\"kind\":\"not_joined\"}\n{\"format\":1,\"kind\":\"station_applied\"}\n"
unfolding line_of object_of escape_byte encode_with digits
joined = refl

station : refused_lines 1 (Applied ∷ BufferFull ∷ [])
    ≡ codes "{\"format\":1,\"kind\":\"station_refused\",\"number\":2,\"code\":\"0B\",\"meaning\":\"the buffer is full\"}\n"
unfolding line_of object_of escape_byte encode_with digits
station = refl

-- a message that is marked has no line, and its number is passed over
held : held_lines stamp 2 7 3 (false ∷ true ∷ false ∷ []) ((9, []) ∷ (11, []) ∷ []) (Applied ∷ BufferFull ∷ [])
    ≡ answer_line stamp 2 7 3 (9, []) Applied ++ answer_line stamp 2 7 5 (11, []) BufferFull ++ []
unfolding line_of object_of list_of escape_byte encode_with digits items_at first
held = refl
