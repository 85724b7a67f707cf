-- What is sent for a case to an encoder at an address, and what must come (profile).
use Rattle.std.specs.Prelude.{ℕ, ◌+◌, ◌-◌, ◌*◌, ◌%◌, ◌==◌, bit_xor, List, [], ◌∷◌, ◌++◌, map, flat_map, take}
use Rattle.std.specs.Prelude.{drop, if◌then◌else◌}
use Rattle.std.specs.List.{range_with_len}
use Rattle.uecp_frame.specs.declared.frame.Frame.{Frame}
use Rattle.uecp_frame.specs.Address.{site_of, encoder_of}
use Rattle.uecp_frame.specs.Check.{check}
use Rattle.uecp_frame.specs.Stuffing.{stuffed}
use Rattle.uecp_frame.specs.Frame.{high_first, body, plain_bytes, spelling}
use Rattle.uecp_link.specs.Driving.{copies}
use Rattle.conformance.specs.declared.verdict.Expected.{Expected}
use Rattle.conformance.specs.declared.verdict.Expected.TheVariants.{This, Refusal}
use Rattle.conformance.specs.declared.case.Counters.{Counters}
use Rattle.conformance.specs.declared.case.To.{To}
use Rattle.conformance.specs.declared.case.To.TheVariants.{Own, All, AllEncoders, AllSites, AnotherEncoder, AnotherSite}
use Rattle.conformance.specs.declared.case.Edit.{Edit}
use Rattle.conformance.specs.declared.case.Edit.TheVariants.{Whole, Length, Check, Byte, Cut}
use Rattle.conformance.specs.declared.case.Step.{Step}
use Rattle.conformance.specs.declared.case.Step.TheVariants.{Send, Bytes, Reply as WantsReply, Nothing}
use Rattle.conformance.specs.declared.case.Step.TheVariants.{Refusal as WantsRefusal}

-- The counters of a row, in order.
abbrev pub counters_in : Counters → List ℕ
counters_in row = range_with_len row.first (row.last + 1 - row.first)

-- Another number than this: with its lowest bit turned over, and 2 for 1, since 0 stands for all.
unfoldable pub another : ℕ → ℕ
another number =
    if number == 1 then 2 else if number % 2 == 0 then number + 1 else number - 1

-- The address of a frame that is sent so for the encoder at this address.
unfoldable pub address_to : (own : ℕ) → To → ℕ
address_to own Own = own
address_to own All = 0
address_to own AllEncoders = site_of own * 64
address_to own AllSites = encoder_of own
address_to own AnotherEncoder = site_of own * 64 + another (encoder_of own)
address_to own AnotherSite = another (site_of own) * 64 + encoder_of own

-- The frame to this address, under this counter and with this message.
abbrev pub frame_to : (address counter : ℕ) → (message : List ℕ) → Frame
frame_to address counter message = record { address = address; counter = counter; message = message }

-- A frame's body with another length than its own.
abbrev pub body_saying : Frame → (said : ℕ) → List ℕ
body_saying f said = high_first f.address ++ f.counter ∷ said ∷ f.message

-- Plain bytes between FE and FF, as they are sent.
abbrev pub enclosed : List ℕ → List ℕ
enclosed plain = 0xFE ∷ (stuffed plain ++ 0xFF ∷ [])

-- Plain bytes between FE and FF, as they are sent but for one of them, in whose place other bytes go.
abbrev pub replaced : (place : ℕ) → (bytes plain : List ℕ) → List ℕ
replaced place bytes plain =
    0xFE ∷ (stuffed (take place plain) ++ (bytes ++ (stuffed (drop (place + 1) plain) ++ 0xFF ∷ [])))

-- FE and the first plain bytes, as they are sent.
abbrev pub begun : (count : ℕ) → (plain : List ℕ) → List ℕ
begun count plain = 0xFE ∷ stuffed (take count plain)

-- A frame to the encoder as it is sent with this edit.
unfoldable pub frame_sent : (own counter : ℕ) → (message : List ℕ) → Edit → List ℕ
frame_sent own counter message (Whole to) = spelling (frame_to (address_to own to) counter message)
frame_sent own counter message (Length said) =
    let b = body_saying (frame_to own counter message) said in enclosed (b ++ high_first (check b))
frame_sent own counter message Check =
    let b = body (frame_to own counter message) in enclosed (b ++ high_first (bit_xor (check b) 1))
frame_sent own counter message (Byte place bytes) =
    replaced place bytes (plain_bytes (frame_to own counter message))
frame_sent own counter message (Cut count) = begun count (plain_bytes (frame_to own counter message))

-- The bytes that a step sends.
abbrev pub step_sent : (own : ℕ) → Step → List ℕ
step_sent own (Send row message edit) = flat_map (λ counter. frame_sent own counter message edit) (counters_in row)
step_sent own (Bytes bytes count) = copies bytes count
step_sent own (WantsReply row code) = []
step_sent own (WantsRefusal row) = []
step_sent own Nothing = []

-- The bytes that the steps of a case send, in order.
abbrev pub case_sent : (own : ℕ) → List Step → List ℕ
case_sent own steps = flat_map (step_sent own) steps

-- The replies that a step wants.
abbrev pub step_wants : Step → List Expected
step_wants (WantsReply row code) = map (λ counter. This (record { counter = counter; code = code })) (counters_in row)
step_wants (WantsRefusal row) = map (λ counter. Refusal counter) (counters_in row)
step_wants step = []

-- The replies that the steps of a case want, in order.
abbrev pub case_wants : List Step → List Expected
case_wants steps = flat_map step_wants steps
