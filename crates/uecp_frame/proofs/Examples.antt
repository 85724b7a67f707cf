-- Worked examples: what the definitions say of bytes from outside, by computing alone.
use Rattle.std.proofs.Common.{◌≡◌, ℕ, List, [], ◌∷◌, ◌++◌, refl, Ok, Err, replicate, flat_map}
use Rattle.uecp_frame.specs.declared.frame.Frame.{Frame}
use Rattle.uecp_frame.specs.declared.fault.FrameFault.TheVariants.{Unended, BadStuffing, TooLong, TooShort, WrongLength}
use Rattle.uecp_frame.specs.declared.fault.FrameFault.TheVariants.{WrongCheck}
use Rattle.uecp_frame.specs.Stuffing.{code, stuffed, unstuffed}
use Rattle.uecp_frame.specs.Check.{bits, with_bit, check}
use Rattle.uecp_frame.specs.Frame.{body, plain_bytes, spelling}
use Rattle.uecp_frame.specs.Segment.{content, judged, finding, decoded}
use Rattle.uecp_frame.specs.Findings.{segment_found, found, open_bytes, progress, open_part, Part, Doomed}

-- ---- the value published for this check: that of the digits 1 to 9
abbrev digits : List ℕ
digits = 0x31 ∷ 0x32 ∷ 0x33 ∷ 0x34 ∷ 0x35 ∷ 0x36 ∷ 0x37 ∷ 0x38 ∷ 0x39 ∷ []

published_check : check digits ≡ 0xD64E
unfolding check bits with_bit
published_check = refl

-- ---- a programme identification
abbrev pi_bytes : List ℕ
pi_bytes = 0xFE ∷ 0x00 ∷ 0x41 ∷ 0x01 ∷ 0x05 ∷ 0x01 ∷ 0x00 ∷ 0x00 ∷ 0xC2 ∷ 0x01 ∷ 0x67 ∷ 0xA8 ∷ 0xFF ∷ []

abbrev pi_frame : Frame
pi_frame = record { address = 0x41; counter = 0x01; message = 0x01 ∷ 0x00 ∷ 0x00 ∷ 0xC2 ∷ 0x01 ∷ [] }

pi_spelled : spelling pi_frame ≡ pi_bytes
unfolding check bits with_bit body plain_bytes spelling code stuffed
pi_spelled = refl

pi_decoded : decoded pi_bytes ≡ Ok pi_frame
unfolding check bits with_bit unstuffed stuffed code content judged finding decoded
pi_decoded = refl

-- ---- the same with two bytes that are stuffed
abbrev escaped_bytes : List ℕ
escaped_bytes = 0xFE ∷ 0x00 ∷ 0x41 ∷ 0x02 ∷ 0x05 ∷ 0x01 ∷ 0x00 ∷ 0x00 ∷ 0xFD ∷ 0x01 ∷ 0xFD ∷ 0x02 ∷ 0xF1 ∷ 0x03 ∷ 0xFF
    ∷ []

abbrev escaped_frame : Frame
escaped_frame = record { address = 0x41; counter = 0x02; message = 0x01 ∷ 0x00 ∷ 0x00 ∷ 0xFE ∷ 0xFF ∷ [] }

escaped_spelled : spelling escaped_frame ≡ escaped_bytes
unfolding check bits with_bit body plain_bytes spelling code stuffed
escaped_spelled = refl

escaped_decoded : decoded escaped_bytes ≡ Ok escaped_frame
unfolding check bits with_bit unstuffed stuffed code content judged finding decoded
escaped_decoded = refl

-- ---- a check with a byte that is stuffed
abbrev escaped_check_bytes : List ℕ
escaped_check_bytes = 0xFE ∷ 0x00 ∷ 0x41 ∷ 0x01 ∷ 0x06 ∷ 0x01 ∷ 0x00 ∷ 0x00 ∷ 0x12 ∷ 0x34 ∷ 0x99 ∷ 0xFD ∷ 0x02 ∷ 0xA8
    ∷ 0xFF ∷ []

abbrev escaped_check_frame : Frame
escaped_check_frame = record { address = 0x41; counter = 0x01; message = 0x01 ∷ 0x00 ∷ 0x00 ∷ 0x12 ∷ 0x34 ∷ 0x99 ∷ [] }

escaped_check_spelled : spelling escaped_check_frame ≡ escaped_check_bytes
unfolding check bits with_bit body plain_bytes spelling code stuffed
escaped_check_spelled = refl

escaped_check_decoded : decoded escaped_check_bytes ≡ Ok escaped_check_frame
unfolding check bits with_bit unstuffed stuffed code content judged finding decoded
escaped_check_decoded = refl

-- ---- faults
bad_fd_within : decoded (0xFE ∷ 0x00 ∷ 0x41 ∷ 0x02 ∷ 0x05 ∷ 0x01 ∷ 0x00 ∷ 0x00 ∷ 0xFD ∷ 0x01 ∷ 0xFD ∷ 0x03 ∷ 0xF1 ∷ 0x03
    ∷ 0xFF ∷ []) ≡ Err (BadStuffing 10)
unfolding check bits with_bit unstuffed stuffed code content judged finding decoded
bad_fd_within = refl

bad_fd_at_the_end : decoded (0xFE ∷ 0x00 ∷ 0x41 ∷ 0x02 ∷ 0x05 ∷ 0x01 ∷ 0x00 ∷ 0x00 ∷ 0xFD ∷ 0x01 ∷ 0xFD ∷ 0x02 ∷ 0xF1
    ∷ 0x03 ∷ 0xFD ∷ 0xFF ∷ []) ≡ Err (BadStuffing 14)
unfolding check bits with_bit unstuffed stuffed code content judged finding decoded
bad_fd_at_the_end = refl

wrong_length_before_wrong_check : decoded (0xFE ∷ 0x00 ∷ 0x41 ∷ 0x01 ∷ 0x04 ∷ 0x01 ∷ 0x00 ∷ 0x00 ∷ 0xC2 ∷ 0x01 ∷ 0x67
    ∷ 0xA8 ∷ 0xFF ∷ []) ≡ Err WrongLength
unfolding check bits with_bit unstuffed stuffed code content judged finding decoded
wrong_length_before_wrong_check = refl

wrong_check : decoded (0xFE ∷ 0x00 ∷ 0x41 ∷ 0x01 ∷ 0x05 ∷ 0x01 ∷ 0x00 ∷ 0x00 ∷ 0xC2 ∷ 0x01 ∷ 0x67 ∷ 0xA9 ∷ 0xFF ∷ [])
    ≡ Err WrongCheck
unfolding check bits with_bit unstuffed stuffed code content judged finding decoded
wrong_check = refl

nothing_between : decoded (0xFE ∷ 0xFF ∷ []) ≡ Err TooShort
unfolding check bits with_bit unstuffed stuffed code content judged finding decoded
nothing_between = refl

a_start_alone : decoded (0xFE ∷ []) ≡ Err Unended
unfolding check bits with_bit unstuffed stuffed code content judged finding decoded
a_start_alone = refl

-- ---- a frame begun inside an open segment
begun_inside : found (0xFE ∷ 0x00 ∷ 0x41 ∷ pi_bytes) ≡ Err Unended ∷ Ok pi_frame ∷ []
unfolding check bits with_bit unstuffed stuffed code content judged finding segment_found found
begun_inside = refl

left_open : open_part (0xFE ∷ 0x00 ∷ 0x41 ∷ []) ≡ Part (record { plain = 0x00 ∷ 0x41 ∷ []; rest = [] })
unfolding unstuffed progress open_bytes
left_open = refl

left_doomed : open_part (0xFE ∷ 0x00 ∷ 0xFD ∷ 0x03 ∷ []) ≡ Doomed (BadStuffing 2)
unfolding unstuffed stuffed code progress open_bytes
left_doomed = refl

-- ---- at the limits of length
one_too_many : decoded (0xFE ∷ replicate 262 0 ++ 0xFF ∷ []) ≡ Err TooLong
unfolding check bits with_bit unstuffed stuffed code content judged finding decoded
one_too_many = refl

as_many_as_fit : decoded (0xFE ∷ replicate 261 0 ++ 0xFF ∷ []) ≡ Err WrongLength
unfolding check bits with_bit unstuffed stuffed code content judged finding decoded
as_many_as_fit = refl

bad_fd_as_261st : decoded (0xFE ∷ replicate 260 0 ++ 0xFD ∷ 0xFF ∷ []) ≡ Err (BadStuffing 261)
unfolding check bits with_bit unstuffed stuffed code content judged finding decoded
bad_fd_as_261st = refl

bad_fd_as_262nd : decoded (0xFE ∷ replicate 261 0 ++ 0xFD ∷ 0xFF ∷ []) ≡ Err TooLong
unfolding check bits with_bit unstuffed stuffed code content judged finding decoded
bad_fd_as_262nd = refl

-- A number of times FD 02, by which FF is sent.
abbrev sent_ffs : ℕ → List ℕ
sent_ffs n = flat_map {X = ℕ} (λ b. 0xFD ∷ 0x02 ∷ []) (replicate n 0)

-- A frame with FF for all it can.
abbrev full_frame : ℕ → Frame
full_frame n = record { address = 0xFEFF; counter = 0xFF; message = replicate n 0xFF }

longest_spelled : spelling (full_frame 255) ≡ 0xFE ∷ 0xFD ∷ 0x01 ∷ sent_ffs 258 ++ 0x6D ∷ 0x71 ∷ 0xFF ∷ []
unfolding check bits with_bit body plain_bytes spelling code stuffed
longest_spelled = refl

longest_decoded : decoded (0xFE ∷ 0xFD ∷ 0x01 ∷ sent_ffs 258 ++ 0x6D ∷ 0x71 ∷ 0xFF ∷ []) ≡ Ok (full_frame 255)
unfolding check bits with_bit unstuffed stuffed code content judged finding decoded
longest_decoded = refl

stuffed_length_spelled : spelling (full_frame 254) ≡ 0xFE ∷ 0xFD ∷ 0x01 ∷ 0xFD ∷ 0x02 ∷ 0xFD ∷ 0x02 ∷ 0xFD ∷ 0x01
    ∷ sent_ffs 254 ++ 0xB7 ∷ 0xD4 ∷ 0xFF ∷ []
unfolding check bits with_bit body plain_bytes spelling code stuffed
stuffed_length_spelled = refl

stuffed_length_decoded : decoded (0xFE ∷ 0xFD ∷ 0x01 ∷ 0xFD ∷ 0x02 ∷ 0xFD ∷ 0x02 ∷ 0xFD ∷ 0x01 ∷ sent_ffs 254 ++ 0xB7
    ∷ 0xD4 ∷ 0xFF ∷ []) ≡ Ok (full_frame 254)
unfolding check bits with_bit unstuffed stuffed code content judged finding decoded
stuffed_length_decoded = refl
