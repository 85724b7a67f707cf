-- What the program reads and writes, on written-out inputs.
use Rattle.std.proofs.Common.{◌≡◌, [], ◌∷◌, codes, Some, None, Ok, true, refl}
use Rattle.hex.specs.Hex.{decode_pairs, encode_with}
use Rattle.std.specs.Fmt.{digits}
use Rattle.uecp_elements.specs.Grammar.{NoText, Text, Pi, Rt}
use Rattle.uecp_frame.specs.declared.fault.FrameFault.TheVariants.{BadStuffing}
use Rattle.uecp_encoder.specs.Answering.{Replied}
use Rattle.uecp_text.specs.Input.{lines_of, numbered, said, texts_of}
use Rattle.uecp_text.specs.Words.{words, bytes_in, decimal_value, decimal_in}
use Rattle.uecp_text.specs.Digits.{byte_word, number_word, row_word, decimal_word, counted}
use Rattle.uecp_lines.specs.Lines.{element_words, dropped_line, response_line}
use Rattle.uecp_lines.specs.Steps.{totals_line}

-- ---- lines

-- a comment and an empty line are passed over and counted, one carriage return goes, and a last line needs no end
lines_with_all : texts_of (codes "# first\n  FE 41 \r\n\n00\r\r\n FF") ≡ (2, codes "FE 41") ∷ (4, codes "00\r")
    ∷ (5, codes "FF") ∷ []
unfolding lines_of numbered
lines_with_all = refl

-- a carriage return at the end of the input stays
return_at_the_end : texts_of (codes "FF\r") ≡ (1, codes "FF\r") ∷ []
unfolding lines_of numbered
return_at_the_end = refl

-- a tab is no space, so a line that begins with one is no comment
tab_before_a_comment : said (codes "\t# no comment\n") ≡ Some (codes "\t# no comment")
tab_before_a_comment = refl

nothing_at_all : texts_of [] ≡ []
unfolding lines_of numbered
nothing_at_all = refl

-- ---- words

pieces_of_digits : bytes_in (codes "fE 0 0") ≡ Ok (0xFE ∷ 0x00 ∷ [])
unfolding decode_pairs
pieces_of_digits = refl

longest_parts : words (codes "frame  0041 01") ≡ codes "frame" ∷ codes "0041" ∷ codes "01" ∷ []
unfolding words
longest_parts = refl

leading_zeros : decimal_in 65535 (codes "00042") ≡ Some 42
unfolding decimal_in decimal_value
leading_zeros = refl

greatest_cut : decimal_in 65535 (codes "65535") ≡ Some 65535
unfolding decimal_in decimal_value
greatest_cut = refl

one_more : decimal_in 65535 (codes "65536") ≡ None
unfolding decimal_in decimal_value
one_more = refl

no_sign : decimal_in 65535 (codes "+1") ≡ None
unfolding decimal_in decimal_value
no_sign = refl

-- ---- lines of output

programme_identification : element_words (Pi 0x00 0x00 0xC201) ≡ codes "pi 00 00 C201"
unfolding byte_word number_word encode_with
programme_identification = refl

radio_text : element_words (Rt 0x00 0x00 (Text 0x40 (0x48 ∷ 0x49 ∷ []))) ≡ codes "rt 00 00 40 4849"
unfolding byte_word row_word encode_with
radio_text = refl

emptied_buffer : element_words (Rt 0x00 0x00 NoText) ≡ codes "rt 00 00 empty"
unfolding byte_word encode_with
emptied_buffer = refl

bad_escape : dropped_line (BadStuffing 10) ≡ codes "dropped 2 BadStuffing 10\n"
unfolding decimal_word digits
bad_escape = refl

new_reply : response_line (Replied (0xFE ∷ 0x00 ∷ 0x41 ∷ 0xFF ∷ []) true) ≡ codes "reply FE0041FF new\n"
unfolding row_word encode_with
new_reply = refl

totals : totals_line 3 2 2 ≡ codes "sent 3 applied 2 acknowledged 2\n"
unfolding decimal_word counted digits
totals = refl
