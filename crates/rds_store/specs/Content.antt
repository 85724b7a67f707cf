-- What an element sets in a service that it names.
use Rattle.std.specs.Prelude.{ℕ, ◌==◌, Bool, ◌||◌, List, [], ◌∷◌, ◌++◌, replicate, false, if◌then◌else◌}
use Rattle.uecp_elements.specs.Grammar.{Element, Pi, Ps, TaTp, Ms, Pty, Rt, NoText, Text, Select, Group, Ack}
use Rattle.rds_store.specs.Bits.{bit_0, bit_1, bits_4_to_1, bits_6_to_5}
use Rattle.rds_store.specs.Value.{StoredText, ServiceData}

-- Buffer rule 10, in bits 6 and 5 of the byte, adds at the end of a buffer. (profile)
abbrev pub adds : ℕ → Bool
adds byte = bits_6_to_5 byte == 2

-- Buffer rules 01 and 11 are out of range. (profile)
abbrev pub is_wrong_rule : ℕ → Bool
is_wrong_rule byte = bits_6_to_5 byte == 1 || bits_6_to_5 byte == 3

-- Rule 00 empties the buffer and stores, rule 10 adds at its end; elements with another rule are refused before.
-- (profile)
abbrev pub buffered : {A : Type 0} → (byte : ℕ) → (old : List A) → (new : A) → List A
buffered byte old new = if adds byte then old ++ new ∷ [] else new ∷ []

-- The first byte of a RadioText has the toggle in bit 0 and the number of transmissions in bits 4 to 1. (SPB 490,
-- RadioText; bits: profile)
abbrev pub radio_text : (head : ℕ) → (bytes : List ℕ) → StoredText
radio_text head bytes = record { toggle = bit_0 head; transmissions = bits_4_to_1 head; bytes = bytes }

-- What a service has once it took the element: PI, PS, TA in bit 0 and TP in bit 1, music in bit 0, PTY, or its texts.
-- (SPB 490, elements PI, PS, TA/TP, MS, PTY and RadioText; bits and buffer rules: profile)
abbrev pub taken : Element → ServiceData → ServiceData
taken (Pi dsn psn n) s = record s { pi = n }
taken (Ps dsn psn name) s = record s { ps = name }
taken (TaTp dsn psn raw) s = record s { ta = bit_0 raw; tp = bit_1 raw }
taken (Ms dsn psn raw) s = record s { music = bit_0 raw }
taken (Pty dsn psn raw) s = record s { pty = raw }
taken (Rt dsn psn NoText) s = record s { texts = [] }
taken (Rt dsn psn (Text head bytes)) s = record s { texts = buffered head s.texts (radio_text head bytes) }
taken (Select dsn) s = s
taken (Group kind mode block3 block4) s = s
taken (Ack c counter) s = s

-- A new service: PI 0000, PS of eight spaces, TP, TA and music off, PTY 0 and no text. (profile)
abbrev pub opening_service : ServiceData
opening_service = record {
  pi = 0x0000;
  ps = replicate 8 0x20;
  tp = false;
  ta = false;
  music = false;
  pty = 0;
  texts = [];
}
