-- The bits of the bytes that are said, read again.
use Rattle.std.proofs.Common.{◌≡◌, ℕ, ◌+◌, ◌*◌, ◌%◌, ◌≤◌, Bool, true, false, refl, arith}
use Rattle.std.proofs.lemmas.Bool.{eq-eqb, ne_eqb}
use Rattle.rds_store.specs.Value.{StoredText, ServiceData}
use Rattle.rds_store.specs.Bits.{bit_0, bit_1, bits_4_to_1, bits_4_to_0, bits_6_to_5}
use Rattle.rds_store.specs.Content.{adds, is_wrong_rule, radio_text}
use Rattle.store_phrases.specs.Said.{rule_bits, flag_bit, traffic_byte, head_byte}

odd : (n : ℕ) → bit_0 (2 * n + 1) ≡ true
odd n = eq-eqb ((2 * n + 1) % 2) 1 (omega arith)

even : (n : ℕ) → bit_0 (2 * n + 0) ≡ false
even n = ne_eqb ((2 * n + 0) % 2) 1 (λ e. omega arith)

flag_told : (b : Bool) (n : ℕ) → bit_0 (2 * n + flag_bit b) ≡ b
flag_told true n = odd n
flag_told false n = even n

pub music_told : (b : Bool) → bit_0 (flag_bit b) ≡ b
music_told true = refl
music_told false = refl

traffic_cases : (tp ta : Bool) → bit_1 (2 * flag_bit tp + flag_bit ta) ≡ tp
traffic_cases true true = refl
traffic_cases true false = refl
traffic_cases false true = refl
traffic_cases false false = refl

pub tp_told : (s : ServiceData) → bit_1 (traffic_byte s) ≡ s.tp
tp_told s = traffic_cases s.tp s.ta

pub ta_told : (s : ServiceData) → bit_0 (traffic_byte s) ≡ s.ta
ta_told s = flag_told s.ta (flag_bit s.tp)

pub flag_few : (b : Bool) → flag_bit b ≤ 1
flag_few true = omega arith
flag_few false = omega arith

-- ---- Buffer rules: of a byte whose other bits are below 32.
rule_of : (is_added : Bool) (n : ℕ) → n ≤ 31 → bits_6_to_5 (rule_bits is_added + n) ≡ (2 * flag_bit is_added)
rule_of true n h = omega arith
rule_of false n h = omega arith

pub rule_told : (is_added : Bool) (n : ℕ) → n ≤ 31 → adds (rule_bits is_added + n) ≡ is_added
rule_told true n h = eq-eqb (bits_6_to_5 (0x40 + n)) 2 (rule_of true n h)
rule_told false n h =
    let r : bits_6_to_5 (0x00 + n) ≡ 0 = rule_of false n h in
    ne_eqb (bits_6_to_5 (0x00 + n)) 2 (λ e. omega arith)

pub rule_right : (is_added : Bool) (n : ℕ) → n ≤ 31 → is_wrong_rule (rule_bits is_added + n) ≡ false
rule_right true n h =
    let r : bits_6_to_5 (0x40 + n) ≡ 2 = rule_of true n h in rw r refl
rule_right false n h =
    let r : bits_6_to_5 (0x00 + n) ≡ 0 = rule_of false n h in rw r refl

pub bits_told : (is_added : Bool) (n : ℕ) → n ≤ 31 → bits_4_to_0 (rule_bits is_added + n) ≡ n
bits_told true n h = omega arith
bits_told false n h = omega arith

-- ---- The first byte of a text.
low_bits : (t : StoredText) → t.transmissions ≤ 15 → 2 * t.transmissions + flag_bit t.toggle ≤ 31
low_bits t h = let f = flag_few t.toggle in omega arith

pub head_rule : (is_added : Bool) (t : StoredText) → t.transmissions ≤ 15 → adds (head_byte is_added t) ≡ is_added
head_rule is_added t h = rule_told is_added (2 * t.transmissions + flag_bit t.toggle) (low_bits t h)

pub head_right : (is_added : Bool) (t : StoredText) → t.transmissions ≤ 15
    → is_wrong_rule (head_byte is_added t) ≡ false
head_right is_added t h = rule_right is_added (2 * t.transmissions + flag_bit t.toggle) (low_bits t h)

toggle_told : (is_added : Bool) (n : ℕ) (b : Bool) → bit_0 (rule_bits is_added + (2 * n + flag_bit b)) ≡ b
toggle_told true n true = eq-eqb ((0x40 + (2 * n + 1)) % 2) 1 (omega arith)
toggle_told true n false = ne_eqb ((0x40 + (2 * n + 0)) % 2) 1 (λ e. omega arith)
toggle_told false n true = eq-eqb ((0x00 + (2 * n + 1)) % 2) 1 (omega arith)
toggle_told false n false = ne_eqb ((0x00 + (2 * n + 0)) % 2) 1 (λ e. omega arith)

times_told : (is_added : Bool) (n : ℕ) (b : Bool) → n ≤ 15
    → bits_4_to_1 (rule_bits is_added + (2 * n + flag_bit b)) ≡ n
times_told true n true h = omega arith
times_told true n false h = omega arith
times_told false n true h = omega arith
times_told false n false h = omega arith

pub head_text : (is_added : Bool) (t : StoredText) → t.transmissions ≤ 15
    → radio_text (head_byte is_added t) t.bytes ≡ t
head_text is_added t h = λ i. record {
  toggle = toggle_told is_added t.transmissions t.toggle i;
  transmissions = times_told is_added t.transmissions t.toggle h i;
  bytes = t.bytes;
}
