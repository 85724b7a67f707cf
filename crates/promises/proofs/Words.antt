-- What a receiver hears of a service's groups, in the service's own words.
use Rattle.std.proofs.Common.{◌≡◌, ℕ, ◌+◌, ◌*◌, ◌/◌, ◌%◌, ◌^◌, ◌<◌, if◌then◌else◌, Bool, true, false, List, [], ◌∷◌}
use Rattle.std.proofs.Common.{◌++◌, length, get_or, Option, Some, refl, ap, sym, ◌∙◌, subst, arith, ◌==◌, slice_index}
use Rattle.std.proofs.Common.{inl, inr}
use Rattle.std.specs.List.{All}
use Rattle.std.proofs.lemmas.Bool.{cases_lt, ne_eqb}
use Rattle.std.proofs.lemmas.List.Elements.{All-push}
use Rattle.std.proofs.Math.ListN.{get_or-eq_default}
use Rattle.rds_groups.specs.Groups.{second_block, bit, has_bit, pair, characters}
use Rattle.rds_groups.specs.Lines.{IsGroup}
use Rattle.rds_store.specs.Value.{ServiceData}
use Rattle.rds_store.specs.declared.group.Group.{Group as StoredGroup}
use Rattle.rds_groups.specs.declared.heard.HeardGroup.{HeardGroup}
use Rattle.rds_groups.specs.Shown.{Receiver, told, named, text_placed, left_of}
use Rattle.carousel.specs.Carousel.{Carousel}
use Rattle.carousel.specs.Next.{name_group, text_group, free_group, third_block, sent}
use Rattle.promises.specs.OnAir.{IsService, IsOther}

-- ---- Numbers in block 2 and in a block of two characters.
pub bit_small : (b : Bool) → bit b < 2
bit_small true = omega arith
bit_small false = omega arith

bit_read : (b : Bool) → (bit b == 1) ≡ b
bit_read true = refl
bit_read false = refl

type_read : (k t p l : ℕ) → t < 2 → p < 32 → l < 32 → second_block k t p l / 4096 ≡ k / 2
type_read k t p l a b c = omega arith

version_read : (k t p l : ℕ) → t < 2 → p < 32 → l < 32 → second_block k t p l / 2048 % 2 ≡ k % 2
version_read k t p l a b c = omega arith

tp_read : (k t p l : ℕ) → t < 2 → p < 32 → l < 32 → second_block k t p l / 1024 % 2 ≡ t
tp_read k t p l a b c = omega arith

pty_read : (k t p l : ℕ) → t < 2 → p < 32 → l < 32 → second_block k t p l / 32 % 32 ≡ p
pty_read k t p l a b c = omega arith

ta_read : (k t p a m i : ℕ) → a < 2 → m < 2 → i < 4 → second_block k t p (a * 16 + m * 8 + 0 * 4 + i) / 16 % 2 ≡ a
ta_read k t p a m i ha hm hi = omega arith

music_read : (k t p a m i : ℕ) → a < 2 → m < 2 → i < 4 → second_block k t p (a * 16 + m * 8 + 0 * 4 + i) / 8 % 2 ≡ m
music_read k t p a m i ha hm hi = omega arith

segment_read : (k t p a m i : ℕ) → i < 4 → second_block k t p (a * 16 + m * 8 + 0 * 4 + i) % 4 ≡ i
segment_read k t p a m i hi = omega arith

flag_read : (k t p a i : ℕ) → a < 2 → i < 16 → second_block k t p (a * 16 + i) / 16 % 2 ≡ a
flag_read k t p a i ha hi = omega arith

place_read : (k t p a i : ℕ) → i < 16 → second_block k t p (a * 16 + i) % 16 ≡ i
place_read k t p a i hi = omega arith

first_read : (a b : ℕ) → b < 256 → pair a b / 256 ≡ a
first_read a b h = omega arith

second_read : (a b : ℕ) → b < 256 → pair a b % 256 ≡ b
second_read a b h = omega arith

-- ---- Characters are bytes.
pub byte_at : (xs : List ℕ) (d place : ℕ) → d < 256 → All (λ byte. byte < 256) xs → get_or xs place d < 256
byte_at xs d place small all =
    let P : ℕ → Type 0 = λ n. n < 256 in
    elim (cases_lt place (length xs)) [
      | inl within ↦ all place d within
      | inr past ↦ subst P (sym (get_or-eq_default xs d past)) small
    ]

pub sent_byte : (bytes : List ℕ) (place : ℕ) → All (λ byte. byte < 256) bytes → sent bytes place < 256
sent_byte bytes place all =
    byte_at (bytes ++ 0x0D ∷ []) 0x20 place (omega arith) (All-push (λ byte. byte < 256) bytes 0x0D all (omega arith))

-- ---- What a receiver is after a group of the service.
-- what block 2 of each group of the service tells
abbrev pub tuned_to : ServiceData → Receiver → Receiver
tuned_to s r = record r { tp = Some s.tp; pty = Some s.pty }

abbrev pub name_at : ServiceData → ℕ → ℕ
name_at s place = slice_index s.ps place

abbrev pub name_two : ServiceData → ℕ → List ℕ
name_two s i = name_at s (2 * i + 0) ∷ name_at s (2 * i + 1) ∷ []

abbrev pub two_of : (bytes : List ℕ) (place : ℕ) → ℕ
two_of bytes place = pair (sent bytes place) (sent bytes (place + 1))

-- a segment of the name, or one whose characters are missing
abbrev pub name_told : ServiceData → ℕ → (block4 : Option ℕ) → Receiver → Receiver
name_told s i block4 r = named i block4 (record (tuned_to s r) { ta = Some s.ta; music = Some s.music })

abbrev pub text_told : ServiceData → Carousel → (block3 block4 : Option ℕ) → Receiver → Receiver
text_told s c block3 block4 r =
    record (tuned_to s r) {
      flag = c.flag;
      is_short = false;
      text = text_placed false c.text_segment block3 block4 (left_of c.flag false r);
    }

pub told_name : (s : ServiceData) (i : ℕ) (h : HeardGroup) (r : Receiver) → IsService s → i < 4
    → told (Some (name_group s i).block2) h r ≡ name_told s i h.block4 r
told_name s i h r ok small =
    let ht = bit_small s.tp in let ha = bit_small s.ta in let hm = bit_small s.music in
    let last = bit s.ta * 16 + bit s.music * 8 + 0 * 4 + i in
    let hl : last < 32 = omega arith in
    let e1 = type_read 0 (bit s.tp) s.pty last ht ok.pty hl in
    let e2 = tp_read 0 (bit s.tp) s.pty last ht ok.pty hl in
    let e3 = pty_read 0 (bit s.tp) s.pty last ht ok.pty hl in
    let e4 = ta_read 0 (bit s.tp) s.pty (bit s.ta) (bit s.music) i ha hm small in
    let e5 = music_read 0 (bit s.tp) s.pty (bit s.ta) (bit s.music) i ha hm small in
    let e6 = segment_read 0 (bit s.tp) s.pty (bit s.ta) (bit s.music) i small in
    simp (e1, e2, e3, e4, e5, e6, bit_read)

pub told_text : (s : ServiceData) (c : Carousel) (h : HeardGroup) (r : Receiver) → IsService s → c.text_segment < 16
    → told (Some (text_group s c).block2) h r ≡ text_told s c h.block3 h.block4 r
told_text s c h r ok small =
    let ht = bit_small s.tp in let ha = bit_small c.flag in
    let i = c.text_segment in
    let last = bit c.flag * 16 + i in
    let hl : last < 32 = omega arith in
    let e1 = type_read 4 (bit s.tp) s.pty last ht ok.pty hl in
    let e0 = version_read 4 (bit s.tp) s.pty last ht ok.pty hl in
    let e2 = tp_read 4 (bit s.tp) s.pty last ht ok.pty hl in
    let e3 = pty_read 4 (bit s.tp) s.pty last ht ok.pty hl in
    let e4 = flag_read 4 (bit s.tp) s.pty (bit c.flag) i ha small in
    let e5 = place_read 4 (bit s.tp) s.pty (bit c.flag) i small in
    simp (e1, e0, e2, e3, e4, e5, bit_read)

pub told_free : (s : ServiceData) (g : StoredGroup) (h : HeardGroup) (r : Receiver) → IsService s → IsOther g
    → told (Some (free_group s g).block2) h r ≡ tuned_to s r
told_free s g h r ok other =
    let ht = bit_small s.tp in
    let e1 = type_read g.kind (bit s.tp) s.pty g.bits ht ok.pty other.bits in
    let e2 = tp_read g.kind (bit s.tp) s.pty g.bits ht ok.pty other.bits in
    let e3 = pty_read g.kind (bit s.tp) s.pty g.bits ht ok.pty other.bits in
    let n0 : (g.kind / 2 == 0) ≡ false = ne_eqb (g.kind / 2) 0 other.not_type_0 in
    let n2 : (g.kind / 2 == 2) ≡ false = ne_eqb (g.kind / 2) 2 other.not_type_2 in
    simp (e1, e2, e3, n0, n2, bit_read)

-- the characters of two bytes
pub two_back : (a b : ℕ) → b < 256 → characters (pair a b) ≡ a ∷ b ∷ []
two_back a b h = ap (λ (x : ℕ). x ∷ pair a b % 256 ∷ []) (first_read a b h)
    ∙ ap (λ (x : ℕ). a ∷ x ∷ []) (second_read a b h)

-- ---- The groups of a service have words of 16 bits.
pub name_words : (s : ServiceData) (i : ℕ) → IsService s → i < 4 → IsGroup (name_group s i)
name_words s i ok h =
    let tp = bit_small s.tp in let ta = bit_small s.ta in let music = bit_small s.music in
    let pty = ok.pty in
    let a = byte_at s.ps 0 (2 * i + 0) (omega arith) ok.are_bytes in
    let b = byte_at s.ps 0 (2 * i + 1) (omega arith) ok.are_bytes in
    record { block1 = ok.pi; block2 = omega arith; block3 = omega arith; block4 = omega arith }

pub text_words : (s : ServiceData) (c : Carousel) → IsService s → c.text_segment < 16 → All (λ byte. byte < 256) c.text
    → IsGroup (text_group s c)
text_words s c ok h are_bytes =
    let tp = bit_small s.tp in let flag = bit_small c.flag in
    let pty = ok.pty in
    let i = c.text_segment in
    let w = sent_byte c.text (4 * i + 0) are_bytes in
    let x = sent_byte c.text (4 * i + 1) are_bytes in
    let y = sent_byte c.text (4 * i + 2) are_bytes in
    let z = sent_byte c.text (4 * i + 3) are_bytes in
    record { block1 = ok.pi; block2 = omega arith; block3 = omega arith; block4 = omega arith }

third_small : (pi kind stored : ℕ) → pi < 2 ^ 16 → stored < 2 ^ 16 → third_block pi kind stored < 2 ^ 16
third_small pi kind stored own given = by (has_bit 1 kind)
  where
    by : (is_b : Bool) → (if is_b then pi else stored) < 2 ^ 16
    by true = own
    by false = given

pub free_words : (s : ServiceData) (g : StoredGroup) → IsService s → IsOther g → IsGroup (free_group s g)
free_words s g ok other =
    let tp = bit_small s.tp in
    let pty = ok.pty in
    let kind = other.kind in let bits = other.bits in
    let third = third_small s.pi g.kind g.block3 ok.pi other.block3 in
    record { block1 = ok.pi; block2 = omega arith; block3 = third; block4 = other.block4 }
