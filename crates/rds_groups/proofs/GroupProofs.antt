-- How block 2 reads.
use Rattle.std.proofs.Common.{◌≡◌, ℕ, ◌/◌, ◌%◌, ◌≤◌, ◌==◌, Bool, true, false, refl, ap, ◌∙◌, arith}
use Rattle.rds_groups.specs.Groups.{bit, name_bits, second_block}
use Rattle.rds_groups.specs.Laws.{GroupsRead, SegmentsRead}

-- a bit that was written is read
pub bit_back : (b : Bool) → (bit b == 1) ≡ b
bit_back true = refl
bit_back false = refl

pub bit_small : (b : Bool) → bit b ≤ 1
bit_small true = omega arith
bit_small false = omega arith

pub groups_read : GroupsRead
groups_read kind h last block3 block4 few hp hl =
    let word = second_block kind (bit h.tp) h.pty last in
    let small = bit_small h.tp in
    let one : word / 1024 % 2 ≡ bit h.tp = omega arith in
    record {
      pi = refl;
      kind = omega arith;
      tp = ap (λ (n : ℕ). n == 1) one ∙ bit_back h.tp;
      pty = omega arith;
      last = omega arith;
    }

pub segments_read : SegmentsRead
segments_read s few =
    let ta = bit_small s.ta in let music = bit_small s.music in let decoder = bit_small s.decoder in
    let a : name_bits s / 16 % 2 ≡ bit s.ta = omega arith in
    let b : name_bits s / 8 % 2 ≡ bit s.music = omega arith in
    let d : name_bits s / 4 % 2 ≡ bit s.decoder = omega arith in
    record {
      ta = ap (λ (n : ℕ). n == 1) a ∙ bit_back s.ta;
      music = ap (λ (n : ℕ). n == 1) b ∙ bit_back s.music;
      decoder = ap (λ (n : ℕ). n == 1) d ∙ bit_back s.decoder;
      segment = omega arith;
      below = omega arith;
    }
