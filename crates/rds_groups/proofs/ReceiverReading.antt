-- What is read of a damaged group.
use Rattle.std.proofs.Common.{◌≡◌, ℕ, ◌^◌, ◌<◌, Option, Some, ap, ◌∙◌, arith, inl, inr}
use Rattle.std.specs.Prelude.{bit_xor}
use Rattle.std.specs.Int.Bits.{xor_zero_r}
use Rattle.rds_groups.specs.Blocks.{block, word_of, value_of}
use Rattle.rds_groups.specs.Groups.{third_offset}
use Rattle.rds_groups.specs.declared.offset_word.OffsetWord.{OffsetWord}
use Rattle.rds_groups.specs.declared.offset_word.OffsetWord.TheVariants.{A, B, C, CPrime, D}
use Rattle.rds_groups.proofs.Found.{reads_back, one_is_found, two_are_found, burst_is_found}
use Rattle.rds_groups.specs.Heard.{third}
use Rattle.rds_groups.specs.Damage.{Damage, NoBit, OneBit, TwoBits, Burst, IsDamage, wrong}
use Rattle.rds_groups.specs.ReceiverLaws.{ComesWhole, IsRightOrMissing, NoWordIsWrong}

offset_small : (o : OffsetWord) → value_of o < 1024
offset_small A = omega arith
offset_small B = omega arith
offset_small C = omega arith
offset_small CPrime = omega arith
offset_small D = omega arith

block_read : (d : Damage) (word offset : ℕ) → IsDamage d → word < 2 ^ 16 → offset < 1024
    → IsRightOrMissing word (word_of (bit_xor (block word offset) (wrong d)) offset)
block_read NoBit word offset ok hw ho =
    inl (ap (λ (bits : ℕ). word_of bits offset) (xor_zero_r (block word offset)) ∙ reads_back word offset hw ho)
block_read (OneBit i) word offset ok hw ho = inr (one_is_found i ok word offset hw ho)
block_read (TwoBits i j) word offset ok hw ho = inr (two_are_found i j ok.0 ok.1 word offset hw ho)
block_read (Burst burst i) word offset ok hw ho = inr (burst_is_found burst i ok.0 ok.1 ok.2 word offset hw ho)

-- the third is read as the second says
third_read : (word2 word3 bits : ℕ) (second : Option ℕ) → IsRightOrMissing word2 second
    → IsRightOrMissing word3 (word_of bits (value_of (third_offset word2))) → IsRightOrMissing word3 (third second bits)
third_read word2 word3 bits second (inr e) h = inr (ap (λ o. third o bits) e)
third_read word2 word3 bits second (inl e) (inl f) = inl (ap (λ o. third o bits) e ∙ f)
third_read word2 word3 bits second (inl e) (inr f) = inr (ap (λ o. third o bits) e ∙ f)

pub no_word_is_wrong : NoWordIsWrong
no_word_is_wrong g d words ok =
    let second = block_read d.block2 g.block2 (value_of B) ok.block2 words.block2 (omega arith) in
    let offset = value_of (third_offset g.block2) in
    record {
      block1 = block_read d.block1 g.block1 (value_of A) ok.block1 words.block1 (omega arith);
      block2 = second;
      block3 = third_read g.block2 g.block3 (bit_xor (block g.block3 offset) (wrong d.block3))
          (word_of (bit_xor (block g.block2 (value_of B)) (wrong d.block2)) (value_of B)) second
          (block_read d.block3 g.block3 offset ok.block3 words.block3 (offset_small (third_offset g.block2)));
      block4 = block_read d.block4 g.block4 (value_of D) ok.block4 words.block4 (omega arith);
    }

pub comes_whole : ComesWhole
comes_whole g words =
    let a = reads_back g.block1 (value_of A) words.block1 (omega arith) in
    let b = reads_back g.block2 (value_of B) words.block2 (omega arith) in
    let c = reads_back g.block3 (value_of (third_offset g.block2)) words.block3
    (offset_small (third_offset g.block2)) in
    let d = reads_back g.block4 (value_of D) words.block4 (omega arith) in
    let f : third (word_of (block g.block2 (value_of B)) (value_of B))
    (block g.block3 (value_of (third_offset g.block2))) ≡ Some g.block3
    = ap (λ o. third o (block g.block3 (value_of (third_offset g.block2)))) b ∙ c in
    λ i. record { block1 = a i; block2 = b i; block3 = f i; block4 = d i }
