-- What is written of a group reads as that group.
use Rattle.std.proofs.Common.{◌≡◌, ℕ, ◌+◌, ◌-◌, ◌*◌, ◌/◌, ◌%◌, ◌^◌, ◌<◌, List, ap, sym, ◌∙◌, arith, inl, inr}
use Rattle.std.proofs.Common.{if◌then◌else◌}
use Rattle.std.proofs.lemmas.Bool.{cases_lt, lt-ltb, le-ltb}
use Rattle.rds_groups.specs.declared.group.Group.{Group}
use Rattle.rds_groups.specs.Lines.{digit, line, value, number_at, IsGroup}

value_of_digit : (n : ℕ) → n < 16 → value (digit n) ≡ n
value_of_digit n h = elim (cases_lt n 10) [
  | inl few ↦
      let d : digit n ≡ 48 + n = ap (λ b. if b then 48 + n else 55 + n) (lt-ltb n 10 few) in
      ap value d ∙ ap (λ b. (if b then 48 + n - 48 else 48 + n - 55) % 16) (lt-ltb (48 + n) 58 (omega arith))
      ∙ omega arith
  | inr many ↦
      let d : digit n ≡ 55 + n = ap (λ b. if b then 48 + n else 55 + n) (le-ltb n 10 many) in
      ap value d ∙ ap (λ b. (if b then 55 + n - 48 else 55 + n - 55) % 16) (le-ltb (55 + n) 58 (omega arith))
      ∙ omega arith
]

word_read : (w : ℕ) → w < 2 ^ 16 → value (digit (w / 4096)) * 4096 + value (digit (w / 256 % 16)) * 256
    + value (digit (w / 16 % 16)) * 16 + value (digit (w % 16)) ≡ w
word_read w h =
    let a = value_of_digit (w / 4096) (omega arith) in
    let b = value_of_digit (w / 256 % 16) (omega arith) in
    let c = value_of_digit (w / 16 % 16) (omega arith) in
    let d = value_of_digit (w % 16) (omega arith) in
    omega arith

pub reads_as : (g : Group) → IsGroup g → (text : List ℕ) → line g ≡ text
    → (a b c d : ℕ) → a ≡ number_at text 0 → b ≡ number_at text 5 → c ≡ number_at text 10 → d ≡ number_at text 15
    → let read : Group = record { block1 = a; block2 = b; block3 = c; block4 = d } in line read ≡ text
reads_as g ok text e a b c d ea eb ec ed =
    let fa : a ≡ g.block1 = ea ∙ sym (ap (λ t. number_at t 0) e) ∙ word_read g.block1 ok.block1 in
    let fb : b ≡ g.block2 = eb ∙ sym (ap (λ t. number_at t 5) e) ∙ word_read g.block2 ok.block2 in
    let fc : c ≡ g.block3 = ec ∙ sym (ap (λ t. number_at t 10) e) ∙ word_read g.block3 ok.block3 in
    let fd : d ≡ g.block4 = ed ∙ sym (ap (λ t. number_at t 15) e) ∙ word_read g.block4 ok.block4 in
    ap (λ (x : ℕ). line (record { block1 = x; block2 = b; block3 = c; block4 = d })) fa
    ∙ ap (λ (x : ℕ). line (record { block1 = g.block1; block2 = x; block3 = c; block4 = d })) fb
    ∙ ap (λ (x : ℕ). line (record { block1 = g.block1; block2 = g.block2; block3 = x; block4 = d })) fc
    ∙ ap (λ (x : ℕ). line (record { block1 = g.block1; block2 = g.block2; block3 = g.block3; block4 = x })) fd
    ∙ e
