-- Kept pairs that are read in turn make the ring again.
use Rattle.std.proofs.Common.{◌≡◌, ℕ, ◌-◌, ◌*◌, ◌≤◌, ◌==◌, Bool, true, false, List, [], ◌∷◌, ◌++◌, length, take}
use Rattle.std.proofs.Common.{drop, Option, Some, None, Err, refl, ap, sym, ◌∙◌, arith, length-append, append_assoc}
use Rattle.std.proofs.Common.{append-nil, get_or, if◌then◌else◌}
use Rattle.std.specs.Option.{option_and_then}
use Rattle.std.proofs.lemmas.List.{take_all}
use Rattle.uecp_elements.specs.declared.code.Code.{Code}
use Rattle.uecp_elements.specs.Codes.{byte_of, IsReadBack}
use Rattle.reply_ring.specs.Ring.{kept_code, IsRing}
use Rattle.end_images.specs.Images.{pair_bytes}
use Rattle.end_images.specs.declared.fault.ImageFault.{ImageFault}
use Rattle.end_images.specs.declared.fault.ImageFault.TheVariants.{Newer, OtherEnd, Damaged, OutOfMemory}
use Rattle.end_images.specs.Reading.{GivesBack}
use Rattle.end_images.specs.Parsing.{pairs_kept, pair_kept, RingRead}

pub pairs_length : (ring : List (ℕ × Code)) → length (pair_bytes ring) ≡ 2 * length ring
pairs_length [] = refl
pairs_length (pair ∷ older) =
    length-append (pair_bytes older) (pair.0 ∷ byte_of pair.1 ∷ []) ∙ omega (arith, pairs_length older)

numbered_first : (pair : ℕ × Code) (older : List (ℕ × Code)) → kept_code (pair ∷ older) 0 ≡ None → (pair.0 == 0) ≡ false
numbered_first pair older none = go (pair.0 == 0) refl none
  where
    go : (b : Bool) → (pair.0 == 0) ≡ b → (if b then Some pair.1 else kept_code older 0) ≡ None → b ≡ false
    go true is none = cc
    go false is none = refl

numbered_rest : (pair : ℕ × Code) (older : List (ℕ × Code)) → kept_code (pair ∷ older) 0 ≡ None
    → kept_code older 0 ≡ None
numbered_rest pair older none = go (pair.0 == 0) none
  where
    go : (b : Bool) → (if b then Some pair.1 else kept_code older 0) ≡ None → kept_code older 0 ≡ None
    go true none = cc
    go false none = none

rest_is_ring : (pair : ℕ × Code) (older : List (ℕ × Code)) → IsRing (pair ∷ older) → IsRing older
rest_is_ring pair older is = record {
  at_most = omega (arith, is.at_most);
  once = is.once.1;
  numbered = numbered_rest pair older is.numbered;
}

-- One pair of those that are left.
pub pairs_step : (ring new : List (ℕ × Code)) (rest : List ℕ) → 2 ≤ length rest
    → Some new ≡ pair_kept ring (get_or rest 0 0) (get_or rest 1 0)
    → pairs_kept new (take (length rest - 2) (drop 2 rest)) ≡ pairs_kept ring rest
pairs_step ring new [] within kept = absurd (omega (arith, within))
pairs_step ring new (counter ∷ []) within kept = absurd (omega (arith, within))
pairs_step ring new (counter ∷ byte ∷ more) within kept =
    ap (pairs_kept new) (take_all (length (counter ∷ byte ∷ more) - 2) more (omega arith))
    ∙ ap (λ o. option_and_then (λ r. pairs_kept r more) o) kept

module _ (read_back : IsReadBack) where
  one_kept : (pair : ℕ × Code) (older : List (ℕ × Code)) → IsRing (pair ∷ older)
      → pair_kept older pair.0 (byte_of pair.1) ≡ Some (pair ∷ older)
  one_kept pair older is =
      rw (numbered_first pair older is.numbered, is.once.0, read_back pair.1)
      (ap Some (take_all 127 (pair ∷ older) is.at_most))

  pub pairs_back_then : (ring : List (ℕ × Code)) (more : List ℕ) → IsRing ring
      → pairs_kept [] (pair_bytes ring ++ more) ≡ pairs_kept ring more
  pairs_back_then [] more is = refl
  pairs_back_then (pair ∷ older) more is =
      ap (pairs_kept []) (append_assoc (pair_bytes older) (pair.0 ∷ byte_of pair.1 ∷ []) more)
      ∙ pairs_back_then older (pair.0 ∷ byte_of pair.1 ∷ more) (rest_is_ring pair older is)
      ∙ ap (λ o. option_and_then (λ r. pairs_kept r more) o) (one_kept pair older is)

  pub pairs_back : (ring : List (ℕ × Code)) → IsRing ring → pairs_kept [] (pair_bytes ring) ≡ Some ring
  pairs_back ring is = ap (pairs_kept []) (sym (append-nil (pair_bytes ring))) ∙ pairs_back_then ring [] is

-- Where the pairs of a ring are read, only memory is wanting.
pub ring_err : {V : Type 0} (fault : ImageFault) (pairs : List ℕ) (ring : List (ℕ × Code)) (v : V)
    → pairs_kept [] pairs ≡ Some ring → RingRead pairs (Err fault) → GivesBack {V = V} (Err fault) v
ring_err (Newer n) pairs ring v back read = absurd read
ring_err OtherEnd pairs ring v back read = absurd read
ring_err Damaged pairs ring v back read =
    let both : ◌≡◌ {A = Option (List (ℕ × Code))} None (Some ring) = sym read ∙ back in absurd (cc)
ring_err OutOfMemory pairs ring v back read = tt
