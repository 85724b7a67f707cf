-- What is written comes apart as it was.
use Rattle.std.proofs.Common.{◌≡◌, ℕ, ◌+◌, ◌*◌, ◌/◌, ◌%◌, Bool, true, false, List, ◌∷◌, ◌++◌, length}
use Rattle.std.proofs.Common.{take, drop, Option, Some, None, refl, ap, sym, ◌∙◌, arith, length-append, unwrap_or}
use Rattle.std.specs.Prelude.{nat_lt, if◌then◌else◌}
use Rattle.std.proofs.lemmas.Bool.{le-ltb, ltb-false}
use Rattle.std.proofs.lemmas.List.{length-take}
use Rattle.uecp_frame.specs.Address.{is_exact}
use Rattle.std.proofs.Math.Seq.{take-append_seam, drop-append_seam}
use Rattle.rds_store.specs.Value.{Store}
use Rattle.uecp_encoder.specs.State.{EncoderState}
use Rattle.end_images.specs.Images.{pair_bytes, message_bytes, encoder_content}
use Rattle.end_images.specs.Parsing.{split_off, exact_of, with_pairs, with_messages, encoder_parts, says_encoder}
use Rattle.end_images.proofs.Pairs.{pairs_length}

pub some_same : {A : Type 0} (x y : A) → Some x ≡ Some y → x ≡ y
some_same x y e = ap (λ o. unwrap_or o x) e

pub split_whole : (xs ys : List ℕ) → split_off (length xs) (xs ++ ys) ≡ Some (xs, ys)
unfolding split_off
split_whole xs ys =
    rw (
      le-ltb (length (xs ++ ys)) (length xs) (omega (arith, length-append xs ys)),
      take-append_seam xs ys,
      drop-append_seam xs ys,
    ) refl

exact_there : (value a : ℕ) → (b : Bool) → Some a ≡ if◌then◌else◌ {A = Option ℕ} b (Some value) None → a ≡ value
exact_there value a true is = some_same a value is
exact_there value a false is = absurd (cc)

pub exact_is : (value a : ℕ) → Some a ≡ exact_of value → a ≡ value
exact_is value a is = exact_there value a (is_exact value) is

exact_found : (value : ℕ) (b : Bool) → b ≡ true → if◌then◌else◌ {A = Option ℕ} b (Some value) None ≡ Some value
exact_found value true is = refl
exact_found value false is = absurd (cc)

pub exact_back : (value : ℕ) → is_exact value ≡ true → exact_of value ≡ Some value
exact_back value is = exact_found value (is_exact value) is

pub split_length : (count : ℕ) (rest bytes more : List ℕ) → split_off count rest ≡ Some (bytes, more)
    → length bytes ≡ count
unfolding split_off
split_length count rest bytes more split = go (nat_lt (length rest) count) refl split
  where
    go : (b : Bool) → nat_lt (length rest) count ≡ b
        → if◌then◌else◌ {A = Option (List ℕ × List ℕ)} b None (Some (take count rest, drop count rest))
        ≡ Some (bytes, more)
        → length bytes ≡ count
    go true is s = absurd (cc)
    go false is s =
        let e : take count rest ≡ bytes = ap (λ (p : List ℕ × List ℕ). p.0) (some_same _ _ s) in
        omega (
          arith,
          length-take count rest,
          ltb-false (length rest) count is,
          ap (λ (l : List ℕ). length l) e,
        )

address_back : (a : ℕ) → a / 256 * 256 + a % 256 ≡ a
address_back a = omega arith

pub parts_back : (e : EncoderState Store) → encoder_parts (encoder_content e) ≡ Some (says_encoder e)
parts_back e =
    let a : ℕ = e.address / 256 * 256 + e.address % 256 in
    let pairs : List ℕ = pair_bytes e.ring in
    let messages : List ℕ = message_bytes e.value in
    ap (λ h. with_pairs a e.value.sets h) (split_whole e.value.services (length e.ring ∷ (pairs ++ messages)))
    ∙ ap (λ n. with_messages a e.value.sets e.value.services (split_off n (pairs ++ messages)))
    (sym (pairs_length e.ring))
    ∙ ap (λ h. with_messages a e.value.sets e.value.services h) (split_whole pairs messages)
    ∙ ap (λ (x : ℕ). Some (record {
      address = x;
      sets = e.value.sets;
      services = e.value.services;
      pairs = pairs;
      messages = messages;
    })) (address_back e.address)
