-- How the parts of a list of networks, and their pieces, are read.
use Rattle.std.proofs.Common.{◌≡◌, ℕ, ◌<◌, ◌≤◌, ◌==◌, Bool, zero, suc, List, [], ◌∷◌, ◌++◌, length, get_or, map}
use Rattle.std.proofs.Common.{refl, sym, ap, ◌∙◌, subst, arith, Bor, lit<}
use Rattle.std.specs.Prelude.{Option, Some, None}
use Rattle.std.specs.List.{AllZip, slice_split, join_with_byte}
use Rattle.std.specs.Net.Grammar.{IsIpText, IsNumber}
use Rattle.std.specs.declared.net.ip_addr.IpAddr.{IpAddr}
use Rattle.std.specs.declared.net.ip_addr.IpAddr.TheVariants.{V4, V6}
use Rattle.std.proofs.NetLemmas.Ipv6.{IsDotted-not_colon_hex}
use Rattle.std.proofs.lemmas.Bool.Decides.{nat_tests}
use Rattle.std.proofs.lemmas.List.{get_or_default}
use Rattle.std.proofs.lemmas.List.Splits.{slice_split_none, slice_split_first, length-slice_split}
use Rattle.std.proofs.lemmas.List.Splits.{join_with_byte-slice_split}
use Rattle.std.proofs.lemmas.Str.Parse.{digit_at}
use Rattle.std.proofs.lemmas.Str.Pattern.{IsSplitOnceResult, split_parts, split_once_first}
use Rattle.device_edges.specs.declared.allowed.Network.{Network}
use Rattle.device_edges.specs.Allowed.{IsNetwork, address_bits}

abbrev slash : ℕ → Bool
slash byte = byte == 47

-- no text writes an address of each version
same_version : (text : List ℕ) (a b : IpAddr) → IsIpText text a → IsIpText text b → address_bits a ≡ address_bits b
same_version text (V4 a) (V4 b) p q = refl
same_version text (V4 a) (V6 b) p q = absurd (IsDotted-not_colon_hex text _ _ p q)
same_version text (V6 a) (V4 b) p q = absurd (IsDotted-not_colon_hex text _ _ q p)
same_version text (V6 a) (V6 b) p q = refl

few_bits : (a : IpAddr) → address_bits a ≤ 128
few_bits (V4 a) = omega arith
few_bits (V6 a) = omega arith

-- what no slash cuts
one_piece : (text piece : List ℕ) → slice_split slash text ≡ piece ∷ [] → piece ≡ text
one_piece text piece e = sym (ap (join_with_byte 47) e) ∙ join_with_byte-slice_split 47 text

no_slash : (text : List ℕ) → ((i : ℕ) → i < length text → get_or text i 0 ≡ 47 → ⊥) → slice_split slash text ≡ text ∷ []
no_slash text none = slice_split_none slash text
    (λ k d lt. let same = get_or_default text k d 0 lt in let other = none k lt in grind (arith, nat_tests))

digits_alone : (digits : List ℕ) (number : ℕ) → IsNumber 10 digits number → slice_split slash digits ≡ digits ∷ []
digits_alone digits number p =
    no_slash digits (λ i lt e. let range = digit_at digits i p.0.1 lt in absurd (omega arith))

-- the pieces of a text are at least one
some_piece : (text : List ℕ) → slice_split slash text ≡ [] → ⊥
some_piece text e = let long = length-slice_split slash text in let none = ap length e in absurd (omega arith)

-- behind the slash stand no digits of so few bits
pub bits_refused : (address bits : List ℕ) → ((number : ℕ) → number ≤ 255 → ¬ (IsNumber 10 bits number))
    → (network : Network) → ¬ (IsNetwork (address ∷ slice_split slash bits) network)
bits_refused address bits none network p = go (slice_split slash bits) refl p
  where
    go : (pieces : List (List ℕ)) → slice_split slash bits ≡ pieces → IsNetwork (address ∷ pieces) network → ⊥
    go [] e q = some_piece bits e
    go (b ∷ []) e q = none network.bits (let few = few_bits network.address in let most = q.2 in omega arith)
        (subst (λ t. IsNumber 10 t network.bits) (one_piece bits b e) q.1)
    go (b ∷ c ∷ more) e q = q

-- there stand more than the address has
pub bits_too_many : (address bits : List ℕ) (own : IpAddr) (number : ℕ) → IsIpText address own → IsNumber 10 bits number
    → address_bits own < number → (network : Network) → ¬ (IsNetwork (address ∷ slice_split slash bits) network)
bits_too_many address bits own number text digits many network p = go (slice_split slash bits) refl p
  where
    go : (pieces : List (List ℕ)) → slice_split slash bits ≡ pieces → IsNetwork (address ∷ pieces) network → ⊥
    go [] e q = some_piece bits e
    go (b ∷ []) e q =
        let value = subst (λ t. IsNumber 10 t network.bits) (one_piece bits b e) q.1 in
        let same : network.bits ≡ number = sym value.1 ∙ digits.1 in
        let version = same_version address network.address own q.0 text in
        let most = q.2 in
        absurd (omega arith)
    go (b ∷ c ∷ more) e q = q

pub bits_counted : (address bits : List ℕ) (network : Network) → IsIpText address network.address
    → IsNumber 10 bits network.bits → network.bits ≤ address_bits network.address
    → IsNetwork (address ∷ slice_split slash bits) network
bits_counted address bits network text digits few =
    subst (λ pieces. IsNetwork (address ∷ pieces) network) (sym (digits_alone bits network.bits digits))
    (text, digits, few)

-- what stands before and behind the first slash
pub uncut : (text : List ℕ) (r : Option (Bor (List ℕ) × Bor (List ℕ))) → IsSplitOnceResult 47 text r → r ≡ None
    → slice_split slash text ≡ text ∷ []
uncut text r split is = no_slash text (rw is at (split_parts 47 text r split (lit< tt)))

pub cut : (text : List ℕ) (r : Option (Bor (List ℕ) × Bor (List ℕ))) → IsSplitOnceResult 47 text r
    → (x : Bor (List ℕ) × Bor (List ℕ)) → r ≡ Some x
    → slice_split slash text ≡ x.0.now ∷ slice_split slash x.1.now
cut text r split x is =
    let (inside, front, back) = rw is at (split_once_first 47 text r split (lit< tt)) in
    let first = slice_split_first slash text 0 inside in
    rw (front, back) first

-- one more part, and one that writes nothing
pub zip_push : {X A B : Type 0} (R : A → B → Type 0) (shown : X → A) (xs : List X) (ys : List B) (x : X) (y : B)
    → AllZip R (map shown xs) ys → R (shown x) y → AllZip R (map shown (xs ++ x ∷ [])) (ys ++ y ∷ [])
zip_push R shown [] [] x y p q = (q, tt)
zip_push R shown [] (b ∷ ys) x y p q = absurd p
zip_push R shown (a ∷ xs) [] x y p q = absurd p
zip_push R shown (a ∷ xs) (b ∷ ys) x y p q = (p.0, zip_push R shown xs ys x y p.1 q)

pub zip_none : {A B : Type 0} (R : A → B → Type 0) (xs : List A) (ys : List B) (i : ℕ) (d : A) → i < length xs
    → ((y : B) → R (get_or xs i d) y → ⊥) → AllZip R xs ys → ⊥
zip_none R [] ys i d lt none p = absurd (omega (arith, lt))
zip_none R (x ∷ xs) [] i d lt none p = p
zip_none R (x ∷ xs) (y ∷ ys) zero d lt none p = none y p.0
zip_none R (x ∷ xs) (y ∷ ys) (suc i) d lt none p = zip_none R xs ys i d (omega (arith, lt)) none p.1
