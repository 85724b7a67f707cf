-- Messages that are told one after another.
use Rattle.std.proofs.Common.{◌≡◌, ℕ, zero, suc, ◌<◌, Bool, true, false, List, [], ◌∷◌, ◌++◌, length, flat_map, take}
use Rattle.std.proofs.Common.{drop}
use Rattle.std.proofs.Common.{Option, Some, None, refl, ap, sym, subst, ◌∙◌, arith, length-drop, Fits, w8, ◌-◌, ◌≤◌}
use Rattle.std.proofs.Common.{get_or}
use Rattle.std.proofs.lemmas.List.{take_all}
use Rattle.std.specs.Prelude.{nat_lt, if◌then◌else◌}
use Rattle.uecp_elements.specs.declared.code.Code.TheVariants.{Applied}
use Rattle.rds_store.specs.Value.{Store}
use Rattle.rds_store.specs.Step.{step}
use Rattle.rds_store.specs.Opening.{opening, fault_of}
use Rattle.rds_store.specs.Laws.{MessagesKeepSetsAndServices}
use Rattle.uecp_elements.specs.Grammar.{AreBytes}
use Rattle.store_phrases.specs.Laws.{AppliesEach, IsMadeAgain, AreStations, messages_of}
use Rattle.end_images.specs.Reading.{IsOpenedStation}
use Rattle.end_images.specs.Images.{counted}
use Rattle.end_images.specs.Parsing.{split_off, Tells, SaysStore}
use Rattle.end_images.proofs.Apart.{split_whole}

abbrev pub first_of : List ℕ → ℕ
first_of [] = 0
first_of (x ∷ xs) = x

abbrev pub rest_of : List ℕ → List ℕ
rest_of [] = []
rest_of (x ∷ xs) = xs

-- Where none is left, the store is the one that is told.
pub told_all : (v : Store) (after : Store) → Tells v [] after → v ≡ after
told_all v after tells = go tells.0 tells.1 tells.2
  where
    go : (ms : List (List ℕ)) → [] ≡ flat_map counted ms → AppliesEach v ms after → v ≡ after
    go [] is applies = sym applies
    go (m ∷ ms) is applies = cc

-- What stands first is a message that is applied, and the others follow it.
pub record ToldFirst (v after : Store) (message more : List ℕ) : Type 0 where
  pub applied : (step v message).1 ≡ Applied
  pub rest : Tells (step v message).0 more after

told_halves : (v after : Store) (count : ℕ) (rest : List ℕ) → Tells v (count ∷ rest) after
    → (halves : List ℕ × List ℕ) × (split_off count rest ≡ Some halves) × ToldFirst v after halves.0 halves.1
told_halves v after count rest tells = go tells.0 tells.1 tells.2
  where
    go : (ms : List (List ℕ)) → count ∷ rest ≡ flat_map counted ms → AppliesEach v ms after
        → (halves : List ℕ × List ℕ) × (split_off count rest ≡ Some halves) × ToldFirst v after halves.0 halves.1
    go [] is applies = cc
    go (m ∷ ms) is applies =
        let count_is : count ≡ length m = ap first_of is in
        let rest_is : rest ≡ m ++ flat_map counted ms = ap rest_of is in
        let split : split_off count rest ≡ Some (m, flat_map counted ms) =
        ap (λ n. split_off n rest) count_is ∙ ap (split_off (length m)) rest_is
        ∙ split_whole m (flat_map counted ms) in
        ((m, flat_map counted ms), split, record { applied = applies.0; rest = (ms, refl, applies.1) })

abbrev pub halves : Option (List ℕ × List ℕ) → List ℕ × List ℕ
halves None = ([], [])
halves (Some p) = p

pub told_first : (v after : Store) (count : ℕ) (rest message more : List ℕ) → Tells v (count ∷ rest) after
    → split_off count rest ≡ Some (message, more) → ToldFirst v after message more
told_first v after count rest message more tells split =
    let told = told_halves v after count rest tells in
    let same : told.0 ≡ (message, more) = ap halves (sym told.1 ∙ split) in
    subst (λ (p : List ℕ × List ℕ). ToldFirst v after p.0 p.1) same told.2

pub told_short : (v after : Store) (count : ℕ) (rest : List ℕ) → Tells v (count ∷ rest) after
    → split_off count rest ≡ None → ⊥
told_short v after count rest tells split =
    let told = told_halves v after count rest tells in
    let both : Some told.0 ≡ None = sym told.1 ∙ split in cc

-- What is left of a list that is taken apart is shorter.
pub shorter : (count : ℕ) (rest message more : List ℕ) → split_off count rest ≡ Some (message, more)
    → length more < length (count ∷ rest)
unfolding split_off
shorter count rest message more split = go (nat_lt (length rest) count) split
  where
    go : (b : Bool)
        → if◌then◌else◌ {A = Option (List ℕ × List ℕ)} b None (Some (take count rest, drop count rest))
        ≡ Some (message, more)
        → length more < length (count ∷ rest)
    go true s = cc
    go false s =
        let e : drop count rest ≡ more = ap (λ (o : Option (List ℕ × List ℕ)). (halves o).1) s in
        omega (arith, length-drop count rest, ap (λ (l : List ℕ). length l) e)

-- ---- The same of bytes that are looked at from their first.

all_behind : (rest : List ℕ) (first : ℕ) → take (length (first ∷ rest) - 1) rest ≡ rest
all_behind rest first = take_all (length (first ∷ rest) - 1) rest (omega arith)

pub slice_told : (v after : Store) (bytes message more : List ℕ) → 1 ≤ length bytes → Tells v bytes after
    → split_off (get_or bytes 0 0) (take (length bytes - 1) (drop 1 bytes)) ≡ Some (message, more)
    → ToldFirst v after message more
slice_told v after [] message more within tells split = absurd (omega (arith, within))
slice_told v after (count ∷ rest) message more within tells split =
    told_first v after count rest message more tells (ap (split_off count) (sym (all_behind rest count)) ∙ split)

pub slice_short : (v after : Store) (bytes : List ℕ) → 1 ≤ length bytes → Tells v bytes after
    → split_off (get_or bytes 0 0) (take (length bytes - 1) (drop 1 bytes)) ≡ None → ⊥
slice_short v after [] within tells split = absurd (omega (arith, within))
slice_short v after (count ∷ rest) within tells split =
    told_short v after count rest tells (ap (split_off count) (sym (all_behind rest count)) ∙ split)

pub slice_shorter : (bytes message more : List ℕ) → 1 ≤ length bytes
    → split_off (get_or bytes 0 0) (take (length bytes - 1) (drop 1 bytes)) ≡ Some (message, more)
    → length more < length bytes
slice_shorter [] message more within split = absurd (omega (arith, within))
slice_shorter (count ∷ rest) message more within split =
    shorter count rest message more (ap (split_off count) (sym (all_behind rest count)) ∙ split)

-- What is told where parts say a store.
pub parts_tell : (remade : IsMadeAgain) (sets : ℕ) (services messages : List ℕ) (v : Store) → IsOpenedStation v
    → SaysStore sets services messages v → Tells (opening sets services) messages v
parts_tell remade sets services messages v is says =
    let told : AppliesEach (opening v.sets v.services) (messages_of v) v = remade v is.station is.opens in
    let with_sets : AppliesEach (opening sets v.services) (messages_of v) v =
    subst (λ (n : ℕ). AppliesEach (opening n v.services) (messages_of v) v) (sym says.sets_are) told in (
      messages_of v,
      says.messages_are,
      subst (λ (s : List ℕ). AppliesEach (opening sets s) (messages_of v) v) (sym says.services_are) with_sets,
    )

-- ---- Stores that are opened stations.

pub are_bytes : (xs : List ℕ) → ((i : ℕ) → Fits w8 (get_or xs i 0)) → AreBytes xs
are_bytes [] h = tt
are_bytes (x ∷ xs) h = (omega (arith, h 0), are_bytes xs (λ i. h (suc i)))

pub bytes_taken : (n : ℕ) (xs : List ℕ) → AreBytes xs → AreBytes (take n xs)
bytes_taken zero xs h = tt
bytes_taken (suc n) [] h = tt
bytes_taken (suc n) (x ∷ xs) h = (h.0, bytes_taken n xs h.1)

pub bytes_behind : (n : ℕ) (xs : List ℕ) → AreBytes xs → AreBytes (drop n xs)
bytes_behind zero xs h = h
bytes_behind (suc n) [] h = tt
bytes_behind (suc n) (x ∷ xs) h = bytes_behind n xs h.1

pub bytes_split : (count n k : ℕ) (xs message more : List ℕ) → AreBytes xs
    → split_off count (take n (drop k xs)) ≡ Some (message, more) → AreBytes message
unfolding split_off
bytes_split count n k xs message more bytes split = go (nat_lt (length (take n (drop k xs))) count) split
  where
    go : (b : Bool)
        → if◌then◌else◌ {A = Option (List ℕ × List ℕ)} b None
        (Some (take count (take n (drop k xs)), drop count (take n (drop k xs))))
        ≡ Some (message, more)
        → AreBytes message
    go true s = absurd (cc)
    go false s =
        subst AreBytes (ap (λ (o : Option (List ℕ × List ℕ)). (halves o).0) s)
        (bytes_taken count (take n (drop k xs)) (bytes_taken n (drop k xs) (bytes_behind k xs bytes)))

pub station_after : AreStations → MessagesKeepSetsAndServices → (v after : Store) (m : List ℕ) → AreBytes m
    → after ≡ (step v m).0 → IsOpenedStation v → IsOpenedStation after
station_after stations keep v after m bytes is opened =
    let same = keep v m in
    let next : IsOpenedStation (step v m).0 = record {
      station = stations.message v m opened.station bytes;
      opens = (λ i. fault_of (same.0 i) (same.1 i)) ∙ opened.opens;
    } in
    subst IsOpenedStation (sym is) next

pub station_opened : AreStations → (sets : ℕ) (services : List ℕ) (v : Store) → AreBytes services
    → fault_of sets services ≡ None → v ≡ opening sets services → IsOpenedStation v
station_opened stations sets services v bytes opens is =
    let first : IsOpenedStation (opening sets services) = record {
      station = stations.opened sets services bytes opens;
      opens = opens;
    } in
    subst IsOpenedStation (sym is) first

pub none_long : (xs : List ℕ) → length xs ≡ 0 → xs ≡ []
none_long [] h = refl
none_long (x ∷ xs) h = absurd (omega (arith, h))
