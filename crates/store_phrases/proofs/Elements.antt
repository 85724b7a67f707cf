-- Each element of a store that can be is one, of bytes.
use Rattle.std.proofs.Common.{◌≡◌, ℕ, ◌+◌, ◌*◌, ◌/◌, ◌%◌, ◌<◌, ◌≤◌, Bool, true, false, List, [], ◌∷◌, ◌++◌, map}
use Rattle.std.proofs.Common.{flat_map}
use Rattle.std.proofs.Common.{Option, Some, None, refl, arith}
use Rattle.std.specs.Option.{option_map_or}
use Rattle.std.specs.List.{AllByRecursion}
use Rattle.std.specs.FinMap.{get}
use Rattle.uecp_elements.specs.Grammar.{Element, Select, IsElement, AreBytes, spelling}
use Rattle.rds_store.specs.declared.group.Group.{Group as WaitingGroup}
use Rattle.rds_store.specs.Value.{StoredText, ServiceData, Store}
use Rattle.rds_store.specs.Refusals.{set_numbers}
use Rattle.store_phrases.specs.Said.{rule_bits, flag_bit, values_said, text_said, texts_said}
use Rattle.store_phrases.specs.Said.{service_said, said_at, set_said, group_said, groups_said, said_of}
use Rattle.store_phrases.specs.Station.{IsText, IsService, IsWaiting, IsStation}
use Rattle.store_phrases.specs.Laws.{AreElements}
use Rattle.store_phrases.proofs.Bits.{flag_few}
use Rattle.store_phrases.proofs.Places.{counted}

abbrev pub IsSayable : Element → Type 0
IsSayable e = IsElement e × AreBytes (spelling e)

-- ---- Lists.
pub all_append : {A : Type 0} (P : A → Type 0) (xs ys : List A) → AllByRecursion P xs → AllByRecursion P ys
    → AllByRecursion P (xs ++ ys)
all_append P [] ys h k = k
all_append P (x ∷ xs) ys h k = (h.0, all_append P xs ys h.1 k)

all_map : {A B : Type 0} (P : B → Type 0) (Q : A → Type 0) (f : A → B) → ((x : A) → Q x → P (f x)) → (xs : List A)
    → AllByRecursion Q xs → AllByRecursion P (map f xs)
all_map P Q f more [] h = tt
all_map P Q f more (x ∷ xs) h = (more x h.0, all_map P Q f more xs h.1)

all_flat_map : {A B : Type 0} (P : B → Type 0) (Q : A → Type 0) (f : A → List B)
    → ((x : A) → Q x → AllByRecursion P (f x)) → (xs : List A) → AllByRecursion Q xs → AllByRecursion P (flat_map f xs)
all_flat_map P Q f more [] h = tt
all_flat_map P Q f more (x ∷ xs) h =
    all_append P (f x) (flat_map f xs) (more x h.0) (all_flat_map P Q f more xs h.1)

-- ---- Services.
flags_few : (a b : Bool) → 2 * flag_bit a + flag_bit b < 0x100
flags_few a b = let f = flag_few a in let g = flag_few b in omega arith

rule_few : (is_added : Bool) (n : ℕ) → n ≤ 31 → rule_bits is_added + n < 0x100
rule_few true n h = omega arith
rule_few false n h = omega arith

high : (n : ℕ) → n < 0x10000 → n / 0x100 < 0x100
high n h = omega arith

low : (n : ℕ) → n % 0x100 < 0x100
low n = omega arith

byte_of_flag : (b : Bool) → flag_bit b < 0x100
byte_of_flag b = let f = flag_few b in omega arith

module _ (set number : ℕ) (set_is : set < 0x100) (number_is : number < 0x100) where
  text_sayable : (is_added : Bool) (t : StoredText) → IsText t → IsSayable (text_said set number is_added t)
  text_sayable is_added t h =
      let f = flag_few t.toggle in
      let times = h.times in
      let short = h.short in (
        h.short,
        (
          omega arith,
          (
            set_is,
            (
              number_is,
              (
                omega arith,
                (rule_few is_added (2 * t.transmissions + flag_bit t.toggle) (omega arith), h.bytes),
              ),
            ),
          ),
        ),
      )

  texts_sayable : (ts : List StoredText) → AllByRecursion IsText ts
      → AllByRecursion IsSayable (texts_said set number ts)
  texts_sayable [] h = ((tt, (omega arith, (set_is, (number_is, (omega arith, tt))))), tt)
  texts_sayable (t ∷ ts) h = (
    text_sayable false t h.0,
    all_map IsSayable IsText (text_said set number true) (text_sayable true) ts h.1,
  )

  service_sayable : (s : ServiceData) → IsService s → AllByRecursion IsSayable (service_said set number s)
  service_sayable s h =
      let pty = h.pty in
      all_append IsSayable (values_said set number s) (texts_said set number s.texts) (
        (tt, (omega arith, (set_is, (number_is, (high s.pi h.pi, (low s.pi, tt)))))),
        (
          (h.eight, (omega arith, (set_is, (number_is, h.name)))),
          (
            (tt, (omega arith, (set_is, (number_is, (flags_few s.tp s.ta, tt))))),
            (
              (tt, (omega arith, (set_is, (number_is, (byte_of_flag s.music, tt))))),
              ((tt, (omega arith, (set_is, (number_is, (omega arith, tt))))), tt),
            ),
          ),
        ),
      )
      (texts_sayable s.texts h.texts)

-- ---- Groups.
group_sayable : (is_added : Bool) (g : WaitingGroup) → IsWaiting g → IsSayable (group_said is_added g)
group_sayable is_added g h =
    let kind = h.kind in (
      tt,
      (
        omega arith,
        (
          omega arith,
          (
            rule_few is_added g.bits h.bits,
            (high g.block3 h.block3, (low g.block3, (high g.block4 h.block4, (low g.block4, tt)))),
          ),
        ),
      ),
    )

groups_sayable : (gs : List WaitingGroup) → AllByRecursion IsWaiting gs → AllByRecursion IsSayable (groups_said gs)
groups_sayable [] h = tt
groups_sayable (g ∷ gs) h = (
  group_sayable false g h.0,
  all_map IsSayable IsWaiting (group_said true) (group_sayable true) gs h.1,
)

-- ---- All of it.
module _ (v : Store) (h : IsStation v) where
  at_sayable : (set number : ℕ) → set < 0x100 → number < 0x100 → AllByRecursion IsSayable (said_at v set number)
  unfolding said_at
  at_sayable set number a b = by (get v.places (set, number)) (h.each (set, number))
    where
      by : (o : Option ServiceData) → ((s : ServiceData) → o ≡ Some s → IsService s)
          → AllByRecursion IsSayable (option_map_or (service_said set number) o [])
      by None each = tt
      by (Some s) each = service_sayable set number a b s (each s refl)

  set_sayable : (set : ℕ) → set < 0x100 → AllByRecursion IsSayable (set_said v set)
  set_sayable set a = all_flat_map IsSayable (λ n. (1 ≤ n) × (n < 0x100)) (said_at v set)
      (λ n b. at_sayable set n a b.1) v.services h.numbers

  pub all_sayable : AllByRecursion IsSayable (said_of v)
  all_sayable =
      let few = h.few_sets in
      let there = h.current_there in
      all_append IsSayable (flat_map (set_said v) (set_numbers v.sets)) (groups_said v.groups ++ Select v.current ∷ [])
      (all_flat_map IsSayable (λ k. (1 ≤ k) × (k < 1 + v.sets)) (set_said v)
      (λ k a. let below = a.1 in set_sayable k (omega arith)) (set_numbers v.sets) (counted v.sets 1))
      (all_append IsSayable (groups_said v.groups) (Select v.current ∷ []) (groups_sayable v.groups h.groups)
      ((tt, (omega arith, (omega arith, tt))), tt))

pub are_elements : AreElements
are_elements = all_sayable
