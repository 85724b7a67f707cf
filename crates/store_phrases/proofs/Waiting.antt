-- The current set and the groups that an element leaves.
use Rattle.std.proofs.Common.{◌≡◌, ℕ, ◌≤◌, ◌==◌, nat_lt, Bool, true, false, ◌&&◌}
use Rattle.std.proofs.Common.{◌||◌, [], ◌∷◌, ◌++◌, length, refl, sym}
use Rattle.std.proofs.Common.{subst, ◌∙◌, arith, if◌then◌else◌}
use Rattle.std.proofs.lemmas.Bool.{false≢true, ltb-false, eq-eqb}
use Rattle.std.proofs.lemmas.List.{length-append}
use Rattle.std.specs.List.{AllByRecursion}
use Rattle.uecp_elements.specs.Grammar.{Element, Pi, Ps, TaTp, Ms, Pty, Rt, NoText, Text, Select, Group, Ack}
use Rattle.uecp_elements.specs.Grammar.{AreBytes, spelling}
use Rattle.rds_store.specs.declared.group.Group.{Group as WaitingGroup}
use Rattle.rds_store.specs.Bits.{bits_4_to_0}
use Rattle.rds_store.specs.Value.{Store}
use Rattle.rds_store.specs.Content.{adds, is_wrong_rule}
use Rattle.rds_store.specs.Refusals.{is_wrong_set, is_out_of_range}
use Rattle.rds_store.specs.Put.{stored}
use Rattle.store_phrases.specs.Station.{IsWaiting, IsStation}
use Rattle.store_phrases.proofs.Taken.{IsTaken, word_of, all_snoc}

-- ---- The current set and the groups.
pub record IsRest (v x : Store) : Type 0 where
  pub current_from_1 : 1 ≤ x.current
  pub current_there : x.current ≤ v.sets
  pub few_groups : length x.groups ≤ 32
  pub groups : AllByRecursion IsWaiting x.groups

pub rest_kept : (v : Store) → IsStation v → IsRest v v
rest_kept v h = record {
  current_from_1 = h.current_from_1;
  current_there = h.current_there;
  few_groups = h.few_groups;
  groups = h.groups;
}

selected : (v : Store) (d : ℕ) → IsStation v → is_wrong_set v (Select d) ≡ false → IsRest v (stored v (Select d))
selected v d h right = by (d == 0x00) refl
  where
    last : (a b c : Bool) → (a || b || c) ≡ false → c ≡ false
    last true b c h = absurd (false≢true (sym h))
    last false true c h = absurd (false≢true (sym h))
    last false false c h = h

    by : (b : Bool) → (d == 0x00) ≡ b → IsRest v (if b then v else record v { current = d })
    by true e = rest_kept v h
    by false e =
        let apart : (d ≡ 0 → ⊥) = λ k. false≢true (sym e ∙ eq-eqb d 0x00 k) in
        record {
          current_from_1 = omega arith;
          current_there = ltb-false v.sets d (last (d == 0xFE) (d == 0xFF) (nat_lt v.sets d) right);
          few_groups = h.few_groups;
          groups = h.groups;
        }

abbrev group_of : (kind mode block3 block4 : ℕ) → WaitingGroup
group_of kind mode block3 block4 = record {
  kind = kind;
  bits = bits_4_to_0 mode;
  block3 = block3;
  block4 = block4;
}

queued : (v : Store) (kind mode block3 block4 : ℕ) → IsStation v → AreBytes (spelling (Group kind mode block3 block4))
    → is_out_of_range (Group kind mode block3 block4) ≡ false
    → (adds mode && (length v.groups == 32)) ≡ false → IsRest v (stored v (Group kind mode block3 block4))
queued v kind mode block3 block4 h bytes range room = by (adds mode) room
  where
    first : (a b : Bool) → (a || b) ≡ false → a ≡ false
    first true b h = absurd (false≢true (sym h))
    first false b h = refl

    is_waiting : IsWaiting (group_of kind mode block3 block4)
    is_waiting = record {
      kind = ltb-false 0x1F kind (first (nat_lt 0x1F kind) (is_wrong_rule mode) range);
      bits = omega arith;
      block3 = word_of block3 bytes.1.1.1.0;
      block4 = word_of block4 bytes.1.1.1.1.1.0;
    }

    by : (b : Bool) → (b && (length v.groups == 32)) ≡ false
        → IsRest v (record v {
          groups = (if b then v.groups ++ group_of kind mode block3 block4
              ∷ [] else group_of kind mode block3 block4 ∷ []);
        })
    by true r =
        let longer = length-append v.groups (group_of kind mode block3 block4 ∷ []) in
        let few = h.few_groups in
        let apart : (length v.groups ≡ 32 → ⊥) = λ k. false≢true (sym r ∙ eq-eqb (length v.groups) 32 k) in
        record {
          current_from_1 = h.current_from_1;
          current_there = h.current_there;
          few_groups = omega arith;
          groups = all_snoc IsWaiting v.groups (group_of kind mode block3 block4) h.groups is_waiting;
        }
    by false r = record {
      current_from_1 = h.current_from_1;
      current_there = h.current_there;
      few_groups = omega arith;
      groups = (is_waiting, tt);
    }

addressed : (v x : Store) → IsStation v → x.current ≡ v.current → x.groups ≡ v.groups → IsRest v x
addressed v x h current groups = record {
  current_from_1 = subst (λ n. 1 ≤ n) (sym current) h.current_from_1;
  current_there = subst (λ n. n ≤ v.sets) (sym current) h.current_there;
  few_groups = subst (λ gs. length gs ≤ 32) (sym groups) h.few_groups;
  groups = subst (λ gs. AllByRecursion IsWaiting gs) (sym groups) h.groups;
}

pub rest_stored : (v : Store) (e : Element) → IsStation v → AreBytes (spelling e) → IsTaken v e → IsRest v (stored v e)
rest_stored v (Pi d p n) h bytes k = addressed v (stored v (Pi d p n)) h refl refl
rest_stored v (Ps d p n) h bytes k = addressed v (stored v (Ps d p n)) h refl refl
rest_stored v (TaTp d p n) h bytes k = addressed v (stored v (TaTp d p n)) h refl refl
rest_stored v (Ms d p n) h bytes k = addressed v (stored v (Ms d p n)) h refl refl
rest_stored v (Pty d p n) h bytes k = addressed v (stored v (Pty d p n)) h refl refl
rest_stored v (Rt d p NoText) h bytes k = addressed v (stored v (Rt d p NoText)) h refl refl
rest_stored v (Rt d p (Text n b)) h bytes k = addressed v (stored v (Rt d p (Text n b))) h refl refl
rest_stored v (Select d) h bytes k = selected v d h k.set
rest_stored v (Group kind mode x y) h bytes k = queued v kind mode x y h bytes k.range k.room
rest_stored v (Ack c n) h bytes k = absurd (false≢true (sym k.here))
