-- Each store that can be is a station: the opening one is, and elements, messages and takes leave one.
use Rattle.std.proofs.Common.{◌≡◌, ℕ, ◌<◌, ◌≤◌, ◌==◌, nat_le, Bool, true, false, ◌&&◌}
use Rattle.std.proofs.Common.{List, [], ◌∷◌, ◌++◌, map, length, Option, Some, None, is_some, refl, sym}
use Rattle.std.proofs.Common.{ap, subst, ◌∙◌, arith, if◌then◌else◌, flat_map}
use Rattle.std.proofs.lemmas.Bool.{false≢true}
use Rattle.std.specs.Option.{option_map}
use Rattle.std.specs.List.{list_any, AllByRecursion}
use Rattle.std.specs.FinMap.{get}
use Rattle.uecp_elements.specs.declared.code.Code.{Code}
use Rattle.uecp_elements.specs.declared.code.Code.TheVariants.{Applied, UnknownElement, DataSet, Service, OutOfRange}
use Rattle.uecp_elements.specs.declared.code.Code.TheVariants.{ElementLength, NotHere, BufferFull}
use Rattle.uecp_elements.specs.Grammar.{Element}
use Rattle.uecp_elements.specs.Grammar.{IsElement, AreBytes, spelling}
use Rattle.uecp_elements.specs.Folding.{is_applied}
use Rattle.rds_store.specs.declared.group.Group.{Group as WaitingGroup}
use Rattle.rds_store.specs.Value.{ServiceData, Store}
use Rattle.rds_store.specs.Names.{names}
use Rattle.rds_store.specs.Content.{taken}
use Rattle.rds_store.specs.Refusals.{code_of}
use Rattle.rds_store.specs.Put.{put, stored_on}
use Rattle.rds_store.specs.Step.{group_taken, first_taken}
use Rattle.rds_store.proofs.Public.{changes_named_places_alone, keeps_sets_and_services}
use Rattle.rds_store.specs.Step.{step, element_by_element}
use Rattle.uecp_elements.specs.declared.fault.ElementFault.{ElementFault}
use Rattle.uecp_elements.specs.Reading.{IsRead, items, fault_item}
use Rattle.uecp_elements.specs.Folding.{folded}
use Rattle.uecp_elements.proofs.Public.{has_reading}
use Rattle.std.proofs.Common.{Ok, append_assoc}
use Rattle.store_phrases.specs.Laws.{AreStations}
use Rattle.store_phrases.proofs.Elements.{IsSayable}
use Rattle.store_phrases.specs.Station.{IsService, IsWaiting, is_place, IsStation}
use Rattle.store_phrases.proofs.Taken.{is_taken, taken_service, room_named}
use Rattle.store_phrases.proofs.Waiting.{IsRest, rest_kept, rest_stored}
use Rattle.store_phrases.proofs.Opened.{opened}

-- ---- One element.
some_there : (f : ServiceData → ServiceData) (o : Option ServiceData)
    → is_some (option_map f o) ≡ is_some o
some_there f None = refl
some_there f (Some s) = refl

module _ (v : Store) (e : Element) (h : IsStation v) (element : IsElement e) (bytes : AreBytes (spelling e)) where
  each_after : (c : Code) → code_of v e ≡ c → (q : ℕ × ℕ) (o : Option ServiceData) → get v.places q ≡ o
      → (s : ServiceData)
      → option_map (λ s. if is_applied c && names v e q then taken e s else s) o ≡ Some s → IsService s
  each_after c code q None at s is = cc
  each_after c code q (Some old) at s is = by c code (is_applied c) refl (names v e q) refl (some_same is)
    where
      some_same : Some (if is_applied c && names v e q then taken e old else old) ≡ Some s
          → (if is_applied c && names v e q then taken e old else old) ≡ s
      some_same is = cc

      place : is_place v q ≡ true
      place = sym (h.there q) ∙ ap is_some at

      applied : (c : Code) → is_applied c ≡ true → c ≡ Applied
      applied Applied k = refl
      applied UnknownElement k = absurd (false≢true k)
      applied DataSet k = absurd (false≢true k)
      applied Service k = absurd (false≢true k)
      applied OutOfRange k = absurd (false≢true k)
      applied ElementLength k = absurd (false≢true k)
      applied NotHere k = absurd (false≢true k)
      applied BufferFull k = absurd (false≢true k)

      by : (c : Code) → code_of v e ≡ c → (a : Bool) → is_applied c ≡ a → (b : Bool) → names v e q ≡ b
          → (if a && b then taken e old else old) ≡ s → IsService s
      by c code false ca b named same = subst IsService same (h.each q old at)
      by c code true ca false named same = subst IsService same (h.each q old at)
      by c code true ca true named same =
          let why = is_taken v e (code ∙ applied c ca) in
          subst IsService same (taken_service e old (h.each q old at) element bytes why.range
          (room_named v e q old why place at named))

  rest_after : (c : Code) → code_of v e ≡ c → IsRest v (stored_on c v e)
  rest_after Applied code = rest_stored v e h bytes (is_taken v e code)
  rest_after UnknownElement code = rest_kept v h
  rest_after DataSet code = rest_kept v h
  rest_after Service code = rest_kept v h
  rest_after OutOfRange code = rest_kept v h
  rest_after ElementLength code = rest_kept v h
  rest_after NotHere code = rest_kept v h
  rest_after BufferFull code = rest_kept v h

  pub after_element : IsStation (put v e).0
  after_element =
      let sets = (keeps_sets_and_services v e).0 in
      let services = (keeps_sets_and_services v e).1 in
      let rest = rest_after (code_of v e) refl in
      record {
        few_sets = subst (λ n. n ≤ 8) (sym sets) h.few_sets;
        current_from_1 = rest.current_from_1;
        current_there = subst (λ n. (put v e).0.current ≤ n) (sym sets) rest.current_there;
        numbers = subst (AllByRecursion (λ n. (1 ≤ n) × (n < 0x100))) (sym services) h.numbers;
        there = λ q. ap is_some (changes_named_places_alone v e q)
            ∙ some_there (λ s. if is_applied (code_of v e) && names v e q then taken e s else s)
            (get v.places q)
            ∙ h.there q
            ∙ sym (λ i. list_any (λ n. q.1 == n) (services i) && (nat_le 1 q.0 && nat_le q.0 (sets i)));
        each = λ q s is. each_after (code_of v e) refl q (get v.places q) refl s
            (sym (changes_named_places_alone v e q) ∙ is);
        few_groups = rest.few_groups;
        groups = rest.groups;
      }

-- ---- A message.
sayable_parts : (es : List Element) (rest : List ℕ) → AreBytes (flat_map spelling es ++ rest)
    → AllByRecursion IsElement es → AllByRecursion IsSayable es
sayable_parts [] rest bytes each = tt
sayable_parts (e ∷ es) rest bytes each =
    let both = split (spelling e) (flat_map spelling es ++ rest)
    (subst AreBytes (append_assoc (spelling e) (flat_map spelling es) rest) bytes) in
    ((each.0, both.0), sayable_parts es rest both.1 each.1)
  where
    split : (xs ys : List ℕ) → AreBytes (xs ++ ys) → AreBytes xs × AreBytes ys
    split [] ys h = (tt, h)
    split (x ∷ xs) ys h = let more = split xs ys h.1 in ((h.0, more.0), more.1)

after_items : (es : List Element) (fault : Option ElementFault) (v : Store) → IsStation v
    → AllByRecursion IsSayable es → IsStation (folded put v (map Ok es ++ fault_item fault)).0
unfolding folded
after_items [] None v h each = h
after_items [] (Some f) v h each = h
after_items (e ∷ es) fault v h each =
    by (is_applied (put v e).1) (after_items es fault (put v e).0 (after_element v e h each.0.0 each.0.1) each.1)
  where
    by : (b : Bool) → IsStation (folded put (put v e).0 (map Ok es ++ fault_item fault)).0
        → IsStation (if b then folded put (put v e).0 (map Ok es ++ fault_item fault) else put v e).0
    by true more = more
    by false more = after_element v e h each.0.0 each.0.1

after_message : (v : Store) (m : List ℕ) → IsStation v → AreBytes m → IsStation (step v m).0
after_message v m h bytes = by (is_applied (element_by_element v m).1)
  where
    one : IsRead m (items m)
    one = has_reading m bytes

    all_put : IsStation (element_by_element v m).0
    all_put = subst (λ is. IsStation (folded put v is).0) (sym one.2)
        (after_items one.0.elements one.0.fault v h
        (sayable_parts one.0.elements one.1.rest (subst AreBytes one.1.joined bytes) one.1.each))

    by : (b : Bool) → IsStation (if b then (element_by_element v m).0 else v)
    by true = all_put
    by false = h

-- ---- A group that goes out.
after_take : (v : Store) → IsStation v → IsStation (group_taken v).0
after_take v h = by v.groups h.few_groups h.groups
  where
    by : (gs : List WaitingGroup) → length gs ≤ 32 → AllByRecursion IsWaiting gs → IsStation (first_taken v gs).0
    by [] few each = h
    by (g ∷ gs) few each = record {
      few_sets = h.few_sets;
      current_from_1 = h.current_from_1;
      current_there = h.current_there;
      numbers = h.numbers;
      there = h.there;
      each = h.each;
      few_groups = omega arith;
      groups = each.1;
    }

pub are_stations : AreStations
are_stations = record {
  opened = opened;
  element = λ v e h element bytes. after_element v e h element bytes;
  message = after_message;
  take = after_take;
}
