-- A store that is said to one that is alike.
use Rattle.std.proofs.Common.{◌≡◌, ℕ, ◌+◌, ◌≤◌, ◌==◌, nat_lt, Bool, true, false, ◌&&◌, ◌||◌, List, [], ◌∷◌, ◌++◌}
use Rattle.std.proofs.Common.{map, flat_map, length, refl, sym, ap, subst, ◌∙◌, arith, append_assoc, append-nil, eqb}
use Rattle.std.proofs.Common.{if◌then◌else◌}
use Rattle.std.proofs.lemmas.List.{length-append}
use Rattle.std.proofs.lemmas.Bool.{le-ltb, ne_eqb}
use Rattle.std.specs.List.{AllByRecursion}
use Rattle.uecp_elements.specs.declared.code.Code.TheVariants.{Applied, DataSet, OutOfRange, BufferFull}
use Rattle.uecp_elements.specs.Grammar.{Element, Select}
use Rattle.rds_store.specs.declared.group.Group.{Group as WaitingGroup}
use Rattle.rds_store.specs.Value.{Store}
use Rattle.rds_store.specs.Bits.{bits_4_to_0}
use Rattle.rds_store.specs.Content.{adds, is_wrong_rule}
use Rattle.rds_store.specs.Refusals.{set_numbers, code_of}
use Rattle.rds_store.specs.Put.{put, stored_on}
use Rattle.rds_store.specs.Laws.{PutsEach}
use Rattle.rds_store.proofs.Public.{same_places}
use Rattle.store_phrases.specs.Said.{rule_bits, group_said, groups_said, set_said}
use Rattle.store_phrases.specs.Station.{IsWaiting}
use Rattle.store_phrases.specs.Laws.{groups_left, told, IsSaidByElements}
use Rattle.store_phrases.proofs.Bits.{rule_told, rule_right, bits_told}
use Rattle.store_phrases.proofs.OneService.{puts_append}
use Rattle.store_phrases.proofs.Places.{services_told}

-- ---- Groups.
no_room_asked : (a b : Bool) → b ≡ false → (a && b) ≡ false
no_room_asked true b h = h
no_room_asked false b h = refl

-- the store with these groups
abbrev waiting : Store → List WaitingGroup → Store
waiting x groups = record x { groups = groups }

group_put : (is_added : Bool) (g : WaitingGroup) (x : Store) → IsWaiting g
    → (is_added && (length x.groups == 32)) ≡ false
    → put x (group_said is_added g)
    ≡ (waiting x (if is_added then x.groups ++ g ∷ [] else g ∷ []), Applied)
group_put is_added g x h room =
    ap (λ c. (stored_on c x e, c)) code ∙ (λ i. (
      waiting x (if rule i then x.groups ++ same i ∷ [] else same i ∷ []),
      Applied,
    ))
  where
    e : Element
    e = group_said is_added g

    rule : adds (rule_bits is_added + g.bits) ≡ is_added
    rule = rule_told is_added g.bits h.bits

    kind : nat_lt 0x1F g.kind ≡ false
    kind = le-ltb 0x1F g.kind h.kind

    right : is_wrong_rule (rule_bits is_added + g.bits) ≡ false
    right = rule_right is_added g.bits h.bits

    full : (adds (rule_bits is_added + g.bits) && (length x.groups == 32)) ≡ false
    full = ap (λ b. b && (length x.groups == 32)) rule ∙ room

    code : code_of x (group_said is_added g) ≡ Applied
    code = λ i. if kind i || right i then OutOfRange else if full i then BufferFull else Applied

    same : ◌≡◌ {A = WaitingGroup} (record {
      kind = g.kind;
      bits = bits_4_to_0 (rule_bits is_added + g.bits);
      block3 = g.block3;
      block4 = g.block4;
    }) g
    same = λ i. record {
      kind = g.kind;
      bits = bits_told is_added g.bits h.bits i;
      block3 = g.block3;
      block4 = g.block4;
    }

groups_added : (gs : List WaitingGroup) (x : Store) → AllByRecursion IsWaiting gs
    → length x.groups + length gs ≤ 32
    → PutsEach x (map (group_said true) gs) (waiting x (x.groups ++ gs))
groups_added [] x h few = λ i. waiting x (append-nil x.groups i)
groups_added (g ∷ gs) x h few =
    let longer = length-append x.groups (g ∷ []) in
    let one = group_put true g x h.0 (ne_eqb (length x.groups) 32 (λ e. omega arith)) in
    let more = groups_added gs (waiting x (x.groups ++ g ∷ [])) h.1 (omega arith) in (
      ap (λ r. r.1) one,
      subst (λ y. PutsEach y (map (group_said true) gs) (waiting x (x.groups ++ g ∷ gs))) (sym (ap (λ r. r.0) one))
          (subst (λ groups. PutsEach (waiting x (x.groups ++ g ∷ [])) (map (group_said true) gs) (waiting x groups))
          (append_assoc x.groups (g ∷ []) gs) more),
    )

groups_told : (gs : List WaitingGroup) (x : Store) → AllByRecursion IsWaiting gs → length gs ≤ 32
    → PutsEach x (groups_said gs) (waiting x (groups_left gs x.groups))
groups_told [] x h few = refl
groups_told (g ∷ gs) x h few =
    let one = group_put false g x h.0 refl in (
      ap (λ r. r.1) one,
      subst (λ y. PutsEach y (map (group_said true) gs) (waiting x (g ∷ gs))) (sym (ap (λ r. r.0) one))
          (groups_added gs (waiting x (g ∷ [])) h.1 (omega arith)),
    )

-- ---- The current set.
select_put : (x : Store) (current : ℕ) → x.sets ≤ 8 → 1 ≤ current → current ≤ x.sets
    → put x (Select current) ≡ (record x { current = current }, Applied)
select_put x current few from_1 there =
    let a : eqb current 0x00 ≡ false = ne_eqb current 0x00 (λ e. omega arith) in
    let b : eqb current 0xFE ≡ false = ne_eqb current 0xFE (λ e. omega arith) in
    let c : eqb current 0xFF ≡ false = ne_eqb current 0xFF (λ e. omega arith) in
    let d : nat_lt x.sets current ≡ false = le-ltb x.sets current there in
    let code : code_of x (Select current) ≡ Applied = λ i. if b i || c i || d i then DataSet else Applied in
    ap (λ c. (stored_on c x (Select current), c)) code
    ∙ ap (λ z. ((if z then x else record x { current = current }), Applied)) a

-- ---- All of it.
pub said_by_elements : IsSaidByElements
said_by_elements v w alike =
    let services = services_told v w alike.said alike.held alike.sets alike.services in
    let x = services.0 in
    let between = services.2 in
    let few : x.sets ≤ 8 = subst (λ n. n ≤ 8) (sym between.sets) alike.said.few_sets in
    let within : v.current ≤ x.sets = subst (λ n. v.current ≤ n) (sym between.sets) alike.said.current_there in
    let groups = groups_told v.groups x alike.said.groups alike.said.few_groups in
    let y = waiting x (groups_left v.groups x.groups) in
    let current = select_put y v.current few alike.said.current_from_1 within in
    let last : (put y (Select v.current)).0 ≡ told v w = ap (λ r. r.0) current ∙ (λ i. record {
      sets = between.sets i;
      services = between.services i;
      current = v.current;
      places = same_places x.places v.places (λ q. between.same q refl) i;
      groups = groups_left v.groups (between.groups i);
    }) in
    puts_append w x (told v w) (flat_map (set_said v) (set_numbers v.sets))
    (groups_said v.groups ++ Select v.current ∷ []) services.1
    (puts_append x y (told v w) (groups_said v.groups) (Select v.current ∷ []) groups
    (ap (λ r. r.1) current, sym last))
