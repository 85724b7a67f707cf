-- Worked examples: the definitions compute.
use Rattle.std.proofs.Common.{◌≡◌, ℕ, List, [], ◌∷◌, ◌++◌, false, ◌&&◌, Some, None, refl, ap, ◌∙◌, replicate}
use Rattle.std.proofs.Common.{if◌then◌else◌}
use Rattle.std.specs.Option.{option_map}
use Rattle.std.specs.List.{flat_map}
use Rattle.std.specs.FinMap.{get, from_entries, get-from_entries}
use Rattle.uecp_elements.specs.declared.code.Code.{Code}
use Rattle.uecp_elements.specs.declared.code.Code.TheVariants.{Applied, UnknownElement, DataSet, Service, OutOfRange}
use Rattle.uecp_elements.specs.declared.code.Code.TheVariants.{ElementLength, NotHere, BufferFull}
use Rattle.uecp_elements.specs.Grammar.{Element, Pi, Pty, Rt, NoText, Text, Select, Group, Ack}
use Rattle.uecp_elements.specs.Reading.{items_at, first}
use Rattle.uecp_elements.specs.Folding.{folded, is_applied}
use Rattle.rds_store.specs.declared.group.Group.{Group as WaitingGroup}
use Rattle.rds_store.specs.Value.{StoredText, ServiceData, Store}
use Rattle.rds_store.specs.Names.{names}
use Rattle.rds_store.specs.Content.{opening_service, taken}
use Rattle.rds_store.specs.Put.{put}
use Rattle.rds_store.specs.Step.{step, group_taken}
use Rattle.rds_store.specs.Laws.{TakesOut}
use Rattle.rds_store.specs.Opening.{opening, opening_places, fault_of}
use Rattle.rds_store.specs.declared.fault.StoreFault.TheVariants.{SetCount, ServiceCount, ServiceZero, ServiceTwice}
use Rattle.rds_store.proofs.Places.{place_total}
use Rattle.rds_store.proofs.LawProofs.{changes_named_places_alone}

abbrev one_set : Store
one_set = opening 1 (0x01 ∷ [])

abbrev two_sets : Store
two_sets = opening 2 (0x01 ∷ [])

opening_place : get two_sets.places (2, 0x01) ≡ Some opening_service
opening_place = get-from_entries place_total (flat_map (opening_places 2) (0x01 ∷ [])) (2, 0x01)

no_place : get two_sets.places (3, 0x01) ≡ None
no_place = get-from_entries place_total (flat_map (opening_places 2) (0x01 ∷ [])) (3, 0x01)

-- what an element leaves at a place
at_place : (v : Store) (e : Element) (place : ℕ × ℕ) (s : ServiceData) → get v.places place ≡ Some s
    → get (put v e).0.places place ≡ Some (if is_applied (put v e).1 && names v e place then taken e s else s)
at_place v e place s h = changes_named_places_alone v e place
    ∙ ap (option_map (λ s. if is_applied (put v e).1 && names v e place then taken e s else s)) h

abbrev hi : StoredText
hi = record { toggle = false; transmissions = 0; bytes = 0x48 ∷ 0x49 ∷ [] }

-- a store once some elements were put in turn, and the code of one more
abbrev after : Store → List Element → Store
after v [] = v
after v (e ∷ es) = after (put v e).0 es

abbrev code_after : Store → List Element → Element → Code
code_after v es e = (put (after v es) e).1

abbrev add_hi : ℕ → Element
add_hi dsn = Rt dsn 0x00 (Text 0x40 (0x48 ∷ 0x49 ∷ []))

-- eight texts in set 2, and then one for all sets
abbrev full_in_set_2 : List ((ℕ × ℕ) × ServiceData)
full_in_set_2 = ((1, 0x01), opening_service) ∷ ((2, 0x01), record opening_service { texts = replicate 8 hi }) ∷ []

full_set : (put (record two_sets { places = from_entries full_in_set_2 }) (add_hi 0xFF)).1 ≡ BufferFull
full_set =
    let set_1 = get-from_entries place_total full_in_set_2 (1, 0x01) in
    let set_2 = get-from_entries place_total full_in_set_2 (2, 0x01) in
    rw (set_1, set_2) refl

-- all but the current of one set
no_set : (put one_set (Pi 0xFE 0x00 0x1234)).1 ≡ Applied
no_set = refl

no_set_is_changed : get (put one_set (Pi 0xFE 0x00 0x1234)).0.places (1, 0x01) ≡ Some opening_service
no_set_is_changed = at_place one_set (Pi 0xFE 0x00 0x1234) (1, 0x01) opening_service
    (get-from_entries place_total (flat_map (opening_places 1) (0x01 ∷ [])) (1, 0x01))

no_set_but_no_service : (put one_set (Pi 0xFE 0x05 0x1234)).1 ≡ Service
no_set_but_no_service = refl

-- selection and numbers
abbrev chosen : Store
chosen = after two_sets (Select 0x02 ∷ Pi 0x00 0x00 0xABCD ∷ Pi 0xFE 0x00 0x1111 ∷ [])

chosen_set : chosen.current ≡ 2
chosen_set = refl

set_2_is_chosen : get chosen.places (2, 0x01) ≡ Some (record opening_service { pi = 0xABCD })
set_2_is_chosen =
    at_place (after two_sets (Select 0x02 ∷ Pi 0x00 0x00 0xABCD ∷ [])) (Pi 0xFE 0x00 0x1111) (2, 0x01)
    (record opening_service { pi = 0xABCD })
    (at_place (after two_sets (Select 0x02 ∷ [])) (Pi 0x00 0x00 0xABCD) (2, 0x01) opening_service
    (at_place two_sets (Select 0x02) (2, 0x01) opening_service opening_place))

set_1_is_the_other : get chosen.places (1, 0x01) ≡ Some (record opening_service { pi = 0x1111 })
set_1_is_the_other =
    at_place (after two_sets (Select 0x02 ∷ Pi 0x00 0x00 0xABCD ∷ [])) (Pi 0xFE 0x00 0x1111) (1, 0x01) opening_service
    (at_place (after two_sets (Select 0x02 ∷ [])) (Pi 0x00 0x00 0xABCD) (1, 0x01) opening_service
    (at_place two_sets (Select 0x02) (1, 0x01) opening_service
    (get-from_entries place_total (flat_map (opening_places 2) (0x01 ∷ [])) (1, 0x01))))

no_third_set : put chosen (Select 0x03) ≡ (chosen, DataSet)
no_third_set = refl

no_selection_of_others : put chosen (Select 0xFE) ≡ (chosen, DataSet)
no_selection_of_others = refl

current_is_kept : put chosen (Select 0x00) ≡ (chosen, Applied)
current_is_kept = refl

set_before_service : (put chosen (Pty 0x03 0x05 0xFF)).1 ≡ DataSet
set_before_service = refl

service_before_range : (put chosen (Pty 0x01 0x05 0xFF)).1 ≡ Service
service_before_range = refl

range_of_pty : (put chosen (Pty 0x01 0x00 0x20)).1 ≡ OutOfRange
range_of_pty = refl

not_here : put chosen (Ack 0x00 0x01) ≡ (chosen, NotHere)
not_here = refl

-- groups
abbrev group_element : (mode : ℕ) → Element
group_element mode = Group 0x00 mode 0x1234 0x5678

abbrev waiting_group : WaitingGroup
waiting_group = record { kind = 0x00; bits = 0x03; block3 = 0x1234; block4 = 0x5678 }

one_group : (after one_set (group_element 0x43 ∷ [])).groups ≡ waiting_group ∷ []
one_group = refl

full_queue : code_after one_set (replicate 32 (group_element 0x43)) (group_element 0x43) ≡ BufferFull
full_queue = refl

range_before_room : code_after one_set (replicate 32 (group_element 0x43)) (Group 0x20 0x40 0x0000 0x0000) ≡ OutOfRange
range_before_room = refl

one_group_again : (after one_set (replicate 32 (group_element 0x43) ++ group_element 0x03 ∷ [])).groups ≡ waiting_group
    ∷ []
one_group_again = refl

-- takes
abbrev two_groups : List Element
two_groups = Group 0x00 0x40 0x0000 0x0000 ∷ Group 0x01 0x40 0x0000 0x0000 ∷ []

abbrev zero_group : (kind : ℕ) → WaitingGroup
zero_group kind = record { kind = kind; bits = 0x00; block3 = 0x0000; block4 = 0x0000 }

first_in_first_out : TakesOut (after one_set two_groups) (zero_group 0x00 ∷ zero_group 0x01 ∷ []) one_set
first_in_first_out = (refl, (refl, refl))

none_to_take : group_taken one_set ≡ (one_set, None)
none_to_take = refl

room_after_a_take : code_after (group_taken (after one_set (replicate 32 (group_element 0x43)))).0 []
    (group_element 0x43) ≡ Applied
room_after_a_take = refl

-- messages
before_an_unknown_element : step one_set (0x01 ∷ 0x00 ∷ 0x00 ∷ 0x12 ∷ 0x34 ∷ 0x99 ∷ []) ≡ (one_set, UnknownElement)
unfolding folded items_at first
before_an_unknown_element = refl

an_empty_text : step one_set (0x0A ∷ 0x00 ∷ 0x00 ∷ 0x01 ∷ 0x00 ∷ []) ≡ put one_set (Rt 0x00 0x00 (Text 0x00 []))
unfolding folded items_at first
an_empty_text = refl

no_text : get (step one_set (0x0A ∷ 0x00 ∷ 0x00 ∷ 0x01 ∷ 0x00 ∷ 0x0A ∷ 0x00 ∷ 0x00 ∷ 0x00 ∷ [])).0.places (1, 0x01)
    ≡ Some opening_service
unfolding folded items_at first
no_text =
    at_place (after one_set (Rt 0x00 0x00 (Text 0x00 []) ∷ [])) (Rt 0x00 0x00 NoText) (1, 0x01)
    (record opening_service { texts = record { toggle = false; transmissions = 0; bytes = [] } ∷ [] })
    (at_place one_set (Rt 0x00 0x00 (Text 0x00 [])) (1, 0x01) opening_service
    (get-from_entries place_total (flat_map (opening_places 1) (0x01 ∷ [])) (1, 0x01)))

a_long_text : step one_set (0x0A ∷ 0x00 ∷ 0x00 ∷ 0x42 ∷ []) ≡ (one_set, ElementLength)
unfolding folded items_at first
a_long_text = refl

a_cut_text : step one_set (0x0A ∷ 0x00 ∷ 0x00 ∷ 0x03 ∷ 0x40 ∷ 0x48 ∷ []) ≡ (one_set, ElementLength)
unfolding folded items_at first
a_cut_text = refl

rule_01 : step one_set (0x0A ∷ 0x00 ∷ 0x00 ∷ 0x01 ∷ 0x20 ∷ []) ≡ (one_set, OutOfRange)
unfolding folded items_at first
rule_01 = refl

rule_11 : step one_set (0x0A ∷ 0x00 ∷ 0x00 ∷ 0x01 ∷ 0x60 ∷ []) ≡ (one_set, OutOfRange)
unfolding folded items_at first
rule_11 = refl

-- no store
nine_sets : fault_of 9 [] ≡ Some SetCount
nine_sets = refl

no_services : fault_of 1 [] ≡ Some ServiceCount
no_services = refl

zero_before_twice : fault_of 1 (0x01 ∷ 0x01 ∷ 0x00 ∷ []) ≡ Some ServiceZero
zero_before_twice = refl

twice : fault_of 1 (0x01 ∷ 0x01 ∷ []) ≡ Some ServiceTwice
twice = refl
