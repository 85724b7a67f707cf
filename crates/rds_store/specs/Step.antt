-- What a message does to a store, and what taking a group from it does.
use Rattle.std.specs.Prelude.{ℕ, List, [], ◌∷◌, Option, Some, None, if◌then◌else◌}
use Rattle.uecp_elements.specs.declared.code.Code.{Code}
use Rattle.uecp_elements.specs.Reading.{items}
use Rattle.uecp_elements.specs.Folding.{folded, is_applied}
use Rattle.rds_store.specs.declared.group.Group.{Group}
use Rattle.rds_store.specs.Value.{Store}
use Rattle.rds_store.specs.Put.{put}

-- Each element of the message's reading is put, up to the first whose code is not 00; the code is that one, or the
-- fault's that ends the reading, or 00. (profile)
abbrev pub element_by_element : Store → (message : List ℕ) → Store × Code
element_by_element v message = folded put v (items message)

-- Where the code is not 00, the value stays. (profile)
abbrev pub whole_or_none : (before : Store) → Store × Code → Store × Code
whole_or_none before after = ((if is_applied after.1 then after.0 else before), after.1)

-- The store after a message, and the code with which it is answered. (profile)
abbrev pub step : Store → (message : List ℕ) → Store × Code
step v message = whole_or_none v (element_by_element v message)

-- The store after the first of these groups went out, and that group; where there is none the store stays. (profile)
abbrev pub first_taken : Store → List Group → Store × Option Group
first_taken v [] = (v, None)
first_taken v (group ∷ groups) = (record v { groups = groups }, Some group)

-- The store after the first group that waits went out, and that group. (profile)
abbrev pub group_taken : Store → Store × Option Group
group_taken v = first_taken v v.groups
