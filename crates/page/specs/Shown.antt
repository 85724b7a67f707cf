-- What services have, by what the elements of messages say, and what a receiver or a store tells (profile).
use Rattle.std.specs.Prelude.{ℕ, ◌-◌, ◌==◌, Bool, not, ◌&&◌, ◌||◌, List, [], ◌∷◌, codes, Option, Some, None}
use Rattle.std.specs.Prelude.{◌++◌, length, map, nat_lt, option_and_then, if◌then◌else◌}
use Rattle.std.specs.List.{list_any}
use Rattle.serde_json.specs.Data.{Data, Items, no_items, item}
use Rattle.serde_json.specs.Find.{get, as_array}
use Rattle.page.specs.Members.{text_at, flag_at, number_at, says, is_flag}

-- What was told last of a service of a data set: whether it is the main one there, its PI, name, RadioText, TP, TA and
-- programme type; None of what was not told, or is shown no more.
pub record Service : Type 0 where
  pub set : ℕ
  pub service : ℕ
  pub main : Bool
  pub pi : Option (List ℕ)
  pub name : Option (List ℕ)
  pub rt : Option (List ℕ)
  pub tp : Option Bool
  pub ta : Option Bool
  pub pty : Option ℕ

-- Nothing was told of it yet.
abbrev pub new_service : (set service : ℕ) → (main : Bool) → Service
new_service set service main = record {
  set = set;
  service = service;
  main = main;
  pi = None;
  name = None;
  rt = None;
  tp = None;
  ta = None;
  pty = None;
}

-- An object is this element of a message.
abbrev pub is_element : (name : List ℕ) → Data → Bool
is_element name d = says (codes "element") name d

-- An object tells what a receiver shows.
abbrev pub is_shown : Data → Bool
is_shown d = says (codes "kind") (codes "shown") d

-- An object tells what a store has of a service.
abbrev pub is_stored : Data → Bool
is_stored d = says (codes "kind") (codes "service") d

-- It tells something of a service.
abbrev pub tells : Data → Bool
tells d =
    is_element (codes "pi") d || is_element (codes "ps") d || is_element (codes "traffic") d
    || is_element (codes "pty") d || is_element (codes "rt") d || is_shown d || is_stored d

-- What an element says of RadioText: an empty one where it is cleared, else its text.
abbrev pub element_text : Data → Option (List ℕ)
element_text d = if is_flag (flag_at (codes "clear") d) then Some [] else text_at (codes "text") d

-- The RadioText that a receiver shows, and the one that a store has: the last of its texts.
abbrev pub shown_text : Data → Option (List ℕ)
shown_text d = option_and_then (text_at (codes "text")) (get (codes "rt") d)

abbrev pub last_item : Items → Option Data
last_item no_items = None
last_item (item d no_items) = Some d
last_item (item d (item e es)) = last_item (item e es)

abbrev pub stored_text : Data → Option (List ℕ)
stored_text d = option_and_then (text_at (codes "text"))
    (option_and_then last_item (option_and_then as_array (get (codes "texts") d)))

-- A service once all was told of it, with this RadioText.
abbrev pub all_told : (rt : Option (List ℕ)) → Data → Service → Service
all_told rt d s = record s {
  pi = text_at (codes "pi") d;
  name = text_at (codes "text") d;
  rt = rt;
  tp = flag_at (codes "tp") d;
  ta = flag_at (codes "ta") d;
  pty = number_at (codes "type") d;
}

-- A service once this was told of it: by an element what that says; by a receiver all that it shows; by a store all
-- that it has.
abbrev pub told : Data → Service → Service
told d s =
    if is_element (codes "pi") d then record s { pi = text_at (codes "pi") d }
    else if is_element (codes "ps") d then record s { name = text_at (codes "text") d }
    else if is_element (codes "traffic") d then record s { tp = flag_at (codes "tp") d; ta = flag_at (codes "ta") d }
    else if is_element (codes "pty") d then record s { pty = number_at (codes "type") d }
    else if is_element (codes "rt") d then record s { rt = element_text d }
    else if is_shown d then all_told (shown_text d) d s
    else if is_stored d then all_told (stored_text d) d s
    else s

-- A data set is meant by this number: 255 means all, and 254 all but the current one.
abbrev pub names_set : (current set k : ℕ) → Bool
names_set current set k = set == k || (set == 255 || (set == 254 && not (k == current)))

-- A service is meant: in a set that is, by its number, or the main one by 0.
abbrev pub is_meant : (current set service : ℕ) → Service → Bool
is_meant current set service s = names_set current set s.set && (s.service == service || (service == 0 && s.main))

abbrev pub is_in : (set : ℕ) → Service → Bool
is_in set s = s.set == set

-- A service that was not told of before is the main one of its set: of a message the one that is meant by 0; of a store
-- the one that is listed first.
abbrev pub is_main : (set service : ℕ) → Data → List Service → Bool
is_main set service d ss = service == 0 || (is_stored d && not (list_any (is_in set) ss))

abbrev pub new_one : (set service : ℕ) → Data → List Service → Service
new_one set service d ss = new_service set service (is_main set service d ss)

-- The first of these that is the one, once that was told of it; where none is, a new one comes last, told the same,
-- where there is room for so many more.
abbrev pub told_among : {X : Type 0} → (room : ℕ) → (is_it : X → Bool) → (tell : X → X) → (new : X) → List X → List X
told_among room is_it tell new [] = if room == 0 then [] else tell new ∷ []
told_among room is_it tell new (x ∷ xs) =
    if is_it x then tell x ∷ xs else x ∷ told_among (room - 1) is_it tell new xs

-- A service once that was told of it, if it is meant.
abbrev pub told_if : (current set service : ℕ) → Data → Service → Service
told_if current set service d s = if is_meant current set service s then told d s else s

-- Services with one more, of 128 at most.
abbrev pub with_new : (set service : ℕ) → Data → List Service → List Service
with_new set service d ss = if nat_lt (length ss) 128 then ss ++ told d (new_one set service d ss) ∷ [] else ss

-- Services once that was told of those that are meant; where none is, a new one comes last.
abbrev pub told_services : (current set service : ℕ) → Data → List Service → List Service
told_services current set service d ss =
    if list_any (is_meant current set service) ss then map (told_if current set service d) ss
    else with_new set service d ss
