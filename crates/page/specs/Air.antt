-- What is on the air of a control line, by what its ends tell: the fold of the objects that came (profile).
use Rattle.std.specs.Prelude.{ℕ, ◌==◌, Bool, true, false, ◌&&◌, ◌||◌, List, [], codes, Option, Some, None}
use Rattle.std.specs.Prelude.{option_and_then, unwrap_or}
use Rattle.std.specs.Prelude.{if◌then◌else◌}
use Rattle.serde_json.specs.Data.{Data, Items, no_items, item}
use Rattle.serde_json.specs.Find.{get, as_array}
use Rattle.page.specs.Members.{number_at, number_or_0, says}
use Rattle.page.specs.Shown.{Service, is_element, is_shown, is_stored, tells, told_services}
use Rattle.page.specs.Counts.{is_kind}

-- The data set that was selected, 0 before; the services; whether answers to frames are told; the frame that waits for
-- its answer.
pub record Air : Type 0 where
  pub current : ℕ
  pub services : List Service
  pub answers : Bool
  pub frame : Option Data

-- Nothing was told yet.
abbrev pub no_air : Air
no_air = record { current = 0; services = []; answers = false; frame = None }

-- The data set of which something is told; 0 stands for the selected one.
abbrev pub set_of : Air → Data → ℕ
set_of s d = if number_or_0 (codes "set") d == 0 then s.current else number_or_0 (codes "set") d

-- Behind an element, or what a receiver shows: a set is selected, or something is told of the services that are meant.
abbrev pub after_telling : Data → Air → Air
after_telling d s =
    if is_element (codes "select") d then record s { current = unwrap_or (number_at (codes "set") d) s.current }
    else if tells d then record s {
      services = told_services s.current (set_of s d) (number_or_0 (codes "service") d) d s.services;
    }
    else s

-- Behind elements, in order.
abbrev pub after_items : Items → Air → Air
after_items no_items s = s
after_items (item d ds) s = after_items ds (after_telling d s)

abbrev pub after_elements : Option Items → Air → Air
after_elements None s = s
after_elements (Some ds) s = after_items ds s

-- Behind a message that was applied.
abbrev pub after_message : Data → Air → Air
after_message d s = after_elements (option_and_then as_array (get (codes "elements") d)) s

abbrev pub after_waiting : Option Data → Air → Air
after_waiting None s = s
after_waiting (Some d) s = after_message d s

-- An answer says that a message was applied.
abbrev pub is_applied : Data → Bool
is_applied d = says (codes "answer") (codes "new") d && says (codes "code") (codes "00") d

-- Behind an answer the frame waits no more; it is shown where it was applied.
abbrev pub after_answer : Data → Air → Air
after_answer d s = if is_applied d then after_waiting s.frame (record s { frame = None }) else record s { frame = None }

-- A store is told: what was told before is gone, whether shown or waiting, and its services follow.
abbrev pub after_store : Data → Air → Air
after_store d s = record s { current = number_or_0 (codes "current") d; services = []; frame = None }

-- Behind an object: what a frame says is shown at once, or where answers are told once it was applied; and what a
-- receiver or a store tells. Answers are told once a connection was.
abbrev pub air_after : Data → Air → Air
air_after d s =
    if is_kind (codes "frame") d then (if s.answers then record s { frame = Some d } else after_message d s)
    else if is_kind (codes "answered") d then after_answer d s
    else if is_kind (codes "connection") d then record s { answers = true; frame = None }
    else if is_kind (codes "store") d then after_store d s
    else if is_shown d || is_stored d then after_telling d s
    else s
