-- What the history of a control line tells of its services (profile).
use Rattle.std.specs.Prelude.{ℕ, ◌==◌, ◌&&◌, Bool, true, false, List, length, nat_le, Option, Some, None}
use Rattle.std.specs.Prelude.{if◌then◌else◌}
use Rattle.std.specs.Str.{bytes_eq}
use Rattle.page.specs.Shown.{Service}

-- Of a service of a data set what the history tells: its RadioText, TP and TA, as they are shown; None of what is not.
pub record Seen : Type 0 where
  pub set : ℕ
  pub service : ℕ
  pub rt : Option (List ℕ)
  pub tp : Option Bool
  pub ta : Option Bool

-- A text that a RadioText may be: its 64 characters have 256 bytes at most. A longer one the history does not tell.
abbrev pub kept_text : Option (List ℕ) → Option (List ℕ)
kept_text None = None
kept_text (Some text) = if nat_le (length text) 256 then Some text else None

abbrev pub seen : Service → Seen
seen s = record { set = s.set; service = s.service; rt = kept_text s.rt; tp = s.tp; ta = s.ta }

-- Nothing is shown of it.
abbrev pub unseen : (set service : ℕ) → Seen
unseen set service = record { set = set; service = service; rt = None; tp = None; ta = None }

-- It is of this service of this data set.
abbrev pub is_of : (set service : ℕ) → Seen → Bool
is_of set service s = s.set == set && s.service == service

abbrev pub same_text : (one other : Option (List ℕ)) → Bool
same_text None None = true
same_text None (Some text) = false
same_text (Some text) None = false
same_text (Some one) (Some other) = bytes_eq one other

abbrev pub same_flag : (one other : Option Bool) → Bool
same_flag None None = true
same_flag None (Some b) = false
same_flag (Some b) None = false
same_flag (Some true) (Some b) = b
same_flag (Some false) (Some true) = false
same_flag (Some false) (Some false) = true

-- The same is shown of the same service.
abbrev pub is_same : (one other : Seen) → Bool
is_same one other =
    is_of one.set one.service other && same_text one.rt other.rt && same_flag one.tp other.tp
    && same_flag one.ta other.ta

abbrev pub is_nothing : Seen → Bool
is_nothing s = is_same (unseen s.set s.service) s
