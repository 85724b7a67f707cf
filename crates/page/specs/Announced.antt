-- Since when announcements are on (profile).
use Rattle.std.specs.Prelude.{ℕ, ◌==◌, ◌&&◌, ◌-◌, ◌/◌, Bool, List, [], ◌∷◌, flat_map, find, Option, option_map}
use Rattle.std.specs.Prelude.{unwrap_or}
use Rattle.std.specs.Prelude.{if◌then◌else◌}
use Rattle.page.specs.declared.state.announced.Announcement.{Announcement}
use Rattle.page.specs.Members.{is_flag}
use Rattle.page.specs.Seen.{Seen}

abbrev pub is_its : (set service : ℕ) → Announcement → Bool
is_its set service a = a.set == set && a.service == service

-- Since when one of this service is on, by the page's clock; None where none is.
abbrev pub since_of : (set service : ℕ) → List Announcement → Option ℕ
since_of set service on = option_map (λ a. a.since) (find (is_its set service) on)

-- Behind an object that came then one is on of a service of which TA is shown as on: since when it was, or since then.
abbrev pub announcing : (came : ℕ) → (before : List Announcement) → Seen → List Announcement
announcing came before s =
    if is_flag s.ta then record {
      set = s.set;
      service = s.service;
      since = unwrap_or (since_of s.set s.service before) came;
    } ∷ []
    else []

unfoldable pub announced_after : (came : ℕ) → (behind : List Seen) → List Announcement → List Announcement
announced_after came behind before = flat_map (announcing came before) behind

-- How many whole seconds ago that was.
abbrev pub seconds_since : (now since : ℕ) → ℕ
seconds_since now since = (now - since) / 1000
