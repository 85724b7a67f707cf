-- No service is shown twice.
use Rattle.std.proofs.Common.{◌≡◌, ℕ, ◌==◌, Bool, true, false, cond, ◌||◌, ◌&&◌, List, [], ◌∷◌, ◌++◌, map}
use Rattle.std.proofs.Common.{length, refl, ◌∙◌, ap, arith, Option, Some, None}
use Rattle.std.specs.Prelude.{codes, nat_lt, option_and_then}
use Rattle.std.specs.List.{list_any}
use Rattle.serde_json.specs.Data.{Data, Items, no_items, item}
use Rattle.serde_json.specs.Find.{get, as_array}
use Rattle.page.specs.Counts.{is_kind}
use Rattle.page.specs.Shown.{Service, is_element, is_shown, is_stored, told, told_if, with_new, new_one}
use Rattle.page.specs.Shown.{is_meant, tells}
use Rattle.page.specs.Members.{number_or_0}
use Rattle.page.specs.Air.{Air, set_of, after_telling, after_items, after_elements, after_message}
use Rattle.page.specs.Air.{after_waiting, is_applied, air_after}
use Rattle.page.specs.Answered.{is_in_doubt, is_acknowledged, answered_after}
use Rattle.page.specs.Seen.{Seen, seen, is_of}
use Rattle.page.specs.Changes.{has_it}
use Rattle.page.specs.ControlLine.{Arrived, Line, new_line, seen_on, line_after, line_behind}

-- each is none of those behind it
abbrev pub AreApart : List Seen → Type 0
AreApart [] = Unit {0}
AreApart (s ∷ ss) = (has_it s.set s.service ss ≡ false) × AreApart ss

-- what is told of a service leaves it the service that it is
either : (b : Bool) (x y : Service) (set service : ℕ) → (x.set ≡ set) × (x.service ≡ service)
    → (y.set ≡ set) × (y.service ≡ service) → ((cond b x y).set ≡ set) × ((cond b x y).service ≡ service)
either true x y set service h h' = h
either false x y set service h h' = h'

told_same : (d : Data) (s : Service) → ((told d s).set ≡ s.set) × ((told d s).service ≡ s.service)
told_same d s =
    either (is_element (codes "pi") d) _ _ s.set s.service (refl, refl)
    (either (is_element (codes "ps") d) _ _ s.set s.service (refl, refl)
    (either (is_element (codes "traffic") d) _ _ s.set s.service (refl, refl)
    (either (is_element (codes "pty") d) _ _ s.set s.service (refl, refl)
    (either (is_element (codes "rt") d) _ _ s.set s.service (refl, refl)
    (either (is_shown d) _ _ s.set s.service (refl, refl)
    (either (is_stored d) _ _ s.set s.service (refl, refl) (refl, refl)))))))

told_if_same : (current set service : ℕ) (d : Data) (s : Service)
    → ((told_if current set service d s).set ≡ s.set) × ((told_if current set service d s).service ≡ s.service)
told_if_same current set service d s =
    either (is_meant current set service s) _ _ s.set s.service (told_same d s) (refl, refl)

of_same : (a b : ℕ) (s t : Service) → (t.set ≡ s.set) × (t.service ≡ s.service)
    → is_of a b (seen t) ≡ is_of a b (seen s)
of_same a b s t h = ap (λ n. n == a && t.service == b) h.0 ∙ ap (λ n. s.set == a && n == b) h.1

has_told : (current set service : ℕ) (d : Data) (a b : ℕ) (ss : List Service)
    → has_it a b (map seen (map (told_if current set service d) ss)) ≡ has_it a b (map seen ss)
has_told current set service d a b [] = refl
has_told current set service d a b (s ∷ ss) =
    let it = told_if current set service d s in
    ap (λ t. t || has_it a b (map seen (map (told_if current set service d) ss)))
    (of_same a b s it (told_if_same current set service d s))
    ∙ ap (λ t. is_of a b (seen s) || t) (has_told current set service d a b ss)

apart_told : (current set service : ℕ) (d : Data) (ss : List Service) → AreApart (map seen ss)
    → AreApart (map seen (map (told_if current set service d) ss))
apart_told current set service d [] h = tt
apart_told current set service d (s ∷ ss) h =
    let it = told_if current set service d s in
    let same = told_if_same current set service d s in
    let rest = map seen (map (told_if current set service d) ss) in (
      ap (λ n. has_it n it.service rest) same.0 ∙ ap (λ n. has_it s.set n rest) same.1
          ∙ has_told current set service d s.set s.service ss ∙ h.0,
      apart_told current set service d ss h.1,
    )

-- a new one is none of those that are there
or_left : (a b : Bool) → a || b ≡ false → a ≡ false
or_left true b h = absurd (cc h)
or_left false b h = refl

or_right : (a b : Bool) → a || b ≡ false → b ≡ false
or_right true b h = absurd (cc h)
or_right false b h = h

neither : (a b : Bool) → a ≡ false → b ≡ false → a || b ≡ false
neither a b h h' = ap (λ t. t || b) h ∙ h'

turned : (a b : ℕ) → (a == b) ≡ (b == a)
turned a b = grind arith

pub of_turned : (s t : Seen) → is_of s.set s.service t ≡ is_of t.set t.service s
of_turned s t =
    ap (λ b. b && t.service == s.service) (turned t.set s.set) ∙ ap (λ b. s.set == t.set && b)
    (turned t.service s.service)

not_both : (p q r t : Bool) → (p || r) && (q || t) ≡ false → p && q ≡ false
not_both true true r t h = absurd (cc h)
not_both true false r t h = refl
not_both false q r t h = refl

not_meant : (current set service : ℕ) (s : Service) → is_meant current set service s ≡ false
    → is_of set service (seen s) ≡ false
not_meant current set service s h =
    ap (λ b. b && s.service == service) (turned s.set set) ∙ not_both (set == s.set) (s.service == service) _ _ h

none_meant : (current set service : ℕ) (ss : List Service) → list_any (is_meant current set service) ss ≡ false
    → has_it set service (map seen ss) ≡ false
none_meant current set service [] h = refl
none_meant current set service (s ∷ ss) h =
    neither (is_of set service (seen s)) (has_it set service (map seen ss))
    (not_meant current set service s (or_left (is_meant current set service s) _ h))
    (none_meant current set service ss (or_right (is_meant current set service s) _ h))

has_more : (a b : ℕ) (ss : List Service) (n : Service) → has_it a b (map seen ss) ≡ false
    → is_of a b (seen n) ≡ false → has_it a b (map seen (ss ++ n ∷ [])) ≡ false
has_more a b [] n h h' = neither (is_of a b (seen n)) false h' refl
has_more a b (s ∷ ss) n h h' =
    neither (is_of a b (seen s)) (has_it a b (map seen (ss ++ n ∷ []))) (or_left (is_of a b (seen s)) _ h)
    (has_more a b ss n (or_right (is_of a b (seen s)) _ h) h')

apart_more : (ss : List Service) (n : Service) → AreApart (map seen ss) → has_it n.set n.service (map seen ss) ≡ false
    → AreApart (map seen (ss ++ n ∷ []))
apart_more [] n h h' = (refl, tt)
apart_more (s ∷ ss) n h h' = (
  has_more s.set s.service ss n h.0
      (of_turned (seen s) (seen n) ∙ or_left (is_of n.set n.service (seen s)) _ h'),
  apart_more ss n h.1 (or_right (is_of n.set n.service (seen s)) _ h'),
)

new_apart : (room : Bool) (set service : ℕ) (d : Data) (ss : List Service) (n : Service)
    → (n.set ≡ set) × (n.service ≡ service)
    → AreApart (map seen ss) → has_it set service (map seen ss) ≡ false
    → AreApart (map seen (cond room (ss ++ n ∷ []) ss))
new_apart true set service d ss n same h none =
    apart_more ss n h
    (ap (λ k. has_it k n.service (map seen ss)) same.0 ∙ ap (λ k. has_it set k (map seen ss)) same.1 ∙ none)
new_apart false set service d ss n same h none = h

services_apart : (any : Bool) (current set service : ℕ) (d : Data) (ss : List Service)
    → list_any (is_meant current set service) ss ≡ any → AreApart (map seen ss)
    → AreApart (map seen (cond any (map (told_if current set service d) ss) (with_new set service d ss)))
services_apart true current set service d ss is h = apart_told current set service d ss h
services_apart false current set service d ss is h =
    new_apart (nat_lt (length ss) 128) set service d ss (told d (new_one set service d ss))
    (told_same d (new_one set service d ss)) h (none_meant current set service ss is)

-- so it stays, whatever is told
abbrev pub IsApart : Air → Type 0
IsApart s = AreApart (map seen s.services)

one_of_two : (b : Bool) (x y : Air) → IsApart x → IsApart y → IsApart (cond b x y)
one_of_two true x y h h' = h
one_of_two false x y h h' = h'

telling_apart : (d : Data) (s : Air) → IsApart s → IsApart (after_telling d s)
telling_apart d s h =
    one_of_two (is_element (codes "select") d) _ _ h
    (one_of_two (tells d) _ _ (services_apart _ s.current (set_of s d) (number_or_0 (codes "service") d) d s.services
    refl h) h)

items_apart : (ds : Items) (s : Air) → IsApart s → IsApart (after_items ds s)
items_apart no_items s h = h
items_apart (item d ds) s h = items_apart ds (after_telling d s) (telling_apart d s h)

elements_apart : (o : Option Items) (s : Air) → IsApart s → IsApart (after_elements o s)
elements_apart None s h = h
elements_apart (Some ds) s h = items_apart ds s h

message_apart : (d : Data) (s : Air) → IsApart s → IsApart (after_message d s)
message_apart d s h = elements_apart (option_and_then as_array (get (codes "elements") d)) s h

waiting_apart : (o : Option Data) (s : Air) → IsApart s → IsApart (after_waiting o s)
waiting_apart None s h = h
waiting_apart (Some d) s h = message_apart d s h

air_apart : (d : Data) (s : Air) → IsApart s → IsApart (air_after d s)
air_apart d s h =
    one_of_two (is_kind (codes "frame") d) _ _ (one_of_two s.answers _ _ h (message_apart d s h))
    (one_of_two (is_kind (codes "answered") d) _ _
    (one_of_two (is_applied d) _ _ (waiting_apart s.frame (record s { frame = None }) h) h)
    (one_of_two (is_kind (codes "connection") d) _ _ h
    (one_of_two (is_kind (codes "store") d) _ _ tt
    (one_of_two (is_shown d || is_stored d) _ _ (telling_apart d s h) h))))

answered_apart : (d : Data) (s : Air) → IsApart s → IsApart (answered_after d s)
answered_apart d s h =
    one_of_two (is_in_doubt d) _ _ tt (one_of_two (is_acknowledged d) _ _ (message_apart d s h) h)

pub record AirsApart (l : Line) : Type 0 where
  pub air : IsApart l.air
  pub answered : IsApart l.answered

pub after_apart : (d : Arrived) (l : Line) → AirsApart l → AirsApart (line_after d l)
after_apart d l h = record {
  air = air_apart d.object l.air h.air;
  answered = answered_apart d.object l.answered h.answered;
}

pub behind_apart : (ds : List Arrived) (l : Line) → AirsApart l → AirsApart (line_behind ds l)
behind_apart [] l h = h
behind_apart (d ∷ ds) l h = behind_apart ds (line_after d l) (after_apart d l h)

pub new_apart_line : (name : List ℕ) → AirsApart (new_line name)
new_apart_line name = record { air = tt; answered = tt }

pub shown_apart : (l : Line) → AirsApart l → AreApart (seen_on l)
shown_apart l h = one_of_two l.has_encoder l.air l.answered h.air h.answered
