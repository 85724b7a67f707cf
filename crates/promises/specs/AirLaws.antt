-- What a receiver shows is what the store holds.
use Rattle.std.specs.Prelude.{ℕ, ◌+◌, ◌*◌, ◌<◌, ◌≤◌, ◌≡◌, ◌⊎◌, ◌==◌, true, false, List, [], ◌∷◌, length, Some}
use Rattle.std.specs.Prelude.{None, IfSome, Contains, map, if◌then◌else◌}
use Rattle.std.specs.List.{AllByRecursion}
use Rattle.rds_groups.specs.Groups.{bit}
use Rattle.rds_store.specs.Value.{Store, ServiceData, StoredText}
use Rattle.rds_groups.specs.Shown.{Receiver, text_shown, switched_on, is_another}
use Rattle.rds_groups.specs.Damage.{IsGroupDamage}
use Rattle.carousel.specs.Carousel.{Carousel, blanks_left}
use Rattle.carousel.specs.Texts.{no_text, line_up, segment_count}
use Rattle.carousel.specs.Next.{sent, is_waiting, next_group}
use Rattle.carousel.specs.Service.{main_service}
use Rattle.promises.specs.OnAir.{IsService, IsStore, Has, HasFlags, after, carousel_after, Moment, after_damage}
use Rattle.promises.specs.OnAir.{pi_of, pi_after, PisStay, IsElsewhere, HasHeardAnother}

-- The bytes before the first 0D.
abbrev pub up_to_return : List ℕ → List ℕ
up_to_return [] = []
up_to_return (byte ∷ bytes) = if byte == 0x0D then [] else byte ∷ up_to_return bytes

-- ---- A service that stays is shown.
-- The receiver shows all of the service but its text.
pub record Shows (s : ServiceData) (r : Receiver) : Type 0 where
  pub pi : r.pi ≡ Some s.pi
  pub tp : r.tp ≡ Some s.tp
  pub pty : r.pty ≡ Some s.pty
  pub ta : r.ta ≡ Some s.ta
  pub music : r.music ≡ Some s.music
  pub name : r.name ≡ Some s.ps

-- Wherever the carousel stood, and whatever a receiver had heard before, after 16 groups it shows the service, and goes
-- on to, whatever free-format groups of other types go out between, 15B left out too.
abbrev pub ServiceIsShown : Type 0
ServiceIsShown =
    (s : ServiceData) (vs : List Store) (c : Carousel) (r : Receiver)
    → IsService s → AllByRecursion (HasFlags s) vs → 16 ≤ length vs → Shows s (after vs c r)

-- In how many of these stores a group waits.
abbrev pub waiting : List Store → ℕ
waiting [] = 0
waiting (v ∷ vs) = bit (is_waiting v.groups) + waiting vs

-- And after two groups for each segment of its text, and two for each store where a free-format group waits, it shows
-- that text, where there is one, and an empty one where there is none: at most 32 groups where no group waits. At a
-- start two groups more for each empty one that is left of it.
abbrev pub TextIsShown : Type 0
TextIsShown =
    (s : ServiceData) (t : StoredText) (vs : List Store) (c : Carousel) (r : Receiver)
    → IsService s → line_up s.texts ≡ t ∷ [] → AllByRecursion (Has s) vs
    → 2 * (blanks_left c + segment_count t.bytes + waiting vs) ≤ length vs
    → text_shown (after vs c r) ≡ Some (up_to_return t.bytes)

-- What each group tells of a service.
pub record IsTuned (s : ServiceData) (r : Receiver) : Type 0 where
  pub pi : r.pi ≡ Some s.pi
  pub tp : r.tp ≡ Some s.tp
  pub pty : r.pty ≡ Some s.pty

-- It is shown from the first group on, or from the second on where the receiver had heard another station.
abbrev pub ServiceIsTuned : Type 0
ServiceIsTuned =
    (s : ServiceData) (vs : List Store) (c : Carousel) (r : Receiver)
    → IsService s → AllByRecursion (Has s) vs → 1 + bit (is_another r.pi (Some s.pi)) ≤ length vs
    → IsTuned s (after vs c r)

-- Music or speech is told within two groups.
abbrev pub MusicIsTold : Type 0
MusicIsTold =
    (s : ServiceData) (vs : List Store) (c : Carousel) (r : Receiver)
    → IsService s → AllByRecursion (HasFlags s) vs → 2 ≤ length vs → (after vs c r).music ≡ Some s.music

-- Traffic announcements are told within two groups.
abbrev pub TrafficIsTold : Type 0
TrafficIsTold =
    (s : ServiceData) (vs : List Store) (c : Carousel) (r : Receiver)
    → IsService s → AllByRecursion (HasFlags s) vs → 2 ≤ length vs → (after vs c r).ta ≡ Some s.ta

-- ---- Texts that change are shown.
-- No segment of a text has gone out yet; or a pass is over, and among these groups is one of the next pass: two are
-- enough, and two for each store where a free-format group waits.
abbrev pub PassBegins : List Store → Carousel → Type 0
PassBegins vs c =
    (c.text_segment ≡ 0) ⊎ ((c.text_segment ≡ segment_count c.text) × (2 * (1 + waiting vs) ≤ length vs))

-- Whatever changes in the store but its PI, and when: from the beginning of a pass on, whatever a receiver had heard
-- before, at the end of each pass it shows the text that is on the air, if it misses no group; where it had heard
-- another station, if that is not the first group.
abbrev pub EachPassIsShown : Type 0
EachPassIsShown =
    (pi : ℕ) (vs : List Store) (c : Carousel) (r : Receiver)
    → AllByRecursion IsStore vs → AllByRecursion (λ v. pi_of v ≡ pi) vs → PassBegins vs c
    → 1 + bit (is_another r.pi (Some pi)) ≤ length vs
    → (carousel_after vs c).text_segment ≡ segment_count (carousel_after vs c).text
    → text_shown (after vs c r) ≡ Some (up_to_return (carousel_after vs c).text)

-- ---- Nothing is mixed.
-- The names that a store held at these moments.
abbrev pub names_of : List Moment → List (List ℕ)
names_of ms = map (λ m. (main_service m.store).ps) ms

-- Whatever changes in the store and whatever is lost, a receiver that was switched on shows nothing, or a name that the
-- store held; one that had heard another station than any of these does so too once it shows another PI than before.
pub record NoNameIsMixed : Type 0 where
  pub new : (ms : List Moment) (c : Carousel)
      → AllByRecursion (λ m. IsStore m.store) ms → AllByRecursion (λ m. IsGroupDamage m.damage) ms
      → IfSome (after_damage ms c switched_on).name (Contains (names_of ms))
  pub tuned : (ms : List Moment) (c : Carousel) (r : Receiver)
      → AllByRecursion (λ m. IsStore m.store) ms → AllByRecursion (λ m. IsGroupDamage m.damage) ms
      → AllByRecursion (λ m. IsElsewhere (pi_of m.store) r) ms
      → ((after_damage ms c r).pi ≡ r.pi) ⊎ IfSome (after_damage ms c r).name (Contains (names_of ms))

-- All that a receiver has heard of a text is of the one that is on the air.
pub record HasHeardOnly (c : Carousel) (r : Receiver) : Type 0 where
  pub flag : r.flag ≡ c.flag
  pub long : r.is_short ≡ false
  pub at : (place : ℕ) → (r.text place ≡ None) ⊎ (r.text place ≡ Some (sent c.text place))
  pub few : length c.text ≤ 64

-- It has heard nothing of a text.
abbrev pub HasHeardNothing : Receiver → Type 0
HasHeardNothing r = (place : ℕ) → r.text place ≡ None

-- What a receiver may have heard before these groups go out: nothing of a text, or of the one on the air alone, with no
-- group held back; or another station.
abbrev pub HasHeardBefore : List Store → Carousel → Receiver → Type 0
HasHeardBefore vs c r =
    ((r.held ≡ None) × (HasHeardNothing r ⊎ HasHeardOnly c r)) ⊎ HasHeardAnother vs r

-- Once it shows the PI that is on the air it shows of a text the one that is on the air, or nothing.
abbrev pub ShowsNoMix : List Store → Carousel → Receiver → Type 0
ShowsNoMix vs c r =
    is_another (after vs c r).pi (pi_after vs r.pi) ≡ false
    → IfSome (text_shown (after vs c r)) (λ shown. shown ≡ up_to_return (carousel_after vs c).text)

-- The toggle of each text is set.
abbrev pub Toggles : Store → Type 0
Toggles v = AllByRecursion (λ (t : StoredText). t.toggle ≡ true) (main_service v).texts

-- Where each text has its toggle set, a receiver that misses no group shows of a text the one that is on the air, or
-- nothing, whatever changes in the store and when; a new PI stays for two groups at least.
abbrev pub NoTextIsMixed : Type 0
NoTextIsMixed =
    (vs : List Store) (c : Carousel) (r : Receiver)
    → AllByRecursion IsStore vs → AllByRecursion Toggles vs → PisStay r.pi vs → HasHeardBefore vs c r
    → ShowsNoMix vs c r

-- ---- Over a start.
-- The toggle of each text is set that is another than the one on the air.
abbrev pub OthersToggle : Carousel → Store → Type 0
OthersToggle c v =
    AllByRecursion (λ (t : StoredText). (t.bytes ≡ c.text) ⊎ (t.toggle ≡ true)) (main_service v).texts

-- So it is in each of these stores that the carousel finds once the first text of a start is on the air.
abbrev pub TogglesBehind : List Store → Carousel → Type 0
TogglesBehind [] c = Unit {0}
TogglesBehind (v ∷ vs) c = (c.blanks ≡ None → OthersToggle c v) × TogglesBehind vs (next_group v c).1

-- One of the groups of an empty text that a start sends is among the groups of these stores.
abbrev pub StartIsHeard : List Store → Carousel → Type 0
StartIsHeard vs c = blanks_left (carousel_after vs c) < blanks_left c

-- Whatever a receiver held before, under whichever flag, and whatever it missed: once it heard one group of an empty
-- text of a start, and misses no group behind that, it shows of a text the one that is on the air, which is the empty
-- one at first, or nothing. The store may change at any time, and the first text of the start needs no toggle; a new PI
-- stays for two groups at least.
abbrev pub NoTextIsMixedOverAStart : Type 0
NoTextIsMixedOverAStart =
    (vs : List Store) (c : Carousel) (r : Receiver)
    → AllByRecursion IsStore vs → TogglesBehind vs c → PisStay r.pi vs → StartIsHeard vs c → ShowsNoMix vs c r

-- ---- Nothing false is shown.
-- What a receiver shows of each thing is the service's, or nothing.
pub record ShowsNothingFalse (s : ServiceData) (t : StoredText) (r : Receiver) : Type 0 where
  pub pi : IfSome r.pi (λ pi. pi ≡ s.pi)
  pub tp : IfSome r.tp (λ tp. tp ≡ s.tp)
  pub pty : IfSome r.pty (λ pty. pty ≡ s.pty)
  pub ta : IfSome r.ta (λ ta. ta ≡ s.ta)
  pub music : IfSome r.music (λ music. music ≡ s.music)
  pub name : IfSome r.name (λ name. name ≡ s.ps)
  pub text : IfSome (text_shown r) (λ shown. shown ≡ up_to_return t.bytes)

-- Of what a service has, and of its text, or of an empty one while a start has some left.
abbrev pub ShowsNothingElse : ServiceData → StoredText → Carousel → Receiver → Type 0
ShowsNothingElse s t c r = ShowsNothingFalse s t r ⊎ ((0 < blanks_left c) × ShowsNothingFalse s no_text r)

-- Whatever groups are damaged, if in each block no bit is wrong, one, two, or some of ten in a row, a receiver that was
-- switched on shows of a service that stays what it is, or nothing; behind a start perhaps an empty text in its place.
-- One that had heard another station does so too once it shows another PI than before.
pub record NothingFalseIsShown : Type 0 where
  pub new : (s : ServiceData) (t : StoredText) (ms : List Moment) (c : Carousel)
      → IsService s → line_up s.texts ≡ t ∷ [] → AllByRecursion (λ m. HasFlags s m.store) ms
      → AllByRecursion (λ m. IsGroupDamage m.damage) ms
      → ShowsNothingElse s t c (after_damage ms c switched_on)
  pub tuned : (s : ServiceData) (t : StoredText) (ms : List Moment) (c : Carousel) (r : Receiver)
      → IsService s → line_up s.texts ≡ t ∷ [] → AllByRecursion (λ m. HasFlags s m.store) ms
      → AllByRecursion (λ m. IsGroupDamage m.damage) ms → IsElsewhere s.pi r
      → ((after_damage ms c r).pi ≡ r.pi) ⊎ ShowsNothingElse s t c (after_damage ms c r)
