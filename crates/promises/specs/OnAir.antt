-- A carousel on the air, and a receiver that hears it.
use Rattle.std.specs.Prelude.{ℕ, ◌/◌, ◌≤◌, ◌<◌, ◌≡◌, ◌≢◌, ◌^◌, true, List, [], ◌∷◌, length, All, Option, Some, IfSome}
use Rattle.std.specs.Prelude.{slice_get}
use Rattle.rds_groups.specs.Groups.{blocks}
use Rattle.rds_store.specs.Value.{Store, ServiceData, StoredText}
use Rattle.rds_store.specs.declared.group.Group.{Group as StoredGroup}
use Rattle.rds_groups.specs.Heard.{came}
use Rattle.rds_groups.specs.Shown.{Receiver, hears, is_another}
use Rattle.rds_groups.specs.Damage.{GroupDamage, damaged}
use Rattle.carousel.specs.Carousel.{Carousel}
use Rattle.carousel.specs.Next.{next_group}
use Rattle.carousel.specs.Service.{main_service}

-- ---- What a store has.
-- A text as each store has it: at most 64 bytes (SPB 490, RadioText).
pub record IsText (t : StoredText) : Type 0 where
  pub short : length t.bytes ≤ 64
  pub are_bytes : All (λ byte. byte < 256) t.bytes

-- A service as each store has it: PI below 2^16, a name of eight bytes, PTY at most 1F, such texts.
pub record IsService (s : ServiceData) : Type 0 where
  pub pi : s.pi < 2 ^ 16
  pub eight : length s.ps ≡ 8
  pub are_bytes : All (λ byte. byte < 256) s.ps
  pub pty : s.pty < 32
  pub texts : All IsText s.texts

-- A free-format group that is of neither type 0 nor type 2: a receiver takes such a one for the station's own.
pub record IsOther (g : StoredGroup) : Type 0 where
  pub kind : g.kind < 32
  pub bits : g.bits < 32
  pub not_type_0 : g.kind / 2 ≢ 0
  pub not_type_2 : g.kind / 2 ≢ 2
  pub block3 : g.block3 < 2 ^ 16
  pub block4 : g.block4 < 2 ^ 16

-- A store as a carousel finds it: its main service, and if a group waits the first is of another type than 0 and 2.
pub record IsStore (v : Store) : Type 0 where
  pub service : IsService (main_service v)
  pub first : IfSome (slice_get v.groups 0) IsOther

-- The main service has stayed the same.
pub record Has (s : ServiceData) (v : Store) : Type 0 where
  pub same : main_service v ≡ s
  pub first : IfSome (slice_get v.groups 0) IsOther

-- ---- On the air.
-- A receiver after the groups of these stores, one group of each: what it hears of each is its four blocks.
abbrev pub after : List Store → Carousel → Receiver → Receiver
after [] c r = r
after (v ∷ vs) c r = after vs (next_group v c).1 (hears (came (blocks (next_group v c).0)) r)

-- Where the carousel stands after a group for each of these stores.
abbrev pub carousel_after : List Store → Carousel → Carousel
carousel_after [] c = c
carousel_after (v ∷ vs) c = carousel_after vs (next_group v c).1

-- A store, and what comes wrong of the group that it sends.
pub record Moment : Type 0 where
  pub store : Store
  pub damage : GroupDamage

-- The same receiver where the blocks of each group come so damaged.
abbrev pub after_damage : List Moment → Carousel → Receiver → Receiver
after_damage [] c r = r
after_damage (m ∷ ms) c r =
    after_damage ms (next_group m.store c).1
    (hears (came (damaged m.damage (blocks (next_group m.store c).0))) r)

-- And no 15B goes out between: a receiver takes its TP, TA and MS for the station's own. (IEC 62106, type 15 groups)
pub record HasFlags (s : ServiceData) (v : Store) : Type 0 where
  pub has : Has s v
  pub no_15b : IfSome (slice_get v.groups 0) (λ (g : StoredGroup). g.kind ≢ 31)

-- ---- The station: another PI is another one. (IEC 62106, programme identification)
-- The PI that a store sends.
abbrev pub pi_of : Store → ℕ
pi_of v = (main_service v).pi

-- The PI on the air after the groups of these stores; before the first of them it is that of before.
abbrev pub pi_after : List Store → (before : Option ℕ) → Option ℕ
pi_after [] before = before
pi_after (v ∷ vs) before = pi_after vs (Some (pi_of v))

-- If there is a next group it has this PI.
abbrev pub BeginsWith : (pi : ℕ) → List Store → Type 0
BeginsWith pi [] = Unit {0}
BeginsWith pi (v ∷ vs) = pi_of v ≡ pi

-- Each PI that is another than the one before stays for two groups.
abbrev pub PisStay : (before : Option ℕ) → List Store → Type 0
PisStay before [] = Unit {0}
PisStay before (v ∷ vs) =
    (is_another before (Some (pi_of v)) ≡ true → BeginsWith (pi_of v) vs) × PisStay (Some (pi_of v)) vs

-- A receiver has heard another station than the one of this PI, and holds no group of that one back.
pub record IsElsewhere (pi : ℕ) (r : Receiver) : Type 0 where
  pub tuned : is_another r.pi (Some pi) ≡ true
  pub holds : IfSome r.held (λ g. is_another g.block1 (Some pi) ≡ true)

-- Another one than that of the first of these groups.
abbrev pub HasHeardAnother : List Store → Receiver → Type 0
HasHeardAnother [] r = ⊥
HasHeardAnother (v ∷ vs) r = IsElsewhere (pi_of v) r
