-- What comes of a segment (profile).
use Rattle.std.specs.Prelude.{◌≡◌, ◌≤◌, ℕ, ◌==◌, nat_le, Bool, true, false, ◌&&◌, ◌||◌, if◌then◌else◌, List, [], ◌∷◌}
use Rattle.std.specs.Prelude.{Option, Some, None, IfSome}
use Rattle.std.specs.List.{list_any}
use Rattle.bad_line.specs.declared.rules.rule.Way.{Way}
use Rattle.bad_line.specs.declared.rules.rule.Way.TheVariants.{Frame, Reply}
use Rattle.bad_line.specs.declared.rules.rule.Span.{Span}
use Rattle.bad_line.specs.declared.rules.rule.Rule.{Rule}
use Rattle.bad_line.specs.declared.rules.rule.Rule.TheVariants.{Lose, Repeat, Damage, BreakAfter, LoseByChance}
use Rattle.bad_line.specs.declared.rules.rule.Rule.TheVariants.{DamageByChance}
use Rattle.bad_line.specs.declared.rules.fate.Fate.{Fate}

-- The rules of one direction, and how many segments have come in it.
pub record Passing : Type 0 where
  pub rules : List Rule
  pub way : Way
  pub passed : ℕ

-- Whether two directions are the same.
abbrev pub same_way : (a b : Way) → Bool
same_way Frame Frame = true
same_way Frame Reply = false
same_way Reply Frame = false
same_way Reply Reply = true

-- Whether a number is in the span.
abbrev pub is_within : Span → ℕ → Bool
is_within span number = nat_le span.first number && nat_le number span.last

-- Whether the rule says that this segment of this direction is lost.
abbrev pub loses : Way → (number : ℕ) → Rule → Bool
loses way number (Lose of_way span) = same_way of_way way && is_within span number
loses way number rule = false

-- Whether the rule says that it comes twice.
abbrev pub repeats : Way → (number : ℕ) → Rule → Bool
repeats way number (Repeat of_way span) = same_way of_way way && is_within span number
repeats way number rule = false

-- The place of the byte of it that the rule damages, counted from 1, where it has that byte.
abbrev pub place_of : Way → (number length : ℕ) → Rule → Option ℕ
place_of way number length (Damage of_way segment place) =
    if same_way of_way way && segment == number && nat_le 1 place && nat_le place length then Some place else None
place_of way number length rule = None

-- Whether the rule says that the connection breaks behind it.
abbrev pub breaks : Way → (number : ℕ) → Rule → Bool
breaks way number (BreakAfter of_way segment) = same_way of_way way && segment == number
breaks way number rule = false

-- Whether the rule may lose the segment of this number by chance: from the number on that it names.
abbrev pub may_lose : (number : ℕ) → Rule → Bool
may_lose number (LoseByChance percent from) = nat_le from number
may_lose number rule = false

-- Whether the rule may damage it by chance.
abbrev pub may_damage : (number : ℕ) → Rule → Bool
may_damage number (DamageByChance percent from) = nat_le from number
may_damage number rule = false

-- The first place of two, if there is one.
abbrev pub first_place : (named drawn : Option ℕ) → Option ℕ
first_place None drawn = drawn
first_place (Some place) drawn = Some place

-- The place that the first rule names that damages a byte of it.
abbrev pub named_place : List Rule → Way → (number length : ℕ) → Option ℕ
named_place [] way number length = None
named_place (rule ∷ rules) way number length =
    first_place (place_of way number length rule) (named_place rules way number length)

-- What chance does to a segment: whether it is lost, and the place of the byte that is damaged, if one is.
pub record Chance : Type 0 where
  pub lost : Bool
  pub place : Option ℕ

-- Chance may do this to the segment of this number, of so many bytes: only what some rule leaves to it.
pub record MayDo (rules : List Rule) (number length : ℕ) (chance : Chance) : Type 0 where
  pub lost : chance.lost ≡ true → list_any (may_lose number) rules ≡ true
  pub place : IfSome chance.place
      (λ place. (list_any (may_damage number) rules ≡ true) × (1 ≤ place) × (place ≤ length))

-- What comes of a segment of so many bytes where chance does this. One that is lost is neither repeated nor damaged;
-- the connection breaks behind it all the same.
abbrev pub fate_of : List Rule → Way → (number length : ℕ) → Chance → Fate
fate_of rules way number length chance =
    if list_any (loses way number) rules || chance.lost
    then record { copies = 0; damaged = None; breaks = list_any (breaks way number) rules }
    else record {
      copies = if list_any (repeats way number) rules then 2 else 1;
      damaged = first_place (named_place rules way number length) chance.place;
      breaks = list_any (breaks way number) rules;
    }

-- That may come of the segment of this number, of so many bytes: what the rules say with numbers, and of what they
-- leave to chance anything.
abbrev pub MayCome : List Rule → Way → (number length : ℕ) → Fate → Type 0
MayCome rules way number length fate =
    (chance : Chance) × MayDo rules number length chance × (fate ≡ fate_of rules way number length chance)
