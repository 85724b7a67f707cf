-- What is so of each store that can be.
use Rattle.std.specs.Prelude.{◌≡◌, ℕ, ◌<◌, ◌≤◌, ◌==◌, nat_le, Bool, ◌&&◌, is_some, Some, length}
use Rattle.std.specs.List.{list_any, AllByRecursion}
use Rattle.std.specs.FinMap.{get}
use Rattle.uecp_elements.specs.Grammar.{AreBytes}
use Rattle.rds_store.specs.declared.group.Group.{Group}
use Rattle.rds_store.specs.Value.{StoredText, ServiceData, Store}

-- A text that a service has. (SPB 490, RadioText; its bits: profile)
pub record IsText (t : StoredText) : Type 0 where
  -- it is sent 1 to 15 times, or by 0 without limit
  pub times : t.transmissions ≤ 15
  -- it has at most 64 bytes
  pub short : length t.bytes ≤ 64
  -- and these are bytes
  pub bytes : AreBytes t.bytes

-- What a service has in a set. (SPB 490, elements 01, 02, 07 and 0A)
pub record IsService (s : ServiceData) : Type 0 where
  -- its PI is a number of 16 bits
  pub pi : s.pi < 0x10000
  -- its name has eight bytes
  pub eight : length s.ps ≡ 8
  -- and these are bytes
  pub name : AreBytes s.ps
  -- its programme type is 00 to 1F
  pub pty : s.pty ≤ 0x1F
  -- it has at most eight texts
  pub few_texts : length s.texts ≤ 8
  -- and each is one
  pub texts : AllByRecursion IsText s.texts

-- A group that waits. (SPB 490, free-format group)
pub record IsWaiting (g : Group) : Type 0 where
  -- its type and version are 00 to 1F
  pub kind : g.kind ≤ 0x1F
  -- and so are the last bits of its block 2
  pub bits : g.bits ≤ 0x1F
  -- its block 3 is a number of 16 bits
  pub block3 : g.block3 < 0x10000
  -- and so is its block 4
  pub block4 : g.block4 < 0x10000

-- A place of a store is one of its sets and one of its services. (SPB 490, data sets and programme services)
abbrev pub is_place : Store → (place : ℕ × ℕ) → Bool
is_place v place = list_any (λ number. place.1 == number) v.services && (nat_le 1 place.0 && nat_le place.0 v.sets)

-- A store that an encoder can have: its sets, services, texts and groups within their limits (profile).
pub record IsStation (v : Store) : Type 0 where
  -- it has at most eight sets
  pub few_sets : v.sets ≤ 8
  -- the current one is counted from 1
  pub current_from_1 : 1 ≤ v.current
  -- and is one of them
  pub current_there : v.current ≤ v.sets
  -- the number of each service is a byte, and none is 00
  pub numbers : AllByRecursion (λ number. (1 ≤ number) × (number < 0x100)) v.services
  -- each service has something in each set, and there is nothing elsewhere
  pub there : (place : ℕ × ℕ) → is_some (get v.places place) ≡ is_place v place
  -- and what it has is what a service can have
  pub each : (place : ℕ × ℕ) (s : ServiceData) → get v.places place ≡ Some s → IsService s
  -- at most 32 groups wait
  pub few_groups : length v.groups ≤ 32
  -- and each is one
  pub groups : AllByRecursion IsWaiting v.groups
