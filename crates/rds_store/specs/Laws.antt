-- Laws of a store under elements, messages and takes, in the words of places.
use Rattle.std.specs.Prelude.{◌≡◌, ◌≢◌, ℕ, ◌&&◌, Some, None, List, [], ◌∷◌, if◌then◌else◌}
use Rattle.std.specs.Option.{option_map}
use Rattle.std.specs.FinMap.{get}
use Rattle.uecp_elements.specs.declared.code.Code.TheVariants.{Applied}
use Rattle.uecp_elements.specs.Grammar.{Element, Reading, Reads, AreBytes}
use Rattle.uecp_elements.specs.Folding.{is_applied}
use Rattle.rds_store.specs.Value.{Data, Store}
use Rattle.rds_store.specs.Names.{address, names}
use Rattle.rds_store.specs.Content.{taken}
use Rattle.rds_store.specs.Put.{put}
use Rattle.rds_store.specs.declared.group.Group.{Group}
use Rattle.rds_store.specs.Step.{step, group_taken}

-- An element that is answered with another code than 00 leaves the store as it was.
abbrev pub RefusalChangesNothing : Type 0
RefusalChangesNothing = (v : Store) (e : Element) → (put v e).1 ≢ Applied → (put v e).0 ≡ v

-- After an element each place that it names has taken its content if the code is 00, and each other place has what it
-- had.
abbrev pub ChangesNamedPlacesAlone : Type 0
ChangesNamedPlacesAlone =
    (v : Store) (e : Element) (place : ℕ × ℕ)
    → get (put v e).0.places place ≡ option_map (λ s. if is_applied (put v e).1
    && names v e place then taken e s else s) (get v.places place)

-- An element that names places keeps the current set and the groups.
abbrev pub KeepsSelectionAndGroups : Type 0
KeepsSelectionAndGroups =
    (v : Store) (e : Element) (dsn_psn : ℕ × ℕ) → address e ≡ Some dsn_psn
    → ((put v e).0.current ≡ v.current) × ((put v e).0.groups ≡ v.groups)

-- No element changes how many sets there are, or which services.
abbrev pub KeepsSetsAndServices : Type 0
KeepsSetsAndServices = (v : Store) (e : Element) → ((put v e).0.sets ≡ v.sets) × ((put v e).0.services ≡ v.services)

-- No message changes how many sets there are, or which services.
abbrev pub MessagesKeepSetsAndServices : Type 0
MessagesKeepSetsAndServices = (v : Store) (message : List ℕ)
    → ((step v message).0.sets ≡ v.sets) × ((step v message).0.services ≡ v.services)

-- What a store has at each place, its current set and its groups are those that they were.
pub record IsAsBefore (before after : Store) : Type 0 where
  pub places : (place : ℕ × ℕ) → get after.places place ≡ get before.places place
  pub current : after.current ≡ before.current
  pub groups : after.groups ≡ before.groups

-- A message that is answered with another code than 00 leaves every place, the current set and the groups as they were.
abbrev pub RefusedMessageChangesNothing : Type 0
RefusedMessageChangesNothing = (v : Store) (message : List ℕ) → (step v message).1 ≢ Applied
    → IsAsBefore v (step v message).0

-- The elements, put into the store one after another, are each answered with 00, and leave that store.
abbrev pub PutsEach : Store → List Element → (after : Store) → Type 0
PutsEach v [] after = after ≡ v
PutsEach v (e ∷ es) after = ((put v e).1 ≡ Applied) × PutsEach (put v e).0 es after

-- A message that is answered with 00 reads to its end, and each of its elements was put in order.
abbrev pub AppliedMessageIsWhole : Type 0
AppliedMessageIsWhole =
    (v : Store) (message : List ℕ) (reading : Reading) → AreBytes message → Reads message reading
    → (step v message).1 ≡ Applied → (reading.fault ≡ None) × PutsEach v reading.elements (step v message).0

-- And a message that reads to its end, and whose elements can each be put in order, is answered with 00.
abbrev pub WholeMessageIsApplied : Type 0
WholeMessageIsApplied =
    (v : Store) (message : List ℕ) (reading : Reading) (after : Store) → AreBytes message → Reads message reading
    → reading.fault ≡ None → PutsEach v reading.elements after → step v message ≡ (after, Applied)

-- A message with no byte is answered with 00, and changes nothing.
abbrev pub EmptyMessageChangesNothing : Type 0
EmptyMessageChangesNothing = (v : Store) → step v [] ≡ (v, Applied)

-- The groups go out one by one, in this order, and leave that store.
abbrev pub TakesOut : Store → List Group → (after : Store) → Type 0
TakesOut v [] after = after ≡ v
TakesOut v (group ∷ groups) after = ((group_taken v).1 ≡ Some group) × TakesOut (group_taken v).0 groups after

-- The groups that wait go out in the order in which they wait, and nothing else changes; then there is none to go out.
abbrev pub GroupsGoOutInOrder : Type 0
GroupsGoOutInOrder =
    (v : Store) → TakesOut v v.groups (record v { groups = [] })
    × (group_taken (record v { groups = [] }) ≡ (record v { groups = [] }, None))

-- What is kept at each place is all that there is to know of the data.
abbrev pub IsKnownByPlaces : Type 0
IsKnownByPlaces = (a b : Data) → ((place : ℕ × ℕ) → get a place ≡ get b place) → a ≡ b
