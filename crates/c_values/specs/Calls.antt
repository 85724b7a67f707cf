-- What a call does with a handle (profile).
use Rattle.std.specs.Prelude.{◌≡◌, ◌⊎◌, ℕ, ◌<◌, ◌≤◌, List, [], length, take, Option, Some, None, Result, Ok, Err}
use Rattle.uecp_frame.specs.Findings.{OpenPart}
use Rattle.uecp_frame.specs.Beyond.{found_beyond}
use Rattle.c_values.specs.declared.object.Object.{Object}
use Rattle.c_values.specs.Statuses.{done, occupied, no_memory, not_there}

-- What a handle has before and after a call that makes an object. Where it has one, that stays; where there is a fault,
-- it is said, and nothing is made; else the object is made, or there was no memory for it.
abbrev pub IsNew : (old new : Option Object) → (fault : Option ℕ) → (made : Object) → (status : ℕ) → Type 0
IsNew (Some object) new fault made status = (status ≡ occupied) × (new ≡ Some object)
IsNew None new (Some fault) made status = (status ≡ fault) × (new ≡ None)
IsNew None new None made status = ((status ≡ done) × (new ≡ Some made)) ⊎ ((status ≡ no_memory) × (new ≡ None))

-- A call that is for one kind of object says with its status why the handle has none of that kind, and then all stays;
-- else it does what it is for.
abbrev pub Calls : {Kind : Type 0} → Result Kind ℕ → (status : ℕ) → (stays : Type 0) → (does : Kind → Type 0) → Type 0
Calls (Err why) status stays does = (status ≡ why) × stays
Calls (Ok object) status stays does = does object

-- A call that looks for something says that it is not there, and then what was to tell it stays; or it is told.
abbrev pub Finds : {X : Type 0} → Option X → (status : ℕ) → (stays : Type 0) → (told : X → Type 0) → Type 0
Finds None status stays told = (status ≡ not_there) × stays
Finds (Some x) status stays told = (status ≡ done) × told x

-- From an open part, the bytes of a piece up to and with the one at which the next finding is judged are used, or all
-- where there is none; of a piece that is not empty at least one.
pub record UsesToNext (part : OpenPart) (piece : List ℕ) (used : ℕ) : Type 0 where
  pub within : used ≤ length piece
  pub moves : 0 < length piece → 0 < used
  pub first : (k : ℕ) → k < used → found_beyond part (take k piece) ≡ []
  pub all : found_beyond part (take used piece) ≡ [] → used ≡ length piece
