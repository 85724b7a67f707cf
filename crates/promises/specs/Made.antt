-- What the messages of a station make of a target; a reader has to believe it. Source: profile.
use Rattle.std.specs.Prelude.{◌≡◌, ◌≤◌, ℕ, zero, suc, List, [], ◌∷◌, ◌++◌, length}
use Rattle.std.specs.List.{AllByRecursion}
use Rattle.uecp_elements.specs.declared.code.Code.TheVariants.{Applied}
use Rattle.rds_store.specs.declared.group.Group.{Group}
use Rattle.rds_store.specs.Value.{Store}
use Rattle.uecp_encoder.specs.Target.{Step, Taken}
use Rattle.uecp_link.specs.Server.{frames_waiting}
use Rattle.uecp_link.specs.History.{Act, Message, Taking, messages_in, numbers_below}
use Rattle.uecp_link.specs.Fold.{value_after, codes_after}
use Rattle.uecp_link.specs.Holds.{LineState}
use Rattle.store_phrases.specs.Laws.{told}

-- How many takes a history has.
abbrev pub takes_in : List Act → ℕ
takes_in [] = zero
takes_in (Message k ∷ acts) = takes_in acts
takes_in (Taking ∷ acts) = suc (takes_in acts)

-- The messages, applied to a target one after another, are each answered with 00, and leave this value: `AppliesEach`
-- of `store_phrases`, for every target.
abbrev pub MakesEach : {V : Type 0} → Step V → V → (messages : List (List ℕ)) → (after : V) → Type 0
MakesEach step v [] after = after ≡ v
MakesEach step v (m ∷ ms) after = ((step v m).1 ≡ Applied) × MakesEach step (step v m).0 ms after

-- The station's messages made the encoder's store of the one that it had.
pub record IsMade {V : Type 0} (step : Step V) (taken : Taken V) (opening : V) (station : List (List ℕ))
    (acts : List Act) (line : LineState V) : Type 0 where
  -- the messages of the history are those of the station, each once and in order
  pub order : messages_in acts ≡ numbers_below (length station)
  -- the store is what they make of the one that was there, with the takes where they fell
  pub store : line.encoder.value ≡ value_after step taken station opening acts
  -- each of them was answered with 00
  pub codes : AllByRecursion (λ code. code ≡ Applied) (codes_after step taken station opening acts)
  -- so where no group was taken, it is what they make one after another
  pub untaken : takes_in acts ≡ 0 → MakesEach step opening station line.encoder.value
  -- and nothing is outstanding
  pub idle : frames_waiting line.server ≡ []

-- This store is the other one, but that of its groups the first may have gone out, no more than so many.
pub record IsButTaken (takes : ℕ) (made store : Store) : Type 0 where
  -- those that went out
  pub gone : List Group
  pub groups : made.groups ≡ gone ++ store.groups
  pub few : length gone ≤ takes
  -- all else is the same
  pub others : store ≡ record made { groups = store.groups }

-- A store was told to one that was there: it is the store that is told, but for the groups that were taken; and where
-- none was, that very store.
pub record IsTold (v held : Store) (takes : ℕ) (store : Store) : Type 0 where
  pub taken : IsButTaken takes (told v held) store
  pub whole : takes ≡ 0 → store ≡ told v held
