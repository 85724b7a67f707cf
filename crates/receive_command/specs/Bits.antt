-- What is told of the bits of a reader as they come. (profile)
use Rattle.std.specs.Prelude.{◌≡◌, ◌⊎◌, ℕ, ◌==◌, ◌&&◌, not, Bool, true, false, Option, List, [], ◌∷◌, ◌++◌, codes}
use Rattle.std.specs.Prelude.{if◌then◌else◌}
use Rattle.std.specs.List.{list_any}
use Rattle.std.specs.Io.KnownBytes.{Consumes, IsAtEnd, Appends}
use Rattle.uecp_text.specs.declared.run_fault.RunFault.{RunFault}
use Rattle.uecp_text.specs.declared.run_fault.RunFault.TheVariants.{Reading, Writing, OutOfMemory}
use Rattle.uecp_text.specs.Faults.{error_lines}
use Rattle.uecp_text.specs.Written.{Begins}
use Rattle.rds_groups.specs.declared.heard.HeardGroup.{HeardGroup}
use Rattle.rds_groups.specs.Shown.{Receiver, switched_on, hears}
use Rattle.rds_groups.specs.Sync as sync
use Rattle.rds_groups.specs.SynchroniserLaws.{found_in_text, after_text}
use Rattle.rds_groups.specs.declared.synchroniser.Synchroniser.{Synchroniser}
use Rattle.commands.specs.declared.receive_options.ShownForm.{ShownForm}
use Rattle.receive_command.specs.Shown.{shown_by}
use Rattle.receive_command.specs.Told.{IsTold}
use Rattle.notices.specs.Told.{Told, Says}

-- ---- Groups that a receiver hears one after another.
-- What it has heard then.
abbrev pub heard_all : List HeardGroup → Receiver → Receiver
heard_all [] r = r
heard_all (g ∷ groups) r = heard_all groups (hears g r)

-- What is told of them: of each what it changes in what the receiver shows, in order.
abbrev pub AreTold : ShownForm → (timed : Bool) → Receiver → List HeardGroup → (told : List ℕ) → Type 0
AreTold form timed r [] told = told ≡ []
AreTold form timed r (g ∷ groups) told =
    (now : List ℕ) × (later : List ℕ) × IsTold form timed (shown_by r) (shown_by (hears g r)) now
    × (told ≡ now ++ later) × AreTold form timed (hears g r) groups later

-- ---- Texts of bits.
-- Where hearing stands: where the next group is looked for, what the receiver has heard, and what the writer holds.
pub record BitStanding : Type 0 where
  pub place : Synchroniser
  pub heard : Receiver
  pub held : Option (List ℕ)

-- At first nothing came, and the receiver is switched on.
abbrev pub bits_at_first : (held : Option (List ℕ)) → BitStanding
bits_at_first held = record { place = sync.switched_on; heard = switched_on; held = held }

-- This text came, and the receiver heard the groups that are found in its bits; what there is to tell of them was
-- written, and nothing else.
pub record HearsText (form : ShownForm) (timed : Bool) (text : List ℕ) (x x' : BitStanding) : Type 0 where
  pub told : List ℕ
  pub are_told : AreTold form timed x.heard (found_in_text text x.place) told
  pub written : Appends x.held x'.held told
  pub place : x'.place ≡ after_text text x.place
  pub heard : x'.heard ≡ heard_all (found_in_text text x.place) x.heard

-- It came, and memory was wanting or writing failed: what was written is a beginning of what there is to tell of its
-- groups.
pub record FailsInText (form : ShownForm) (timed : Bool) (text : List ℕ) (x : BitStanding)
    (held' : Option (List ℕ)) (fault : RunFault) : Type 0 where
  pub heard : List HeardGroup
  pub others : List HeardGroup
  pub groups : found_in_text text x.place ≡ heard ++ others
  pub told : List ℕ
  pub are_told : AreTold form timed x.heard heard told
  pub begun : Begins x.held held' told
  pub for_this : (fault ≡ OutOfMemory) ⊎ (fault ≡ Writing)

-- ---- Characters that are neither bits nor white space.
abbrev pub is_foreign : (character : ℕ) → Bool
is_foreign character =
    not (character == 0x30) && (not (character == 0x31) && (not (character == 0x20) && (not (character == 0x0A)
    && (not (character == 0x0D) && not (character == 0x09)))))

-- What is said of them, once.
abbrev pub foreign_line : List ℕ
foreign_line = codes "uecp: input that is neither 0 nor 1\n"

-- That, where there are some, as far as it could be written, and nothing where there are none.
abbrev pub SaysForeign : (foreign : Bool) → (said said' : Told) → Type 0
SaysForeign false said said' = said' ≡ said
SaysForeign true said said' = Says said said' foreign_line

-- ---- How a run ends.
-- The input was at its end, and all of it is told: 1 where some of it is neither bit nor white space, else 0.
pub record EndsWith (form : ShownForm) (timed : Bool) (status : ℕ)
    (unread unread' held held' : Option (List ℕ)) (said said' : Told) : Type 0 where
  pub text : List ℕ
  pub last : BitStanding
  pub hears : HearsText form timed text (bits_at_first held) last
  pub holds : held' ≡ last.held
  pub consumed : Consumes unread unread' text
  pub ended : IsAtEnd unread'
  pub says : SaysForeign (list_any is_foreign text) said said'
  pub status_is : status ≡ (if list_any is_foreign text then 1 else 0)

-- Why and where a run stopped behind a text: reading failed, and all of the text is told; or telling failed in it.
abbrev pub StopsFor : RunFault → ShownForm → (timed : Bool) → (text : List ℕ) → (held held' : Option (List ℕ)) → Type 0
StopsFor fault form timed text held held' =
    ((fault ≡ Reading)
    × ((last : BitStanding) × HearsText form timed text (bits_at_first held) last × (held' ≡ last.held)))
    ⊎ FailsInText form timed text (bits_at_first held) held' fault

-- That was said too, and the status is 3.
pub record StopsWith (form : ShownForm) (timed : Bool) (status : ℕ)
    (unread unread' held held' : Option (List ℕ)) (said said' : Told) : Type 0 where
  pub text : List ℕ
  pub fault : RunFault
  pub stops : StopsFor fault form timed text held held'
  pub consumed : Consumes unread unread' text
  pub between : Told
  pub says : SaysForeign (list_any is_foreign text) said between
  pub told : Says between said' (error_lines fault)
  pub status_is : status ≡ 3

-- The bits of the input were heard from its front, and then the run ended or stopped.
abbrev pub ReceivesBits : ShownForm → (timed : Bool) → (status : ℕ)
    → (unread unread' held held' : Option (List ℕ)) → (said said' : Told) → Type 0
ReceivesBits form timed status unread unread' held held' said said' =
    EndsWith form timed status unread unread' held held' said said'
    ⊎ StopsWith form timed status unread unread' held held' said said'
