-- Lines that are heard one after another, and how that begins and ends.
use Rattle.std.proofs.Common.{◌≡◌, ℕ, Bool, false, List, [], ◌∷◌, ◌++◌, Option, refl, ap, subst, ◌∙◌, inr}
use Rattle.uecp_text.specs.declared.run_fault.RunFault.{RunFault}
use Rattle.uecp_text.specs.declared.run_fault.RunFault.TheVariants as run
use Rattle.uecp_text.specs.Faults.{status_of}
use Rattle.rds_groups.specs.Shown.{Receiver, switched_on}
use Rattle.rds_groups.specs.View.{receiver_of}
use Rattle.commands.specs.declared.receive_options.ShownForm.{ShownForm}
use Rattle.receive_command.specs.declared.group_lines.group_line.GroupLine.{GroupLine}
use Rattle.receive_command.specs.declared.line_input.Hearing.{Hearing}
use Rattle.receive_command.specs.GroupLines.{after_line}
use Rattle.receive_command.specs.Shown.{shown_by}
use Rattle.receive_command.specs.Told.{IsTold}
use Rattle.receive_command.specs.Receiving.{Standing, at_first, Takes, Hears, HearsEach, FailsFor}
use Rattle.receive_command.specs.View.{standing_of, FailsToTell}
use Rattle.notices.specs.Told.{Told}

abbrev standing_with : (unread : Option (List ℕ)) (lines : ℕ) (refused : Bool) (heard : Receiver)
    (held : Option (List ℕ)) (said : Told) → Standing
standing_with unread lines refused heard held said = record {
  unread = unread;
  lines = lines;
  refused = refused;
  heard = heard;
  held = held;
  said = said;
}

-- at first nothing was heard
pub stands_first : (h : Hearing) (unread held : Option (List ℕ)) (said : Told) → receiver_of h.receiver ≡ switched_on
    → h.lines ≡ 0 → h.refused ≡ false → standing_of h unread held said ≡ at_first unread held said
stands_first h unread held said receiver lines refused =
    ap (λ n. standing_with unread n h.refused (receiver_of h.receiver) held said) lines
    ∙ ap (λ b. standing_with unread 0 b (receiver_of h.receiver) held said) refused
    ∙ ap (λ r. standing_with unread 0 false r held said) receiver

-- one more line was heard
pub hears_on : (form : ShownForm) (timed : Bool) (lines : List GroupLine) (is : GroupLine) (x y z : Standing)
    → HearsEach form timed lines x y → Hears form timed is y z → HearsEach form timed (lines ++ is ∷ []) x z
hears_on form timed [] is x y z same hears =
    (z, subst (λ w. Hears form timed is w z) same hears, refl)
hears_on form timed (line ∷ lines) is x y z (next, first, others) hears =
    (next, first, hears_on form timed lines is next y z others hears)

-- the next line was heard, and telling what it changed failed
pub fails_to_tell : (form : ShownForm) (timed : Bool) (x : Standing) (unread' held' : Option (List ℕ))
    (is : GroupLine) (r : Receiver) → Takes x.unread unread' is → r ≡ after_line is x.heard
    → (fault : RunFault) → FailsToTell form timed (shown_by x.heard) (shown_by r) x.held held' fault
    → FailsFor fault form timed x unread' held'
fails_to_tell form timed x unread' held' is r takes heard run.Writing (told, is_told, begun) =
    (told, (is, takes, subst (λ q. IsTold form timed (shown_by x.heard) (shown_by q) told) heard is_told), begun)
fails_to_tell form timed x unread' held' is r takes heard run.OutOfMemory same = (inr (takes.0, takes.1), same)
fails_to_tell form timed x unread' held' is r takes heard fault fails = absurd fails

-- a run that fails so has status 3
pub fails_status : (form : ShownForm) (timed : Bool) (x : Standing) (unread' held' : Option (List ℕ))
    (fault : RunFault) → FailsFor fault form timed x unread' held' → status_of fault ≡ 3
fails_status form timed x unread' held' run.Reading fails = refl
fails_status form timed x unread' held' run.Writing fails = refl
fails_status form timed x unread' held' run.OutOfMemory fails = refl
fails_status form timed x unread' held' fault fails = absurd fails
