-- Which cases are run, and what is counted of them (profile).
use Rattle.std.specs.Prelude.{ℕ, ◌+◌, ◌==◌, ◌||◌, Bool, true, false, List, [], ◌∷◌, filter, bytes_eq, Option, Some}
use Rattle.std.specs.Prelude.{None}
use Rattle.std.specs.Prelude.{if◌then◌else◌}
use Rattle.conformance.specs.declared.case.Case.{Case}
use Rattle.conformance.specs.declared.verdict.Verdict.TheVariants.{Kept}
use Rattle.conformance_command.specs.declared.went.Went.{Went}
use Rattle.conformance_command.specs.declared.went.Went.TheVariants.{Judged}
use Rattle.conformance_command.specs.declared.tally.Tally.{Tally}

-- Whether a case is run where this name is given: that which has this name, or is of the group of this name; and each
-- where none is.
abbrev pub is_chosen : (only : Option (List ℕ)) → Case → Bool
is_chosen None case = true
is_chosen (Some name) case = bytes_eq name case.name.now || bytes_eq name case.group.now

-- The cases that are run, in order.
abbrev pub chosen : (only : Option (List ℕ)) → List Case → List Case
chosen only cases = filter (is_chosen only) cases

-- Whether a case that went so is kept.
abbrev pub is_kept : Went → Bool
is_kept (Judged Kept) = true
is_kept went = false

-- No case yet.
abbrev pub none_counted : Tally
none_counted = record { kept = 0; not_kept = 0; profile_not_kept = 0 }

-- One case more: it is kept; or it is not, and counts against the encoder unless it is this project's own.
abbrev pub counted : (profile : Bool) → Went → Tally → Tally
counted profile went tally =
    if is_kept went then record tally { kept = tally.kept + 1 }
    else if profile then record tally { profile_not_kept = tally.profile_not_kept + 1 }
    else record tally { not_kept = tally.not_kept + 1 }

-- These cases more, which went so.
abbrev pub tally_from : Tally → List Case → List Went → Tally
tally_from tally [] wents = tally
tally_from tally (case ∷ cases) [] = tally
tally_from tally (case ∷ cases) (went ∷ wents) = tally_from (counted case.profile went tally) cases wents

-- How many of these cases, which went so, are kept and are not.
abbrev pub tally_of : List Case → List Went → Tally
tally_of cases wents = tally_from none_counted cases wents

-- The exit status of a run that came to its end: 0 where every case that counts is kept, else 1.
abbrev pub status_of : Tally → ℕ
status_of tally = if tally.not_kept == 0 then 0 else 1
