-- The lines of a read.
use Rattle.std.proofs.Common.{◌≡◌, ℕ, Bool, List, [], ◌∷◌, ◌++◌, flat_map, refl, ◌∙◌, ap, sym, subst}
use Rattle.std.proofs.Common.{drop, Result, Ok, Err, OnOk, IsTrue, ◌≢◌}
use Rattle.std.proofs.lemmas.List.Concat.{flat_map-append}
use Rattle.uecp_frame.specs.declared.fed.Found.{Found}
use Rattle.uecp_frame.specs.declared.fed.Found.TheVariants.{Nothing, Frame, Refused}
use Rattle.uecp_frame.specs.declared.fed.Fed.{Fed}
use Rattle.uecp_frame.specs.Findings.{Finding, OpenPart}
use Rattle.uecp_frame.specs.Beyond.{found_beyond}
use Rattle.uecp_frame.specs.Feeding.{Feeds, findings_of}
use Rattle.uecp_text.specs.Written.{Kept, Adds}
use Rattle.uecp_text.proofs.Public.{adds_then}
use Rattle.uecp_text.specs.declared.run_fault.RunFault.{RunFault}
use Rattle.std.specs.declared.option.Option.{Option}
use Rattle.output_forms.specs.declared.form.Form.{Form}
use Rattle.output_forms.specs.Forms.{found_lines}
use Rattle.uecp_watch.specs.Watching.{IsTime, IsTimed, IsTold, BreaksIn, FailsToTell}
use Rattle.uecp_watch.proofs.Pieces.{found_on}

-- the time, and then findings in two parts
pub timed_then : (form : Form) (timed : Bool) (a b c d : Kept) (now later : List Finding) (time : List ℕ)
    → IsTime form timed time → Adds a b time → Adds b c (flat_map (found_lines form) now)
    → Adds c d (flat_map (found_lines form) later)
    → (lines : List ℕ) × IsTimed form timed (now ++ later) lines × Adds a d lines
timed_then form timed a b c d now later time is_time first second third =
    let f = flat_map (found_lines form) in (
      time ++ (f now ++ f later),
      (time, is_time, ap (λ l. time ++ l) (sym (flat_map-append (found_lines form) now later))),
      adds_then a b d time (f now ++ f later) first (adds_then b c d (f now) (f later) second third),
    )

-- what failed is not done
pub not_done : {T E : Type 0} (r : Result T E) (e : E) (P : Type 0) → r ≡ Err e → OnOk r P
not_done r e P is = subst (λ s. OnOk s P) (sym is) tt

-- what a read ended first
abbrev some_first : (x : Found) → x ≢ Nothing → (first : Finding) × (findings_of x ≡ first ∷ [])
some_first Nothing n = absurd (n refl)
some_first (Frame f) n = (Ok f, refl)
some_first (Refused fault) n = (Err fault, refl)

-- a read that ended a segment, whose lines were added to an empty output
module _ (form : Form) (timed : Bool) (o o' : OpenPart) (bytes rest : List ℕ) (fed : Fed) (feeds : Feeds o bytes fed o')
    (rest_is : rest ≡ drop fed.used bytes) (some : fed.found ≢ Nothing) (before after : Kept)
    (empty : before.bytes ≡ [])
    (lines : List ℕ) (timed_lines : IsTimed form timed (findings_of fed.found ++ found_beyond o' rest) lines)
    (adds : Adds before after lines) where
  abbrev first : Finding
  first = (some_first fed.found some).0

  parts : found_beyond o bytes ≡ findings_of fed.found ++ found_beyond o' rest
  parts = found_on o o' fed bytes rest feeds rest_is

  found_is : found_beyond o bytes ≡ first ∷ found_beyond o' rest
  found_is = parts ∙ ap (λ l. l ++ found_beyond o' rest) (some_first fed.found some).1

  is_timed : IsTimed form timed (found_beyond o bytes) lines
  is_timed = subst (λ found. IsTimed form timed found lines) (sym parts) timed_lines

  pub is_told : IsTold form timed (found_beyond o bytes) lines
  is_told = subst (λ found. IsTold form timed found lines) (sym found_is)
      (subst (λ found. IsTimed form timed found lines) found_is is_timed)

  pub holds : IsTrue after.is_whole → after.bytes ≡ lines
  holds whole = (adds whole).1 ∙ ap (λ b. b ++ lines) empty

  pub fails_to : (held held' : Option (List ℕ)) (fault : RunFault) → BreaksIn held held' lines fault
      → FailsToTell form timed (found_beyond o bytes) held held' fault
  fails_to held held' fault broken = record {
    first = first;
    others = found_beyond o' rest;
    some = found_is;
    lines = lines;
    told = is_timed;
    broken = broken;
  }
