-- Why watching stops.
use Rattle.std.proofs.Common.{◌≡◌, ℕ, List, Option, Bool, Err, refl, subst, sym, inl, inr}
use Rattle.uecp_text.specs.declared.run_fault.RunFault.{RunFault}
use Rattle.uecp_text.specs.Faults.{Fails, status_of}
use Rattle.output_forms.specs.declared.form.Form.{Form}
use Rattle.uecp_watch.specs.Watching.{Watches}

-- the fault is one of memory, reading or writing
abbrev IsFailure : RunFault → Type 0
IsFailure fault = Fails fault × (status_of fault ≡ 3)

pub watching_fails : (form : Form) (timed : Bool) (unread unread' held held' : Option (List ℕ)) (fault : RunFault)
    → Watches form timed unread unread' held held' (Err fault) → IsFailure fault
watching_fails form timed unread unread' held held' fault watches = elim watches [
  | inl (reading, told) ↦ subst IsFailure (sym reading) (tt, refl)
  | inr failed ↦ elim failed.failed.broken [
    | inl (wanting, same) ↦ subst IsFailure (sym wanting) (tt, refl)
    | inr (writing, begun) ↦ subst IsFailure (sym writing) (tt, refl)
  ]
]
