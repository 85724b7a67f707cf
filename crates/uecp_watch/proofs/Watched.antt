-- Reads one after another, each told.
use Rattle.std.proofs.Common.{◌≡◌, ℕ, Bool, Option, Some, None, List, [], ◌∷◌, ◌++◌, refl, ◌∙◌, ap, sym, subst}
use Rattle.std.proofs.Common.{append-nil}
use Rattle.std.proofs.lemmas.List.Folds.{concat-append}
use Rattle.std.specs.List.{concat}
use Rattle.std.specs.Io.KnownBytes.{Consumes, Keeps, Appends}
use Rattle.std.proofs.KnownBytes.{Consumes-trans, Consumes-kept}
use Rattle.uecp_frame.specs.Findings.{OpenPart, Closed, open_part}
use Rattle.uecp_frame.specs.Beyond.{found_beyond, open_beyond}
use Rattle.uecp_frame.proofs.Public.{new_start_lem, comes_after_lem}
use Rattle.uecp_text.specs.declared.run_fault.RunFault.{RunFault}
use Rattle.uecp_text.proofs.Public.{appends_nothing, appends_then}
use Rattle.output_forms.specs.declared.form.Form.{Form}
use Rattle.uecp_watch.specs.Watching.{IsRead, IsTold, HasTold, FailsToTell, HasFailed}
use Rattle.uecp_watch.proofs.Streams.{told_then}

consumes_nothing : (unread : Option (List ℕ)) → Consumes unread unread []
consumes_nothing None = tt
consumes_nothing (Some left) = refl

-- All that was read is told, and this part is left open.
abbrev pub HasLeft : Form → Bool → (unread unread' held held' : Option (List ℕ)) → OpenPart → Type 0
HasLeft form timed unread unread' held held' part =
    (told : HasTold form timed unread unread' held held') × (open_part (concat told.reads) ≡ part)

pub left_at_first : (form : Form) (timed : Bool) (unread held : Option (List ℕ)) (part : OpenPart) → part ≡ Closed
    → HasLeft form timed unread unread held held part
left_at_first form timed unread held part is = (
  record {
    reads = [];
    lines = [];
    told = refl;
    consumed = consumes_nothing unread;
    written = appends_nothing held;
  },
  sym (new_start_lem Closed []).left ∙ (new_start_lem Closed []).stays ∙ sym is,
)

module _ (form : Form) (timed : Bool) (unread between unread' held before : Option (List ℕ)) (part : OpenPart)
    (left : HasLeft form timed unread between held before part) where
  -- a read that was interrupted
  pub left_kept : Keeps between unread' → HasLeft form timed unread unread' held before part
  left_kept keeps = (
    record {
      reads = left.0.reads;
      lines = left.0.lines;
      told = left.0.told;
      consumed = Consumes-kept unread between unread' (concat left.0.reads) left.0.consumed keeps;
      written = left.0.written;
    },
    left.1,
  )

  module _ (held' : Option (List ℕ)) (bytes : List ℕ) (is_read : IsRead bytes)
      (consumes : Consumes between unread' bytes) where
    opened : open_beyond Closed (concat left.0.reads) ≡ part
    opened = (new_start_lem Closed (concat left.0.reads)).left ∙ left.1

    joined : concat (left.0.reads ++ bytes ∷ []) ≡ concat left.0.reads ++ bytes
    joined = concat-append left.0.reads (bytes ∷ []) ∙ ap (λ l. concat left.0.reads ++ l) (append-nil bytes)

    -- a read that was told
    pub left_on : (lines : List ℕ) (part' : OpenPart) → IsTold form timed (found_beyond part bytes) lines
        → open_beyond part bytes ≡ part' → Appends before held' lines
        → HasLeft form timed unread unread' held held' part'
    left_on lines part' told opens written = (
      record {
        reads = left.0.reads ++ bytes ∷ [];
        lines = left.0.lines ++ lines;
        told = told_then form timed Closed left.0.reads left.0.lines bytes lines left.0.told is_read
            (subst (λ o. IsTold form timed (found_beyond o bytes) lines) (sym opened) told);
        consumed = subst (Consumes unread unread') (sym joined)
            (Consumes-trans unread between unread' (concat left.0.reads) bytes left.0.consumed consumes);
        written = appends_then held before held' left.0.lines lines left.0.written written;
      },
      ap open_part joined ∙ (comes_after_lem (concat left.0.reads) bytes).left
          ∙ ap (λ o. open_beyond o bytes) left.1 ∙ opens,
    )

    -- a read that could not be told
    pub left_off : (fault : RunFault) → FailsToTell form timed (found_beyond part bytes) before held' fault
        → HasFailed form timed unread unread' held held' fault
    left_off fault fails = record {
      between = between;
      before = before;
      told = left.0;
      last = bytes;
      is_read = is_read;
      consumed = consumes;
      failed = subst (λ o. FailsToTell form timed (found_beyond o bytes) before held' fault) (sym left.1) fails;
    }
