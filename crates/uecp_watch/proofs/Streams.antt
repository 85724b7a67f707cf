-- Reads one after another, as one stream.
use Rattle.std.proofs.Common.{◌≡◌, ℕ, Bool, false, List, [], ◌∷◌, ◌++◌, flat_map, refl, ◌∙◌, ap, ap₂, sym, append_assoc}
use Rattle.std.proofs.Common.{append-nil, subst}
use Rattle.std.proofs.lemmas.List.Concat.{flat_map-append}
use Rattle.std.specs.List.{concat}
use Rattle.uecp_frame.specs.Findings.{Finding, OpenPart, Closed}
use Rattle.uecp_frame.specs.Beyond.{found_beyond, open_beyond}
use Rattle.uecp_frame.proofs.Public.{in_pieces_lem, new_start_lem}
use Rattle.output_forms.specs.declared.form.Form.{Form}
use Rattle.output_forms.specs.Forms.{found_lines}
use Rattle.uecp_watch.specs.Watching.{IsRead, IsTold, AreTold, IsOneStream}

-- ---- one more read
pub told_then : (form : Form) (timed : Bool) (part : OpenPart) (reads : List (List ℕ)) (lines bytes now : List ℕ)
    → AreTold form timed part reads lines → IsRead bytes
    → IsTold form timed (found_beyond (open_beyond part (concat reads)) bytes) now
    → AreTold form timed part (reads ++ bytes ∷ []) (lines ++ now)
told_then form timed part [] lines bytes now none is_read told = (
  now,
  [],
  is_read,
  subst (λ p. IsTold form timed (found_beyond p bytes) now) (new_start_lem part []).stays told,
  ap (λ l. l ++ now) none ∙ sym (append-nil now),
  refl,
)
told_then form timed part (first ∷ reads) lines bytes now (head, rest, first_read, head_told, lines_are, more) is_read
    told
    = (
      head,
      rest ++ now,
      first_read,
      head_told,
      ap (λ l. l ++ now) lines_are ∙ append_assoc head rest now,
      told_then form timed (open_beyond part first) reads rest bytes now more is_read
          (subst (λ p. IsTold form timed (found_beyond p bytes) now) (in_pieces_lem part first (concat reads)).left
          told),
    )

-- ---- all of them as one
untimed : (form : Form) (findings : List Finding) (lines : List ℕ) → IsTold form false findings lines
    → lines ≡ flat_map (found_lines form) findings
untimed form [] lines told = told
untimed form (finding ∷ findings) lines (time, none, lines_are) =
    lines_are ∙ ap (λ l. l ++ flat_map (found_lines form) (finding ∷ findings)) none

from_part : (form : Form) (part : OpenPart) (reads : List (List ℕ)) (lines : List ℕ)
    → AreTold form false part reads lines
    → lines ≡ flat_map (found_lines form) (found_beyond part (concat reads))
from_part form part [] lines none = none ∙ sym (ap (flat_map (found_lines form)) (new_start_lem part []).nothing)
from_part form part (bytes ∷ reads) lines (now, later, is_read, told, lines_are, more) =
    lines_are
    ∙ ap₂ (λ (a b : List ℕ). a ++ b) (untimed form (found_beyond part bytes) now told)
    (from_part form (open_beyond part bytes) reads later more)
    ∙ sym (flat_map-append (found_lines form) (found_beyond part bytes)
    (found_beyond (open_beyond part bytes) (concat reads)))
    ∙ sym (ap (flat_map (found_lines form)) (in_pieces_lem part bytes (concat reads)).found)

pub one_stream_lem : IsOneStream
one_stream_lem form reads lines told =
    from_part form Closed reads lines told
    ∙ ap (flat_map (found_lines form)) (new_start_lem Closed (concat reads)).found
