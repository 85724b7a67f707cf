-- Findings that are shown in words and made again.
use Rattle.std.proofs.Common.{◌≡◌, ℕ, ◌+◌, ◌<◌, ◌≤◌, true, false, List, [], ◌∷◌, ◌++◌, length, flat_map, Option, Some}
use Rattle.std.proofs.Common.{None, Ok, Err, refl, sym, ap, ◌∙◌, append_assoc, append-nil, subst, inl, inr, arith}
use Rattle.std.specs.List.{AllByRecursion}
use Rattle.uecp_frame.specs.declared.frame.Frame.{Frame}
use Rattle.uecp_frame.specs.Findings.{Finding}
use Rattle.uecp_link.specs.Counters.{next_counter}
use Rattle.rds_text.specs.declared.programme_type.Region.{Region}
use Rattle.uecp_text.specs.declared.run_fault.RunFault.{RunFault}
use Rattle.uecp_text.specs.Input.{lines_of, numbered}
use Rattle.uecp_text.specs.Run.{Runs}
use Rattle.phrase_scripts.specs.Lines.{Line, Begins, Says, SaysLine, heading_line, message_line, message_text}
use Rattle.phrase_scripts.specs.Lines.{frame_lines, finding_lines}
use Rattle.phrase_scripts.proofs.Public.{read_as_written}
use Rattle.uecp_jobs.specs.FrameScript.{spelled_line}
use Rattle.uecp_jobs.specs.PhraseScript.{Heading, left_line, DoesPhrase, MakesWords, first_heading}
use Rattle.uecp_jobs.specs.Remade.{spelled_lines}
use Rattle.uecp_jobs.specs.RemadeInWords.{IsFrame, frames_among, IsRemadeInWords}
use Rattle.uecp_jobs.proofs.SaidOnce.{one_thing}
use Rattle.uecp_jobs.proofs.ScriptTexts.{heading_text, heading_heard, heading_says, message_heard, dropped_unheard}

-- ---- One line of the script.

step_one : (region : Region) (before : Heading) (number : ℕ) (text lines : List ℕ) (stop : Option RunFault)
    (left : Heading) (texts : List (ℕ × List ℕ)) (line : Line) →
    SaysLine region text line → Runs (MakesWords region) before ((number, text) ∷ texts) lines stop left →
    (first : List ℕ) × (rest : List ℕ) × (next : Heading) × DoesPhrase before line first next × (lines ≡ first ++ rest)
    × Runs (MakesWords region) next texts rest stop left
step_one region before number text lines stop left texts line says
    (inl (first, rest, next, (other, said, does), is, ran)) = (
      first,
      rest,
      next,
      subst (λ l. DoesPhrase before l first next) (one_thing region text other line said says) does,
      is,
      ran,
    )
step_one region before number text lines stop left texts line says
    (inr (inl (why, (same, unsaid, nothing), none, is))) = absurd (nothing line says)
step_one region before number text lines stop left texts line says (inr (inr (ends, is))) = absurd ends

-- ---- The lines of a frame.

abbrev named : (address counter : ℕ) → Heading
named address counter = record { address = address; counter = counter; is_named = true }

abbrev frame : (address counter : ℕ) → (message : List ℕ) → Frame
frame address counter message = record { address = address; counter = counter; message = message }

-- The lines of a frame were taken, with these left: what they wrote, with what is written of the heading that they
-- leave, is what is written of the heading before, and the frame.
record IsMade (region : Region) (before : Heading) (f : Frame) (others lines : List ℕ) (stop : Option RunFault)
    (left : Heading) : Type 0 where
  number : ℕ
  after : Heading
  first : List ℕ
  rest : List ℕ
  whole : lines ≡ first ++ rest
  writes : first ++ left_line after ≡ left_line before ++ spelled_line (Some f)
  ran : Runs (MakesWords region) after (numbered number (lines_of others)) rest stop left

heading_made : (region : Region) (before : Heading) (f : Frame) (number : ℕ) (more lines : List ℕ)
    (stop : Option RunFault) (left : Heading) → f.address < 0x10000 → f.counter < 0x100 →
    Runs (MakesWords region) before (numbered number (lines_of (heading_line f ++ more))) lines stop left
    → (rest : List ℕ) × (lines ≡ left_line before ++ rest)
    × Runs (MakesWords region) (named f.address f.counter) (numbered (number + 1) (lines_of more)) rest stop left
heading_made region before f number more lines stop left high low ran =
    let texts : List (ℕ × List ℕ) = numbered (number + 1) (lines_of more) in
    let step = step_one region before number (heading_text f.address f.counter) lines stop left texts
    (Begins f.address f.counter) (heading_says region f.address f.counter high low)
    (subst (λ t. Runs (MakesWords region) before t lines stop left) (heading_heard f number more high low) ran) in (
      step.1,
      step.4 ∙ ap (λ (l : List ℕ). l ++ step.1) step.3.0,
      subst (λ v. Runs (MakesWords region) v texts step.1 stop left) step.3.1 step.5,
    )

message_made : (region : Region) (address counter : ℕ) (message : List ℕ) (number : ℕ) (others lines : List ℕ)
    (stop : Option RunFault) (left : Heading) → IsFrame (frame address counter message) → 1 ≤ length message →
    Runs (MakesWords region) (named address counter)
    (numbered number (lines_of (message_line region message ++ others))) lines stop left
    → (rest : List ℕ) × (lines ≡ spelled_line (Some (frame address counter message)) ++ rest)
    × Runs (MakesWords region) (record { address = address; counter = next_counter counter; is_named = false })
    (numbered (number + 1) (lines_of others)) rest stop left
message_made region address counter message number others lines stop left is some ran =
    let texts : List (ℕ × List ℕ) = numbered (number + 1) (lines_of others) in
    let step = step_one region (named address counter) number (message_text region message) lines stop left texts
    (Says message) (read_as_written region message is.bytes is.fits)
    (subst (λ t. Runs (MakesWords region) (named address counter) t lines stop left)
    (message_heard region message number others is.bytes some) ran) in (
      step.1,
      step.4 ∙ ap (λ (l : List ℕ). l ++ step.1) step.3.0,
      subst (λ v. Runs (MakesWords region) v texts step.1 stop left) step.3.1 step.5,
    )

frame_made : (region : Region) (before : Heading) (address counter : ℕ) (message : List ℕ) (number : ℕ)
    (others lines : List ℕ) (stop : Option RunFault) (left : Heading) → IsFrame (frame address counter message) →
    Runs (MakesWords region) before
    (numbered number (lines_of (frame_lines region (frame address counter message) ++ others))) lines stop left
    → IsMade region before (frame address counter message) others lines stop left
frame_made region before address counter [] number others lines stop left is ran =
    let f = frame address counter [] in
    let head = heading_made region before f number others lines stop left is.address is.counter
    (subst (λ l. Runs (MakesWords region) before (numbered number (lines_of l)) lines stop left)
    (append_assoc (heading_line f) [] others) ran) in
    record {
      number = number + 1;
      after = named address counter;
      first = left_line before;
      rest = head.0;
      whole = head.1;
      writes = refl;
      ran = head.2;
    }
frame_made region before address counter (b ∷ m) number others lines stop left is ran =
    let message : List ℕ = b ∷ m in
    let f = frame address counter message in
    let spelled = spelled_line (Some f) in
    let more : List ℕ = message_line region message ++ others in
    let head = heading_made region before f number more lines stop left is.address is.counter
    (subst (λ l. Runs (MakesWords region) before (numbered number (lines_of l)) lines stop left)
    (append_assoc (heading_line f) (message_line region message) others) ran) in
    let made = message_made region address counter message (number + 1) others head.0 stop left is (omega arith)
    head.2 in
    record {
      number = number + 1 + 1;
      after = record { address = address; counter = next_counter counter; is_named = false };
      first = left_line before ++ spelled;
      rest = made.0;
      whole = head.1 ∙ ap (λ l. left_line before ++ l) made.1 ∙ sym (append_assoc (left_line before) spelled made.0);
      writes = append-nil (left_line before ++ spelled);
      ran = made.2;
    }

-- ---- Findings.

no_texts : (number : ℕ) → numbered number (lines_of []) ≡ []
unfolding lines_of numbered
no_texts number = refl

findings_made : (region : Region) (findings : List Finding) (before : Heading) (number : ℕ) (lines : List ℕ)
    (stop : Option RunFault) (left : Heading) → AllByRecursion IsFrame (frames_among findings) →
    Runs (MakesWords region) before (numbered number (lines_of (flat_map (finding_lines region) findings))) lines stop
    left
    → (stop ≡ None) × (lines ++ left_line left ≡ left_line before ++ spelled_lines (frames_among findings))
findings_made region [] before number lines stop left are ran =
    let none = subst (λ t. Runs (MakesWords region) before t lines stop left) (no_texts number) ran in (
      none.1,
      ap (λ (l : List ℕ). l ++ left_line left) none.0 ∙ ap left_line none.2 ∙ sym (append-nil (left_line before)),
    )
findings_made region (Ok f ∷ findings) before number lines stop left are ran =
    let others : List ℕ = flat_map (finding_lines region) findings in
    let spelled : List ℕ = spelled_lines (frames_among findings) in
    let made = frame_made region before f.address f.counter f.message number others lines stop left are.0 ran in
    let ih = findings_made region findings made.after made.number made.rest stop left are.1 made.ran in (
      ih.0,
      ap (λ (l : List ℕ). l ++ left_line left) made.whole ∙ append_assoc made.first made.rest (left_line left)
          ∙ ap (λ (l : List ℕ). made.first ++ l) ih.1 ∙ sym (append_assoc made.first (left_line made.after) spelled)
          ∙ ap (λ (l : List ℕ). l ++ spelled) made.writes
          ∙ append_assoc (left_line before) (spelled_line (Some f)) spelled,
    )
findings_made region (Err fault ∷ findings) before number lines stop left are ran =
    let others : List ℕ = flat_map (finding_lines region) findings in
    findings_made region findings before (number + 1) lines stop left are
    (subst (λ t. Runs (MakesWords region) before t lines stop left) (dropped_unheard region fault number others) ran)

pub is_remade_in_words : IsRemadeInWords
is_remade_in_words region findings (Ok done) written are (left, lines, ran, is) =
    (refl, is ∙ (findings_made region findings first_heading 1 lines None left are ran).1)
is_remade_in_words region findings (Err fault) written are (left, ran) =
    absurd (let none : Some fault ≡ None =
    (findings_made region findings first_heading 1 written (Some fault) left are ran).0 in cc)
