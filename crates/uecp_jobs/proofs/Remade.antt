-- Frames that are shown and made again.
use Rattle.std.proofs.Common.{◌≡◌, ℕ, ◌+◌, ◌≤◌, List, [], ◌∷◌, ◌++◌, length, map, flat_map, codes, Option, Some, None}
use Rattle.std.proofs.Common.{Ok, Err, refl, sym, ap, ◌∙◌, append_assoc, append-nil, subst, inl, inr, arith}
use Rattle.std.specs.List.{AllByRecursion}
use Rattle.std.proofs.lemmas.List.{length-append}
use Rattle.uecp_frame.specs.declared.frame.Frame.{Frame}
use Rattle.uecp_elements.specs.Grammar.{Element, IsElement, AreBytes, EndsWith, spelling}
use Rattle.uecp_elements.specs.declared.fault.ElementFault.{ElementFault}
use Rattle.uecp_text.specs.declared.text_fault.TextFault.{TextFault}
use Rattle.uecp_elements.specs.Reading.{Item, items, fault_item}
use Rattle.uecp_elements.proofs.Public.{has_reading}
use Rattle.uecp_lines.specs.Lines.{element_words, item_line, frame_lines}
use Rattle.uecp_text.specs.declared.run_fault.RunFault.{RunFault}
use Rattle.uecp_text.specs.Digits.{byte_word, number_word}
use Rattle.uecp_text.specs.Input.{lines_of, numbered}
use Rattle.uecp_text.specs.Run.{Runs}
use Rattle.uecp_text.specs.Words.{words}
use Rattle.uecp_words.specs.ScriptWords.{Line, Begins, Extends, Says}
use Rattle.uecp_words.proofs.Public.{named_as_shown, begun_as_shown, element_line, frame_line, one_meaning}
use Rattle.uecp_jobs.specs.FrameScript.{Makes, Does, IsUndone, spelled_line, extended}
use Rattle.uecp_jobs.specs.Remade.{IsWhole, IsRemade, spelled_lines}

-- ---- A message without a fault is the spellings of its elements.

ok_items : (es ds : List Element) (fault : Option ElementFault) → map Ok es ≡ map Ok ds ++ fault_item fault
    → (es ≡ ds) × (fault ≡ None)
ok_items [] [] None h = (refl, refl)
ok_items [] [] (Some x) h = cc h
ok_items [] (d ∷ ds) fault h = cc h
ok_items (e ∷ es) [] None h = cc h
ok_items (e ∷ es) [] (Some x) h = cc h
ok_items (e ∷ es) (d ∷ ds) fault h =
    let rest : map Ok es ≡ map Ok ds ++ fault_item fault = cc in
    let ih = ok_items es ds fault rest in
    let first : e ≡ d = cc in
    let others : es ≡ ds = ih.0 in
    (cc, ih.1)

spelled_by : (m : List ℕ) (es : List Element) → AreBytes m → items m ≡ map Ok es
    → AllByRecursion IsElement es × (m ≡ flat_map spelling es)
spelled_by m es h read =
    let r = has_reading m h in
    let both = ok_items es r.0.elements r.0.fault (sym read ∙ r.2) in
    let end : r.1.rest ≡ [] = subst (EndsWith (length m) r.1.rest) both.1 r.1.end in (
      subst (AllByRecursion IsElement) (sym both.0) r.1.each,
      r.1.joined ∙ ap (λ l. flat_map spelling r.0.elements ++ l) end ∙ append-nil (flat_map spelling r.0.elements)
          ∙ ap (flat_map spelling) (sym both.0),
    )

bytes_parts : (x y : List ℕ) → AreBytes (x ++ y) → AreBytes x × AreBytes y
bytes_parts [] y h = (tt, h)
bytes_parts (b ∷ x) y h = let r = bytes_parts x y h.1 in ((h.0, r.0), r.1)

-- ---- One line of the script.

step_one : (before : Option Frame) (number : ℕ) (text lines : List ℕ) (stop : Option RunFault) (left : Option Frame)
    (texts : List (ℕ × List ℕ)) (line : Line) →
    Says (words text) line → ((why : TextFault) → IsUndone before line why → ⊥)
    → Runs Makes before ((number, text) ∷ texts) lines stop left →
    (first : List ℕ) × (rest : List ℕ) × (next : Option Frame) × Does before line first next × (lines ≡ first ++ rest)
    × Runs Makes next texts rest stop left
step_one before number text lines stop left texts line says able
    (inl (first, rest, next, (other, said, does), is, ran)) = (
      first,
      rest,
      next,
      subst (λ l. Does before l first next) (one_meaning (words text) other line said says) does,
      is,
      ran,
    )
step_one before number text lines stop left texts line says able
    (inr (inl (why, (same, inl (named, nothing)), none, is))) = absurd (nothing line says)
step_one before number text lines stop left texts line says able
    (inr (inl (why, (same, inr (other, said, undone)), none, is))) =
    absurd (able why (subst (λ l. IsUndone before l why) (one_meaning (words text) other line said says) undone))
step_one before number text lines stop left texts line says able (inr (inr (ends, is))) = absurd ends

-- ---- The lines of the elements of a frame.

extended_none : (g : Frame) → extended g [] ≡ g
extended_none g = ap (λ (m : List ℕ). let f : Frame =
    record { address = g.address; counter = g.counter; message = m } in f) (append-nil g.message)

extended_more : (g : Frame) (x y : List ℕ) → extended (extended g x) y ≡ extended g (x ++ y)
extended_more g x y = ap (λ (m : List ℕ). let f : Frame =
    record { address = g.address; counter = g.counter; message = m } in f) (append_assoc g.message x y)

extends_all : (es : List Element) (g : Frame) (number : ℕ) (rest lines : List ℕ) (stop : Option RunFault)
    (left : Option Frame) →
    AllByRecursion IsElement es → AreBytes (flat_map spelling es)
    → length g.message + length (flat_map spelling es) ≤ 255 →
    Runs Makes (Some g) (numbered number (lines_of (flat_map item_line (map Ok es) ++ rest))) lines stop left →
    (then : ℕ) × Runs Makes (Some (extended g (flat_map spelling es))) (numbered then (lines_of rest)) lines stop left
extends_all [] g number rest lines stop left are bytes fits ran = (
  number,
  subst (λ f. Runs Makes (Some f) (numbered number (lines_of rest)) lines stop left) (sym (extended_none g))
      ran,
)
extends_all (e ∷ es) g number rest lines stop left are bytes fits ran =
    let more : List ℕ = flat_map item_line (map Ok es) in
    let others : List ℕ = flat_map spelling es in
    let split = bytes_parts (spelling e) others bytes in
    let long = length-append (spelling e) others in
    let longer = length-append g.message (spelling e) in
    let texts : List (ℕ × List ℕ) = numbered (number + 1) (lines_of (more ++ rest)) in
    let first_text = ap (λ (l : List ℕ). numbered number (lines_of l)) (append_assoc (item_line (Ok e)) more rest)
    ∙ element_line e number (more ++ rest) in
    let step = step_one (Some g) number (element_words e) lines stop left texts (Extends (spelling e))
    (inl (e, named_as_shown e are.0 split.0, refl)) (λ why undone. absurd (omega (arith, undone.1, long, fits)))
    (subst (λ t. Runs Makes (Some g) t lines stop left) first_text ran) in
    let same : g ≡ step.3.0 = let e : Some g ≡ Some step.3.0 = step.3.1 in cc in
    let next_is : step.2 ≡ Some (extended g (spelling e)) =
    step.3.4 ∙ ap (λ (f : Frame). Some (extended f (spelling e))) (sym same) in
    let lines_are : lines ≡ step.1 = step.4 ∙ ap (λ (l : List ℕ). l ++ step.1) step.3.3 in
    let on = subst (λ v. Runs Makes v texts step.1 stop left) next_is step.5 in
    let on_lines = subst (λ l. Runs Makes (Some (extended g (spelling e))) texts l stop left) (sym lines_are) on in
    let ih = extends_all es (extended g (spelling e)) (number + 1) rest lines stop left are.1 split.1
    (omega (arith, long, longer, fits)) on_lines in (
      ih.0,
      subst (λ f. Runs Makes (Some f) (numbered ih.0 (lines_of rest)) lines stop left)
          (extended_more g (spelling e) others) ih.1,
    )

-- ---- Frames.

no_texts : (number : ℕ) → numbered number (lines_of []) ≡ []
unfolding lines_of numbered
no_texts number = refl

no_begin_undone : (before : Option Frame) (address counter : ℕ) (why : TextFault)
    → IsUndone before (Begins address counter) why → ⊥
no_begin_undone None address counter why h = h
no_begin_undone (Some f) address counter why h = h

frames_made : (frames : List Frame) (before : Option Frame) (number : ℕ) (lines : List ℕ) (stop : Option RunFault)
    (left : Option Frame) → AllByRecursion IsWhole frames →
    Runs Makes before (numbered number (lines_of (flat_map frame_lines frames))) lines stop left
    → (stop ≡ None) × (lines ++ spelled_line left ≡ spelled_line before ++ spelled_lines frames)
frames_made [] before number lines stop left whole ran =
    let none = subst (λ t. Runs Makes before t lines stop left) (no_texts number) ran in (
      none.1,
      ap (λ (l : List ℕ). l ++ spelled_line left) none.0 ∙ ap spelled_line none.2
          ∙ sym (append-nil (spelled_line before)),
    )
frames_made (f ∷ frames) before number lines stop left whole ran =
    let w = whole.0 in
    let shown : List ℕ = flat_map item_line (items f.message) in
    let others : List ℕ = flat_map frame_lines frames in
    let head : List ℕ = codes "frame" ++ number_word f.address ++ byte_word f.counter in
    let texts : List (ℕ × List ℕ) = numbered (number + 1) (lines_of (shown ++ others)) in
    let first_text = ap (λ (l : List ℕ). numbered number (lines_of l)) (append_assoc (head ++ codes "\n") shown others)
    ∙ frame_line f.address f.counter number (shown ++ others) in
    let begun : Frame = record { address = f.address; counter = f.counter; message = [] } in
    let step = step_one before number head lines stop left texts (Begins f.address f.counter)
    (begun_as_shown f.address f.counter w.address w.counter) (no_begin_undone before f.address f.counter)
    (subst (λ t. Runs Makes before t lines stop left) first_text ran) in
    let spelled = spelled_by f.message w.elements w.bytes w.read in
    let on = subst (λ v. Runs Makes v texts step.1 stop left) step.3.1 step.5 in
    let on_shown = subst (λ (i : List Item). Runs Makes (Some begun)
    (numbered (number + 1) (lines_of (flat_map item_line i ++ others))) step.1 stop left) w.read on in
    let fits : length (flat_map spelling w.elements) ≤ 255 = subst (λ (m : List ℕ). length m ≤ 255) spelled.1 w.fits in
    let all = extends_all w.elements begun (number + 1) others step.1 stop left spelled.0
    (subst AreBytes spelled.1 w.bytes) (omega (arith, fits)) on_shown in
    let is_f : extended begun (flat_map spelling w.elements) ≡ f =
    ap (λ (m : List ℕ). let g : Frame = record { address = f.address; counter = f.counter; message = m } in g)
    (sym spelled.1) in
    let ih = frames_made frames (Some f) all.0 step.1 stop left whole.1
    (subst (λ g. Runs Makes (Some g) (numbered all.0 (lines_of others)) step.1 stop left) is_f all.1) in (
      ih.0,
      ap (λ (l : List ℕ). l ++ spelled_line left) (step.4 ∙ ap (λ (l : List ℕ). l ++ step.1) step.3.0)
          ∙ append_assoc (spelled_line before) step.1 (spelled_line left)
          ∙ ap (λ (l : List ℕ). spelled_line before ++ l) ih.1,
    )

pub is_remade : IsRemade
is_remade frames (Ok done) written whole (left, lines, ran, is) =
    (refl, is ∙ (frames_made frames None 1 lines None left whole ran).1)
is_remade frames (Err fault) written whole (left, ran) =
    absurd (let none : Some fault ≡ None = (frames_made frames None 1 written (Some fault) left whole ran).0 in cc)
