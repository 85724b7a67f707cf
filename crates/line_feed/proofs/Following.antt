-- Lines that are taken one after another.
use Rattle.std.proofs.Common.{◌≡◌, ℕ, List, [], ◌∷◌, ◌++◌, refl, ◌∙◌, ap, sym, inl, inr, append-nil, None}
use Rattle.std.proofs.Common.{Some, Option, Result, Ok, Err, IfOk, IfErr}
use Rattle.std.specs.Io.KnownBytes.{Consumes, Keeps, IsAtEnd}
use Rattle.std.proofs.KnownBytes.{Keeps-refl, Keeps-trans}
use Rattle.uecp_text.specs.Input.{lines_of}
use Rattle.line_feed.specs.Lines.{IsFirstLine, IsNext, IsUntaken}
use Rattle.line_feed.specs.declared.feed_fault.FeedFault.{FeedFault}
use Rattle.line_feed.specs.declared.feed.Next.{Next}
use Rattle.line_feed.specs.declared.feed.Next.TheVariants.{Line, TooLong, End}
use Rattle.line_feed.specs.Laws.{AreTaken}
use Rattle.line_feed.proofs.Splitting.{lines_of-nil, lines_of-then}

kept_then : (a b c : Option (List ℕ)) (bytes : List ℕ) → Keeps a b → Consumes b c bytes → Consumes a c bytes
kept_then None b c bytes kept taken = tt
kept_then (Some all) None c bytes kept taken = absurd kept
kept_then (Some all) (Some same) None bytes kept taken = absurd taken
kept_then (Some all) (Some same) (Some rest) bytes kept taken = sym kept ∙ taken

-- the first line of what was left is that of what was left before, where all was left
pub kept_line : (a b c : Option (List ℕ)) (line : List ℕ) → Keeps a b → IsFirstLine b c line → IsFirstLine a c line
kept_line a b c line kept first =
    record { taken = kept_then a b c line kept first.taken; one = first.one; ended = first.ended }

pub kept_next : (a b c : Option (List ℕ)) (held : List ℕ) (next : Next) → Keeps a b → IsNext b c held next
    → IsNext a c held next
kept_next a b c held Line kept (first, short) = (kept_line a b c held kept first, short)
kept_next a b c held TooLong kept (line, first, long, none) = (line, kept_line a b c line kept first, long, none)
kept_next a b c held End kept (same, over, none) = (Keeps-trans a b c kept same, over, none)

pub kept_untaken : (a b c : Option (List ℕ)) (fault : FeedFault) → Keeps a b → IsUntaken b c fault
    → IsUntaken a c fault
kept_untaken a b c fault kept (inl same) = inl (Keeps-trans a b c kept same)
kept_untaken a b c fault kept (inr (is, (gone, read, none, long))) =
    inr (is, (gone, kept_then a b c gone kept read, none, long))

pub next_of_result : (a b c : Option (List ℕ)) (held : List ℕ) (r : Result Next FeedFault) → Keeps a b
    → IfOk r (IsNext b c held) → IfOk r (IsNext a c held)
next_of_result a b c held (Ok next) kept came = kept_next a b c held next kept came
next_of_result a b c held (Err fault) kept came = tt

pub fault_of_result : (a b c : Option (List ℕ)) (r : Result Next FeedFault) → Keeps a b → IfErr r (IsUntaken b c)
    → IfErr r (IsUntaken a c)
fault_of_result a b c (Ok next) kept failed = tt
fault_of_result a b c (Err fault) kept failed = kept_untaken a b c fault kept failed

kept_first : (left between left' : Option (List ℕ)) (later : List (List ℕ)) → Keeps left between
    → AreTaken between left' later → AreTaken left left' later
kept_first left between left' [] kept taken = Keeps-trans left between left' kept taken
kept_first left between left' (line ∷ later) kept (after, first, more) = (
  after,
  record { taken = kept_then left between after line kept first.taken; one = first.one; ended = first.ended },
  more,
)

pub taken_on : (left between left' : Option (List ℕ)) (lines later : List (List ℕ)) → AreTaken left between lines
    → AreTaken between left' later → AreTaken left left' (lines ++ later)
taken_on left between left' [] later taken more = kept_first left between left' later taken more
taken_on left between left' (line ∷ lines) later (after, first, taken) more =
    (after, first, taken_on after between left' lines later taken more)

pub next_taken : (left left' : Option (List ℕ)) (held : List ℕ) (next : Next) → IsNext left left' held next
    → (lines : List (List ℕ)) × AreTaken left left' lines × (next ≡ Line → lines ≡ held ∷ [])
    × (next ≡ End → lines ≡ [])
next_taken left left' held Line came =
    (held ∷ [], (left', came.0, Keeps-refl left'), λ same. refl, λ same. absurd (cc))
next_taken left left' held TooLong came =
    (came.0 ∷ [], (left', came.1, Keeps-refl left'), λ same. absurd (cc), λ same. absurd (cc))
next_taken left left' held End came = ([], came.0, λ same. absurd (cc), λ same. refl)

-- one line, and then the lines of what is left
first_step : (input rest line : List ℕ) → IsFirstLine (Some input) (Some rest) line
    → lines_of input ≡ line ∷ lines_of rest
first_step input rest line first =
    elim first.ended [
      | inl ends ↦ ap lines_of first.taken ∙ lines_of-then line rest first.one ends
      | inr over ↦ ap lines_of first.taken ∙ ap (λ r. lines_of (line ++ r)) over ∙ ap lines_of (append-nil line)
          ∙ first.one ∙ ap (λ l. line ∷ l) (sym lines_of-nil) ∙ ap (λ r. line ∷ lines_of r) (sym over)
    ]

pub first_lines : (input rest : List ℕ) (lines : List (List ℕ)) → AreTaken (Some input) (Some rest) lines
    → lines_of input ≡ lines ++ lines_of rest
first_lines input rest [] kept = ap lines_of (sym kept)
first_lines input rest (line ∷ lines) (None, first, more) = absurd first.taken
first_lines input rest (line ∷ lines) (Some between, first, more) =
    first_step input between line first ∙ ap (λ l. line ∷ l) (first_lines between rest lines more)

stays_known : {P : Type 0} (input : List ℕ) (lines : List (List ℕ)) → AreTaken (Some input) None lines → P
stays_known input [] kept = absurd kept
stays_known input (line ∷ lines) (None, first, more) = absurd first.taken
stays_known input (line ∷ lines) (Some between, first, more) = stays_known between lines more

pub all_lines : (input : List ℕ) (left : Option (List ℕ)) (lines : List (List ℕ)) → AreTaken (Some input) left lines
    → IsAtEnd left → lines_of input ≡ lines
all_lines input None lines taken over = stays_known input lines taken
all_lines input (Some rest) lines taken over =
    first_lines input rest lines taken ∙ ap (λ r. lines ++ lines_of r) over ∙ ap (λ l. lines ++ l) lines_of-nil
    ∙ append-nil lines
