-- The messages of all lines of a file.
use Rattle.std.proofs.Common.{◌≡◌, ℕ, Bool, true, false, ◌||◌, List, [], ◌∷◌, ◌++◌, Option, Result, Ok, inl, inr}
use Rattle.std.proofs.Common.{refl, ap, sym, subst, ◌∙◌}
use Rattle.std.proofs.lemmas.Bool.{false≢true}
use Rattle.rds_text.specs.declared.programme_type.Region.{Region}
use Rattle.uecp_text.specs.declared.text_fault.TextFault.{TextFault}
use Rattle.line_feed.specs.declared.feed.Next.{Next}
use Rattle.line_feed.specs.declared.feed_fault.FeedFault.{FeedFault}
use Rattle.line_feed.specs.declared.feed_fault.NotKept.{NotKept}
use Rattle.line_feed.specs.Lines.{Refusal}
use Rattle.line_batches.specs.declared.intake.Input.{Input}
use Rattle.line_batches.specs.declared.intake.Input.TheVariants.{Phrases}
use Rattle.line_batches.specs.declared.intake.Given.{Given}
use Rattle.line_batches.specs.declared.intake.Given.TheVariants.{Refused}
use Rattle.line_batches.specs.declared.taking.After.{After}
use Rattle.line_batches.specs.declared.taking.After.TheVariants.{Ends}
use Rattle.line_batches.specs.Intake.{Intake, FeedIntake, TakesLines, has_refused, is_refusal, seen}
use Rattle.line_batches.specs.Batches.{TakesBatch}
use Rattle.line_batches.specs.Laws.{SeesBatch}
use Rattle.line_batches.proofs.Public.{is_seen}
use Rattle.send_commands.specs.StationFile.{IsStationOf}

or_in : (a b c : Bool) → ((a || b) || c) ≡ (a || (b || c))
or_in true b c = refl
or_in false b c = refl

or_none : (a : Bool) → a ≡ (a || false)
or_none true = refl
or_none false = refl

-- whether one was refused
refused_so : (input : Input) (taken : List (List ℕ × Given)) (x x' : Intake) → TakesLines input taken x x'
    → x'.refused ≡ (x.refused || has_refused taken)
refused_so input [] x x' same = ap (λ (i : Intake). i.refused) same ∙ or_none x.refused
refused_so input ((line, given) ∷ more) x x' (y, one, on) =
    refused_so input more y x' on ∙ ap (λ (b : Bool). b || has_refused more) one.refused
    ∙ or_in x.refused (is_refusal given) (has_refused more)

last_refused : (before : List (List ℕ × Given)) (line : List ℕ) (fault : TextFault)
    → has_refused (before ++ (line, Refused fault) ∷ []) ≡ true
last_refused [] line fault = refl
last_refused ((first, given) ∷ before) line fault = by (is_refusal given) (last_refused before line fault)
  where
    by : (b : Bool) → has_refused (before ++ (line, Refused fault) ∷ []) ≡ true
        → (b || has_refused (before ++ (line, Refused fault) ∷ [])) ≡ true
    by true rest = refl
    by false rest = rest

module _ {D : Type 0} (remaining : D → Option (List ℕ)) (takes : D → Result Next FeedFault → List ℕ → D → Type 0)
    (says : D → Bool → D → Type 0) (passes : D → Refusal → Result (Unit {0}) NotKept → D → Type 0) where
  -- a batch that ends with its input, and of which no line was refused, is all of that
  pub station_lem : (region : Region) (size : ℕ) (left : Option (List ℕ)) (messages : List (List ℕ)) (after : After)
      (x x' : FeedIntake D) → remaining x.feed ≡ left → x.lines ≡ 0 → x.refused ≡ false
      → TakesBatch remaining takes says passes (Phrases region) size true messages after x x'
      → after ≡ Ends (Ok tt) → x'.refused ≡ false → IsStationOf region left messages
  station_lem region size left messages after x x' is none unrefused batch ends passed =
      by (subst (λ (a : After). SeesBatch (Phrases region) size true messages a (seen remaining x) (seen remaining x'))
      ends (is_seen remaining takes says passes (Phrases region) size true messages after x x' batch))
    where
      begin : seen remaining x ≡ record { unread = left; lines = 0; refused = false; said = x.said }
      begin =
          ap (λ (u : Option (List ℕ)). record { unread = u; lines = x.lines; refused = x.refused; said = x.said }) is
          ∙ ap (λ (n : ℕ). record { unread = left; lines = n; refused = x.refused; said = x.said }) none
          ∙ ap (λ (b : Bool). record { unread = left; lines = 0; refused = b; said = x.said }) unrefused

      by : SeesBatch (Phrases region) size true messages (Ends (Ok tt)) (seen remaining x) (seen remaining x')
          → IsStationOf region left messages
      by (taken, y, lines, are, few, inl (inl (whole, none_refused))) = record {
        said = x.said;
        lines = taken;
        last = y;
        end = seen remaining x';
        taken = subst (λ (i : Intake). TakesLines (Phrases region) taken i y) begin lines;
        whole = whole;
        none_refused = none_refused refl;
        are = are;
      }
      by (taken, y, lines, are, few, inl (inr (strict, (before, line, fault, ended, first), same))) =
          absurd (false≢true (sym passed ∙ ap (λ (i : Intake). i.refused) same
          ∙ refused_so (Phrases region) taken (seen remaining x) y lines
          ∙ ap (λ (b : Bool). b || has_refused taken) unrefused
          ∙ ap has_refused ended ∙ last_refused before line fault))
      by (taken, y, lines, are, few, inr (fault, failed, why, passed_all)) = absurd (cc)
