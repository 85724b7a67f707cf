-- What is outstanding where a run goes on.
use Rattle.std.proofs.Common.{◌≡◌, ℕ, zero, suc, Bool, List, Ok, Err, refl, ap, ◌∙◌, inl, inr}
use Rattle.std.specs.Prelude.{Option, length, ◌+◌, ◌-◌}
use Rattle.line_batches.specs.declared.intake.Input.{Input}
use Rattle.uecp_link.specs.Server.{waiting}
use Rattle.uecp_net.specs.Sending.{SenderOver, submitted_all}
use Rattle.uecp_net.specs.declared.saved.batch.KeptOutstanding.TheVariants as kept
use Rattle.uecp_net.specs.Keeping.{KeptServer}
use Rattle.uecp_net.specs.SavedSending.{Ended}
use Rattle.kept_jobs.specs.declared.stop.KeptStop.TheVariants.{StateFailed}
use Rattle.kept_jobs.specs.Stops.{Went, stop_for}
use Rattle.kept_jobs.specs.ServerRun.{Standing}
use Rattle.kept_jobs.proofs.Public.{goes, goes_not_stopped}
use Rattle.line_batches.specs.declared.taking.After.{After}
use Rattle.line_batches.specs.declared.taking.After.TheVariants.{GoesOn}
use Rattle.output_forms.specs.declared.form.Form.{Form}
use Rattle.sending.specs.declared.account.Account.TheVariants.{Numbered}
use Rattle.sending.specs.Accounts.{AreHeld}
use Rattle.sending.specs.Run.{AnswersTold, RepliesOf, SendsSome, SettlesLive, marks_in, unknown_of}
use Rattle.promises.proofs.OverLines.{Live, Turn, GoesOnFor}

module _ {C I O K : Type 0} (opens : C → Option (I × O) → C → Type 0) (closes : C → I → O → C → Type 0)
    (remaining : I → Option (List ℕ)) (contents : O → Option (List ℕ)) (leaves : K → KeptServer → Type 0)
    (is_clean : K → Type 0) (saves fails : K → KeptServer → K → Type 0) (form : Form) where
  abbrev At : Type 0
  At = Standing (SenderOver C I O) K

  abbrev LiveAt : Type 0
  LiveAt = Live (SenderOver C I O) K

  pub none_unknown : (batch : List (List ℕ)) (x x' : At) (applied applied' : Bool) (unknown unknown' : ℕ) (went : Went)
      → unknown ≡ 0
      → SendsSome opens closes remaining contents leaves is_clean saves fails (Numbered form) batch x x' applied
      applied' unknown
      unknown' went → goes ≡ went → unknown' ≡ 0
  none_unknown batch x x' applied applied' unknown unknown' went zero_is (inl (none, same, apply, are, is)) on =
      are ∙ zero_is
  none_unknown batch x x' applied applied' unknown unknown' went zero_is
      (inr (some, (ended, one, tells, apply, are))) on = by ended tells are
    where
      by : (ended : Ended)
          → AnswersTold (Numbered form) (RepliesOf (Numbered form) x'.progress.taken
          (waiting (submitted_all x.runs batch).sender.server)) x'.runs.sender.server.counts ended x.held
          x'.held went
          → unknown' ≡ unknown_of (length batch) ended → unknown' ≡ 0
      by (Ok settled) tells are = are
      by (Err (kept.Outstanding reason)) (same, is) are =
          absurd (goes_not_stopped (stop_for x'.runs.sender.server.counts reason) (on ∙ is))
      by (Err kept.StateFailed) (same, is) are = absurd (goes_not_stopped StateFailed (on ∙ is))

  pub none_unsettled : (x x' : At) (applied applied' : Bool) (unknown unknown' : ℕ) → unknown ≡ 0
      → SettlesLive opens closes remaining contents leaves is_clean saves fails (Numbered form) x x' applied applied'
      unknown
      unknown' goes → unknown' ≡ 0
  none_unsettled x x' applied applied' unknown unknown' zero_is (inl (idle, same, apply, are, is)) = are ∙ zero_is
  none_unsettled x x' applied applied' unknown unknown' zero_is (inr (some, (ended, one, tells, apply, are))) =
      by ended tells are
    where
      by : (ended : Ended)
          → AnswersTold (Numbered form) (AreHeld (Numbered form)
          (x'.progress.taken + 1 - length (marks_in x.runs.sender.server))
          (marks_in x.runs.sender.server) (waiting x.runs.sender.server)) x'.runs.sender.server.counts ended
          x.held x'.held goes
          → unknown' ≡ unknown_of (length (marks_in x.runs.sender.server)) ended → unknown' ≡ 0
      by (Ok settled) tells are = are
      by (Err (kept.Outstanding reason)) (same, is) are =
          absurd (goes_not_stopped (stop_for x'.runs.sender.server.counts reason) is)
      by (Err kept.StateFailed) (same, is) are = absurd (goes_not_stopped StateFailed is)

  module _ (input : Input) (size : ℕ) (strict : Bool) where
    pub turn_unknown : (x x' : LiveAt) (after : After) → x.unknown ≡ 0
        → Turn opens closes remaining contents leaves is_clean saves fails form input size strict x x' after goes
        → x'.unknown ≡ 0
    turn_unknown x x' after none turn =
        none_unknown turn.messages x.sends x'.sends x.applied x'.applied x.unknown x'.unknown goes none turn.sends refl

    pub going_unknown : (n : ℕ) (x y : LiveAt) → x.unknown ≡ 0
        → GoesOnFor opens closes remaining contents leaves is_clean saves fails form input size strict n x y
        → y.unknown ≡ 0
    going_unknown zero x y none same = ap (λ (z : LiveAt). z.unknown) same ∙ none
    going_unknown (suc n) x z none (y, before, turn) = turn_unknown y z GoesOn (going_unknown n x y none before) turn
