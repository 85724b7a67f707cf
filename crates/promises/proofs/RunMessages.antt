-- The messages of the batches that a run takes, one after another.
use Rattle.std.proofs.Common.{ℕ, zero, suc, Bool, true, List, [], ◌++◌, inl, inr}
use Rattle.std.specs.Prelude.{Option}
use Rattle.uecp_link.specs.Server.{ServerState}
use Rattle.uecp_net.specs.Sending.{SenderOver}
use Rattle.uecp_net.specs.Keeping.{KeptServer}
use Rattle.kept_jobs.specs.Stops.{Went}
use Rattle.line_batches.specs.declared.intake.Input.{Input}
use Rattle.line_batches.specs.declared.taking.After.{After}
use Rattle.line_batches.specs.declared.taking.After.TheVariants.{GoesOn, Ends}
use Rattle.output_forms.specs.declared.form.Form.{Form}
use Rattle.sending.specs.declared.options.LiveOptions.{LiveOptions}
use Rattle.sending.specs.Run.{from_anew}
use Rattle.promises.proofs.OverLines.{Live, GoesOnFor, RunsTurns, RunsOn, RunsLive, RunsOne, RunsAgain, RunsFor}

module _ {C I O K : Type 0} (opens : C → Option (I × O) → C → Type 0) (closes : C → I → O → C → Type 0)
    (remaining : I → Option (List ℕ)) (contents : O → Option (List ℕ)) (leaves : K → KeptServer → Type 0)
    (is_clean : K → Type 0) (saves fails : K → KeptServer → K → Type 0) where
  abbrev LiveAt : Type 0
  LiveAt = Live (SenderOver C I O) K

  abbrev LiveWas : Type 0
  LiveWas = Live ServerState K

  -- ---- Turns.

  module _ (form : Form) (input : Input) (size : ℕ) (strict : Bool) where
    -- of so many turns
    abbrev pub of_going : (n : ℕ) → (x y : LiveAt)
        → GoesOnFor opens closes remaining contents leaves is_clean saves fails form input size strict n x y
        → List (List ℕ)
    of_going zero x y same = []
    of_going (suc n) x z (y, before, turn) = of_going n x y before ++ turn.messages

    -- of turns up to the last
    abbrev pub of_turns : (x x' : LiveAt) → (went : Went)
        → RunsTurns opens closes remaining contents leaves is_clean saves fails form input size strict x x' went
        → List (List ℕ)
    of_turns x x' went (n, y, before, inl (inl (end, turn, is))) = of_going n x y before ++ turn.messages
    of_turns x x' went (n, y, before, inl (inr (after, stop, turn, is))) = of_going n x y before ++ turn.messages
    of_turns x x' went (n, y, before, inr (all, same, is)) = of_going n x y before

  -- ---- Senders.

  module _ (options : LiveOptions) where
    -- of one whose encoder is joined
    abbrev pub of_run_on : (behind : After) → (x x' : LiveAt) → (went : Went)
        → RunsOn opens closes remaining contents leaves is_clean saves fails options behind x x' went
        → List (List ℕ)
    of_run_on GoesOn x x' went (inl (y, settles, turns)) =
        of_turns options.form options.reading.input options.reading.size options.reading.strict y x' went turns
    of_run_on GoesOn x x' went (inr (stop, settles, is)) = []
    of_run_on (Ends end) x x' went is = []

    -- of one that was given a server
    abbrev pub of_run : (due : Bool) → (x x' : LiveAt) → (went : Went)
        → RunsLive opens closes remaining contents leaves is_clean saves fails options due x x' went
        → List (List ℕ)
    of_run due x x' went (inl (y, makes, runs)) = of_run_on y.behind y x' went runs
    of_run due x x' went (inr (stop, makes, is)) = []

    -- of one that hung up
    abbrev pub of_one : (due : Bool) → (c c' : C) → (x x' : LiveWas) → (went : Went)
        → RunsOne opens closes remaining contents leaves is_clean saves fails options due c c' x x' went
        → List (List ℕ)
    of_one due c c' x x' went (loan, z, runs, hangs_up, is) = of_run due _ z went runs

    -- of one behind what was outstanding
    abbrev pub of_again : (address : ℕ) → (c c' : C) → (x x' : LiveWas) → (went : Went)
        → RunsAgain opens closes remaining contents leaves is_clean saves fails options address c c' x x' went
        → List (List ℕ)
    of_again address c c' x x' went (y, idle, inl (renews, one)) =
        of_one true c c' (from_anew x y) x' went one
    of_again address c c' x x' went (y, idle, inr (stop, renews, is, stays, same)) = []

    -- of one, and so many more
    abbrev pub of_senders : (due : Bool) → (again : ℕ) → (c c' : C) → (x x' : LiveWas) → (went : Went)
        → RunsFor opens closes remaining contents leaves is_clean saves fails options due again c c' x x' went
        → List (List ℕ)
    of_senders due zero c c' x x' went one = of_one due c c' x x' went one
    of_senders due (suc n) c c' x x' went (d, y, stopped, runs, rejoin, some, again) =
        of_senders due n c d x y stopped runs ++ of_again x.sends.runs.address d c' y x' went again
