-- How it is told what comes of messages: of each under its number, or batch by batch (profile).
use Rattle.std.specs.Prelude.{◌≡◌, ℕ, Bool, List, codes, Option}
use Rattle.uecp_net.specs.declared.sender.Settled.{Settled}
use Rattle.uecp_jobs.specs.Batches.{batch_lines}
use Rattle.kept_jobs.specs.Stops.{Went, TellsKept}
use Rattle.output_forms.specs.declared.form.Form.{Form}
use Rattle.output_forms.specs.declared.form.Form.TheVariants.{Lines}
use Rattle.sending.specs.declared.account.Account.{Account}
use Rattle.sending.specs.declared.account.Account.TheVariants.{Numbered, Batches}
use Rattle.sending.specs.Forms as forms

-- in which form all else is told
abbrev pub form_of : Account → Form
form_of (Numbered form) = form
form_of Batches = Lines

-- These lines tell of these messages, the first of which has this number, each sent under its counter, that were
-- settled so. Batch by batch it is the line of each with its code and how many tries the batch took.
abbrev pub AreReplies : Account → (first : ℕ) → (sent : List (ℕ × List ℕ)) → Settled → (told : List ℕ) → Type 0
AreReplies (Numbered form) first sent settled told = forms.AreReplies form first sent settled told
AreReplies Batches first sent settled told = told ≡ batch_lines settled.codes.items settled.tries

-- These lines tell of messages that were held, of which the first has this number, and of which those that are not
-- marked so are these, which waited each under its counter and were settled so. Batch by batch likewise.
abbrev pub AreHeld : Account → (first : ℕ) → (marks : List Bool) → (sent : List (ℕ × List ℕ)) → Settled
    → (told : List ℕ) → Type 0
AreHeld (Numbered form) first marks sent settled told = forms.AreHeld form first marks sent settled told
AreHeld Batches first marks sent settled told = told ≡ batch_lines settled.codes.items settled.tries

-- What is told of messages that are outstanding where the run goes so behind that: under its number nothing is told of
-- one; batch by batch it is told that they are.
abbrev pub OutstandingTold : Account → (onward : Went) → (held held' : Option (List ℕ)) → Went → Type 0
OutstandingTold (Numbered form) onward held held' went = (held' ≡ held) × (went ≡ onward)
OutstandingTold Batches onward held held' went = TellsKept (codes "outstanding\n") onward held held' went
