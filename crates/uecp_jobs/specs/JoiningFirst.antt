-- How a server begins that joins its encoder first, and what is said of that; a reader has to believe it (profile).
use Rattle.std.specs.Prelude.{◌≡◌, ◌⊎◌, ℕ, Bool, true, false, List, [], codes, Option, Result, Ok, Err}
use Rattle.std.specs.Io.KnownBytes.{Appends}
use Rattle.uecp_text.specs.declared.run_fault.RunFault.{RunFault}
use Rattle.uecp_text.specs.declared.run_fault.RunFault.TheVariants as run
use Rattle.uecp_text.specs.Written.{Begins}
use Rattle.uecp_net.specs.declared.sender.Outstanding.{Outstanding}
use Rattle.uecp_net.specs.declared.sender.Outstanding.TheVariants.{ConnectionFailed}
use Rattle.uecp_net.specs.Sending.{SenderOver, HangsUp}
use Rattle.uecp_net.specs.Joining.{JoinsOver}
use Rattle.uecp_jobs.specs.Batches.{fault_of, Tells}

-- what is said of an encoder that was joined, where it was asked for
abbrev pub joined_line : (join : Bool) → List ℕ
joined_line true = codes "joined\n"
joined_line false = []

-- what is said of an encoder that could not be joined
abbrev pub not_joined_line : List ℕ
not_joined_line = codes "not joined\n"

-- what is said of an encoder that was joined so, or could not be (private)
abbrev pub joining_line : Result (Unit {0}) Outstanding → List ℕ
joining_line (Ok done) = joined_line true
joining_line (Err reason) = not_joined_line

-- how a run ends whose encoder could not be joined, or that it goes on (private)
abbrev pub joining_end : Result (Unit {0}) Outstanding → Result (Unit {0}) RunFault
joining_end (Ok done) = Ok tt
joining_end (Err reason) = Err (fault_of reason)

-- What a sender did that was to join its encoder, by how that went: what connection it had was let go, and then passes
-- were made over new ones. It may send as often as before, and holds no message.
pub record Joins {C I O : Type 0} (opens : C → Option (I × O) → C → Type 0) (closes : C → I → O → C → Type 0)
    (remaining : I → Option (List ℕ)) (contents : O → Option (List ℕ)) (s s' : SenderOver C I O)
    (result : Result (Unit {0}) Outstanding) : Type 0 where
  pub first : SenderOver C I O
  pub ended : ℕ
  pub hangs_up : HangsUp closes s first
  pub joins : JoinsOver opens closes remaining contents ended ConnectionFailed 0 first s' result
  pub tries : s'.sender.tries ≡ s.sender.tries
  pub idle : s'.sender.server.held ≡ []

-- Before its first message a server does nothing; or where that is asked for it joins its encoder, and then the writer
-- gets the line of that. Where the encoder could not be joined, or the line not be written whole, the run ends for
-- this.
abbrev pub JoinsFirst : {C I O : Type 0} → (opens : C → Option (I × O) → C → Type 0) → (closes : C → I → O → C → Type 0)
    → (remaining : I → Option (List ℕ)) → (contents : O → Option (List ℕ)) → (join : Bool) → (s : SenderOver C I O)
    → (held held' : Option (List ℕ)) → Result (Unit {0}) RunFault → (s' : SenderOver C I O) → Type 0
JoinsFirst opens closes remaining contents false s held held' result s' = (s' ≡ s) × (held' ≡ held) × (result ≡ Ok tt)
JoinsFirst opens closes remaining contents true s held held' result s' =
    (Joins opens closes remaining contents s s' (Ok tt) × Tells (joined_line true) (Ok tt) held held' result)
    ⊎ ((reason : Outstanding) × Joins opens closes remaining contents s s' (Err reason)
    × Tells not_joined_line (Err (fault_of reason)) held held' result)

-- ---- What is left to say of that where nothing is known of connections.

-- What the writer got where the run ended before the first message for this: that the encoder could not be joined; or a
-- beginning of what is said of that, or of an encoder that was joined.
abbrev pub StopsJoining : (held held' : Option (List ℕ)) → RunFault → Type 0
StopsJoining held held' run.Outstanding = Appends held held' not_joined_line
StopsJoining held held' run.Connection = Appends held held' not_joined_line
StopsJoining held held' run.Writing = Begins held held' (joined_line true) ⊎ Begins held held' not_joined_line
StopsJoining held held' run.OutOfMemory = Begins held held' (joined_line true) ⊎ Begins held held' not_joined_line
StopsJoining held held' fault = ⊥
