-- How a sender's server joins its encoder over connections; a reader has to believe it. Source: profile.
use Rattle.std.specs.Prelude.{◌≡◌, ◌⊎◌, ℕ, ◌*◌, ◌-◌, ◌^◌, ◌<◌, zero, suc, min, List, Option, Some, None, Result, Ok}
use Rattle.std.specs.Prelude.{Err}
use Rattle.uecp_link.specs.declared.driving.DriveFault.{DriveFault}
use Rattle.uecp_link.specs.declared.joining.Joining.{Joining}
use Rattle.uecp_link.specs.declared.joining.Joining.TheVariants.{Joined, Spent}
use Rattle.uecp_link.specs.Joining.{MakesPass}
use Rattle.uecp_net.specs.declared.sender.TwoEnds.{TwoEnds}
use Rattle.uecp_net.specs.declared.sender.Outstanding.{Outstanding}
use Rattle.uecp_net.specs.declared.sender.Outstanding.TheVariants.{TriesSpent}
use Rattle.uecp_net.specs.Sending.{SenderOver, Opens, OpensNone, HangsUp, reason_of, reconnecting}

-- How many reads a pass makes at most: as many as a try for each of its 255 messages.
abbrev pub pass_turns : (turns : ℕ) → ℕ
pass_turns turns = min (turns * 255) (2 ^ 32 - 1)

-- A connection was opened, and one pass was made over its two ends, which the sender still has, as the pass left them.
-- It went on behind the one counter, and behind the other the next one goes on.
pub record Passes {C I O : Type 0} (opens : C → Option (I × O) → C → Type 0) (remaining : I → Option (List ℕ))
    (contents : O → Option (List ℕ)) (behind behind' : ℕ) (old new : SenderOver C I O)
    (result : Result Joining DriveFault) : Type 0 where
  pub start : SenderOver C I O
  pub ends : TwoEnds I O
  pub ends' : TwoEnds I O
  pub none : old.ends ≡ None
  pub opened : Opens opens old start
  pub has : start.ends ≡ Some ends
  pub went : MakesPass remaining contents behind behind' start.sender.server new.sender.server ends.input ends'.input
      ends.output ends'.output (pass_turns start.sender.turns) result
  pub leaves : new ≡ record start { sender = record start.sender { server = new.sender.server }; ends = Some ends' }

-- What a pass that ended so comes to: the encoder is joined, or it is not, for this reason.
abbrev pub end_of_pass : Result Joining DriveFault → Result (Unit {0}) Outstanding
end_of_pass (Ok Joined) = Ok tt
end_of_pass (Ok Spent) = Err TriesSpent
end_of_pass (Err fault) = Err (reason_of fault)

-- The encoder was joined over one connection after another, a pass on each, of which the first goes on behind this
-- counter, and each other behind what was answered on the one before. First so many passes were not complete: each
-- connection was hung up, and cost a reconnect. Then one was; or there was no connection to be had, and the reason is
-- that of the one before, or this where there was none; or one more pass was not complete where no reconnect was left.
abbrev pub JoinsOver : {C I O : Type 0} → (opens : C → Option (I × O) → C → Type 0) → (closes : C → I → O → C → Type 0)
    → (remaining : I → Option (List ℕ)) → (contents : O → Option (List ℕ)) → (ended : ℕ) → (before : Outstanding)
    → (behind : ℕ) → (old new : SenderOver C I O) → Result (Unit {0}) Outstanding → Type 0
JoinsOver {C} {I} {O} opens closes remaining contents (suc n) before behind s s' result =
    (went : Result Joining DriveFault) × (reason : Outstanding) × (behind' : ℕ) × (last : SenderOver C I O)
    × (next : SenderOver C I O) × Passes opens remaining contents behind behind' s last went
    × (end_of_pass went ≡ Err reason) × HangsUp closes last next × (0 < next.sender.left)
    × JoinsOver opens closes remaining contents n reason behind' (reconnecting next) s' result
JoinsOver opens closes remaining contents zero before behind s s' (Ok done) =
    (behind' : ℕ) × Passes opens remaining contents behind behind' s s' (Ok Joined)
JoinsOver {C} {I} {O} opens closes remaining contents zero before behind s s' (Err reason) =
    (OpensNone opens s s' × (reason ≡ before))
    ⊎ ((went : Result Joining DriveFault) × (behind' : ℕ) × (last : SenderOver C I O)
    × Passes opens remaining contents behind behind' s last went × (end_of_pass went ≡ Err reason)
    × HangsUp closes last s' × (s'.sender.left ≡ 0))

-- One pass, by what it comes to (private).
abbrev pub PassesTo : {C I O : Type 0} → (opens : C → Option (I × O) → C → Type 0) → (remaining : I → Option (List ℕ))
    → (contents : O → Option (List ℕ)) → (behind behind' : ℕ) → (old new : SenderOver C I O)
    → Result (Unit {0}) Outstanding → Type 0
PassesTo opens remaining contents behind behind' s s' result = (went : Result Joining DriveFault)
    × Passes opens remaining contents behind behind' s s' went × (end_of_pass went ≡ result)
