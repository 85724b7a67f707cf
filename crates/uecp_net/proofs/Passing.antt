-- One pass more, and one that was not complete.
use Rattle.std.proofs.Common.{◌≡◌, ℕ, suc, ◌+◌, ◌<◌, List, Option, Some, None, Result, Ok, Err, subst, ap, arith}
use Rattle.uecp_link.specs.Server.{ServerState}
use Rattle.uecp_link.specs.declared.driving.DriveFault.{DriveFault}
use Rattle.uecp_link.specs.declared.joining.Joining.{Joining}
use Rattle.uecp_link.specs.declared.joining.Joining.TheVariants.{Joined, Spent}
use Rattle.uecp_link.specs.Joining.{MakesPass}
use Rattle.uecp_net.specs.Sending.{SenderOver, Opens, HangsUp, without_ends, reconnecting}
use Rattle.uecp_net.specs.Joining.{Passes, PassesTo, JoinsOver, pass_turns}
use Rattle.uecp_net.specs.declared.sender.TwoEnds.{TwoEnds}
use Rattle.uecp_net.specs.declared.sender.Outstanding.{Outstanding}

module _ {C I O : Type 0} (remaining : I → Option (List ℕ)) (contents : O → Option (List ℕ))
    (opens : C → Option (I × O) → C → Type 0) (closes : C → I → O → C → Type 0) where
  -- the sender opened a connection, took its ends out, and put them back after the pass
  pub passed : (behind behind' : ℕ) (old start now : SenderOver C I O) (server : ServerState) (ends ends' : TwoEnds I O)
      (turns : ℕ)
      (result : Result Joining DriveFault) → old.ends ≡ None → Opens opens old start → start.ends ≡ Some ends
      → now ≡ without_ends start →
      turns ≡ pass_turns now.sender.turns → MakesPass remaining contents behind behind' now.sender.server server
      ends.input ends'.input ends.output ends'.output turns result →
      Passes opens remaining contents behind behind' old (record now {
        sender = record now.sender { server = server };
        ends = Some ends';
      }) result
  passed behind behind' old start now server ends ends' turns result none opened has now_is turns_are made =
      record {
        start = start;
        ends = ends;
        ends' = ends';
        none = none;
        opened = opened;
        has = has;
        went = subst (λ (d : SenderOver C I O). MakesPass remaining contents behind behind' d.sender.server server
            ends.input ends'.input ends.output ends'.output (pass_turns d.sender.turns) result) now_is
            (subst (λ n. MakesPass remaining contents behind behind' now.sender.server server ends.input ends'.input
            ends.output ends'.output n result) turns_are made);
        leaves = ap (λ (d : SenderOver C I O). record d {
          sender = record d.sender { server = server };
          ends = Some ends';
        }) now_is;
      }

  -- one more pass was not complete, and cost a reconnect
  pub joins_on : (old last next after new : SenderOver C I O) (result : Result (Unit {0}) Outstanding) (ended : ℕ)
      (before reason : Outstanding) (behind behind' : ℕ) →
      PassesTo opens remaining contents behind behind' old last (Err reason) → HangsUp closes last next
      → 0 < next.sender.left
      → after ≡ reconnecting next →
      JoinsOver opens closes remaining contents ended reason behind' after new result
      → JoinsOver opens closes remaining contents (ended + 1) before behind old new result
  joins_on old last next after new result ended before reason behind behind' (went, passes, end_is) hangs_up left
      after_is joins =
      subst (λ n. JoinsOver opens closes remaining contents n before behind old new result)
      (let q : suc ended ≡ ended + 1 = omega arith in q) (
        went,
        reason,
        behind',
        last,
        next,
        passes,
        end_is,
        hangs_up,
        left,
        subst (λ (d : SenderOver C I O). JoinsOver opens closes remaining contents ended reason behind' d new result)
            after_is joins,
      )

  -- a pass was complete
  pub joined_by : (old new : SenderOver C I O) (before : Outstanding) (behind behind' : ℕ)
      → PassesTo opens remaining contents behind behind' old new (Ok tt)
      → JoinsOver opens closes remaining contents 0 before behind old new (Ok tt)
  joined_by old new before behind behind' (Ok Joined, passes, end_is) = (behind', passes)
  joined_by old new before behind behind' (Ok Spent, passes, end_is) = absurd (cc)
  joined_by old new before behind behind' (Err fault, passes, end_is) = absurd (cc)
