-- What a crash leaves of a server that joins.
use Rattle.std.proofs.Common.{◌≡◌, ℕ, zero, suc, List, [], Option, Ok, ap, ◌∙◌, inl, inr}
use Rattle.uecp_link.specs.Server.{ServerState}
use Rattle.uecp_link.proofs.Public.{still_new}
use Rattle.uecp_net.specs.declared.sender.Outstanding.{Outstanding}
use Rattle.uecp_net.specs.declared.sender.Outstanding.TheVariants.{ConnectionFailed}
use Rattle.uecp_net.specs.Sending.{SenderOver, reconnecting}
use Rattle.uecp_net.specs.Joining.{JoinsOver}
use Rattle.uecp_net.specs.Keeping.{KeptServer}
use Rattle.uecp_net.specs.Laws.{BeginsAnewOrIsJoined}

module _ {C I O : Type 0} (opens : C → Option (I × O) → C → Type 0) (closes : C → I → O → C → Type 0)
    (remaining : I → Option (List ℕ)) (contents : O → Option (List ℕ)) where
  -- a server that has joined is as a new one
  joined_new : (ended : ℕ) (before : Outstanding) (behind : ℕ) (s s' : SenderOver C I O)
      → JoinsOver opens closes remaining contents ended before behind s s' (Ok tt)
      → (s'.sender.server.last ≡ 0) × (s'.sender.server.held ≡ [])
  joined_new (suc n) before behind s s' (went, reason, behind', last, next, passes, end_is, hangs_up, left, more) =
      joined_new n reason behind' (reconnecting next) s' more
  joined_new zero before behind s s' (behind', passes) =
      let still = still_new passes.start.sender.server s'.sender.server passes.went.read passes.went.state in (
        ap (λ (d : ServerState). d.last) still,
        ap (λ (d : ServerState). d.held) still,
      )

  pub begins_anew_lem : BeginsAnewOrIsJoined opens closes remaining contents
  begins_anew_lem before after old new ended left not_joined idle joins (inl is) = inl (
    ap (λ (l : KeptServer). l.joined) is ∙ not_joined,
    ap (λ (l : KeptServer). l.held) is ∙ idle,
  )
  begins_anew_lem before after old new ended left not_joined idle joins (inr (is, has)) =
      let (first, many, hangs_up, over) = joins has in
      let fresh = joined_new many ConnectionFailed 0 first new over in inr (
        has,
        ap (λ (l : KeptServer). l.held) is ∙ fresh.1,
        ap (λ (l : KeptServer). l.last) is ∙ fresh.0,
      )
