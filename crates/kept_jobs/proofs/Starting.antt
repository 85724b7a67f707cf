-- A sender that has no connection yet.
use Rattle.std.proofs.Common.{◌≡◌, ℕ, sym, ap, ◌∙◌}
use Rattle.uecp_net.specs.Sending.{SenderState, SenderOver}
use Rattle.uecp_jobs.specs.ServerRun.{unconnected}

pub starts_so : {C I O : Type 0} (s : SenderOver C I O) (c : C) (given : ℕ) (d : SenderState)
    → s ≡ unconnected c given d
    → s ≡ unconnected c s.loan d
starts_so s c given d made = made ∙ ap (λ n. unconnected c n d) (sym (ap (λ (d : SenderOver _ _ _). d.loan) made))
