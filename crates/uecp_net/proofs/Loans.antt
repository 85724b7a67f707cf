-- A sender keeps the loan under which it has where its connections come from.
use Rattle.std.proofs.Common.{◌≡◌, ℕ, zero, suc, List, Option, Result, Ok, Err, ◌∙◌, ap, inl, inr}
use Rattle.uecp_link.specs.declared.driving.DriveFault.{DriveFault}
use Rattle.uecp_net.specs.declared.sender.Outstanding.{Outstanding}
use Rattle.uecp_net.specs.Sending.{SenderOver, Marks, GoesOn, Attempts, Delivers}
use Rattle.uecp_net.proofs.Breaking.{hung_loan}

module _ {C I O : Type 0} (opens : C → Option (I × O) → C → Type 0) (closes : C → I → O → C → Type 0)
    (remaining : I → Option (List ℕ)) (contents : O → Option (List ℕ)) where
  goes_loan : (s s' : SenderOver C I O) → GoesOn opens s s' → s'.loan ≡ s.loan
  goes_loan s s' (inl (some, same)) = ap (λ (d : SenderOver C I O). d.loan) same
  goes_loan s s' (inr (none, (input, output, opened, is))) = ap (λ (d : SenderOver C I O). d.loan) is

  attempts_loan : (s s' : SenderOver C I O) (m m' : Marks) (result : Result ℕ DriveFault)
      → Attempts opens remaining contents s s' m m' result → s'.loan ≡ s.loan
  attempts_loan s s' m m' result attempts = ap (λ (d : SenderOver C I O). d.loan) attempts.leaves
      ∙ goes_loan s attempts.start attempts.goes_on

  pub delivers_loan : (ended : ℕ) (before : Outstanding) (s s' : SenderOver C I O) (m m' : Marks)
      (result : Result ℕ Outstanding) → Delivers opens closes remaining contents ended before s s' m m' result
      → s'.loan ≡ s.loan
  delivers_loan (suc n) before s s' m m' result (fault, last, next, some, attempts, hangs_up, left, more) =
      delivers_loan n _ _ s' some m' result more ∙ hung_loan remaining contents opens closes last next hangs_up
      ∙ attempts_loan s last m some (Err fault) attempts
  delivers_loan zero before s s' m m' (Ok calls) attempts = attempts_loan s s' m m' (Ok calls) attempts
  delivers_loan zero before s s' m m' (Err reason) (inl (none, same, is)) = ap (λ (d : SenderOver C I O). d.loan) none.2
  delivers_loan zero before s s' m m' (Err reason) (inr (fault, last, attempts, hangs_up, left, is)) =
      hung_loan remaining contents opens closes last s' hangs_up ∙ attempts_loan s last m m' (Err fault) attempts
