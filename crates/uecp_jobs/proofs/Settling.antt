-- A batch that was submitted and settled.
use Rattle.std.proofs.Common.{◌≡◌, ◌≢◌, ℕ, ◌≤◌, List, [], length, Option, Result, Ok, Err, IfOk, IfErr, ◌∙◌, ap, inl}
use Rattle.std.proofs.Common.{inr, arith}
use Rattle.uecp_text.specs.declared.run_fault.RunFault.{RunFault}
use Rattle.uecp_link.specs.Server.{waiting}
use Rattle.uecp_net.specs.declared.sender.Outstanding.{Outstanding}
use Rattle.uecp_net.specs.declared.sender.Outstanding.TheVariants.{ConnectionFailed}
use Rattle.uecp_net.specs.declared.sender.Settled.{Settled}
use Rattle.uecp_net.specs.Sending.{SenderState, SenderOver, Marks, Delivers, AreTold, AreFreed, StillWait}
use Rattle.uecp_net.specs.Sending.{submitted_all}
use Rattle.uecp_jobs.specs.Batches.{SendsBatch, Tells, settled_lines, ended_by}
use Rattle.uecp_jobs.proofs.BatchLines.{none_left, all_held, all_wait, all_tries}

-- what `settle` says of a sender before and after it
pub record SettlesSo {C I O : Type 0} (opens : C → Option (I × O) → C → Type 0) (closes : C → I → O → C → Type 0)
    (remaining : I → Option (List ℕ)) (contents : O → Option (List ℕ)) (mid s' : SenderOver C I O)
    (settled : Result Settled Outstanding) : Type 0 where
  pub freed : IfOk settled (λ _. AreFreed mid.sender.server s'.sender.server)
  pub all : IfOk settled (λ d. length d.codes.items ≡ length (waiting mid.sender.server))
  pub tries : IfOk settled (λ d. (1 ≤ d.tries) × (d.tries ≤ mid.sender.tries))
  pub outstanding : IfErr settled (λ _. StillWait mid.sender.server s'.sender.server)
  pub stays : record s'.sender { server = mid.sender.server; left = mid.sender.left } ≡ mid.sender
  pub delivers : IfOk settled (λ d. (ended : ℕ) × (marks : Marks)
      × Delivers opens closes remaining contents ended ConnectionFailed mid s' [] marks (Ok d.tries)
      × AreTold mid.sender.server marks d.codes.items)
  pub gives_up : IfErr settled (λ reason. (ended : ℕ) × (marks : Marks)
      × Delivers opens closes remaining contents ended ConnectionFailed mid s' [] marks (Err reason))

module _ {C I O : Type 0} (opens : C → Option (I × O) → C → Type 0) (closes : C → I → O → C → Type 0)
    (remaining : I → Option (List ℕ)) (contents : O → Option (List ℕ)) (s s' : SenderOver C I O)
    (batch : List (List ℕ)) where
  abbrev all_in : SenderOver C I O
  all_in = submitted_all s batch

  -- some message is held
  pub some_held : batch ≢ [] → all_in.sender.server.held ≢ []
  some_held some none = some (none_left batch (let held = all_held s batch in
      let no : length all_in.sender.server.held ≡ 0 = ap length none in omega (arith, held, no)))

  -- so it is what is said of the batch
  pub settled_so : (settled : Result Settled Outstanding) (held held' : Option (List ℕ))
      (result : Result (Unit {0}) RunFault) → s.sender.server.held ≡ []
      → SettlesSo opens closes remaining contents all_in s' settled →
      Tells (settled_lines settled) (ended_by settled) held held' result
      → SendsBatch opens closes remaining contents s batch held held' result s'
  settled_so (Ok d) held held' result idle settles tells = inl (
    d.codes.items,
    d.tries,
    record {
      ended = settles.delivers.0;
      marks = settles.delivers.1;
      delivers = settles.delivers.2;
      are_told = settles.delivers.3;
      freed = settles.freed;
      all = let waits = all_wait s batch in let number = settles.all in
          let none : length (waiting s.sender.server) ≡ 0 =
          ap (λ hs. length (waiting (record s.sender.server { held = hs }))) idle in omega (arith, number, waits, none);
      some = settles.tries.0;
      most = let most = settles.tries.1 in let same = all_tries s batch in omega (arith, most, same);
      stays = ap (λ (d : SenderState). d.tries) settles.stays ∙ all_tries s batch;
    },
    tells,
  )
  settled_so (Err reason) held held' result idle settles tells =
      inr (
        reason,
        record {
          ended = settles.gives_up.0;
          marks = settles.gives_up.1;
          delivers = settles.gives_up.2;
          wait = settles.outstanding;
        },
        tells,
      )
