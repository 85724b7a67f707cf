-- Over any number of calls and crashes: a message waits until its acknowledgement came, and has its place's counter.
use Rattle.std.proofs.Common.{◌≡◌, ◌⊎◌, ℕ, zero, suc, ◌+◌, List, [], ◌∷◌, length, Option, Result, Ok, Err, ap, sym}
use Rattle.std.proofs.Common.{subst, ◌∙◌, inl, inr, arith}
use Rattle.std.specs.List.{Contains}
use Rattle.std.proofs.lemmas.List.Elements.{Contains-append_left}
use Rattle.uecp_link.specs.Counters.{next_counter}
use Rattle.uecp_link.specs.Kept.{last_counter}
use Rattle.uecp_link.specs.Server.{ServerState, waiting_among, waiting}
use Rattle.uecp_link.proofs.Public.{last_counter-next}
use Rattle.uecp_net.specs.declared.sender.Outstanding.{Outstanding as Reason}
use Rattle.uecp_net.specs.declared.sender.Settled.{Settled}
use Rattle.uecp_net.specs.Sending.{SenderOver, submitted_to, submitted_all}
use Rattle.uecp_net.specs.declared.saved.keep.Progress.{Progress}
use Rattle.uecp_net.specs.declared.saved.batch.KeptOutstanding.TheVariants.{Outstanding, StateFailed}
use Rattle.uecp_net.specs.Keeping.{KeptServer, taking}
use Rattle.uecp_net.specs.SavedSending.{Ended, Settles, SettlesKept, SendsKept}
use Rattle.uecp_net.specs.Laws.{numbered_after, Sends, SettlesOnce, ComesIn}
use Rattle.uecp_net.specs.Laws.{WaitsInEveryFile, NumbersByPlace}
use Rattle.uecp_net.proofs.LosingNone.{loses_no_message_lem, loses_none_outstanding_lem}

-- ---- what a batch makes of the last counter

module _ {C I O : Type 0} where
  all_numbered : (s : SenderOver C I O) (batch : List (List ℕ)) (taken : ℕ)
      → s.sender.server.last ≡ last_counter taken
      → (submitted_all s batch).sender.server.last ≡ last_counter (taken + length batch)
  all_numbered s [] taken is = is ∙ ap last_counter (let none : taken ≡ taken + 0 = omega arith in none)
  all_numbered s (m ∷ batch) taken is =
      all_numbered (submitted_to s m) batch (taken + 1) (ap next_counter is ∙ last_counter-next taken)
      ∙ ap last_counter (let one : taken + 1 + length batch ≡ taken + length (m ∷ batch) = omega arith in one)

module _ {C I O K : Type 0} (opens : C → Option (I × O) → C → Type 0) (closes : C → I → O → C → Type 0)
    (remaining : I → Option (List ℕ)) (contents : O → Option (List ℕ)) (saves fails : K → KeptServer → K → Type 0) where
  -- ---- one call

  abbrev Call : KeptServer → KeptServer → Type 0
  Call kept left = Sends opens closes remaining contents saves fails kept left
      ⊎ SettlesOnce opens closes remaining contents saves fails kept left

  waits_or_comes : (kept left : KeptServer) (call : Call kept left) (w : ℕ × List ℕ)
      → Contains (waiting_among kept.held) w → Contains (waiting_among left.held) w
      ⊎ ComesIn opens closes remaining contents saves fails kept left call w.0
  waits_or_comes kept left (inl call) w has =
      let there : Contains (waiting call.old.sender.server) w =
      subst (λ (l : KeptServer). Contains (waiting_among l.held) w) call.is_kept has in
      elim (loses_no_message_lem opens closes remaining contents saves fails call.before call.old call.new call.batch
      call.keeper call.keeper' call.ended left call.sends call.outlives) [
        | inl all ↦ all.none_lost w (Contains-append_left (waiting call.old.sender.server)
            (numbered_after call.old.sender.server.last call.batch) w there)
        | inr none ↦ inl (subst (λ ws. Contains ws w) (sym none.wait) there)
      ]
  waits_or_comes kept left (inr call) w has =
      (loses_none_outstanding_lem opens closes remaining contents saves fails call.progress call.old call.new
      call.keeper call.keeper' call.ended left call.settles call.outlives).1 w
      (subst (λ (l : KeptServer). Contains (waiting_among l.held) w) call.is_kept has)

  -- what is settled keeps the last counter
  settles_last : (s s' : SenderOver C I O) (settled : Result Settled Reason)
      → Settles opens closes remaining contents s s' settled → s'.sender.server.last ≡ s.sender.server.last
  settles_last s s' (Ok settled) done = ap (λ (d : ServerState). d.last) done.freed
  settles_last s s' (Err reason) done = done.wait.2

  kept_last : (progress : Progress) (s s' : SenderOver C I O) (k k' : K) (ended : Ended)
      → SettlesKept opens closes remaining contents saves fails progress s s' k k' ended
      → s'.sender.server.last ≡ s.sender.server.last
  kept_last progress s s' k k' (Ok settled) (done, saved) = ap (λ (d : ServerState). d.last) done.freed
  kept_last progress s s' k k' (Err (Outstanding reason)) (done, saved) = done.wait.2
  kept_last progress s s' k k' (Err StateFailed) (settled, done, failed) = settles_last s s' settled done

  sends_last : (progress : Progress) (s s' : SenderOver C I O) (k k' : K) (ended : Ended)
      → SendsKept opens closes remaining contents saves fails progress s s' k k' ended
      → s'.sender.server.last ≡ s.sender.server.last
  sends_last progress s s' k k' ended (inl (between, saved, done)) = kept_last progress s s' between k' ended done
  sends_last progress s s' k k' ended (inr (is, same, failed)) =
      ap (λ (d : SenderOver C I O). d.sender.server.last) same

  -- what is left has the last counter of as many messages as were taken
  abbrev IsNumbered : KeptServer → Type 0
  IsNumbered kept = kept.last ≡ last_counter kept.taken

  numbered_as : (left now : KeptServer) → left ≡ now → IsNumbered now → IsNumbered left
  numbered_as left now is numbered = subst IsNumbered (sym is) numbered

  numbers_on : (kept left : KeptServer) → Call kept left → IsNumbered kept → IsNumbered left
  numbers_on kept left (inl call) is =
      let before : call.old.sender.server.last ≡ last_counter call.before.taken = subst IsNumbered call.is_kept is in
      let submitted = all_numbered call.old call.batch call.before.taken before in
      elim call.outlives [
        | inl (same, none) ↦ numbered_as left _ same before
        | inr (inl same) ↦ numbered_as left _ same submitted
        | inr (inr same) ↦ numbered_as left _ same
            (sends_last (taking call.before (length call.batch)) (submitted_all call.old call.batch) call.new
            call.keeper call.keeper' call.ended call.sends ∙ submitted)
      ]
  numbers_on kept left (inr call) is =
      let before : call.old.sender.server.last ≡ last_counter call.progress.taken = subst IsNumbered call.is_kept is in
      elim call.outlives [
        | inl same ↦ numbered_as left _ same before
        | inr same ↦ numbered_as left _ same
            (kept_last call.progress call.old call.new call.keeper call.keeper' call.ended call.settles ∙ before)
      ]

  -- ---- any number of calls

  pub waits_in_every_file_lem : WaitsInEveryFile opens closes remaining contents saves fails
  waits_in_every_file_lem zero kept kept' same w has = has
  waits_in_every_file_lem (suc n) kept kept' (left, call, later) w has = (
    has,
    elim (waits_or_comes kept left call w has) [
      | inl still ↦ inr (waits_in_every_file_lem n left kept' later w still)
      | inr came ↦ inl came
    ],
  )

  pub numbers_by_place_lem : NumbersByPlace opens closes remaining contents saves fails
  numbers_by_place_lem zero kept kept' same is = numbered_as kept' kept same is
  numbers_by_place_lem (suc n) kept kept' (left, call, later) is =
      numbers_by_place_lem n left kept' later (numbers_on kept left call is)
