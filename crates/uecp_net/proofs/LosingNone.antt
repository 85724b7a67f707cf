-- No message is lost, and a pass that was cut begins anew.
use Rattle.std.proofs.Common.{◌≡◌, ◌⊎◌, ℕ, Bool, true, false, cond, List, [], ◌∷◌, ◌++◌, length, drop, map, ◌+◌}
use Rattle.std.proofs.Common.{Option, Result, Ok, Err, refl, ap, sym, subst, ◌∙◌, inl, inr, append_assoc, append-nil}
use Rattle.std.proofs.Math.Seq.{drop-append_seam}
use Rattle.std.proofs.lemmas.List.{drop-drop}
use Rattle.std.specs.List.{Contains}
use Rattle.uecp_frame.specs.Frame.{spelling}
use Rattle.uecp_link.specs.Counters.{next_counter}
use Rattle.uecp_link.specs.Frames.{frame_under}
use Rattle.uecp_link.specs.Server.{ServerState, Held, waiting_among, waiting}
use Rattle.uecp_net.specs.declared.sender.Outstanding.{Outstanding as Reason}
use Rattle.uecp_net.specs.declared.sender.Outstanding.TheVariants.{ConnectionFailed}
use Rattle.uecp_net.specs.declared.sender.Settled.{Settled}
use Rattle.uecp_net.specs.Sending.{SenderOver, Marks, Delivers, submitted_to, submitted_all}
use Rattle.uecp_net.specs.declared.saved.keep.Progress.{Progress}
use Rattle.uecp_net.specs.declared.saved.batch.KeptOutstanding.TheVariants.{Outstanding, StateFailed}
use Rattle.uecp_net.specs.Keeping.{KeptServer, going_on, taking}
use Rattle.uecp_net.specs.SavedSending.{Ended, Settles, SettlesKept, SendsKept}
use Rattle.uecp_net.specs.Laws.{numbered_after, to_deliver, HasCome, LosesNoMessage}
use Rattle.uecp_net.specs.Laws.{LosesNoneOutstanding}
use Rattle.uecp_net.specs.Laws.{SendsNoneAgain}
use Rattle.uecp_net.proofs.Waiting.{delivers_keep}

waiting_push : (hs : List Held) (counter : ℕ) (m : List ℕ)
    → waiting_among (hs ++ record { counter = counter; message = m; marked = false } ∷ [])
    ≡ waiting_among hs ++ (counter, m) ∷ []
waiting_push [] counter m = refl
waiting_push (h ∷ hs) counter m = go h.marked (waiting_push hs counter m)
  where
    after : List Held
    after = hs ++ record { counter = counter; message = m; marked = false } ∷ []

    go : (b : Bool) → waiting_among after ≡ waiting_among hs ++ (counter, m) ∷ [] →
        cond b (waiting_among after) ((h.counter, h.message) ∷ waiting_among after)
        ≡ cond b (waiting_among hs) ((h.counter, h.message) ∷ waiting_among hs) ++ (counter, m) ∷ []
    go true one = one
    go false one = ap (λ ws. (h.counter, h.message) ∷ ws) one

-- what follows a batch
follows : (taken : ℕ) (batch input rest : List (List ℕ)) → drop taken input ≡ batch ++ rest
    → drop (taken + length batch) input ≡ rest
follows taken batch input rest next =
    sym (drop-drop (length batch) taken input) ∙ ap (drop (length batch)) next ∙ drop-append_seam batch rest

module _ {C I O : Type 0} where
  -- a batch that is submitted waits, under the next counters
  all_waiting : (s : SenderOver C I O) (batch : List (List ℕ))
      → waiting (submitted_all s batch).sender.server ≡ to_deliver s.sender.server batch
  all_waiting s [] = sym (append-nil (waiting s.sender.server))
  all_waiting s (m ∷ batch) =
      let counter : ℕ = next_counter s.sender.server.last in
      all_waiting (submitted_to s m) batch
      ∙ ap (λ ws. ws ++ numbered_after counter batch) (waiting_push s.sender.server.held counter m)
      ∙ append_assoc (waiting s.sender.server) ((counter, m) ∷ []) (numbered_after counter batch)

module _ {C I O K : Type 0} (opens : C → Option (I × O) → C → Type 0) (closes : C → I → O → C → Type 0)
    (remaining : I → Option (List ℕ)) (contents : O → Option (List ℕ)) (saves fails : K → KeptServer → K → Type 0) where
  -- what the connections did
  abbrev Delivered : SenderOver C I O → SenderOver C I O → Type 0
  Delivered s s' = (ended : ℕ) × (marks : Marks) × (result : Result ℕ Reason)
      × Delivers opens closes remaining contents ended ConnectionFailed s s' [] marks result

  settles_delivered : (s s' : SenderOver C I O) (settled : Result Settled Reason)
      → Settles opens closes remaining contents s s' settled → Delivered s s'
  settles_delivered s s' (Ok settled) done = (done.ended, done.marks, Ok settled.tries, done.delivers)
  settles_delivered s s' (Err reason) done = (done.ended, done.marks, Err reason, done.delivers)

  kept_delivered : (progress : Progress) (s s' : SenderOver C I O) (k k' : K) (ended : Ended)
      → SettlesKept opens closes remaining contents saves fails progress s s' k k' ended → Delivered s s'
  kept_delivered progress s s' k k' (Ok settled) (done, saved) =
      (done.ended, done.marks, Ok settled.tries, done.delivers)
  kept_delivered progress s s' k k' (Err (Outstanding reason)) (done, saved) =
      (done.ended, done.marks, Err reason, done.delivers)
  kept_delivered progress s s' k k' (Err StateFailed) (settled, done, failed) = settles_delivered s s' settled done

  -- each message that waits goes on to wait, or its acknowledgement came
  none_lost : (s s' : SenderOver C I O) (w : ℕ × List ℕ) → Delivered s s' → Contains (waiting s.sender.server) w
      → Contains (waiting s'.sender.server) w ⊎ HasCome opens closes remaining contents s s' w.0
  none_lost s s' w (ended, marks, result, delivers) has =
      elim ((delivers_keep opens closes remaining contents ended ConnectionFailed s s' [] marks result delivers).waits w
      has) [
        | inl still ↦ inl still
        | inr some ↦ inr (ended, marks, result, delivers, some)
      ]

  sends_none_lost : (progress : Progress) (s s' : SenderOver C I O) (k k' : K) (ended : Ended) (w : ℕ × List ℕ)
      → SendsKept opens closes remaining contents saves fails progress s s' k k' ended
      → Contains (waiting s.sender.server) w
      → Contains (waiting s'.sender.server) w ⊎ HasCome opens closes remaining contents s s' w.0
  sends_none_lost progress s s' k k' ended w (inl (between, saved, done)) has =
      none_lost s s' w (kept_delivered progress s s' between k' ended done) has
  sends_none_lost progress s s' k k' ended w (inr (is, same, failed)) has =
      inl (subst (λ (d : SenderOver C I O). Contains (waiting d.sender.server) w) (sym same) has)

  pub loses_no_message_lem : LosesNoMessage opens closes remaining contents saves fails
  loses_no_message_lem before old new batch k k' ended left sends (inl (is, same)) = inr (record {
    nothing_sent = same;
    comes_next = λ input rest next. ap (λ (l : KeptServer). drop l.taken input) is ∙ next;
    wait = ap (λ (l : KeptServer). waiting (going_on old.sender.server.address l)) is;
  })
  loses_no_message_lem before old new batch k k' ended left sends (inr (inl is)) = inl (record {
    comes_next = λ input rest next. ap (λ (l : KeptServer). drop l.taken input) is
        ∙ follows before.taken batch input rest next;
    none_lost = λ w has. inl (subst (λ (l : KeptServer). Contains (waiting_among l.held) w) (sym is)
        (subst (λ ws. Contains ws w) (sym (all_waiting old batch)) has));
  })
  loses_no_message_lem before old new batch k k' ended left sends (inr (inr is)) = inl (record {
    comes_next = λ input rest next. ap (λ (l : KeptServer). drop l.taken input) is
        ∙ follows before.taken batch input rest next;
    none_lost = λ w has. elim (sends_none_lost (taking before (length batch)) (submitted_all old batch) new k k' ended w
        sends (subst (λ ws. Contains ws w) (sym (all_waiting old batch)) has)) [
          | inl still ↦ inl (subst (λ (l : KeptServer). Contains (waiting_among l.held) w) (sym is) still)
          | inr came ↦ inr came
        ];
  })

  pub loses_none_outstanding_lem : LosesNoneOutstanding opens closes remaining contents saves fails
  loses_none_outstanding_lem progress old new k k' ended left done (inl is) = (
    ap (λ (l : KeptServer). l.taken) is,
    λ w has. inl (subst (λ (l : KeptServer). Contains (waiting_among l.held) w) (sym is) has),
  )
  loses_none_outstanding_lem progress old new k k' ended left done (inr is) = (
    ap (λ (l : KeptServer). l.taken) is,
    λ w has. elim (none_lost old new w (kept_delivered progress old new k k' ended done) has) [
      | inl still ↦ inl (subst (λ (l : KeptServer). Contains (waiting_among l.held) w) (sym is) still)
      | inr came ↦ inr came
    ],
  )

module _ {C I O : Type 0} (opens : C → Option (I × O) → C → Type 0) (closes : C → I → O → C → Type 0)
    (remaining : I → Option (List ℕ)) (contents : O → Option (List ℕ)) where
  pub sends_none_again_lem : SendsNoneAgain opens closes remaining contents
  sends_none_again_lem progress s s' settled done =
      ap (λ (d : ServerState). map (λ w. spelling (frame_under s'.sender.server.address w)) (waiting d)) done.freed
