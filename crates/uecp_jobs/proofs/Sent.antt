-- What the writer got of messages that were sent batch by batch.
use Rattle.std.proofs.Common.{◌≡◌, ◌≢◌, ◌⊎◌, ℕ, ◌+◌, ◌-◌, ◌*◌, ◌<◌, ◌≤◌, zero, suc, min, List, [], ◌∷◌, ◌++◌, length}
use Rattle.std.proofs.Common.{take, drop, codes, Option, Result, Ok, refl, ◌∙◌, ap, sym, subst, inl, inr, arith}
use Rattle.std.proofs.Common.{append_assoc, append-nil}
use Rattle.std.specs.Io.KnownBytes.{Appends}
use Rattle.std.proofs.KnownBytes.{Appends-nil, Appends-trans}
use Rattle.std.proofs.Math.Nat.{mul-suc, mul-zero}
use Rattle.std.proofs.lemmas.List.{length-take, length-drop}
use Rattle.uecp_elements.specs.declared.code.Code.{Code}
use Rattle.uecp_text.specs.declared.run_fault.RunFault.{RunFault}
use Rattle.uecp_text.specs.declared.run_fault.RunFault.TheVariants as run
use Rattle.uecp_text.specs.Faults.{status_of}
use Rattle.uecp_text.specs.Written.{Begins}
use Rattle.uecp_text.proofs.Public.{begun_on}
use Rattle.uecp_net.specs.declared.sender.Outstanding.{Outstanding}
use Rattle.uecp_net.specs.declared.sender.Outstanding.TheVariants.{TriesSpent, ConnectionFailed}
use Rattle.uecp_net.specs.Sending.{SenderOver}
use Rattle.uecp_jobs.specs.Batches.{batch_lines, fault_of, Acknowledges, SendsBatch, SendsOut, AreBatches}
use Rattle.uecp_jobs.specs.Batches.{lines_of_batches}
use Rattle.uecp_jobs.specs.ServerRun.{AreFirstBatches, IsOutstanding, IsBegun, BreaksOff}
use Rattle.uecp_jobs.proofs.Doing.{stopped, same_fault}

-- a run that was done
abbrev pub went : Result (Unit {0}) RunFault
went = Ok tt

pub done_is_no_fault : (fault : RunFault) → went ≡ stopped fault → ⊥
done_is_no_fault fault is = cc

-- ---- some batches, and one before them

abbrev pub Batches : Type 0
Batches = List (List Code × ℕ)

module _ (size tries messages : ℕ) (some_size : 1 ≤ size) (some : 1 ≤ messages) (told : List Code) (n : ℕ)
    (told_is : length told ≡ min size messages) (least : 1 ≤ n) (most : n ≤ tries)
    (held between held' : Option (List ℕ)) (appends : Appends held between (batch_lines told n)) where
  one_more : (batches : Batches) → AreBatches size tries (messages - size) batches
      → AreBatches size tries messages ((told, n) ∷ batches)
  one_more batches are = (
    some,
    told_is,
    least,
    most,
    subst (λ k. AreBatches size tries k batches) (let q : messages - size ≡ messages
        - length told = omega (arith, told_is) in q) are,
  )

  first_more : (batches : Batches) → AreFirstBatches size tries (messages - size) batches
      → AreFirstBatches size tries messages ((told, n) ∷ batches)
  first_more batches (are, fewer) =
      let count : ℕ = size * length batches in
      let all : size * suc (length batches) ≡ count + size = mul-suc size (length batches) in
      let whole : length told ≡ size = omega (arith, told_is, fewer) in (
        (
          omega (arith, all, some_size),
          omega (arith, all, whole),
          least,
          most,
          subst (λ k. AreBatches size tries k batches) (let q : count ≡ size * suc (length batches)
              - length told = omega (arith, all, whole) in q) are,
        ),
        omega (arith, all, fewer),
      )

  lines_more : (batches : Batches) (more : List ℕ)
      → lines_of_batches ((told, n) ∷ batches) ++ more ≡ batch_lines told n ++ (lines_of_batches batches ++ more)
  lines_more batches more = append_assoc (batch_lines told n) (lines_of_batches batches) more

  outstanding_more : IsOutstanding size tries (messages - size) between held'
      → IsOutstanding size tries messages held held'
  outstanding_more (batches, are, written) = (
    (told, n) ∷ batches,
    first_more batches are,
    subst (Appends held held') (sym (lines_more batches (codes "outstanding\n")))
        (Appends-trans _ _ _ _ _ appends written),
  )

  begun_more : IsBegun size tries (messages - size) between held' → IsBegun size tries messages held held'
  begun_more (batches, inl (are, begun)) = (
    (told, n) ∷ batches,
    inl (
      one_more batches are,
      begun_on held between held' (batch_lines told n) (lines_of_batches batches) _ refl
          appends begun,
    ),
  )
  begun_more (batches, inr (are, begun)) = (
    (told, n) ∷ batches,
    inr (
      first_more batches are,
      begun_on held between held' (batch_lines told n) (lines_of_batches batches ++ codes "outstanding\n") _
          (lines_more batches (codes "outstanding\n")) appends begun,
    ),
  )

  pub breaks_more : (fault : RunFault) → BreaksOff size tries (messages - size) between held' fault
      → BreaksOff size tries messages held held' fault
  breaks_more run.Outstanding breaks = outstanding_more breaks
  breaks_more run.Connection breaks = outstanding_more breaks
  breaks_more run.Writing breaks = begun_more breaks
  breaks_more run.OutOfMemory breaks = begun_more breaks
  breaks_more fault breaks = absurd breaks

-- the lines of a batch were begun, and no more
begun_at : (size tries messages : ℕ) (told : List Code) (n : ℕ) (held held' : Option (List ℕ)) → 1 ≤ size → 1 ≤ messages
    → length told ≡ min size messages → 1 ≤ n → n ≤ tries → Begins held held' (batch_lines told n)
    → IsBegun size tries messages held held'
begun_at size tries messages told n held held' some_size some told_is least most (part, rest, lines_are, written) =
    elim (one_or_more size messages) [
      | inl few ↦ (
        (told, n) ∷ [],
        inl (
          (some, told_is, least, most, let q : messages - length told ≡ 0 = omega (arith, told_is, few) in q),
          (part, rest, append-nil (batch_lines told n) ∙ lines_are, written),
        ),
      )
      | inr many ↦ (
        (told, n) ∷ [],
        inr (
          (
            (
              let q : 1 ≤ size * 1 = omega (arith, some_size) in q,
              let q : length told ≡ min size (size * 1) = omega (arith, told_is, many) in q,
              least,
              most,
              let q : size * 1 - length told ≡ 0 = omega (arith, told_is, many) in q,
            ),
            let q : size * 1 < messages = omega (arith, many) in q,
          ),
          (
            part,
            rest ++ codes "outstanding\n",
            ap (λ l. l ++ codes "outstanding\n") (append-nil (batch_lines told n) ∙ lines_are)
                ∙ append_assoc part rest (codes "outstanding\n"),
            written,
          ),
        ),
      )
    ]
  where
    one_or_more : (a b : ℕ) → (b ≤ a) ⊎ (a < b)
    one_or_more zero zero = inl (omega arith)
    one_or_more zero (suc b) = inr (omega arith)
    one_or_more (suc a) zero = inl (omega arith)
    one_or_more (suc a) (suc b) = elim (one_or_more a b) [
      | inl few ↦ inl (omega (arith, few))
      | inr many ↦ inr (omega (arith, many))
    ]

-- no batch, and then there are more
none_first : (size tries messages : ℕ) → 1 ≤ messages → AreFirstBatches size tries messages []
none_first size tries messages some = (mul-zero size, let none = mul-zero size in omega (arith, some, none))

-- a batch was outstanding, and its line was written, or begun
outstanding_at : (size tries messages : ℕ) (held held' : Option (List ℕ)) → 1 ≤ messages
    → Appends held held' (codes "outstanding\n") → IsOutstanding size tries messages held held'
outstanding_at size tries messages held held' some written = ([], none_first size tries messages some, written)

by_reason : (size tries messages : ℕ) (held held' : Option (List ℕ)) (reason : Outstanding)
    → IsOutstanding size tries messages held held' → BreaksOff size tries messages held held' (fault_of reason)
by_reason size tries messages held held' TriesSpent outstanding = outstanding
by_reason size tries messages held held' ConnectionFailed outstanding = outstanding

by_fault : (size tries messages : ℕ) (held held' : Option (List ℕ)) (fault : RunFault)
    → (stopped fault ≡ stopped run.Writing) ⊎ (stopped fault ≡ stopped run.OutOfMemory)
    → IsBegun size tries messages held held' → BreaksOff size tries messages held held' fault
by_fault size tries messages held held' fault (inl is) begun =
    subst (BreaksOff size tries messages held held') (sym (same_fault fault run.Writing is)) begun
by_fault size tries messages held held' fault (inr is) begun =
    subst (BreaksOff size tries messages held held') (sym (same_fault fault run.OutOfMemory is)) begun

pub breaks_status : (size tries messages : ℕ) (held held' : Option (List ℕ)) (fault : RunFault)
    → BreaksOff size tries messages held held' fault → status_of fault ≡ 3
breaks_status size tries messages held held' run.Outstanding breaks = refl
breaks_status size tries messages held held' run.Connection breaks = refl
breaks_status size tries messages held held' run.Writing breaks = refl
breaks_status size tries messages held held' run.OutOfMemory breaks = refl
breaks_status size tries messages held held' fault breaks = absurd breaks

-- ---- a run of batches

module _ {C I O : Type 0} (opens : C → Option (I × O) → C → Type 0) (closes : C → I → O → C → Type 0)
    (remaining : I → Option (List ℕ)) (contents : O → Option (List ℕ)) where
  -- a batch after which the run goes on
  abbrev Acknowledged : (s : SenderOver C I O) (batch : List (List ℕ)) (held held' : Option (List ℕ))
      (s' : SenderOver C I O) → Type 0
  Acknowledged s batch held held' s' = (told : List Code) × (tries : ℕ)
      × Acknowledges opens closes remaining contents s batch told tries s' × Appends held held' (batch_lines told tries)

  goes_on : (s s' : SenderOver C I O) (batch : List (List ℕ)) (held held' : Option (List ℕ))
      → SendsBatch opens closes remaining contents s batch held held' went s' → Acknowledged s batch held held' s'
  goes_on s s' batch held held' (inl (told, tries, acknowledges, inl (appends, is))) =
      (told, tries, acknowledges, appends)
  goes_on s s' batch held held' (inl (told, tries, acknowledges, inr (begins, inl is))) =
      absurd (done_is_no_fault run.Writing is)
  goes_on s s' batch held held' (inl (told, tries, acknowledges, inr (begins, inr is))) =
      absurd (done_is_no_fault run.OutOfMemory is)
  goes_on s s' batch held held' (inr (reason, gives_up, inl (appends, is))) =
      absurd (done_is_no_fault (fault_of reason) is)
  goes_on s s' batch held held' (inr (reason, gives_up, inr (begins, inl is))) =
      absurd (done_is_no_fault run.Writing is)
  goes_on s s' batch held held' (inr (reason, gives_up, inr (begins, inr is))) =
      absurd (done_is_no_fault run.OutOfMemory is)

  some_of : {X : Type 0} (xs : List X) → xs ≢ [] → 1 ≤ length xs
  some_of [] none = absurd (none refl)
  some_of (x ∷ xs) some = omega arith

  pub sent_batches : (size n : ℕ) (s s' : SenderOver C I O) (messages : List (List ℕ)) (held held' : Option (List ℕ))
      → 1 ≤ size → SendsOut opens closes remaining contents size n s messages held held' went s' →
      (batches : Batches) × AreBatches size s.sender.tries (length messages) batches
      × Appends held held' (lines_of_batches batches)
  sent_batches size zero s s' messages held held' some_size (none, kept, is, same) =
      ([], ap length none, subst (λ h. Appends held h []) (sym kept) (Appends-nil held))
  sent_batches size (suc n) s s' messages held held' some_size (some, inl (next, between, batch, later)) =
      let (told, tries, acknowledges, appends) = goes_on s next (take size messages) held between batch in
      let (batches, are, written) = sent_batches size n next s' (drop size messages) between held' some_size later in (
        (told, tries) ∷ batches,
        one_more size s.sender.tries (length messages) some_size (some_of messages some) told tries
            (acknowledges.all ∙ length-take size messages) acknowledges.some acknowledges.most held between held'
            appends batches
            (subst (λ k. AreBatches size s.sender.tries k batches) (length-drop size messages)
            (subst (λ t. AreBatches size t (length (drop size messages)) batches) acknowledges.stays are)),
        Appends-trans _ _ _ _ _ appends written,
      )
  sent_batches size (suc n) s s' messages held held' some_size (some, inr (fault, batch, is, last)) =
      absurd (done_is_no_fault fault is)

  -- a batch at which the run stopped
  stops_at : (size : ℕ) (s s' : SenderOver C I O) (messages : List (List ℕ)) (held held' : Option (List ℕ))
      (fault : RunFault) → 1 ≤ size → messages ≢ [] → SendsBatch opens closes remaining contents s (take size messages)
      held held' (stopped fault) s' →
      BreaksOff size s.sender.tries (length messages) held held' fault
  stops_at size s s' messages held held' fault some_size some (inl (told, tries, acknowledges, inl (appends, is))) =
      absurd (done_is_no_fault fault (sym is))
  stops_at size s s' messages held held' fault some_size some (inl (told, tries, acknowledges, inr (begins, is))) =
      by_fault size s.sender.tries (length messages) held held' fault is
      (begun_at size s.sender.tries (length messages) told tries held held' some_size (some_of messages some)
      (acknowledges.all ∙ length-take size messages) acknowledges.some acknowledges.most begins)
  stops_at size s s' messages held held' fault some_size some (inr (reason, gives_up, inl (appends, is))) =
      subst (BreaksOff size s.sender.tries (length messages) held held') (sym (same_fault fault (fault_of reason) is))
      (by_reason size s.sender.tries (length messages) held held' reason
      (outstanding_at size s.sender.tries (length messages) held held' (some_of messages some) appends))
  stops_at size s s' messages held held' fault some_size some (inr (reason, gives_up, inr (begins, is))) =
      by_fault size s.sender.tries (length messages) held held' fault is
      ([], inr (none_first size s.sender.tries (length messages) (some_of messages some), begins))

  pub stopped_batches : (size n : ℕ) (s s' : SenderOver C I O) (messages : List (List ℕ)) (held held' : Option (List ℕ))
      (fault : RunFault) → 1 ≤ size → SendsOut opens closes remaining contents size n s messages held held'
      (stopped fault) s' →
      BreaksOff size s.sender.tries (length messages) held held' fault
  stopped_batches size zero s s' messages held held' fault some_size (none, kept, is, same) =
      absurd (done_is_no_fault fault (sym is))
  stopped_batches size (suc n) s s' messages held held' fault some_size (some, inl (next, between, batch, later)) =
      let (told, tries, acknowledges, appends) = goes_on s next (take size messages) held between batch in
      breaks_more size s.sender.tries (length messages) some_size (some_of messages some) told tries
      (acknowledges.all ∙ length-take size messages) acknowledges.some acknowledges.most held between held' appends
      fault
      (subst (λ k. BreaksOff size s.sender.tries k between held' fault) (length-drop size messages)
      (subst (λ t. BreaksOff size t (length (drop size messages)) between held' fault) acknowledges.stays
      (stopped_batches size n next s' (drop size messages) between held' fault some_size later)))
  stopped_batches size (suc n) s s' messages held held' fault some_size (some, inr (f, batch, is, last)) =
      stops_at size s s' messages held held' fault some_size some
      (subst (λ g. SendsBatch opens closes remaining contents s (take size messages) held held' (stopped g) s')
      (sym (same_fault fault f is)) batch)
