-- What the writer got of an encoder that was joined, or could not be.
use Rattle.std.proofs.Common.{◌≡◌, ◌⊎◌, ℕ, ◌≤◌, Bool, true, false, List, ◌++◌, length, Option, Result, Ok, Err, refl}
use Rattle.std.proofs.Common.{sym, ap, subst, ◌∙◌, inl, inr}
use Rattle.std.specs.Io.KnownBytes.{Appends}
use Rattle.std.proofs.KnownBytes.{Appends-nil, Appends-trans}
use Rattle.uecp_text.specs.declared.run_fault.RunFault.{RunFault}
use Rattle.uecp_text.specs.declared.run_fault.RunFault.TheVariants as run
use Rattle.uecp_text.specs.Faults.{status_of}
use Rattle.uecp_text.specs.Written.{Begins}
use Rattle.uecp_net.specs.declared.sender.Outstanding.{Outstanding}
use Rattle.uecp_net.specs.declared.sender.Outstanding.TheVariants.{TriesSpent, ConnectionFailed}
use Rattle.uecp_net.specs.Sending.{SenderOver}
use Rattle.uecp_jobs.specs.Batches.{fault_of, Tells, AreBatches, lines_of_batches}
use Rattle.uecp_jobs.specs.JoiningFirst.{joined_line, not_joined_line, joining_line, joining_end, Joins, JoinsFirst}
use Rattle.uecp_jobs.specs.JoiningFirst.{StopsJoining}
use Rattle.uecp_jobs.specs.ServerRun.{RunsSender, BreaksOff, BreaksRun}
use Rattle.uecp_jobs.proofs.Doing.{stopped, same_fault}
use Rattle.uecp_jobs.proofs.Sent.{Batches, went, done_is_no_fault, sent_batches, stopped_batches, breaks_status}

by_writing : (held held' : Option (List ℕ)) (fault : RunFault)
    → (stopped fault ≡ stopped run.Writing) ⊎ (stopped fault ≡ stopped run.OutOfMemory)
    → Begins held held' (joined_line true) ⊎ Begins held held' not_joined_line → StopsJoining held held' fault
by_writing held held' fault (inl is) begins = subst (StopsJoining held held') (sym (same_fault fault run.Writing is))
    begins
by_writing held held' fault (inr is) begins = subst (StopsJoining held held')
    (sym (same_fault fault run.OutOfMemory is)) begins

by_reason : (held held' : Option (List ℕ)) (reason : Outstanding) → Appends held held' not_joined_line
    → StopsJoining held held' (fault_of reason)
by_reason held held' TriesSpent appends = appends
by_reason held held' ConnectionFailed appends = appends

-- what stops a run at its beginning has status 3
joining_status : (held held' : Option (List ℕ)) (fault : RunFault) → StopsJoining held held' fault → status_of fault ≡ 3
joining_status held held' run.Outstanding stops = refl
joining_status held held' run.Connection stops = refl
joining_status held held' run.Writing stops = refl
joining_status held held' run.OutOfMemory stops = refl
joining_status held held' fault stops = absurd stops

pub run_status : (join : Bool) (size tries messages : ℕ) (held held' : Option (List ℕ)) (fault : RunFault)
    → BreaksRun join size tries messages held held' fault → status_of fault ≡ 3
run_status join size tries messages held held' fault (inl (between, appends, breaks)) =
    breaks_status size tries messages between held' fault breaks
run_status join size tries messages held held' fault (inr (asked, stops)) = joining_status held held' fault stops

module _ {C I O : Type 0} (opens : C → Option (I × O) → C → Type 0) (closes : C → I → O → C → Type 0)
    (remaining : I → Option (List ℕ)) (contents : O → Option (List ℕ)) where
  -- so it begins where joining went so, and the writer got what is said of that
  pub joins_so : (join : Bool) (s s' : SenderOver C I O) (joined : Result (Unit {0}) Outstanding)
      (held held' : Option (List ℕ)) (result : Result (Unit {0}) RunFault) → join ≡ true
      → Joins opens closes remaining contents s s' joined →
      Tells (joining_line joined) (joining_end joined) held held' result
      → JoinsFirst opens closes remaining contents join s held held' result s'
  joins_so false s s' joined held held' result asked joins tells = absurd (cc)
  joins_so true s s' (Ok done) held held' result asked joins tells = inl (joins, tells)
  joins_so true s s' (Err reason) held held' result asked joins tells = inr (reason, joins, tells)

  -- the run goes on: the writer got the line, and the tries are as before
  began : (join : Bool) (s s' : SenderOver C I O) (held held' : Option (List ℕ))
      → JoinsFirst opens closes remaining contents join s held held' went s'
      → (s'.sender.tries ≡ s.sender.tries) × Appends held held' (joined_line join)
  began false s s' held held' (same, kept, is) = (
    ap (λ (d : SenderOver C I O). d.sender.tries) same,
    subst (λ h. Appends held h (joined_line false)) (sym kept) (Appends-nil held),
  )
  began true s s' held held' (inl (joins, inl (appends, is))) = (joins.tries, appends)
  began true s s' held held' (inl (joins, inr (begins, inl is))) = absurd (done_is_no_fault run.Writing is)
  began true s s' held held' (inl (joins, inr (begins, inr is))) = absurd (done_is_no_fault run.OutOfMemory is)
  began true s s' held held' (inr (reason, joins, inl (appends, is))) = absurd (done_is_no_fault (fault_of reason) is)
  began true s s' held held' (inr (reason, joins, inr (begins, inl is))) = absurd (done_is_no_fault run.Writing is)
  began true s s' held held' (inr (reason, joins, inr (begins, inr is))) = absurd (done_is_no_fault run.OutOfMemory is)

  -- the run ends there
  ended : (join : Bool) (s s' : SenderOver C I O) (held held' : Option (List ℕ)) (fault : RunFault)
      → JoinsFirst opens closes remaining contents join s held held' (stopped fault) s'
      → (join ≡ true) × StopsJoining held held' fault
  ended false s s' held held' fault (same, kept, is) = absurd (done_is_no_fault fault (sym is))
  ended true s s' held held' fault (inl (joins, inl (appends, is))) = absurd (done_is_no_fault fault (sym is))
  ended true s s' held held' fault (inl (joins, inr (begins, is))) = (refl, by_writing held held' fault is (inl begins))
  ended true s s' held held' fault (inr (reason, joins, inl (appends, is))) = (
    refl,
    subst (StopsJoining held held') (sym (same_fault fault (fault_of reason) is))
        (by_reason held held' reason appends),
  )
  ended true s s' held held' fault (inr (reason, joins, inr (begins, is))) =
      (refl, by_writing held held' fault is (inr begins))

  -- all messages were sent
  pub sent_run : (join : Bool) (size : ℕ) (s s' : SenderOver C I O) (messages : List (List ℕ))
      (held held' : Option (List ℕ)) → 1 ≤ size → RunsSender opens closes remaining contents join size s messages held
      held' went s' →
      (batches : Batches) × AreBatches size s.sender.tries (length messages) batches
      × Appends held held' (joined_line join ++ lines_of_batches batches)
  sent_run join size s s' messages held held' some_size (inl (begun, between, n, first, out)) =
      let (same, line) = began join s begun held between first in
      let (batches, are, written) = sent_batches opens closes remaining contents size n begun s' messages between held'
      some_size out in
      (batches, subst (λ t. AreBatches size t (length messages) batches) same are, Appends-trans _ _ _ _ _ line written)
  sent_run join size s s' messages held held' some_size (inr (fault, first, is)) = absurd (done_is_no_fault fault is)

  -- the run was stopped
  pub stopped_run : (join : Bool) (size : ℕ) (s s' : SenderOver C I O) (messages : List (List ℕ))
      (held held' : Option (List ℕ)) (fault : RunFault) → 1 ≤ size
      → RunsSender opens closes remaining contents join size s messages held held' (stopped fault) s' →
      BreaksRun join size s.sender.tries (length messages) held held' fault
  stopped_run join size s s' messages held held' fault some_size (inl (begun, between, n, first, out)) =
      let (same, line) = began join s begun held between first in
      inl (
        between,
        line,
        subst (λ t. BreaksOff size t (length messages) between held' fault) same
            (stopped_batches opens closes remaining contents size n begun s' messages between held' fault some_size
            out),
      )
  stopped_run join size s s' messages held held' fault some_size (inr (f, first, is)) =
      inr (ended join s s' held held' fault
      (subst (λ g. JoinsFirst opens closes remaining contents join s held held' (stopped g) s')
      (sym (same_fault fault f is)) first))
