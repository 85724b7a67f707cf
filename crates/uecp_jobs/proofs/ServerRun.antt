-- The job `server` by what was sent.
use Rattle.std.proofs.Common.{◌≡◌, ◌⊎◌, ℕ, ◌≤◌, ◌++◌, List, [], ◌∷◌, length, Option, Some, None, Result, Ok, Err}
use Rattle.std.proofs.Common.{IfOk, IfErr, refl, sym, ap, subst, ◌∙◌, inl, inr, arith}
use Rattle.uecp_text.specs.declared.run_fault.RunFault.{RunFault}
use Rattle.uecp_text.specs.declared.run_fault.RunFault.TheVariants as run
use Rattle.uecp_text.specs.declared.text_fault.TextFault.{TextFault}
use Rattle.uecp_text.specs.Faults.{status_of, error_lines}
use Rattle.uecp_text.specs.Input.{texts_of}
use Rattle.std.specs.Io.KnownBytes.{Appends}
use Rattle.uecp_text.specs.Run.{IsInput, StopsReading}
use Rattle.uecp_link.specs.Server.{ServerState, idle_at}
use Rattle.uecp_net.specs.declared.sender.Limits.{Limits}
use Rattle.uecp_net.specs.Sending.{SenderState, SenderOver}
use Rattle.commands.specs.declared.job.Job.{Job}
use Rattle.commands.specs.declared.job.Job.TheVariants.{ServerWith}
use Rattle.commands.specs.Jobs.{in_full}
use Rattle.uecp_jobs.specs.declared.server_setup.ServerSetup.{ServerSetup}
use Rattle.uecp_jobs.specs.Setups.{address_of, IsOneEncoder, RefusesAddress}
use Rattle.uecp_jobs.specs.Jobs.{RefusesJob, RefusesFull}
use Rattle.uecp_jobs.specs.Messages.{spelled, refused_at, messages_first, refusal_in}
use Rattle.uecp_elements.specs.declared.code.Code.{Code}
use Rattle.uecp_jobs.specs.Batches.{batch_size, AreBatches, lines_of_batches}
use Rattle.uecp_jobs.specs.JoiningFirst.{joined_line}
use Rattle.uecp_jobs.specs.ServerRun.{BreaksRun}
use Rattle.uecp_jobs.specs.ServerRun.{IsServer, OnServer, server_setup, sender_at_first, unconnected, SendsMessages}
use Rattle.uecp_jobs.specs.ServerRun.{SendsAs, SendsUpToAs, Sends, SendsNone}
use Rattle.uecp_jobs.specs.ServerRun.{SendsUpTo, HasSentAll, HasSentBefore, HasNotSentAll, AreAcknowledged}
use Rattle.uecp_jobs.specs.ServerRun.{AreAcknowledgedBefore, AreNotAcknowledged}
use Rattle.uecp_jobs.proofs.MessageTexts.{all_bring}
use Rattle.uecp_jobs.proofs.JoiningFirst.{sent_run, stopped_run, run_status}

-- ---- how it starts

pub starts_so : {C I O : Type 0} (s : SenderOver C I O) (c : C) (given : ℕ) (server : ServerState) (address : ℕ)
    (limits : Limits) →
    s ≡ unconnected c given (record {
      server = server;
      tries = limits.tries;
      turns = limits.turns;
      left = limits.reconnects;
      reconnect_silent = limits.reconnect_silent;
    }) → server ≡ idle_at address
    → s ≡ unconnected c s.loan (sender_at_first address limits)
starts_so s c given server address limits made idle =
    made
    ∙ ap (λ (server : ServerState). let s : SenderState =
    record {
      server = server;
      tries = limits.tries;
      turns = limits.turns;
      left = limits.reconnects;
      reconnect_silent =
          limits.reconnect_silent;
    } in
    unconnected c given s) idle
    ∙ ap (λ n. unconnected c n (sender_at_first address limits)) (sym (ap (λ (d : SenderOver _ _ _). d.loan) made))

pub ok_map : {A B : Type 0} (r : Result A B) (P Q : A → Type 0) → ((x : A) → P x → Q x) → IfOk r P → IfOk r Q
ok_map (Ok x) P Q follows holds = follows x holds
ok_map (Err e) P Q follows holds = tt

pub err_map : {A B : Type 0} (r : Result A B) (P Q : B → Type 0) → ((e : B) → P e → Q e) → IfErr r P → IfErr r Q
err_map (Ok x) P Q follows holds = tt
err_map (Err e) P Q follows holds = follows e holds

module _ {C I O : Type 0} (opens : C → Option (I × O) → C → Type 0) (closes : C → I → O → C → Type 0)
    (remaining : I → Option (List ℕ)) (contents : O → Option (List ℕ)) where
  pub sends_by : (address size : ℕ) (s : ServerSetup)
      (messages : List (List ℕ)) (input : List ℕ) (c c' : C) (held held' : Option (List ℕ))
      (result : Result (Unit {0}) RunFault) →
      address ≡ address_of s.site s.encoder → size ≡ batch_size s.window → messages ≡ messages_first (texts_of input) →
      SendsMessages opens closes remaining contents address s.limits s.join size messages c c' held held' result →
      SendsMessages opens closes remaining contents (address_of s.site s.encoder) s.limits s.join (batch_size s.window)
      (messages_first (texts_of input)) c c' held held' result
  sends_by address size s messages input c c' held held' result address_is size_is messages_are sends =
      subst (λ a. SendsMessages opens closes remaining contents a s.limits s.join (batch_size s.window)
      (messages_first (texts_of input)) c c' held held' result) address_is
      (subst (λ n. SendsMessages opens closes remaining contents address s.limits s.join n
      (messages_first (texts_of input)) c c' held held' result) size_is
      (subst (λ ms. SendsMessages opens closes remaining contents address s.limits s.join size ms c c' held held'
      result) messages_are sends))

-- a batch ended the run for this
pub sent_to : {C I O : Type 0} (unmoved unwritten : Type 0) (opens : C → Option (I × O) → C → Type 0)
    (closes : C → I → O → C → Type 0) (remaining : I → Option (List ℕ)) (contents : O → Option (List ℕ))
    (s : ServerSetup) (c c' : C) (unread unread' held held' : Option (List ℕ))
    (result : Result (Unit {0}) RunFault) (fault : RunFault) → result ≡ Err fault
    → SendsUpToAs opens closes remaining contents s c c' unread unread' held held' fault →
    IfErr result (λ f. (RefusesAddress s.site s.encoder f × unmoved × unwritten × (c' ≡ c))
    ⊎ ((SendsNone unread unread' held held' f × (c' ≡ c))
    ⊎ SendsUpToAs opens closes remaining contents s c c' unread unread' held held' f))
sent_to unmoved unwritten opens closes remaining contents s c c' unread unread' held held' result fault is sends =
    subst (λ r. IfErr r (λ f. (RefusesAddress s.site s.encoder f × unmoved × unwritten × (c' ≡ c))
    ⊎ ((SendsNone unread unread' held held' f × (c' ≡ c))
    ⊎ SendsUpToAs opens closes remaining contents s c c' unread unread' held held' f))) (sym is) (inr (inr sends))

-- ---- by the job's options
module _ {C I O : Type 0} (opens : C → Option (I × O) → C → Type 0) (closes : C → I → O → C → Type 0)
    (remaining : I → Option (List ℕ)) (contents : O → Option (List ℕ)) (s : ServerSetup) (job : Job) (c c' : C)
    (unread unread' held held' : Option (List ℕ))
    (asks : (input : List ℕ) (r : Result (Unit {0}) RunFault)
    → SendsAs opens closes remaining contents s input c c' unread unread' held held' r
    → Sends opens closes remaining contents job input c c' unread unread' held held' r) where
  pub has_all : (result : Result (Unit {0}) RunFault)
      → IfOk result (λ _. (input : List ℕ) × SendsAs opens closes remaining contents s input c c' unread unread' held
      held' (Ok tt) × (refusal_in (texts_of input) ≡ None))
      → IfOk result (λ _. HasSentAll opens closes remaining contents job c c' unread unread' held held')
  has_all (Ok done) (input, sends, none) = record { input = input; sends = asks input _ sends; none_refused = none }
  has_all (Err fault) all = tt

  pub has_some : (unmoved unwritten : Type 0) → ((fault : RunFault) → RefusesAddress s.site s.encoder fault
      → RefusesJob job fault) → (result : Result (Unit {0}) RunFault)
      → IfErr result (λ f. (RefusesAddress s.site s.encoder f × unmoved × unwritten × (c' ≡ c))
      ⊎ ((SendsNone unread unread' held held' f × (c' ≡ c))
      ⊎ SendsUpToAs opens closes remaining contents s c c' unread unread' held held' f))
      → IfErr result (λ f. (RefusesJob job f × unmoved × unwritten × (c' ≡ c))
      ⊎ ((SendsNone unread unread' held held' f × (c' ≡ c))
      ⊎ SendsUpTo opens closes remaining contents job c c' unread unread' held held' f))
  has_some unmoved unwritten refuses (Ok done) some = tt
  has_some unmoved unwritten refuses (Err fault) (inl refused) =
      inl (refuses fault refused.0, refused.1, refused.2, refused.3)
  has_some unmoved unwritten refuses (Err fault) (inr (inl none)) = inr (inl none)
  has_some unmoved unwritten refuses (Err fault) (inr (inr (input, inl (sends, refused)))) =
      inr (inr (input, inl (asks input _ sends, refused)))
  has_some unmoved unwritten refuses (Err fault) (inr (inr (input, inr sends))) =
      inr (inr (input, inr (asks input _ sends)))

-- ---- how it ends

some_size : (window : ℕ) → 1 ≤ batch_size window
some_size window = omega arith

server_refuses : (job : Job) (fault : RunFault) → IsServer job → RefusesJob job fault → status_of fault ≡ 2
server_refuses job fault serves refused = by (in_full job) serves refused
  where
    by : (full : Job) → OnServer full (λ s. Unit {0}) → RefusesFull full fault → status_of fault ≡ 2
    by (ServerWith o) serves refused = ap status_of refused.0
    by full serves refused = absurd serves

stops_status : (fault : RunFault) (read : List ℕ) → StopsReading fault read → status_of fault ≡ 3
stops_status run.TooLong read stops = refl
stops_status run.Reading read stops = refl
stops_status run.OutOfMemory read stops = refl
stops_status fault read stops = absurd stops

none_status : (unread unread' held held' : Option (List ℕ)) (fault : RunFault)
    → SendsNone unread unread' held held' fault → status_of fault ≡ 3
none_status unread unread' held held' fault (inl (read, consumed, stops), kept) = stops_status fault read stops
none_status unread unread' held held' fault (inr (input, is_input, is), kept) = ap status_of is

refused_here : (r : Result (List ℕ) TextFault) (number : ℕ) (later : Option RunFault) (fault : RunFault)
    → (later ≡ Some fault → status_of fault ≡ 1) → refused_at number r later ≡ Some fault → status_of fault ≡ 1
refused_here (Ok message) number later fault next is = next is
refused_here (Err refusal) number later fault next is =
    ap status_of (let same : run.Text number refusal
    ≡ fault = (let e : Some (run.Text number refusal) ≡ Some fault = is in cc) in sym same)

refused_status : (texts : List (ℕ × List ℕ)) (fault : RunFault) → refusal_in texts ≡ Some fault → status_of fault ≡ 1
refused_status [] fault is = absurd (let no : None ≡ Some fault = is in cc)
refused_status ((number, text) ∷ texts) fault is =
    refused_here (spelled text) number (refusal_in texts) fault (refused_status texts fault) is

module _ {C I O : Type 0} (opens : C → Option (I × O) → C → Type 0) (closes : C → I → O → C → Type 0)
    (remaining : I → Option (List ℕ)) (contents : O → Option (List ℕ)) (job : Job) (c c' : C)
    (unread unread' held held' : Option (List ℕ)) where
  -- what was sent of an input, by what a server is made of
  abbrev Sent : (input : List ℕ) → Result (Unit {0}) RunFault → ServerSetup → Type 0
  Sent input result s = SendsAs opens closes remaining contents s input c c' unread unread' held held' result

  pub acknowledged_all : HasSentAll opens closes remaining contents job c c' unread unread' held held'
      → AreAcknowledged job unread unread' held held'
  acknowledged_all all = by (in_full job) all.sends
    where
      input : List ℕ
      input = all.input

      by : (full : Job) → OnServer full (Sent input (Ok tt)) → OnServer full
          (λ s. IsOneEncoder s.site s.encoder
          × ((input : List ℕ) × (batches : List (List Code × ℕ)) × IsInput unread unread' input
          × (refusal_in (texts_of input) ≡ None)
          × AreBatches (batch_size s.window) s.limits.tries (length (texts_of input)) batches
          × Appends held held' (joined_line s.join ++ lines_of_batches batches)))
      by (ServerWith o) (one, is_input, (loan, s', ran, finishes)) =
          let s = server_setup o in
          let (batches, are, appends) = sent_run opens closes remaining contents s.join (batch_size s.window)
          (unconnected c loan (sender_at_first (address_of s.site s.encoder) s.limits)) s'
          (messages_first (texts_of input))
          held held' (some_size s.window) ran in (
            one,
            (
              input,
              batches,
              is_input,
              all.none_refused,
              subst (λ k. AreBatches (batch_size s.window) s.limits.tries k batches)
                  (all_bring (texts_of input) all.none_refused) are,
              appends,
            ),
          )
      by full sends = absurd sends

  acknowledged_up_to : (says : List ℕ → Type 0)
      → HasSentBefore opens closes remaining contents job c c' unread unread' held held' says
      → AreAcknowledgedBefore job unread unread' held held' says
  acknowledged_up_to says before = by (in_full job) before.sends
    where
      input : List ℕ
      input = before.input

      by : (full : Job) → OnServer full (Sent input (Ok tt)) → OnServer full
          (λ s. IsOneEncoder s.site s.encoder
          × ((input : List ℕ) × (batches : List (List Code × ℕ)) × (fault : RunFault) × IsInput unread unread' input
          × (refusal_in (texts_of input) ≡ Some fault)
          × AreBatches (batch_size s.window) s.limits.tries (length (messages_first (texts_of input))) batches
          × Appends held held' (joined_line s.join ++ lines_of_batches batches)
          × says (error_lines fault)))
      by (ServerWith o) (one, is_input, (loan, s', ran, finishes)) =
          let s = server_setup o in
          let (batches, are, appends) = sent_run opens closes remaining contents s.join (batch_size s.window)
          (unconnected c loan (sender_at_first (address_of s.site s.encoder) s.limits)) s'
          (messages_first (texts_of input))
          held held' (some_size s.window) ran in
          (one, (input, batches, before.fault, is_input, before.refused, are, appends, before.said))
      by full sends = absurd sends

  stops_three : (input : List ℕ) (fault : RunFault)
      → Sends opens closes remaining contents job input c c' unread unread' held held' (Err fault) → status_of fault ≡ 3
  stops_three input fault sends = by (in_full job) sends
    where
      by : (full : Job) → OnServer full (Sent input (Err fault)) → status_of fault ≡ 3
      by (ServerWith o) (one, is_input, (loan, s', ran, finishes)) =
          let s = server_setup o in
          run_status s.join (batch_size s.window) s.limits.tries (length (messages_first (texts_of input))) held held'
          fault
          (stopped_run opens closes remaining contents s.join (batch_size s.window)
          (unconnected c loan (sender_at_first (address_of s.site s.encoder) s.limits)) s'
          (messages_first (texts_of input)) held
          held' fault (some_size s.window) ran)
      by full sends = absurd sends

  not_all : (says : List ℕ → Type 0) → IsServer job
      → HasNotSentAll opens closes remaining contents job c c' unread unread' held held' says
      → AreNotAcknowledged job unread unread' held held' says
  not_all says serves ended = by (in_full job) serves ended.sends
    where
      fault : RunFault
      fault = ended.fault

      by : (full : Job) → OnServer full (λ s. Unit {0}) → (SendsNone unread unread' held held' fault × (c' ≡ c))
          ⊎ ((input : List ℕ) × OnServer full (Sent input (Err fault))) → OnServer full
          (λ s. (fault : RunFault) × says (error_lines fault)
          × (SendsNone unread unread' held held' fault ⊎ ((input : List ℕ) × IsInput unread unread' input
          × BreaksRun s.join (batch_size s.window) s.limits.tries (length (messages_first (texts_of input))) held held'
          fault)))
      by (ServerWith o) serves (inl (none, same)) = (fault, ended.said, inl none)
      by (ServerWith o) serves (inr (input, (one, is_input, (loan, s', ran, finishes)))) = let s = server_setup o in (
        fault,
        ended.said,
        inr (
          input,
          is_input,
          stopped_run opens closes remaining contents s.join (batch_size s.window)
              (unconnected c loan (sender_at_first (address_of s.site s.encoder) s.limits)) s'
              (messages_first (texts_of input))
              held held' fault (some_size s.window) ran,
        ),
      )
      by full serves how = absurd serves

  -- ---- by the status

  module _ (says : List ℕ → Type 0) (serves : IsServer job) (unmoved unwritten unopened : Type 0)
      (fault : RunFault) (begins : says (error_lines fault))
      (ran : (RefusesJob job fault × unmoved × unwritten × unopened)
      ⊎ ((SendsNone unread unread' held held' fault × (c' ≡ c))
      ⊎ SendsUpTo opens closes remaining contents job c c' unread unread' held held' fault)) where
    apart : (a b : ℕ) → status_of fault ≡ a → status_of fault ≡ b → a ≡ b
    apart a b is_a is_b = sym is_a ∙ is_b

    pub sent_before : status_of fault ≡ 1 → HasSentBefore opens closes remaining contents job c c' unread unread' held
        held' says × AreAcknowledgedBefore job unread unread' held held' says
    sent_before is = elim ran [
      | inl refused ↦ absurd (let no = apart 2 1 (server_refuses job fault serves refused.0) is in omega (arith, no))
      | inr (inl none) ↦ absurd (let no = apart 3 1 (none_status unread unread' held held' fault none.0) is in
          omega (arith, no))
      | inr (inr (input, inl (sends, refused))) ↦ (let before : HasSentBefore opens closes remaining contents job c c'
          unread unread' held held' says =
          record { input = input; sends = sends; fault = fault; refused = refused; said = begins } in
          (before, acknowledged_up_to says before))
      | inr (inr (input, inr sends)) ↦ absurd (let no = apart 3 1 (stops_three input fault sends) is in
          omega (arith, no))
    ]

    pub undescribed : status_of fault ≡ 2 → RefusesJob job fault × unmoved × unwritten × unopened
    undescribed is = elim ran [
      | inl refused ↦ refused
      | inr (inl none) ↦ absurd (let no = apart 3 2 (none_status unread unread' held held' fault none.0) is in
          omega (arith, no))
      | inr (inr (input, inl (sends, refused))) ↦ absurd
          (let no = apart 1 2 (refused_status (texts_of input) fault refused) is in omega (arith, no))
      | inr (inr (input, inr sends)) ↦ absurd (let no = apart 3 2 (stops_three input fault sends) is in
          omega (arith, no))
    ]

    pub not_sent : status_of fault ≡ 3 → HasNotSentAll opens closes remaining contents job c c' unread unread' held
        held' says × AreNotAcknowledged job unread unread' held held' says
    not_sent is = elim ran [
      | inl refused ↦ absurd (let no = apart 2 3 (server_refuses job fault serves refused.0) is in omega (arith, no))
      | inr (inl none) ↦ (let all : HasNotSentAll opens closes remaining contents job c c' unread unread' held held'
          says =
          record { fault = fault; sends = inl none; said = begins } in
          (all, not_all says serves all))
      | inr (inr (input, inl (sends, refused))) ↦ absurd
          (let no = apart 1 3 (refused_status (texts_of input) fault refused) is in omega (arith, no))
      | inr (inr (input, inr sends)) ↦ (let all : HasNotSentAll opens closes remaining contents job c c' unread unread'
          held held' says =
          record { fault = fault; sends = inr (input, sends); said = begins } in
          (all, not_all says serves all))
    ]
