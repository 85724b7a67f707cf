-- One call more, one connection more, and one broken connection more.
use Rattle.std.proofs.Common.{◌≡◌, ◌≢◌, ℕ, suc, ◌+◌, ◌-◌, ◌<◌, List, [], Option, Some, None, IsSome, IfSome, inl, inr}
use Rattle.std.proofs.Common.{Result, Ok, Err, true, refl, subst, sym, ap, ◌∙◌, arith}
use Rattle.uecp_frame.specs.Findings as frame
use Rattle.uecp_encoder.specs.Metered.{Metered}
use Rattle.uecp_link.specs.Server.{ServerState, heard}
use Rattle.uecp_link.specs.declared.driving.DriveFault.{DriveFault}
use Rattle.uecp_link.specs.declared.driving.DriveFault.TheVariants.{WriteFailed, Closed, TriesSpent}
use Rattle.uecp_link.specs.declared.window.Windowed.TheVariants.{Idle, Spent}
use Rattle.uecp_link.proofs.Public.{heard_none}
use Rattle.uecp_net.specs.Sending.{SenderOver, Marks, GoesOn, Opens, unused, Underway, underway, Calls, SpentCalls}
use Rattle.uecp_net.specs.Sending.{Tried, Attempts, Delivers, HangsUp, reason_of, without_ends, reconnecting}
use Rattle.uecp_net.specs.Sending.{opens_another}
use Rattle.uecp_net.specs.declared.sender.TwoEnds.{TwoEnds}
use Rattle.uecp_net.specs.declared.sender.Outstanding.{Outstanding}

module _ {I O : Type 0} (remaining : I → Option (List ℕ)) (contents : O → Option (List ℕ)) where
  -- ---- what one call leaves

  pub window_spent : (turns : ℕ) (u u' : Underway I O) → Calls remaining contents turns u u' (Ok Spent)
      → u'.server.held ≢ []
  window_spent turns u u' windows = windows.ends.1.0

  pub window_failed : (turns : ℕ) (u u' : Underway I O) (fault : DriveFault) → u.server.held ≢ []
      → Calls remaining contents turns u u' (Err fault) → u'.server.held ≢ []
  window_failed turns u u' (WriteFailed written) busy windows =
      let same : u'.server ≡ u.server = windows.state ∙ ap (heard u.server) windows.ends.2 ∙ heard_none u.server in
      λ none. busy (sym (ap (λ (d : ServerState). d.held) same) ∙ none)
  window_failed turns u u' Closed busy windows = windows.ends.1.0
  window_failed turns u u' TriesSpent busy windows = absurd windows.ends

  -- ---- the calls on one connection

  module _ (turns calls : ℕ) (u0 u1 u2 : Underway I O) (spent : SpentCalls remaining contents turns calls u0 u1) where
    pub spent_on : Calls remaining contents turns u1 u2 (Ok Spent)
        → SpentCalls remaining contents turns (calls + 1) u0 u2
    spent_on windows =
        subst (λ n. SpentCalls remaining contents turns n u0 u2) (let q : suc calls ≡ calls + 1 = omega arith in q)
        (u1, spent, windows)

    pub tried_idle : (tries : ℕ) → calls < tries → Calls remaining contents turns u1 u2 (Ok Idle)
        → Tried remaining contents tries turns u0 u2 (Ok (calls + 1))
    tried_idle tries below windows = (calls, u1, refl, omega (arith, below), spent, windows)

    pub tried_failed : (tries : ℕ) (fault : DriveFault) → calls < tries
        → Calls remaining contents turns u1 u2 (Err fault)
        → Tried remaining contents tries turns u0 u2 (Err fault)
    tried_failed tries (WriteFailed written) below windows = (calls, u1, below, spent, windows)
    tried_failed tries Closed below windows = (calls, u1, below, spent, windows)
    tried_failed tries TriesSpent below windows = absurd windows.ends

  -- ---- connections

  module _ {C : Type 0} (opens : C → Option (I × O) → C → Type 0) (closes : C → I → O → C → Type 0) where
    -- the sender took its ends out, and put them back after the calls
    pub attempted : (old start now : SenderOver C I O) (server : ServerState) (ends ends' : TwoEnds I O)
        (marks marks' : Marks)
        (result : Result ℕ DriveFault) → GoesOn opens old start → start.ends ≡ Some ends → now ≡ without_ends start
        → Tried remaining contents now.sender.tries now.sender.turns (underway now ends marks)
        (record { server = server; input = ends'.input; output = ends'.output; marks = marks' }) result
        → Attempts opens remaining contents old
        (record now { sender = record now.sender { server = server }; ends = Some ends' }) marks marks' result
    attempted old start now server ends ends' marks marks' result goes_on has now_is tried =
        let after : Underway I O = record {
          server = server;
          input = ends'.input;
          output = ends'.output;
          marks =
              marks';
        } in
        record {
          start = start;
          ends = ends;
          ends' = ends';
          goes_on = goes_on;
          has = has;
          went = subst (λ (d : SenderOver C I O). Tried remaining contents d.sender.tries d.sender.turns
              (underway d ends marks) after result) now_is tried;
          leaves = ap (λ (d : SenderOver C I O). record d {
            sender = record d.sender { server = server };
            ends = Some ends';
          }) now_is;
        }

    -- hanging up leaves the sender itself, and the loan, as they were
    pub hung_sender : (s s' : SenderOver C I O) → HangsUp closes s s' → s'.sender ≡ s.sender
    hung_sender s s' (inl (none, same)) = ap (λ (d : SenderOver C I O). d.sender) same
    hung_sender s s' (inr (ends, has, closed, is)) = ap (λ (d : SenderOver C I O). d.sender) is

    pub hung_loan : (s s' : SenderOver C I O) → HangsUp closes s s' → s'.loan ≡ s.loan
    hung_loan s s' (inl (none, same)) = ap (λ (d : SenderOver C I O). d.loan) same
    hung_loan s s' (inr (ends, has, closed, is)) = ap (λ (d : SenderOver C I O). d.loan) is

    -- no connection is left
    pub hung_none : (s s' : SenderOver C I O) → HangsUp closes s s' → s'.ends ≡ None
    hung_none s s' (inl (none, same)) = ap (λ (d : SenderOver C I O). d.ends) same ∙ none
    hung_none s s' (inr (ends, has, closed, is)) = ap (λ (d : SenderOver C I O). d.ends) is

    pub one_fewer : (now next : SenderOver C I O) → now ≡ next
        → record now { sender = record now.sender { left = now.sender.left - 1 } } ≡ reconnecting next
    one_fewer now next is = ap (λ (d : SenderOver C I O). reconnecting d) is

    -- one more connection ended, and cost a reconnect
    pub delivers_on : (old last next after new : SenderOver C I O) (marks some marks' : Marks)
        (result : Result ℕ Outstanding) (ended : ℕ) (before reason : Outstanding) (fault : DriveFault) →
        Attempts opens remaining contents old last marks some (Err fault) → HangsUp closes last next
        → opens_another next.sender (reason_of fault) ≡ true → after ≡ reconnecting next → reason ≡ reason_of fault →
        Delivers opens closes remaining contents ended reason after new some marks' result
        → Delivers opens closes remaining contents (ended + 1) before old new marks marks' result
    delivers_on old last next after new marks some marks' result ended before reason fault attempts hangs_up left
        after_is reason_is delivers =
        subst (λ n. Delivers opens closes remaining contents n before old new marks marks' result)
        (let q : suc ended ≡ ended + 1 = omega arith in q) (
          fault,
          last,
          next,
          some,
          attempts,
          hangs_up,
          left,
          subst (λ why. Delivers opens closes remaining contents ended why (reconnecting next) new some marks' result)
              reason_is
              (subst (λ (d : SenderOver C I O). Delivers opens closes remaining contents ended reason d new some marks'
              result) after_is delivers),
        )

    -- ---- a connection that the sender has, and a new one

    unused_is : {D : Type 0} (m : Metered D) (device : D) → m.device ≡ device → m.calls ≡ 0 → m.failures ≡ 0
        → m.empty ≡ 0 → m ≡ unused device
    unused_is m device same calls failures empty =
        ap (λ d. record m { device = d }) same ∙ ap (λ n. record m { device = device; calls = n }) calls
        ∙ ap (λ n. record m { device = device; calls = 0; failures = n }) failures
        ∙ ap (λ n. record m { device = device; calls = 0; failures = 0; empty = n }) empty

    -- the sender took the ends that it has
    pub taken_out : (s before : SenderOver C I O) (ends : TwoEnds I O) (taken : Option (TwoEnds I O)) → before ≡ s
        → before.ends ≡ Some ends → taken ≡ None →
        (start : SenderOver C I O) × GoesOn opens s start × (start.ends ≡ Some ends)
        × (record before { ends = taken } ≡ without_ends start)
    taken_out s before ends taken same has none =
        let s_has : s.ends ≡ Some ends = sym (ap (λ (d : SenderOver C I O). d.ends) same) ∙ has in (
          s,
          inl (subst IsSome (sym s_has) refl, refl),
          s_has,
          ap (λ e. record before { ends = e }) none ∙ ap (λ (d : SenderOver C I O). without_ends d) same,
        )

    pub opened : (s before : SenderOver C I O) (input : I) (output : O) (reader : Metered I) (writer : Metered O)
        (after : C) (server : ServerState) → before ≡ s → s.ends ≡ None
        → opens before.connect (Some (input, output)) after →
        reader.device ≡ input → reader.calls ≡ 0 → reader.failures ≡ 0 → reader.empty ≡ 0 → writer.device ≡ output
        → writer.calls ≡ 0 → writer.failures ≡ 0 → writer.empty ≡ 0
        → server ≡ record before.sender.server { part = frame.Closed } →
        (start : SenderOver C I O) × Opens opens s start
        × (start.ends ≡ Some (record { input = reader; output = writer }))
        × (record before { sender = record before.sender { server = server }; connect = after }
        ≡ without_ends start)
    opened s before input output reader writer after server same none opens_so r1 r2 r3 r4 w1 w2 w3 w4 lost = (
      record s {
        sender = record s.sender { server = record s.sender.server { part = frame.Closed } };
        connect = after;
        ends = Some (record { input = reader; output = writer });
      },
      (
        input,
        output,
        subst (λ (d : SenderOver C I O). opens d.connect (Some (input, output)) after) same opens_so,
        ap (λ r. record s {
          sender = record s.sender { server = record s.sender.server { part = frame.Closed } };
          connect = after;
          ends = Some (record { input = r; output = writer });
        }) (unused_is reader input r1 r2 r3 r4)
            ∙ ap (λ w. record s {
              sender = record s.sender { server = record s.sender.server { part = frame.Closed } };
              connect = after;
              ends = Some (record { input = unused input; output = w });
            })
            (unused_is writer output w1 w2 w3 w4),
      ),
      refl,
      ap (λ (t : ServerState). record before { sender = record before.sender { server = t }; connect = after }) lost
          ∙ ap (λ (d : SenderOver C I O). record d {
            sender =
                record d.sender { server = record d.sender.server { part = frame.Closed } };
            connect = after;
          }) same
          ∙ ap (λ e. record s {
            sender = record s.sender { server = record s.sender.server { part = frame.Closed } };
            connect = after;
            ends = e;
          }) none,
    )

    -- the sender has none, so a new one was opened
    pub new_one : (s before now : SenderOver C I O) (taken found : Option (TwoEnds I O)) → before ≡ s
        → before.ends ≡ None → taken ≡ None →
        IfSome found (λ ends. (start : SenderOver C I O) × Opens opens (record before { ends = taken }) start
        × (start.ends ≡ Some ends) × (now ≡ without_ends start)) →
        IfSome found (λ ends. (start : SenderOver C I O) × GoesOn opens s start × (start.ends ≡ Some ends)
        × (now ≡ without_ends start))
    new_one s before now taken None same none gone found = tt
    new_one s before now taken (Some ends) same none gone (start, opens_so, has, now_is) =
        let it : record before { ends = taken } ≡ s = ap (λ e. record before { ends = e }) (gone ∙ sym none) ∙ same in (
          start,
          inr (
            sym (ap (λ (d : SenderOver C I O). d.ends) same) ∙ none,
            subst (λ (d : SenderOver C I O). Opens opens d start) it opens_so,
          ),
          has,
          now_is,
        )

    -- the ends that the sender has went back
    pub closed_by : (s before : SenderOver C I O) (ends : TwoEnds I O) (taken : Option (TwoEnds I O)) (input : I)
        (output : O) (after : C) → before ≡ s → before.ends ≡ Some ends → taken ≡ None →
        input ≡ ends.input.device → output ≡ ends.output.device → closes before.connect input output after
        → HangsUp closes s (record before { connect = after; ends = taken })
    closed_by s before ends taken input output after same has gone input_is output_is closed = inr (
      ends,
      sym (ap (λ (d : SenderOver C I O). d.ends) same) ∙ has,
      subst (λ (d : SenderOver C I O). closes d.connect ends.input.device ends.output.device after) same
          (subst (λ o. closes before.connect ends.input.device o after) output_is
          (subst (λ i. closes before.connect i output after) input_is closed)),
      ap (λ e. record before { connect = after; ends = e }) gone
          ∙ ap (λ (d : SenderOver C I O). record d { connect = after; ends = None }) same,
    )
