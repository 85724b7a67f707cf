-- A message that waits goes on to wait, or its acknowledgement comes.
use Rattle.std.proofs.Common.{◌≡◌, ◌⊎◌, ℕ, zero, suc, ◌==◌, ◌||◌, Bool, true, false, not, cond, List, [], ◌∷◌, ◌++◌}
use Rattle.std.proofs.Common.{Option, Some, None, IsSome, Result, Ok, Err, refl, ap, sym, subst, ◌∙◌, inl, inr, eq-eqb}
use Rattle.std.proofs.Common.{arith}
use Rattle.std.specs.Prelude.{filter_map}
use Rattle.std.specs.List.{Contains, filter}
use Rattle.std.specs.Option.{option_or}
use Rattle.std.proofs.lemmas.Bool.{cases_eq, ne_eqb}
use Rattle.std.proofs.lemmas.List.Elements.{Contains-append_left, Contains-append_right, Contains-append_cases}
use Rattle.std.proofs.lemmas.List.Elements.{Contains-push, Contains-push_cases}
use Rattle.uecp_elements.specs.declared.code.Code.{Code}
use Rattle.uecp_frame.specs.Findings.{Finding}
use Rattle.uecp_frame.specs.Beyond.{found_beyond, open_beyond}
use Rattle.uecp_link.specs.declared.driving.DriveFault.{DriveFault}
use Rattle.uecp_link.specs.declared.driving.DriveFault.TheVariants as drive
use Rattle.uecp_link.specs.Server.{ServerState, Held, waiting_among, waiting, marked_at, acknowledges, freed}
use Rattle.uecp_link.specs.Server.{heard_finding, heard_findings, heard, told, all_heard_as}
use Rattle.uecp_link.specs.Window.{mark_in, marks_in, code_under}
use Rattle.uecp_link.proofs.Public.{freed_waits, code_under-append, heard_open}
use Rattle.uecp_net.specs.declared.sender.Outstanding.{Outstanding}
use Rattle.uecp_net.specs.Sending.{SenderOver, Marks, GoesOn, Underway, Calls, SpentCalls, Tried, Attempts, HangsUp}
use Rattle.uecp_net.specs.Sending.{Delivers, reconnecting}
use Rattle.uecp_net.proofs.Breaking.{hung_sender}

-- ---- what bytes bring

-- whether a message has another counter
abbrev unlike : ℕ → ℕ × List ℕ → Bool
unlike counter w = not (w.0 == counter)

marked_others : (counter : ℕ) (hs : List Held) → waiting_among (marked_at counter hs)
    ≡ filter (unlike counter) (waiting_among hs)
marked_others counter [] = refl
marked_others counter (h ∷ hs) = go h.marked (h.counter == counter) refl (marked_others counter hs)
  where
    go : (b same : Bool) → (h.counter == counter) ≡ same
        → waiting_among (marked_at counter hs) ≡ filter (unlike counter) (waiting_among hs)
        → cond (same || b) (waiting_among (marked_at counter hs))
        ((h.counter, h.message) ∷ waiting_among (marked_at counter hs))
        ≡ filter (unlike counter) (cond b (waiting_among hs) ((h.counter, h.message) ∷ waiting_among hs))
    go true true is rest = rest
    go true false is rest = rest
    go false true is rest = rw is rest
    go false false is rest = rw is (ap (λ ws. (h.counter, h.message) ∷ ws) rest)

freed_others : (s : ServerState) (reply : ℕ × Code)
    → waiting (freed s (Some reply)) ≡ filter (unlike reply.0) (waiting s)
freed_others s reply = freed_waits (marked_at reply.0 s.held) ∙ marked_others reply.0 s.held

cons_cases : {X : Type 0} (y : X) (ys : List X) (x : X) → Contains (y ∷ ys) x → (y ≡ x) ⊎ Contains ys x
cons_cases y ys x has = elim (Contains-append_cases (y ∷ []) ys x has) [
  | inl one ↦ elim (Contains-push_cases [] y x one) [
    | inl none ↦ absurd (omega (arith, none.1))
    | inr e ↦ inl e
  ]
  | inr later ↦ inr later
]

-- a test that an element passes keeps it
passes : {X : Type 0} (p : X → Bool) (xs : List X) (x : X) → p x ≡ true → Contains xs x → Contains (filter p xs) x
passes p [] x is has = has
passes p (y ∷ ys) x is has = elim (cons_cases y ys x has) [
  | inl e ↦ first (p y) (ap p e ∙ is) e
  | inr later ↦ more (p y) (passes p ys x is later)
]
  where
    first : (b : Bool) → b ≡ true → y ≡ x → Contains (cond b (y ∷ filter p ys) (filter p ys)) x
    first true so e = Contains-append_left (y ∷ []) (filter p ys) x
        (subst (λ z. Contains (z ∷ []) x) (sym e) (Contains-push [] x))
    first false so e = absurd (cc)

    more : (b : Bool) → Contains (filter p ys) x → Contains (cond b (y ∷ filter p ys) (filter p ys)) x
    more true later = Contains-append_right (y ∷ []) (filter p ys) x later
    more false later = later

kept_on : (w : ℕ × List ℕ) (s : ServerState) (fs : List Finding) → Contains (waiting s) w
    → Contains (waiting (heard_findings s fs)) w
    ⊎ IsSome (code_under w.0 (filter_map mark_in (all_heard_as s fs)))
kept_on w s [] has = inl has
kept_on w s (Err fault ∷ fs) has = kept_on w (heard_finding s (Err fault)) fs has
kept_on w s (Ok f ∷ fs) has = go (acknowledges s f) (λ k. kept_on w (freed s k) fs)
  where
    go : (k : Option (ℕ × Code)) → ((k : Option (ℕ × Code)) → Contains (waiting (freed s k)) w
        → Contains (waiting (heard_findings (freed s k) fs)) w
        ⊎ IsSome (code_under w.0 (filter_map mark_in (all_heard_as (freed s k) fs))))
        → Contains (waiting (heard_findings (freed s k) fs)) w
        ⊎ IsSome (code_under w.0 (filter_map mark_in (told k ∷ all_heard_as (freed s k) fs)))
    go None later = later None has
    go (Some reply) later = elim (cases_eq reply.0 w.0) [
      | inl e ↦ inr (rw (eq-eqb reply.0 w.0 e) refl)
      | inr ne ↦ rw (ne_eqb reply.0 w.0 ne) (later (Some reply)
          (subst (λ ws. Contains ws w) (sym (freed_others s reply))
          (passes (unlike reply.0) (waiting s) w (ap not (ne_eqb w.0 reply.0 (λ e. ne (sym e)))) has)))
    ]

-- ---- from one state of a server, and the marks so far, to another

-- each message that waits goes on to wait, or has a mark; and no mark is lost
pub record Keeps (s s' : ServerState) (m m' : Marks) : Type 0 where
  pub waits : (w : ℕ × List ℕ) → Contains (waiting s) w → Contains (waiting s') w ⊎ IsSome (code_under w.0 m')
  pub marks : (counter : ℕ) → IsSome (code_under counter m) → IsSome (code_under counter m')

some_or : (a b : Option Code) → IsSome a → IsSome (option_or a b)
some_or None b some = absurd (cc)
some_or (Some code) b some = refl

or_some : (a b : Option Code) → IsSome b → IsSome (option_or a b)
or_some None b some = some
or_some (Some code) b some = refl

pub keeps_same : (s s' : ServerState) (m m' : Marks) → waiting s' ≡ waiting s → m' ≡ m → Keeps s s' m m'
keeps_same s s' m m' same marks = record {
  waits = λ w has. inl (subst (λ ws. Contains ws w) (sym same) has);
  marks = λ counter some. subst (λ l. IsSome (code_under counter l)) (sym marks) some;
}

pub keeps_on : (a b c : ServerState) (m n o : Marks) → Keeps a b m n → Keeps b c n o → Keeps a c m o
keeps_on a b c m n o first second = record {
  waits = λ w has. elim (first.waits w has) [
    | inl still ↦ second.waits w still
    | inr some ↦ inr (second.marks w.0 some)
  ];
  marks = λ counter some. second.marks counter (first.marks counter some);
}

keeps_heard : (s s' : ServerState) (m m' : Marks) (read : List ℕ) → s' ≡ heard s read → m' ≡ m ++ marks_in s read
    → Keeps s s' m m'
keeps_heard s s' m m' read state marked =
    let same : waiting s' ≡ waiting (heard_findings s (found_beyond s.part read)) =
    ap waiting state ∙ ap waiting (heard_open s (open_beyond s.part read) (found_beyond s.part read)) in
    let under : (counter : ℕ) → code_under counter m'
    ≡ option_or (code_under counter m) (code_under counter (marks_in s read)) =
    λ counter. ap (code_under counter) marked ∙ code_under-append counter m (marks_in s read) in
    record {
      waits = λ w has. elim (kept_on w s (found_beyond s.part read) has) [
        | inl still ↦ inl (subst (λ ws. Contains ws w) (sym same) still)
        | inr some ↦ inr (subst IsSome (sym (under w.0)) (or_some (code_under w.0 m) _ some))
      ];
      marks = λ counter some. subst IsSome (sym (under counter))
          (some_or _ (code_under counter (marks_in s read)) some);
    }

module _ {C I O : Type 0} (opens : C → Option (I × O) → C → Type 0) (closes : C → I → O → C → Type 0)
    (remaining : I → Option (List ℕ)) (contents : O → Option (List ℕ)) where
  abbrev KeepsIn : Underway I O → Underway I O → Type 0
  KeepsIn u u' = Keeps u.server u'.server u.marks u'.marks

  spent_keeps : (turns calls : ℕ) (u u' : Underway I O) → SpentCalls remaining contents turns calls u u' → KeepsIn u u'
  spent_keeps turns zero u u' same = keeps_same u.server u'.server u.marks u'.marks
      (ap (λ (d : Underway I O). waiting d.server) same) (ap (λ (d : Underway I O). d.marks) same)
  spent_keeps turns (suc n) u u' (between, spent, call) =
      keeps_on u.server between.server u'.server u.marks between.marks u'.marks
      (spent_keeps turns n u between spent)
      (keeps_heard between.server u'.server between.marks u'.marks call.read call.state call.marked)

  failed_keeps : (turns before : ℕ) (u between u' : Underway I O) (fault : DriveFault)
      → SpentCalls remaining contents turns before u between
      → Calls remaining contents turns between u' (Err fault) → KeepsIn u u'
  failed_keeps turns before u between u' fault spent call =
      keeps_on u.server between.server u'.server u.marks between.marks u'.marks
      (spent_keeps turns before u between spent)
      (keeps_heard between.server u'.server between.marks u'.marks call.read call.state call.marked)

  tried_keeps : (tries turns : ℕ) (u u' : Underway I O) (result : Result ℕ DriveFault)
      → Tried remaining contents tries turns u u' result → KeepsIn u u'
  tried_keeps tries turns u u' (Ok n) (before, between, is, most, spent, call) =
      keeps_on u.server between.server u'.server u.marks between.marks u'.marks
      (spent_keeps turns before u between spent)
      (keeps_heard between.server u'.server between.marks u'.marks call.read call.state call.marked)
  tried_keeps tries turns u u' (Err drive.TriesSpent) spent = spent_keeps turns tries u u' spent
  tried_keeps tries turns u u' (Err (drive.WriteFailed w)) (before, between, few, spent, call) =
      failed_keeps turns before u between u' (drive.WriteFailed w) spent call
  tried_keeps tries turns u u' (Err drive.Closed) (before, between, few, spent, call) =
      failed_keeps turns before u between u' drive.Closed spent call

  abbrev KeepsOver : SenderOver C I O → SenderOver C I O → Marks → Marks → Type 0
  KeepsOver s s' m m' = Keeps s.sender.server s'.sender.server m m'

  start_waits : (s start : SenderOver C I O) → GoesOn opens s start
      → waiting start.sender.server ≡ waiting s.sender.server
  start_waits s start (inl (some, same)) = ap (λ (d : SenderOver C I O). waiting d.sender.server) same
  start_waits s start (inr (none, (input, output, opened, is))) =
      ap (λ (d : SenderOver C I O). waiting d.sender.server) is

  attempts_keep : (s s' : SenderOver C I O) (m m' : Marks) (result : Result ℕ DriveFault)
      → Attempts opens remaining contents s s' m m' result → KeepsOver s s' m m'
  attempts_keep s s' m m' result attempts =
      keeps_on s.sender.server attempts.start.sender.server s'.sender.server m m m'
      (keeps_same s.sender.server attempts.start.sender.server m m (start_waits s attempts.start attempts.goes_on) refl)
      (tried_keeps attempts.start.sender.tries attempts.start.sender.turns _ _ result attempts.went)

  hung_waits : (s s' : SenderOver C I O) → HangsUp closes s s' → waiting s'.sender.server ≡ waiting s.sender.server
  hung_waits s s' hangs_up = ap (λ d. waiting d.server) (hung_sender remaining contents opens closes s s' hangs_up)

  pub delivers_keep : (ended : ℕ) (before : Outstanding) (s s' : SenderOver C I O) (m m' : Marks)
      (result : Result ℕ Outstanding) → Delivers opens closes remaining contents ended before s s' m m' result
      → KeepsOver s s' m m'
  delivers_keep (suc n) before s s' m m' result (fault, last, next, some, attempts, hangs_up, left, more) =
      keeps_on s.sender.server last.sender.server s'.sender.server m some m'
      (attempts_keep s last m some (Err fault) attempts)
      (keeps_on last.sender.server next.sender.server s'.sender.server some some m'
      (keeps_same last.sender.server next.sender.server some some (hung_waits last next hangs_up) refl)
      (delivers_keep n _ (reconnecting next) s' some m' result more))
  delivers_keep zero before s s' m m' (Ok calls) attempts = attempts_keep s s' m m' (Ok calls) attempts
  delivers_keep zero before s s' m m' (Err reason) (inl (none, same, is)) =
      keeps_same s.sender.server s'.sender.server m m'
      (ap (λ (d : SenderOver C I O). waiting d.sender.server) none.2) same
  delivers_keep zero before s s' m m' (Err reason) (inr (fault, last, attempts, hangs_up, left, is)) =
      keeps_on s.sender.server last.sender.server s'.sender.server m m' m'
      (attempts_keep s last m m' (Err fault) attempts)
      (keeps_same last.sender.server s'.sender.server m' m' (hung_waits last s' hangs_up) refl)
