-- The first acknowledgement among what some bytes bring.
use Rattle.std.proofs.Common.{◌≡◌, ℕ, ◌-◌, ◌≤◌, List, [], ◌∷◌, ◌++◌, length, take, drop, Option, Some, None, Ok, Err}
use Rattle.std.proofs.Common.{refl, ◌∙◌, ap, sym, subst, arith, length-append, length-drop, append_assoc}
use Rattle.std.proofs.Common.{take-append-drop}
use Rattle.std.specs.Prelude.{filter_map}
use Rattle.std.specs.List.{last_or}
use Rattle.std.specs.Option.{option_or, option_map}
use Rattle.std.proofs.lemmas.List.{take-append-le}
use Rattle.uecp_elements.specs.declared.code.Code.{Code}
use Rattle.uecp_frame.specs.declared.frame.Frame.{Frame}
use Rattle.uecp_frame.specs.Findings.{Finding, OpenPart}
use Rattle.uecp_frame.specs.Beyond.{found_beyond, open_beyond}
use Rattle.uecp_frame.proofs.Public.{in_pieces_lem, new_start_lem}
use Rattle.uecp_encoder.specs.State.{raised}
use Rattle.uecp_link.specs.declared.counts.ServerCounts.{ServerCounts}
use Rattle.uecp_link.specs.Server.{ServerState, Held, waiting, acknowledges, freed, heard_finding, heard_findings}
use Rattle.uecp_link.specs.Server.{heard, all_heard_as, told}
use Rattle.uecp_link.specs.Replying.{code_heard, acknowledgements}
use Rattle.uecp_link.proofs.Waiting.{one_waits, acknowledged_waits, none_acknowledged}
use Rattle.uecp_link.specs.Driving.{frame_sent, first_code, acknowledged_in, IsAcknowledged, IsFreed, StillWaits}

-- a server with other counts and another open part, and one that holds nothing
abbrev but_for : ServerState → ServerCounts → OpenPart → ServerState
but_for s counts o = record s { counts = counts; part = o }

abbrev without : ServerState → ServerState
without s = record s { held = [] }

-- the code of a reply
abbrev code_of : Option (ℕ × Code) → Option Code
code_of o = option_map (λ reply. reply.1) o

-- the same server but for its counts, of which that of the acknowledgements is this
record IsSame (s s' : ServerState) (acknowledged : ℕ) : Type 0 where
  counts : ServerCounts
  is : s' ≡ record s { counts = counts }
  acknowledgements_are : counts.acknowledged ≡ acknowledged

same_later : (s s' : ServerState) (counts : ServerCounts) (n : ℕ) → IsSame (record s { counts = counts }) s' n
    → IsSame s s' n
same_later s s' counts n later = record {
  counts = later.counts;
  is = later.is;
  acknowledgements_are = later.acknowledgements_are;
}

-- ---- among findings

-- what an idle server says holds no code, and it stays idle
idle_says : (s : ServerState) (fs : List Finding) (before : Option Code)
    → last_or before (filter_map code_heard (all_heard_as (without s) fs)) ≡ before
idle_says s [] before = refl
idle_says s (Err fault ∷ fs) before = idle_says (heard_finding s (Err fault)) fs before
idle_says s (Ok f ∷ fs) before =
    ap (λ (k : Option (ℕ × Code)). last_or before (filter_map code_heard
    (told k ∷ all_heard_as (freed (without s) k) fs))) (none_acknowledged (without s) f refl)
    ∙ idle_says (freed s None) fs before

idle_stays : (s : ServerState) (fs : List Finding)
    → IsSame (without s) (heard_findings (without s) fs) s.counts.acknowledged
idle_stays s [] = record { counts = s.counts; is = refl; acknowledgements_are = refl }
idle_stays s (Err fault ∷ fs) = same_later (without s) _ _ _ (idle_stays (heard_finding s (Err fault)) fs)
idle_stays s (Ok f ∷ fs) =
    subst (λ (k : Option (ℕ × Code)). IsSame (without s) (heard_findings (freed (without s) k) fs)
    s.counts.acknowledged) (sym (none_acknowledged (without s) f refl))
    (same_later (without s) _ _ _ (idle_stays (freed s None) fs))

-- counts and open part are no matter of codes
first_but_for : (s : ServerState) (counts : ServerCounts) (o : OpenPart) (fs : List Finding)
    → first_code (but_for s counts o) fs ≡ first_code s fs
first_but_for s counts o [] = refl
first_but_for s counts o (Err fault ∷ fs) = first_but_for s counts o fs
first_but_for s counts o (Ok f ∷ fs) = ap (option_or (code_of (acknowledges s f))) (first_but_for s counts o fs)

-- where at most one message waits, an acknowledgement leaves nothing held
freed_whole : (s : ServerState) (f : Frame) (reply : ℕ × Code) → length (waiting s) ≤ 1 → acknowledges s f ≡ Some reply
    → freed s (Some reply) ≡ record s { held = []; counts = (freed s (Some reply)).counts }
freed_whole s f reply few is =
    ap (λ (hs : List Held). record s { held = hs; counts = (freed s (Some reply)).counts })
    (one_waits reply.0 s.held few (acknowledged_waits s f reply is))

-- and then the last code that the server says is the first that acknowledges
codes_first : (s : ServerState) (fs : List Finding) → length (waiting s) ≤ 1
    → last_or None (filter_map code_heard (all_heard_as s fs)) ≡ first_code s fs
codes_first s [] few = refl
codes_first s (Err fault ∷ fs) few = codes_first (heard_finding s (Err fault)) fs few
    ∙ first_but_for s (heard_finding s (Err fault)).counts s.part fs
codes_first s (Ok f ∷ fs) few = go (acknowledges s f) refl
    (codes_first (freed s None) fs few ∙ first_but_for s (freed s None).counts s.part fs)
  where
    go : (k : Option (ℕ × Code)) → acknowledges s f ≡ k
        → last_or None (filter_map code_heard (all_heard_as (freed s None) fs)) ≡ first_code s fs →
        last_or None (filter_map code_heard (told k ∷ all_heard_as (freed s k) fs))
        ≡ option_or (code_of k) (first_code s fs)
    go None is later = later
    go (Some reply) is later =
        ap (λ (t : ServerState). last_or (Some reply.1) (filter_map code_heard (all_heard_as t fs)))
        (freed_whole s f reply few is)
        ∙ idle_says (record s { counts = (freed s (Some reply)).counts }) fs (Some reply.1)

first_code-append : (s : ServerState) (xs ys : List Finding)
    → first_code s (xs ++ ys) ≡ option_or (first_code s xs) (first_code s ys)
first_code-append s [] ys = refl
first_code-append s (Err fault ∷ xs) ys = first_code-append s xs ys
first_code-append s (Ok f ∷ xs) ys = go (code_of (acknowledges s f)) (first_code-append s xs ys)
  where
    go : (k : Option Code) → first_code s (xs ++ ys) ≡ option_or (first_code s xs) (first_code s ys)
        → option_or k (first_code s (xs ++ ys)) ≡ option_or (option_or k (first_code s xs)) (first_code s ys)
    go None later = later
    go (Some code) later = refl

not_freed : (s : ServerState) (fs : List Finding) → first_code s fs ≡ None
    → IsSame s (heard_findings s fs) s.counts.acknowledged
not_freed s [] none = record { counts = s.counts; is = refl; acknowledgements_are = refl }
not_freed s (Err fault ∷ fs) none =
    let s1 : ServerState = heard_finding s (Err fault) in
    same_later s _ s1.counts _ (not_freed s1 fs (first_but_for s s1.counts s.part fs ∙ none))
not_freed s (Ok f ∷ fs) none = go (acknowledges s f) none
    (λ h. not_freed (freed s None) fs (first_but_for s (freed s None).counts s.part fs ∙ h))
  where
    s1 : ServerState
    s1 = freed s None

    go : (k : Option (ℕ × Code)) → option_or (code_of k) (first_code s fs) ≡ None
        → (first_code s fs ≡ None → IsSame s1 (heard_findings s1 fs) s.counts.acknowledged) →
        IsSame s (heard_findings (freed s k) fs) s.counts.acknowledged
    go None h later = same_later s _ s1.counts _ (later h)
    go (Some reply) h later = absurd (cc)

freed_by : (s : ServerState) (fs : List Finding) (code : Code) → length (waiting s) ≤ 1 → first_code s fs ≡ Some code
    → IsSame (without s) (heard_findings s fs) (raised s.counts.acknowledged)
freed_by s [] code few some = absurd (cc)
freed_by s (Err fault ∷ fs) code few some =
    let s1 : ServerState = heard_finding s (Err fault) in
    same_later (without s) _ s1.counts _ (freed_by s1 fs code few (first_but_for s s1.counts s.part fs ∙ some))
freed_by s (Ok f ∷ fs) code few some = go (acknowledges s f) refl some
    (λ h. freed_by (freed s None) fs code few (first_but_for s (freed s None).counts s.part fs ∙ h))
  where
    s1 : ServerState
    s1 = freed s None

    go : (k : Option (ℕ × Code)) → acknowledges s f ≡ k → option_or (code_of k) (first_code s fs) ≡ Some code
        → (first_code s fs ≡ Some code → IsSame (without s1) (heard_findings s1 fs) (raised s.counts.acknowledged)) →
        IsSame (without s) (heard_findings (freed s k) fs) (raised s.counts.acknowledged)
    go None is h later = same_later (without s) _ s1.counts _ (later h)
    go (Some reply) is h later =
        let s2 : ServerState = record s { counts = (freed s (Some reply)).counts } in
        subst (λ (t : ServerState). IsSame (without s) (heard_findings t fs) (raised s.counts.acknowledged))
        (sym (freed_whole s f reply few is)) (same_later (without s) _ _ _ (idle_stays s2 fs))

or_none : (a b : Option Code) → option_or a b ≡ None → a ≡ None
or_none None b h = refl
or_none (Some code) b h = absurd (cc)

-- ---- among bytes

pub acknowledged_as : (s : ServerState) (bytes : List ℕ) → length (waiting s) ≤ 1
    → last_or None (acknowledgements s bytes) ≡ acknowledged_in s bytes
acknowledged_as s bytes few = codes_first s (found_beyond s.part bytes) few

pub nothing_acknowledged : (s : ServerState) → acknowledged_in s [] ≡ None
nothing_acknowledged s = ap (first_code s) (new_start_lem s.part []).nothing

silent_state : (s : ServerState) (x : List ℕ) → acknowledged_in s x ≡ None
    → IsSame (record s { part = open_beyond s.part x }) (heard s x) s.counts.acknowledged
silent_state s x none =
    let o : OpenPart = open_beyond s.part x in
    not_freed (record s { part = o }) (found_beyond s.part x)
    (first_but_for s s.counts o (found_beyond s.part x) ∙ none)

idle_state : (s : ServerState) (x : List ℕ) (code : Code) → length (waiting s) ≤ 1 → acknowledged_in s x ≡ Some code
    → IsSame (record s { held = []; part = open_beyond s.part x }) (heard s x) (raised s.counts.acknowledged)
idle_state s x code few some =
    let o : OpenPart = open_beyond s.part x in
    freed_by (record s { part = o }) (found_beyond s.part x) code few
    (first_but_for s s.counts o (found_beyond s.part x) ∙ some)

-- what that leaves of the server
all_but_acknowledged : (counts : ServerCounts) (n : ℕ) → counts.acknowledged ≡ n
    → counts ≡ record counts { acknowledged = n }
all_but_acknowledged counts n is = ap (λ (m : ℕ). record counts { acknowledged = m }) is

pub still_waits : (old new : ServerState) (bytes : List ℕ) → new ≡ heard old bytes → acknowledged_in old bytes ≡ None
    → StillWaits old new
still_waits old new bytes state silent =
    let here = silent_state old bytes silent in
    let o : OpenPart = open_beyond old.part bytes in
    subst (StillWaits old) (sym (state ∙ here.is)) (ap (λ (c : ServerCounts). but_for old c o)
    (all_but_acknowledged here.counts old.counts.acknowledged here.acknowledgements_are))

pub is_freed : (old new : ServerState) (bytes : List ℕ) (code : Code) → length (waiting old) ≤ 1 → new ≡ heard old bytes
    → acknowledged_in old bytes ≡ Some code → IsFreed old new
is_freed old new bytes code few state comes =
    let here = idle_state old bytes code few comes in
    let o : OpenPart = open_beyond old.part bytes in
    subst (IsFreed old) (sym (state ∙ here.is)) (ap (λ (c : ServerCounts). but_for (without old) c o)
    (all_but_acknowledged here.counts (raised old.counts.acknowledged) here.acknowledgements_are))

-- a server that holds nothing goes on so
pub idle_hears : (s : ServerState) (bytes : List ℕ) → s.held ≡ [] → (heard s bytes).held ≡ []
idle_hears s bytes idle =
    let s1 : ServerState = record s { part = open_beyond s.part bytes } in
    let fs : List Finding = found_beyond s.part bytes in
    ap (λ (hs : List Held). (heard_findings (record s1 { held = hs }) fs).held) idle
    ∙ ap (λ (t : ServerState). t.held) (idle_stays s1 fs).is

-- the same messages wait
pub same_waiting : (s : ServerState) (x : List ℕ) → acknowledged_in s x ≡ None → waiting (heard s x) ≡ waiting s
same_waiting s x none = ap waiting (silent_state s x none).is

-- no more of them than before
pub few_wait : (s s' : ServerState) (x : List ℕ) → length (waiting s) ≤ 1 → s' ≡ heard s x → acknowledged_in s x ≡ None
    → length (waiting s') ≤ 1
few_wait s s' x few state none =
    omega (
      arith,
      few,
      ap (λ (t : ServerState). length (waiting t)) state,
      ap (λ (ws : List (ℕ × List ℕ)). length ws)
          (same_waiting s x none),
    )

-- the same frame is sent
pub same_frame : (s : ServerState) (x : List ℕ) → acknowledged_in s x ≡ None → frame_sent (heard s x) ≡ frame_sent s
same_frame s x none = ap frame_sent (silent_state s x none).is

-- an earlier part that brings nothing
pub acknowledged_later : (s : ServerState) (x y : List ℕ) → acknowledged_in s x ≡ None
    → acknowledged_in s (x ++ y) ≡ acknowledged_in (heard s x) y
acknowledged_later s x y none =
    let o : OpenPart = open_beyond s.part x in
    let ys : List Finding = found_beyond o y in
    let here = silent_state s x none in
    ap (first_code s) (in_pieces_lem s.part x y).found ∙ first_code-append s (found_beyond s.part x) ys
    ∙ ap (λ k. option_or k (first_code s ys)) none
    ∙ sym (first_but_for s here.counts o ys) ∙ sym (ap (λ d. acknowledged_in d y) here.is)

pub acknowledged_on : (s0 s1 : ServerState) (x y : List ℕ) → s1 ≡ heard s0 x → acknowledged_in s0 x ≡ None
    → acknowledged_in s0 (x ++ y) ≡ acknowledged_in s1 y
acknowledged_on s0 s1 x y state none = acknowledged_later s0 x y none ∙ ap (λ d. acknowledged_in d y) (sym state)

earlier_silent : (s : ServerState) (x y : List ℕ) → acknowledged_in s (x ++ y) ≡ None → acknowledged_in s x ≡ None
earlier_silent s x y none =
    or_none (acknowledged_in s x) (first_code s (found_beyond (open_beyond s.part x) y))
    (sym (ap (first_code s) (in_pieces_lem s.part x y).found
    ∙ first_code-append s (found_beyond s.part x) (found_beyond (open_beyond s.part x) y)) ∙ none)

-- what came before the last 64 bytes brings nothing where what came before the last piece does not
pub acknowledged_last : (s : ServerState) (before last : List ℕ) (code : Code) → acknowledged_in s before ≡ None
    → length last ≤ 64 → acknowledged_in s (before ++ last) ≡ Some code →
    IsAcknowledged s (before ++ last) code
acknowledged_last s before last code none few some =
    let n : ℕ = length (before ++ last) - 64 in
    let within : n ≤ length before = omega (arith, length-append before last, few) in
    let front : take n (before ++ last) ≡ take n before = take-append-le n before last within in
    record {
      comes = some;
      late = ap (acknowledged_in s) front ∙ earlier_silent s (take n before) (drop n before)
          (ap (acknowledged_in s) (take-append-drop n before) ∙ none);
    }

-- the last 64 bytes of a later part are the last 64 of all
pub acknowledged_after : (s : ServerState) (x y : List ℕ) (code : Code) → acknowledged_in s x ≡ None
    → IsAcknowledged (heard s x) y code → IsAcknowledged s (x ++ y) code
acknowledged_after s x y code none there =
    let n : ℕ = length y - 64 in
    let front = take n y in
    let last = drop n y in
    let whole : (x ++ front) ++ last ≡ x ++ y = append_assoc x front last ∙ ap (λ l. x ++ l) (take-append-drop n y) in
    subst (λ bytes. IsAcknowledged s bytes code) whole
    (acknowledged_last s (x ++ front) last code (acknowledged_later s x front none ∙ there.late)
    (omega (arith, length-drop n y))
    (ap (acknowledged_in s) whole ∙ acknowledged_later s x y none ∙ there.comes))
