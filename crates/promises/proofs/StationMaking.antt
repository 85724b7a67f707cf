-- A station that was acknowledged is made.
use Rattle.std.proofs.Common.{◌≡◌, ℕ, zero, suc, ◌+◌, ◌<◌, ◌≤◌, Bool, true, List, [], ◌∷◌, ◌++◌, length, map}
use Rattle.std.proofs.Common.{Option, Some, None, refl, ap, sym, subst, ◌∙◌, arith, inl, inr, if◌then◌else◌}
use Rattle.std.specs.Prelude.{slice_get}
use Rattle.std.proofs.lemmas.Bool.{cases_lt}
use Rattle.std.proofs.lemmas.Option.{slice_get_past}
use Rattle.uecp_elements.specs.declared.code.Code.{Code}
use Rattle.uecp_elements.specs.declared.code.Code.TheVariants.{Applied}
use Rattle.uecp_frame.specs.Frame.{spelling}
use Rattle.uecp_frame.specs.Findings.{Closed}
use Rattle.rds_store.specs.Value.{Store}
use Rattle.rds_store.specs.Step.{step as store_step, group_taken}
use Rattle.uecp_encoder.specs.Target.{Step, Taken}
use Rattle.rds_store.proofs.Public.{empty_message_changes_nothing}
use Rattle.uecp_encoder.specs.State.{EncoderState, opening, fed}
use Rattle.uecp_encoder.specs.Laws.{after_happenings}
use Rattle.uecp_link.specs.Joining.{HasJoinedWith}
use Rattle.uecp_link.proofs.Public.{joins_over_a_line_lem, holds_from, headline_from}
use Rattle.uecp_link.specs.Counters.{counter_of}
use Rattle.uecp_link.specs.Frames.{frame_under}
use Rattle.uecp_link.specs.Server.{frames_waiting}
use Rattle.uecp_link.specs.Once.{Event, message_at, missing, at_first}
use Rattle.uecp_link.specs.History.{Act, messages_in, numbers_below}
use Rattle.uecp_link.specs.Fold.{value_after, codes_after}
use Rattle.uecp_link.specs.Kept.{IsReady}
use Rattle.uecp_link.specs.Holds.{LineState, Outcome, Holds, is_acknowledged, history_by, line_from}
use Rattle.uecp_link.specs.Headline.{IsHeadline}
use Rattle.store_phrases.specs.Laws.{messages_of, told, AreAlike, AppliesEach}
use Rattle.store_phrases.proofs.Public.{store_said}
use Rattle.rds_text.specs.declared.programme_type.Region.TheVariants.{Europe}
use Rattle.promises.specs.StationTold.{IsAcknowledged}
use Rattle.promises.specs.Made.{takes_in, MakesEach, IsMade, IsButTaken, IsTold}
use Rattle.promises.specs.StationLaws.{StationMade, SaidStationMade, JoinedThenTold}
use Rattle.promises.proofs.StationTelling.{IsToldOf, told_is, holds_over}
use Rattle.promises.proofs.StationTurns.{AreApplied, said_in, all_said, untaken}
use Rattle.promises.proofs.Taking.{history_but, none_taken}

some_same : (a b : Code) → ◌≡◌ {A = Option Code} (Some a) (Some b) → a ≡ b
some_same a b h = cc

none_some : (c : Code) → ◌≡◌ {A = Option Code} None (Some c) → ⊥
none_some c h = cc

all_applied : (cs : List Code) → ((k : ℕ) → k < length cs → slice_get cs k ≡ Some Applied) → AreApplied cs
all_applied [] h = tt
all_applied (c ∷ cs) h =
    (some_same c Applied (h 0 (omega arith)), all_applied cs (λ k l. h (suc k) (omega (arith, l))))

-- so many codes are there, where each of these numbers has one
as_many : (cs : List Code) (n : ℕ) → ((k : ℕ) → k < n → slice_get cs k ≡ Some Applied) → n ≤ length cs
as_many cs zero h = omega arith
as_many cs (suc n) h =
    elim (cases_lt n (length cs)) [
      | inl l ↦ omega (arith, l)
      | inr g ↦ absurd (none_some Applied (sym (slice_get_past cs n g) ∙ h n (omega arith)))
    ]

none_missing : (set : ℕ → Bool) (n : ℕ) → ((k : ℕ) → k < n → set k ≡ true) → missing set n ≡ []
none_missing set zero h = refl
none_missing set (suc n) h =
    ap (λ (ks : List ℕ). ks ++ (if set n then [] else n ∷ [])) (none_missing set n (λ k l. h k (omega (arith, l))))
    ∙ ap (λ (b : Bool). if b then [] else n ∷ []) (h n (omega arith))

module _ {V : Type 0} (step : Step V) (taken : Taken V) (e : EncoderState V) (ready : IsReady e.ring)
    (shut : e.part ≡ Closed) (station : List (List ℕ)) (events : List Event) (outcomes : List Outcome)
    (line : LineState V) (a : IsAcknowledged step taken e station events outcomes line) where
  abbrev acts : List Act
  acts = history_by events outcomes

  headline : IsHeadline step taken e.address e.value acts line
  headline = headline_from step taken e ready shut events outcomes line a.once a.plays

  holds : Holds line a.once
  holds = holds_over step taken events outcomes (line_from e) line (at_first e.value) a.once a.plays
      (holds_from e shut)

  each_told : (k : ℕ) → k < length station → IsToldOf a.once k Applied
  each_told k l = told_is step taken events outcomes (line_from e) line (at_first e.value) a.once a.plays k Applied
      (a.told k l)

  each_code : (k : ℕ) → k < length station → slice_get line.codes k ≡ Some Applied
  each_code k l = holds.codes k ∙ (each_told k l).0

  as_sent : length line.sent ≡ length station
  as_sent = ap length a.sent

  applied_are : length line.codes ≡ length station
  applied_are =
      let more : length station ≤ length line.codes = as_many line.codes (length station) each_code in
      omega (arith, more, headline.applied.0, as_sent)

  codes_are : line.codes ≡ codes_after step taken station e.value acts
  codes_are = headline.codes ∙ ap (λ (ms : List (List ℕ)). codes_after step taken ms e.value acts) a.sent

  order_is : messages_in acts ≡ numbers_below (length station)
  order_is = headline.order ∙ ap numbers_below applied_are

  store_is : line.encoder.value ≡ value_after step taken station e.value acts
  store_is = headline.store ∙ ap (λ (ms : List (List ℕ)). value_after step taken ms e.value acts) a.sent

  codes_applied : AreApplied (codes_after step taken station e.value acts)
  codes_applied = subst AreApplied codes_are
      (all_applied line.codes (λ k l. each_code k (omega (arith, l, applied_are))))

  one_by_one : takes_in acts ≡ 0 → MakesEach step e.value station line.encoder.value
  one_by_one none =
      subst (λ (v : V). MakesEach step e.value station v) (sym store_is)
      (subst (λ (ms : List (List ℕ)). MakesEach step e.value ms (value_after step taken station e.value acts))
      (all_said station acts order_is) (untaken step taken station e.value acts none codes_applied))

  nothing_waits : frames_waiting line.server ≡ []
  nothing_waits =
      headline.outstanding
      ∙ ap (map (λ k. spelling (frame_under e.address (counter_of k, message_at line.sent k))))
      (none_missing (is_acknowledged line) (length line.sent)
      (λ k l. holds.acknowledged k ∙ (each_told k (omega (arith, l, as_sent))).1))

  pub made : IsMade step taken e.value station acts line
  made = record {
    order = order_is;
    store = store_is;
    codes = codes_applied;
    untaken = one_by_one;
    idle = nothing_waits;
  }

pub station_made_lem : {V : Type 0} (step : Step V) (taken : Taken V) → StationMade step taken
station_made_lem step taken e ready shut station events outcomes line a =
    made step taken e ready shut station events outcomes line a

-- a store that is said
pub but_taken : (v : Store) (e : EncoderState Store) → IsReady e.ring → e.part ≡ Closed → AreAlike v e.value
    → (events : List Event) (outcomes : List Outcome) (line : LineState Store)
    → IsAcknowledged store_step group_taken e (messages_of v) events outcomes line
    → IsButTaken (takes_in (history_by events outcomes)) (told v e.value) line.encoder.value
but_taken v e ready shut alike events outcomes line a =
    let m = made store_step group_taken e ready shut (messages_of v) events outcomes line a in
    let acts : List Act = history_by events outcomes in
    let puts : AppliesEach e.value (said_in (messages_of v) acts) (told v e.value) =
    subst (λ (ms : List (List ℕ)). AppliesEach e.value ms (told v e.value))
    (sym (all_said (messages_of v) acts m.order)) (store_said Europe v e.value alike).1 in
    subst (λ (x : Store). IsButTaken (takes_in acts) (told v e.value) x) (sym m.store)
    (subst (λ (n : ℕ). IsButTaken n (told v e.value) (value_after store_step group_taken (messages_of v) e.value acts))
    (let none : 0 + takes_in acts ≡ takes_in acts = omega arith in none)
    (history_but (messages_of v) 0 e.value e.value (told v e.value) acts
    (record { gone = []; groups = refl; few = omega arith; others = refl }) puts m.codes))

pub said_station_made_lem : SaidStationMade
said_station_made_lem v e ready shut alike events outcomes line a =
    let but = but_taken v e ready shut alike events outcomes line a in
    record {
      taken = but;
      whole = none_taken (takes_in (history_by events outcomes)) (told v e.value) line.encoder.value but;
    }

-- and over a connection
pub joined_then_told_lem : JoinedThenTold
joined_then_told_lem address behind first before got coming read unread shut most all said brings v alike events
    outcomes line a =
    let e : EncoderState Store = after_happenings store_step (opening address first) before in
    let j : HasJoinedWith (fed store_step e got) e.value =
    (joins_over_a_line_lem store_step (λ w. ap (λ (r : Store × Code). r.0) (empty_message_changes_nothing w)) address
    behind first before got coming read unread shut most all said brings).encoder in
    subst (λ (w : Store). IsTold v w (takes_in (history_by events outcomes)) line.encoder.value) j.value_is
    (said_station_made_lem v (fed store_step e got) (inr j.kept) j.closed (subst (AreAlike v) (sym j.value_is) alike)
    events outcomes line a)
