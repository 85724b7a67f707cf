-- What is backed by a line holds the headline.
use mathlib.Core.Path.{fun_ext}
use Rattle.std.proofs.Common.{◌≡◌, ℕ, Bool, List, [], ◌∷◌, length, map, nat_lt, refl, ap, sym}
use Rattle.std.proofs.Common.{◌∙◌, arith, inl, inr}
use Rattle.std.specs.Prelude.{is_some, slice_get}
use Rattle.std.proofs.lemmas.Bool.{cases_order, lt-ltb, le-ltb}
use Rattle.std.proofs.lemmas.Option.{slice_get-get_or, slice_get_past}
use Rattle.uecp_elements.specs.declared.code.Code.{Code}
use Rattle.uecp_elements.specs.declared.code.Code.TheVariants.{Applied}
use Rattle.uecp_frame.specs.Frame.{spelling}
use Rattle.uecp_frame.specs.Findings.{Closed}
use Rattle.uecp_encoder.specs.Target.{Step, Taken}
use Rattle.uecp_encoder.specs.State.{EncoderState}
use Rattle.uecp_link.specs.Counters.{counter_of}
use Rattle.uecp_link.specs.Frames.{frame_under}
use Rattle.uecp_link.specs.Server.{waiting_among, waiting, frames_waiting}
use Rattle.uecp_link.specs.Once.{message_at, missing}
use Rattle.uecp_link.specs.History.{Act, numbers_below}
use Rattle.uecp_link.specs.Fold.{codes_after}
use Rattle.uecp_link.specs.Law.{World}
use Rattle.uecp_link.specs.Kept.{IsReady}
use Rattle.uecp_link.specs.Holds.{LineState, is_acknowledged, Holds}
use Rattle.uecp_link.specs.Headline.{IsHeadline}
use Rattle.uecp_link.proofs.Public.{sent_le, acknowledged_are, Lawful, waiting_is, same_bound}
use Rattle.promises.specs.Station.{Station, run_on_disks, station_from}
use Rattle.promises.specs.Acts.{history_on_disks}
use Rattle.promises.specs.CrashLaws.{CrashesAreLineEvents, FilesHold, HeadlineWithDisks}
use Rattle.promises.proofs.Reaching.{lawful_of, with_server}
use Rattle.promises.proofs.Backing.{Backed, shown, backed}

-- a list has an entry at each place below its length
has_entry : (cs : List Code) (k : ℕ) → is_some (slice_get cs k) ≡ nat_lt k (length cs)
has_entry cs k =
    elim (cases_order k (length cs)) [
      | inl e ↦ ap is_some (slice_get_past cs k (omega arith)) ∙ sym (le-ltb k (length cs) (omega arith))
      | inr other ↦ elim other [
        | inl l ↦ ap is_some (slice_get-get_or cs k Applied l) ∙ sym (lt-ltb k (length cs) l)
        | inr l ↦ ap is_some (slice_get_past cs k (omega arith)) ∙ sym (le-ltb k (length cs) (omega arith))
      ]
    ]

-- the frames of numbers, each by its counter and its message
frames_of : (a : ℕ) (sent : List (List ℕ)) (ks : List ℕ)
    → map (λ w. spelling (frame_under a w)) (map (λ k. (counter_of k, message_at sent k)) ks)
    ≡ map (λ k. spelling (frame_under a (counter_of k, message_at sent k))) ks
frames_of a sent [] = refl
frames_of a sent (k ∷ ks) = ap (λ fs. spelling (frame_under a (counter_of k, message_at sent k)) ∷ fs)
    (frames_of a sent ks)

module _ {V : Type 0} (step : Step V) (taken : Taken V) (address : ℕ) (opening : V) (w : World V) (acts : List Act)
    (law : Lawful step taken address opening w acts) where
  -- the line that shows what the two ends and the once-machine have come to
  abbrev pub line_of : LineState V
  line_of = record {
    encoder = w.encoder;
    server = w.server;
    sent = w.once.sent;
    codes = codes_after step taken w.once.sent opening acts;
  }

  acknowledged_on : (k : ℕ) → is_acknowledged line_of k ≡ w.once.acknowledged k
  acknowledged_on k = acknowledged_are address w.encoder w.server w.once law.p law.q law.kept k

  pub holds_on : Holds line_of w.once
  holds_on = record {
    sent = refl;
    value = law.kept.encoder.value;
    codes = λ k. sym (law.folded_is.codes k);
    acknowledged = acknowledged_on;
    open_parts = law.hears;
  }

  applied_are : length line_of.codes ≡ law.p
  applied_are = same_bound (length line_of.codes) law.p
      (λ k. sym (has_entry line_of.codes k) ∙ (ap is_some (sym (law.folded_is.codes k)) ∙ law.kept.applied k))

  lent : frames_waiting w.server ≡ map (λ k. spelling (frame_under address (counter_of k, message_at w.once.sent k)))
      (missing (is_acknowledged line_of) (length w.once.sent))
  lent =
      ap (λ (a : ℕ). map (λ m. spelling (frame_under a m)) (waiting w.server)) law.kept.server.address
      ∙ ap (map (λ m. spelling (frame_under address m)))
      (waiting_is address w.encoder w.server w.once law.p law.q law.kept)
      ∙ frames_of address w.once.sent (missing w.once.acknowledged (length w.once.sent))
      ∙ ap (λ (f : ℕ → Bool). map (λ k. spelling (frame_under address (counter_of k, message_at w.once.sent k)))
      (missing f (length w.once.sent))) (sym (fun_ext acknowledged_on))

  pub headline_on : IsHeadline step taken address opening acts line_of
  headline_on =
      let n = sent_le address w.encoder w.server w.once law.p law.q law.kept in
      record {
        order = law.folded_is.order ∙ ap numbers_below (sym applied_are);
        store = law.kept.encoder.value ∙ law.folded_is.value;
        codes = refl;
        applied = (omega (arith, applied_are, law.kept.p_le), omega (arith, applied_are, n.1, law.kept.q_le));
        acknowledged = λ k acked.
            let l = law.kept.within k (sym (acknowledged_on k) ∙ acked) in omega (arith, l, applied_are);
        outstanding = lent;
      }

-- what its files hold
pub files_hold : {V : Type 0} (step : Step V) (taken : Taken V) (e : EncoderState V) (before : ℕ)
    (ready : IsReady e.ring) (shut : e.part ≡ Closed) (s : Station V) (acts : List Act)
    → Backed step taken e before ready shut s acts
    → FilesHold before s
files_hold {V} step taken e before ready shut s acts h =
    let file : World V = with_server s.world h.server h.acknowledged h.noise in
    let law = lawful_of step taken e ready shut file acts h.saved in
    let shows = shown step taken e before ready shut s acts h in
    record {
      encoder = h.encoder_file_is_kept;
      outstanding = ap waiting_among h.held_is
          ∙ waiting_is e.address file.encoder file.server file.once law.p law.q law.kept
          ∙ ap (λ (f : ℕ → Bool). map (λ k. (counter_of k, message_at s.world.once.sent k))
          (missing f (length s.world.once.sent))) (sym shows);
      told = λ k t. ap (λ (f : ℕ → Bool). f k) shows ∙ h.told_saved k t;
      taken = h.input;
    }

pub crashes_lem : {V : Type 0} (step : Step V) (taken : Taken V) → CrashesAreLineEvents step taken
crashes_lem step taken e before ready shut events fit =
    let now = (backed step taken e before ready shut events fit).now in
    record { events = now.events; fits = now.fits; same = now.same; acts_are = now.acts_are }

pub headline_lem : {V : Type 0} (step : Step V) (taken : Taken V) → HeadlineWithDisks step taken
headline_lem {V} step taken e before ready shut events fit =
    let s : Station V = run_on_disks step taken e.address (station_from e before) events in
    let acts : List Act = history_on_disks step taken e.address (station_from e before) events in
    let h = backed step taken e before ready shut events fit in
    let law = lawful_of step taken e ready shut s.world acts h.now in
    let holds = holds_on step taken e.address e.value s.world acts law in
    record {
      line = line_of step taken e.address e.value s.world acts law;
      encoder = refl;
      server = refl;
      holds = holds;
      headline = headline_on step taken e.address e.value s.world acts law;
      told = λ k t. holds.acknowledged k ∙ h.told_now k t;
      code = λ k code is. holds.codes k ∙ h.told_own k code is;
      files = files_hold step taken e before ready shut s acts h;
    }
