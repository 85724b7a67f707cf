-- What may be left of an encoder is its file after a crash within an event.
use Rattle.std.proofs.Common.{◌≡◌, ℕ, suc, ◌+◌, Bool, true, false, cond, List, [], ◌∷◌, ◌++◌}
use Rattle.std.proofs.Common.{length, take, drop, nat_lt, refl, ap, sym, ◌∙◌, arith, inl, inr}
use Rattle.std.proofs.Common.{length-drop}
use Rattle.std.proofs.Math.Seq.{take-append-add}
use Rattle.std.specs.Prelude.{is_none}
use Rattle.std.specs.Io.{StartsWith}
use Rattle.std.specs.List.{AllByRecursion}
use Rattle.std.proofs.lemmas.Bool.{cases_lt, ltb-false}
use Rattle.std.proofs.lemmas.List.{take_all, take-append-le}
use Rattle.uecp_frame.specs.Frame.{spelling}
use Rattle.uecp_encoder.specs.Target.{Step, Taken}
use Rattle.uecp_encoder.specs.State.{EncoderState, fed}
use Rattle.uecp_encoder.proofs.Public.{in_pieces_of_encoder, fed_none}
use Rattle.uecp_link.specs.Once.{Event, Submit, FrameComes, ReplyComes, NoiseToEncoder, NoiseToServer, EncoderLost}
use Rattle.uecp_link.specs.Once.{ServerLost, EncoderRestart, ServerRestart, Take, refusal_of}
use Rattle.uecp_link.specs.Law.{frame_of}
use Rattle.uecp_encoder.specs.Keeping.{kept_of as encoder_kept}
use Rattle.promises.specs.Station.{Station, station_after, encoder_took, happens_on_disks}
use Rattle.promises.specs.Station.{run_on_disks, cut_off}
use Rattle.promises.specs.CrashLaws.{bytes_to_encoder, stream_of, GoesOnServing, crash_within, crash_after}
use Rattle.promises.specs.CrashLaws.{WhatIsLeftIsACut}
use Rattle.promises.proofs.Fronts.{saved_is}

-- the file after a crash within a frame is what is to be kept once these first bytes were taken
frame_cut_file : {V : Type 0} (step : Step V) (taken : Taken V) (address : ℕ) (s : Station V) (k came : ℕ) (b : Bool)
    → s.encoder_file ≡ encoder_kept s.world.encoder
    → nat_lt came (length (spelling (frame_of address s.world.once k))) ≡ b
    → (cond b (encoder_took step s (take came (spelling (frame_of address s.world.once k))))
    (station_after step taken address s (FrameComes k))).encoder_file
    ≡ encoder_kept (fed step s.world.encoder (take came (spelling (frame_of address s.world.once k))))
frame_cut_file step taken address s k came true is part =
    saved_is step s.world.encoder s.encoder_file (take came (spelling (frame_of address s.world.once k))) is
frame_cut_file step taken address s k came false is whole =
    let bytes : List ℕ = spelling (frame_of address s.world.once k) in
    saved_is step s.world.encoder s.encoder_file bytes is
    ∙ ap (λ (x : List ℕ). encoder_kept (fed step s.world.encoder x))
    (sym (take_all came bytes (ltb-false came (length bytes) whole)))

module _ {V : Type 0} (step : Step V) (taken : Taken V) (address : ℕ) where
  -- the file is what is to be kept of the encoder, which took these bytes
  record Took (s s' : Station V) (bytes : List ℕ) : Type 0 where
    file : s'.encoder_file ≡ encoder_kept s'.world.encoder
    took : s'.world.encoder ≡ fed step s.world.encoder bytes

  took_none : (s : Station V) → s.encoder_file ≡ encoder_kept s.world.encoder → Took s s []
  took_none s is = record { file = is; took = sym (fed_none step s.world.encoder) }

  -- or nothing happened
  took_unless : (s s' : Station V) (bytes : List ℕ) (b : Bool) → Took s s' bytes → Took s s []
      → Took s (cond b s' s) (cond b bytes [])
  took_unless s s' bytes true open_ refused = open_
  took_unless s s' bytes false open_ refused = refused

  or_none : (s s' : Station V) (b : Bool) → Took s s' [] → Took s s [] → Took s (cond b s' s) []
  or_none s s' true open_ refused = open_
  or_none s s' false open_ refused = refused

  -- one event
  took_event : (s : Station V) (event : Event) → GoesOnServing event → s.encoder_file ≡ encoder_kept s.world.encoder
      → Took s (happens_on_disks step taken address s event) (bytes_to_encoder address s.world.once event)
  took_event s (Submit m) on is =
      or_none s (station_after step taken address s (Submit m)) (is_none (refusal_of s.world.once (Submit m)))
      (record { file = is; took = sym (fed_none step s.world.encoder) }) (took_none s is)
  took_event s (FrameComes k) on is =
      let bytes : List ℕ = spelling (frame_of address s.world.once k) in
      took_unless s (station_after step taken address s (FrameComes k)) bytes
      (is_none (refusal_of s.world.once (FrameComes k)))
      (record { file = saved_is step s.world.encoder s.encoder_file bytes is; took = refl }) (took_none s is)
  took_event s (ReplyComes k) on is =
      or_none s (station_after step taken address s (ReplyComes k)) (is_none (refusal_of s.world.once (ReplyComes k)))
      (record { file = is; took = sym (fed_none step s.world.encoder) }) (took_none s is)
  took_event s (NoiseToEncoder x) on is =
      took_unless s (station_after step taken address s (NoiseToEncoder x)) x
      (is_none (refusal_of s.world.once (NoiseToEncoder x)))
      (record { file = saved_is step s.world.encoder s.encoder_file x is; took = refl }) (took_none s is)
  took_event s (NoiseToServer x) on is =
      or_none s (station_after step taken address s (NoiseToServer x))
      (is_none (refusal_of s.world.once (NoiseToServer x)))
      (record { file = is; took = sym (fed_none step s.world.encoder) }) (took_none s is)
  took_event s EncoderLost on is = absurd on
  took_event s ServerLost on is = record { file = is; took = sym (fed_none step s.world.encoder) }
  took_event s EncoderRestart on is = absurd on
  took_event s ServerRestart on is = record { file = is; took = sym (fed_none step s.world.encoder) }
  took_event s Take on is = absurd on

  -- ---- a crash within one

  -- where nothing came
  took_nothing : (s : Station V) (came : ℕ) → s.encoder_file ≡ encoder_kept s.world.encoder
      → s.encoder_file ≡ encoder_kept (fed step s.world.encoder (take came []))
  took_nothing s came is =
      is ∙ ap encoder_kept (sym (fed_none step s.world.encoder)
      ∙ ap (fed step s.world.encoder) (sym (take_all came [] (omega arith))))

  cut_unless : (s s' : Station V) (bytes : List ℕ) (came : ℕ) (b : Bool)
      → s'.encoder_file ≡ encoder_kept (fed step s.world.encoder (take came bytes))
      → s.encoder_file ≡ encoder_kept (fed step s.world.encoder (take came []))
      → (cond b s' s).encoder_file ≡ encoder_kept (fed step s.world.encoder (take came (cond b bytes [])))
  cut_unless s s' bytes came true open_ refused = open_
  cut_unless s s' bytes came false open_ refused = refused

  cut_file : (s : Station V) (event : Event) (came : ℕ) → s.encoder_file ≡ encoder_kept s.world.encoder
      → (run_on_disks step taken address s (crash_within event came ∷ [])).encoder_file
      ≡ encoder_kept (fed step s.world.encoder (take came (bytes_to_encoder address s.world.once event)))
  cut_file s (Submit m) came is = took_nothing s came is
  cut_file s (FrameComes k) came is =
      let bytes : List ℕ = spelling (frame_of address s.world.once k) in
      cut_unless s (cut_off step taken address s (FrameComes k) came true) bytes came
      (is_none (refusal_of s.world.once (FrameComes k)))
      (frame_cut_file step taken address s k came (nat_lt came (length bytes)) is refl) (took_nothing s came is)
  cut_file s (ReplyComes k) came is = took_nothing s came is
  cut_file s (NoiseToEncoder x) came is =
      cut_unless s (cut_off step taken address s (NoiseToEncoder x) came true) x came
      (is_none (refusal_of s.world.once (NoiseToEncoder x)))
      (saved_is step s.world.encoder s.encoder_file (take came x) is) (took_nothing s came is)
  cut_file s (NoiseToServer x) came is = took_nothing s came is
  cut_file s EncoderLost came is = took_nothing s came is
  cut_file s ServerLost came is = took_nothing s came is
  cut_file s EncoderRestart came is = took_nothing s came is
  cut_file s ServerRestart came is = took_nothing s came is
  cut_file s Take came is = took_nothing s came is

  -- one piece more
  fed_on : (e e1 : EncoderState V) (bytes more first : List ℕ) → e1 ≡ fed step e bytes → bytes ++ more ≡ first
      → encoder_kept (fed step e1 more) ≡ encoder_kept (fed step e first)
  fed_on e e1 bytes more first took split =
      ap (λ (d : EncoderState V). encoder_kept (fed step d more)) took
      ∙ (ap encoder_kept (sym (in_pieces_of_encoder step e bytes more).state)
      ∙ ap (λ (x : List ℕ). encoder_kept (fed step e x)) split)

  -- over events, by the first bytes of what they bring that were taken
  crash_file : (s : Station V) (events : List Event) (first : List ℕ) → s.encoder_file ≡ encoder_kept s.world.encoder
      → AllByRecursion GoesOnServing events → StartsWith (stream_of step taken address s events) first
      → (n : ℕ) × (came : ℕ)
      × ((run_on_disks step taken address s (crash_after events n came)).encoder_file
      ≡ encoder_kept (fed step s.world.encoder first))
  crash_file s [] first is on starts =
      let none : first ≡ [] = sym starts ∙ take_all (length first) [] (omega arith) in
      (0, 0, is ∙ ap encoder_kept (sym (fed_none step s.world.encoder) ∙ ap (fed step s.world.encoder) (sym none)))
  crash_file s (event ∷ events) first is on starts =
      let bytes : List ℕ = bytes_to_encoder address s.world.once event in
      let s1 : Station V = happens_on_disks step taken address s event in
      let rest : List ℕ = stream_of step taken address s1 events in
      elim (cases_lt (length bytes) (length first)) [
        | inr within ↦ (
          0,
          length first,
          cut_file s event (length first) is
              ∙ ap (λ (x : List ℕ). encoder_kept (fed step s.world.encoder x))
              (sym (take-append-le (length first) bytes rest within) ∙ starts),
        )
        | inl past ↦
            let more : List ℕ = drop (length bytes) first in
            let long : length first ≡ length bytes + length more =
            omega (arith, length-drop (length bytes) first, past) in
            let split : bytes ++ take (length more) rest ≡ first =
            sym (take-append-add bytes rest (length more))
            ∙ (ap (λ (n : ℕ). take n (bytes ++ rest)) (sym long) ∙ starts) in
            let goes_on : take (length more) rest ≡ more =
            sym (drop_front bytes (take (length more) rest))
            ∙ ap (drop (length bytes)) split in
            let t = took_event s event on.0 is in
            let (n, came, later) = crash_file s1 events more t.file on.1 goes_on in (
              suc n,
              came,
              later
                  ∙ fed_on s.world.encoder s1.world.encoder bytes more first t.took
                  (ap (λ (x : List ℕ). bytes ++ x) (sym goes_on) ∙ split),
            )
      ]
    where
      drop_front : (a b : List ℕ) → drop (length a) (a ++ b) ≡ b
      drop_front [] b = refl
      drop_front (x ∷ a) b = drop_front a b

pub what_is_left_lem : {V : Type 0} (step : Step V) (taken : Taken V) → WhatIsLeftIsACut step taken
what_is_left_lem step taken address s is = record {
  serves = λ events sent left on survives.
      let (n, came, file) = crash_file step taken address s events survives.taken is on survives.beginning in
      (n, came, file ∙ sym survives.state);
  takes = λ left which. elim which [
    | inl before ↦ (false, is ∙ sym before)
    | inr after ↦ (true, sym after)
  ];
}
