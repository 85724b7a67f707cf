-- Where nothing is lost any more, every message is acknowledged, whatever crashed before.
use Rattle.std.proofs.Common.{◌≡◌, ℕ, Bool, true, false, cond, List, [], ◌∷◌, ◌++◌, length, map, refl, ap, sym, subst}
use Rattle.std.proofs.Common.{◌∙◌}
use Rattle.std.specs.Prelude.{is_none}
use Rattle.uecp_encoder.specs.Target.{Step, Taken}
use Rattle.uecp_encoder.specs.State.{EncoderState, opening}
use Rattle.uecp_link.specs.Once.{FrameComes, ReplyComes, missing, refusal_of}
use Rattle.uecp_link.specs.Law.{World, run}
use Rattle.uecp_link.specs.Using.{all_come, IsDone}
use Rattle.uecp_link.proofs.Public.{ready_at_first, acknowledged_where_nothing_is_lost}
use Rattle.promises.specs.Station.{Station, Happens, station_after, after_disk_event, run_on_disks}
use Rattle.promises.specs.Station.{station_from}
use Rattle.promises.specs.CrashLaws.{AcknowledgedAfterAnyCrash}
use Rattle.promises.proofs.Backing.{backed}

module _ {V : Type 0} (step : Step V) (taken : Taken V) (address : ℕ) where
  world_unless : (s s' : Station V) (b : Bool) → (cond b s' s).world ≡ cond b s'.world s.world
  world_unless s s' true = refl
  world_unless s s' false = refl

  replies_on : (s : Station V) (ks : List ℕ)
      → (run_on_disks step taken address s (map Happens (map ReplyComes ks))).world
      ≡ run step taken address s.world (map ReplyComes ks)
  replies_on s [] = refl
  replies_on s (k ∷ ks) =
      replies_on (after_disk_event step taken address s (Happens (ReplyComes k))) ks
      ∙ ap (λ (w : World V). run step taken address w (map ReplyComes ks))
      (world_unless s (station_after step taken address s (ReplyComes k))
      (is_none (refusal_of s.world.once (ReplyComes k))))

  both_on : (s : Station V) (ks js : List ℕ)
      → (run_on_disks step taken address s (map Happens (map FrameComes ks ++ map ReplyComes js))).world
      ≡ run step taken address s.world (map FrameComes ks ++ map ReplyComes js)
  both_on s [] js = replies_on s js
  both_on s (k ∷ ks) js =
      both_on (after_disk_event step taken address s (Happens (FrameComes k))) ks js
      ∙ ap (λ (w : World V). run step taken address w (map FrameComes ks ++ map ReplyComes js))
      (world_unless s (station_after step taken address s (FrameComes k))
      (is_none (refusal_of s.world.once (FrameComes k))))

pub acknowledged_after_any_crash_lem : {V : Type 0} (step : Step V) (taken : Taken V)
    → AcknowledgedAfterAnyCrash step taken
acknowledged_after_any_crash_lem {V} step taken address value before events fit =
    let e : EncoderState V = opening address value in
    let s : Station V = run_on_disks step taken address (station_from e before) events in
    let h = backed step taken e before ready_at_first refl events fit in
    let ks : List ℕ = missing s.world.once.acknowledged (length s.world.once.sent) in
    let done : IsDone (run step taken address s.world (all_come ks)) =
    subst (λ (w : World V). IsDone (run step taken address w
    (all_come (missing w.once.acknowledged (length w.once.sent)))))
    h.now.same (acknowledged_where_nothing_is_lost step taken address value h.now.events h.now.fits) in
    subst (λ (w : World V). IsDone w) (sym (both_on step taken address s ks ks)) done
