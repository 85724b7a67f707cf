-- A run, moment after moment.
use Rattle.std.proofs.Common.{◌≡◌, ◌<◌, ℕ, suc, ◌+◌, ◌^◌, Bool, List, refl, subst, arith, inl, inr}
use Rattle.std.specs.Prelude.{Option, Some, None, Ok, Err}
use Rattle.rds_groups.specs.declared.group.Group.{Group}
use Rattle.rds_store.specs.Value.{Store}
use Rattle.carousel.specs.Carousel.{Carousel}
use Rattle.uecp_encoder.specs.State.{EncoderState}
use Rattle.device_serving.specs.Logging.{Log}
use Rattle.uecp_text.specs.declared.run_fault.RunFault.TheVariants as run
use Rattle.uecp_encoder.specs.Keeping.{Kept}
use Rattle.kept_jobs.specs.declared.stop.KeptStop.{KeptStop}
use Rattle.kept_jobs.specs.declared.stop.KeptStop.TheVariants.{Run}
use Rattle.kept_jobs.specs.Stops.{Went}
use Rattle.device_serving.specs.declared.air.moments.Moment.{Moment}
use Rattle.device_serving.specs.declared.air.line.OpenLine.{OpenLine}
use Rattle.device_serving.specs.AirParts.{Comes}
use Rattle.device_serving.specs.AirRun.{OnAir, Connects, DoesNext, GoesOnFor, DoesAll}

-- a connection that came
pub connects_so : {K M I O : Type 0} (closes : M → I → O → M → Type 0) (turns : ℕ) (line line' : Option (OpenLine I O))
    (input : I) (output : O) (e e' : EncoderState Store) (l l' : Log) (m m' : M) (k : K) (c : Carousel) (left : ℕ)
    → Comes closes turns line input output e e' l l' m m' line'
    → Connects closes turns line input output (record {
      encoder = e;
      keeper = k;
      log = l;
      moments = m;
      carousel = c;
      line = line;
      left = left;
    }) (record {
      encoder = e';
      keeper = k;
      log = l';
      moments = m';
      carousel = c;
      line = line';
      left = left;
    }) (Ok tt)
connects_so closes turns None line' input output e e' l l' m m' k c left (encoder, told, still, now) =
    (told, cc, refl)
connects_so closes turns (Some line) line' input output e e' l l' m m' k c left (encoder, told, closed, now) =
    (closed, cc, refl)

module _ {K M I O : Type 0} (most room : ℕ) (leaves : K → Kept Store → Type 0) (is_clean : K → Type 0)
    (saves fails : K → Kept Store → K → Type 0) (waits : M → Bool → Moment I O → M → Type 0)
    (closes : M → I → O → M → Type 0) (sends : M → Group → M → Type 0) (remaining : I → Option (List ℕ))
    (contents : O → Option (List ℕ)) (turns : ℕ) (x : OnAir K M I O) (n : ℕ) (y : OnAir K M I O) where
  abbrev Next : (y z : OnAir K M I O) → Went → Type 0
  Next = DoesNext most room leaves is_clean saves fails waits closes sends remaining contents turns

  abbrev So : (n : ℕ) → (y : OnAir K M I O) → Type 0
  So n y = GoesOnFor most room leaves is_clean saves fails waits closes sends remaining contents turns n x y

  abbrev All : (z : OnAir K M I O) → Went → Type 0
  All z went = DoesAll most room leaves is_clean saves fails waits closes sends remaining contents turns x z went

  pub one_more : So n y → 0 < y.left → (z : OnAir K M I O) → Next y z (Ok tt) → So (n + 1) z
  one_more so some z next =
      let is : suc n ≡ n + 1 = search arith in
      subst (λ k. So k z) is (y, so, some, next)

  pub done : So n y → y.left ≡ 0 → All y (Ok tt)
  done so none = (n, y, so, inl (none, refl, refl))

  pub stops : So n y → 0 < y.left → (z : OnAir K M I O) (stop : KeptStop) → Next y z (Err stop) → All z (Err stop)
  stops so some z stop next = (n, y, so, inr (inl (stop, some, next, refl)))

  pub gives_up : So n y → n ≡ 2 ^ 63 → All y (Err (Run run.Listening))
  gives_up so all = (n, y, so, inr (inr (all, refl, refl)))
