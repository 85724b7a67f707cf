-- What a crash leaves after a run of connections, and what status it has.
use Rattle.std.proofs.Common.{◌≡◌, ℕ, zero, suc, Bool, true, false, List, Option, Some, None, Ok, Err, refl, sym, ap}
use Rattle.std.proofs.Common.{subst, ◌∙◌, inl, inr}
use Rattle.rds_store.specs.Value.{Store}
use Rattle.rds_store.specs.Step.{step as store_step}
use Rattle.uecp_encoder.specs.Target.{Step}
use Rattle.uecp_text.specs.declared.run_fault.RunFault.TheVariants as run
use Rattle.uecp_encoder.specs.declared.serving.KeptFault.TheVariants as kept
use Rattle.uecp_encoder.specs.Keeping.{Kept, kept_of, Settled}
use Rattle.uecp_encoder.specs.ServingWith.{Ended}
use Rattle.kept_jobs.specs.declared.stop.KeptStop.{KeptStop}
use Rattle.kept_jobs.specs.declared.stop.KeptStop.TheVariants.{Run, StateFailed}
use Rattle.kept_jobs.specs.Stops.{Went, stop_status}
use Rattle.device_serving.specs.DeviceRun.{ended_so}
use Rattle.device_serving.specs.declared.log_lines.LogFault.{LogFault}
use Rattle.device_serving.specs.declared.log_lines.LogFault.TheVariants.{OutOfMemory, Writing}
use Rattle.device_serving.specs.DeviceRun.{Standing, ServesOne, KeepsOn, ServesAndTells, ServesNext, ServesFrom}
use Rattle.device_serving.specs.DeviceRun.{OutlivesRun, TellsStore, RunsDevice, tells_first, went, went_after, stop_of}
use Rattle.device_serving.specs.Logging.{Log}
use Rattle.kept_jobs.proofs.Public.{goes, goes_not_stopped, same_status, same_stop, stopped}

log_status : (fault : LogFault) → stop_status (stop_of fault) ≡ 3
log_status OutOfMemory = refl
log_status Writing = refl

ended_status : (ended : Ended) (stop : KeptStop) → stopped stop ≡ ended_so ended → stop_status stop ≡ 3
ended_status (Ok served) stop is = absurd (goes_not_stopped stop (sym is))
ended_status (Err (kept.Serve fault)) stop is = absurd (goes_not_stopped stop (sym is))
ended_status (Err kept.StateFailed) stop is = same_status stop StateFailed refl is

pub after_status : (fault : Option LogFault) (ended : Ended) (stop : KeptStop) → stopped stop ≡ went_after fault ended
    → stop_status stop ≡ 3
after_status None ended stop is = ended_status ended stop is
after_status (Some fault) ended stop is = same_status stop (stop_of fault) (log_status fault) is

went_status : (fault : Option LogFault) (stop : KeptStop) → stopped stop ≡ went fault → stop_status stop ≡ 3
went_status None stop is = absurd (goes_not_stopped stop (sym is))
went_status (Some fault) stop is = same_status stop (stop_of fault) (log_status fault) is

-- a run does not go on after a save that failed
pub state_stops : (fault : Option LogFault) → goes ≡ went_after fault (Err kept.StateFailed) → ⊥
state_stops None is = goes_not_stopped StateFailed is
state_stops (Some fault) is = goes_not_stopped (stop_of fault) is

module _ {V K C I O : Type 0} (most room : ℕ) (step : Step V) (leaves : K → Kept V → Type 0) (is_clean : K → Type 0)
    (saves fails : K → Kept V → K → Type 0) (opens : C → Option (I × O) → C → Type 0) (closes : C → I → O → C → Type 0)
    (remaining : I → Option (List ℕ)) (contents : O → Option (List ℕ)) (turns : ℕ) where
  abbrev Next : (x x' : Standing V K C) → Went → Type 0
  Next = ServesNext most room step leaves is_clean saves fails opens closes remaining contents turns

  abbrev From : (many : ℕ) → (x x' : Standing V K C) → Went → Type 0
  From = ServesFrom most room step leaves is_clean saves fails opens closes remaining contents turns

  abbrev Outlives : (x' : Standing V K C) → Kept V → Type 0
  Outlives = OutlivesRun most room step leaves is_clean saves fails opens closes remaining contents turns

  abbrev Served : (x x' : Standing V K C) → Went → Type 0
  Served = ServesAndTells most room step leaves is_clean saves fails opens closes remaining contents turns

  -- what a crash leaves after what went so
  pub record After (x x' : Standing V K C) (end : Went) : Type 0 where
    pub clean : is_clean x'.keeper → is_clean x.keeper
    pub settled : goes ≡ end → Settled (leaves x.keeper) x.encoder → is_clean x'.keeper
        → Settled (leaves x'.keeper) x'.encoder
    pub outlives : Settled (leaves x.keeper) x.encoder → is_clean x'.keeper → (left : Kept V) → leaves x'.keeper left
        → Outlives x' left

  -- the same encoder and keeper
  pub stays : (x x' : Standing V K C) (end : Went) → x'.keeper ≡ x.keeper → x'.encoder ≡ x.encoder → After x x' end
  stays x x' end keeper encoder = record {
    clean = λ clean. subst is_clean keeper clean;
    settled = λ is settled clean left leaves_it.
        settled left (subst (λ k. leaves k left) keeper leaves_it) ∙ sym (ap kept_of encoder);
    outlives = λ settled clean left leaves_it.
        inl (settled left (subst (λ k. leaves k left) keeper leaves_it) ∙ sym (ap kept_of encoder));
  }

  served_so : (x x' : Standing V K C) (end : Went) (ended : Ended) (s : Served x x' end) → s.ended ≡ ended
      → After x x' end
  served_so x x' end (Ok done) s is =
      let keeps = subst (λ ended. KeepsOn most room step leaves is_clean saves fails opens closes remaining contents
      turns ended x x') is s.keeps in
      record {
        clean = keeps.clean;
        settled = λ goes_on settled clean. keeps.settled settled clean;
        outlives = λ settled clean left leaves_it. inl (keeps.settled settled clean left leaves_it);
      }
  served_so x x' end (Err (kept.Serve fault)) s is =
      let keeps = subst (λ ended. KeepsOn most room step leaves is_clean saves fails opens closes remaining contents
      turns ended x x') is s.keeps in
      record {
        clean = keeps.clean;
        settled = λ goes_on settled clean. keeps.settled settled clean;
        outlives = λ settled clean left leaves_it. inl (keeps.settled settled clean left leaves_it);
      }
  served_so x x' end (Err kept.StateFailed) s is =
      let serves = subst (λ ended. ServesOne most room step leaves is_clean saves fails opens closes remaining contents
      turns ended
      x x' s.told) is s.serves in
      record {
        clean = s.keeps.clean;
        settled = λ goes_on settled clean. absurd (state_stops x'.log.fault
            (goes_on ∙ s.goes ∙ ap (went_after x'.log.fault) is));
        outlives = λ settled clean left leaves_it. inr (record {
          before = x;
          told = s.told;
          serves = serves;
          outlives = serves.6.session.serves.kept settled clean left leaves_it;
        });
      }

  after_next : (x x' : Standing V K C) (end : Went) → Next x x' end → After x x' end
  after_next x x' end (inl (none, same, is)) =
      stays x x' end (ap (λ (y : Standing V K C). y.keeper) same) (ap (λ (y : Standing V K C). y.encoder) same)
  after_next x x' end (inr s) = served_so x x' end s.ended s refl

  pub both : (x y z : Standing V K C) (end : Went) → After x y goes → After y z end → After x z end
  both x y z end one others = record {
    clean = λ clean. one.clean (others.clean clean);
    settled = λ is settled clean. others.settled is (one.settled refl settled (others.clean clean)) clean;
    outlives = λ settled clean. others.outlives (one.settled refl settled (others.clean clean)) clean;
  }

  pub ended_at : (x x' : Standing V K C) (end : Went) (stop : KeptStop) → end ≡ stopped stop
      → After x x' (stopped stop) → After x x' end
  ended_at x x' end stop is one = record {
    clean = one.clean;
    settled = λ done. absurd (goes_not_stopped stop (done ∙ is));
    outlives = one.outlives;
  }

  pub after_from : (many : ℕ) (x x' : Standing V K C) (end : Went) → From many x x' end → After x x' end
  after_from zero x x' end (same, is) =
      stays x x' end (ap (λ (y : Standing V K C). y.keeper) same) (ap (λ (y : Standing V K C). y.encoder) same)
  after_from (suc many) x x' end (inl (next, first, rest)) =
      both x next x' end (after_next x next goes first) (after_from many next x' end rest)
  after_from (suc many) x x' end (inr (stop, first, is)) =
      ended_at x x' end stop is (after_next x x' (stopped stop) first)

  next_status : (x x' : Standing V K C) (stop : KeptStop) → Next x x' (stopped stop) → stop_status stop ≡ 3
  next_status x x' stop (inl (none, same, is)) = same_status stop (Run run.Listening) refl is
  next_status x x' stop (inr s) = after_status x'.log.fault s.ended stop s.goes

  pub from_status : (many : ℕ) (x x' : Standing V K C) (stop : KeptStop) → From many x x' (stopped stop)
      → stop_status stop ≡ 3
  from_status zero x x' stop (same, is) = absurd (goes_not_stopped stop (sym is))
  from_status (suc many) x x' stop (inl (next, first, rest)) = from_status many next x' stop rest
  from_status (suc many) x x' stop (inr (why, first, is)) =
      ap stop_status (same_stop stop why is) ∙ next_status x x' why first

pub store_status : (asked : Bool) (store : Store) (l l' : Log) (stop : KeptStop)
    → TellsStore asked store l l' (stopped stop)
    → stop_status stop ≡ 3
store_status true store l l' stop (written, is) = went_status l'.fault stop is
store_status false store l l' stop (same, is) = went_status l'.fault stop is

module _ {K C I O : Type 0} (most room : ℕ) (leaves : K → Kept Store → Type 0) (is_clean : K → Type 0)
    (saves fails : K → Kept Store → K → Type 0) (opens : C → Option (I × O) → C → Type 0)
    (closes : C → I → O → C → Type 0) (remaining : I → Option (List ℕ)) (contents : O → Option (List ℕ))
    (turns connections : ℕ) (asked : Bool) where
  abbrev Runs : (x x' : Standing Store K C) → Went → Type 0
  Runs = RunsDevice most room leaves is_clean saves fails opens closes remaining contents turns connections asked

  abbrev pub AfterRun : (x x' : Standing Store K C) → Went → Type 0
  AfterRun = After most room store_step leaves is_clean saves fails opens closes remaining contents turns

  pub after_run : (x x' : Standing Store K C) (end : Went) → Runs x x' end → AfterRun x x' end
  after_run x x' end (inl (w, first, (inl (y, served, last)))) =
      both most room store_step leaves is_clean saves fails opens closes remaining contents turns x w x' end
      (stays most room store_step leaves is_clean saves fails opens closes remaining contents turns x w goes
      first.keeper
      first.encoder)
      (both most room store_step leaves is_clean saves fails opens closes remaining contents turns w y x' end
      (after_from most room store_step leaves is_clean saves fails opens closes remaining contents turns connections w y
      goes served)
      (stays most room store_step leaves is_clean saves fails opens closes remaining contents turns y x' end last.keeper
      last.encoder))
  after_run x x' end (inl (w, first, (inr (stop, served, is)))) =
      both most room store_step leaves is_clean saves fails opens closes remaining contents turns x w x' end
      (stays most room store_step leaves is_clean saves fails opens closes remaining contents turns x w goes
      first.keeper
      first.encoder)
      (ended_at most room store_step leaves is_clean saves fails opens closes remaining contents turns w x' end stop is
      (after_from most room store_step leaves is_clean saves fails opens closes remaining contents turns connections w
      x' (stopped stop) served))
  after_run x x' end (inr (stop, first, is)) =
      stays most room store_step leaves is_clean saves fails opens closes remaining contents turns x x' end first.keeper
      first.encoder

  pub run_status : (x x' : Standing Store K C) (stop : KeptStop) → Runs x x' (stopped stop) → stop_status stop ≡ 3
  run_status x x' stop (inl (w, first, (inl (y, served, last)))) =
      store_status asked y.encoder.value y.log x'.log stop last.tells
  run_status x x' stop (inl (w, first, (inr (why, served, is)))) =
      ap stop_status (same_stop stop why is)
      ∙ from_status most room store_step leaves is_clean saves fails opens closes remaining contents turns connections w
      x' why served
  run_status x x' stop (inr (why, first, is)) =
      ap stop_status (same_stop stop why is)
      ∙ store_status (tells_first x.log) x.encoder.value x.log x'.log why first.tells
