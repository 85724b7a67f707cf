-- What a crash leaves after a run on the air, and what status it has.
use Rattle.std.proofs.Common.{◌≡◌, ℕ, zero, suc, Bool, true, false, List, refl, ap, sym, subst, ◌∙◌, inl, inr}
use Rattle.std.specs.Prelude.{Option, Some, None, Ok, Err}
use Rattle.rds_groups.specs.declared.group.Group.{Group}
use Rattle.rds_store.specs.Value.{Store}
use Rattle.rds_store.specs.Step.{step as store_step}
use Rattle.carousel.specs.Next.{is_queued, aired}
use Rattle.uecp_encoder.specs.State.{EncoderState}
use Rattle.uecp_text.specs.declared.run_fault.RunFault.TheVariants as run
use Rattle.uecp_encoder.specs.declared.serving.KeptFault.TheVariants as kept
use Rattle.uecp_encoder.specs.Keeping.{Kept, kept_of, Settled}
use Rattle.uecp_encoder.specs.ServingWith.{Ended}
use Rattle.kept_jobs.specs.declared.stop.KeptStop.{KeptStop}
use Rattle.kept_jobs.specs.declared.stop.KeptStop.TheVariants.{Run, StateFailed}
use Rattle.kept_jobs.specs.Stops.{Went, stop_status}
use Rattle.kept_jobs.proofs.Public.{goes, goes_not_stopped, same_status, same_stop, stopped}
use Rattle.device_serving.specs.Logging.{Log, LogsEvent}
use Rattle.device_serving.proofs.Public.{after_status, store_status, state_stops}
use Rattle.device_serving.specs.declared.air.line.Sent.{Sent}
use Rattle.device_serving.specs.declared.air.line.OpenLine.{OpenLine}
use Rattle.device_serving.specs.declared.air.moments.Moment.{Moment}
use Rattle.device_serving.specs.declared.air.moments.Moment.TheVariants.{Connected, Readable, Due, Over}
use Rattle.device_serving.specs.AirLines.{ReadsOnce, is_over}
use Rattle.device_serving.specs.AirRun.{OnAir, Connects, GoesOnOrEnds, KeepsOn, ReadsLine, ReadsOpen, KeepsIf}
use Rattle.device_serving.specs.AirRun.{HangsUp, Does, DoesNext, GoesOnFor, Ends, DoesAll, Serves}
use Rattle.device_serving.specs.AirRun.{RunsOnAir, OutlivesRun}
use Rattle.device_serving.specs.DeviceRun.{tells_first}

module _ {K M I O : Type 0} (most room : ℕ) (leaves : K → Kept Store → Type 0) (is_clean : K → Type 0)
    (saves fails : K → Kept Store → K → Type 0) (waits : M → Bool → Moment I O → M → Type 0)
    (closes : M → I → O → M → Type 0) (sends : M → Group → M → Type 0) (remaining : I → Option (List ℕ))
    (contents : O → Option (List ℕ)) (turns : ℕ) where
  abbrev Outlives : (x' : OnAir K M I O) → Kept Store → Type 0
  Outlives = OutlivesRun most room leaves is_clean saves fails waits closes sends remaining contents turns

  -- what a crash leaves after what went so
  pub record After (x x' : OnAir K M I O) (end : Went) : Type 0 where
    pub clean : is_clean x'.keeper → is_clean x.keeper
    pub settled : goes ≡ end → Settled (leaves x.keeper) x.encoder → is_clean x'.keeper
        → Settled (leaves x'.keeper) x'.encoder
    pub outlives : Settled (leaves x.keeper) x.encoder → is_clean x'.keeper → (left : Kept Store)
        → leaves x'.keeper left → Outlives x' left

  -- the same keeper, and the same is to be kept of the encoder
  stays : (x x' : OnAir K M I O) (end : Went) → x'.keeper ≡ x.keeper → kept_of x'.encoder ≡ kept_of x.encoder
      → After x x' end
  stays x x' end keeper encoder = record {
    clean = λ clean. subst is_clean keeper clean;
    settled = λ is settled clean left leaves_it.
        settled left (subst (λ k. leaves k left) keeper leaves_it) ∙ sym encoder;
    outlives = λ settled clean left leaves_it.
        inl (settled left (subst (λ k. leaves k left) keeper leaves_it) ∙ sym encoder);
  }

  connected : (x x' : OnAir K M I O) (end : Went) (line : Option (OpenLine I O)) (input : I) (output : O)
      → Connects closes turns line input output x x' end → After x x' end
  connected x x' end None input output (told, is, went) =
      stays x x' end (ap (λ (y : OnAir K M I O). y.keeper) is) (ap (λ (y : OnAir K M I O). kept_of y.encoder) is)
  connected x x' end (Some line) input output (closed, is, went) =
      stays x x' end (ap (λ (y : OnAir K M I O). y.keeper) is) (ap (λ (y : OnAir K M I O). kept_of y.encoder) is)

  -- a run does not go on after a read at which a save failed
  broken : (over : Bool) (left : ℕ) (sent : Sent) (line' : OpenLine I O) (told : Log) (x x' : OnAir K M I O)
      → is_over left (Err kept.StateFailed) ≡ over
      → GoesOnOrEnds closes over sent line' (Err kept.StateFailed) told x x' goes → ⊥
  broken true left sent line' told x x' is (closed, tells, same, goes) = state_stops x'.log.fault goes
  broken false left sent line' told x x' is (same, goes) = let no : true ≡ false = is in cc

  read_so : (line : OpenLine I O) (x x' : OnAir K M I O) (end : Went) (ended : Ended)
      (r : ReadsLine most room leaves is_clean saves fails closes remaining contents line x x' end) → r.ended ≡ ended
      → After x x' end
  read_so line x x' end (Ok served) r is =
      let keeps = subst (λ ended. KeepsOn most room leaves is_clean saves fails closes remaining contents ended x x') is
      r.keeps in record {
        clean = keeps.clean;
        settled = λ goes settled clean. keeps.settled settled clean;
        outlives = λ settled clean left leaves_it. inl (keeps.settled settled clean left leaves_it);
      }
  read_so line x x' end (Err (kept.Serve fault)) r is =
      let keeps = subst (λ ended. KeepsOn most room leaves is_clean saves fails closes remaining contents ended x x') is
      r.keeps in record {
        clean = keeps.clean;
        settled = λ goes settled clean. keeps.settled settled clean;
        outlives = λ settled clean left leaves_it. inl (keeps.settled settled clean left leaves_it);
      }
  read_so line x x' end (Err kept.StateFailed) r is =
      let reads = subst (λ ended. ReadsOnce most room store_step leaves is_clean saves fails LogsEvent remaining
      contents x.encoder x'.encoder x.keeper x'.keeper x.log r.told line r.line' ended) is r.reads in
      let goes = subst (λ ended. GoesOnOrEnds closes (is_over r.line'.left ended) line.sent r.line' ended r.told x x'
      end) is r.goes in
      record {
        clean = r.keeps.clean;
        settled = λ goes_on settled clean. absurd (broken true r.line'.left line.sent r.line' r.told x x' refl
            (subst (λ (w : Went). GoesOnOrEnds closes true line.sent r.line' (Err kept.StateFailed) r.told x x' w)
            (sym goes_on) goes));
        outlives = λ settled clean left leaves_it. inr (inl (record {
          before = x;
          told = r.told;
          line = line;
          line' = r.line';
          reads = reads;
          outlives = reads.serves.kept settled clean left leaves_it;
        }));
      }

  read : (x x' : OnAir K M I O) (end : Went) (line : Option (OpenLine I O))
      → ReadsOpen most room leaves is_clean saves fails closes remaining contents line x x' end → After x x' end
  read x x' end None (is, goes) =
      stays x x' end (ap (λ (y : OnAir K M I O). y.keeper) is) (ap (λ (y : OnAir K M I O). kept_of y.encoder) is)
  read x x' end (Some line) r = read_so line x x' end r.ended r refl

  -- what is to be kept of an encoder of which nothing was taken
  sent_on : (x x' : OnAir K M I O) (end : Went) (queued : Bool) → is_queued x.encoder.value x.carousel ≡ queued
      → KeepsIf most room leaves is_clean saves fails sends queued x x' end
      → x'.encoder ≡ record x.encoder { value = (aired x.encoder.value x.carousel).1 } → After x x' end
  sent_on x x' end true queued keeps taken =
      let failed : (stop : KeptStop) → end ≡ stopped stop → fails x.keeper (kept_of x'.encoder) x'.keeper =
      λ stop is. elim keeps.saved [
        | inl saved ↦ absurd (goes_not_stopped stop (sym saved.1 ∙ is))
        | inr failed ↦ failed.0
      ] in
      record {
        clean = keeps.clean;
        settled = λ goes settled clean. keeps.settled (sym goes) clean;
        outlives = λ settled clean left leaves_it. elim keeps.saved [
          | inl saved ↦ inl (keeps.settled saved.1 clean left leaves_it)
          | inr failed ↦ elim (keeps.either settled clean left leaves_it) [
            | inl before ↦ inr (inr (record {
              before = x;
              queued = queued;
              taken = taken;
              failed = failed.0;
              outlives = before;
            }))
            | inr after ↦ inl after
          ]
        ];
      }
  sent_on x x' end false queued keeps taken =
      let same : (aired x.encoder.value x.carousel).1 ≡ x.encoder.value = rw queued refl in
      stays x x' end keeps.0
      (ap (λ (e : EncoderState Store). kept_of e) taken
      ∙ ap (λ (v : Store). kept_of (record x.encoder { value = v })) same)

  does : (moment : Moment I O) (x x' : OnAir K M I O) (end : Went)
      → Does most room leaves is_clean saves fails waits closes sends remaining contents turns moment x x' end → After x
      x' end
  does (Connected input output) x x' end d = connected x x' end x.line input output d
  does Readable x x' end d = read x x' end x.line d
  does Due x x' end (keeps, goes_out, is) =
      sent_on x x' end (is_queued x.encoder.value x.carousel) refl keeps (ap (λ (y : OnAir K M I O). y.encoder) is)
  does Over x x' end (is, goes) =
      stays x x' end (ap (λ (y : OnAir K M I O). y.keeper) is) (ap (λ (y : OnAir K M I O). kept_of y.encoder) is)

  next : (x x' : OnAir K M I O) (end : Went)
      → DoesNext most room leaves is_clean saves fails waits closes sends remaining contents turns x x' end → After x x'
      end
  next x x' end (moment, between, waited, done) =
      let after = does moment (record x { moments = between }) x' end done in
      record { clean = after.clean; settled = after.settled; outlives = after.outlives }

  both : (x y z : OnAir K M I O) (end : Went) → After x y goes → After y z end → After x z end
  both x y z end one others = record {
    clean = λ clean. one.clean (others.clean clean);
    settled = λ is settled clean. others.settled is (one.settled refl settled (others.clean clean)) clean;
    outlives = λ settled clean. others.outlives (one.settled refl settled (others.clean clean)) clean;
  }

  ended_at : (x x' : OnAir K M I O) (end : Went) (stop : KeptStop) → end ≡ stopped stop → After x x' (stopped stop)
      → After x x' end
  ended_at x x' end stop is one = record {
    clean = one.clean;
    settled = λ done. absurd (goes_not_stopped stop (done ∙ is));
    outlives = one.outlives;
  }

  many_on : (many : ℕ) (x x' : OnAir K M I O)
      → GoesOnFor most room leaves is_clean saves fails waits closes sends remaining contents turns many x x' → After x
      x' goes
  many_on zero x x' is =
      stays x x' goes (ap (λ (y : OnAir K M I O). y.keeper) is) (ap (λ (y : OnAir K M I O). kept_of y.encoder) is)
  many_on (suc n) x x' (y, before, some, last) = both x y x' goes (many_on n x y before) (next y x' goes last)

  ends : (many : ℕ) (x x' : OnAir K M I O) (end : Went)
      → Ends most room leaves is_clean saves fails waits closes sends remaining contents turns many x x' end → After x
      x' end
  ends many x x' end (inl (none, is, goes)) =
      stays x x' end (ap (λ (y : OnAir K M I O). y.keeper) is) (ap (λ (y : OnAir K M I O). kept_of y.encoder) is)
  ends many x x' end (inr (inl (stop, some, last, is))) = ended_at x x' end stop is (next x x' (stopped stop) last)
  ends many x x' end (inr (inr (all, is, goes))) =
      stays x x' end (ap (λ (y : OnAir K M I O). y.keeper) is) (ap (λ (y : OnAir K M I O). kept_of y.encoder) is)

  -- what becomes of the two ends of a connection is no matter of what a crash leaves
  hung_up : (x y : OnAir K M I O) (m : M) (line : Option (OpenLine I O)) (end : Went) → After x y end
      → After x (record y { moments = m; line = line }) end
  hung_up x y m line end after = record {
    clean = after.clean;
    settled = after.settled;
    outlives = λ settled clean left leaves_it. elim (after.outlives settled clean left leaves_it) [
      | inl same ↦ inl same
      | inr last ↦ elim last [
        | inl r ↦ inr (inl (record {
          before = r.before;
          told = r.told;
          line = r.line;
          line' = r.line';
          reads = r.reads;
          outlives = r.outlives;
        }))
        | inr t ↦ inr (inr (record {
          before = t.before;
          queued = t.queued;
          taken = t.taken;
          failed = t.failed;
          outlives = t.outlives;
        }))
      ]
    ];
  }

  hangs_up : (x y x' : OnAir K M I O) (end : Went) (line : Option (OpenLine I O)) → HangsUp closes line y x'
      → After x y end → After x x' end
  hangs_up x y x' end None is after = subst (λ (z : OnAir K M I O). After x z end) (sym is) after
  hangs_up x y x' end (Some line) (closed, is) after =
      subst (λ (z : OnAir K M I O). After x z end) (sym is) (hung_up x y x'.moments None end after)

  all : (x x' : OnAir K M I O) (end : Went)
      → DoesAll most room leaves is_clean saves fails waits closes sends remaining contents turns x x' end → After x x'
      end
  all x x' end (many, y, so, last) = both x y x' end (many_on many x y so) (ends many y x' end last)

  serves : (x x' : OnAir K M I O) (end : Went)
      → Serves most room leaves is_clean saves fails waits closes sends remaining contents turns x x' end → After x x'
      end
  serves x x' end (y, done, hangs) = hangs_up x y x' end y.line hangs (all x y end done)

  abbrev Runs : (store : Bool) → (x x' : OnAir K M I O) → Went → Type 0
  Runs = RunsOnAir most room leaves is_clean saves fails waits closes sends remaining contents turns

  told_only : (x x' : OnAir K M I O) (end : Went) → x' ≡ record x { log = x'.log } → After x x' end
  told_only x x' end is =
      stays x x' end (ap (λ (z : OnAir K M I O). z.keeper) is) (ap (λ (z : OnAir K M I O). kept_of z.encoder) is)

  pub after_run : (store : Bool) (x x' : OnAir K M I O) (end : Went) → Runs store x x' end → After x x' end
  after_run store x x' end (inl (w, (begun, same), (inl (y, served, (told, is))))) =
      both x w x' end (told_only x w goes same)
      (both w y x' end (serves w y goes served) (told_only y x' end is))
  after_run store x x' end (inl (w, (begun, same), (inr (stop, served, is)))) =
      both x w x' end (told_only x w goes same) (ended_at w x' end stop is (serves w x' (stopped stop) served))
  after_run store x x' end (inr (stop, (begun, same), is)) = told_only x x' end same

  -- ---- Its status.

  connects_on : (x x' : OnAir K M I O) (stop : KeptStop) (line : Option (OpenLine I O)) (input : I) (output : O)
      → Connects closes turns line input output x x' (stopped stop) → ⊥
  connects_on x x' stop None input output (told, same, goes) = goes_not_stopped stop (sym goes)
  connects_on x x' stop (Some line) input output (closed, same, goes) = goes_not_stopped stop (sym goes)

  over_status : (over : Bool) (sent : Sent) (line' : OpenLine I O) (ended : Ended) (told : Log) (x x' : OnAir K M I O)
      (stop : KeptStop) → GoesOnOrEnds closes over sent line' ended told x x' (stopped stop) → stop_status stop ≡ 3
  over_status false sent line' ended told x x' stop (same, goes) = absurd (goes_not_stopped stop (sym goes))
  over_status true sent line' ended told x x' stop (closed, tells, same, goes) =
      after_status x'.log.fault ended stop goes

  read_status : (x x' : OnAir K M I O) (stop : KeptStop) (line : Option (OpenLine I O))
      → ReadsOpen most room leaves is_clean saves fails closes remaining contents line x x' (stopped stop)
      → stop_status stop ≡ 3
  read_status x x' stop None (same, goes) = absurd (goes_not_stopped stop (sym goes))
  read_status x x' stop (Some line) r =
      over_status (is_over r.line'.left r.ended) line.sent r.line' r.ended r.told x x' stop r.goes

  keeps_status : (queued : Bool) (x x' : OnAir K M I O) (stop : KeptStop)
      → KeepsIf most room leaves is_clean saves fails sends queued x x' (stopped stop) → stop_status stop ≡ 3
  keeps_status true x x' stop keeps = elim keeps.saved [
    | inl saved ↦ absurd (goes_not_stopped stop (sym saved.1))
    | inr failed ↦ same_status stop StateFailed refl failed.1
  ]
  keeps_status false x x' stop (same, goes) = absurd (goes_not_stopped stop (sym goes))

  does_status : (moment : Moment I O) (x x' : OnAir K M I O) (stop : KeptStop)
      → Does most room leaves is_clean saves fails waits closes sends remaining contents turns moment x x' (stopped
      stop) → stop_status stop ≡ 3
  does_status (Connected input output) x x' stop d = absurd (connects_on x x' stop x.line input output d)
  does_status Readable x x' stop d = read_status x x' stop x.line d
  does_status Due x x' stop (keeps, goes_out, is) = keeps_status (is_queued x.encoder.value x.carousel) x x' stop keeps
  does_status Over x x' stop (same, goes) = same_status stop (Run run.Listening) refl goes

  ends_status : (many : ℕ) (x x' : OnAir K M I O) (stop : KeptStop)
      → Ends most room leaves is_clean saves fails waits closes sends remaining contents turns many x x' (stopped stop)
      → stop_status stop ≡ 3
  ends_status many x x' stop (inl (none, same, goes)) = absurd (goes_not_stopped stop (sym goes))
  ends_status many x x' stop (inr (inl (why, some, (moment, between, waited, done), is))) =
      ap stop_status (same_stop stop why is) ∙ does_status moment (record x { moments = between }) x' why done
  ends_status many x x' stop (inr (inr (all, same, goes))) = same_status stop (Run run.Listening) refl goes

  pub run_status : (store : Bool) (x x' : OnAir K M I O) (stop : KeptStop) → Runs store x x' (stopped stop)
      → stop_status stop ≡ 3
  run_status store x x' stop (inl (w, first, (inl (y, served, (told, same))))) =
      store_status store y.encoder.value y.log x'.log stop told
  run_status store x x' stop (inl (w, first, (inr (why, (y, (many, z, so, last), hangs), is)))) =
      ap stop_status (same_stop stop why is) ∙ ends_status many z y why last
  run_status store x x' stop (inr (why, (told, same), is)) =
      ap stop_status (same_stop stop why is)
      ∙ store_status (tells_first x.log) x.encoder.value x.log x'.log why told
