-- A run of an encoder is some of its days.
use Rattle.std.proofs.Common.{◌≡◌, ℕ, zero, suc, Bool, true, false, List, [], ◌∷◌, ◌++◌, Option, Some, None, Ok}
use Rattle.std.proofs.Common.{Err}
use Rattle.std.proofs.Common.{refl, sym, ap, subst, ◌∙◌, inl, inr, append_assoc, cond}
use Rattle.rds_groups.specs.declared.group.Group.{Group}
use Rattle.rds_store.specs.Value.{Store}
use Rattle.rds_store.specs.Step.{step as store_step, group_taken}
use Rattle.carousel.specs.Next.{is_queued, aired}
use Rattle.uecp_frame.specs.Findings.{Closed}
use Rattle.uecp_encoder.specs.State.{EncoderState}
use Rattle.uecp_encoder.specs.Keeping.{Kept}
use Rattle.uecp_encoder.specs.ServingWith.{Ended, ServesKept}
use Rattle.kept_jobs.specs.Stops.{Went}
use Rattle.device_serving.specs.declared.air.moments.Moment.{Moment}
use Rattle.device_serving.specs.declared.air.moments.Moment.TheVariants.{Connected, Readable, Due, Over}
use Rattle.device_serving.specs.DeviceRun as device
use Rattle.device_serving.specs.AirRun as air
use Rattle.promises.specs.DeviceLives.{DeviceEvent, Reads, HangsUp, TakesGroup, Deed, TakesOne, Happens, DeviceLives}
use Rattle.promises.specs.DeviceRuns.{AreDays, DeviceIsDays, AirIsDays}
use Rattle.promises.proofs.Days.{calls_lem}

-- ---- Days one behind the other.

lives_on : (xs ys : List DeviceEvent) (e y e' : EncoderState Store) (ds fs : List Deed)
    → DeviceLives store_step group_taken xs e ds y → DeviceLives store_step group_taken ys y fs e'
    → DeviceLives store_step group_taken (xs ++ ys) e (ds ++ fs) e'
lives_on [] ys e y e' ds fs (none, same) more =
    subst (λ gs. DeviceLives store_step group_taken ys e (gs ++ fs) e') (sym none)
    (subst (λ (z : EncoderState Store). DeviceLives store_step group_taken ys z fs e') same more)
lives_on (x ∷ xs) ys e y e' ds fs (some, rest, z, first, later, all) more = (
  some,
  rest ++ fs,
  z,
  first,
  lives_on xs ys z y e' rest fs later more,
  ap (λ gs. gs ++ fs) all ∙ append_assoc some rest fs,
)

days_on : (e y e' : EncoderState Store) → AreDays e y → AreDays y e' → AreDays e e'
days_on e y e' (xs, ds, one) (ys, fs, more) = (xs ++ ys, ds ++ fs, lives_on xs ys e y e' ds fs one more)

no_day : (e e' : EncoderState Store) → e' ≡ e → AreDays e e'
no_day e e' same = ([], [], (refl, same))

one_day : (event : DeviceEvent) (e e' : EncoderState Store) (deeds : List Deed)
    → Happens store_step group_taken event e deeds e' → AreDays e e'
one_day event e e' deeds happens = (event ∷ [], deeds, (deeds, [], e', happens, (refl, refl), none_more deeds))
  where
    none_more : (ds : List Deed) → ds ≡ ds ++ []
    none_more [] = refl
    none_more (d ∷ ds) = ap (λ gs. d ∷ gs) (none_more ds)

-- the connection is over
hung_up : (e : EncoderState Store) → AreDays e (record e { part = Closed })
hung_up e = one_day HangsUp e (record e { part = Closed }) [] (refl, refl)

module _ {K : Type 0} (most room : ℕ) (leaves : K → Kept Store → Type 0) (is_clean : K → Type 0)
    (saves fails : K → Kept Store → K → Type 0) where
  -- a call
  called : (e e' : EncoderState Store) (k k' : K) (s sent : List ℕ) (unread : Option (List ℕ)) (turns reads : ℕ)
      (ended : Ended)
      → ServesKept most room store_step leaves is_clean saves fails e e' k k' s sent unread turns reads ended
      → AreDays e e'
  called e e' k k' s sent unread turns reads ended call =
      let done = calls_lem store_step group_taken most room leaves is_clean saves fails e e' k k' s sent unread turns
      reads
      ended call in
      let (deeds, happens) = done.read in
      one_day (Reads s sent) e e' deeds happens

  -- ---- One connection after another.
  module _ {C I O : Type 0} (opens : C → Option (I × O) → C → Type 0) (closes : C → I → O → C → Type 0)
      (remaining : I → Option (List ℕ)) (contents : O → Option (List ℕ)) (turns : ℕ) where
    abbrev At : Type 0
    At = device.Standing Store K C

    served : (x x' : At) (went : Went)
        → device.ServesNext most room store_step leaves is_clean saves fails opens closes remaining contents turns x x'
        went
        → AreDays x.encoder x'.encoder
    served x x' went (inl (none, same, goes)) = no_day x.encoder x'.encoder (ap (λ (y : At). y.encoder) same)
    served x x' went (inr one) = by one.serves
      where
        by : device.ServesOne most room store_step leaves is_clean saves fails opens closes remaining contents turns
            one.ended x x' one.told → AreDays x.encoder x'.encoder
        by (input, input', output, output', between, opened, told, closed) =
            let s = told.session in
            days_on x.encoder (record x.encoder { part = Closed }) x'.encoder (hung_up x.encoder)
            (called (record x.encoder { part = Closed }) x'.encoder x.keeper x'.keeper s.read s.sent
            (remaining input'.device) turns input'.calls one.ended s.serves)

    served_all : (connections : ℕ) (x x' : At) (went : Went)
        → device.ServesFrom most room store_step leaves is_clean saves fails opens closes remaining contents turns
        connections x x' went
        → AreDays x.encoder x'.encoder
    served_all zero x x' went (same, goes) = no_day x.encoder x'.encoder (ap (λ (y : At). y.encoder) same)
    served_all (suc more) x x' went (inl (y, first, rest)) =
        days_on x.encoder y.encoder x'.encoder (served x y (Ok tt) first) (served_all more y x' went rest)
    served_all (suc more) x x' went (inr (stop, first, goes)) = served x x' (Err stop) first

    only_told : (asked : Bool) (store : Store) (x x' : At) (went : Went)
        → device.TellsOnly most room store_step leaves is_clean saves fails opens closes remaining contents turns asked
        store x x' went
        → AreDays x.encoder x'.encoder
    only_told asked store x x' went told = no_day x.encoder x'.encoder told.encoder

  pub device_lem : {C I O : Type 0} (opens : C → Option (I × O) → C → Type 0) (closes : C → I → O → C → Type 0)
      (remaining : I → Option (List ℕ)) (contents : O → Option (List ℕ))
      → DeviceIsDays most room leaves is_clean saves fails opens closes remaining contents
  device_lem opens closes remaining contents turns connections store x x' went
      (inl (y, told, inl (z, serves, last))) =
      days_on x.encoder y.encoder x'.encoder (only_told opens closes remaining contents turns _ _ x y (Ok tt) told)
      (days_on y.encoder z.encoder x'.encoder
      (served_all opens closes remaining contents turns connections y z (Ok tt) serves)
      (only_told opens closes remaining contents turns _ _ z x' went last))
  device_lem opens closes remaining contents turns connections store x x' went
      (inl (y, told, inr (stop, serves, goes))) =
      days_on x.encoder y.encoder x'.encoder (only_told opens closes remaining contents turns _ _ x y (Ok tt) told)
      (served_all opens closes remaining contents turns connections y x' (Err stop) serves)
  device_lem opens closes remaining contents turns connections store x x' went (inr (stop, told, goes)) =
      only_told opens closes remaining contents turns _ _ x x' (Err stop) told

  -- ---- On the air.
  module _ {M I O : Type 0} (waits : M → Bool → Moment I O → M → Type 0)
      (closes : M → I → O → M → Type 0) (sends : M → Group → M → Type 0) (remaining : I → Option (List ℕ))
      (contents : O → Option (List ℕ)) (turns : ℕ) where
    abbrev OnAir : Type 0
    OnAir = air.OnAir K M I O

    connected : (line : _) (input : I) (output : O) (x x' : OnAir) (went : Went)
        → air.Connects closes turns line input output x x' went → AreDays x.encoder x'.encoder
    connected None input output x x' went (opening, is, goes) =
        subst (λ (e : EncoderState Store). AreDays x.encoder e) (sym (ap (λ (y : OnAir). y.encoder) is))
        (hung_up x.encoder)
    connected (Some line) input output x x' went (closed, is, goes) =
        no_day x.encoder x'.encoder (ap (λ (y : OnAir). y.encoder) is)

    read : (line : _) (x x' : OnAir) (went : Went)
        → air.ReadsOpen most room leaves is_clean saves fails closes remaining contents line x x' went
        → AreDays x.encoder x'.encoder
    read None x x' went (same, goes) = no_day x.encoder x'.encoder (ap (λ (y : OnAir). y.encoder) same)
    read (Some line) x x' went one =
        let r = one.reads in
        called x.encoder x'.encoder x.keeper x'.keeper r.read r.sent (remaining one.line'.input) 1 1 one.ended r.serves

    sent : (x x' : OnAir) (went : Went) → air.Airs most room leaves is_clean saves fails sends x x' went
        → AreDays x.encoder x'.encoder
    sent x x' went (keeps, sends_so, is) =
        subst (λ (e : EncoderState Store). AreDays x.encoder e) (sym (ap (λ (y : OnAir). y.encoder) is))
        (by (is_queued x.encoder.value x.carousel) refl)
      where
        by : (queued : Bool) → is_queued x.encoder.value x.carousel ≡ queued
            → AreDays x.encoder (record x.encoder { value = (aired x.encoder.value x.carousel).1 })
        by true is =
            subst (λ b. AreDays x.encoder (record x.encoder {
              value = cond b (group_taken x.encoder.value).0 x.encoder.value;
            })) (sym is)
            (one_day TakesGroup x.encoder (record x.encoder { value = (group_taken x.encoder.value).0 })
            (TakesOne ∷ []) (refl, refl))
        by false is =
            subst (λ b. AreDays x.encoder (record x.encoder {
              value = cond b (group_taken x.encoder.value).0 x.encoder.value;
            })) (sym is) (no_day x.encoder x.encoder refl)

    done : (moment : Moment I O) (x x' : OnAir) (went : Went)
        → air.Does most room leaves is_clean saves fails waits closes sends remaining contents turns moment x x' went
        → AreDays x.encoder x'.encoder
    done (Connected input output) x x' went connects = connected x.line input output x x' went connects
    done Readable x x' went reads = read x.line x x' went reads
    done Due x x' went airs = sent x x' went airs
    done Over x x' went (same, goes) = no_day x.encoder x'.encoder (ap (λ (y : OnAir). y.encoder) same)

    next : (x x' : OnAir) (went : Went)
        → air.DoesNext most room leaves is_clean saves fails waits closes sends remaining contents turns x x' went
        → AreDays x.encoder x'.encoder
    next x x' went (moment, between, waited, does) = done moment (record x { moments = between }) x' went does

    so_many : (many : ℕ) (x x' : OnAir)
        → air.GoesOnFor most room leaves is_clean saves fails waits closes sends remaining contents turns many x x'
        → AreDays x.encoder x'.encoder
    so_many zero x x' same = no_day x.encoder x'.encoder (ap (λ (y : OnAir). y.encoder) same)
    so_many (suc n) x x' (y, before, left, does) =
        days_on x.encoder y.encoder x'.encoder (so_many n x y before) (next y x' (Ok tt) does)

    ended : (many : ℕ) (x x' : OnAir) (went : Went)
        → air.Ends most room leaves is_clean saves fails waits closes sends remaining contents turns many x x' went
        → AreDays x.encoder x'.encoder
    ended many x x' went (inl (left, same, goes)) =
        no_day x.encoder x'.encoder (ap (λ (y : OnAir). y.encoder) same)
    ended many x x' went (inr (inl (stop, left, does, goes))) = next x x' (Err stop) does
    ended many x x' went (inr (inr (all, same, goes))) =
        no_day x.encoder x'.encoder (ap (λ (y : OnAir). y.encoder) same)

    hangs_up : (line : _) (x x' : OnAir)
        → air.HangsUp closes line x x' → AreDays x.encoder x'.encoder
    hangs_up None x x' same = no_day x.encoder x'.encoder (ap (λ (y : OnAir). y.encoder) same)
    hangs_up (Some line) x x' (closed, is) = no_day x.encoder x'.encoder (ap (λ (y : OnAir). y.encoder) is)

    serves : (x x' : OnAir) (went : Went)
        → air.Serves most room leaves is_clean saves fails waits closes sends remaining contents turns x x' went
        → AreDays x.encoder x'.encoder
    serves x x' went (y, (many, z, before, ends), up) =
        days_on x.encoder y.encoder x'.encoder
        (days_on x.encoder z.encoder y.encoder (so_many many x z before) (ended many z y went ends))
        (hangs_up y.line y x' up)

    told_only : (asked : Bool) (x x' : OnAir) (went : Went) → air.TellsOnly asked x x' went
        → AreDays x.encoder x'.encoder
    told_only asked x x' went (tells, is) = no_day x.encoder x'.encoder (ap (λ (y : OnAir). y.encoder) is)

  pub air_lem : {M I O : Type 0} (waits : M → Bool → Moment I O → M → Type 0)
      (closes : M → I → O → M → Type 0) (sends : M → Group → M → Type 0) (remaining : I → Option (List ℕ))
      (contents : O → Option (List ℕ))
      → AirIsDays most room leaves is_clean saves fails waits closes sends remaining contents
  air_lem waits closes sends remaining contents turns store x x' went (inl (y, told, inl (z, run, last))) =
      days_on x.encoder y.encoder x'.encoder
      (told_only waits closes sends remaining contents turns _ x y (Ok tt) told)
      (days_on y.encoder z.encoder x'.encoder
      (serves waits closes sends remaining contents turns y z (Ok tt) run)
      (told_only waits closes sends remaining contents turns _ z x' went last))
  air_lem waits closes sends remaining contents turns store x x' went (inl (y, told, inr (stop, run, goes))) =
      days_on x.encoder y.encoder x'.encoder
      (told_only waits closes sends remaining contents turns _ x y (Ok tt) told)
      (serves waits closes sends remaining contents turns y x' (Err stop) run)
  air_lem waits closes sends remaining contents turns store x x' went (inr (stop, told, goes)) =
      told_only waits closes sends remaining contents turns _ x x' (Err stop) told
