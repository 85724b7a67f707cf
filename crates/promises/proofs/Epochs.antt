-- Over beginnings anew each epoch has the headline, and of each line one thing is told at most.
use Rattle.std.proofs.Common.{◌≡◌, ℕ, suc, ◌+◌, ◌-◌, ◌<◌, ◌≤◌, Bool, true, false, cond, List, [], ◌∷◌, ◌++◌}
use Rattle.std.proofs.Common.{length}
use Rattle.std.proofs.Common.{nat_lt, Option, Some, None, refl, ap, ◌∙◌, arith}
use Rattle.std.specs.Prelude.{is_some}
use Rattle.std.proofs.lemmas.Bool.{le-ltb, ltb-true}
use Rattle.uecp_elements.specs.declared.code.Code.{Code}
use Rattle.uecp_encoder.specs.Target.{Step, Taken}
use Rattle.uecp_encoder.specs.State.{EncoderState}
use Rattle.uecp_link.specs.History.{Act}
use Rattle.promises.specs.Station.{Station, station_from}
use Rattle.promises.specs.Acts.{history_on_disks}
use Rattle.promises.specs.CrashLaws.{HoldsWithDisks}
use Rattle.promises.specs.Epochs.{Epoch, comes_to, AreEpochs, HoldEach, as_list, told_in, tellings, HeadlineOverEpochs}
use Rattle.promises.proofs.Holding.{headline_lem}

module _ {V : Type 0} (step : Step V) (taken : Taken V) where
  hold_each : (address : ℕ) (opening : V) (before : ℕ) (left : V) (epochs : List (Epoch V))
      → AreEpochs step taken address opening before left epochs → HoldEach step taken before epochs
  hold_each address opening before left [] are = tt
  hold_each address opening before left (x ∷ xs) (at, ready, shut, value, fit, rest) = (
    headline_lem step taken x.encoder before ready shut x.events fit,
    hold_each address opening (comes_to step taken before x).server_file.taken
        (comes_to step taken before x).world.encoder.value xs rest,
  )

  -- what was told is of a message that was sent
  told_is_sent : (e : EncoderState V) (before : ℕ) (s : Station V) (acts : List Act) (k : ℕ)
      → HoldsWithDisks step taken e before s acts → is_some (s.told k) ≡ true → k < length s.world.once.sent
  told_is_sent e before s acts k h told =
      let applied = h.headline.acknowledged k (h.told k told) in
      let sent : length h.line.sent ≡ length s.world.once.sent = ap length h.holds.sent in
      omega (arith, applied, h.headline.applied.0, sent)

  -- of the lines of before nothing is told
  none_below : (before : ℕ) (epochs : List (Epoch V)) → HoldEach step taken before epochs → (number : ℕ)
      → number ≤ before → tellings step taken before epochs number ≡ []
  none_below before [] each number below = refl
  none_below before (x ∷ xs) (h, rest) number below =
      let s : Station V = comes_to step taken before x in
      let later : tellings step taken s.server_file.taken xs number ≡ [] =
      none_below s.server_file.taken xs rest number (omega (arith, h.files.taken, below)) in
      let none : told_in before s number ≡ [] =
      ap (λ (b : Bool). cond b (as_list (s.told (number - (before + 1)))) [])
      (le-ltb before number (omega (arith, below))) in
      ap (λ (l : List (Option Code)). l ++ tellings step taken s.server_file.taken xs number) none ∙ later

  once : (before : ℕ) (epochs : List (Epoch V)) → HoldEach step taken before epochs → (number : ℕ)
      → length (tellings step taken before epochs number) ≤ 1
  once before [] each number = omega arith
  once before (x ∷ xs) (h, rest) number =
      from_here (nat_lt before number) refl
      (once (comes_to step taken before x).server_file.taken xs rest number)
    where
      s : Station V
      s = comes_to step taken before x

      k : ℕ
      k = number - (before + 1)

      more : List (Option Code)
      more = tellings step taken s.server_file.taken xs number

      by_told : (told : Option (Option Code)) → s.told k ≡ told → before < number → length more ≤ 1
          → length (as_list told ++ more) ≤ 1
      by_told None is above later = later
      by_told (Some one) is above later =
          let sent : k < length s.world.once.sent =
          told_is_sent x.encoder before s
          (history_on_disks step taken x.encoder.address (station_from x.encoder before) x.events) k h
          (ap is_some is) in
          let nothing : more ≡ [] =
          none_below s.server_file.taken xs rest number (omega (arith, sent, above, h.files.taken)) in
          let one_told : length (one ∷ more) ≡ 1 = ap (λ (l : List (Option Code)). suc (length l)) nothing in
          omega (arith, one_told)

      from_here : (b : Bool) → nat_lt before number ≡ b → length more ≤ 1
          → length (cond b (as_list (s.told k)) [] ++ more) ≤ 1
      from_here true above later = by_told (s.told k) refl (ltb-true before number above) later
      from_here false below later = later

pub over_epochs_lem : {V : Type 0} (step : Step V) (taken : Taken V) → HeadlineOverEpochs step taken
over_epochs_lem step taken address opening before left epochs are =
    let each = hold_each step taken address opening before left epochs are in
    (each, once step taken before epochs each)
