-- What is taken is shown.
use Rattle.std.proofs.Common.{◌≡◌, ℕ, zero, suc, ◌<◌, ◌≤◌, Bool, true, false, cond, List, [], ◌∷◌, length, Option, Some}
use Rattle.std.proofs.Common.{None, refl, ap, sym, subst, ◌∙◌, arith, ◌⊎◌, inl, inr}
use Rattle.std.specs.Prelude.{IfSome, slice_get, unwrap_or}
use Rattle.std.specs.Option.{option_and_then}
use Rattle.std.specs.FinMap.{get}
use Rattle.std.specs.List.{AllByRecursion}
use Rattle.std.proofs.lemmas.List.Elements.{All-from_recursion}
use Rattle.uecp_elements.specs.Grammar.{AreBytes}
use Rattle.uecp_link.specs.Once.{message_at}
use Rattle.uecp_link.specs.History.{Act, Message, Taking}
use Rattle.uecp_link.specs.Fold.{value_after}
use Rattle.rds_store.specs.Value.{Store, ServiceData, StoredText}
use Rattle.rds_store.specs.declared.group.Group.{Group as StoredGroup}
use Rattle.rds_store.specs.Content.{opening_service}
use Rattle.rds_store.specs.Step.{step, group_taken, first_taken}
use Rattle.store_phrases.specs.Station.{IsStation, IsWaiting}
use Rattle.store_phrases.specs.Station.{IsService as CanBeService, IsText as CanBeText}
use Rattle.store_phrases.proofs.Public.{are_stations}
use Rattle.carousel.specs.Carousel.{Carousel}
use Rattle.carousel.specs.Next.{is_queued, aired}
use Rattle.carousel.specs.Service.{main_service}
use Rattle.promises.specs.OnAir.{IsText, IsService, IsOther, HasFlags}
use Rattle.promises.specs.Station.{Station, run_on_disks, station_from}
use Rattle.promises.specs.Acts.{history_on_disks}
use Rattle.promises.specs.Epochs.{comes_to}
use Rattle.promises.specs.Display.{ShownOverEpochs, EachLineIsShown}
use Rattle.promises.specs.Ends.{Ends, ends_from, run_ends}
use Rattle.uecp_encoder.specs.Keeping.{Kept}
use Rattle.promises.proofs.EndFrames.{law_at}
use Rattle.promises.proofs.EachLine.{each_matches, each_line_once_lem}
use Rattle.promises.specs.Display.{on_air, IsApart, IsOnDisplay, WhatIsTakenIsShown}
use Rattle.promises.proofs.Holding.{headline_lem}
use Rattle.promises.proofs.Service.{all_have, service_is_shown}
use Rattle.promises.proofs.TextRuns.{text_is_shown}
use Rattle.promises.proofs.Happening.{all_below}

-- ---- What each store has.

texts_be : (texts : List StoredText) → AllByRecursion CanBeText texts → AllByRecursion IsText texts
texts_be [] all = tt
texts_be (t ∷ texts) all = (
  record { short = all.0.short; are_bytes = All-from_recursion (λ byte. byte < 256) t.bytes all.0.bytes },
  texts_be texts all.1,
)

as_service : (s : ServiceData) → CanBeService s → IsService s
as_service s h = record {
  pi = h.pi;
  eight = h.eight;
  are_bytes = All-from_recursion (λ byte. byte < 256) s.ps h.name;
  pty = omega (arith, h.pty);
  texts = All-from_recursion IsText s.texts (texts_be s.texts h.texts);
}

new_service : CanBeService opening_service
new_service = record {
  pi = omega arith;
  eight = refl;
  name = (
    omega arith,
    (omega arith, (omega arith, (omega arith, (omega arith, (omega arith, (omega arith, (omega arith, tt))))))),
  );
  pty = omega arith;
  few_texts = omega arith;
  texts = tt;
}

main_can_be : (v : Store) → IsStation v → CanBeService (main_service v)
main_can_be v ok = by_number (slice_get v.services 0)
  where
    by_place : (number : ℕ) (o : Option ServiceData) → get v.places (v.current, number) ≡ o
        → CanBeService (unwrap_or o opening_service)
    by_place number None at = new_service
    by_place number (Some s) at = ok.each (v.current, number) s at

    by_number : (o : Option ℕ)
        → CanBeService (unwrap_or (option_and_then (λ number. get v.places (v.current, number)) o) opening_service)
    by_number None = new_service
    by_number (Some number) = by_place number (get v.places (v.current, number)) refl

-- ---- While nothing comes.

first_of : (gs : List StoredGroup) → AllByRecursion IsWaiting gs → AllByRecursion IsApart gs
    → IfSome (slice_get gs 0) IsOther
first_of [] can apart = tt
first_of (g ∷ gs) can apart = record {
  kind = omega (arith, can.0.kind);
  bits = omega (arith, can.0.bits);
  not_type_0 = apart.0.not_type_0;
  not_type_2 = apart.0.not_type_2;
  block3 = can.0.block3;
  block4 = can.0.block4;
}

no_15b_of : (gs : List StoredGroup) → AllByRecursion IsApart gs
    → IfSome (slice_get gs 0) (λ (g : StoredGroup). g.kind ≡ 31 → ⊥)
no_15b_of [] apart = tt
no_15b_of (g ∷ gs) apart = apart.0.not_15b

-- a take leaves the services, and of the groups that wait the rest
record Takes (v w : Store) : Type 0 where
  same : main_service w ≡ main_service v
  can : IsStation w
  apart : AllByRecursion IsApart w.groups

taken_so : (v : Store) → IsStation v → AllByRecursion IsApart v.groups → Takes v (group_taken v).0
taken_so v can apart = by_groups v.groups refl
  where
    by_groups : (gs : List StoredGroup) → v.groups ≡ gs → Takes v (group_taken v).0
    by_groups [] is =
        let none : (group_taken v).0 ≡ v = ap (λ (gs : List StoredGroup). (first_taken v gs).0) is in
        subst (λ (w : Store). Takes v w) (sym none) (record { same = refl; can = can; apart = apart })
    by_groups (g ∷ gs) is =
        let w : Store = record v { groups = gs } in
        let one : (group_taken v).0 ≡ w = ap (λ (gs : List StoredGroup). (first_taken v gs).0) is in
        subst (λ (w : Store). Takes v w) (sym one) (record {
          same = refl;
          can = subst IsStation one (are_stations.take v can);
          apart = (subst (AllByRecursion IsApart) is apart).1;
        })

next_so : (v : Store) (b : Bool) → IsStation v → AllByRecursion IsApart v.groups
    → Takes v (cond b (group_taken v).0 v)
next_so v true can apart = taken_so v can apart
next_so v false can apart = record { same = refl; can = can; apart = apart }

flags_on : (s : ServiceData) (n : ℕ) (v : Store) (c : Carousel) → main_service v ≡ s → IsStation v
    → AllByRecursion IsApart v.groups → AllByRecursion (HasFlags s) (on_air n v c)
flags_on s zero v c same can apart = tt
flags_on s (suc n) v c same can apart =
    let next = next_so v (is_queued v c) can apart in (
      record {
        has = record { same = same; first = first_of v.groups can.groups apart };
        no_15b = no_15b_of v.groups apart;
      },
      flags_on s n (aired v c).1 (aired v c).2 (next.same ∙ same) next.can next.apart,
    )

so_many : (n : ℕ) (v : Store) (c : Carousel) → length (on_air n v c) ≡ n
so_many zero v c = refl
so_many (suc n) v c = ap suc (so_many n (aired v c).1 (aired v c).2)

on_display : (v : Store) → IsStation v → IsOnDisplay v
on_display v can =
    let s : ServiceData = main_service v in
    let ok : IsService s = as_service s (main_can_be v can) in
    record {
      service = λ n c r apart enough.
          service_is_shown s (on_air n v c) c r ok (flags_on s n v c refl can apart)
          (let many = so_many n v c in omega (arith, many, enough));
      text = λ t n c r apart one enough.
          text_is_shown s t (on_air n v c) c r ok one (all_have s (on_air n v c) (flags_on s n v c refl can apart))
          (let many = so_many n v c in omega (arith, many, enough));
    }

-- ---- What messages leave.

bytes_at : (sent : List (List ℕ)) (k : ℕ) → AllByRecursion AreBytes sent → AreBytes (message_at sent k)
bytes_at [] k all = tt
bytes_at (m ∷ sent) zero all = all.0
bytes_at (m ∷ sent) (suc k) all = bytes_at sent k all.1

station_stays : (sent : List (List ℕ)) (v : Store) (acts : List Act) → IsStation v → AllByRecursion AreBytes sent
    → IsStation (value_after step group_taken sent v acts)
station_stays sent v [] can bytes = can
station_stays sent v (Message k ∷ acts) can bytes =
    station_stays sent (step v (message_at sent k)).0 acts
    (are_stations.message v (message_at sent k) can (bytes_at sent k bytes)) bytes
station_stays sent v (Taking ∷ acts) can bytes =
    station_stays sent (group_taken v).0 acts (are_stations.take v can) bytes

pub what_is_taken_is_shown_lem : WhatIsTakenIsShown
what_is_taken_is_shown_lem e before ready shut can events fit bytes =
    let s : Station Store = run_on_disks step group_taken e.address (station_from e before) events in
    let acts : List Act = history_on_disks step group_taken e.address (station_from e before) events in
    let sent : List (List ℕ) = s.world.once.sent in
    let h = headline_lem step group_taken e before ready shut events fit in
    let as_sent : length h.line.sent ≡ length sent = ap length h.holds.sent in
    let makes : s.world.encoder.value ≡ value_after step group_taken sent e.value acts =
    ap (λ e. e.value) (sym h.encoder) ∙ h.headline.store
    ∙ ap (λ (ms : List (List ℕ)). value_after step group_taken ms e.value acts) h.holds.sent in
    let station : IsStation s.world.encoder.value =
    subst IsStation (sym makes) (station_stays sent e.value acts can bytes) in
    record {
      applied = length h.line.codes;
      acts = acts;
      some = omega (arith, as_sent, h.headline.applied.0);
      all = λ each.
          let least : length sent ≤ length h.line.codes =
          all_below (length sent) (length h.line.codes)
          (λ k below. h.headline.acknowledged k (h.holds.acknowledged k ∙ each k below)) in
          omega (arith, least, as_sent, h.headline.applied.0);
      order = h.headline.order;
      makes = makes;
      station = station;
      shown = on_display s.world.encoder.value station;
    }

-- ---- Over epochs.

begins_well : (value left opening : Store) → (value ≡ left) ⊎ (value ≡ opening) → IsStation opening → IsStation left
    → IsStation value
begins_well value left opening (inl same) can can_left = subst IsStation (sym same) can_left
begins_well value left opening (inr same) can can_left = subst IsStation (sym same) can

pub shown_over_epochs_lem : ShownOverEpochs
shown_over_epochs_lem address opening before left [] are can can_left bytes = tt
shown_over_epochs_lem address opening before left (x ∷ xs) (at, ready, shut, value, fit, rest) can can_left bytes =
    let begun : IsStation x.encoder.value = begins_well x.encoder.value left opening value can can_left in
    let made = what_is_taken_is_shown_lem x.encoder before ready shut begun x.events fit bytes.0 in
    let s : Station Store = comes_to step group_taken before x in (
      made,
      shown_over_epochs_lem address opening s.server_file.taken s.world.encoder.value xs rest can made.station bytes.1,
    )

-- and so it is over both ends and the bytes between them
pub each_line_is_shown_lem : EachLineIsShown
each_line_is_shown_lem e server before ready shut can new events may bytes =
    let m = each_matches step group_taken e server before ready shut new events may in
    let sent : List (List ℕ) = m.s.world.once.sent in
    let law = law_at step group_taken e before ready shut m.s m.acts m.backed in
    let x : Ends Store = run_ends step group_taken (ends_from e server before) events in
    let makes : x.transmitter.encoder.value ≡ value_after step group_taken sent e.value m.acts =
    ap (λ (k : Kept Store). k.value) m.kept ∙ law.2.target in
    let station : IsStation x.transmitter.encoder.value =
    subst IsStation (sym makes)
    (station_stays sent e.value m.acts can (subst (AllByRecursion AreBytes) m.studio.sent bytes)) in
    record {
      once = each_line_once_lem step group_taken e server before ready shut new events may;
      station = station;
      shown = on_display x.transmitter.encoder.value station;
    }
