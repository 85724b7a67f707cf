-- A store that is told is made, by the events of a line alone.
use Rattle.std.proofs.Common.{◌≡◌, ℕ, zero, suc, ◌+◌, ◌<◌, ◌≤◌, List, [], length, append-nil, refl, ap, sym, subst, ◌∙◌}
use Rattle.std.proofs.Common.{arith}
use Rattle.rds_store.specs.Value.{Store}
use Rattle.rds_store.specs.Step.{step, group_taken}
use Rattle.uecp_link.specs.History.{Act, messages_in, numbers_below, history}
use Rattle.uecp_link.specs.Fold.{value_after, codes_after}
use Rattle.uecp_link.specs.Law.{World, run, start_from}
use Rattle.uecp_link.specs.Once.{at_first}
use Rattle.uecp_link.proofs.Public.{law_from}
use Rattle.store_phrases.specs.Said.{said_of}
use Rattle.store_phrases.specs.Laws.{messages_of, told, AreAlike, AppliesEach}
use Rattle.store_phrases.proofs.Public.{all_sayable, said_by_elements, store_said}
use Rattle.rds_text.specs.declared.programme_type.Region.TheVariants.{Europe}
use Rattle.promises.specs.Made.{takes_in, IsButTaken, IsTold}
use Rattle.promises.specs.StationLaws.{ToldByEvents}
use Rattle.promises.proofs.StationTurns.{AreApplied, said_in, all_said}
use Rattle.promises.proofs.Taking.{history_but, none_taken}
use Rattle.promises.proofs.StationAnswering.{codes_applied}

-- so many numbers are below a bound where each of them is
pub all_below : (n bound : ℕ) → ((k : ℕ) → k < n → k < bound) → n ≤ bound
all_below zero bound h = omega arith
all_below (suc n) bound h = let last = h n (omega arith) in omega (arith, last)

-- what a history makes that has each message that tells a store, once and in order
told_by_history : (v opening store : Store) (acts : List Act) → AreAlike v opening
    → messages_in acts ≡ numbers_below (length (messages_of v))
    → store ≡ value_after step group_taken (messages_of v) opening acts → IsTold v opening (takes_in acts) store
told_by_history v opening store acts alike order is =
    let station : List (List ℕ) = messages_of v in
    let said : said_in station acts ≡ station = all_said station acts order in
    let codes : AreApplied (codes_after step group_taken station opening acts) =
    codes_applied station 0 opening opening (told v opening) (said_of v) [] acts (all_sayable v alike.said) alike.held
    (record { gone = []; groups = refl; few = omega arith; others = refl }) (said_by_elements v opening alike)
    (append-nil (said_in station acts) ∙ said) in
    let puts : AppliesEach opening (said_in station acts) (told v opening) =
    subst (λ (ms : List (List ℕ)). AppliesEach opening ms (told v opening)) (sym said)
    (store_said Europe v opening alike).1 in
    let but : IsButTaken (takes_in acts) (told v opening) store =
    subst (λ (x : Store). IsButTaken (takes_in acts) (told v opening) x) (sym is)
    (subst (λ (n : ℕ). IsButTaken n (told v opening) (value_after step group_taken station opening acts))
    (let none : 0 + takes_in acts ≡ takes_in acts = omega arith in none)
    (history_but station 0 opening opening (told v opening) acts
    (record { gone = []; groups = refl; few = omega arith; others = refl }) puts codes)) in
    record { taken = but; whole = none_taken (takes_in acts) (told v opening) store but }

pub told_by_events_lem : ToldByEvents
told_by_events_lem v e ready shut alike events fit sent all =
    let w : World Store = run step group_taken e.address (start_from e) events in
    let acts : List Act = history step group_taken (at_first e.value) events in
    let station : List (List ℕ) = messages_of v in
    let law = law_from step group_taken e ready shut events fit in
    let as_sent : length w.once.sent ≡ length station = ap length sent in
    let more : length station ≤ law.0 =
    all_below (length station) law.0 (λ k l. law.1.acknowledged k (all k l)) in
    let each : law.0 ≡ length station = omega (arith, more, as_sent, law.1.all_but_eight.0) in
    told_by_history v e.value w.encoder.value acts alike (law.2.order ∙ ap numbers_below each)
    (law.2.target ∙ ap (λ (ms : List (List ℕ)). value_after step group_taken ms e.value acts) sent)
