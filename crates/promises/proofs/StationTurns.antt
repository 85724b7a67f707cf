-- What messages make that are applied one after another, by the history of a line.
use Rattle.std.proofs.Common.{◌≡◌, ℕ, zero, suc, ◌+◌, ◌≤◌, List, [], ◌∷◌, ◌++◌, length, map, take, refl, ap, sym}
use Rattle.std.proofs.Common.{◌∙◌, arith}
use Rattle.std.specs.List.{AllByRecursion}
use Rattle.std.proofs.lemmas.List.{map-append, take_more, take_all}
use Rattle.uecp_elements.specs.declared.code.Code.{Code}
use Rattle.uecp_elements.specs.declared.code.Code.TheVariants.{Applied}
use Rattle.uecp_encoder.specs.Target.{Step, Taken}
use Rattle.uecp_link.specs.Once.{message_at}
use Rattle.uecp_link.specs.History.{Act, Message, Taking, messages_in, numbers_below}
use Rattle.uecp_link.specs.Fold.{value_after, codes_after}
use Rattle.promises.specs.Made.{takes_in, MakesEach}

-- all of these codes are 00
abbrev pub AreApplied : List Code → Type 0
AreApplied codes = AllByRecursion (λ code. code ≡ Applied) codes

-- the messages of a history, in order
abbrev pub said_in : (sent : List (List ℕ)) → List Act → List (List ℕ)
said_in sent acts = map (message_at sent) (messages_in acts)

pub first_ones : (sent : List (List ℕ)) (n : ℕ) → n ≤ length sent
    → map (message_at sent) (numbers_below n) ≡ take n sent
first_ones sent zero l = refl
first_ones sent (suc n) l =
    map-append (message_at sent) (numbers_below n) (n ∷ [])
    ∙ ap (λ (ms : List (List ℕ)). ms ++ message_at sent n ∷ []) (first_ones sent n (omega (arith, l)))
    ∙ sym (take_more sent n [] (omega (arith, l)))
    ∙ ap (λ (k : ℕ). take k sent) (let e : n + 1 ≡ suc n = omega arith in e)

-- where the history has each message that was sent, once and in order, they are those
pub all_said : (sent : List (List ℕ)) (acts : List Act) → messages_in acts ≡ numbers_below (length sent)
    → said_in sent acts ≡ sent
all_said sent acts h =
    ap (map (message_at sent)) h ∙ (first_ones sent (length sent) (omega arith)
    ∙ take_all (length sent) sent (omega arith))

-- without a take they make the store one after another
pub untaken : {V : Type 0} (step : Step V) (taken : Taken V) (sent : List (List ℕ)) (v : V) (acts : List Act)
    → takes_in acts ≡ 0 → AreApplied (codes_after step taken sent v acts)
    → MakesEach step v (said_in sent acts) (value_after step taken sent v acts)
untaken step taken sent v [] none all = refl
untaken step taken sent v (Message k ∷ acts) none all =
    (all.0, untaken step taken sent (step v (message_at sent k)).0 acts none all.1)
untaken step taken sent v (Taking ∷ acts) none all = absurd (omega (arith, none))
