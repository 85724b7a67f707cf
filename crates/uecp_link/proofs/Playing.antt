-- A run of events, one event more at its end.
use Rattle.std.proofs.Common.{◌≡◌, ℕ, ◌+◌, List, [], ◌∷◌, ◌++◌, Ok, Err, refl, ap, sym, subst, cond, arith}
use Rattle.std.specs.List.{count_by}
use Rattle.std.specs.Result.{is_err}
use Rattle.std.proofs.lemmas.List.Sums.{sum_by-append}
use Rattle.std.specs.List.{AllByRecursion}
use Rattle.uecp_encoder.specs.Target.{Step, Taken}
use Rattle.uecp_link.specs.declared.refusal.LineRefusal.{LineRefusal}
use Rattle.uecp_link.specs.declared.stepped.Stepped.{Stepped}
use Rattle.uecp_link.specs.Once.{Event, Once, after}
use Rattle.uecp_link.specs.Law.{Fits}
use Rattle.uecp_link.specs.Holds.{LineState, Outcome, Holds, StepsAs, StepsTo, once_after, Plays, RunsAs}
use Rattle.uecp_link.specs.Events.{Refuses}

-- a run and one step more
pub plays-more : {V : Type 0} (step : Step V) (taken : Taken V) (line : LineState V) (o : Once V) (events : List Event)
    (outcomes : List Outcome) (line' : LineState V) (o' : Once V)
    → Plays step taken line o events outcomes line' o' → (event : Event) (outcome : Outcome) (new : LineState V)
    → StepsTo step taken line' o' event outcome new
    → Plays step taken line o (events ++ event ∷ []) (outcomes ++ outcome ∷ []) new
    (once_after step taken o' event outcome)
plays-more step taken line o [] [] line' o' p event outcome new s = (
  new,
  subst (λ (l : LineState _). StepsTo step taken l o event outcome new) p.0
      (subst (λ (x : Once _). StepsTo step taken line' x event outcome new) p.1 s),
  (refl, ap (λ (x : Once _). once_after step taken x event outcome) p.1),
)
plays-more step taken line o [] (r ∷ rs) line' o' p event outcome new s = absurd p
plays-more step taken line o (e ∷ es) [] line' o' p event outcome new s = absurd p
plays-more step taken line o (e ∷ es) (r ∷ rs) line' o' p event outcome new s =
    (p.0, p.1, plays-more step taken p.0 (once_after step taken o e r) es rs line' o' p.2 event outcome new s)

-- one outcome more is one refusal more, or none
pub refused-more : (outcomes : List Outcome) (outcome : Outcome)
    → count_by is_err (outcomes ++ outcome ∷ []) ≡ count_by is_err outcomes + count_by is_err (outcome ∷ [])
refused-more outcomes outcome = sum_by-append (λ r. cond (is_err r) 1 0) outcomes (outcome ∷ [])

-- a run of a line, and one step more that is taken, or refused
pub runs-taken : {V : Type 0} (step : Step V) (taken : Taken V) (line : LineState V) (o : Once V) (events : List Event)
    (refused : ℕ) (line' : LineState V) → (r : RunsAs step taken line o events refused line')
    → (event : Event) (stepped : Stepped) (new : LineState V) → Fits event
    → StepsAs step taken line' r.last event stepped new
    → RunsAs step taken line o (events ++ event ∷ []) refused new
runs-taken step taken line o events refused line' r event stepped new fit s = record {
  outcomes = r.outcomes ++ Ok stepped ∷ [];
  last = after step taken r.last event;
  plays = plays-more step taken line o events r.outcomes line' r.last r.plays event (Ok stepped) new (fit, s);
  count = let e = refused-more r.outcomes (Ok stepped) in omega (arith, e, r.count);
  holds = s.holds;
}

pub runs-refused : {V : Type 0} (step : Step V) (taken : Taken V) (line : LineState V) (o : Once V)
    (events : List Event) (refused : ℕ) (line' : LineState V) → (r : RunsAs step taken line o events refused line')
    → (event : Event) (refusal : LineRefusal) (new : LineState V) → Refuses r.last event refusal → new ≡ line'
    → RunsAs step taken line o (events ++ event ∷ []) (refused + 1) new
runs-refused step taken line o events refused line' r event refusal new why same = record {
  outcomes = r.outcomes ++ Err refusal ∷ [];
  last = r.last;
  plays = plays-more step taken line o events r.outcomes line' r.last r.plays event (Err refusal) new (why, same);
  count = let e = refused-more r.outcomes (Err refusal) in omega (arith, e, r.count);
  holds = subst (λ (l : LineState _). Holds l r.last) (sym same) r.holds;
}

pub fits_more : (events : List Event) (event : Event) → AllByRecursion Fits events → Fits event
    → AllByRecursion Fits (events ++ event ∷ [])
fits_more [] event all fit = (fit, tt)
fits_more (e ∷ events) event all fit = (all.0, fits_more events event all.1 fit)

-- at first nothing was played
pub runs-none : {V : Type 0} (step : Step V) (taken : Taken V) (line : LineState V) (o : Once V) → Holds line o
    → RunsAs step taken line o [] 0 line
runs-none step taken line o h = record { outcomes = []; last = o; plays = (refl, refl); count = refl; holds = h }
