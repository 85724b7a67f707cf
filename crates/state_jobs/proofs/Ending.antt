-- How a run whose state was then closed ended.
use Rattle.std.proofs.Common.{◌≡◌, ◌⊎◌, ℕ, List, refl, sym, ◌∙◌, inl, inr, subst}
use Rattle.std.specs.Prelude.{Ok, Err}
use Rattle.kept_jobs.specs.Stops.{Went}
use Rattle.kept_jobs.specs.ServerRun.{IsTold}
use Rattle.state_jobs.specs.Texts.{fault_line, Closed, IsClosed}
use Rattle.state_jobs.specs.Kept.{SaysMore, SaysWhy}
use Rattle.state_jobs.specs.ServerJob.{status_so}
use Rattle.notices.specs.Told.{Told, Says}

pub status_after : (path : List ℕ) (status : ℕ) (closed : Closed) (status' : ℕ) (told told' : Told)
    → (status ≡ 0) ⊎ ((status ≡ 1) ⊎ (status ≡ 3)) → IsClosed path status closed status' told told'
    → (status' ≡ 0) ⊎ ((status' ≡ 1) ⊎ (status' ≡ 3))
status_after path status (Ok done) status' told told' (inl was) is = inl (is.0 ∙ was)
status_after path status (Ok done) status' told told' (inr (inl was)) is = inr (inl (is.0 ∙ was))
status_after path status (Ok done) status' told told' (inr (inr was)) is = inr (inr (is.0 ∙ was))
status_after path status (Err fault) status' told told' was is = inr (inr is.0)

-- where the status is not 3 the close went well
pub closed_well : (path : List ℕ) (status : ℕ) (closed : Closed) (status' : ℕ) (told told' : Told)
    → (status' ≡ 3 → ⊥) → IsClosed path status closed status' told told'
    → (closed ≡ Ok tt) × (status ≡ status') × (told' ≡ told)
closed_well path status (Ok done) status' told told' never is = (refl, sym is.0, is.1)
closed_well path status (Err fault) status' told told' never is = absurd (never is.0)

pub says_more : (path : List ℕ) (status : ℕ) (closed : Closed) (status' : ℕ) (told told' : Told)
    → IsClosed path status closed status' told told' → SaysMore path told told'
says_more path status (Ok done) status' told told' is = inl is.1
says_more path status (Err fault) status' told told' is = inr (fault, is.1)

-- what was said of a run whose state was then closed, where the status is 3
pub says_end : (path : List ℕ) (went : Went) (status : ℕ) (closed : Closed) (told between told' : Told)
    → IsTold Says went status told between → IsClosed path status closed 3 between told' → SaysWhy path told told'
says_end path (Err stop) status closed told between told' is closes =
    inr (stop, between, is.1, says_more path status closed 3 between told' closes)
says_end path (Ok done) status (Ok well) told between told' is closes =
    absurd (let three : 3 ≡ 0 = closes.0 ∙ is.0 in cc)
says_end path (Ok done) status (Err fault) told between told' is closes =
    inl (fault, subst (λ x. Says x told' (fault_line path fault)) is.1 closes.1)

-- the status of a run that was told is that of how it went
told_status : (went : Went) (status : ℕ) (told told' : Told) → IsTold Says went status told told'
    → status ≡ status_so went
told_status (Ok done) status told told' is = is.0
told_status (Err stop) status told told' is = is.0

pub told_so : (went : Went) (status : ℕ) (told told' : Told) → IsTold Says went status told told'
    → (status_so went ≡ 0) ⊎ (status_so went ≡ 1) → (status ≡ 0) ⊎ (status ≡ 1)
told_so went status told told' is was = elim was [
  | inl done ↦ inl (told_status went status told told' is ∙ done)
  | inr refused ↦ inr (told_status went status told told' is ∙ refused)
]
