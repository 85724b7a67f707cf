-- How a run of a device ended.
use Rattle.std.proofs.Common.{◌≡◌, ◌⊎◌, ◌∙◌, sym, inl, inr}
use Rattle.std.specs.Prelude.{ℕ, List, Ok, Err}
use Rattle.kept_jobs.specs.declared.stop.KeptStop.{KeptStop}
use Rattle.kept_jobs.specs.Stops.{Went, stop_lines}
use Rattle.state_jobs.specs.Texts.{Closed, IsClosed}
use Rattle.notices.specs.Told.{Told, Says}

-- by what the clauses of a run say: it is done, or it stopped
pub ends : (runs : Went → Type 0) (said said' : Told) (status : ℕ)
    → (status ≡ 0) ⊎ (status ≡ 3) → (status ≡ 0 → runs (Ok tt) × (said' ≡ said))
    → (status ≡ 3 → (stop : KeptStop) × runs (Err stop) × Says said said' (stop_lines stop))
    → ((status ≡ 0) × runs (Ok tt) × (said' ≡ said))
    ⊎ ((stop : KeptStop) × (status ≡ 3) × runs (Err stop) × Says said said' (stop_lines stop))
ends runs said said' status is done failed = elim is [
  | inl zero ↦ let ran = done zero in inl (zero, ran.0, ran.1)
  | inr three ↦ let ran = failed three in inr (ran.0, three, ran.1, ran.2)
]

-- so it is where its state was then closed
pub status_after : (path : List ℕ) (status : ℕ) (closed : Closed) (status' : ℕ) (told told' : Told)
    → (status ≡ 0) ⊎ (status ≡ 3) → IsClosed path status closed status' told told' → (status' ≡ 0) ⊎ (status' ≡ 3)
status_after path status (Ok done) status' told told' (inl was) is = inl (is.0 ∙ was)
status_after path status (Ok done) status' told told' (inr was) is = inr (is.0 ∙ was)
status_after path status (Err fault) status' told told' was is = inr is.0

-- 0 is not 3
pub not_three : (status : ℕ) → status ≡ 0 → status ≡ 3 → ⊥
not_three status is three = absurd (let no : 0 ≡ 3 = sym is ∙ three in cc)
