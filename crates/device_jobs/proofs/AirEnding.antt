-- How a run on the air ended.
use Rattle.std.proofs.Common.{◌≡◌, ◌⊎◌, subst, inl, inr}
use Rattle.std.specs.Prelude.{ℕ, Ok, Err}
use Rattle.carousel.specs.Carousel.{Carousel, restarted}
use Rattle.notices.specs.Told.{Told, Says}
use Rattle.kept_jobs.specs.declared.stop.KeptStop.{KeptStop}
use Rattle.kept_jobs.specs.Stops.{Went, stop_lines}

-- by what the clauses of a run say: it is done, or it stopped
pub ends : (runs : Carousel → (left : ℕ) → Went → Type 0) (said said' : Told) (status : ℕ) (start : Carousel)
    → start ≡ restarted → (status ≡ 0) ⊎ (status ≡ 3)
    → (status ≡ 0 → (left : ℕ) × runs start left (Ok tt) × (said' ≡ said))
    → (status ≡ 3 → (stop : KeptStop) × (left : ℕ) × runs start left (Err stop)
    × Says said said' (stop_lines stop))
    → (left : ℕ) × (((status ≡ 0) × runs restarted left (Ok tt) × (said' ≡ said))
    ⊎ ((stop : KeptStop) × (status ≡ 3) × runs restarted left (Err stop)
    × Says said said' (stop_lines stop)))
ends runs said said' status start is which done failed = elim which [
  | inl zero ↦ let ran = done zero in
      (ran.0, inl (zero, subst (λ (c : Carousel). runs c ran.0 (Ok tt)) is ran.1, ran.2))
  | inr three ↦ let ran = failed three in
      (ran.1, inr (ran.0, three, subst (λ (c : Carousel). runs c ran.1 (Err ran.0)) is ran.2, ran.3))
]
