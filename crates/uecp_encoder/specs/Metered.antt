-- What a contract sees of a meter: the device, and what was counted. Source: profile.
use Rattle.std.specs.Prelude.{ℕ, ◌+◌, ◌-◌, ◌^◌, ◌==◌, min, refl, if◌then◌else◌, is_err, Result, Ok, Err}
use Rattle.std.specs.Coded.{Coded, code_by, coded×, coded_ℕ}

-- a device, how many calls of it were made, how many of them failed, and how many reads brought nothing, as the input
-- was at its end
pub record Metered (D : Type 0) : Type 0 where
  pub device : D
  pub calls : ℕ
  pub failures : ℕ
  pub empty : ℕ

abbrev pub metered_code : {D : Type 0} → Coded D → Coded (Metered D)
metered_code {D} code =
    code_by (D × (ℕ × (ℕ × ℕ))) (coded× code (coded× coded_ℕ (coded× coded_ℕ coded_ℕ)))
    (λ m. (m.device, (m.calls, (m.failures, m.empty))))
    (λ p. record { device = p.0; calls = p.1.0; failures = p.1.1.0; empty = p.1.1.1 }) (λ _. refl)

-- one more, up to the greatest count
abbrev pub counted : ℕ → ℕ
counted n = min (n + 1) (2 ^ 128 - 1)

-- the failures after calls that ended so: one more where the last failed
abbrev pub failures_after : {A E : Type 0} → Result A E → ℕ → ℕ
failures_after result failures = if is_err result then counted failures else failures

-- the empty reads after a read that ended so: one more where it brought nothing
abbrev pub empty_after : {E : Type 0} → Result ℕ E → ℕ → ℕ
empty_after (Ok count) empty = if count == 0 then counted empty else empty
empty_after (Err fault) empty = empty
