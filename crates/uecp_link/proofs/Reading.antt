-- Reads, one after another.
use Rattle.std.proofs.Common.{◌≡◌, ℕ, ◌+◌, ◌≤◌, Bool, true, false, cond, List, [], ◌++◌, length, take, Option, refl}
use Rattle.std.proofs.Common.{◌∙◌, ap, subst, arith, append-nil, length-append}
use Rattle.std.specs.Io.KnownBytes.{Consumes, Keeps}
use Rattle.std.proofs.KnownBytes.{Consumes-nil, Consumes-kept, Consumes-trans}
use Rattle.uecp_encoder.specs.Metered.{Metered, counted}
use Rattle.uecp_link.specs.Reading.{Reads}

module _ {R : Type 0} (remaining : R → Option (List ℕ)) where
  pub no_read : (r : Metered R) → Reads remaining r r [] 0 0 false
  no_read r = record {
    consumed = Consumes-nil _;
    few_bytes = omega arith;
    calls = λ h. omega arith;
    failures = λ h. omega arith;
    empties = refl;
  }

  -- a read that brings bytes
  pub one_read : (r r' : Metered R) (piece : List ℕ) → Consumes (remaining r.device) (remaining r'.device) piece
      → length piece ≤ 64 → r'.calls ≡ counted r.calls → r'.failures ≡ r.failures → r'.empty ≡ r.empty
      → Reads remaining r r' piece 1 0 false
  one_read r r' piece took few calls failures empty = record {
    consumed = took;
    few_bytes = omega (arith, few);
    calls = λ h. omega (arith, calls, h);
    failures = λ h. omega (arith, failures);
    empties = empty;
  }

  -- a read that fails
  pub failed_read : (r r' : Metered R) → Keeps (remaining r.device) (remaining r'.device)
      → r'.calls ≡ counted r.calls → r'.failures ≡ counted r.failures → r'.empty ≡ r.empty
      → Reads remaining r r' [] 1 1 false
  failed_read r r' kept calls failures empty = record {
    consumed = Consumes-kept _ _ _ _ (Consumes-nil _) kept;
    few_bytes = omega arith;
    calls = λ h. omega (arith, calls, h);
    failures = λ h. omega (arith, failures, h);
    empties = empty;
  }

  -- a read that meets the end of input: none of what it was to fill
  pub last_read : (r r' : Metered R) (buffer : List ℕ) (n : ℕ) → n ≡ 0
      → Consumes (remaining r.device) (remaining r'.device) (take n buffer)
      → r'.calls ≡ counted r.calls → r'.failures ≡ r.failures → r'.empty ≡ counted r.empty
      → Reads remaining r r' [] 1 0 true
  last_read r r' buffer n none took calls failures empty = record {
    consumed = subst (λ k. Consumes (remaining r.device) (remaining r'.device) (take k buffer)) none took;
    few_bytes = omega arith;
    calls = λ h. omega (arith, calls, h);
    failures = λ h. omega (arith, failures);
    empties = empty;
  }

  -- more reads after these
  pub reads_on : (r0 r1 r2 : Metered R) (x : List ℕ) (n f : ℕ) → Reads remaining r0 r1 x n f false
      → (y : List ℕ) (m g : ℕ) (ended : Bool) → Reads remaining r1 r2 y m g ended
      → Reads remaining r0 r2 (x ++ y) (n + m) (f + g) ended
  reads_on r0 r1 r2 x n f before y m g ended after = record {
    consumed = Consumes-trans _ _ _ _ _ before.consumed after.consumed;
    few_bytes = omega (arith, length-append x y, before.few_bytes, after.few_bytes);
    calls = λ h. let c = before.calls (omega (arith, h)) in omega (arith, c, after.calls (omega (arith, h, c)));
    failures = λ h. let c = before.failures (omega (arith, h)) in
        omega (arith, c, after.failures (omega (arith, h, c)));
    empties = after.empties ∙ ap (λ (k : ℕ). cond ended (counted k) k) before.empties;
  }

  -- reads of which none failed, and more that bring no bytes
  pub reads_end : (r0 r1 r2 : Metered R) (x : List ℕ) (n : ℕ) → Reads remaining r0 r1 x n 0 false
      → (m g : ℕ) (ended : Bool) → Reads remaining r1 r2 [] m g ended → Reads remaining r0 r2 x (n + m) g ended
  reads_end r0 r1 r2 x n before m g ended after =
      let same : 0 + g ≡ g = omega arith in
      subst (λ k. Reads remaining r0 r2 x (n + m) k ended) same
      (subst (λ bytes. Reads remaining r0 r2 bytes (n + m) (0 + g) ended) (append-nil x)
      (reads_on r0 r1 r2 x n 0 before [] m g ended after))
