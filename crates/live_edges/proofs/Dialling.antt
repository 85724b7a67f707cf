-- Connections that are asked for again and again.
use Rattle.std.proofs.Common.{◌≡◌, ◌≢◌, ◌⊎◌, inl, inr, ℕ, zero, suc, true, [], ◌++◌, Option, None, refl, ◌∙◌, sym}
use Rattle.std.proofs.Common.{subst}
use Rattle.uecp_text.proofs.Public.{appends_nothing, appends_then}
use Rattle.live_edges.specs.declared.patience.Patience.{Patience}
use Rattle.live_edges.specs.Patience.{Dialled, SaysOn, Misses, IsOver}

pub says_nothing : {C : Type 0} (d : Dialled C) → SaysOn d d
says_nothing d = (refl, ([], appends_nothing d.told))

pub says_then : {C : Type 0} (a b c : Dialled C) → SaysOn a b → SaysOn b c → SaysOn a c
says_then a b c first second = (
  second.0 ∙ first.0,
  (first.1.0 ++ second.1.0, appends_then a.told b.told c.told first.1.0 second.1.0 first.1.1 second.1.1),
)

pub misses_then : {C I O : Type 0} (opens : C → Option (I × O) → C → Type 0) (count : ℕ) (a b c : C)
    → Misses opens count a b → c ≡ b → Misses opens count a c
misses_then opens count a b c missed same = subst (λ now. Misses opens count a now) (sym same) missed

pub misses_more : {C I O : Type 0} (opens : C → Option (I × O) → C → Type 0) (count : ℕ) (a b c : C)
    → Misses opens count a b → opens b None c → Misses opens (suc count) a c
misses_more opens zero a b c same missed = (c, subst (λ from. opens from None c) same missed, refl)
misses_more opens (suc count) a b c (next, first, rest) missed =
    (next, first, misses_more opens count next b c rest missed)

pub over_as_before : (old now : Patience) (tries : ℕ) → now ≡ old
    → (now.give_up ≢ None) ⊎ (now.stop_when_silent ≡ true) → IsOver old tries
over_as_before old now tries same (inl given_up) = inl (subst (λ (p : Patience). p.give_up ≢ None) same given_up)
over_as_before old now tries same (inr stops) =
    inr (inl (subst (λ (p : Patience). p.stop_when_silent ≡ true) same stops))
