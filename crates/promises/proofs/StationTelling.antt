-- What was told of a number is so: it is acknowledged, and that is its code.
use Rattle.std.proofs.Common.{◌≡◌, ℕ, Bool, true, false, cond, List, [], ◌∷◌, Option, Some, None, Ok, Err, refl, ap}
use Rattle.std.proofs.Common.{sym, subst, ◌∙◌, inl, inr, eq-eqb}
use Rattle.std.proofs.lemmas.Bool.{cases_eq, ne_eqb}
use Rattle.uecp_elements.specs.declared.code.Code.{Code}
use Rattle.uecp_encoder.specs.Target.{Step, Taken}
use Rattle.uecp_link.specs.declared.stepped.Stepped.TheVariants as stepped
use Rattle.uecp_link.specs.Once.{Event, Submit, FrameComes, ReplyComes, NoiseToEncoder, NoiseToServer, EncoderLost}
use Rattle.uecp_link.specs.Once.{ServerLost, EncoderRestart, ServerRestart, Take, Once, Acknowledged, applied_once}
use Rattle.uecp_link.specs.Once.{delivered, after, acknowledgement, is_next}
use Rattle.std.proofs.Common.{length}
use Rattle.uecp_link.specs.Once.{message_at}
use Rattle.uecp_link.specs.Holds.{LineState, Outcome, Holds, Plays, once_after}
use Rattle.uecp_link.specs.Window.{code_under}
use Rattle.uecp_link.proofs.Public.{with_code-other, with_member-true, with_member-same}
use Rattle.promises.specs.StationTold.{told_over}

-- the number is acknowledged, and has this code
abbrev pub IsToldOf : {V : Type 0} → Once V → ℕ → Code → Type 0
IsToldOf o k c = (o.codes k ≡ Some c) × (o.acknowledged k ≡ true)

none_some : (c : Code) → ◌≡◌ {A = Option Code} None (Some c) → ⊥
none_some c h = cc

some_same : (a b : Code) → ◌≡◌ {A = Option Code} (Some a) (Some b) → a ≡ b
some_same a b h = cc

code_in : (b : Bool) (o : Option Code) (c : Code) → Acknowledged c ≡ acknowledgement b o → o ≡ Some c
code_in false (Some x) c h = let same : c ≡ x = cc in ap (λ (y : Code). Some y) (sym same)
code_in false None c h = absurd (let bad : ⊥ = cc in bad)
code_in true (Some x) c h = absurd (let bad : ⊥ = cc in bad)
code_in true None c h = absurd (let bad : ⊥ = cc in bad)

module _ {V : Type 0} (step : Step V) (taken : Taken V) where
  delivered_keeps : (o : Once V) (j : ℕ) (code : Option Code) → o.codes j ≡ code → (k : ℕ) (c : Code) → IsToldOf o k c
      → IsToldOf (delivered step o j code) k c
  delivered_keeps o j (Some x) is k c h = h
  delivered_keeps o j None is k c h = go (is_next o.codes (length o.sent) j)
    where
      go : (next : Bool) → IsToldOf {V = V} (cond next (applied_once step o j) (record o { to_encoder = [] })) k c
      go true = (
        with_code-other o.codes j (step o.value (message_at o.sent j)).1 k
            (λ e. none_some c (sym is ∙ (ap o.codes (sym e) ∙ h.0))) ∙ h.0,
        h.1,
      )
      go false = h

  -- what was told stays so
  stays : (o : Once V) (event : Event) (k : ℕ) (c : Code) → IsToldOf o k c → IsToldOf (after step taken o event) k c
  stays o (Submit m) k c h = h
  stays o (FrameComes j) k c h = delivered_keeps o j (o.codes j) refl k c h
  stays o (ReplyComes j) k c h = (h.0, with_member-true o.acknowledged j k h.1)
  stays o (NoiseToEncoder x) k c h = h
  stays o (NoiseToServer x) k c h = h
  stays o EncoderLost k c h = h
  stays o ServerLost k c h = h
  stays o EncoderRestart k c h = h
  stays o ServerRestart k c h = h
  stays o Take k c h = h

  stays_by : (o : Once V) (event : Event) (outcome : Outcome) (k : ℕ) (c : Code) → IsToldOf o k c
      → IsToldOf (once_after step taken o event outcome) k c
  stays_by o event (Ok stepped) k c h = stays o event k c h
  stays_by o event (Err refusal) k c h = h

  stays_over : (events : List Event) (outcomes : List Outcome) (line line' : LineState V) (o o' : Once V)
      → Plays step taken line o events outcomes line' o' → (k : ℕ) (c : Code) → IsToldOf o k c → IsToldOf o' k c
  stays_over [] [] line line' o o' p k c h = subst (λ (x : Once V). IsToldOf x k c) (sym p.1) h
  stays_over [] (r ∷ rs) line line' o o' p k c h = absurd p
  stays_over (e ∷ es) [] line line' o o' p k c h = absurd p
  stays_over (e ∷ es) (r ∷ rs) line line' o o' p k c h =
      stays_over es rs p.0 line' (once_after step taken o e r) o' p.2 k c (stays_by o e r k c h)

  -- and what was told is so
  pub told_is : (events : List Event) (outcomes : List Outcome) (line line' : LineState V) (o o' : Once V)
      → Plays step taken line o events outcomes line' o' → (k : ℕ) (c : Code)
      → code_under k (told_over events outcomes) ≡ Some c → IsToldOf o' k c
  told_is [] [] line line' o o' p k c h = absurd (none_some c h)
  told_is [] (r ∷ rs) line line' o o' p k c h = absurd p
  told_is (e ∷ es) [] line line' o o' p k c h = absurd p
  told_is (ReplyComes j ∷ es) (Ok (stepped.Acknowledged code) ∷ rs) line line' o o' p k c h =
      elim (cases_eq j k) [
        | inl e ↦
            let same : code ≡ c = first e h in
            let had : o.codes j ≡ Some code = code_in (o.acknowledged j) (o.codes j) code p.1.1.answer in
            stays_over es rs p.0 line' (after step taken o (ReplyComes j)) o' p.2 k c (
              ap o.codes (sym e) ∙ had ∙ ap (λ (x : Code). Some x) same,
              with_member-same o.acknowledged j k (sym e),
            )
        | inr ne ↦ told_is es rs p.0 line' (after step taken o (ReplyComes j)) o' p.2 k c (later ne h)
      ]
    where
      first : j ≡ k → code_under k (told_over (ReplyComes j ∷ es) (Ok (stepped.Acknowledged code) ∷ rs)) ≡ Some c
          → code ≡ c
      first e h = some_same code c
          (sym (ap (λ (b : Bool). cond b (Some code) (code_under k (told_over es rs))) (eq-eqb j k e)) ∙ h)

      later : (j ≡ k → ⊥) → code_under k (told_over (ReplyComes j ∷ es) (Ok (stepped.Acknowledged code) ∷ rs)) ≡ Some c
          → code_under k (told_over es rs) ≡ Some c
      later ne h = sym (ap (λ (b : Bool). cond b (Some code) (code_under k (told_over es rs))) (ne_eqb j k ne)) ∙ h
  told_is (e ∷ es) (Err r ∷ rs) line line' o o' p k c h = told_is es rs p.0 line' o o' p.2 k c h
  told_is (e ∷ es) (Ok r ∷ rs) line line' o o' p k c h =
      told_is es rs p.0 line' (after step taken o e) o' p.2 k c h

  -- a line that plays holds what the once-machine holds
  pub holds_over : (events : List Event) (outcomes : List Outcome) (line line' : LineState V) (o o' : Once V)
      → Plays step taken line o events outcomes line' o' → Holds line o → Holds line' o'
  holds_over [] [] line line' o o' p h =
      subst (λ (l : LineState V). Holds l o') (sym p.0) (subst (λ (x : Once V). Holds line x) (sym p.1) h)
  holds_over [] (r ∷ rs) line line' o o' p h = absurd p
  holds_over (e ∷ es) [] line line' o o' p h = absurd p
  holds_over (e ∷ es) (Ok stepped ∷ rs) line line' o o' p h =
      holds_over es rs p.0 line' (after step taken o e) o' p.2 p.1.1.holds
  holds_over (e ∷ es) (Err refusal ∷ rs) line line' o o' p h =
      holds_over es rs p.0 line' o o' p.2 (subst (λ (l : LineState V). Holds l o) (sym p.1.1) h)
