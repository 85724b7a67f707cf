-- One connection more.
use Rattle.std.proofs.Common.{◌≡◌, ℕ, ◌+◌, List, [], ◌∷◌, ◌++◌, length, Option, refl, ◌∙◌, ap, sym, subst, suc, arith}
use Rattle.std.proofs.Common.{append_assoc, append-nil}
use Rattle.std.specs.Io.KnownBytes.{Appends}
use Rattle.std.proofs.KnownBytes.{Appends-trans}
use Rattle.uecp_text.specs.Written.{Begins}
use Rattle.uecp_encoder.specs.Target.{Step}
use Rattle.uecp_encoder.specs.State.{EncoderState}
use Rattle.uecp_net.specs.Sessions.{Outcome, Serving, Sessions}
use Rattle.uecp_jobs.specs.EncoderRun.{connection_line, connection_lines}

module _ {V C I O : Type 0} (step : Step V) (opens : C → Option (I × O) → C → Type 0) (closes : C → I → O → C → Type 0)
    (remaining : I → Option (List ℕ)) (contents : O → Option (List ℕ)) (turns : ℕ) where
  pub sessions_on : (e e1 e2 : EncoderState V) (c c1 c2 : C) (outcomes : List Outcome) (outcome : Outcome)
      → Sessions step opens closes remaining contents turns e c outcomes e1 c1 →
      Serving step opens closes remaining contents turns e1 c1 outcome e2 c2
      → Sessions step opens closes remaining contents turns e c (outcomes ++ outcome ∷ []) e2 c2
  sessions_on e e1 e2 c c1 c2 [] outcome (same_e, same_c) served = (
    e2,
    c2,
    subst (λ d. Serving step opens closes remaining contents turns e d outcome e2 c2) same_c
        (subst (λ d. Serving step opens closes remaining contents turns d c1 outcome e2 c2) same_e served),
    (refl, refl),
  )
  sessions_on e e1 e2 c c1 c2 (first ∷ outcomes) outcome (next, after, served_first, rest) served =
      (next, after, served_first, sessions_on next e1 e2 after c1 c2 outcomes outcome rest served)

pub lines_on : (number : ℕ) (outcomes : List Outcome) (outcome : Outcome)
    → connection_lines number (outcomes ++ outcome ∷ []) ≡ connection_lines number outcomes
    ++ connection_line (number + length outcomes) outcome
lines_on number [] outcome = append-nil (connection_line number outcome)
    ∙ ap (λ n. connection_line n outcome) (let q : number ≡ number + 0 = omega arith in q)
lines_on number (first ∷ outcomes) outcome =
    ap (λ l. connection_line number first ++ l) (lines_on (number + 1) outcomes outcome)
    ∙ sym (append_assoc (connection_line number first) (connection_lines (number + 1) outcomes)
    (connection_line (number + 1 + length outcomes) outcome))
    ∙ ap (λ n. connection_line number first ++ connection_lines (number + 1) outcomes ++ connection_line n outcome)
    (let q : number + 1 + length outcomes ≡ number + suc (length outcomes) = omega arith in q)

-- the lines of connections, and a beginning of the line of one more
pub begun_on : (held now now' : Option (List ℕ)) (outcomes : List Outcome) (outcome : Outcome) (number : ℕ)
    → number ≡ length outcomes + 1 → Appends held now (connection_lines 1 outcomes) →
    Begins now now' (connection_line number outcome) → Begins held now' (connection_lines 1 (outcomes ++ outcome ∷ []))
begun_on held now now' outcomes outcome number number_is lines (part, rest, line_is, begun) = (
  connection_lines 1 outcomes ++ part,
  rest,
  lines_on 1 outcomes outcome
      ∙ ap (λ n. connection_lines 1 outcomes ++ connection_line n outcome)
      (let q : 1 + length outcomes ≡ number = omega (arith, number_is) in q)
      ∙ ap (λ l. connection_lines 1 outcomes ++ l) line_is ∙ sym (append_assoc (connection_lines 1 outcomes) part rest),
  Appends-trans held now now' (connection_lines 1 outcomes) part lines begun,
)
