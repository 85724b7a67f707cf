-- A quote or a backslash behind a backslash spells itself.
use Rattle.std.proofs.Common.{ℕ, ◌∷◌, ap, ◌∙◌, inl, inr, refl, sym, subst, List}
use Rattle.rds_text.specs.Quoted.{Escaped, SpellsNone}
use Rattle.rds_text.proofs.Spelled.{first_so}
use Rattle.rds_text.proofs.quoted.escaped.Goals as goal

pub returns-in-34-clause-some : goal.returns-in-34-clause-some
returns-in-34-clause-some c =
    first_so (Escaped 0x22) 0x22 2 c.in_ok-kind.digits.now _ (inl refl, refl)
    (ap (λ t. 0x5C ∷ t) c.in_ok-kind.ensures.cases.0 ∙ ap (λ k. 0x5C ∷ k ∷ c.in_ok-kind.digits.now) c.in-34.is) refl

pub returns-in-92-clause-some : goal.returns-in-92-clause-some
returns-in-92-clause-some c =
    first_so (Escaped 0x5C) 0x5C 2 c.in_ok-kind.digits.now _ (inr refl, refl)
    (ap (λ t. 0x5C ∷ t) c.in_ok-kind.ensures.cases.0 ∙ ap (λ k. 0x5C ∷ k ∷ c.in_ok-kind.digits.now) c.in-92.is) refl

pub returns-in-None-clause-none : goal.returns-in-None-clause-none
returns-in-None-clause-none c =
    subst (λ (t : List ℕ). SpellsNone (0x5C ∷ t))
    (sym (c.in_ok-kind.ensures.cases.0 ∙ ap (λ k. k ∷ c.in_ok-kind.digits.now) c.in-x.is)) c.in-None.ensures.none

pub returns-in-None-character_in-clause-none : goal.returns-in-None-character_in-clause-none
returns-in-None-character_in-clause-none c =
    subst (λ (t : List ℕ). SpellsNone (0x5C ∷ t))
    (sym (c.in_ok-kind.ensures.cases.0 ∙ ap (λ k. k ∷ c.in_ok-kind.digits.now) c.in-u.is))
    c.in-None-character_in.ensures.none
