use Rattle.std.proofs.Common.{ℕ, List, ◌∙◌, subst₂}
use Rattle.std.proofs.lemmas.Bool.{and_parts}
use Rattle.sqlite_image.specs.Log.{IsUnharmed}
use Rattle.sqlite_image.proofs.file.test_log.Goals as goal

pub returns-then-is_unharmed-clause-unharmed : goal.returns-then-is_unharmed-clause-unharmed
returns-then-is_unharmed-clause-unharmed g c clean =
    let both = and_parts _ _ clean in
    let log = c.deref_mut.ensures.value ∙ c.in-Ok.ensures.read both.0 in
    let db = c.deref.ensures.value ∙ c.in-Ok-bytes_in.ensures.read both.1 in
    subst₂ (λ (a b : List ℕ). IsUnharmed (record { log = a; db = b })) log db
    (c.is_unharmed.ensures.0 c.if-is_unharmed.true)
