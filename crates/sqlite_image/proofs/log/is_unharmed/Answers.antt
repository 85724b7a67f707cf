use Rattle.std.proofs.Common.{ℕ, sym, subst, inl, inr}
use Rattle.sqlite_image.specs.Log.{IsCopied, begun}
use Rattle.sqlite_image.proofs.log.is_unharmed.Goals as goal

pub returns-else-not-has_header : goal.returns-else-not-has_header
returns-else-not-has_header c =
    let log = begun c.args.log.now in
    let db = c.args.db.now in (
      λ yes'. inr (
        c.if-log-eq-FIRST.false,
        λ _. subst (λ (x : ℕ). IsCopied x log db) c.number_at.ensures (c.is_copied.ensures.0 yes'),
      ),
      λ u. elim u [
        | inl right ↦ absurd (c.if-log-eq-FIRST.false right.0)
        | inr wrong ↦ c.is_copied.ensures.1 (subst (λ (x : ℕ). IsCopied x log db) (sym c.number_at.ensures)
            (wrong.1 (c.has_header.ensures.0 c.if-not-has_header.false)))
      ],
    )
