use Rattle.std.proofs.Common.{rules}
use Rattle.std.proofs.Common.{◌≡◌, [], ◌∷◌, codes, ap}
use Rattle.uecp_elements.specs.Grammar.{Rt, NoText}
use Rattle.uecp_words.proofs.element_words.of_empty.Goals as goal

pub returns-clause-named : goal.returns-clause-named
returns-clause-named c =
    let empty : c.args.empty.now ≡ codes "empty" = search rules in (
      Rt _ _ NoText,
      (
        c.args.dsn.now,
        c.args.psn.now,
        ap (λ w. codes "rt" ∷ c.args.dsn.now ∷ c.args.psn.now ∷ w ∷ []) empty,
        c.in_ok-dsn.ensures.byte,
        c.in_ok-psn.ensures.byte,
      ),
      c.spelled.ensures,
    )
