-- What stands in a choice by an option that is known.
use Rattle.std.proofs.Common.{◌≡◌, Option, Some, None, subst, sym}
use Rattle.std.specs.Prelude.{MatchOption}

pub of_none : {X A : Type 0} (B : X → Type 0) (o : Option X) → o ≡ None → A → MatchOption o A B
of_none {X} {A} B o is a = subst (λ (p : Option X). MatchOption p A B) (sym is) a

pub of_some : {X : Type 0} (A : Type 0) (B : X → Type 0) (o : Option X) (x : X) → o ≡ Some x → B x → MatchOption o A B
of_some {X} A B o x is b = subst (λ (p : Option X). MatchOption p A B) (sym is) b
