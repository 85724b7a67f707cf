use Rattle.std.proofs.Common.{rules}
use Rattle.uecp_text.proofs.Added.{first_by}
use Rattle.uecp_text.proofs.output.Output.digits.Goals as goal

pub returns-then-self-clause-begun : goal.returns-then-self-clause-begun
returns-then-self-clause-begun c = first_by _ _ _ (search rules) (λ t. search rules) (λ f. search rules)
