use Rattle.std.proofs.Common.{◌≡◌, sym, subst, rules}
use Rattle.uecp_link.specs.Once.{at_first}
use Rattle.uecp_link.specs.Holds.{LineState, Holds, new_line}
use Rattle.uecp_link.proofs.Opening.{new_holds}
use Rattle.uecp_link.proofs.line.Line.new.Goals as goal

pub returns-clause-holds : goal.returns-clause-holds
returns-clause-holds g c =
    let made : _ ≡ new_line c.args.address c.args.target = search rules in
    subst (λ (l : LineState _). Holds l (at_first c.args.target)) (sym made) (new_holds c.args.address c.args.target)
