use Rattle.std.proofs.Common.{[]}
use Rattle.uecp_link.specs.Law.{all_kept}
use Rattle.uecp_link.proofs.Lawful.{law}
use Rattle.uecp_link.proofs.laws.numbers.Goals as goal

pub returns : goal.returns
returns c = λ address code taken events fit.
    let l = law (all_kept code) taken address [] events fit in (l.0, l.1)
