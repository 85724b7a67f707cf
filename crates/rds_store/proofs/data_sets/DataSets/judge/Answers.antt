use Rattle.std.proofs.Common.{◌≡◌, ◌≢◌, length, MatchResult, sym, ap, subst}
use Rattle.uecp_elements.specs.Grammar.{Group}
use Rattle.uecp_elements.specs.View.{element_of}
use Rattle.uecp_elements.specs.declared.code.Code.TheVariants.{Applied}
use Rattle.rds_store.specs.Refusals.{code_of}
use Rattle.rds_store.specs.Put.{put}
use Rattle.rds_store.proofs.data_sets.DataSets.judge.Goals as goal

pub returns-in-Group-clause-judged : goal.returns-in-Group-clause-judged
returns-in-Group-clause-judged c = λ v sets services waits.
    let group = Group c.in-Group.kind c.in-Group.mode c.in-Group.block3 c.in-Group.block4 in
    let is : element_of c.args.element.now ≡ group = ap element_of c.in-Group.is in
    subst (λ e. MatchResult c.judge_group.result
    (λ after. (code_of v e ≡ Applied) × (length (put v e).0.groups ≡ after))
    (λ refused. (code_of v e ≡ refused) × (refused ≢ Applied))) (sym is)
    (c.judge_group.ensures.judged v c.in-Group.block3 c.in-Group.block4 waits)
