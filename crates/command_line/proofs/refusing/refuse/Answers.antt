use Rattle.std.proofs.Common.{refl, inr}
use Rattle.uecp_text.specs.declared.run_fault.RunFault.TheVariants.{OutOfMemory}
use Rattle.command_line.proofs.refusing.refuse.Goals as goal

pub returns-in-OutOfMemory-clause-failed : goal.returns-in-OutOfMemory-clause-failed
returns-in-OutOfMemory-clause-failed g c = λ three. ((OutOfMemory, tt, c.fail-in-OutOfMemory.ensures.said), inr refl)
