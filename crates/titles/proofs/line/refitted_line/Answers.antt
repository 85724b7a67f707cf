use Rattle.std.proofs.Common.{rules, ◌≢◌, inl, inr}
use Rattle.uecp_text.specs.declared.text_fault.TextFault.TheVariants.{OutOfMemory}
use Rattle.titles.proofs.line.refitted_line.Goals as goal

pub said_refitted-requires : goal.said_refitted-requires
said_refitted-requires c =
    let other : c.in-Err.fault ≢ OutOfMemory = search rules in
    elim c.in-Err.ensures.refused [
      | inl out ↦ absurd (other out)
      | inr is ↦ record { unsaid = is.0; nothing = is.1 }
    ]
