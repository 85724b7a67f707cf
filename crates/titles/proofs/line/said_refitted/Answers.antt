use Rattle.std.proofs.Common.{rules, ◌≢◌, inl, inr, subst, ◌∙◌}
use Rattle.std.specs.String.{string_bytes}
use Rattle.uecp_text.specs.declared.text_fault.TextFault.TheVariants.{OutOfMemory}
use Rattle.phrase_scripts.specs.Lines.{SaysNothing}
use Rattle.titles.proofs.line.said_refitted.Goals as goal

pub returns : goal.returns
returns c =
    let other : c.in-Err.field-0 ≢ OutOfMemory = search rules in
    let text = c.as_bytes.ensures.value ∙ c.as_str.ensures.value in
    elim c.in-Err.ensures.refused [
      | inl out ↦ absurd (other out)
      | inr is ↦ record {
        said = tt;
        refused = inr (
          c.requires.unsaid,
          (
            c.requires.nothing,
            (
              string_bytes c.in_ok-fitted.fitted,
              c.in_ok-fitted.ensures,
              subst (SaysNothing c.args.region) text is.1,
            ),
          ),
        );
      }
    ]
