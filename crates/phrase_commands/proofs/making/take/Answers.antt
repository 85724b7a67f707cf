use Rattle.std.proofs.Common.{◌≡◌, ◌∙◌, ◌++◌, Some, append_assoc, codes, refl, sym, ap, subst, option_map}
use Rattle.std.specs.String.{string_bytes}
use Rattle.notices.specs.Told.{Says}
use Rattle.line_batches.specs.Intake.{fitted_line}
use Rattle.phrase_commands.specs.Scripts.{TakesFitted}
use Rattle.phrase_commands.proofs.making.take.Goals as goal

pub returns-in_ok-push-in-Some-clause-taken : goal.returns-in_ok-push-in-Some-clause-taken
returns-in_ok-push-in-Some-clause-taken g c =
    let bytes = string_bytes c.in-Some.fitted in
    let line = bytes ++ codes "\n" in
    let before = c.args.script.now.items in
    let fitted : c.as_bytes.result.now ≡ bytes = c.as_bytes.ensures.value ∙ c.as_str.ensures.value in
    let added : c.extend_from_slice-in-Some.new.self.items ≡ before ++ bytes =
    c.in_ok-extend_from_slice-in-Some.ensures.items ∙ ap (λ b. before ++ b) fitted in
    let whole : c.push.new.self.items ≡ before ++ line = c.in_ok-push-in-Some.ensures.items
    ∙ ap (λ items. items ++ codes "\n") added ∙ append_assoc before bytes (codes "\n") in
    let is : option_map string_bytes c.args.fitted.now ≡ Some bytes = ap (option_map string_bytes) c.in-Some.is in
    let says : Says c.args.errors.now c.say_fitted.new.errors (fitted_line c.args.number bytes) =
    subst (λ b. Says c.args.errors.now c.say_fitted.new.errors (fitted_line c.args.number b))
    c.as_str-in-Some.ensures.value c.say_fitted.ensures in (
      line,
      whole,
      subst (λ f. TakesFitted c.args.number c.args.line.now f line c.args.errors.now c.say_fitted.new.errors) (sym is)
          (refl, says),
    )
