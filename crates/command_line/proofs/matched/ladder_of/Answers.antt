use Rattle.std.proofs.Common.{refl, sym, ap, ◌∙◌, codes, option_map, is_some, Some, inr}
use Rattle.clap.specs.Words.{found_of}
use Rattle.clap.proofs.WalkLemmas.{first_value-rows}
use Rattle.command_line.proofs.Options.{no_form}
use Rattle.command_line.proofs.matched.ladder_of.Goals as goal

pub returns-in-None-clause-form : goal.returns-in-None-clause-form
returns-in-None-clause-form c =
    sym (ap (option_map (λ s. s.now)) c.in-None.is) ∙ c.get_str.ensures
    ∙ first_value-rows (found_of c.args.found.now) (codes "ladder")

pub returns-in-Some-svg-clause-form : goal.returns-in-Some-svg-clause-form
returns-in-Some-svg-clause-form c =
    sym (ap Some c.in-Some-svg.is-svg) ∙ sym (ap (option_map (λ s. s.now)) c.in-Some-svg.is) ∙ c.get_str.ensures
    ∙ first_value-rows (found_of c.args.found.now) (codes "ladder")

pub returns-in-Some-text-clause-form : goal.returns-in-Some-text-clause-form
returns-in-Some-text-clause-form c =
    sym (ap Some c.in-Some-text.is-text) ∙ sym (ap (option_map (λ s. s.now)) c.in-Some-text.is) ∙ c.get_str.ensures
    ∙ first_value-rows (found_of c.args.found.now) (codes "ladder")

pub returns-in_ok-error-in-Some-clause-refused : goal.returns-in_ok-error-in-Some-clause-refused
returns-in_ok-error-in-Some-clause-refused c =
    let given = sym (first_value-rows (found_of c.args.found.now) (codes "ladder")) ∙ sym c.get_str.ensures
    ∙ ap (option_map (λ s. s.now)) c.in-Some.is in
    inr (
      c.in_ok-error-in-Some.error,
      refl,
      c.in_ok-error-in-Some.ensures.kind,
      (ap is_some given, no_form _ c.in-Some.field-0.now given c.in-Some.not-svg c.in-Some.not-text),
    )
