use Rattle.std.proofs.Common.{◌≡◌, sym, ap, ◌∙◌, subst, codes, option_map, refl, ◌∷◌, []}
use Rattle.std.specs.Prelude.{Ok, IsErr, IfSome, IfNone}
use Rattle.hex.specs.Hex.{decode_sized}
use Rattle.clap.specs.Words.{found_of}
use Rattle.clap.proofs.WalkLemmas.{first_value-rows}
use Rattle.command_line.specs.TitleLines.{IsService}
use Rattle.command_line.proofs.TitleTexts.{service_given, service_none}
use Rattle.command_line.proofs.title_options.service_of.Goals as goal

pub returns-in-Some-clause-some : goal.returns-in-Some-clause-some
returns-in-Some-clause-some c =
    let given = sym (first_value-rows (found_of c.args.found.now) (codes "service")) ∙ sym c.get_str.ensures
    ∙ ap (option_map (λ s. s.now)) c.in-Some.is in
    service_given _ c.in-Some.word.now c.byte_of.result given
    (subst (λ w. IfSome c.byte_of.result (λ b. decode_sized w 1 ≡ Ok (b ∷ []))) c.as_bytes.ensures.value
    c.byte_of.ensures.byte)

pub returns-in-Some-clause-none : goal.returns-in-Some-clause-none
returns-in-Some-clause-none c =
    let given = sym (first_value-rows (found_of c.args.found.now) (codes "service")) ∙ sym c.get_str.ensures
    ∙ ap (option_map (λ s. s.now)) c.in-Some.is in
    service_none _ c.in-Some.word.now c.byte_of.result given
    (subst (λ w. IfNone c.byte_of.result (IsErr (decode_sized w 1))) c.as_bytes.ensures.value c.byte_of.ensures.refused)

pub returns-in-None-clause-some : goal.returns-in-None-clause-some
returns-in-None-clause-some c =
    let given = sym (first_value-rows (found_of c.args.found.now) (codes "service")) ∙ sym c.get_str.ensures
    ∙ ap (option_map (λ s. s.now)) c.in-None.is in
    subst (λ t. IsService t 0) (sym given) refl
