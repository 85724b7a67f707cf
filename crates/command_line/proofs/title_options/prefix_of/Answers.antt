use Rattle.std.proofs.Common.{◌≡◌, sym, ap, ◌∙◌, subst, codes, option_map, ℕ, List}
use Rattle.std.specs.Prelude.{IfOk, IfSome, IfNone}
use Rattle.clap.specs.Words.{found_of}
use Rattle.clap.proofs.WalkLemmas.{first_value-rows}
use Rattle.command_line.specs.TitleLines.{IsPrefix}
use Rattle.command_line.proofs.title_options.prefix_of.Goals as goal

pub returns-in-Some-clause-some : goal.returns-in-Some-clause-some
returns-in-Some-clause-some c =
    let given = sym (first_value-rows (found_of c.args.found.now) (codes "prefix")) ∙ sym c.get_str.ensures
    ∙ ap (option_map (λ s. s.now)) c.in-Some.is in
    subst (λ t. IfOk c.prefix_in.result (λ read. IfSome read (λ bytes. IsPrefix t bytes.items))) (sym given)
    c.prefix_in.ensures.some

pub returns-in-Some-clause-none : goal.returns-in-Some-clause-none
returns-in-Some-clause-none c =
    let given = sym (first_value-rows (found_of c.args.found.now) (codes "prefix")) ∙ sym c.get_str.ensures
    ∙ ap (option_map (λ s. s.now)) c.in-Some.is in
    subst (λ t. IfOk c.prefix_in.result (λ read. IfNone read ((bytes : List ℕ) → IsPrefix t bytes → ⊥))) (sym given)
    c.prefix_in.ensures.none

pub returns-in-None-clause-some : goal.returns-in-None-clause-some
returns-in-None-clause-some c =
    let given = sym (first_value-rows (found_of c.args.found.now) (codes "prefix")) ∙ sym c.get_str.ensures
    ∙ ap (option_map (λ s. s.now)) c.in-None.is in
    subst (λ t. IsPrefix t c.new.result.items) (sym given) c.new.ensures.items
