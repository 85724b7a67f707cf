-- A backslash in front, or a character that stands for itself.
use Rattle.std.proofs.Common.{◌≢◌, ℕ, ◌∷◌, List, ap, ◌∙◌, refl, sym, subst, slice_index}
use Rattle.rds_text.specs.Quoted.{Plain, SpellsNone}
use Rattle.rds_text.proofs.Spelled.{first_so}
use Rattle.rds_text.proofs.quoted.first_byte.Goals as goal

pub returns-in-None-escaped-clause-err : goal.returns-in-None-escaped-clause-err
returns-in-None-escaped-clause-err c =
    subst (λ (t : List ℕ). SpellsNone t)
    (sym (c.in-Some-eq92-default.ensures.cases.0 ∙ ap (λ k. k ∷ c.in-Some-eq92-default.rest.now)
    c.in-Some-eq92-default.field-0-0-test))
    c.in-None-escaped.ensures.none

pub returns-in-Some-byte_of-clause-ok : goal.returns-in-Some-byte_of-clause-ok
returns-in-Some-byte_of-clause-ok c =
    let whole = c.in-Some.ensures.cases.0 in
    let no_quote : c.in-Some.first.now ≢ 0x22 = λ is. c.requires.no_quote (ap (λ t. slice_index t 0) whole ∙ is) in
    first_so (Plain c.in-Some.first.now) c.in-Some-byte_of.byte 1 c.in-Some.field-0-1.now _
    (no_quote, c.in-Some.first-test.1, c.in-Some-byte_of.ensures.some) whole refl
