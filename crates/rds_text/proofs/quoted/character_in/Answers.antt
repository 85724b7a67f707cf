-- Four digits spell the byte of their character, and none where they are no character of the set.
use Rattle.std.proofs.Common.{◌≢◌, ℕ, Some, ◌∷◌, arith, ap, ◌∙◌, subst, sym, IfNone, Option, inl, inr}
use Rattle.rds_text.specs.BasicSet.{character_of}
use Rattle.rds_text.specs.Quoted.{SpellsNone}
use Rattle.rds_text.proofs.Inverse.{small}
use Rattle.rds_text.proofs.Spelled.{four_digits, no_character, number_of, same_number}
use Rattle.rds_text.proofs.quoted.character_in.Goals as goal

pub returns-in_err-character-clause-none : goal.returns-in_err-character-clause-none
returns-in_err-character-clause-none c =
    let number = same_number c.a-item.result c.b-item.result c.c-item.result c.d-item.result c.in_ok-a.a c.in_ok-b.b
    c.in_ok-c.c c.in_ok-d.d c.in_ok-a.ensures.value.1 c.in_ok-b.ensures.value.1 c.in_ok-c.ensures.value.1
    c.in_ok-d.ensures.value.1 in
    let out = c.in_err-character.ensures.cases in
    let none : (byte : ℕ) → character_of byte ≢ Some
    (number_of c.a-item.result c.b-item.result c.c-item.result c.d-item.result) =
    λ byte is.
    let below = small byte _ (is ∙ ap (λ n. Some n) (sym number)) in
    elim out [ inl surrogate ↦ omega (arith, surrogate) | inr past ↦ omega (arith, past) ] in
    subst (λ (o : Option ℕ). IfNone o (SpellsNone (0x5C ∷ 0x75 ∷ c.args.text.now)))
    (sym c.from_residual-in_err-character.ensures)
    (no_character c.args.text.now c.a-item.result c.b-item.result c.c-item.result c.d-item.result
    c.in-len4-up.len_at_least c.a-item.is c.b-item.is c.c-item.is c.d-item.is none)

pub returns-in_err-byte-clause-none : goal.returns-in_err-byte-clause-none
returns-in_err-byte-clause-none c =
    let number = same_number c.a-item.result c.b-item.result c.c-item.result c.d-item.result c.in_ok-a.a c.in_ok-b.b
    c.in_ok-c.c c.in_ok-d.d c.in_ok-a.ensures.value.1 c.in_ok-b.ensures.value.1 c.in_ok-c.ensures.value.1
    c.in_ok-d.ensures.value.1 in
    let code = c.in_ok-character.ensures.value.1 in
    let none : (byte : ℕ) → character_of byte ≢ Some
    (number_of c.a-item.result c.b-item.result c.c-item.result c.d-item.result) =
    λ byte is. c.in_err-byte.ensures.none byte (is ∙ ap (λ n. Some n) (sym (code ∙ number))) in
    subst (λ (o : Option ℕ). IfNone o (SpellsNone (0x5C ∷ 0x75 ∷ c.args.text.now)))
    (sym c.from_residual-in_err-byte.ensures)
    (no_character c.args.text.now c.a-item.result c.b-item.result c.c-item.result c.d-item.result
    c.in-len4-up.len_at_least c.a-item.is c.b-item.is c.c-item.is c.d-item.is none)

pub returns-clause-some : goal.returns-clause-some
returns-clause-some c =
    let number = same_number c.a-item.result c.b-item.result c.c-item.result c.d-item.result c.in_ok-a.a c.in_ok-b.b
    c.in_ok-c.c c.in_ok-d.d c.in_ok-a.ensures.value.1 c.in_ok-b.ensures.value.1 c.in_ok-c.ensures.value.1
    c.in_ok-d.ensures.value.1 in
    let is = c.in_ok-byte.ensures.some in
    let code = c.in_ok-character.ensures.value.1 in
    four_digits c.args.text.now c.a-item.result c.b-item.result c.c-item.result c.d-item.result c.in_ok-byte.byte
    c.in-len4-up.len_at_least c.a-item.is c.b-item.is c.c-item.is c.d-item.is c.in_ok-a.ensures.value.0
    c.in_ok-b.ensures.value.0 c.in_ok-c.ensures.value.0 c.in_ok-d.ensures.value.0
    (is ∙ ap (λ n. Some n) (code ∙ number))
