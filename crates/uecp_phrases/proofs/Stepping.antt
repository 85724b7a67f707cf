-- Choices one by one.
use Rattle.std.proofs.Common.{◌≡◌, true, false, List, [], ◌∷◌, ◌++◌, codes, Some, refl, sym, ◌∙◌, ap, subst}
use Rattle.uecp_text.specs.Words.{decimal_in}
use Rattle.phrase_tokens.specs.Tokens.{Token, Word}
use Rattle.uecp_phrases.specs.Phrases.{Choice, Adds, Toggles, Stays, Times, Choices, choice_tokens, AreMade, Make}
use Rattle.uecp_phrases.specs.Reading.{IsStep}

-- A choice and then others.
pub made_behind : (before mid made : Choices) (choice : Choice) (choices : List Choice)
    → AreMade before (choice ∷ []) mid
    → AreMade mid choices made → AreMade before (choice ∷ choices) made
made_behind before mid made Adds choices (free, is) others = (free, subst (λ m. AreMade m choices made) is others)
made_behind before mid made Toggles choices (free, is) others = (free, subst (λ m. AreMade m choices made) is others)
made_behind before mid made Stays choices (free, is) others = (free, subst (λ m. AreMade m choices made) is others)
made_behind before mid made (Times count) choices (free, (number, counted, is)) others =
    (free, (number, counted, subst (λ m. AreMade m choices made) is others))

pub step_then : (before mid made : Choices) (tokens rest : List Token) → IsStep before tokens mid rest
    → Make mid rest made → Make before tokens made
step_then before mid made tokens rest step (choices, is, others) = (
  step.choice ∷ choices,
  step.whole ∙ ap (λ t. choice_tokens step.choice ++ t) is,
  made_behind before mid made step.choice choices step.one others,
)

-- What is made by a choice and others: the choice first.
pub record Parts (before : Choices) (choice : Choice) (choices : List Choice) (made : Choices) : Type 0 where
  pub mid : Choices
  pub one : AreMade before (choice ∷ []) mid
  pub others : AreMade mid choices made

pub parted : (before made : Choices) (choice : Choice) (choices : List Choice) → AreMade before (choice ∷ choices) made
    → Parts before choice choices made
parted before made Adds choices (free, others) = record {
  mid = record before { adds = true };
  one = (free, refl);
  others = others;
}
parted before made Toggles choices (free, others) = record {
  mid = record before { turns = Some true };
  one = (free, refl);
  others = others;
}
parted before made Stays choices (free, others) = record {
  mid = record before { turns = Some false };
  one = (free, refl);
  others = others;
}
parted before made (Times count) choices (free, (number, counted, others)) = record {
  mid = record before { times = Some number };
  one = (free, (number, counted, refl));
  others = others;
}

-- The first choice is one, and so is what it leaves.
pub record Same (a b : Choices) (r s : List Token) : Type 0 where
  pub made : a ≡ b
  pub rest : r ≡ s

pub one_step_of : (before a b : Choices) (tokens r s : List Token) (c d : Choice) → tokens ≡ choice_tokens c ++ r
    → tokens ≡ choice_tokens d ++ s → AreMade before (c ∷ []) a → AreMade before (d ∷ []) b → Same a b r s
one_step_of before a b tokens r s Adds Adds p q (free, is) (free', is') =
    let e : Word (codes "add") ∷ r ≡ Word (codes "add") ∷ s = sym p ∙ q in
    record { made = is ∙ sym is'; rest = cc }
one_step_of before a b tokens r s Adds Toggles p q _ _ =
    let e : Word (codes "add") ∷ r ≡ Word (codes "toggle") ∷ s = sym p ∙ q in cc e
one_step_of before a b tokens r s Adds Stays p q _ _ =
    let e : Word (codes "add") ∷ r ≡ Word (codes "same") ∷ s = sym p ∙ q in cc e
one_step_of before a b tokens r s Adds (Times count) p q _ _ =
    let e : Word (codes "add") ∷ r ≡ Word (codes "times") ∷ Word count ∷ s = sym p ∙ q in cc e
one_step_of before a b tokens r s Toggles Adds p q _ _ =
    let e : Word (codes "toggle") ∷ r ≡ Word (codes "add") ∷ s = sym p ∙ q in cc e
one_step_of before a b tokens r s Toggles Toggles p q (free, is) (free', is') =
    let e : Word (codes "toggle") ∷ r ≡ Word (codes "toggle") ∷ s = sym p ∙ q in
    record { made = is ∙ sym is'; rest = cc }
one_step_of before a b tokens r s Toggles Stays p q _ _ =
    let e : Word (codes "toggle") ∷ r ≡ Word (codes "same") ∷ s = sym p ∙ q in cc e
one_step_of before a b tokens r s Toggles (Times count) p q _ _ =
    let e : Word (codes "toggle") ∷ r ≡ Word (codes "times") ∷ Word count ∷ s = sym p ∙ q in cc e
one_step_of before a b tokens r s Stays Adds p q _ _ =
    let e : Word (codes "same") ∷ r ≡ Word (codes "add") ∷ s = sym p ∙ q in cc e
one_step_of before a b tokens r s Stays Toggles p q _ _ =
    let e : Word (codes "same") ∷ r ≡ Word (codes "toggle") ∷ s = sym p ∙ q in cc e
one_step_of before a b tokens r s Stays Stays p q (free, is) (free', is') =
    let e : Word (codes "same") ∷ r ≡ Word (codes "same") ∷ s = sym p ∙ q in
    record { made = is ∙ sym is'; rest = cc }
one_step_of before a b tokens r s Stays (Times count) p q _ _ =
    let e : Word (codes "same") ∷ r ≡ Word (codes "times") ∷ Word count ∷ s = sym p ∙ q in cc e
one_step_of before a b tokens r s (Times count) Adds p q _ _ =
    let e : Word (codes "times") ∷ Word count ∷ r ≡ Word (codes "add") ∷ s = sym p ∙ q in cc e
one_step_of before a b tokens r s (Times count) Toggles p q _ _ =
    let e : Word (codes "times") ∷ Word count ∷ r ≡ Word (codes "toggle") ∷ s = sym p ∙ q in cc e
one_step_of before a b tokens r s (Times count) Stays p q _ _ =
    let e : Word (codes "times") ∷ Word count ∷ r ≡ Word (codes "same") ∷ s = sym p ∙ q in cc e
one_step_of before a b tokens r s (Times count) (Times again) p q (free, (n, counted, is)) (free', (m, counted', is')) =
    let e : Word (codes "times") ∷ Word count ∷ r ≡ Word (codes "times") ∷ Word again ∷ s = sym p ∙ q in
    let word : again ≡ count = cc in
    let number : Some m ≡ Some n = sym counted' ∙ ap (λ w. decimal_in 15 w) word ∙ counted in
    let same : m ≡ n = cc in
    record { made = is ∙ ap (λ k. record before { times = Some k }) (sym same) ∙ sym is'; rest = cc }

pub one_step : (before a b : Choices) (tokens r s : List Token) → IsStep before tokens a r → IsStep before tokens b s
    → Same a b r s
one_step before a b tokens r s p q =
    one_step_of before a b tokens r s p.choice q.choice p.whole q.whole p.one q.one
