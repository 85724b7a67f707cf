-- Where tokens stop to be choices.
use Rattle.std.proofs.Common.{◌≡◌, ℕ, Bool, true, false, not, is_none, List, [], ◌∷◌, ◌++◌, codes}
use Rattle.std.proofs.Common.{Option, Some, None, flat_map, refl, sym, ◌∙◌, ap, subst, inl, inr}
use Rattle.uecp_text.specs.Words.{decimal_in, decimal_value}
use Rattle.rds_text.specs.declared.programme_type.Region.{Region}
use Rattle.phrase_tokens.specs.Tokens.{Token, Word}
use Rattle.uecp_phrases.specs.declared.choices.ChoiceName.{ChoiceName}
use Rattle.uecp_phrases.specs.declared.choices.ChoiceName.TheVariants as name
use Rattle.uecp_phrases.specs.declared.expectation.Expectation.TheVariants as what
use Rattle.uecp_phrases.specs.Phrases.{Choice, Adds, Toggles, Stays, Times, Choices, choice_tokens, AreMade}
use Rattle.uecp_phrases.specs.Reading.{choice_word, IsStep, IsFree, choices_left, IsTimes}
use Rattle.uecp_phrases.specs.Expecting.{MayStand, IsNext, IsStop, IsStopAlways}
use Rattle.uecp_phrases.specs.Stops.{AreChosen, IsStuck}
use Rattle.uecp_phrases.specs.declared.expectation.Expectation.{Expectation}
use Rattle.std.proofs.Common.{eqb, ◌+◌, if◌then◌else◌}
use Rattle.uecp_phrases.proofs.Stopping.{Same, stuck_stop, stop_behind, same_stop}
use Rattle.uecp_phrases.proofs.Stepping.{step_then, parted, one_step}

-- ---- What may stand behind the choices that were made.

free_not : (b : Bool) → not b ≡ true → b ≡ false
free_not true e = absurd (cc e)
free_not false e = refl

not_free : (b : Bool) → b ≡ false → not b ≡ true
not_free b e = ap not e

free_none : {A : Type 0} (o : Option A) → is_none o ≡ true → o ≡ None
free_none None e = refl
free_none (Some a) e = absurd (cc e)

none_free : {A : Type 0} (o : Option A) → o ≡ None → is_none o ≡ true
none_free o e = ap is_none e

zero_times : decimal_in 15 (codes "0") ≡ Some 0
unfolding decimal_in decimal_value
zero_times = refl

pub choice_next : (region : Region) (before : Choices) → IsNext region (AreChosen before) [] (choices_left before)
choice_next region before = record {
  only = only;
  may = may;
  ends = λ r. tt;
  may_end = λ m. (before, ([], refl, refl));
}
  where
    only : (t : Token) (more : List Token) → AreChosen before (t ∷ more) → MayStand region (choices_left before) t
    only t more (made, ([], e, _)) = absurd (cc e)
    only t more (made, (Adds ∷ others, e, (free, _))) = inl (not_free before.adds free, cc)
    only t more (made, (Toggles ∷ others, e, (free, _))) = inr (inl (none_free before.turns free, inr cc))
    only t more (made, (Stays ∷ others, e, (free, _))) = inr (inl (none_free before.turns free, inl cc))
    only t more (made, (Times count ∷ others, e, (free, _))) = inr (inr (none_free before.times free, cc))

    may : (t : Token) → MayStand region (choices_left before) t → (more : List Token) × AreChosen before (t ∷ more)
    may t (inl (free, is)) =
        ([], (record before { adds = true }, (Adds ∷ [], ap (λ x. x ∷ []) is, (free_not before.adds free, refl))))
    may t (inr (inl (free, inl is))) = (
      [],
      (
        record before { turns = Some false },
        (
          Stays ∷ [],
          ap (λ x. x ∷ []) is,
          (free_none before.turns free, refl),
        ),
      ),
    )
    may t (inr (inl (free, inr is))) = (
      [],
      (
        record before { turns = Some true },
        (
          Toggles ∷ [],
          ap (λ x. x ∷ []) is,
          (free_none before.turns free, refl),
        ),
      ),
    )
    may t (inr (inr (free, is))) = (
      Word (codes "0") ∷ [],
      (
        record before { times = Some 0 },
        (
          Times (codes "0") ∷ [],
          ap (λ x. x ∷ Word (codes "0") ∷ []) is,
          (free_none before.times free, (0, zero_times, refl)),
        ),
      ),
    )

pub times_next : (region : Region) (before : Choices) → before.times ≡ None
    → IsNext region (λ l. AreChosen before (Word (codes "times") ∷ l)) [] what.Times
times_next region before free = record {
  only = only;
  may = may;
  ends = ends;
  may_end = λ m. absurd m;
}
  where
    only : (t : Token) (more : List Token) → AreChosen before (Word (codes "times") ∷ t ∷ more)
        → MayStand region what.Times t
    only t more (made, ([], e, _)) = absurd (cc e)
    only t more (made, (Adds ∷ others, e, _)) = absurd (cc e)
    only t more (made, (Toggles ∷ others, e, _)) = absurd (cc e)
    only t more (made, (Stays ∷ others, e, _)) = absurd (cc e)
    only t more (made, (Times count ∷ others, e, (_, (number, counted, _)))) = (count, number, cc, counted)

    may : (t : Token) → MayStand region what.Times t
        → (more : List Token) × AreChosen before (Word (codes "times") ∷ t ∷ more)
    may t (w, number, is, counted) = (
      [],
      (
        record before { times = Some number },
        (
          Times w ∷ [],
          ap (λ x. Word (codes "times") ∷ x ∷ []) is,
          (free, (number, counted, refl)),
        ),
      ),
    )

    ends : AreChosen before (Word (codes "times") ∷ []) → ⊥
    ends (made, ([], e, _)) = cc e
    ends (made, (Adds ∷ others, e, _)) = cc e
    ends (made, (Toggles ∷ others, e, _)) = cc e
    ends (made, (Stays ∷ others, e, _)) = cc e
    ends (made, (Times count ∷ others, e, _)) = cc e

-- ---- Behind a choice.

no_less : (choice : Choice) (rest : List Token) → choice_tokens choice ++ rest ≡ [] → ⊥
no_less Adds rest e = cc e
no_less Toggles rest e = cc e
no_less Stays rest e = cc e
no_less (Times count) rest e = cc e

pub chosen_behind : (before mid : Choices) (choice : Choice) → AreMade before (choice ∷ []) mid
    → Same (λ l. AreChosen before (choice_tokens choice ++ l)) (AreChosen mid)
chosen_behind before mid choice one = record { to = to; from = from }
  where
    step : (l : List Token) → IsStep before (choice_tokens choice ++ l) mid l
    step l = record { choice = choice; whole = refl; one = one }

    to : (l : List Token) → AreChosen before (choice_tokens choice ++ l) → AreChosen mid l
    to l (made, ([], e, _)) = absurd (no_less choice l e)
    to l (made, (first ∷ others, e, are)) =
        let parts = parted before made first others are in
        let same = one_step before mid parts.mid (choice_tokens choice ++ l) l (flat_map choice_tokens others) (step l)
        (record { choice = first; whole = e; one = parts.one }) in
        (made, (others, same.rest, subst (λ m. AreMade m others made) (sym same.made) parts.others))

    from : (l : List Token) → AreChosen mid l → AreChosen before (choice_tokens choice ++ l)
    from l (made, make) = (made, step_then before mid made (choice_tokens choice ++ l) l (step l) make)

-- Another token than a choice that may still be made.
pub no_choice_here : (region : Region) (before : Choices) (t : Token)
    → ((kind : ChoiceName) → t ≡ Word (choice_word kind) → IsFree before kind → ⊥)
    → MayStand region (choices_left before) t → ⊥
no_choice_here region before t none (inl (free, is)) = none name.Add is (free_not before.adds free)
no_choice_here region before t none (inr (inl (free, inl is))) = none name.Same is (free_none before.turns free)
no_choice_here region before t none (inr (inl (free, inr is))) = none name.Toggle is (free_none before.turns free)
no_choice_here region before t none (inr (inr (free, is))) = none name.Times is (free_none before.times free)

-- ---- One choice.

-- Choices are told apart by the sum of their letters.
abbrev mark : List ℕ → ℕ
mark [] = 0
mark (b ∷ w) = b + mark w

abbrev marked : ℕ → ChoiceName
marked n = if eqb n 297 then name.Add else if eqb n 642 then name.Toggle else if eqb n
    422 then name.Same else name.Times

by_mark : (k : ChoiceName) → marked (mark (choice_word k)) ≡ k
by_mark name.Add = refl
by_mark name.Toggle = refl
by_mark name.Same = refl
by_mark name.Times = refl

pub one_choice : (a b : ChoiceName) → choice_word a ≡ choice_word b → a ≡ b
one_choice a b same = sym (by_mark a) ∙ ap (λ w. marked (mark w)) same ∙ by_mark b

-- The one that the token names may not be made, so none may.
pub not_free_here : (before : Choices) (t : Token) (own : ChoiceName) → t ≡ Word (choice_word own)
    → (IsFree before own → ⊥) → (kind : ChoiceName) → t ≡ Word (choice_word kind) → IsFree before kind → ⊥
not_free_here before t own is none kind same free =
    let e : Word (choice_word kind) ≡ Word (choice_word own) = sym same ∙ is in
    let words : choice_word kind ≡ choice_word own = cc in
    none (subst (λ k. IsFree before k) (one_choice kind own words) free)

pub times_stop : (before : Choices) (choice : ChoiceName) (tokens : List Token) (w : Expectation) (left : ℕ)
    → choice ≡ name.Times → IsFree before choice → ((region : Region) → IsStuck region what.Times tokens w left)
    → IsStopAlways (λ l. AreChosen before (Word (choice_word choice) ∷ l)) tokens w left
times_stop before choice tokens w left is free stuck =
    subst (λ k. IsFree before k → IsStopAlways (λ l. AreChosen before (Word (choice_word k) ∷ l)) tokens w left)
    (sym is)
    (λ none region. stuck_stop region (λ l. AreChosen before (Word (codes "times") ∷ l)) what.Times tokens w left
    (λ m. m) (times_next region before none) (stuck region)) free

pub times_step : (before : Choices) (choice : ChoiceName) (tokens rest : List Token) (number : ℕ)
    → choice ≡ name.Times → IsFree before choice → IsTimes tokens number rest
    → IsStep before (Word (choice_word choice) ∷ tokens) (record before { times = Some number }) rest
times_step before choice tokens rest number is free (t, whole, (w, t_is, counted)) =
    subst (λ k. IsFree before k → IsStep before (Word (choice_word k) ∷ tokens) (record before { times = Some number })
    rest)
    (sym is)
    (λ none. record {
      choice = Times w;
      whole = ap (λ l. Word (codes "times") ∷ l) (whole ∙ ap (λ x. x ∷ rest) t_is);
      one = (none, (number, counted, refl));
    }) free

-- What stops behind a choice.
pub step_stop : (region : Region) (before made : Choices) (tokens rest : List Token) (w : Expectation) (left : ℕ)
    → IsStep before tokens made rest → IsStop region (AreChosen made) rest w left
    → IsStop region (AreChosen before) tokens w left
step_stop region before made tokens rest w left step stop =
    stop_behind region (AreChosen before) (choice_tokens step.choice) tokens rest w left step.whole
    (same_stop region (λ l. AreChosen before (choice_tokens step.choice ++ l)) (AreChosen made) rest w left
    (chosen_behind before made step.choice step.one) stop)
