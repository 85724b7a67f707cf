-- What is added to a text one after another, by what is left of a list.
use Rattle.std.proofs.Common.{◌≡◌, ◌+◌, ◌<◌, ◌≤◌, ℕ, List, [], ◌∷◌, ◌++◌, length, take, drop, refl, sym}
use Rattle.std.proofs.Common.{ap, ◌∙◌, subst, get_or}
use Rattle.std.proofs.lemmas.List.{append_assoc, append-nil, drop_all, drop_more, take-append-drop}
use Rattle.titles.specs.Fitting.{AreFitted, AreParts, IsFitted, IsNoPart, IsOneNoPart, IsPart, Puts}

-- Whatever what is left adds to this text makes what all add.
abbrev pub Leads : (rest whole : List ℕ → Type 0) → (before now : List ℕ) → Type 0
Leads rest whole before now = (tail : List ℕ) → rest tail → Puts whole before (now ++ tail)

pub leads_from : (whole : List ℕ → Type 0) (before : List ℕ) → Leads whole whole before before
leads_from whole before = λ tail is. (tail, is, refl)

pub leads_on : (one rest both whole : List ℕ → Type 0) (before now next : List ℕ)
    → ((first more : List ℕ) → one first → rest more → both (first ++ more)) → Leads both whole before now
    → Puts one now next → Leads rest whole before next
leads_on one rest both whole before now next joins leads (first, is, eq) = λ tail left.
    subst (Puts whole before) (sym (ap (λ t. t ++ tail) eq ∙ append_assoc now first tail))
    (leads (first ++ tail) (joins first tail is left))

pub leads_end : (rest whole : List ℕ → Type 0) (before now : List ℕ) → rest [] → Leads rest whole before now
    → Puts whole before now
leads_end rest whole before now none leads = subst (Puts whole before) (append-nil now) (leads [] none)

-- ---- where a list has an item
here : (cs : List ℕ) (i item : ℕ) → i < length cs → item ≡ get_or cs i item → drop i cs ≡ item ∷ drop (i + 1) cs
here cs i item lt is = drop_more cs i item lt ∙ ap (λ k. k ∷ drop (i + 1) cs) (sym is)

-- ---- of characters that are made to fit
pub fitted_on : (cs : List ℕ) (i item : ℕ) (whole : List ℕ → Type 0) (before now next : List ℕ) → i < length cs
    → item ≡ get_or cs i item → Leads (AreFitted (drop i cs)) whole before now → Puts (IsFitted item) now next
    → Leads (AreFitted (drop (i + 1) cs)) whole before next
fitted_on cs i item whole before now next lt is leads put =
    leads_on (IsFitted item) (AreFitted (drop (i + 1) cs)) (AreFitted (item ∷ drop (i + 1) cs)) whole
    before now next (λ first more one rest. (first, more, refl, one, rest))
    (subst (λ k. Leads (AreFitted k) whole before now) (here cs i item lt is) leads) put

pub fitted_end : (cs : List ℕ) (i : ℕ) (before now : List ℕ) → length cs ≤ i
    → Leads (AreFitted (drop i cs)) (AreFitted cs) before now → Puts (AreFitted cs) before now
fitted_end cs i before now all leads =
    leads_end (AreFitted []) (AreFitted cs) before now refl
    (subst (λ k. Leads (AreFitted k) (AreFitted cs) before now) (drop_all i cs all) leads)

-- ---- of the parts of a character
pub parts_on : (cs : List ℕ) (i item : ℕ) (whole : List ℕ → Type 0) (before now next : List ℕ) → i < length cs
    → item ≡ get_or cs i item → Leads (AreParts (drop i cs)) whole before now → Puts (IsPart item) now next
    → Leads (AreParts (drop (i + 1) cs)) whole before next
parts_on cs i item whole before now next lt is leads put =
    leads_on (IsPart item) (AreParts (drop (i + 1) cs)) (AreParts (item ∷ drop (i + 1) cs)) whole
    before now next (λ first more one rest. (first, more, refl, one, rest))
    (subst (λ k. Leads (AreParts k) whole before now) (here cs i item lt is) leads) put

pub parts_end : (cs : List ℕ) (i : ℕ) (before now : List ℕ) → length cs ≤ i
    → Leads (AreParts (drop i cs)) (AreParts cs) before now → Puts (AreParts cs) before now
parts_end cs i before now all leads =
    leads_end (AreParts []) (AreParts cs) before now refl
    (subst (λ k. Leads (AreParts k) (AreParts cs) before now) (drop_all i cs all) leads)

pub one_no_part : (cs : List ℕ) (i item : ℕ) → i < length cs → item ≡ get_or cs i item → IsNoPart item
    → IsOneNoPart cs
one_no_part cs i item lt is none = (
  take i cs,
  drop (i + 1) cs,
  item,
  sym (take-append-drop i cs) ∙ ap (λ k. take i cs ++ k) (here cs i item lt is),
  none,
)

-- ---- of some bytes
pub puts_more : (one : List ℕ → Type 0) (before now next : List ℕ) → Puts (λ bytes. Unit {0}) before now
    → Puts one now next → Puts (λ bytes. Unit {0}) before next
puts_more one before now next (some, u, eq) (first, is, same) = (
  some ++ first,
  tt,
  same ∙ ap (λ t. t ++ first) eq ∙ append_assoc before some first,
)
