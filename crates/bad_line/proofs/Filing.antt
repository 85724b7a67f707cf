-- Rules of one line after another.
use Rattle.std.proofs.Common.{◌≡◌, ◌+◌, ℕ, List, [], ◌∷◌, ◌++◌, refl, sym, ap, ◌∙◌, subst, append_assoc, append-nil}
use Rattle.std.proofs.Common.{Option}
use Rattle.std.proofs.Common.{true, eqb, length, arith}
use borrow.Author.Tests.{true-eqb}
use Rattle.uecp_text.specs.Input.{under, numbered, said, lines_of}
use Rattle.uecp_text.proofs.Public.{texts_by_line}
use Rattle.bad_line.specs.declared.rules.rule.Rule.{Rule}
use Rattle.bad_line.specs.Rules.{Spells}
use Rattle.bad_line.specs.Files.{AreSpelled}

pub one_more : (before : List (ℕ × List ℕ)) (rules : List Rule) (line : ℕ × List ℕ) (rule : Rule)
    → AreSpelled before rules → Spells line.1 rule → AreSpelled (before ++ line ∷ []) (rules ++ rule ∷ [])
one_more [] [] line rule spelled says = (says, tt)
one_more [] (first ∷ rules) line rule spelled says = absurd spelled
one_more (first ∷ before) [] line rule spelled says = absurd spelled
one_more (first ∷ before) (r ∷ rules) line rule spelled says =
    (spelled.0, one_more before rules line rule spelled.1 says)

-- the texts, by what the line at hand says
pub next_line : (all before : List (ℕ × List ℕ)) (number : ℕ) (rest line more : List ℕ) (text : Option (List ℕ))
    → all ≡ before ++ numbered number (lines_of rest) → lines_of rest ≡ line ∷ lines_of more → said line ≡ text
    → all ≡ (before ++ under number text []) ++ numbered (number + 1) (lines_of more)
next_line all before number rest line more text cut lines says =
    cut ∙ ap (λ (x : List (ℕ × List ℕ)). before ++ x) (texts_by_line number rest line more lines
    ∙ ap (λ (o : Option (List ℕ)). under number o [] ++ numbered (number + 1) (lines_of more)) says)
    ∙ sym (append_assoc before (under number text []) (numbered (number + 1) (lines_of more)))

no_lines : (number : ℕ) → numbered number (lines_of []) ≡ []
unfolding numbered lines_of
no_lines number = refl

-- no line is left
pub none_left : (all before : List (ℕ × List ℕ)) (number : ℕ) (rest : List ℕ) (rules : List Rule) → rest ≡ []
    → all ≡ before ++ numbered number (lines_of rest) → AreSpelled before rules → AreSpelled all rules
none_left all before number rest rules none cut spelled =
    let is : all ≡ before = cut ∙ ap (λ (x : List ℕ). before ++ numbered number (lines_of x)) none
    ∙ ap (λ (x : List (ℕ × List ℕ)). before ++ x) (no_lines number) ∙ append-nil before in
    subst (λ lines. AreSpelled lines rules) (sym is) spelled

pub nothing_left : (rest : List ℕ) → true ≡ eqb (length rest) 0 → rest ≡ []
nothing_left [] none = refl
nothing_left (byte ∷ rest) none = absurd (let is = true-eqb (length (byte ∷ rest)) 0 none in omega (arith, is))
