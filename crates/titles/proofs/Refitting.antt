-- A line whose strings are made to fit one after another, by what is left of it.
use Rattle.std.proofs.Common.{◌≡◌, ℕ, List, [], ◌∷◌, ◌++◌, true, refl, sym, ap, ◌∙◌, subst}
use Rattle.std.specs.Prelude.{Some, None, encode_utf8_all}
use Rattle.std.proofs.lemmas.List.{append_assoc}
use Rattle.std.proofs.lemmas.Str.{encodes-append}
use Rattle.titles.specs.Strings.{AreRefitted, string_of}
use Rattle.titles.specs.Parts.{PutsNext, PutsRefitted}

-- whatever what is left is made to fit, behind what was added, is what all of it is
abbrev pub Goes : (text left before now : List ℕ) → Type 0
Goes text left before now =
    (strings : List (List ℕ)) (characters : List ℕ) → AreRefitted strings left characters
    → PutsRefitted text before (now ++ encode_utf8_all characters)

pub line_from : (text before : List ℕ) → Goes text text before before
line_from text before = λ strings characters are. (strings, characters, are, refl)

pub line_on : (text left behind before now next : List ℕ) → Goes text left before now
    → PutsNext left (Some behind) now next → Goes text behind before next
line_on text left behind before now next goes (outside, inner, bytes, shown, is, none, says, short, put) =
    λ strings characters are.
    let front = outside ++ string_of shown in
    let all = outside ++ (string_of shown ++ characters) in
    let more : AreRefitted (inner ∷ strings) left all =
    (outside, behind, characters, bytes, shown, is, none, says, short, refl, are) in
    let joined : now ++ encode_utf8_all all ≡ next ++ encode_utf8_all characters =
    ap (λ k. now ++ encode_utf8_all k) (sym (append_assoc outside (string_of shown) characters))
    ∙ ap (λ k. now ++ k) (encodes-append front characters)
    ∙ sym (append_assoc now (encode_utf8_all front) (encode_utf8_all characters))
    ∙ ap (λ k. k ++ encode_utf8_all characters) (sym put) in
    subst (PutsRefitted text before) joined (goes (inner ∷ strings) all more)

pub line_end : (text left before now next : List ℕ) → Goes text left before now → PutsNext left None now next
    → PutsRefitted text before next
line_end text left before now next goes (none, put) =
    subst (PutsRefitted text before) (sym put) (goes [] left (none, refl))
