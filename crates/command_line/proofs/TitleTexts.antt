-- What the options of titles give.
use Rattle.std.proofs.Common.{◌≡◌, ◌≤◌, ℕ, true, false, List, [], ◌∷◌, length, map, chars, refl, sym, ap, ◌∙◌, subst}
use Rattle.std.proofs.Common.{arith}
use Rattle.std.specs.Prelude.{Option, Some, None, Ok, IsErr, IfSome, IfNone, is_some, option_map}
use Rattle.std.specs.Borrow.{Bor}
use Rattle.std.proofs.lemmas.List.{length-map}
use Rattle.hex.specs.Hex.{decode_sized}
use Rattle.rds_text.specs.BasicSet.{character_of}
use Rattle.titles.specs.Titles.{Stands}
use Rattle.command_line.specs.TitleLines.{IsPrefix, IsService}

pub has_text : (found : Option (Bor (List ℕ))) (text : Option (List ℕ)) → option_map (λ s. s.now) found ≡ text
    → is_some found ≡ is_some text
has_text None text e = ap is_some e
has_text (Some s) text e = ap is_some e

pub no_text : (text : Option (List ℕ)) → is_some text ≡ false → text ≡ None
no_text None e = refl
no_text (Some t) e = absurd (let bad : true ≡ false = e in cc)

pub service_given : (text : Option (List ℕ)) (word : List ℕ) (r : Option ℕ) → text ≡ Some word
    → IfSome r (λ b. decode_sized word 1 ≡ Ok (b ∷ [])) → IfSome r (IsService text)
service_given text word None given is = tt
service_given text word (Some b) given is = subst (λ t. IsService t b) (sym given) is

pub service_none : (text : Option (List ℕ)) (word : List ℕ) (r : Option ℕ) → text ≡ Some word
    → IfNone r (IsErr (decode_sized word 1)) → IfNone r ((number : ℕ) → IsService text number → ⊥)
service_none text word None given err = λ number is.
    let here : IsService (Some word) number = subst (λ t. IsService t number) given is in
    absurd (let bad : false ≡ true = subst IsErr here err in cc)
service_none text word (Some b) given err = tt

-- a text in the set has as many bytes as characters
same_long : (cs text : List ℕ) → Stands [] cs text → length text ≡ length cs
same_long cs text (bytes, are, eq, few) =
    ap (λ (k : List ℕ). length k) eq ∙ sym (length-map bytes character_of)
    ∙ ap (λ (k : List (Option ℕ)). length k) are ∙ length-map cs Some

pub no_prefix : (cs text : List ℕ) → Stands [] cs text → (length text ≤ 32 → ⊥) → (bytes : List ℕ) → Stands [] cs bytes
    → length bytes ≤ 32 → ⊥
no_prefix cs text stands long bytes is few = long (
    let a = same_long cs text stands in
    let b = same_long cs bytes is in
    omega (arith, a, b, few))
