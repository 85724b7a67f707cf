-- Bits as text.
use Rattle.std.proofs.Common.{◌≡◌, Bool, true, false, List, [], ◌∷◌, ◌++◌, Option, Some, None, refl, ap, ◌∙◌}
use Rattle.std.specs.Prelude.{map}
use Rattle.std.specs.List.{cons_option}
use Rattle.rds_groups.specs.Groups.{bits}
use Rattle.rds_groups.specs.declared.heard.HeardGroup.{HeardGroup}
use Rattle.rds_groups.specs.Sync.{step}
use Rattle.rds_groups.specs.Text.{bit_of, bits_of, character_of, bit_step, character_step}
use Rattle.rds_groups.specs.SynchroniserLaws.{LinesReadBack, TextIsItsBits, TextsAddUp, found, found_in_text}
use Rattle.rds_groups.specs.SynchroniserLaws.{after_text}
use Rattle.rds_groups.specs.declared.synchroniser.Synchroniser.{Synchroniser}

bits_back : (bs : List Bool) → bits_of (map character_of bs) ≡ bs
bits_back [] = refl
bits_back (true ∷ bs) = ap (λ (xs : List Bool). true ∷ xs) (bits_back bs)
bits_back (false ∷ bs) = ap (λ (xs : List Bool). false ∷ xs) (bits_back bs)

pub lines_read_back : LinesReadBack
lines_read_back g = bits_back (bits g)

-- one character, where the rest of the text has the groups of its bits
one : (o : Option Bool) (s : Synchroniser) (bs : List Bool) (rest : Synchroniser → List HeardGroup)
    → ((t : Synchroniser) → rest t ≡ found bs t)
    → cons_option (bit_step o s).1 (rest (bit_step o s).0) ≡ found (cons_option o bs) s
one None s bs rest same = same s
one (Some b) s bs rest same = ap (cons_option (step b s).1) (same (step b s).0)

pub text_is_its_bits : TextIsItsBits
text_is_its_bits [] s = refl
text_is_its_bits (character ∷ text) s =
    one (bit_of character) s (bits_of text) (found_in_text text) (text_is_its_bits text)

-- what comes behind stays behind
before_others : (o : Option HeardGroup) (xs ys : List HeardGroup) → cons_option o (xs ++ ys) ≡ cons_option o xs ++ ys
before_others None xs ys = refl
before_others (Some h) xs ys = refl

pub texts_add_up : TextsAddUp
texts_add_up [] other s = refl
texts_add_up (character ∷ one) other s =
    let next = (character_step character s).0 in
    ap (cons_option (character_step character s).1) (texts_add_up one other next)
    ∙ before_others (character_step character s).1 (found_in_text one next) (found_in_text other (after_text one next))
