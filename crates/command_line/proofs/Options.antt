-- What options and lists of the command line spell.
use Rattle.std.proofs.Common.{◌≡◌, true, false, ℕ, ◌<◌, ◌^◌, zero, suc, List, [], ◌∷◌, length, get_or, map, refl, ap}
use Rattle.std.proofs.Common.{sym, codes}
use Rattle.std.proofs.Common.{◌∙◌, subst, arith}
use Rattle.std.specs.Prelude.{Option, Some, None, Result, Ok, Err, IsErr, option_map, unwrap_or}
use Rattle.std.specs.Str.Parse.{ParsesUnsigned}
use Rattle.std.specs.Borrow.{Bor}
use Rattle.hex.specs.Hex.{decode_sized}
use Rattle.clap.specs.Matches.{ReadsOne}
use Rattle.commands.specs.declared.line_options.LadderForm.{LadderForm}
use Rattle.commands.specs.declared.line_options.LadderForm.TheVariants.{Picture, Text}
use Rattle.command_line.specs.CommandLine.{Spells, ladder_word}

-- what `get_one` reads of a text that spells a number
pub reads_number : (E : Type 0) (G : List ℕ → Result ℕ E → Type 0) (k n : ℕ) (t : List ℕ) (r : Option ℕ)
    → ReadsOne G t r → ((u : List ℕ) (x : Result ℕ E) → G u x → ParsesUnsigned k 10 u x) → n < 2 ^ k → Spells t n
    → r ≡ Some n
reads_number E G k n t (Some v) one parses lt spells = ap Some ((parses t (Ok v) one).1 ∙ spells.1)
reads_number E G k n t None one parses lt spells = absurd (parses t (Err one.0) one.1 (spells.0, rw spells.1 lt))

-- a list with a part that spells no byte spells no bytes
pub spells_none : (parts : List (List ℕ)) (bytes : List ℕ) (i : ℕ) (d : List ℕ) → i < length parts
    → IsErr (decode_sized (get_or parts i d) 1) → map (λ part. decode_sized part 1) parts
    ≡ map (λ byte. Ok (byte ∷ [])) bytes → ⊥
spells_none [] bytes i d lt err e = absurd (omega (arith, lt))
spells_none (p ∷ ps) [] i d lt err e = let l = ap length e in absurd (omega (arith, l))
spells_none (p ∷ ps) (b ∷ bs) zero d lt err e =
    let head : decode_sized p 1 ≡ Ok (b ∷ []) = cc in
    let bad : false ≡ true = subst IsErr head err in
    cc
spells_none (p ∷ ps) (b ∷ bs) (suc i) d lt err e =
    let tail : map (λ part. decode_sized part 1) ps ≡ map (λ byte. Ok (byte ∷ [])) bs = cc in
    spells_none ps bs i d (omega (arith, lt)) err tail

-- a text or another in its place
pub text_or : (found : Option (Bor (List ℕ))) (other : Bor (List ℕ)) (text : Option (List ℕ))
    → option_map (λ s. s.now) found ≡ text → (unwrap_or found other).now ≡ unwrap_or text other.now
text_or None other text e = rw (← e) refl
text_or (Some s) other text e = rw (← e) refl

-- what is something is not nothing
pub none_read : {X : Type 0} (r : Option X) (x : X) → r ≡ Some x → r ≡ None → ⊥
none_read r x is none = absurd (let bad : Some x ≡ None = sym is ∙ none in cc)

-- a word that is that of neither form of a ladder
pub no_form : (text : Option (List ℕ)) (word : List ℕ) → text ≡ Some word → (word ≡ codes "svg" → ⊥)
    → (word ≡ codes "text" → ⊥) → (form : LadderForm) → text ≡ Some (ladder_word form) → ⊥
no_form text word given no_svg no_text Picture is =
    no_svg (let same : Some word ≡ Some (codes "svg") = sym given ∙ is in cc)
no_form text word given no_svg no_text Text is =
    no_text (let same : Some word ≡ Some (codes "text") = sym given ∙ is in cc)
