-- Passing over the first tokens of a text.
use Rattle.std.proofs.Common.{◌≡◌, ◌≢◌, ℕ, suc, ◌-◌, ◌<◌, List, [], ◌∷◌, ◌++◌, refl, sym, ap, ◌∙◌, arith}
use Rattle.std.proofs.Common.{length, drop, append_assoc, subst, length-drop}
use Rattle.phrase_tokens.specs.Tokens.{Token, Lays}
use Rattle.phrase_tokens.specs.Fronts.{Front, FrontNone}
use Rattle.phrase_tokens.proofs.OneReading.{none_there}
use Rattle.phrase_tokens.proofs.LaysOn.{space_after, behind_front, none_at}

-- Of the tokens of the rest those behind so many are those of the text from the index on.
pub record Passed (text : List ℕ) (index : ℕ) (rest : List ℕ) (before : ℕ) : Type 0 where
  pub from : (ts : List Token) → Lays ts text → (us : List Token) × Lays us rest × (drop before us ≡ drop index ts)
  pub front : List ℕ
  pub whole : text ≡ front ++ rest

pub passed_none : (text : List ℕ) (index : ℕ) → Passed text index text index
passed_none text index = record { from = λ ts l. (ts, l, refl); front = []; whole = refl }

pub passed_space : (text : List ℕ) (index : ℕ) (rest more : List ℕ) (before : ℕ) → Passed text index rest before
    → rest ≡ 0x20 ∷ more → Passed text index more before
passed_space text index rest more before p is = record {
  from = λ ts l.
      let (us, lays, same) = p.from ts l in (us, space_after us more (subst (λ x. Lays us x) is lays), same);
  front = p.front ++ 0x20 ∷ [];
  whole = p.whole ∙ ap (λ x. p.front ++ x) is ∙ sym (append_assoc p.front (0x20 ∷ []) more);
}

pub passed_token : (text : List ℕ) (index : ℕ) (rest more : List ℕ) (t : Token) (before less : ℕ)
    → Passed text index rest before → Front rest t more → before ≡ suc less → Passed text index more less
passed_token text index rest more t before less p f is = record {
  from = λ ts l.
      let (us, lays, same) = p.from ts l in
      let (vs, are, behind) = behind_front rest t more us f lays in
      let one_less : drop before us ≡ drop less vs = ap (λ n. drop n us) is ∙ ap (drop (suc less)) are in
      (vs, behind, sym one_less ∙ same);
  front = p.front ++ f.front;
  whole = p.whole ∙ ap (λ x. p.front ++ x) f.whole ∙ sym (append_assoc p.front f.front more);
}

-- As many tokens are left behind those to be passed as the text has from the index on.
left_as_many : (us ts : List Token) (before index : ℕ) → drop before us ≡ drop index ts
    → length us - before ≡ length ts - index
left_as_many us ts before index same = sym (length-drop before us) ∙ ap length same ∙ length-drop index ts

-- Where no token stands in front of the rest, the text has no tokens.
pub here_none : (text : List ℕ) (index : ℕ) (rest : List ℕ) (before first : ℕ) (more : List ℕ)
    → Passed text index rest before → rest ≡ first ∷ more → first ≢ 0x20 → FrontNone rest
    → (ts : List Token) → Lays ts text → ⊥
here_none text index rest before first more p is isnt none ts l =
    let (us, lays, same) = p.from ts l in none_at rest first more us is isnt none lays

-- At the end of the text there is no token of the index.
pub end_none : (text : List ℕ) (index before : ℕ) → Passed text index [] before → (ts : List Token) → Lays ts text
    → index < length ts → ⊥
end_none text index before p ts l more =
    let (us, lays, same) = p.from ts l in by us lays (left_as_many us ts before index same)
  where
    by : (us : List Token) → Lays us [] → length us - before ≡ length ts - index → ⊥
    by [] lays same = omega arith
    by (u ∷ us) (blanks, front, behind, whole, spells, ends, lays) same =
        none_there u 0 blanks front behind spells whole
