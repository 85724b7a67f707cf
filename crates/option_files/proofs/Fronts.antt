-- What stands behind the front of a word.
use Rattle.std.proofs.Common.{rules, ◌≡◌, ◌≢◌, ℕ, Bool, true, false, ◌==◌, cond, [], ◌∷◌, ◌++◌, refl, ap₂, sym}
use Rattle.std.proofs.Common.{Option, Some, None}
use Rattle.std.proofs.lemmas.Bool.{eqb-true}
use Rattle.option_files.specs.Words.{Text, behind}

same : (b : ℕ) → (b == b) ≡ true
same b = search rules

pub behind_front : (front rest : Text) → behind front (front ++ rest) ≡ Some rest
behind_front [] rest = refl
behind_front (b ∷ front) rest = rw (same b) (behind_front front rest)

-- where there is something behind it, the word is both
pub front_and_rest : (front word rest : Text) → behind front word ≡ Some rest → word ≡ front ++ rest
front_and_rest [] word rest e = cc
front_and_rest (b ∷ front) [] rest e = cc
front_and_rest (b ∷ front) (c ∷ word) rest e = go (b == c) refl (front_and_rest front word rest) e
  where
    go : (t : Bool) → (b == c) ≡ t → (behind front word ≡ Some rest → word ≡ front ++ rest)
        → cond t (behind front word) None ≡ Some rest → c ∷ word ≡ (b ∷ front) ++ rest
    go true is more e = ap₂ (λ x xs. x ∷ xs) (sym (eqb-true b c is)) (more e)
    go false is more e = cc

-- a word that is no front with a rest has nothing behind it
pub none_behind : (front word : Text) → ((rest : Text) → word ≢ front ++ rest) → behind front word ≡ None
none_behind front word other = go (behind front word) refl
  where
    go : (o : Option Text) → behind front word ≡ o → o ≡ None
    go None is = refl
    go (Some rest) is = absurd (other rest (front_and_rest front word rest is))
