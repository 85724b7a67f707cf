-- What the words of a script line say.
use Rattle.std.proofs.Common.{◌≡◌, ◌≢◌, ℕ, List, ◌∷◌, length, get_or, codes, Bor, inl, inr, refl, sym, subst, rules}
use Rattle.uecp_words.specs.declared.element_name.ElementName.{ElementName}
use Rattle.uecp_words.specs.declared.element_name.ElementName.TheVariants as name
use Rattle.uecp_text.specs.Words.{texts, IsRow}
use Rattle.uecp_words.specs.ScriptWords.{name_word, Line, Begins, Extends, Says, SaysNothing}
use Rattle.uecp_words.proofs.ElementWords.{one_word, unknown_unnamed}

raw_is_no_name : (name : ElementName) → codes "raw" ≢ name_word name
raw_is_no_name name.Pi = λ h. search rules
raw_is_no_name name.Ps = λ h. search rules
raw_is_no_name name.TaTp = λ h. search rules
raw_is_no_name name.Ms = λ h. search rules
raw_is_no_name name.Pty = λ h. search rules
raw_is_no_name name.Rt = λ h. search rules
raw_is_no_name name.Select = λ h. search rules
raw_is_no_name name.Group = λ h. search rules
raw_is_no_name name.Ack = λ h. search rules

nothing_raw_by : (ws : List (Bor (List ℕ))) (b : Bor (List ℕ)) → length ws ≡ 1
    → ((bytes : List ℕ) → IsRow (get_or ws 0 b).now bytes → ⊥) → (line : Line) → Says (codes "raw" ∷ texts ws) line → ⊥
nothing_raw_by ws b h none (Begins address counter) (a, c, is, _, _) = search rules
nothing_raw_by ws b h none (Extends bytes) (inl (e, names, _)) =
    unknown_unnamed (codes "raw" ∷ texts ws) (codes "raw") (texts ws) refl raw_is_no_name e names
nothing_raw_by ws b h none (Extends bytes) (inr (r, is, row)) =
    let one = one_word ws b h in
    let same : (get_or ws 0 b).now ≡ r = cc in
    none bytes (subst (λ w. IsRow w bytes) (sym same) row)

-- Where the one word after `raw` is no row, nothing is said.
pub nothing_raw : (ws : List (Bor (List ℕ))) (b : Bor (List ℕ)) → length ws ≡ 1
    → ((bytes : List ℕ) → IsRow (get_or ws 0 b).now bytes → ⊥) → SaysNothing (codes "raw" ∷ texts ws)
nothing_raw ws b h none = λ line says. nothing_raw_by ws b h none line says
