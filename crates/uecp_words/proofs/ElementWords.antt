-- Elements out of words.
use Rattle.std.proofs.Common.{◌≡◌, ◌≢◌, ℕ, ◌≤◌, ◌*◌, List, [], ◌∷◌, length, get_or, codes, Ok, Bor, refl, sym, ap}
use Rattle.std.proofs.Common.{subst, inl, inr, arith, rules}
use Rattle.hex.specs.Hex.{decode_sized}
use Rattle.hex.proofs.HexLemmas.{decode_of-ok}
use Rattle.uecp_elements.specs.Grammar.{NoText, Text, Element, Pi, Ps, TaTp, Ms, Pty, Rt, Select, Group, Ack, spelling}
use Rattle.uecp_words.specs.declared.element_name.ElementName.{ElementName}
use Rattle.uecp_words.specs.declared.element_name.ElementName.TheVariants as name
use Rattle.uecp_text.specs.Words.{texts, IsByte, IsNumber, IsRow}
use Rattle.uecp_words.specs.ScriptWords.{name_word, Names, NamesSpelling, NamesNone}

-- As many words as are read.
pub one_word : (ws : List (Bor (List ℕ))) (b : Bor (List ℕ)) → length ws ≡ 1 → texts ws ≡ (get_or ws 0 b).now ∷ []
one_word [] b h = absurd (omega arith)
one_word (u ∷ []) b h = refl
one_word (u ∷ v ∷ ws) b h = absurd (omega arith)

pub two_words : (ws : List (Bor (List ℕ))) (b : Bor (List ℕ)) → length ws ≡ 2
    → texts ws ≡ (get_or ws 0 b).now ∷ (get_or ws 1 b).now ∷ []
two_words [] b h = absurd (omega arith)
two_words (u ∷ ws) b h = ap (λ l. u.now ∷ l) (one_word ws b (omega arith))

pub three_words : (ws : List (Bor (List ℕ))) (b : Bor (List ℕ)) → length ws ≡ 3
    → texts ws ≡ (get_or ws 0 b).now ∷ (get_or ws 1 b).now ∷ (get_or ws 2 b).now ∷ []
three_words [] b h = absurd (omega arith)
three_words (u ∷ ws) b h = ap (λ l. u.now ∷ l) (two_words ws b (omega arith))

pub four_words : (ws : List (Bor (List ℕ))) (b : Bor (List ℕ)) → length ws ≡ 4
    → texts ws ≡ (get_or ws 0 b).now ∷ (get_or ws 1 b).now ∷ (get_or ws 2 b).now ∷ (get_or ws 3 b).now ∷ []
four_words [] b h = absurd (omega arith)
four_words (u ∷ ws) b h = ap (λ l. u.now ∷ l) (three_words ws b (omega arith))

pub select_named : (ws : List (Bor (List ℕ))) (b : Bor (List ℕ)) (dsn : ℕ) (m : List ℕ) → length ws ≡ 1
    → IsByte (get_or ws 0 b).now dsn → m ≡ spelling (Select dsn) → NamesSpelling (codes "select" ∷ texts ws) m
select_named ws b dsn m h d is = (Select dsn, (_, ap (λ l. codes "select" ∷ l) (one_word ws b h), d), is)

pub ack_named : (ws : List (Bor (List ℕ))) (b : Bor (List ℕ)) (code counter : ℕ) (m : List ℕ) → length ws ≡ 2
    → IsByte (get_or ws 0 b).now code → IsByte (get_or ws 1 b).now counter → m ≡ spelling (Ack code counter)
    → NamesSpelling (codes "ack" ∷ texts ws) m
ack_named ws b code counter m h c n is = (
  Ack code counter,
  (_, _, ap (λ l. codes "ack" ∷ l) (two_words ws b h), c, n),
  is,
)

pub pi_named : (ws : List (Bor (List ℕ))) (b : Bor (List ℕ)) (dsn psn pi : ℕ) (m : List ℕ) → length ws ≡ 3
    → IsByte (get_or ws 0 b).now dsn → IsByte (get_or ws 1 b).now psn → IsNumber (get_or ws 2 b).now pi
    → m ≡ spelling (Pi dsn psn pi) → NamesSpelling (codes "pi" ∷ texts ws) m
pi_named ws b dsn psn pi m h d p n is = (
  Pi dsn psn pi,
  (_, _, _, ap (λ l. codes "pi" ∷ l) (three_words ws b h), d, p, n),
  is,
)

pub ps_named : (ws : List (Bor (List ℕ))) (b : Bor (List ℕ)) (dsn psn : ℕ) (name m : List ℕ) → length ws ≡ 3
    → IsByte (get_or ws 0 b).now dsn → IsByte (get_or ws 1 b).now psn → decode_sized (get_or ws 2 b).now 8 ≡ Ok name
    → m ≡ spelling (Ps dsn psn name) → NamesSpelling (codes "ps" ∷ texts ws) m
ps_named ws b dsn psn name m h d p n is = (
  Ps dsn psn name,
  (_, _, _, ap (λ l. codes "ps" ∷ l) (three_words ws b h), d, p, n),
  is,
)

pub group_named : (ws : List (Bor (List ℕ))) (b : Bor (List ℕ)) (kind mode block3 block4 : ℕ) (m : List ℕ)
    → length ws ≡ 4 → IsByte (get_or ws 0 b).now kind → IsByte (get_or ws 1 b).now mode
    → IsNumber (get_or ws 2 b).now block3 → IsNumber (get_or ws 3 b).now block4
    → m ≡ spelling (Group kind mode block3 block4) → NamesSpelling (codes "group" ∷ texts ws) m
group_named ws b kind mode block3 block4 m h k t x y is =
    (Group kind mode block3 block4, (_, _, _, _, ap (λ l. codes "group" ∷ l) (four_words ws b h), k, t, x, y), is)

pub text_named : (ws : List (Bor (List ℕ))) (b : Bor (List ℕ)) (dsn psn head : ℕ) (text m : List ℕ) → length ws ≡ 4
    → IsByte (get_or ws 0 b).now dsn → IsByte (get_or ws 1 b).now psn → IsByte (get_or ws 2 b).now head
    → IsRow (get_or ws 3 b).now text → length text ≤ 64 → m ≡ spelling (Rt dsn psn (Text head text))
    → NamesSpelling (codes "rt" ∷ texts ws) m
text_named ws b dsn psn head text m h d p n t fits is =
    (Rt dsn psn (Text head text), (_, _, _, _, ap (λ l. codes "rt" ∷ l) (four_words ws b h), d, p, n, t, fits), is)

-- A row has half as many bytes as its word has digits.
pub row_fits : (word text : List ℕ) → word ≢ codes "-" → IsRow word text → length word ≡ 2 * length text
row_fits word text other (inl row) = absurd (other row.0)
row_fits word text other (inr row) = (decode_of-ok word text row).2

-- No text is named where the last of four words is no row of at most 64 bytes.
text_unnamed_by : (ws : List (Bor (List ℕ))) (b : Bor (List ℕ)) → length ws ≡ 4
    → ((text : List ℕ) → IsRow (get_or ws 3 b).now text → length text ≤ 64 → ⊥) → (e : Element)
    → Names (codes "rt" ∷ texts ws) e → ⊥
text_unnamed_by ws b h none (Pi dsn psn pi) (d, p, n, is, _, _, _) = search rules
text_unnamed_by ws b h none (Ps dsn psn name) (d, p, n, is, _, _, _) = search rules
text_unnamed_by ws b h none (TaTp dsn psn raw) (d, p, r, is, _, _, _) = search rules
text_unnamed_by ws b h none (Ms dsn psn raw) (d, p, r, is, _, _, _) = search rules
text_unnamed_by ws b h none (Pty dsn psn raw) (d, p, r, is, _, _, _) = search rules
text_unnamed_by ws b h none (Rt dsn psn NoText) (d, p, is, _, _) = let four = four_words ws b h in search rules
text_unnamed_by ws b h none (Rt dsn psn (Text head text)) (d, p, x, t, is, da, pa, ha, ta, fits) =
    let four = four_words ws b h in
    let same : (get_or ws 3 b).now ≡ t = cc in
    none text (subst (λ w. IsRow w text) (sym same) ta) fits
text_unnamed_by ws b h none (Select dsn) (d, is, _) = search rules
text_unnamed_by ws b h none (Group kind mode block3 block4) (k, m, x, y, is, _, _, _, _) = search rules
text_unnamed_by ws b h none (Ack code counter) (c, n, is, _, _) = search rules

pub text_unnamed : (ws : List (Bor (List ℕ))) (b : Bor (List ℕ)) → length ws ≡ 4
    → ((text : List ℕ) → IsRow (get_or ws 3 b).now text → length text ≤ 64 → ⊥) → NamesNone (codes "rt" ∷ texts ws)
text_unnamed ws b h none = λ e names. text_unnamed_by ws b h none e names

-- No element is named where the first word is no name.
unknown_unnamed_by : (first : List ℕ) (rest : List (List ℕ)) → ((name : ElementName) → first ≢ name_word name)
    → (e : Element) → Names (first ∷ rest) e → ⊥
unknown_unnamed_by first rest none (Pi dsn psn pi) (d, p, n, is, _, _, _) = none name.Pi (cc)
unknown_unnamed_by first rest none (Ps dsn psn bytes) (d, p, n, is, _, _, _) = none name.Ps (cc)
unknown_unnamed_by first rest none (TaTp dsn psn raw) (d, p, r, is, _, _, _) = none name.TaTp (cc)
unknown_unnamed_by first rest none (Ms dsn psn raw) (d, p, r, is, _, _, _) = none name.Ms (cc)
unknown_unnamed_by first rest none (Pty dsn psn raw) (d, p, r, is, _, _, _) = none name.Pty (cc)
unknown_unnamed_by first rest none (Rt dsn psn NoText) (d, p, is, _, _) = none name.Rt (cc)
unknown_unnamed_by first rest none (Rt dsn psn (Text head text)) (d, p, x, t, is, _, _, _, _, _) = none name.Rt (cc)
unknown_unnamed_by first rest none (Select dsn) (d, is, _) = none name.Select (cc)
unknown_unnamed_by first rest none (Group kind mode block3 block4) (k, m, x, y, is, _, _, _, _) = none name.Group (cc)
unknown_unnamed_by first rest none (Ack code counter) (c, n, is, _, _) = none name.Ack (cc)

pub unknown_unnamed : (ws : List (List ℕ)) (first : List ℕ) (rest : List (List ℕ)) → ws ≡ first ∷ rest
    → ((name : ElementName) → first ≢ name_word name) → NamesNone ws
unknown_unnamed ws first rest is none = λ e names.
    unknown_unnamed_by first rest none e (subst (λ l. Names l e) is names)
