-- The text of an object by its parts.
use Rattle.std.proofs.Common.{◌≡◌, ℕ, List, [], ◌∷◌, ◌++◌, Bool, true, false, codes, refl, sym, ap, subst, ◌∙◌}
use Rattle.std.proofs.Common.{append_assoc, append-nil}
use Rattle.json.specs.Print.{quoted}
use Rattle.serde_json.specs.Data.{Data, string}
use Rattle.serde_json.specs.Written.{compact_text, members_text}
use Rattle.json_lines.specs.Objects.{Field, members_of, object_of, in_decimal, line_of}
use Rattle.json_lines.specs.Texts.{first_text, field_text, fields_text, opening_text}
use Rattle.uecp_text.specs.Written.{Kept, Adds}
use Rattle.uecp_text.proofs.Public.{adds_then}

-- Further members and the brace behind them.
rest_text : (fields : List Field) → members_text true (members_of fields) ≡ fields_text fields ++ codes "}"
unfolding field_text
rest_text [] = refl
rest_text ((name, value) ∷ fields) =
    ap (λ (t : List ℕ). codes "," ++ (quoted name ++ (codes ":" ++ (compact_text value ++ t)))) (rest_text fields)
    ∙ sym (simp append_assoc)

-- An object by its first member and the others.
pub object_text : (name : List ℕ) (value : Data) (fields : List Field)
    → compact_text (object_of ((name, value) ∷ fields)) ≡ first_text name value ++ (fields_text fields ++ codes "}")
unfolding first_text object_of
object_text name value fields =
    ap (λ (t : List ℕ). codes "{" ++ (quoted name ++ (codes ":" ++ (compact_text value ++ t)))) (rest_text fields)
    ∙ sym (simp append_assoc)

-- A line by its beginning, its members and its end.
pub line_text : (kind : List ℕ) (fields : List Field)
    → line_of kind fields ≡ opening_text kind ++ (fields_text fields ++ codes "}\n")
unfolding opening_text line_of
line_text kind fields =
    ap (λ (t : List ℕ). t ++ codes "\n")
    (object_text (codes "format") (in_decimal 1) ((codes "kind", string kind) ∷ fields))
    ∙ (simp append_assoc)

-- Members joined.
pub fields_text-append : (first rest : List Field) → fields_text (first ++ rest) ≡ fields_text first ++ fields_text rest
fields_text-append [] rest = refl
fields_text-append ((name, value) ∷ first) rest =
    ap (λ (t : List ℕ). field_text name value ++ t) (fields_text-append first rest)
    ∙ sym (append_assoc (field_text name value) (fields_text first) (fields_text rest))

-- What is added from the kind of a line to its end is the line.
pub adds_line : (a b c d : Kept) (kind : List ℕ) (fields : List Field) → Adds a b (opening_text kind)
    → Adds b c (fields_text fields) → Adds c d (codes "}\n") → Adds a d (line_of kind fields)
adds_line a b c d kind fields front middle back =
    let whole : opening_text kind ++ fields_text fields ++ codes "}\n" ≡ line_of kind fields =
    append_assoc (opening_text kind) (fields_text fields) (codes "}\n") ∙ sym (line_text kind fields) in
    subst (Adds a d) whole (adds_then a c d (opening_text kind ++ fields_text fields) (codes "}\n")
    (adds_then a b c (opening_text kind) (fields_text fields) front middle) back)

-- One member.
pub adds_field : (a b : Kept) (name : List ℕ) (value : Data) → Adds a b (field_text name value)
    → Adds a b (fields_text ((name, value) ∷ []))
adds_field a b name value adds = subst (Adds a b) (sym (append-nil (field_text name value))) adds

-- Members behind others.
pub adds_more : (a b c : Kept) (first rest : List Field) → Adds a b (fields_text first) → Adds b c (fields_text rest)
    → Adds a c (fields_text (first ++ rest))
adds_more a b c first rest p q =
    subst (Adds a c) (sym (fields_text-append first rest)) (adds_then a b c (fields_text first) (fields_text rest) p q)

-- What joins the parts of a line or of an object.
pub ruleset parts = (line_text, object_text, append_assoc, append-nil)
