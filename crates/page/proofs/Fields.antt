-- The fields of a head, one after another.
use Rattle.std.proofs.Common.{◌≡◌, ℕ, ◌+◌, ◌<◌, true, false, Bool, List, ◌∷◌, length, map, drop, get_or}
use Rattle.std.proofs.Common.{Some, ◌∙◌, ap, sym, refl, cond, option_map}
use Rattle.std.specs.List.{find}
use Rattle.std.specs.Char.{to_ascii_lowercase}
use Rattle.std.proofs.lemmas.Slice.Eq.{bytes_eq-Decides}
use Rattle.std.proofs.lemmas.List.{drop_more}
use Rattle.httparse.specs.Spans.{span_bytes, header_bytes}
use Rattle.httparse.specs.declared.spans.HeaderSpan.{HeaderSpan}
use Rattle.page.specs.Asking.{is_named, value_at}

abbrev fields : List ℕ → List HeaderSpan → List (List ℕ × List ℕ)
fields input spans = map (header_bytes input) spans

first_of_fields : (name input : List ℕ) (field : HeaderSpan) (rest : List HeaderSpan) (b : Bool)
    → is_named name (header_bytes input field) ≡ b
    → value_at name (fields input (field ∷ rest))
    ≡ cond b (Some (span_bytes input field.value)) (value_at name (fields input rest))
first_of_fields name input field rest true h =
    ap (λ t. option_map (λ (f : List ℕ × List ℕ). f.1) (cond t (Some (header_bytes input field))
    (find (is_named name) (fields input rest)))) h
first_of_fields name input field rest false h =
    ap (λ t. option_map (λ (f : List ℕ × List ℕ). f.1) (cond t (Some (header_bytes input field))
    (find (is_named name) (fields input rest)))) h

pub found : (name input : List ℕ) (spans : List HeaderSpan) (k : ℕ) (d : HeaderSpan) (n v : List ℕ) → k < length spans
    → n ≡ span_bytes input (get_or spans k d).name → v ≡ span_bytes input (get_or spans k d).value
    → map to_ascii_lowercase n ≡ map to_ascii_lowercase name
    → Some v ≡ value_at name (map (header_bytes input) (drop k spans))
found name input spans k d n v h is_name is_value same =
    let field = get_or spans k d in
    let named : is_named name (header_bytes input field) ≡ true =
    (bytes_eq-Decides (map to_ascii_lowercase (span_bytes input field.name)) (map to_ascii_lowercase name)).1
    (ap (map to_ascii_lowercase) (sym is_name) ∙ same) in
    ap Some is_value ∙ sym (ap (λ fs. value_at name (map (header_bytes input) fs)) (drop_more spans k d h)
    ∙ first_of_fields name input field (drop (k + 1) spans) true named)

not_true : (b : Bool) → (b ≡ true → ⊥) → b ≡ false
not_true true h = absurd (h refl)
not_true false h = refl

pub another : (name input : List ℕ) (spans : List HeaderSpan) (k : ℕ) (d : HeaderSpan) (n : List ℕ) → k < length spans
    → n ≡ span_bytes input (get_or spans k d).name
    → (map to_ascii_lowercase n ≡ map to_ascii_lowercase name → ⊥)
    → value_at name (map (header_bytes input) (drop (k + 1) spans))
    ≡ value_at name (map (header_bytes input) (drop k spans))
another name input spans k d n h is_name differ =
    let field = get_or spans k d in
    let named : is_named name (header_bytes input field) ≡ false =
    not_true _ (λ t. differ (ap (map to_ascii_lowercase) is_name
    ∙ (bytes_eq-Decides (map to_ascii_lowercase (span_bytes input field.name)) (map to_ascii_lowercase name)).0 t)) in
    sym (ap (λ fs. value_at name (map (header_bytes input) fs)) (drop_more spans k d h)
    ∙ first_of_fields name input field (drop (k + 1) spans) false named)
