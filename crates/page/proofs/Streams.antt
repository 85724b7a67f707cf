-- A browser takes each part of a stream.
use Rattle.std.proofs.Common.{◌≡◌, ℕ, ◌+◌, ◌<◌, ◌^◌, ◌%◌, ◌==◌, false, cond, ◌||◌, List, [], ◌∷◌, ◌++◌, refl, ◌∙◌, ap}
use Rattle.std.proofs.Common.{sym, arith, Some, None, codes, flat_map}
use Rattle.std.specs.Prelude.{decimal}
use Rattle.std.specs.List.{list_any, AllByRecursion}
use Rattle.std.proofs.lemmas.Fmt.{decimal_by_steps}
use Rattle.std.proofs.lemmas.List.{append-nil, append_assoc}
use Rattle.std.proofs.lemmas.List.Folds.{list_any-append}
use Rattle.std.proofs.lemmas.List.Concat.{flat_map-cons}
use Rattle.std.proofs.lemmas.List.Elements.{recursion_from_All}
use Rattle.page.specs.Events.{IsOneLine, ends_line}
use Rattle.page.specs.Stream.{Part, carries, gap, alive, part_text, Held, at_end, messages_from}
use Rattle.page.specs.Laws.{IsPart, told, TakenAsSent}

step : (part : List ℕ) (held : Held) (b : ℕ) (bs : List ℕ) → b == 10 ≡ false
    → messages_from part held (b ∷ bs) ≡ messages_from (part ++ b ∷ []) held bs
unfolding messages_from
step part held b bs h = ap (λ t. cond t (at_end part held (λ after. messages_from [] after bs))
    (messages_from (part ++ b ∷ []) held bs)) h

not_first : (b : ℕ) (bs : List ℕ) → list_any (λ b. b == 10) (b ∷ bs) ≡ false → b == 10 ≡ false
not_first b bs h = grind (arith, h)

not_rest : (b : ℕ) (bs : List ℕ) → list_any (λ b. b == 10) (b ∷ bs) ≡ false → list_any (λ b. b == 10) bs ≡ false
not_rest b bs h = grind (arith, h)

-- a line is read up to its end
reads_line : (line part : List ℕ) (held : Held) (rest : List ℕ) → list_any (λ b. b == 10) line ≡ false
    → messages_from part held (line ++ 10 ∷ rest) ≡ messages_from (part ++ line) held (10 ∷ rest)
reads_line [] part held rest h = ap (λ p. messages_from p held (10 ∷ rest)) (sym (append-nil part))
reads_line (b ∷ bs) part held rest h =
    step part held b (bs ++ 10 ∷ rest) (not_first b bs h) ∙ reads_line bs (part ++ b ∷ []) held rest (not_rest b bs h)
    ∙ ap (λ p. messages_from p held (10 ∷ rest)) (append_assoc part (b ∷ []) bs)

ends : (part : List ℕ) (held : Held) (rest : List ℕ)
    → messages_from part held (10 ∷ rest) ≡ at_end part held (λ after. messages_from [] after rest)
unfolding messages_from
ends part held rest = refl

-- digits are no line feed and no NULL
no_byte : (k : ℕ) → k < 48 → (n : ℕ) → n < 2 ^ 64 → list_any (λ b. b == k) (decimal n) ≡ false
no_byte k low n h =
    decimal_by_steps (λ m ds. list_any (λ b. b == k) ds ≡ false)
    (λ m small. grind (arith, low))
    (λ m ds big before. list_any-append (λ b. b == k) ds ((48 + m % 10) ∷ []) ∙ grind (arith, low, before))
    n h

-- one line has no line feed
no_feed : (line : List ℕ) → IsOneLine line → list_any (λ b. b == 10) line ≡ false
no_feed [] h = refl
no_feed (b ∷ bs) h =
    let first : (b == 10 || b == 13) ≡ false = grind (arith, h) in
    let rest : list_any ends_line bs ≡ false = grind (arith, h) in
    let rest_too : list_any (λ b. b == 10) bs ≡ false = no_feed bs rest in
    grind (arith, first, rest_too)

at_rest : List ℕ → Held
at_rest id = record { id = id; type = []; said = None }

with_id : (id : List ℕ) (n : ℕ) → n < 2 ^ 64 → cond (list_any (λ b. b == 0) (decimal n))
    (record { id = id; type = []; said = None }) (record { id = decimal n; type = []; said = None })
    ≡ at_rest (decimal n)
unfolding at_rest
with_id id n h = ap (λ t. cond t (record { id = id; type = []; said = None })
    (record { id = decimal n; type = []; said = None })) (no_byte 0 (omega arith) n h)

-- the text of an event, line by line
lines_of_event : (n : ℕ) (line rest : List ℕ) → part_text (carries n line) ++ rest ≡ (codes "id: " ++ decimal n) ++ 10
    ∷ ((codes "data: " ++ line) ++ 10 ∷ 10 ∷ rest)
lines_of_event n line rest =
    ap (λ t. codes "id: " ++ t) (append_assoc (decimal n) (10 ∷ (codes "data: " ++ (line ++ 10 ∷ 10 ∷ []))) rest
    ∙ ap (λ t. decimal n ++ 10 ∷ (codes "data: " ++ t)) (append_assoc line (10 ∷ 10 ∷ []) rest))

one : (id : List ℕ) (n : ℕ) (line rest : List ℕ) → n < 2 ^ 64 → IsOneLine line
    → messages_from [] (at_rest id) (part_text (carries n line) ++ rest)
    ≡ record { id = decimal n; type = []; said = line } ∷ messages_from [] (at_rest (decimal n)) rest
unfolding at_rest
one id n line rest small h =
    ap (messages_from [] (at_rest id)) (lines_of_event n line rest)
    ∙ reads_line (codes "id: " ++ decimal n) [] (at_rest id) ((codes "data: " ++ line) ++ 10 ∷ 10 ∷ rest)
    (no_byte 10 (omega arith) n small)
    ∙ ends (codes "id: " ++ decimal n) (at_rest id) ((codes "data: " ++ line) ++ 10 ∷ 10 ∷ rest)
    ∙ ap (λ held. messages_from [] held ((codes "data: " ++ line) ++ 10 ∷ 10 ∷ rest)) (with_id id n small)
    ∙ reads_line (codes "data: " ++ line) [] (at_rest (decimal n)) (10 ∷ rest) (no_feed line h)
    ∙ ends (codes "data: " ++ line) (at_rest (decimal n)) (10 ∷ rest)
    ∙ ends [] (record { id = decimal n; type = []; said = Some line }) rest

one_gap : (id rest : List ℕ) → messages_from [] (at_rest id) (part_text gap ++ rest)
    ≡ record { id = id; type = codes "gap"; said = codes "events are gone" } ∷ messages_from [] (at_rest id) rest
unfolding at_rest messages_from
one_gap id rest = refl

one_alive : (id rest : List ℕ) → messages_from [] (at_rest id) (part_text alive ++ rest)
    ≡ messages_from [] (at_rest id) rest
unfolding at_rest messages_from
one_alive id rest = refl

none : (id : List ℕ) → messages_from [] (at_rest id) [] ≡ []
unfolding messages_from
none id = refl

taken : (id : List ℕ) (parts : List Part) → AllByRecursion IsPart parts
    → messages_from [] (at_rest id) (flat_map part_text parts) ≡ told id parts
taken id [] h = none id
taken id (carries n line ∷ parts) h =
    ap (messages_from [] (at_rest id)) (flat_map-cons part_text (carries n line) parts)
    ∙ one id n line (flat_map part_text parts) h.0.0 h.0.1
    ∙ ap (λ rest. record { id = decimal n; type = []; said = line } ∷ rest) (taken (decimal n) parts h.1)
taken id (gap ∷ parts) h =
    ap (messages_from [] (at_rest id)) (flat_map-cons part_text gap parts) ∙ one_gap id (flat_map part_text parts)
    ∙ ap (λ rest. record { id = id; type = codes "gap"; said = codes "events are gone" } ∷ rest) (taken id parts h.1)
taken id (alive ∷ parts) h =
    ap (messages_from [] (at_rest id)) (flat_map-cons part_text alive parts) ∙ one_alive id (flat_map part_text parts)
    ∙ taken id parts h.1

pub taken_as_sent_lem : TakenAsSent
unfolding at_rest
taken_as_sent_lem parts h = taken [] parts (recursion_from_All IsPart parts h)
