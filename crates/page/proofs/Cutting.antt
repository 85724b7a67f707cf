-- How a line is cut of what was read.
use Rattle.std.proofs.Common.{◌≡◌, ◌≢◌, ℕ, ◌+◌, ◌-◌, ◌<◌, ◌==◌, List, [], ◌∷◌, ◌++◌, length, take, drop, get_or}
use Rattle.std.proofs.Common.{◌∙◌, ap, sym, subst, arith, length-take-le, get_or-take, take-append-drop}
use Rattle.std.proofs.Common.{append_assoc, length-take}
use Rattle.std.proofs.lemmas.List.{take_more, drop-take, drop-drop}
use Rattle.std.proofs.lemmas.Bool.{eqb-true}
use Rattle.std.proofs.lemmas.List.Elements.{All-from_get_or}
use Rattle.memchr.specs.Find.{is_byte, Passes, Nowhere, NoneBefore}
use Rattle.page.specs.declared.intake.open_line.Cut.{Cut}
use Rattle.page.specs.declared.intake.open_line.Cut.TheVariants.{Line, TooLong, Nothing}
use Rattle.page.specs.Lines.{HasNoEnd, HeldLine, IsHanded, Cutting, Cuts, longer}

abbrev is_other : ℕ → Type 0
is_other byte = byte ≢ 10

no_end_before : (bytes : List ℕ) (place : ℕ) → Nowhere (Passes (is_byte 10) bytes) 0 place → (k : ℕ) → k < place
    → get_or bytes k 0 ≢ 10
no_end_before bytes place nowhere k below same = nowhere k (omega arith) below (ap (λ b. b == 10) same)

pub no_end_at_all : (bytes : List ℕ) → Nowhere (Passes (is_byte 10) bytes) 0 (length bytes) → HasNoEnd bytes
no_end_at_all bytes nowhere = All-from_get_or is_other bytes 0 (no_end_before bytes (length bytes) nowhere)

-- no line feed stands before the first one
pub no_end_in_front : (bytes : List ℕ) (place : ℕ)
    → NoneBefore (Passes (is_byte 10) bytes) 0 (length bytes) place → HasNoEnd (take place bytes)
no_end_in_front bytes place first =
    let within : place < length bytes = first.high in
    let long : length (take place bytes) ≡ place = length-take-le place bytes (omega arith) in
    All-from_get_or is_other (take place bytes) 0 (λ k below.
    let under : k < place = omega (arith, long, below) in
    subst (λ b. b ≢ 10) (sym (get_or-take place bytes k 0 under))
    (no_end_before bytes place first.before k under))

-- what stands before the first line feed, that, and what stands behind it
pub at_first_end : (bytes : List ℕ) (place : ℕ) → NoneBefore (Passes (is_byte 10) bytes) 0 (length bytes) place
    → Passes (is_byte 10) bytes place → bytes ≡ take place bytes ++ 10 ∷ drop (place + 1) bytes
at_first_end bytes place first at =
    let within : place < length bytes = first.high in
    sym (take-append-drop (place + 1) bytes)
    ∙ ap (λ l. l ++ drop (place + 1) bytes)
    (take_more bytes place 0 within ∙ ap (λ b. take place bytes ++ b ∷ []) (eqb-true _ _ at))
    ∙ append_assoc (take place bytes) (10 ∷ []) (drop (place + 1) bytes)

-- a line was put together and handed out
pub cuts_line : (before behind : Cutting) (held : HeldLine) (cut : Cut) (text : List ℕ) → HasNoEnd text
    → before.ahead ≡ text ++ 10 ∷ behind.ahead → held.begun ≡ longer before.held.begun text
    → IsHanded held behind.held cut → Cuts before behind cut
cuts_line before behind held Line text no_end parts begun handed =
    record { text = text; no_end = no_end; parts = parts; handed = (sym begun ∙ handed.0, handed.1) }
cuts_line before behind held TooLong text no_end parts begun handed =
    record { text = text; no_end = no_end; parts = parts; handed = (sym begun ∙ handed.0, handed.1, handed.2) }
cuts_line before behind held Nothing text no_end parts begun handed = absurd handed

-- what is left behind the first line feed of a part of some bytes
left_behind : (items : List ℕ) (from to place : ℕ) → place < to - from
    → drop (place + 1) (take (to - from) (drop from items))
    ≡ take (to - (from + (place + 1))) (drop (from + (place + 1)) items)
left_behind items from to place short =
    let m = to - (from + (place + 1)) in
    let e : to - from ≡ (place + 1) + m = omega (arith, short) in
    ap (λ n. drop (place + 1) (take n (drop from items))) e ∙ drop-take (place + 1) m (drop from items)
    ∙ ap (take m) (drop-drop (place + 1) from items)

-- the part of some bytes that is read and not yet cut
abbrev part_of : List ℕ → ℕ → ℕ → List ℕ
part_of items from to = take (to - from) (drop from items)

pub cut_is : (before : Cutting) (items : List ℕ) (from to place : ℕ) (held put behind : HeldLine) (cut : Cut)
    → record { held = held; ahead = part_of items from to } ≡ before
    → NoneBefore (Passes (is_byte 10) (part_of items from to)) 0 (length (part_of items from to)) place
    → Passes (is_byte 10) (part_of items from to) place
    → put.begun ≡ longer held.begun (take place (part_of items from to)) → IsHanded put behind cut
    → Cuts before (record { held = behind; ahead = part_of items (from + (place + 1)) to }) cut
cut_is before items from to place held put behind cut viewed first at made handed =
    let left = part_of items from to in
    let high : place < length left = first.high in
    let long = length-take (to - from) (drop from items) in
    let short : place < to - from = omega (arith, high, long) in
    subst (λ b. Cuts b (record { held = behind; ahead = part_of items (from + (place + 1)) to }) cut) viewed
    (cuts_line (record { held = held; ahead = left })
    (record { held = behind; ahead = part_of items (from + (place + 1)) to }) put cut (take place left)
    (no_end_in_front left place first)
    (at_first_end left place first at ∙ ap (λ l. take place left ++ 10 ∷ l) (left_behind items from to place short))
    made handed)

pub none_is : (before : Cutting) (items : List ℕ) (from to : ℕ) (held put : HeldLine)
    → record { held = held; ahead = part_of items from to } ≡ before
    → Nowhere (Passes (is_byte 10) (part_of items from to)) 0 (length (part_of items from to))
    → put.begun ≡ longer held.begun (part_of items from to)
    → Cuts before (record { held = put; ahead = part_of items to to }) Nothing
none_is before items from to held put viewed none made =
    let over : to - to ≡ 0 = omega arith in
    subst (λ b. Cuts b (record { held = put; ahead = part_of items to to }) Nothing) viewed
    (no_end_at_all (part_of items from to) none, made, ap (λ n. take n (drop to items)) over)
