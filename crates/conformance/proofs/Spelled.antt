-- What words spell.
use Rattle.std.proofs.Common.{◌≡◌, ◌+◌, ◌-◌, ◌<◌, ℕ, List, ◌∷◌, ◌++◌, ◌∙◌, ap, sym, length, take, drop}
use Rattle.std.proofs.Common.{get_or}
use Rattle.std.proofs.Common.{take-append-drop, drop-cons, add-one, Option, Some, None, IfSome}
use Rattle.std.proofs.lemmas.Bool.{eqb-true}
use Rattle.std.proofs.lemmas.List.{take_rest}
use Rattle.memchr.specs.Find.{is_byte, Passes}
use Rattle.uecp_link.specs.Driving.{copies}
use Rattle.conformance.specs.Lines.{IsCopies, IsMessage}

-- a text up to a place, the byte there, and what follows it
pub cut_at : (sought : ℕ) (text : List ℕ) (place : ℕ) → place < length text → Passes (is_byte sought) text place
    → take place text ++ (sought ∷ take (length text - (place + 1)) (drop (place + 1) text)) ≡ text
cut_at sought text place within at =
    let at_place : drop place text ≡ get_or text place 0 ∷ drop (place + 1) text =
    rw add-one (drop-cons text place 0 within) in
    ap (λ l. take place text ++ (sought ∷ l)) (take_rest text (place + 1))
    ∙ sym (sym (take-append-drop place text)
    ∙ ap (λ l. take place text ++ l)
    (at_place ∙ ap (λ b. b ∷ drop (place + 1) text) (eqb-true (get_or text place 0) sought at)))

pub message_is : (r : Option (List ℕ)) (word bytes : List ℕ) (count : ℕ) → IsCopies word bytes count
    → IfSome r (λ message. message ≡ copies bytes count) → IfSome r (IsMessage word)
message_is None word bytes count is none = none
message_is (Some message) word bytes count is same = (bytes, count, is, same)
