-- The tokens of a message's line are such as can be written.
use Rattle.std.proofs.Common.{ℕ, zero, suc, List, [], ◌∷◌, ◌++◌, map, flat_map, drop, codes, Option, Some, None}
use Rattle.std.proofs.Common.{Ok, refl, sym, subst, append_assoc}
use Rattle.std.specs.List.{AllByRecursion}
use Rattle.uecp_elements.specs.declared.fault.ElementFault.{ElementFault}
use Rattle.uecp_elements.specs.Grammar.{Element, spelling, IsElement, AreBytes}
use Rattle.uecp_elements.specs.Reading.{Item, items, fault_item}
use Rattle.uecp_elements.proofs.Public.{has_reading}
use Rattle.rds_text.specs.declared.programme_type.Region.{Region}
use Rattle.phrase_tokens.specs.Tokens.{Token, Word, IsToken}
use Rattle.uecp_phrases.specs.Written.{byte_token, phrase_of_item, joined_behind, joined, line_of}
use Rattle.uecp_phrases.proofs.SaidMessages.{bytes_left, bytes_right}
use Rattle.uecp_phrases.proofs.SaidTokens.{both, byte_is, is_one, writable}

abbrev AreTokens : List Token → Type 0
AreTokens tokens = AllByRecursion IsToken tokens

raws : (bytes : List ℕ) → AreBytes bytes → AreTokens (map byte_token bytes)
raws [] h = tt
raws (byte ∷ bytes) h = (byte_is byte h.0, raws bytes h.1)

dropped : (n : ℕ) (bytes : List ℕ) → AreBytes bytes → AreBytes (drop n bytes)
dropped zero bytes h = h
dropped (suc n) [] h = tt
dropped (suc n) (byte ∷ bytes) h = dropped n bytes h.1

of_fault : (region : Region) (message : List ℕ) (fault : Option ElementFault) → AreBytes message
    → AllByRecursion AreTokens (map (phrase_of_item region message) (fault_item fault))
of_fault region message None h = tt
of_fault region message (Some fault) h =
    ((is_one (Word (codes "raw")) refl, raws (drop fault.place message) (dropped fault.place message h)), tt)

of_each : (region : Region) (message : List ℕ) (elements : List Element) (others : List Item) (rest : List ℕ)
    → AllByRecursion IsElement elements → AreBytes (flat_map spelling elements ++ rest)
    → AllByRecursion AreTokens (map (phrase_of_item region message) others)
    → AllByRecursion AreTokens (map (phrase_of_item region message) (map Ok elements ++ others))
of_each region message [] others rest each bytes end = end
of_each region message (e ∷ elements) others rest each bytes end =
    let all = subst AreBytes (append_assoc (spelling e) (flat_map spelling elements) rest) bytes in (
      writable region e each.0 (bytes_left (spelling e) (flat_map spelling elements ++ rest) all),
      of_each region message elements others rest each.1
          (bytes_right (spelling e) (flat_map spelling elements ++ rest) all) end,
    )

behind_tokens : (phrases : List (List Token)) → AllByRecursion AreTokens phrases → AreTokens (joined_behind phrases)
behind_tokens [] h = tt
behind_tokens (phrase ∷ phrases) h = (tt, both phrase (joined_behind phrases) h.0 (behind_tokens phrases h.1))

joined_tokens : (phrases : List (List Token)) → AllByRecursion AreTokens phrases → AreTokens (joined phrases)
joined_tokens [] h = tt
joined_tokens (phrase ∷ phrases) h = both phrase (joined_behind phrases) h.0 (behind_tokens phrases h.1)

pub line_writable : (region : Region) (message : List ℕ) → AreBytes message → AreTokens (line_of region message)
line_writable region message bytes =
    let reading = has_reading message bytes in
    let reads = reading.1 in
    let each = of_each region message reading.0.elements (fault_item reading.0.fault) reads.rest reads.each
    (subst AreBytes reads.joined bytes) (of_fault region message reading.0.fault bytes) in
    joined_tokens (map (phrase_of_item region message) (items message))
    (subst (λ l. AllByRecursion AreTokens (map (phrase_of_item region message) l)) (sym reading.2) each)
