-- What is written of a message says it.
use Rattle.std.proofs.Common.{◌≡◌, ◌≢◌, ℕ, ◌-◌, ◌/◌, ◌%◌, ◌≤◌, ◌==◌, Bool, true, false, List, [], ◌∷◌, ◌++◌, length}
use Rattle.std.proofs.Common.{map, flat_map, drop, codes, Option, Some, None, Ok, Err, refl, sym, ◌∙◌, ap, subst, inl}
use Rattle.std.proofs.Common.{inr, arith}
use Rattle.std.proofs.Common.{if◌then◌else◌, append_assoc}
use Rattle.std.specs.Prelude.{decimal, nat_le}
use Rattle.std.specs.List.{All, AllByRecursion}
use Rattle.std.proofs.lemmas.List.{length-append, append-nil}
use Rattle.uecp_phrases.specs.Phrases.{IsPhrase}
use Rattle.std.proofs.lemmas.List.Elements.{All-cons, All-nil}
use Rattle.std.proofs.lemmas.List.Splits.{slice_split_none, slice_split_at}
use Rattle.uecp_elements.specs.declared.fault.ElementFault.{ElementFault}
use Rattle.uecp_elements.specs.Grammar.{Part, NoText, Text, Element, Pi, Ps, TaTp, Ms, Pty, Rt, Select, Group, Ack}
use Rattle.uecp_elements.specs.Grammar.{spelling, IsElement, AreBytes, EndsWith}
use Rattle.uecp_elements.specs.Reading.{Item, items, items_of, fault_item}
use Rattle.uecp_elements.proofs.Public.{has_reading}
use Rattle.rds_text.specs.declared.programme_type.Region.{Region}
use Rattle.rds_text.specs.ProgrammeTypes.{name_of}
use Rattle.phrase_tokens.specs.Tokens.{Token, Word, Quoted, Semicolon}
use Rattle.uecp_phrases.specs.Lines.{ends_phrase, phrases_in, AddEach, Say}
use Rattle.uecp_phrases.specs.Written.{phrase_of, raw_phrase, phrase_of_item, phrases_of, joined_behind, joined}
use Rattle.uecp_phrases.specs.Written.{line_of}
use Rattle.uecp_phrases.specs.Written.{set_tokens, service_tokens, place_tokens, set_token, byte_token, number_token}
use Rattle.uecp_phrases.specs.Written.{bits_tokens, traffic_tokens, music_tokens, programme_type_tokens, text_tokens}
use Rattle.uecp_phrases.specs.Written.{choices_tokens, is_named_head, is_named_group, group_tokens, type_token}
use Rattle.uecp_phrases.proofs.Said.{said_as_written, raw_said}

-- ---- No phrase that is written has a semicolon.

abbrev None_ends : List Token → Type 0
None_ends tokens = AllByRecursion (λ t. ends_phrase t ≡ false) tokens

either : (b : Bool) (x y : List Token) → None_ends x → None_ends y → None_ends (if b then x else y)
either true x y p q = p
either false x y p q = q

both : (x y : List Token) → None_ends x → None_ends y → None_ends (x ++ y)
both [] y p q = q
both (t ∷ x) y p q = (p.0, both x y p.1 q)

set_word_ends : (dsn : ℕ) → ends_phrase (set_token dsn) ≡ false
set_word_ends dsn = three (dsn == 0xFF) (dsn == 0xFE)
  where
    three : (b c : Bool) → ends_phrase (if b then Word (codes "all") else if c then Word (codes "others")
        else Word (decimal dsn)) ≡ false
    three true c = refl
    three false true = refl
    three false false = refl

places : (dsn psn : ℕ) → None_ends (place_tokens dsn psn)
places dsn psn =
    both (set_tokens dsn) (service_tokens psn)
    (either (dsn == 0x00) [] (Word (codes "in") ∷ set_token dsn ∷ []) tt (refl, (set_word_ends dsn, tt)))
    (either (psn == 0x00) [] (Word (codes "for") ∷ byte_token psn ∷ []) tt (refl, (refl, tt)))

bits : (raw : ℕ) → None_ends (bits_tokens raw)
bits raw = (refl, (refl, tt))

traffic : (raw : ℕ) → None_ends (traffic_tokens raw)
traffic raw =
    either (raw == 0) _ _ (refl, tt) (either (raw == 1) _ _ (refl, tt)
    (either (raw == 2) _ _ (refl, tt) (either (raw == 3) _ (bits_tokens raw) (refl, tt) (bits raw))))

music : (raw : ℕ) → None_ends (music_tokens raw)
music raw =
    either (raw == 1) _ _ (refl, tt) (either (raw == 0) _ (Word (codes "ms") ∷ bits_tokens raw) (refl, tt)
    (refl, bits raw))

types : (region : Region) (raw : ℕ) → None_ends (programme_type_tokens region raw)
types region raw = by (name_of region raw) (nat_le raw 31) refl refl
  where
    by : (o : Option (List ℕ)) (b : Bool) → name_of region raw ≡ o → nat_le raw 31 ≡ b
        → None_ends (programme_type_tokens region raw)
    by (Some name) b is is_b = rw is (refl, tt)
    by None true is is_b = rw (is, is_b) (refl, tt)
    by None false is is_b = rw (is, is_b) (bits raw)

choices : (head : ℕ) → None_ends (choices_tokens head)
choices head =
    both _ _ (either (head / 0x40 % 2 == 1) _ [] (refl, tt) tt)
    (both _ _ (either (head % 2 == 0) _ [] (refl, tt) tt)
    (either (head / 2 % 16 == 0) [] (Word (codes "times") ∷ Word (decimal (head / 2 % 16)) ∷ []) tt (refl, (refl, tt))))

texts : (part : Part) → None_ends (text_tokens part)
texts NoText = (refl, tt)
texts (Text head text) =
    either (is_named_head head) (Quoted text ∷ choices_tokens head)
    (Word (codes "bits") ∷ byte_token head ∷ Quoted text ∷ [])
    (refl, choices head) (refl, (refl, (refl, tt)))

groups : (kind mode block3 block4 : ℕ) → None_ends (group_tokens kind mode block3 block4)
groups kind mode block3 block4 =
    either (is_named_group kind mode)
    (type_token kind ∷ byte_token (mode % 0x20) ∷ number_token block3 ∷ number_token block4
    ∷ (if mode / 0x40 == 1 then Word (codes "add") ∷ [] else []))
    (Word (codes "bits") ∷ byte_token kind ∷ byte_token mode ∷ number_token block3 ∷ number_token block4 ∷ [])
    (refl, (refl, (refl, (refl, either (mode / 0x40 == 1) _ [] (refl, tt) tt))))
    (refl, (refl, (refl, (refl, (refl, tt)))))

phrases : (region : Region) (e : Element) → None_ends (phrase_of region e)
phrases region (Pi dsn psn pi) = both (place_tokens dsn psn) _ (places dsn psn) (refl, (refl, tt))
phrases region (Ps dsn psn name) = both (place_tokens dsn psn) _ (places dsn psn) (refl, (refl, tt))
phrases region (TaTp dsn psn raw) = both (place_tokens dsn psn) _ (places dsn psn) (refl, traffic raw)
phrases region (Ms dsn psn raw) = both (place_tokens dsn psn) _ (places dsn psn) (music raw)
phrases region (Pty dsn psn raw) = both (place_tokens dsn psn) _ (places dsn psn) (refl, types region raw)
phrases region (Rt dsn psn part) = both (place_tokens dsn psn) _ (places dsn psn) (refl, texts part)
phrases region (Select dsn) = (refl, (set_word_ends dsn, tt))
phrases region (Group kind mode block3 block4) = (refl, groups kind mode block3 block4)
phrases region (Ack code counter) = (refl, (refl, (refl, tt)))

raws : (bytes : List ℕ) → None_ends (map byte_token bytes)
raws [] = tt
raws (b ∷ bytes) = (refl, raws bytes)

of_item : (region : Region) (message : List ℕ) (item : Item) → None_ends (phrase_of_item region message item)
of_item region message (Ok e) = phrases region e
of_item region message (Err fault) = (refl, raws (drop fault.place message))

-- ---- Cut at semicolons, what was joined is as it was.

none_all : (tokens : List Token) → None_ends tokens → All (λ t. ends_phrase t ≡ false) tokens
none_all [] h = All-nil (λ t. ends_phrase t ≡ false)
none_all (t ∷ tokens) h = All-cons (λ t. ends_phrase t ≡ false) t tokens h.0 (none_all tokens h.1)

abbrev NoneEach : List (List Token) → Type 0
NoneEach phrases = AllByRecursion None_ends phrases

cut_first : (phrase : List Token) (others : List (List Token)) → None_ends phrase → NoneEach others
    → phrases_in (phrase ++ joined_behind others) ≡ phrase ∷ others
cut_first phrase [] h hs =
    ap phrases_in (append-nil phrase) ∙ slice_split_none ends_phrase phrase (none_all phrase h)
cut_first phrase (next ∷ others) h hs =
    slice_split_at ends_phrase phrase Semicolon (next ++ joined_behind others) (none_all phrase h) refl
    ∙ ap (λ l. phrase ∷ l) (cut_first next others hs.0 hs.1)

each_item : (region : Region) (message : List ℕ) (list : List Item)
    → NoneEach (map (phrase_of_item region message) list)
each_item region message [] = tt
each_item region message (i ∷ list) = (of_item region message i, each_item region message list)

-- ---- The phrases add the message.

pub bytes_left : (x y : List ℕ) → AreBytes (x ++ y) → AreBytes x
bytes_left [] y h = tt
bytes_left (b ∷ x) y h = (h.0, bytes_left x y h.1)

pub bytes_right : (x y : List ℕ) → AreBytes (x ++ y) → AreBytes y
bytes_right [] y h = h
bytes_right (b ∷ x) y h = bytes_right x y h.1

drop_front : (x y : List ℕ) → drop (length (x ++ y) - length y) (x ++ y) ≡ y
drop_front x y =
    let n = length-append x y in
    ap (λ k. drop k (x ++ y)) (omega (arith, n)) ∙ drop-append x y
  where
    drop-append : (x y : List ℕ) → drop (length x) (x ++ y) ≡ y
    drop-append [] y = refl
    drop-append (b ∷ x) y = drop-append x y

some_left : (rest : List ℕ) → rest ≢ [] → 1 ≤ length rest
some_left [] h = absurd (h refl)
some_left (b ∷ rest) h = omega arith

-- the elements and then the rest, of which the phrases are given
adds_rest : (region : Region) (message rest : List ℕ) (fault : Option ElementFault) → AreBytes rest
    → EndsWith (length message) rest fault → drop (length message - length rest) message ≡ rest
    → AddEach region (map (phrase_of_item region message) (fault_item fault)) rest
adds_rest region message rest None h end is = end
adds_rest region message rest (Some fault) h end is =
    let left : drop fault.place message ≡ rest = ap (λ n. drop n message) end.2 ∙ is in (
      rest,
      [],
      sym (append-nil rest),
      inr (subst (λ l. IsPhrase region (raw_phrase l) rest) (sym left) (raw_said region rest h (some_left rest end.0))),
      refl,
    )

adds_each : (region : Region) (message : List ℕ) (elements : List Element) (others : List Item) (rest : List ℕ)
    → AllByRecursion IsElement elements → AreBytes (flat_map spelling elements ++ rest)
    → AddEach region (map (phrase_of_item region message) others) rest
    → AddEach region (map (phrase_of_item region message) (map Ok elements ++ others))
    (flat_map spelling elements ++ rest)
adds_each region message [] others rest each bytes end = end
adds_each region message (e ∷ elements) others rest each bytes end =
    let whole = append_assoc (spelling e) (flat_map spelling elements) rest in
    let all = subst AreBytes whole bytes in (
      spelling e,
      flat_map spelling elements ++ rest,
      whole,
      inr (said_as_written region e each.0 (bytes_left (spelling e) (flat_map spelling elements ++ rest) all)),
      adds_each region message elements others rest each.1
          (bytes_right (spelling e) (flat_map spelling elements ++ rest) all) end,
    )

phrases_add : (region : Region) (message : List ℕ) → AreBytes message
    → AddEach region (phrases_of region message) message
phrases_add region message bytes =
    let reading = has_reading message bytes in
    let reads = reading.1 in
    let rest_is : drop (length message - length reads.rest) message ≡ reads.rest =
    subst (λ m. drop (length m - length reads.rest) m ≡ reads.rest) (sym reads.joined)
    (drop_front (flat_map spelling reading.0.elements) reads.rest) in
    let all = subst AreBytes reads.joined bytes in
    let end = adds_rest region message reads.rest reading.0.fault
    (bytes_right (flat_map spelling reading.0.elements) reads.rest all) reads.end rest_is in
    subst (λ l. AddEach region (map (phrase_of_item region message) l) message) (sym reading.2)
    (subst (λ m. AddEach region (map (phrase_of_item region message) (items_of reading.0)) m) (sym reads.joined)
    (adds_each region message reading.0.elements (fault_item reading.0.fault) reads.rest reads.each all end))

line_says : (region : Region) (message : List ℕ) (list : List (List Token)) → NoneEach list
    → AddEach region list message → Say region (joined list) message
line_says region message [] h each = (message, [], sym (append-nil message), inl (refl, each), refl)
line_says region message (phrase ∷ list) h each =
    subst (λ l. AddEach region l message) (sym (cut_first phrase list h.0 h.1)) each

pub message_said : (region : Region) (message : List ℕ) → AreBytes message → Say region (line_of region message) message
message_said region message bytes =
    line_says region message (phrases_of region message) (each_item region message (items message))
    (phrases_add region message bytes)
