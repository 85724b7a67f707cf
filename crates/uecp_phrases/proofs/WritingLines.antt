-- How the phrases of a line come together.
use Rattle.std.proofs.Common.{◌≡◌, ◌≢◌, ℕ, ◌==◌, Bool, true, false, List, [], ◌∷◌, ◌++◌, map, codes, Ok, Err}
use Rattle.std.proofs.Common.{refl, sym, ◌∙◌, ap, subst, if◌then◌else◌, append_assoc}
use Rattle.std.proofs.lemmas.Str.{encodes-append}
use Rattle.std.specs.Prelude.{encode_utf8_all}
use Rattle.uecp_elements.specs.Grammar.{Element, Pi, Ps, TaTp, Ms, Pty, Rt, Select, Group, Ack}
use Rattle.uecp_elements.specs.Reading.{Item, items}
use Rattle.rds_text.specs.declared.programme_type.Region.{Region}
use Rattle.uecp_text.specs.Written.{Kept, Adds}
use Rattle.uecp_text.proofs.Public.{Leads, leads_on, leads_from, leads_end, adds_then}
use Rattle.phrase_tokens.specs.Tokens.{Token, Word, Semicolon, written_token, written_behind, written_tokens}
use Rattle.phrase_tokens.proofs.Public.{behind_split}
use Rattle.uecp_phrases.specs.Written.{byte_token, place_tokens, phrase_of, phrase_of_item, joined, joined_behind}
use Rattle.uecp_phrases.specs.Written.{line_of}
use Rattle.uecp_phrases.specs.Written.{music_tokens, bits_tokens}

behind_both : (a b : List Token) → written_behind (a ++ b) ≡ written_behind a ++ written_behind b
behind_both [] b = refl
behind_both (t ∷ a) b =
    behind_split t (a ++ b) ∙ ap (λ l. written_behind (t ∷ []) ++ l) (behind_both a b)
    ∙ sym (append_assoc (written_behind (t ∷ [])) (written_behind a) (written_behind b))
    ∙ ap (λ l. l ++ written_behind b) (sym (behind_split t a))

tokens_both : (a b : List Token) → a ≢ [] → written_tokens (a ++ b) ≡ written_tokens a ++ written_behind b
tokens_both [] b some = absurd (some refl)
tokens_both (t ∷ a) b some =
    ap (λ l. written_token t ++ l) (behind_both a b)
    ∙ sym (append_assoc (written_token t) (written_behind a) (written_behind b))

encoded_behind : (a b : List Token)
    → encode_utf8_all (written_behind (a ++ b)) ≡ encode_utf8_all (written_behind a)
    ++ encode_utf8_all (written_behind b)
encoded_behind a b = ap encode_utf8_all (behind_both a b) ∙ encodes-append (written_behind a) (written_behind b)

encoded_tokens : (a b : List Token) → a ≢ []
    → encode_utf8_all (written_tokens (a ++ b)) ≡ encode_utf8_all (written_tokens a)
    ++ encode_utf8_all (written_behind b)
encoded_tokens a b some =
    ap encode_utf8_all (tokens_both a b some) ∙ encodes-append (written_tokens a) (written_behind b)

-- ---- A phrase has a token.

some_behind : (a b : List Token) (t : Token) → a ++ (t ∷ b) ≢ []
some_behind [] b t = λ e. cc e
some_behind (x ∷ a) b t = λ e. cc e

some_music : (a : List Token) (raw : ℕ) → a ++ music_tokens raw ≢ []
some_music a raw = three (raw == 1) (raw == 0)
  where
    three : (b c : Bool) → a ++ (if b then Word (codes "music") ∷ [] else if c then Word (codes "speech") ∷ []
        else Word (codes "ms") ∷ bits_tokens raw) ≢ []
    three true c = some_behind a [] _
    three false true = some_behind a [] _
    three false false = some_behind a _ _

some_phrase : (region : Region) (e : Element) → phrase_of region e ≢ []
some_phrase region (Pi dsn psn pi) = some_behind (place_tokens dsn psn) _ _
some_phrase region (Ps dsn psn name) = some_behind (place_tokens dsn psn) _ _
some_phrase region (TaTp dsn psn raw) = some_behind (place_tokens dsn psn) _ _
some_phrase region (Ms dsn psn raw) = some_music (place_tokens dsn psn) raw
some_phrase region (Pty dsn psn raw) = some_behind (place_tokens dsn psn) _ _
some_phrase region (Rt dsn psn part) = some_behind (place_tokens dsn psn) _ _
some_phrase region (Select dsn) = λ e. cc e
some_phrase region (Group kind mode block3 block4) = λ e. cc e
some_phrase region (Ack code counter) = λ e. cc e

some_item : (region : Region) (message : List ℕ) (item : Item) → phrase_of_item region message item ≢ []
some_item region message (Ok e) = some_phrase region e
some_item region message (Err fault) = λ e. cc e

-- ---- What is added.

-- the first word and the others
pub raw_first : (a b c : Kept) (others : List Token)
    → Adds a b (encode_utf8_all (written_tokens (Word (codes "raw") ∷ [])))
    → Adds b c (encode_utf8_all (written_behind others))
    → Adds a c (encode_utf8_all (written_tokens (Word (codes "raw") ∷ others)))
raw_first a b c others p q =
    subst (λ l. Adds a c l) (sym (encoded_tokens (Word (codes "raw") ∷ []) others (λ e. cc e)))
    (adds_then a b c (encode_utf8_all (written_tokens (Word (codes "raw") ∷ [])))
    (encode_utf8_all (written_behind others)) p q)

pub behind_then : (a b c : Kept) (first others : List Token) → Adds a b (encode_utf8_all (written_behind first))
    → Adds b c (encode_utf8_all (written_behind others))
    → Adds a c (encode_utf8_all (written_behind (first ++ others)))
behind_then a b c first others p q =
    subst (λ l. Adds a c l) (sym (encoded_behind first others))
    (adds_then a b c (encode_utf8_all (written_behind first)) (encode_utf8_all (written_behind others)) p q)

-- what is left of a line behind some of its phrases
abbrev pub left_of : Region → (message : List ℕ) → List Item → List ℕ
left_of region message list =
    encode_utf8_all (written_behind (joined_behind (map (phrase_of_item region message) list)))

-- the whole line
abbrev pub whole_of : Region → (message : List ℕ) → List ℕ
whole_of region message = encode_utf8_all (written_tokens (line_of region message))

pub line_begins : (a b : Kept) (region : Region) (message : List ℕ) (first : Item) (others : List Item)
    → items message ≡ first ∷ others
    → Adds a b (encode_utf8_all (written_tokens (phrase_of_item region message first)))
    → Leads a b (left_of region message others) (whole_of region message)
line_begins a b region message first others is adds =
    leads_from a b (encode_utf8_all (written_tokens (phrase_of_item region message first)))
    (left_of region message others) (whole_of region message) adds
    (ap (λ l. encode_utf8_all (written_tokens (joined (map (phrase_of_item region message) l)))) is
    ∙ encoded_tokens (phrase_of_item region message first)
    (joined_behind (map (phrase_of_item region message) others)) (some_item region message first))

pub line_goes_on : (a b c d : Kept) (region : Region) (message : List ℕ) (item : Item) (others : List Item)
    → Leads a b (left_of region message (item ∷ others)) (whole_of region message)
    → Adds b c (encode_utf8_all (written_behind (Semicolon ∷ [])))
    → Adds c d (encode_utf8_all (written_behind (phrase_of_item region message item)))
    → Leads a d (left_of region message others) (whole_of region message)
line_goes_on a b c d region message item others leads p q =
    leads_on a b d (encode_utf8_all (written_behind (Semicolon ∷ phrase_of_item region message item)))
    (left_of region message (item ∷ others)) (left_of region message others) (whole_of region message) leads
    (encoded_behind (Semicolon ∷ phrase_of_item region message item)
    (joined_behind (map (phrase_of_item region message) others)))
    (behind_then b c d (Semicolon ∷ []) (phrase_of_item region message item) p q)

pub line_ends : (a b : Kept) (region : Region) (message : List ℕ)
    → Leads a b (left_of region message []) (whole_of region message) → Adds a b (whole_of region message)
line_ends a b region message leads = leads_end a b (left_of region message []) (whole_of region message) leads refl

pub no_line : (region : Region) (message : List ℕ) → items message ≡ [] → whole_of region message ≡ []
no_line region message is =
    ap (λ l. encode_utf8_all (written_tokens (joined (map (phrase_of_item region message) l)))) is

pub raw_more : (a b c : Kept) (byte : ℕ) (bytes whole : List ℕ)
    → Leads a b (encode_utf8_all (written_behind (map byte_token (byte ∷ bytes))))
    (encode_utf8_all (written_behind (map byte_token whole)))
    → Adds b c (encode_utf8_all (written_behind (byte_token byte ∷ [])))
    → Leads a c (encode_utf8_all (written_behind (map byte_token bytes)))
    (encode_utf8_all (written_behind (map byte_token whole)))
raw_more a b c byte bytes whole leads adds =
    leads_on a b c (encode_utf8_all (written_behind (byte_token byte ∷ [])))
    (encode_utf8_all (written_behind (map byte_token (byte ∷ bytes))))
    (encode_utf8_all (written_behind (map byte_token bytes))) (encode_utf8_all (written_behind (map byte_token whole)))
    leads (encoded_behind (byte_token byte ∷ []) (map byte_token bytes)) adds
