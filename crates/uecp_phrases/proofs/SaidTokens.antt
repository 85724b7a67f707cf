-- The tokens that are written of an element are such as can be written: computed for each byte, and shown of names,
-- texts and numbers.
use Rattle.std.proofs.Common.{◌≡◌, ℕ, ◌/◌, ◌%◌, ◌<◌, ◌≤◌, ◌==◌, Bool, true, false, ◌&&◌, List, [], ◌∷◌, ◌++◌}
use Rattle.std.proofs.Common.{length, map, codes, refl, ap, ◌∙◌, arith, if◌then◌else◌}
use Rattle.std.specs.Prelude.{nat_le}
use Rattle.std.specs.List.{AllByRecursion, list_all, range_with_len}
use Rattle.std.specs.Fmt.{digits}
use Rattle.std.proofs.lemmas.Bool.{and_parts, leb-true, le-leb}
use Rattle.std.proofs.lemmas.List.Folds.{list_all-append}
use Rattle.hex.specs.Hex.{encode_upper, encode_with, upper_digits}
use Rattle.hex.proofs.HexLemmas.{length-encode_with}
use Rattle.uecp_frame.specs.Frame.{high_first}
use Rattle.uecp_elements.specs.Grammar.{NoText, Text, Element, Pi, Ps, TaTp, Ms, Pty, Rt, Select, Group, Ack, spelling}
use Rattle.uecp_elements.specs.Grammar.{IsElement, AreBytes}
use Rattle.rds_text.specs.declared.programme_type.Region.{Region}
use Rattle.rds_text.specs.declared.programme_type.Region.TheVariants.{Europe, NorthAmerica}
use Rattle.rds_text.specs.ProgrammeTypes.{name_of, names}
use Rattle.phrase_tokens.specs.Tokens.{Token, Word, Quoted, Semicolon, is_word_character, IsToken}
use Rattle.uecp_phrases.specs.Written.{set_token, set_tokens, service_tokens, place_tokens, byte_token, number_token}
use Rattle.uecp_phrases.specs.Written.{trimmed, traffic_tokens, music_tokens, programme_type_tokens}
use Rattle.uecp_phrases.specs.Written.{choices_tokens, text_tokens, type_token, group_tokens, is_named_head}
use Rattle.uecp_phrases.specs.Written.{is_named_group, phrase_of}
use Rattle.uecp_phrases.proofs.SaidBytes.{at_each, kind_said}
use Rattle.uecp_phrases.proofs.Said.{trimmed_length}

-- ---- The test that computes.

abbrev is_token : Token → Bool
is_token (Word w) = nat_le 1 (length w) && (nat_le (length w) 16 && list_all is_word_character w)
is_token (Quoted bytes) = nat_le (length bytes) 64 && list_all (λ b. nat_le b 0xFF) bytes
is_token Semicolon = true

are_small : (bytes : List ℕ) → list_all (λ b. nat_le b 0xFF) bytes ≡ true → AllByRecursion (λ b. b ≤ 0xFF) bytes
are_small [] h = tt
are_small (b ∷ bytes) h =
    let parts = and_parts (nat_le b 0xFF) (list_all (λ c. nat_le c 0xFF) bytes) h in
    (leb-true b 0xFF parts.0, are_small bytes parts.1)

pub is_one : (t : Token) → is_token t ≡ true → IsToken t
is_one (Word w) h =
    let parts = and_parts (nat_le 1 (length w)) (nat_le (length w) 16 && list_all is_word_character w) h in
    let others = and_parts (nat_le (length w) 16) (list_all is_word_character w) parts.1 in
    (leb-true 1 (length w) parts.0, leb-true (length w) 16 others.0, others.1)
is_one (Quoted bytes) h =
    let parts = and_parts (nat_le (length bytes) 64) (list_all (λ b. nat_le b 0xFF) bytes) h in
    (leb-true (length bytes) 64 parts.0, are_small bytes parts.1)
is_one Semicolon h = tt

are_tokens : (ts : List Token) → list_all is_token ts ≡ true → AllByRecursion IsToken ts
are_tokens [] h = tt
are_tokens (t ∷ ts) h =
    let parts = and_parts (is_token t) (list_all is_token ts) h in
    (is_one t parts.0, are_tokens ts parts.1)

pub both : (ts us : List Token) → AllByRecursion IsToken ts → AllByRecursion IsToken us
    → AllByRecursion IsToken (ts ++ us)
both [] us h i = i
both (t ∷ ts) us h i = (h.0, both ts us h.1 i)

-- ---- What is written of a byte.

abbrev Passes : (ℕ → List Token) → Type 0
Passes tokens = map (λ b. list_all is_token (tokens b)) (range_with_len 0 0x100)
    ≡ map (λ b. true) (range_with_len 0 0x100)

at_byte : (tokens : ℕ → List Token) → Passes tokens → (byte : ℕ) → byte < 0x100 → AllByRecursion IsToken (tokens byte)
at_byte tokens pass byte low =
    are_tokens (tokens byte) (at_each (λ b. list_all is_token (tokens b)) (λ b. true) false 0x100 byte pass low)

abbrev alone : (ℕ → Token) → ℕ → List Token
alone token byte = token byte ∷ []

sets : Passes set_tokens
unfolding digits
sets = refl

services : Passes service_tokens
unfolding encode_with
services = refl

set_alone : Passes (alone set_token)
unfolding digits
set_alone = refl

byte_alone : Passes (alone byte_token)
unfolding encode_with
byte_alone = refl

traffics : Passes traffic_tokens
unfolding encode_with
traffics = refl

musics : Passes music_tokens
unfolding encode_with
musics = refl

european : Passes (programme_type_tokens Europe)
unfolding encode_with digits name_of names
european = refl

north_american : Passes (programme_type_tokens NorthAmerica)
unfolding encode_with digits name_of names
north_american = refl

choices : Passes choices_tokens
unfolding digits
choices = refl

types : Passes (λ kind. if nat_le kind 0x1F then type_token kind ∷ [] else [])
unfolding digits
types = refl

place : (dsn psn : ℕ) → dsn < 256 → psn < 256 → AllByRecursion IsToken (place_tokens dsn psn)
place dsn psn d p =
    both (set_tokens dsn) (service_tokens psn) (at_byte set_tokens sets dsn d) (at_byte service_tokens services psn p)

pub byte_is : (byte : ℕ) → byte < 256 → IsToken (byte_token byte)
byte_is byte h = (at_byte (alone byte_token) byte_alone byte h).0

-- ---- What is written of names, texts and numbers.

digits_of : (xs : List ℕ) → AreBytes xs → list_all is_word_character (encode_upper xs) ≡ true
unfolding encode_with
digits_of [] h = refl
digits_of (x ∷ xs) h =
    list_all-append is_word_character (encode_upper (x ∷ [])) (encode_upper xs)
    ∙ ap (λ b. b && list_all is_word_character (encode_upper xs)) (byte_is x h.0).2 ∙ digits_of xs h.1

number_is : (n : ℕ) → AreBytes (high_first n) → IsToken (number_token n)
number_is n h =
    let four = length-encode_with upper_digits (high_first n) in (
      omega arith,
      omega arith,
      digits_of (high_first n) h,
    )

bytes_small : (bytes : List ℕ) → AreBytes bytes → AllByRecursion (λ b. b ≤ 0xFF) bytes
bytes_small [] h = tt
bytes_small (b ∷ bytes) h = (omega arith, bytes_small bytes h.1)

trimmed_small : (name : List ℕ) → AreBytes name → AllByRecursion (λ b. b ≤ 0xFF) (trimmed name)
trimmed_small [] h = tt
trimmed_small (byte ∷ bytes) h = by (length (trimmed bytes) == 0 && byte == 0x20) refl (trimmed_small bytes h.1)
  where
    by : (b : Bool) → (length (trimmed bytes) == 0 && byte == 0x20) ≡ b
        → AllByRecursion (λ b. b ≤ 0xFF) (trimmed bytes) → AllByRecursion (λ b. b ≤ 0xFF) (trimmed (byte ∷ bytes))
    by true is more = rw is tt
    by false is more = rw is (omega arith, more)

name_is : (name : List ℕ) → length name ≡ 8 → AreBytes name → IsToken (Quoted (trimmed name))
name_is name eight h = let short = trimmed_length name in (omega arith, trimmed_small name h)

text_is : (byte : ℕ) (text : List ℕ) → byte < 256 → length text ≤ 64 → AreBytes text
    → AllByRecursion IsToken (text_tokens (Text byte text))
text_is byte text low short h = by (is_named_head byte) refl
  where
    by : (b : Bool) → is_named_head byte ≡ b → AllByRecursion IsToken (text_tokens (Text byte text))
    by true is = rw is ((short, bytes_small text h), at_byte choices_tokens choices byte low)
    by false is =
        rw is (is_one (Word (codes "bits")) refl, (byte_is byte low, ((short, bytes_small text h), tt)))

type_is : (kind : ℕ) → kind ≤ 0x1F → IsToken (type_token kind)
type_is kind h =
    let all = at_byte (λ k. if nat_le k 0x1F then type_token k ∷ [] else []) types kind (omega arith) in
    let within : nat_le kind 0x1F ≡ true = le-leb kind 0x1F h in
    (rw within at all).0

added_is : (b : Bool) → AllByRecursion IsToken (if b then Word (codes "add") ∷ [] else [])
added_is true = are_tokens (Word (codes "add") ∷ []) refl
added_is false = tt

group_is : (kind mode block3 block4 : ℕ) → kind < 256 → mode < 256 → AreBytes (high_first block3)
    → AreBytes (high_first block4) → AllByRecursion IsToken (group_tokens kind mode block3 block4)
group_is kind mode block3 block4 k m b c = by (is_named_group kind mode) refl
  where
    by : (named : Bool) → is_named_group kind mode ≡ named
        → AllByRecursion IsToken (group_tokens kind mode block3 block4)
    by true is = rw is (
      type_is kind (kind_said kind mode is),
      (
        byte_is (mode % 0x20) (omega arith),
        (number_is block3 b, (number_is block4 c, added_is (mode / 0x40 == 1))),
      ),
    )
    by false is = rw is (
      is_one (Word (codes "bits")) refl,
      (byte_is kind k, (byte_is mode m, (number_is block3 b, (number_is block4 c, tt)))),
    )

pub programme_type_is : (region : Region) (raw : ℕ) → raw < 256
    → AllByRecursion IsToken (programme_type_tokens region raw)
programme_type_is Europe raw h = at_byte (programme_type_tokens Europe) european raw h
programme_type_is NorthAmerica raw h = at_byte (programme_type_tokens NorthAmerica) north_american raw h

-- ---- Elements.

-- A place, a word and the rest.
placed : (dsn psn : ℕ) (word : List ℕ) (rest : List Token) → dsn < 256 → psn < 256 → IsToken (Word word)
    → AllByRecursion IsToken rest → AllByRecursion IsToken (place_tokens dsn psn ++ (Word word ∷ rest))
placed dsn psn word rest d p w h = both (place_tokens dsn psn) (Word word ∷ rest) (place dsn psn d p) (w, h)

pub writable : (region : Region) (e : Element) → IsElement e → AreBytes (spelling e)
    → AllByRecursion IsToken (phrase_of region e)
writable region (Pi dsn psn pi) is h =
    placed dsn psn (codes "pi") (number_token pi ∷ []) h.1.0 h.1.1.0 (is_one (Word (codes "pi")) refl)
    (number_is pi h.1.1.1, tt)
writable region (Ps dsn psn name) is h =
    placed dsn psn (codes "ps") (Quoted (trimmed name) ∷ []) h.1.0 h.1.1.0 (is_one (Word (codes "ps")) refl)
    (name_is name is h.1.1.1, tt)
writable region (TaTp dsn psn raw) is h =
    placed dsn psn (codes "traffic") (traffic_tokens raw) h.1.0 h.1.1.0 (is_one (Word (codes "traffic")) refl)
    (at_byte traffic_tokens traffics raw h.1.1.1.0)
writable region (Ms dsn psn raw) is h =
    both (place_tokens dsn psn) (music_tokens raw) (place dsn psn h.1.0 h.1.1.0)
    (at_byte music_tokens musics raw h.1.1.1.0)
writable region (Pty dsn psn raw) is h =
    placed dsn psn (codes "pty") (programme_type_tokens region raw) h.1.0 h.1.1.0 (is_one (Word (codes "pty")) refl)
    (programme_type_is region raw h.1.1.1.0)
writable region (Rt dsn psn NoText) is h =
    placed dsn psn (codes "rt") (text_tokens NoText) h.1.0 h.1.1.0 (is_one (Word (codes "rt")) refl)
    (are_tokens (text_tokens NoText) refl)
writable region (Rt dsn psn (Text byte text)) is h =
    placed dsn psn (codes "rt") (text_tokens (Text byte text)) h.1.0 h.1.1.0 (is_one (Word (codes "rt")) refl)
    (text_is byte text h.1.1.1.1.0 is h.1.1.1.1.1)
writable region (Select dsn) is h =
    (is_one (Word (codes "set")) refl, at_byte (alone set_token) set_alone dsn h.1.0)
writable region (Group kind mode block3 block4) is h = (
  is_one (Word (codes "group")) refl,
  group_is kind mode block3 block4 h.1.0 h.1.1.0
      (h.1.1.1.0, (h.1.1.1.1.0, tt)) h.1.1.1.1.1,
)
writable region (Ack code counter) is h =
    (is_one (Word (codes "ack")) refl, (byte_is code h.1.0, (byte_is counter h.1.1.0, tt)))
