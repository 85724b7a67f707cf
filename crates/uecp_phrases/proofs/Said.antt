-- What is written of an element is a phrase, and adds that element's spelling.
use Rattle.std.proofs.Common.{◌≡◌, ℕ, zero, suc, ◌-◌, ◌/◌, ◌%◌, ◌<◌, ◌≤◌, ◌==◌, ◌&&◌, Bool, true, false}
use Rattle.std.proofs.Common.{List, [], ◌∷◌, ◌++◌, length, map, codes, replicate, Option, Some, None, Ok, refl, sym, ap}
use Rattle.std.proofs.Common.{◌∙◌}
use Rattle.std.proofs.Common.{inl, inr, arith, if◌then◌else◌, append_assoc}
use Rattle.std.specs.Prelude.{decimal, nat_le, is_some, ◌||◌}
use Rattle.std.proofs.lemmas.Bool.{and_parts, eqb-true, eqb-false, leb-true}
use Rattle.hex.specs.Hex.{IsBytes, encode_upper, upper_digits, decode_sized}
use Rattle.hex.proofs.HexLemmas.{decode_of-encode_upper, decode_sized-twice, length-encode_with}
use Rattle.uecp_frame.specs.Frame.{high_first}
use Rattle.uecp_elements.specs.Grammar.{NoText, Text, Element, Pi, Ps, TaTp, Ms, Pty, Rt, Select, Group, Ack}
use Rattle.uecp_elements.specs.Grammar.{spelling, IsElement, AreBytes}
use Rattle.uecp_text.specs.Words.{IsByte, IsNumber}
use Rattle.rds_text.specs.declared.programme_type.Region.{Region}
use Rattle.rds_text.specs.ProgrammeTypes.{name_of}
use Rattle.phrase_tokens.specs.Tokens.{Token, Word, Quoted}
use Rattle.uecp_phrases.specs.declared.head.Head.{Head}
use Rattle.uecp_phrases.specs.declared.head.Head.TheVariants as head
use Rattle.uecp_phrases.specs.Phrases.{IsSet, set_said, service_said, IsInSet, IsForService}
use Rattle.uecp_phrases.specs.Phrases.{head_word, AreBits, IsName, IsTraffic, IsProgrammeType, IsRadioText, IsGroup}
use Rattle.uecp_phrases.specs.Phrases.{AreRaw, Tells, IsPhrase}
use Rattle.uecp_phrases.proofs.Phrasing.{own_head}
use Rattle.uecp_phrases.specs.Written.{set_token, set_tokens, service_tokens, place_tokens, bits_tokens, byte_token}
use Rattle.uecp_phrases.specs.Written.{number_token, trimmed, phrase_of}
use Rattle.uecp_phrases.specs.Written.{traffic_tokens, music_tokens, programme_type_tokens, text_tokens, group_tokens}
use Rattle.uecp_phrases.specs.Written.{is_named_head, is_named_group, choices_tokens, raw_phrase}
use Rattle.uecp_phrases.proofs.SaidBytes.{set_number, type_number, made_in, choices_made, head_made, type_said}
use Rattle.uecp_phrases.proofs.SaidBytes.{mode_said}
use Rattle.uecp_phrases.proofs.SaidBytes.{kind_said, mode_named}

-- ---- What digits spell.

are_bytes : (xs : List ℕ) → AreBytes xs → IsBytes xs
are_bytes [] h i = omega arith
are_bytes (x ∷ xs) h zero = h.0
are_bytes (x ∷ xs) h (suc i) = are_bytes xs h.1 i

digits_sized : (xs : List ℕ) (n : ℕ) → length xs ≡ n → AreBytes xs → decode_sized (encode_upper xs) n ≡ Ok xs
digits_sized xs n same h =
    let two = length-encode_with upper_digits xs in
    decode_sized-twice (encode_upper xs) n (omega (arith, two, same)) ∙ decode_of-encode_upper xs (are_bytes xs h)

abbrev byte_digits : ℕ → List ℕ
byte_digits b = encode_upper (b ∷ [])

abbrev number_digits : ℕ → List ℕ
number_digits n = encode_upper (high_first n)

pub byte_spelled : (b : ℕ) → b < 256 → IsByte (byte_digits b) b
byte_spelled b h = digits_sized (b ∷ []) 1 refl (h, tt)

pub number_spelled : (n : ℕ) → AreBytes (high_first n) → IsNumber (number_digits n) n
number_spelled n h = digits_sized (high_first n) 2 refl h

bits_said : (raw : ℕ) → raw < 256 → AreBits (bits_tokens raw) raw
bits_said raw h = (byte_digits raw, refl, byte_spelled raw h)

-- ---- Where it acts.

-- A data set's word.
abbrev pub set_word : ℕ → List ℕ
set_word dsn = if dsn == 0xFF then codes "all" else if dsn == 0xFE then codes "others" else decimal dsn

pub set_as_word : (dsn : ℕ) → set_token dsn ≡ Word (set_word dsn)
set_as_word dsn = by (dsn == 0xFF) (dsn == 0xFE)
  where
    by : (a b : Bool) →
        (if a then Word (codes "all") else if b then Word (codes "others") else Word (decimal dsn))
        ≡ Word (if a then codes "all" else if b then codes "others" else decimal dsn)
    by true b = refl
    by false true = refl
    by false false = refl

pub names_set : (dsn : ℕ) → dsn < 256 → IsSet (set_word dsn) dsn
names_set dsn h = by (dsn == 0xFF) (dsn == 0xFE) refl refl
  where
    by : (a b : Bool) → (dsn == 0xFF) ≡ a → (dsn == 0xFE) ≡ b
        → IsSet (if a then codes "all" else if b then codes "others" else decimal dsn) dsn
    by true b is_a is_b = inl (refl, eqb-true _ _ is_a)
    by false true is_a is_b = inr (inl (refl, eqb-true _ _ is_b))
    by false false is_a is_b =
        let no_a = eqb-false dsn 0xFF is_a in
        let no_b = eqb-false dsn 0xFE is_b in
        inr (inr (set_number dsn (grind (arith, no_a, no_b))))

-- The set that is said of a number, if one is.
record SetPlace (dsn : ℕ) : Type 0 where
  pub set : Option (List ℕ)
  pub tokens : set_tokens dsn ≡ set_said set
  pub meant : IsInSet set dsn

set_place : (dsn : ℕ) → dsn < 256 → SetPlace dsn
set_place dsn h = by (dsn == 0) refl
  where
    by : (b : Bool) → (dsn == 0) ≡ b → SetPlace dsn
    by true is = record { set = None; tokens = rw is refl; meant = eqb-true _ _ is }
    by false is = record {
      set = Some (set_word dsn);
      tokens = rw is (ap (λ t. Word (codes "in") ∷ t ∷ []) (set_as_word dsn));
      meant = names_set dsn h;
    }

-- The service that is said of a number, if one is.
record ServicePlace (psn : ℕ) : Type 0 where
  pub service : Option (List ℕ)
  pub tokens : service_tokens psn ≡ service_said service
  pub meant : IsForService service psn

service_place : (psn : ℕ) → psn < 256 → ServicePlace psn
service_place psn h = by (psn == 0) refl
  where
    by : (b : Bool) → (psn == 0) ≡ b → ServicePlace psn
    by true is = record { service = None; tokens = rw is refl; meant = eqb-true _ _ is }
    by false is = record { service = Some (byte_digits psn); tokens = rw is refl; meant = byte_spelled psn h }

-- What tells the rest behind any place.
said_at : (region : Region) (h : Head) (rest : List Token) (dsn psn : ℕ) (bytes : List ℕ) → dsn < 256 → psn < 256
    → ((placed : Bool) → Tells region h placed dsn psn rest bytes)
    → IsPhrase region (place_tokens dsn psn ++ (Word (head_word h) ∷ rest)) bytes
said_at region h rest dsn psn bytes d p tells =
    let in_set = set_place dsn d in
    let for_service = service_place psn p in record {
      set = in_set.set;
      service = for_service.service;
      first = Word (head_word h);
      head = h;
      rest = rest;
      dsn = dsn;
      psn = psn;
      whole = append_assoc (set_tokens dsn) (service_tokens psn) (Word (head_word h) ∷ rest)
          ∙ ap (λ l. l ++ (service_tokens psn ++ (Word (head_word h) ∷ rest))) in_set.tokens
          ∙ ap (λ l. set_said in_set.set ++ (l ++ (Word (head_word h) ∷ rest))) for_service.tokens;
      named = own_head h;
      in_set = in_set.meant;
      for_service = for_service.meant;
      told = tells (is_some in_set.set || is_some for_service.service);
    }

-- What tells the rest where no place is said.
said_alone : (region : Region) (h : Head) (rest : List Token) (bytes : List ℕ)
    → Tells region h false 0 0 rest bytes → IsPhrase region (Word (head_word h) ∷ rest) bytes
said_alone region h rest bytes tells = record {
  set = None;
  service = None;
  first = Word (head_word h);
  head = h;
  rest = rest;
  dsn = 0;
  psn = 0;
  whole = refl;
  named = own_head h;
  in_set = refl;
  for_service = refl;
  told = tells;
}

-- ---- Names.

pub trimmed_length : (name : List ℕ) → length (trimmed name) ≤ length name
trimmed_length [] = omega arith
trimmed_length (byte ∷ bytes) =
    by (length (trimmed bytes) == 0 && byte == 0x20) refl (trimmed_length bytes)
  where
    by : (b : Bool) → (length (trimmed bytes) == 0 && byte == 0x20) ≡ b → length (trimmed bytes) ≤ length bytes
        → length (trimmed (byte ∷ bytes)) ≤ length (byte ∷ bytes)
    by true is more = rw is (omega arith)
    by false is more = rw is (omega arith)

empty : (l : List ℕ) → length l ≡ 0 → l ≡ []
empty [] h = refl
empty (x ∷ l) h = absurd (omega arith)

-- A name is its trimmed one, filled with spaces.
filled : (name : List ℕ) (n : ℕ) → length name ≡ n
    → name ≡ trimmed name ++ replicate (n - length (trimmed name)) 0x20
filled [] zero h = refl
filled [] (suc n) h = absurd (omega arith)
filled (byte ∷ bytes) zero h = absurd (omega arith)
filled (byte ∷ bytes) (suc n) h =
    by (length (trimmed bytes) == 0 && byte == 0x20) refl (filled bytes n (omega arith))
  where
    by : (b : Bool) → (length (trimmed bytes) == 0 && byte == 0x20) ≡ b
        → bytes ≡ trimmed bytes ++ replicate (n - length (trimmed bytes)) 0x20
        → (byte ∷ bytes) ≡ trimmed (byte ∷ bytes) ++ replicate (suc n - length (trimmed (byte ∷ bytes))) 0x20
    by true is more =
        let parts = and_parts (length (trimmed bytes) == 0) (byte == 0x20) is in
        let none : trimmed bytes ≡ [] = empty (trimmed bytes) (eqb-true _ _ parts.0) in
        let all : (n - 0) ≡ n = omega arith in
        let spaces : bytes ≡ replicate n 0x20 =
        more ∙ ap (λ (l : List ℕ). l ++ replicate (n - length l) 0x20) none
        ∙ ap (λ (k : ℕ). replicate k 0x20) all in
        let whole : (suc n - 0) ≡ suc n = omega arith in
        rw is (ap (λ (b : ℕ). b ∷ bytes) (eqb-true _ _ parts.1) ∙ ap (λ (l : List ℕ). 0x20 ∷ l) spaces
        ∙ ap (λ (k : ℕ). replicate k 0x20) (sym whole))
    by false is more =
        let count : (suc n - suc (length (trimmed bytes))) ≡ n - length (trimmed bytes) = omega arith in
        rw is (ap (λ (l : List ℕ). byte ∷ l) more
        ∙ ap (λ (k : ℕ). byte ∷ (trimmed bytes ++ replicate k 0x20)) (sym count))

name_said : (name : List ℕ) → length name ≡ 8 → IsName (Quoted (trimmed name) ∷ []) name
name_said name eight =
    let short = trimmed_length name in (
      trimmed name,
      refl,
      omega arith,
      filled name 8 eight,
    )

-- ---- What it says.

traffic_said : (raw : ℕ) → raw < 256 → IsTraffic (traffic_tokens raw) raw
traffic_said raw h = by (raw == 0) (raw == 1) (raw == 2) (raw == 3) refl refl refl refl
  where
    by : (a b c d : Bool) → (raw == 0) ≡ a → (raw == 1) ≡ b → (raw == 2) ≡ c → (raw == 3) ≡ d
        → IsTraffic (traffic_tokens raw) raw
    by true b c d is_a _ _ _ = rw is_a (inl (codes "none", refl, inl (refl, eqb-true _ _ is_a)))
    by false true c d is_a is_b _ _ = rw (is_a, is_b) (inl (codes "eon", refl, inr (inl (refl, eqb-true _ _ is_b))))
    by false false true d is_a is_b is_c _ =
        rw (is_a, is_b, is_c) (inl (codes "programme", refl, inr (inr (inl (refl, eqb-true _ _ is_c)))))
    by false false false true is_a is_b is_c is_d =
        rw (is_a, is_b, is_c, is_d) (inl (codes "announcement", refl, inr (inr (inr (refl, eqb-true _ _ is_d)))))
    by false false false false is_a is_b is_c is_d = rw (is_a, is_b, is_c, is_d) (inr (bits_said raw h))

music_said : (region : Region) (dsn psn raw : ℕ) → dsn < 256 → psn < 256 → raw < 256
    → IsPhrase region (place_tokens dsn psn ++ music_tokens raw) (spelling (Ms dsn psn raw))
music_said region dsn psn raw d p r = by (raw == 1) (raw == 0) refl refl
  where
    by : (a b : Bool) → (raw == 1) ≡ a → (raw == 0) ≡ b
        → IsPhrase region (place_tokens dsn psn ++ music_tokens raw) (spelling (Ms dsn psn raw))
    by true b is_a is_b =
        rw is_a (said_at region head.Music [] dsn psn (spelling (Ms dsn psn raw)) d p
        (λ placed. (refl, ap (λ r. spelling (Ms dsn psn r)) (eqb-true _ _ is_a))))
    by false true is_a is_b =
        rw (is_a, is_b) (said_at region head.Speech [] dsn psn (spelling (Ms dsn psn raw)) d p
        (λ placed. (refl, ap (λ r. spelling (Ms dsn psn r)) (eqb-true _ _ is_b))))
    by false false is_a is_b =
        rw (is_a, is_b) (said_at region head.Ms (bits_tokens raw) dsn psn (spelling (Ms dsn psn raw)) d p
        (λ placed. (raw, bits_said raw r, refl)))

programme_type_said : (region : Region) (raw : ℕ) → raw < 256
    → IsProgrammeType region (programme_type_tokens region raw) raw
programme_type_said region raw h = by (name_of region raw) (nat_le raw 31) refl refl
  where
    by : (o : Option (List ℕ)) (b : Bool) → name_of region raw ≡ o → nat_le raw 31 ≡ b
        → IsProgrammeType region (programme_type_tokens region raw) raw
    by (Some name) b is is_b = rw is (inl (name, refl, (name, refl, refl)))
    by None true is is_b =
        rw (is, is_b) (inr (inl (decimal raw, refl, type_number raw (let e = leb-true raw 31 is_b in omega arith))))
    by None false is is_b = rw (is, is_b) (inr (inr (bits_said raw h)))

text_said : (head : ℕ) (text : List ℕ) → head < 256 → IsRadioText (text_tokens (Text head text)) (Text head text)
text_said head text h = by (is_named_head head) refl
  where
    by : (b : Bool) → is_named_head head ≡ b → IsRadioText (text_tokens (Text head text)) (Text head text)
    by true is =
        rw is (inl (choices_tokens head, made_in head, refl, choices_made head, head_made head h is))
    by false is = rw is (inr (byte_digits head, refl, byte_spelled head h))

group_said : (kind mode block3 block4 : ℕ) → kind < 256 → mode < 256 → AreBytes (high_first block3)
    → AreBytes (high_first block4) → IsGroup (group_tokens kind mode block3 block4) kind mode block3 block4
group_said kind mode block3 block4 k m b c = by (is_named_group kind mode) refl
  where
    by : (named : Bool) → is_named_group kind mode ≡ named
        → IsGroup (group_tokens kind mode block3 block4) kind mode block3 block4
    by true is = rw is (inl (
      decimal (kind / 2) ++ (if kind % 2 == 0 then codes "A" else codes "B"),
      byte_digits (mode % 0x20),
      number_digits block3,
      number_digits block4,
      mode % 0x20,
      mode / 0x40 == 1,
      refl,
      type_said kind (kind_said kind mode is),
      byte_spelled (mode % 0x20) (omega arith),
      omega arith,
      mode_said mode m (mode_named kind mode is),
      number_spelled block3 b,
      number_spelled block4 c,
    ))
    by false is = rw is (inr (
      byte_digits kind,
      byte_digits mode,
      number_digits block3,
      number_digits block4,
      refl,
      byte_spelled kind k,
      byte_spelled mode m,
      number_spelled block3 b,
      number_spelled block4 c,
    ))

-- ---- Elements.

pub said_as_written : (region : Region) (e : Element) → IsElement e → AreBytes (spelling e)
    → IsPhrase region (phrase_of region e) (spelling e)
said_as_written region (Pi dsn psn pi) is h =
    said_at region head.Pi (number_token pi ∷ []) dsn psn (spelling (Pi dsn psn pi)) h.1.0 h.1.1.0
    (λ placed. (pi, (number_digits pi, refl, number_spelled pi h.1.1.1), refl))
said_as_written region (Ps dsn psn name) is h =
    said_at region head.Ps (Quoted (trimmed name) ∷ []) dsn psn (spelling (Ps dsn psn name)) h.1.0 h.1.1.0
    (λ placed. (name, name_said name is, refl))
said_as_written region (TaTp dsn psn raw) is h =
    said_at region head.Traffic (traffic_tokens raw) dsn psn (spelling (TaTp dsn psn raw)) h.1.0 h.1.1.0
    (λ placed. (raw, traffic_said raw h.1.1.1.0, refl))
said_as_written region (Ms dsn psn raw) is h = music_said region dsn psn raw h.1.0 h.1.1.0 h.1.1.1.0
said_as_written region (Pty dsn psn raw) is h =
    said_at region head.Pty (programme_type_tokens region raw) dsn psn (spelling (Pty dsn psn raw)) h.1.0 h.1.1.0
    (λ placed. (raw, programme_type_said region raw h.1.1.1.0, refl))
said_as_written region (Rt dsn psn NoText) is h =
    said_at region head.Rt (text_tokens NoText) dsn psn (spelling (Rt dsn psn NoText)) h.1.0 h.1.1.0
    (λ placed. (NoText, refl, refl))
said_as_written region (Rt dsn psn (Text byte text)) is h =
    said_at region head.Rt (text_tokens (Text byte text)) dsn psn (spelling (Rt dsn psn (Text byte text))) h.1.0 h.1.1.0
    (λ placed. (Text byte text, text_said byte text h.1.1.1.1.0, refl))
said_as_written region (Select dsn) is h =
    said_alone region head.Set (set_token dsn ∷ []) (spelling (Select dsn))
    (refl, (dsn, (set_word dsn, ap (λ t. t ∷ []) (set_as_word dsn), names_set dsn h.1.0), refl))
said_as_written region (Group kind mode block3 block4) is h =
    said_alone region head.Group (group_tokens kind mode block3 block4) (spelling (Group kind mode block3 block4)) (
      refl,
      (
        kind,
        mode,
        block3,
        block4,
        group_said kind mode block3 block4 h.1.0 h.1.1.0
            (h.1.1.1.0, (h.1.1.1.1.0, tt)) h.1.1.1.1.1,
        refl,
      ),
    )
said_as_written region (Ack code counter) is h =
    said_alone region head.Ack (byte_token code ∷ byte_token counter ∷ []) (spelling (Ack code counter)) (
      refl,
      (
        code,
        counter,
        (
          byte_digits code,
          byte_digits counter,
          refl,
          byte_spelled code h.1.0,
          byte_spelled counter h.1.1.0,
        ),
        refl,
      ),
    )

-- ---- Bytes as they are.

raw_told : (bytes : List ℕ) → AreBytes bytes → AreRaw (map byte_token bytes) bytes
raw_told [] h = refl
raw_told (byte ∷ bytes) h =
    (byte_digits byte, map byte_token bytes, refl, byte_spelled byte h.0, raw_told bytes h.1)

pub raw_said : (region : Region) (bytes : List ℕ) → AreBytes bytes → 1 ≤ length bytes
    → IsPhrase region (raw_phrase bytes) bytes
raw_said region bytes h some =
    said_alone region head.Raw (map byte_token bytes) bytes (refl, raw_told bytes h, some)
