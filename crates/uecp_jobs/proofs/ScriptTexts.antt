-- The lines of a finding: what each is heard as, and what it says.
use Rattle.std.proofs.Common.{◌≡◌, ℕ, zero, suc, ◌+◌, ◌/◌, ◌%◌, ◌<◌, ◌≤◌, ◌==◌, nat_le, Bool, true, false, cond, List}
use Rattle.std.proofs.Common.{[], ◌∷◌, ◌++◌, length, map, flat_map, drop, codes, Option, Some, None, Ok, Err, refl, sym}
use Rattle.std.proofs.Common.{ap, subst, ◌∙◌, arith, append_assoc, if◌then◌else◌}
use Rattle.std.proofs.lemmas.Bool.{ne_eqb, leb-true}
use Rattle.std.proofs.lemmas.Bool.Decides.{nat_tests}
use Rattle.std.proofs.lemmas.Str.{encode_ascii}
use Rattle.std.specs.Fmt.{digits, digits_onto, digit_glyph}
use Rattle.std.specs.List.{AllByRecursion, list_all}
use Rattle.std.specs.Str.{encode_utf8_all}
use Rattle.hex.specs.Hex.{encode_upper, encode_with}
use Rattle.uecp_frame.specs.declared.fault.FrameFault.{FrameFault}
use Rattle.uecp_frame.specs.declared.fault.FrameFault.TheVariants as flaw
use Rattle.uecp_frame.specs.declared.frame.Frame.{Frame}
use Rattle.uecp_frame.specs.Fault.{number_of, name_of}
use Rattle.uecp_frame.specs.Frame.{high_first}
use Rattle.uecp_elements.specs.declared.fault.ElementFault.{ElementFault}
use Rattle.uecp_elements.specs.Grammar.{Element, Pi, Ps, TaTp, Ms, Pty, Rt, Select, Group, Ack, IsElement, AreBytes}
use Rattle.uecp_elements.specs.Grammar.{EndsWith, spelling}
use Rattle.uecp_elements.specs.Reading.{Item, fault_item}
use Rattle.uecp_elements.proofs.Public.{has_reading}
use Rattle.rds_text.specs.declared.programme_type.Region.{Region}
use Rattle.rds_text.specs.declared.programme_type.Region.TheVariants.{Europe}
use Rattle.uecp_text.specs.Digits.{byte_word, number_word, decimal_word}
use Rattle.uecp_text.specs.Input.{lines_of, numbered}
use Rattle.uecp_lines.specs.Lines.{place_words}
use Rattle.uecp_words.proofs.Public.{number_spelled, byte_spelled}
use Rattle.phrase_tokens.specs.Tokens.{Token, Word, Quoted, Lays, IsToken, is_word_character, written_behind}
use Rattle.phrase_tokens.specs.Tokens.{written_tokens}
use Rattle.phrase_tokens.proofs.Public.{OfWord, of_word, both, read_back, through_utf8}
use Rattle.uecp_phrases.specs.Written.{number_token, byte_token, phrase_of, phrase_of_item, joined_behind, joined}
use Rattle.uecp_phrases.specs.Written.{line_of, place_tokens, set_token, bits_tokens, trimmed as trimmed_name}
use Rattle.uecp_phrases.specs.Written.{traffic_tokens, music_tokens, programme_type_tokens, text_tokens, group_tokens}
use Rattle.uecp_phrases.proofs.Public.{line_writable, is_one, byte_is, writable}
use Rattle.phrase_scripts.specs.Lines.{Begins, SaysLine, message_text, message_line, heading_line, finding_lines}
use Rattle.uecp_jobs.proofs.SaidOnce.{Opens, is_opening}
use Rattle.uecp_jobs.proofs.WrittenTokens.{AreShown, shown_then}
use Rattle.uecp_jobs.proofs.WrittenLines.{letter_begins, tokens_begin, tokens_line, comment_line}

-- ---- The line of a frame's address and counter.

abbrev ArePlain : List ℕ → Type 0
ArePlain cs = AllByRecursion (λ c. c < 0x80) cs

plain_then : (xs ys : List ℕ) → ArePlain xs → ArePlain ys → ArePlain (xs ++ ys)
plain_then [] ys p q = q
plain_then (x ∷ xs) ys p q = (p.0, plain_then xs ys p.1 q)

plain_encoded : (cs : List ℕ) → ArePlain cs → encode_utf8_all cs ≡ cs
plain_encoded [] p = refl
plain_encoded (c ∷ cs) p =
    let first = encode_ascii c p.0 in
    let others = plain_encoded cs p.1 in
    (λ i. first i ++ others i)

word_plain : (w : List ℕ) → list_all is_word_character w ≡ true → ArePlain w
word_plain [] all = tt
word_plain (c ∷ w) all =
    let each = both (is_word_character c) (list_all is_word_character w) all in
    let is : OfWord c = of_word c each.0 in
    let most = is.most in
    (omega arith, word_plain w each.1)

words_plain : (x y z : List ℕ) → AllByRecursion IsToken (Word x ∷ Word y ∷ Word z ∷ [])
    → ArePlain (written_tokens (Word x ∷ Word y ∷ Word z ∷ []))
words_plain x y z all =
    plain_then x _ (word_plain x all.0.2) (
      omega arith,
      plain_then y _ (word_plain y all.1.0.2) (omega arith, plain_then z [] (word_plain z all.1.1.0.2) tt),
    )

abbrev heading_tokens : (address counter : ℕ) → List Token
heading_tokens address counter = Word (codes "frame") ∷ number_token address ∷ byte_token counter ∷ []

abbrev pub heading_text : (address counter : ℕ) → List ℕ
heading_text address counter = encode_utf8_all (written_tokens (heading_tokens address counter))

heading_writable : (address counter : ℕ) → address < 0x10000 → counter < 0x100
    → AllByRecursion IsToken (heading_tokens address counter)
heading_writable address counter high low =
    let number : IsToken (number_token address) = (number_writable address high).1.0 in
    (is_one (Word (codes "frame")) refl, (number, (byte_is counter low, tt)))
  where
    number_writable : (n : ℕ) → n < 0x10000 → AllByRecursion IsToken (Word (codes "pi") ∷ number_token n ∷ [])
    number_writable n high = writable Europe (Pi 0 0 n) tt
        (omega arith, (omega arith, (omega arith, (omega arith, (omega arith, tt)))))

heading_written : (f : Frame) (rest : List ℕ) → f.address < 0x10000 → f.counter < 0x100
    → heading_line f ++ rest ≡ heading_text f.address f.counter ++ 0x0A ∷ rest
unfolding number_word byte_word encode_with
heading_written f rest high low =
    let all = heading_writable f.address f.counter high low in
    sym (ap (λ l. l ++ 0x0A ∷ rest) (plain_encoded (written_tokens (heading_tokens f.address f.counter))
    (words_plain (codes "frame") (encode_upper (high_first f.address)) (encode_upper (f.counter ∷ [])) all)))

pub heading_heard : (f : Frame) (number : ℕ) (rest : List ℕ) → f.address < 0x10000 → f.counter < 0x100
    → numbered number (lines_of (heading_line f ++ rest))
    ≡ (number, heading_text f.address f.counter) ∷ numbered (number + 1) (lines_of rest)
heading_heard f number rest high low =
    let tokens = heading_tokens f.address f.counter in
    ap (λ l. numbered number (lines_of l)) (heading_written f rest high low)
    ∙ tokens_line tokens number rest (heading_writable f.address f.counter high low)
    (letter_begins 0x66 (codes "rame") (written_behind (number_token f.address ∷ byte_token f.counter ∷ []))
    (omega arith) (omega arith))

pub heading_says : (region : Region) (address counter : ℕ) → address < 0x10000 → counter < 0x100
    → SaysLine region (heading_text address counter) (Begins address counter)
heading_says region address counter high low =
    let tokens = heading_tokens address counter in
    let all = heading_writable address counter high low in
    let utf8 = through_utf8 tokens all in (
      utf8.0,
      (
        tokens,
        subst (Lays tokens) (sym utf8.1) (read_back tokens all),
        (
          encode_upper (high_first address),
          encode_upper (counter ∷ []),
          refl,
          number_spelled address (omega arith, (omega arith, tt)),
          byte_spelled counter low,
        ),
      ),
    )

-- ---- The line of a message.

place_opens : (dsn psn : ℕ) (word : List ℕ) (rest : List Token) → is_opening word ≡ true
    → Opens (place_tokens dsn psn ++ (Word word ∷ rest))
place_opens dsn psn word rest opening = by (dsn == 0x00) (psn == 0x00)
  where
    by : (current main : Bool)
        → Opens (((if current then [] else Word (codes "in") ∷ set_token dsn ∷ [])
        ++ (if main then [] else Word (codes "for") ∷ byte_token psn ∷ [])) ++ (Word word ∷ rest))
    by true true = record { word = word; rest = rest; is = refl; opening = opening }
    by true false =
        record { word = codes "for"; rest = byte_token psn ∷ Word word ∷ rest; is = refl; opening = refl }
    by false main = record {
      word = codes "in";
      rest = set_token dsn
          ∷ ((if main then [] else Word (codes "for") ∷ byte_token psn ∷ []) ++ (Word word ∷ rest));
      is = refl;
      opening = refl;
    }

music_opens : (dsn psn raw : ℕ) → Opens (place_tokens dsn psn ++ music_tokens raw)
music_opens dsn psn raw = by (raw == 1) (raw == 0)
  where
    by : (music speech : Bool)
        → Opens (place_tokens dsn psn ++ (if music then Word (codes "music") ∷ []
        else if speech then Word (codes "speech") ∷ [] else Word (codes "ms") ∷ bits_tokens raw))
    by true speech = place_opens dsn psn (codes "music") [] refl
    by false true = place_opens dsn psn (codes "speech") [] refl
    by false false = place_opens dsn psn (codes "ms") (bits_tokens raw) refl

element_opens : (region : Region) (e : Element) → Opens (phrase_of region e)
element_opens region (Pi dsn psn pi) = place_opens dsn psn (codes "pi") (number_token pi ∷ []) refl
element_opens region (Ps dsn psn name) = place_opens dsn psn (codes "ps") (Quoted (trimmed_name name) ∷ []) refl
element_opens region (TaTp dsn psn raw) = place_opens dsn psn (codes "traffic") (traffic_tokens raw) refl
element_opens region (Ms dsn psn raw) = music_opens dsn psn raw
element_opens region (Pty dsn psn raw) = place_opens dsn psn (codes "pty") (programme_type_tokens region raw) refl
element_opens region (Rt dsn psn part) = place_opens dsn psn (codes "rt") (text_tokens part) refl
element_opens region (Select dsn) =
    record { word = codes "set"; rest = set_token dsn ∷ []; is = refl; opening = refl }
element_opens region (Group kind mode block3 block4) =
    record { word = codes "group"; rest = group_tokens kind mode block3 block4; is = refl; opening = refl }
element_opens region (Ack code counter) =
    record { word = codes "ack"; rest = byte_token code ∷ byte_token counter ∷ []; is = refl; opening = refl }

first_opens : (region : Region) (message : List ℕ) (item : Item) (others : List Item)
    → Opens (phrase_of_item region message item)
    → Opens (joined (map (phrase_of_item region message) (item ∷ others)))
first_opens region message item others o =
    let behind = joined_behind (map (phrase_of_item region message) others) in
    record { word = o.word; rest = o.rest ++ behind; is = ap (λ l. l ++ behind) o.is; opening = o.opening }

reading_opens : (region : Region) (message rest : List ℕ) (elements : List Element) (fault : Option ElementFault)
    → AllByRecursion IsElement elements → AreBytes (flat_map spelling elements ++ rest)
    → EndsWith (length message) rest fault → 1 ≤ length (flat_map spelling elements ++ rest)
    → Opens (joined (map (phrase_of_item region message) (map Ok elements ++ fault_item fault)))
reading_opens region message rest [] None each bytes end some =
    absurd (let none : length rest ≡ 0 = ap length end in omega (arith, some, none))
reading_opens region message rest [] (Some fault) each bytes end some =
    first_opens region message (Err fault) []
    (record { word = codes "raw"; rest = map byte_token (drop fault.place message); is = refl; opening = refl })
reading_opens region message rest (e ∷ es) fault each bytes end some =
    first_opens region message (Ok e) (map Ok es ++ fault_item fault)
    (element_opens region e)

message_opens : (region : Region) (message : List ℕ) → AreBytes message → 1 ≤ length message
    → Opens (line_of region message)
message_opens region message bytes some =
    let reading = has_reading message bytes in
    let reads = reading.1 in
    subst (λ l. Opens (joined (map (phrase_of_item region message) l))) (sym reading.2)
    (reading_opens region message reads.rest reading.0.elements reading.0.fault reads.each
    (subst AreBytes reads.joined bytes) reads.end (subst (λ m. 1 ≤ length m) reads.joined some))

message_written : (region : Region) (message rest : List ℕ) → 1 ≤ length message
    → message_line region message ++ rest ≡ message_text region message ++ 0x0A ∷ rest
message_written region message rest some =
    ap (λ b. (if b then [] else message_text region message ++ codes "\n") ++ rest)
    (ne_eqb (length message) 0 (λ e. omega arith))
    ∙ append_assoc (message_text region message) (codes "\n") rest

pub message_heard : (region : Region) (message : List ℕ) (number : ℕ) (rest : List ℕ) → AreBytes message
    → 1 ≤ length message
    → numbered number (lines_of (message_line region message ++ rest))
    ≡ (number, message_text region message) ∷ numbered (number + 1) (lines_of rest)
message_heard region message number rest bytes some =
    let tokens = line_of region message in
    ap (λ l. numbered number (lines_of l)) (message_written region message rest some)
    ∙ tokens_line tokens number rest (line_writable region message bytes)
    (tokens_begin tokens (message_opens region message bytes some))

-- ---- The line of a segment that is no frame.

shown_by_test : (w : List ℕ) → list_all (λ c. nat_le 0x20 c) w ≡ true → AreShown w
shown_by_test [] test = tt
shown_by_test (c ∷ w) test =
    let parts = both (nat_le 0x20 c) (list_all (λ c. nat_le 0x20 c) w) test in
    (leb-true 0x20 c parts.0, shown_by_test w parts.1)

digit_shown : (n : ℕ) → 0x20 ≤ digit_glyph false (n % 10)
digit_shown n = grind (arith, nat_tests)

by_last : (b : Bool) (one more : List ℕ) → AreShown one → AreShown more → AreShown (cond b one more)
by_last true one more p q = p
by_last false one more p q = q

onto_shown : (k n : ℕ) (acc : List ℕ) → AreShown acc → AreShown (digits_onto k 10 false n acc)
onto_shown zero n acc shown = shown
onto_shown (suc k) n acc shown =
    let d = digit_glyph false (n % 10) in
    by_last (n / 10 == 0) (d ∷ acc) (digits_onto k 10 false (n / 10) (d ∷ acc)) (digit_shown n, shown)
    (onto_shown k (n / 10) (d ∷ acc) (digit_shown n, shown))

decimal_shown : (n : ℕ) → AreShown (decimal_word n)
unfolding digits decimal_word
decimal_shown n = (omega arith, onto_shown 64 n [] tt)

name_shown : (fault : FrameFault) → AreShown (name_of fault)
name_shown flaw.Unended = shown_by_test (codes "Unended") refl
name_shown (flaw.BadStuffing place) = shown_by_test (codes "BadStuffing") refl
name_shown flaw.TooLong = shown_by_test (codes "TooLong") refl
name_shown flaw.TooShort = shown_by_test (codes "TooShort") refl
name_shown flaw.WrongLength = shown_by_test (codes "WrongLength") refl
name_shown flaw.WrongCheck = shown_by_test (codes "WrongCheck") refl

place_shown : (fault : FrameFault) → AreShown (place_words fault)
place_shown flaw.Unended = tt
place_shown (flaw.BadStuffing place) = decimal_shown place
place_shown flaw.TooLong = tt
place_shown flaw.TooShort = tt
place_shown flaw.WrongLength = tt
place_shown flaw.WrongCheck = tt

pub dropped_unheard : (region : Region) (fault : FrameFault) (number : ℕ) (rest : List ℕ)
    → numbered number (lines_of (finding_lines region (Err fault) ++ rest)) ≡ numbered (number + 1) (lines_of rest)
dropped_unheard region fault number rest =
    let one : List ℕ = codes "dropped" ++ decimal_word (number_of fault) in
    let two : List ℕ = one ++ codes " " in
    let three : List ℕ = two ++ name_of fault in
    let text : List ℕ = three ++ place_words fault in
    let shown = shown_then three (place_words fault) (shown_then two (name_of fault) (shown_then one (codes " ")
    (shown_then (codes "dropped") (decimal_word (number_of fault)) (shown_by_test (codes "dropped") refl)
    (decimal_shown (number_of fault))) (omega arith, tt)) (name_shown fault)) (place_shown fault) in
    ap (λ l. numbered number (lines_of (0x23 ∷ 0x20 ∷ l))) (append_assoc text (codes "\n") rest)
    ∙ comment_line (0x20 ∷ text) rest number (omega arith, (omega arith, shown))
