-- A phrase adds one row of bytes.
use Rattle.std.proofs.Common.{◌≡◌, ℕ, ◌+◌, ◌-◌, ◌||◌, Bool, true, false, is_some, List, [], ◌∷◌, ◌++◌, length}
use Rattle.std.proofs.Common.{replicate}
use Rattle.std.proofs.Common.{codes, flat_map, Some, None, Option, Ok, refl, sym, ◌∙◌, ap, subst, inl, inr, arith}
use Rattle.std.proofs.Common.{if◌then◌else◌}
use Rattle.hex.specs.Hex.{decode_sized}
use Rattle.uecp_frame.specs.Frame.{high_first}
use Rattle.uecp_elements.specs.Grammar.{Part, NoText, Text, TaTp, Rt, spelling}
use Rattle.uecp_text.specs.Words.{IsByte, IsNumber, decimal_in}
use Rattle.rds_text.specs.declared.programme_type.Region.{Region}
use Rattle.rds_text.specs.ProgrammeTypes.{HasName}
use Rattle.rds_text.proofs.Public.{named_once}
use Rattle.phrase_tokens.specs.Tokens.{Token, Word, Quoted}
use Rattle.uecp_phrases.specs.declared.head.Head.{Head}
use Rattle.uecp_phrases.specs.declared.head.Head.TheVariants as head
use Rattle.uecp_phrases.specs.Phrases.{AreBits, IsPi, IsName, IsTrafficWord, IsTraffic, IsProgrammeType, Choice, Adds}
use Rattle.uecp_phrases.specs.Phrases.{Toggles, Stays, Times, IsSwitch, announcing, giving}
use Rattle.uecp_phrases.specs.Phrases.{Choices}
use Rattle.uecp_phrases.specs.Phrases.{choice_tokens, AreMade, no_choice, head_of, IsRadioText, IsGroupType}
use Rattle.uecp_phrases.specs.Phrases.{added_tokens, IsGroup, IsAck, AreRaw, IsSelected, Tells, IsHead, IsPhrase}
use Rattle.uecp_phrases.specs.Phrases.{set_said, IsInSet, IsForService, IsSet}
use Rattle.uecp_phrases.specs.Reading.{IsBefore, or_zero}
use Rattle.uecp_phrases.proofs.RawWords.{same_byte}
use Rattle.uecp_phrases.proofs.Phrasing.{one_head, same_set, set_read, service_read, behind_set, no_set_behind}
use Rattle.uecp_phrases.proofs.Phrasing.{no_service_behind}
use Rattle.uecp_phrases.proofs.Stepping.{parted, one_step_of}
use Rattle.uecp_phrases.proofs.CalledGroups.{last_one}

-- ---- Words.

same_number : (v w : List ℕ) (a b : ℕ) → v ≡ w → IsNumber v a → IsNumber w b → high_first a ≡ high_first b
same_number v w a b same p q =
    let e : Ok (high_first a) ≡ Ok (high_first b) = sym p ∙ ap (λ x. decode_sized x 2) same ∙ q in cc

same_decimal : (most : ℕ) (v w : List ℕ) (a b : ℕ) → v ≡ w → decimal_in most v ≡ Some a → decimal_in most w ≡ Some b
    → a ≡ b
same_decimal most v w a b same p q =
    let e : Some a ≡ Some b = sym p ∙ ap (λ x. decimal_in most x) same ∙ q in cc

-- ---- What stands behind a first word.

bits_one : (tokens : List Token) (a b : ℕ) → AreBits tokens a → AreBits tokens b → a ≡ b
bits_one tokens a b (v, p, x) (w, q, y) =
    let e : Word (codes "bits") ∷ Word v ∷ [] ≡ Word (codes "bits") ∷ Word w ∷ [] = sym p ∙ q in
    let same : v ≡ w = cc in same_byte v w a b same x y

bits_no_word : (tokens : List Token) (a : ℕ) (t : Token) → AreBits tokens a → tokens ≡ t ∷ [] → ⊥
bits_no_word tokens a t (v, p, x) q =
    let e : Word (codes "bits") ∷ Word v ∷ [] ≡ t ∷ [] = sym p ∙ q in cc e

pub switch_one : (tokens : List Token) (a b : Bool) → IsSwitch tokens a → IsSwitch tokens b → a ≡ b
switch_one tokens true true p q = refl
switch_one tokens false false p q = refl
switch_one tokens true false p q =
    let e : Word (codes "on") ∷ [] ≡ Word (codes "off") ∷ [] = sym p ∙ q in absurd (cc e)
switch_one tokens false true p q =
    let e : Word (codes "off") ∷ [] ≡ Word (codes "on") ∷ [] = sym p ∙ q in absurd (cc e)

pi_one : (tokens : List Token) (a b : ℕ) → IsPi tokens a → IsPi tokens b → high_first a ≡ high_first b
pi_one tokens a b (v, p, x) (w, q, y) =
    let e : Word v ∷ [] ≡ Word w ∷ [] = sym p ∙ q in
    let same : v ≡ w = cc in same_number v w a b same x y

name_one : (tokens : List Token) (a b : List ℕ) → IsName tokens a → IsName tokens b → a ≡ b
name_one tokens a b (v, p, _, x) (w, q, _, y) =
    let e : Quoted v ∷ [] ≡ Quoted w ∷ [] = sym p ∙ q in
    let same : v ≡ w = cc in
    x ∙ ap (λ n. n ++ replicate (8 - length n) 0x20) same ∙ sym y

traffic_word_one : (v w : List ℕ) (a b : ℕ) → v ≡ w → IsTrafficWord v a → IsTrafficWord w b → a ≡ b
traffic_word_one v w a b s (inl (p, x)) (inl (q, y)) = x ∙ sym y
traffic_word_one v w a b s (inl (p, x)) (inr (inl (q, y))) =
    let e : codes "none" ≡ codes "eon" = sym p ∙ s ∙ q in absurd (cc e)
traffic_word_one v w a b s (inl (p, x)) (inr (inr (inl (q, y)))) =
    let e : codes "none" ≡ codes "programme" = sym p ∙ s ∙ q in absurd (cc e)
traffic_word_one v w a b s (inl (p, x)) (inr (inr (inr (q, y)))) =
    let e : codes "none" ≡ codes "announcement" = sym p ∙ s ∙ q in absurd (cc e)
traffic_word_one v w a b s (inr (inl (p, x))) (inl (q, y)) =
    let e : codes "eon" ≡ codes "none" = sym p ∙ s ∙ q in absurd (cc e)
traffic_word_one v w a b s (inr (inl (p, x))) (inr (inl (q, y))) = x ∙ sym y
traffic_word_one v w a b s (inr (inl (p, x))) (inr (inr (inl (q, y)))) =
    let e : codes "eon" ≡ codes "programme" = sym p ∙ s ∙ q in absurd (cc e)
traffic_word_one v w a b s (inr (inl (p, x))) (inr (inr (inr (q, y)))) =
    let e : codes "eon" ≡ codes "announcement" = sym p ∙ s ∙ q in absurd (cc e)
traffic_word_one v w a b s (inr (inr (inl (p, x)))) (inl (q, y)) =
    let e : codes "programme" ≡ codes "none" = sym p ∙ s ∙ q in absurd (cc e)
traffic_word_one v w a b s (inr (inr (inl (p, x)))) (inr (inl (q, y))) =
    let e : codes "programme" ≡ codes "eon" = sym p ∙ s ∙ q in absurd (cc e)
traffic_word_one v w a b s (inr (inr (inl (p, x)))) (inr (inr (inl (q, y)))) = x ∙ sym y
traffic_word_one v w a b s (inr (inr (inl (p, x)))) (inr (inr (inr (q, y)))) =
    let e : codes "programme" ≡ codes "announcement" = sym p ∙ s ∙ q in absurd (cc e)
traffic_word_one v w a b s (inr (inr (inr (p, x)))) (inl (q, y)) =
    let e : codes "announcement" ≡ codes "none" = sym p ∙ s ∙ q in absurd (cc e)
traffic_word_one v w a b s (inr (inr (inr (p, x)))) (inr (inl (q, y))) =
    let e : codes "announcement" ≡ codes "eon" = sym p ∙ s ∙ q in absurd (cc e)
traffic_word_one v w a b s (inr (inr (inr (p, x)))) (inr (inr (inl (q, y)))) =
    let e : codes "announcement" ≡ codes "programme" = sym p ∙ s ∙ q in absurd (cc e)
traffic_word_one v w a b s (inr (inr (inr (p, x)))) (inr (inr (inr (q, y)))) = x ∙ sym y

pub traffic_one : (tokens : List Token) (a b : ℕ) → IsTraffic tokens a → IsTraffic tokens b → a ≡ b
traffic_one tokens a b (inl (v, p, x)) (inl (w, q, y)) =
    let e : Word v ∷ [] ≡ Word w ∷ [] = sym p ∙ q in
    let same : v ≡ w = cc in traffic_word_one v w a b same x y
traffic_one tokens a b (inl (v, p, x)) (inr y) = absurd (bits_no_word tokens b (Word v) y p)
traffic_one tokens a b (inr x) (inl (w, q, y)) = absurd (bits_no_word tokens a (Word w) x q)
traffic_one tokens a b (inr x) (inr y) = bits_one tokens a b x y

type_one : (region : Region) (tokens : List Token) (a b : ℕ) → IsProgrammeType region tokens a
    → IsProgrammeType region tokens b → a ≡ b
type_one region tokens a b (inl (v, p, x)) (inl (w, q, y)) =
    let e : Quoted v ∷ [] ≡ Quoted w ∷ [] = sym p ∙ q in
    let same : w ≡ v = cc in
    named_once region a b v x (subst (λ n. HasName region b n) same y)
type_one region tokens a b (inl (v, p, x)) (inr (inl (w, q, y))) =
    let e : Quoted v ∷ [] ≡ Word w ∷ [] = sym p ∙ q in absurd (cc e)
type_one region tokens a b (inl (v, p, x)) (inr (inr y)) = absurd (bits_no_word tokens b (Quoted v) y p)
type_one region tokens a b (inr (inl (v, p, x))) (inl (w, q, y)) =
    let e : Word v ∷ [] ≡ Quoted w ∷ [] = sym p ∙ q in absurd (cc e)
type_one region tokens a b (inr (inl (v, p, x))) (inr (inl (w, q, y))) =
    let e : Word v ∷ [] ≡ Word w ∷ [] = sym p ∙ q in
    let same : v ≡ w = cc in same_decimal 31 v w a b same x y
type_one region tokens a b (inr (inl (v, p, x))) (inr (inr y)) = absurd (bits_no_word tokens b (Word v) y p)
type_one region tokens a b (inr (inr x)) (inl (w, q, y)) = absurd (bits_no_word tokens a (Quoted w) x q)
type_one region tokens a b (inr (inr x)) (inr (inl (w, q, y))) = absurd (bits_no_word tokens a (Word w) x q)
type_one region tokens a b (inr (inr x)) (inr (inr y)) = bits_one tokens a b x y

-- ---- RadioText.

no_choice_left : (choice : Choice) (rest : List Token) → choice_tokens choice ++ rest ≡ [] → ⊥
no_choice_left Adds rest e = cc e
no_choice_left Toggles rest e = cc e
no_choice_left Stays rest e = cc e
no_choice_left (Times count) rest e = cc e

made_one : (cs ds : List Choice) (before a b : Choices) (tokens : List Token) → tokens ≡ flat_map choice_tokens cs
    → tokens ≡ flat_map choice_tokens ds → AreMade before cs a → AreMade before ds b → a ≡ b
made_one [] [] before a b tokens p q x y = x ∙ sym y
made_one [] (d ∷ ds) before a b tokens p q x y =
    absurd (no_choice_left d (flat_map choice_tokens ds) (sym q ∙ p))
made_one (c ∷ cs) [] before a b tokens p q x y =
    absurd (no_choice_left c (flat_map choice_tokens cs) (sym p ∙ q))
made_one (c ∷ cs) (d ∷ ds) before a b tokens p q x y =
    let one = parted before a c cs x in
    let two = parted before b d ds y in
    let same = one_step_of before one.mid two.mid tokens (flat_map choice_tokens cs) (flat_map choice_tokens ds) c d p q
    one.one two.one in
    made_one cs ds two.mid a b (flat_map choice_tokens cs) refl same.rest
    (subst (λ m. AreMade m cs a) same.made one.others) two.others

text_one : (tokens : List Token) (dsn psn : ℕ) (a b : Part) → IsRadioText tokens a → IsRadioText tokens b
    → spelling (Rt dsn psn a) ≡ spelling (Rt dsn psn b)
text_one tokens dsn psn NoText NoText p q = refl
text_one tokens dsn psn NoText (Text h t) p (inl (cs, made, q, _, _)) =
    let e : Word (codes "clear") ∷ [] ≡ Quoted t ∷ cs = sym p ∙ q in absurd (cc e)
text_one tokens dsn psn NoText (Text h t) p (inr (w, q, _)) =
    let e : Word (codes "clear") ∷ [] ≡ Word (codes "bits") ∷ Word w ∷ Quoted t ∷ [] = sym p ∙ q in absurd (cc e)
text_one tokens dsn psn (Text h t) NoText (inl (cs, made, q, _, _)) p =
    let e : Word (codes "clear") ∷ [] ≡ Quoted t ∷ cs = sym p ∙ q in absurd (cc e)
text_one tokens dsn psn (Text h t) NoText (inr (w, q, _)) p =
    let e : Word (codes "clear") ∷ [] ≡ Word (codes "bits") ∷ Word w ∷ Quoted t ∷ [] = sym p ∙ q in absurd (cc e)
text_one tokens dsn psn (Text h t) (Text h' t') (inl (cs, made, p, (xs, x, xm), xh))
    (inl (ds, nade, q, (ys, y, ym), yh)) =
    let e : Quoted t ∷ cs ≡ Quoted t' ∷ ds = sym p ∙ q in
    let text : t ≡ t' = cc in
    let rest : cs ≡ ds = cc in
    let heads : h ≡ h' =
    xh ∙ ap head_of (made_one xs ys no_choice made nade cs x (rest ∙ y) xm ym) ∙ sym yh in
    cc
text_one tokens dsn psn (Text h t) (Text h' t') (inl (cs, made, p, _, _)) (inr (w, q, _)) =
    let e : Quoted t ∷ cs ≡ Word (codes "bits") ∷ Word w ∷ Quoted t' ∷ [] = sym p ∙ q in absurd (cc e)
text_one tokens dsn psn (Text h t) (Text h' t') (inr (w, q, _)) (inl (cs, made, p, _, _)) =
    let e : Quoted t' ∷ cs ≡ Word (codes "bits") ∷ Word w ∷ Quoted t ∷ [] = sym p ∙ q in absurd (cc e)
text_one tokens dsn psn (Text h t) (Text h' t') (inr (v, p, x)) (inr (w, q, y)) =
    let e : Word (codes "bits") ∷ Word v ∷ Quoted t ∷ [] ≡ Word (codes "bits") ∷ Word w ∷ Quoted t' ∷ [] = sym p ∙ q in
    let word : v ≡ w = cc in
    let text : t ≡ t' = cc in
    let heads : h ≡ h' = same_byte v w h h' word x y in
    cc

-- ---- Groups.

group_type_one : (v w : List ℕ) (a b : ℕ) → v ≡ w → IsGroupType v a → IsGroupType w b → a ≡ b
group_type_one v w a b s (d, n, x, inl (p, ka)) (d', n', y, inl (q, kb)) =
    let both = last_one d d' 0x41 0x41 (sym p ∙ s ∙ q) in
    let n_is = same_decimal 15 d d' n n' both.0 x y in omega (arith, ka, kb, n_is)
group_type_one v w a b s (d, n, x, inl (p, ka)) (d', n', y, inr (q, kb)) =
    let both = last_one d d' 0x41 0x42 (sym p ∙ s ∙ q) in
    let letter = both.1 in absurd (omega (arith, letter))
group_type_one v w a b s (d, n, x, inr (p, ka)) (d', n', y, inl (q, kb)) =
    let both = last_one d d' 0x42 0x41 (sym p ∙ s ∙ q) in
    let letter = both.1 in absurd (omega (arith, letter))
group_type_one v w a b s (d, n, x, inr (p, ka)) (d', n', y, inr (q, kb)) =
    let both = last_one d d' 0x42 0x42 (sym p ∙ s ∙ q) in
    let n_is = same_decimal 15 d d' n n' both.0 x y in omega (arith, ka, kb, n_is)

-- the word bits is no type
pub bits_no_type : (word : List ℕ) (kind : ℕ) → word ≡ codes "bits" → IsGroupType word kind → ⊥
bits_no_type word kind s (d, n, x, inl (p, _)) =
    let both = last_one d (codes "bit") 0x41 0x73 (sym p ∙ s) in let letter = both.1 in omega (arith, letter)
bits_no_type word kind s (d, n, x, inr (p, _)) =
    let both = last_one d (codes "bit") 0x42 0x73 (sym p ∙ s) in let letter = both.1 in omega (arith, letter)

added_one : (a b : Bool) → added_tokens a ≡ added_tokens b → a ≡ b
added_one true true e = refl
added_one false false e = refl
added_one true false e = absurd (cc e)
added_one false true e = absurd (cc e)

-- The bytes of a group behind its code.
abbrev group_bytes : (kind mode block3 block4 : ℕ) → List ℕ
group_bytes kind mode block3 block4 = kind ∷ mode ∷ (high_first block3 ++ high_first block4)

group_one : (tokens : List Token) (k m b c k' m' b' c' : ℕ) → IsGroup tokens k m b c → IsGroup tokens k' m' b' c'
    → group_bytes k m b c ≡ group_bytes k' m' b' c'
group_one tokens k m b c k' m' b' c' (inl (t, l, x, y, bits, adds, p, kp, lp, _, mp, xp, yp))
    (inl (t', l', x', y', bits', adds', q, kq, lq, _, mq, xq, yq)) =
    let e : Word t ∷ Word l ∷ Word x ∷ Word y ∷ added_tokens adds
    ≡ Word t' ∷ Word l' ∷ Word x' ∷ Word y' ∷ added_tokens adds' = sym p ∙ q in
    let one : t ≡ t' = cc in
    let two : l ≡ l' = cc in
    let three : x ≡ x' = cc in
    let four : y ≡ y' = cc in
    let five : added_tokens adds ≡ added_tokens adds' = cc in
    let kinds : k ≡ k' = group_type_one t t' k k' one kp kq in
    let lows : bits ≡ bits' = same_byte l l' bits bits' two lp lq in
    let rules : adds ≡ adds' = added_one adds adds' five in
    let modes : m ≡ m' =
    mp ∙ ap (λ n. n + (if adds then 0x40 else 0x00)) lows ∙ ap (λ r. bits' + (if r then 0x40 else 0x00)) rules
    ∙ sym mq in
    let thirds : high_first b ≡ high_first b' = same_number x x' b b' three xp xq in
    let fourths : high_first c ≡ high_first c' = same_number y y' c c' four yp yq in
    cc
group_one tokens k m b c k' m' b' c' (inl (t, l, x, y, bits, adds, p, kp, _, _, _, _, _))
    (inr (t', l', x', y', q, _, _, _, _)) =
    let e : Word t ∷ Word l ∷ Word x ∷ Word y ∷ added_tokens adds
    ≡ Word (codes "bits") ∷ Word t' ∷ Word l' ∷ Word x' ∷ Word y' ∷ [] = sym p ∙ q in
    let one : t ≡ codes "bits" = cc in absurd (bits_no_type t k one kp)
group_one tokens k m b c k' m' b' c' (inr (t', l', x', y', q, _, _, _, _))
    (inl (t, l, x, y, bits, adds, p, kp, _, _, _, _, _)) =
    let e : Word t ∷ Word l ∷ Word x ∷ Word y ∷ added_tokens adds
    ≡ Word (codes "bits") ∷ Word t' ∷ Word l' ∷ Word x' ∷ Word y' ∷ [] = sym p ∙ q in
    let one : t ≡ codes "bits" = cc in absurd (bits_no_type t k' one kp)
group_one tokens k m b c k' m' b' c' (inr (t, l, x, y, p, kp, lp, xp, yp)) (inr (t', l', x', y', q, kq, lq, xq, yq)) =
    let e : Word (codes "bits") ∷ Word t ∷ Word l ∷ Word x ∷ Word y ∷ []
    ≡ Word (codes "bits") ∷ Word t' ∷ Word l' ∷ Word x' ∷ Word y' ∷ [] = sym p ∙ q in
    let one : t ≡ t' = cc in
    let two : l ≡ l' = cc in
    let three : x ≡ x' = cc in
    let four : y ≡ y' = cc in
    let kinds : k ≡ k' = same_byte t t' k k' one kp kq in
    let modes : m ≡ m' = same_byte l l' m m' two lp lq in
    let thirds : high_first b ≡ high_first b' = same_number x x' b b' three xp xq in
    let fourths : high_first c ≡ high_first c' = same_number y y' c c' four yp yq in
    cc

-- ---- The others.

selected_one : (tokens : List Token) (a b : ℕ) → IsSelected tokens a → IsSelected tokens b → a ≡ b
selected_one tokens a b (v, p, x) (w, q, y) =
    let e : Word v ∷ [] ≡ Word w ∷ [] = sym p ∙ q in
    let same : w ≡ v = cc in same_set v a b x (subst (λ n. IsSet n b) same y)

ack_one : (tokens : List Token) (a b a' b' : ℕ) → IsAck tokens a b → IsAck tokens a' b'
    → a ∷ b ∷ [] ≡ a' ∷ b' ∷ []
ack_one tokens a b a' b' (c, n, p, x, y) (c', n', q, x', y') =
    let e : Word c ∷ Word n ∷ [] ≡ Word c' ∷ Word n' ∷ [] = sym p ∙ q in
    let one : c ≡ c' = cc in
    let two : n ≡ n' = cc in
    let codes_are : a ≡ a' = same_byte c c' a a' one x x' in
    let counters : b ≡ b' = same_byte n n' b b' two y y' in
    cc

raw_one : (tokens : List Token) (a b : List ℕ) → AreRaw tokens a → AreRaw tokens b → a ≡ b
raw_one tokens [] [] p q = refl
raw_one tokens [] (y ∷ b) p (w, ts, q, _, _) = let e : [] ≡ Word w ∷ ts = sym p ∙ q in absurd (cc e)
raw_one tokens (x ∷ a) [] (w, ts, p, _, _) q = let e : [] ≡ Word w ∷ ts = sym q ∙ p in absurd (cc e)
raw_one tokens (x ∷ a) (y ∷ b) (v, ts, p, xv, more) (w, us, q, yw, left) =
    let e : Word v ∷ ts ≡ Word w ∷ us = sym p ∙ q in
    let same : v ≡ w = cc in
    let rest : us ≡ ts = cc in
    let first : x ≡ y = same_byte v w x y same xv yw in
    let others : a ≡ b = raw_one ts a b more (subst (λ l. AreRaw l b) rest left) in
    cc

-- ---- Whole phrases.

told_one : (region : Region) (h : Head) (placed : Bool) (dsn psn : ℕ) (tokens : List Token) (a b : List ℕ)
    → Tells region h placed dsn psn tokens a → Tells region h placed dsn psn tokens b → a ≡ b
told_one region head.Pi placed dsn psn tokens a b (m, p, x) (n, q, y) =
    let same : high_first m ≡ high_first n = pi_one tokens m n p q in
    x ∙ ap (λ l. 0x01 ∷ dsn ∷ psn ∷ l) same ∙ sym y
told_one region head.Ps placed dsn psn tokens a b (m, p, x) (n, q, y) =
    x ∙ ap (λ l. 0x02 ∷ dsn ∷ psn ∷ l) (name_one tokens m n p q) ∙ sym y
told_one region head.Rt placed dsn psn tokens a b (m, p, x) (n, q, y) = x ∙ text_one tokens dsn psn m n p q ∙ sym y
told_one region head.Traffic placed dsn psn tokens a b (m, p, x) (n, q, y) =
    x ∙ ap (λ r. 0x03 ∷ dsn ∷ psn ∷ r ∷ []) (traffic_one tokens m n p q) ∙ sym y
told_one region head.Ta placed dsn psn tokens a b (on, p, x) (off, q, y) =
    x ∙ ap (λ r. spelling (TaTp dsn psn (announcing r))) (switch_one tokens on off p q) ∙ sym y
told_one region head.Tp placed dsn psn tokens a b (on, p, x) (off, q, y) =
    x ∙ ap (λ r. spelling (TaTp dsn psn (giving r))) (switch_one tokens on off p q) ∙ sym y
told_one region head.Music placed dsn psn tokens a b (_, x) (_, y) = x ∙ sym y
told_one region head.Speech placed dsn psn tokens a b (_, x) (_, y) = x ∙ sym y
told_one region head.Ms placed dsn psn tokens a b (m, p, x) (n, q, y) =
    x ∙ ap (λ r. 0x05 ∷ dsn ∷ psn ∷ r ∷ []) (bits_one tokens m n p q) ∙ sym y
told_one region head.Pty placed dsn psn tokens a b (m, p, x) (n, q, y) =
    x ∙ ap (λ r. 0x07 ∷ dsn ∷ psn ∷ r ∷ []) (type_one region tokens m n p q) ∙ sym y
told_one region head.Set placed dsn psn tokens a b (_, (m, p, x)) (_, (n, q, y)) =
    x ∙ ap (λ r. 0x1C ∷ r ∷ []) (selected_one tokens m n p q) ∙ sym y
told_one region head.Group placed dsn psn tokens a b (_, (k, m, c, d, p, x)) (_, (k', m', c', d', q, y)) =
    x ∙ ap (λ l. 0x24 ∷ l) (group_one tokens k m c d k' m' c' d' p q) ∙ sym y
told_one region head.Ack placed dsn psn tokens a b (_, (m, k, p, x)) (_, (n, l, q, y)) =
    x ∙ ap (λ r. 0x18 ∷ r) (ack_one tokens m k n l p q) ∙ sym y
told_one region head.Raw placed dsn psn tokens a b (_, p, _) (_, q, _) = raw_one tokens a b p q

-- The set of a phrase, as it is read.
abbrev pub number_said : Option (List ℕ) → ℕ → Option ℕ
number_said None n = None
number_said (Some w) n = Some n

pub set_front : (tokens : List Token) (word service : Option (List ℕ)) (dsn : ℕ) (t : Token) (h : Head)
    (rest : List Token) → IsHead t h → tokens ≡ set_said word ++ behind_set service t rest → IsInSet word dsn
    → IsBefore (codes "in") IsSet tokens (number_said word dsn) (behind_set service t rest)
set_front tokens None service dsn t h rest own whole zero =
    (sym whole, λ begins. no_set_behind service t h rest own (begins.0, sym whole ∙ begins.1))
set_front tokens (Some w) service dsn t h rest own whole named = (w, whole, named)

pub service_front : (word : Option (List ℕ)) (psn : ℕ) (t : Token) (h : Head) (rest : List Token) → IsHead t h
    → IsForService word psn
    → IsBefore (codes "for") IsByte (behind_set word t rest) (number_said word psn) (t ∷ rest)
service_front None psn t h rest own zero = (refl, λ begins. no_service_behind t h rest own begins)
service_front (Some w) psn t h rest own named = (w, refl, named)

said_same : (word : Option (List ℕ)) (n : ℕ) → is_some (number_said word n) ≡ is_some word
said_same None n = refl
said_same (Some w) n = refl

set_same : (word : Option (List ℕ)) (n : ℕ) → IsInSet word n → or_zero (number_said word n) ≡ n
set_same None n zero = sym zero
set_same (Some w) n named = refl

service_same : (word : Option (List ℕ)) (n : ℕ) → IsForService word n → or_zero (number_said word n) ≡ n
service_same None n zero = sym zero
service_same (Some w) n named = refl

pub one_meaning : (region : Region) (tokens : List Token) (a b : List ℕ) → IsPhrase region tokens a
    → IsPhrase region tokens b → a ≡ b
one_meaning region tokens a b p q =
    let set = set_read tokens (behind_set p.service p.first p.rest) (number_said p.set p.dsn) q.set q.service q.dsn
    q.first q.head q.rest q.named
    (set_front tokens p.set p.service p.dsn p.first p.head p.rest p.named p.whole p.in_set) q.whole q.in_set in
    let service = service_read (behind_set p.service p.first p.rest) (p.first ∷ p.rest)
    (number_said p.service p.psn) q.service q.psn q.first q.head q.rest q.named
    (service_front p.service p.psn p.first p.head p.rest p.named p.for_service) set.left_is q.for_service in
    let e : p.first ∷ p.rest ≡ q.first ∷ q.rest = service.left_is in
    let firsts : q.first ≡ p.first = cc in
    let heads : q.head ≡ p.head = one_head p.first q.head p.head (subst (λ t. IsHead t q.head) firsts q.named)
    p.named in
    let rests : q.rest ≡ p.rest = cc in
    let dsn : q.dsn ≡ p.dsn = set.number ∙ set_same p.set p.dsn p.in_set in
    let psn : q.psn ≡ p.psn = service.number ∙ service_same p.service p.psn p.for_service in
    let sets : is_some q.set ≡ is_some p.set = set.said ∙ said_same p.set p.dsn in
    let services : is_some q.service ≡ is_some p.service = service.said ∙ said_same p.service p.psn in
    let placed : (is_some q.set || is_some q.service) ≡ (is_some p.set || is_some p.service) =
    ap (λ x. x || is_some q.service) sets ∙ ap (λ x. is_some p.set || x) services in
    told_one region p.head (is_some p.set || is_some p.service) p.dsn p.psn p.rest a b p.told
    (subst (λ k. Tells region k (is_some p.set || is_some p.service) p.dsn p.psn p.rest b) heads
    (subst (λ s. Tells region q.head s p.dsn p.psn p.rest b) placed
    (subst (λ n. Tells region q.head (is_some q.set || is_some q.service) n p.psn p.rest b) dsn
    (subst (λ n. Tells region q.head (is_some q.set || is_some q.service) q.dsn n p.rest b) psn
    (subst (λ l. Tells region q.head (is_some q.set || is_some q.service) q.dsn q.psn l b) rests q.told)))))
