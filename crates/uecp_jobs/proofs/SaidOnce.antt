-- A line of a phrase script says one thing.
use lib.Pointwise.{pointwise}
use Rattle.std.proofs.Common.{◌≡◌, ℕ, ◌==◌, ◌/◌, ◌%◌, nat_le, Bool, true, false, not, ◌&&◌, List, [], ◌∷◌, ◌++◌, codes}
use Rattle.std.proofs.Common.{chars, map, Option, Some, None, Ok, refl, sym, ap, ◌∙◌, subst, inl, inr, arith}
use Rattle.std.specs.Char.{to_ascii_lowercase}
use Rattle.std.proofs.lemmas.Bool.{false≢true}
use Rattle.hex.specs.Hex.{decode_sized}
use Rattle.uecp_frame.specs.Frame.{high_first}
use Rattle.rds_text.specs.declared.programme_type.Region.{Region}
use Rattle.phrase_tokens.specs.Tokens.{Token, Word}
use Rattle.phrase_tokens.proofs.Public.{one_reading}
use Rattle.uecp_phrases.specs.declared.head.Head.{Head}
use Rattle.uecp_phrases.specs.declared.head.Head.TheVariants as head
use Rattle.uecp_phrases.specs.Phrases.{head_word, IsHead, set_said, service_said, IsPhrase}
use Rattle.uecp_phrases.specs.Lines.{AddsBytes, AddEach, phrases_in, Say}
use Rattle.uecp_phrases.proofs.Public.{adds_one}
use Rattle.phrase_scripts.specs.Lines.{Line, Begins, Says, AreFrame, Tell, SaysLine}

-- ---- With what a phrase begins.

-- The word begins with a small letter, and is not the first of a frame's line.
abbrev pub is_opening : List ℕ → Bool
is_opening [] = false
is_opening (c ∷ w) =
    nat_le 0x61 c && (nat_le c 0x7A && not (pointwise (λ a b. a == b) (c ∷ w) (codes "frame")))

-- Such a word is the first of the tokens.
pub record Opens (tokens : List Token) : Type 0 where
  pub word : List ℕ
  pub rest : List Token
  pub is : tokens ≡ Word word ∷ rest
  pub opening : is_opening word ≡ true

-- ---- No phrase begins with the first word of a frame's line.

head_opens : (h : Head) → is_opening (head_word h) ≡ true
head_opens head.Pi = refl
head_opens head.Ps = refl
head_opens head.Rt = refl
head_opens head.Traffic = refl
head_opens head.Ta = refl
head_opens head.Tp = refl
head_opens head.Music = refl
head_opens head.Speech = refl
head_opens head.Ms = refl
head_opens head.Pty = refl
head_opens head.Set = refl
head_opens head.Group = refl
head_opens head.Ack = refl
head_opens head.Raw = refl

no_head : (h : Head) → codes "frame" ≡ head_word h → ⊥
no_head h is = false≢true (ap is_opening is ∙ head_opens h)

no_frame_head : (t : Token) (h : Head) → t ≡ Word (codes "frame") → IsHead t h → ⊥
no_frame_head t h is (w, own, named) =
    let e : Word w ≡ Word (codes "frame") = sym own ∙ is in
    let word : codes "frame" ≡ w = cc in no_head h (ap (λ l. map to_ascii_lowercase l) word ∙ named)

no_frame_phrase : (region : Region) (others : List Token) (bytes : List ℕ)
    → IsPhrase region (Word (codes "frame") ∷ others) bytes → ⊥
no_frame_phrase region others bytes p = by p.set p.service p.whole
  where
    by : (set service : Option (List ℕ))
        → Word (codes "frame") ∷ others ≡ set_said set ++ (service_said service ++ (p.first ∷ p.rest)) → ⊥
    by None None e = let is : p.first ≡ Word (codes "frame") = cc in no_frame_head p.first p.head is p.named
    by None (Some w) e = cc e
    by (Some v) service e = cc e

-- ---- A message, or a frame's line.

one_message : (region : Region) (phrases : List (List Token)) (a b : List ℕ) → AddEach region phrases a
    → AddEach region phrases b → a ≡ b
one_message region [] a b p q = p ∙ sym q
one_message region (t ∷ ts) a b (x, y, is, adds, more) (x', y', is', adds', more') =
    let first : x ≡ x' = adds_one region t x x' adds adds' in
    let others : y ≡ y' = one_message region ts y y' more more' in
    is ∙ (λ i. first i ++ others i) ∙ sym is'

adds_none : (region : Region) (others : List Token) (bytes : List ℕ)
    → AddsBytes region (Word (codes "frame") ∷ others) bytes → ⊥
adds_none region others bytes (inl (none, is)) = cc none
adds_none region others bytes (inr p) = no_frame_phrase region others bytes p

no_frame_says : (region : Region) (tokens : List Token) (address counter : ℕ) (message : List ℕ)
    → AreFrame tokens address counter → Say region tokens message → ⊥
no_frame_says region tokens address counter message (a, c, is, number, byte) says =
    let said : AddEach region ((Word (codes "frame") ∷ Word a ∷ Word c ∷ []) ∷ []) message =
    subst (λ ts. Say region ts message) is says in
    adds_none region (Word a ∷ Word c ∷ []) said.0 said.3

number_from : (a b : ℕ) → high_first a ≡ high_first b → a ≡ b
number_from a b same =
    let high : a / 0x100 ≡ b / 0x100 = cc in
    let low : a % 0x100 ≡ b % 0x100 = cc in
    omega arith

one_frame : (tokens : List Token) (x y u v : ℕ) → AreFrame tokens x y → AreFrame tokens u v
    → Begins x y ≡ Begins u v
one_frame tokens x y u v (a, c, is, number, byte) (a', c', is', number', byte') =
    let same : Word (codes "frame") ∷ Word a ∷ Word c ∷ [] ≡ Word (codes "frame") ∷ Word a' ∷ Word c' ∷ [] =
    sym is ∙ is' in
    let first : a ≡ a' = cc in
    let second : c ≡ c' = cc in
    let numbers : Ok (high_first x) ≡ Ok (high_first u) =
    sym number ∙ ap (λ w. decode_sized w 2) first ∙ number' in
    let bytes : Ok (y ∷ []) ≡ Ok (v ∷ []) = sym byte ∙ ap (λ w. decode_sized w 1) second ∙ byte' in
    let high : high_first x ≡ high_first u = cc in
    let address : x ≡ u = number_from x u high in
    let counter : y ≡ v = cc in
    (λ i. Begins (address i) (counter i))

one_telling : (region : Region) (tokens : List Token) (a b : Line) → Tell region tokens a → Tell region tokens b
    → a ≡ b
one_telling region tokens (Begins x y) (Begins u v) p q = one_frame tokens x y u v p q
one_telling region tokens (Begins x y) (Says m) p q = absurd (no_frame_says region tokens x y m p q.0)
one_telling region tokens (Says m) (Begins u v) p q = absurd (no_frame_says region tokens u v m q p.0)
one_telling region tokens (Says m) (Says n) p q = ap Says (one_message region (phrases_in tokens) m n p.0 q.0)

pub one_thing : (region : Region) (text : List ℕ) (a b : Line) → SaysLine region text a → SaysLine region text b
    → a ≡ b
one_thing region text a b (utf8, (ts, lays, tell)) (utf8', (us, lays', tell')) =
    one_telling region ts a b tell
    (subst (λ l. Tell region l b) (one_reading us ts (chars text) lays' lays) tell')
