-- Words that are bytes, one by one.
use Rattle.std.proofs.Common.{◌≡◌, ℕ, ◌≤◌, ◌<◌, List, [], ◌∷◌, ◌++◌, length, Option, Some, None, Ok, IfSome, IfNone}
use Rattle.std.proofs.Common.{refl, sym, ◌∙◌, ap, subst, append_assoc, arith, false}
use Rattle.std.proofs.lemmas.List.{length-append, append-nil}
use Rattle.hex.specs.Hex.{decode_sized}
use Rattle.uecp_text.specs.Words.{IsByte}
use Rattle.rds_text.specs.declared.programme_type.Region.{Region}
use Rattle.rds_text.specs.declared.programme_type.Region.TheVariants.{Europe}
use Rattle.phrase_tokens.specs.Tokens.{Token, Word}
use Rattle.uecp_phrases.specs.declared.head.Head.TheVariants as head
use Rattle.uecp_phrases.specs.declared.expectation.Expectation.{Expectation}
use Rattle.uecp_phrases.specs.declared.expectation.Expectation.TheVariants as what
use Rattle.uecp_phrases.specs.Phrases.{AreRaw, Tells}
use Rattle.uecp_phrases.specs.Expecting.{MayStand, IsNext, IsStop}
use Rattle.uecp_phrases.specs.Reading.{IsFirstNamed, IsHeld}
use Rattle.uecp_phrases.specs.Stops.{Told, IsUntold, IsStuck}
use Rattle.uecp_phrases.proofs.Stopping.{Same, same_stop, stop_behind}

-- One word is one byte.
pub same_byte : (v w : List ℕ) (a b : ℕ) → v ≡ w → IsByte v a → IsByte w b → a ≡ b
same_byte v w a b same p q = let e : Ok (a ∷ []) ≡ Ok (b ∷ []) = sym p ∙ ap (λ x. decode_sized x 1) same ∙ q in cc

-- ---- Bytes behind bytes.

-- The tokens are bytes as they are, if any.
abbrev AreMoreRaw : List Token → Type 0
AreMoreRaw tokens = (bytes : List ℕ) × AreRaw tokens bytes

joined : (front l : List Token) (said bytes : List ℕ) → AreRaw front said → AreRaw l bytes
    → AreRaw (front ++ l) (said ++ bytes)
joined front l [] bytes is are = subst (λ f. AreRaw (f ++ l) bytes) (sym is) are
joined front l (b ∷ said) bytes (w, others, is, byte, more) are =
    (w, others ++ l, ap (λ f. f ++ l) is, byte, joined others l said bytes more are)

behind : (front l : List Token) (said all : List ℕ) → AreRaw front said → AreRaw (front ++ l) all → AreMoreRaw l
behind front l [] all is are = (all, subst (λ f. AreRaw (f ++ l) all) is are)
behind front l (b ∷ said) [] (w, others, is, _, _) none =
    let e : Word w ∷ (others ++ l) ≡ [] = sym (ap (λ f. f ++ l) is) ∙ none in absurd (cc e)
behind front l (b ∷ said) (a ∷ all) (w, others, is, _, more) (v, left, same, _, are) =
    let e : Word w ∷ (others ++ l) ≡ Word v ∷ left = sym (ap (λ f. f ++ l) is) ∙ same in
    let rest : left ≡ others ++ l = cc in
    behind others l said all more (subst (λ x. AreRaw x all) rest are)

-- ---- The bytes so far.

-- The tokens in front are these bytes, one or more.
pub record RawSoFar (tokens : List Token) (said : List ℕ) (rest : List Token) : Type 0 where
  pub front : List Token
  pub whole : tokens ≡ front ++ rest
  pub are : AreRaw front said
  pub some : 1 ≤ length said

-- And so many of them are held.
pub record RawHeld (tokens : List Token) (message : Option (List ℕ)) (rest : List Token) : Type 0 where
  pub said : List ℕ
  pub so : RawSoFar tokens said rest
  pub held : IsHeld said message

pub raw_begins : (tokens rest : List Token) (byte : ℕ) (message : Option (List ℕ))
    → IsFirstNamed IsByte tokens byte rest → IsHeld (byte ∷ []) message → RawHeld tokens message rest
raw_begins tokens rest byte message (w, is, byte_is) held = record {
  said = byte ∷ [];
  so = record { front = Word w ∷ []; whole = is; are = (w, [], refl, byte_is, refl); some = omega arith };
  held = held;
}

pub raw_more : (tokens rest others : List Token) (byte : ℕ) (message longer : Option (List ℕ))
    → RawHeld tokens message rest → IsFirstNamed IsByte rest byte others
    → ((said : List ℕ) → IsHeld said message → IsHeld (said ++ byte ∷ []) longer) → RawHeld tokens longer others
raw_more tokens rest others byte message longer is (w, first, byte_is) more = record {
  said = is.said ++ byte ∷ [];
  so = record {
    front = is.so.front ++ Word w ∷ [];
    whole = is.so.whole ∙ ap (λ l. is.so.front ++ l) first ∙ sym (append_assoc is.so.front (Word w ∷ []) others);
    are = joined is.so.front (Word w ∷ []) is.said (byte ∷ []) is.so.are (w, [], refl, byte_is, refl);
    some = let sum = length-append is.said (byte ∷ []) in
        let one = is.so.some in omega (arith, sum, one);
  };
  held = more is.said is.held;
}

-- ---- All of them.

all_raw : (tokens rest : List Token) (said : List ℕ) → RawSoFar tokens said rest → rest ≡ [] → AreRaw tokens said
all_raw tokens rest said so none =
    let whole : so.front ≡ tokens =
    sym (append-nil so.front) ∙ ap (λ l. so.front ++ l) (sym none) ∙ sym so.whole in
    subst (λ l. AreRaw l said) whole so.are

pub raw_some : (tokens rest : List Token) (message : Option (List ℕ)) → RawHeld tokens message rest → rest ≡ []
    → IfSome message (λ m. Tells Europe head.Raw false 0 0 tokens m)
raw_some tokens rest None is none = tt
raw_some tokens rest (Some m) is none = (
  refl,
  subst (λ l. AreRaw tokens l) (sym is.held) (all_raw tokens rest is.said is.so none),
  subst (λ l. 1 ≤ length l) (sym is.held) is.so.some,
)

pub raw_long : (tokens rest : List Token) (message : Option (List ℕ)) → RawHeld tokens message rest → rest ≡ []
    → IfNone message ((bytes : List ℕ) × Tells Europe head.Raw false 0 0 tokens bytes × (255 < length bytes))
raw_long tokens rest None is none =
    (is.said, (refl, all_raw tokens rest is.said is.so none, is.so.some), is.held)
raw_long tokens rest (Some m) is none = tt

-- ---- Where they stop.

raw_same : (region : Region) (front : List Token) (said : List ℕ) → AreRaw front said → 1 ≤ length said
    → Same (λ l. Told region head.Raw (front ++ l)) AreMoreRaw
raw_same region front said are some = record {
  to = λ l (bytes, (_, all, _)). behind front l said bytes are all;
  from = λ l (bytes, more).
      let sum = length-append said bytes in
      (said ++ bytes, (refl, joined front l said bytes are more, omega (arith, sum, some)));
}

more_next : (region : Region) → IsNext region AreMoreRaw [] what.AnotherByte
more_next region = record {
  only = only;
  may = may;
  ends = λ r. tt;
  may_end = λ m. ([], refl);
}
  where
    only : (t : Token) (more : List Token) → AreMoreRaw (t ∷ more) → MayStand region what.AnotherByte t
    only t more ([], none) = absurd (cc none)
    only t more (b ∷ bytes, (w, others, e, byte, are)) = (w, b, cc, byte)

    may : (t : Token) → MayStand region what.AnotherByte t → (more : List Token) × AreMoreRaw (t ∷ more)
    may t (w, byte, is, byte_is) = ([], (byte ∷ [], (w, [], ap (λ x. x ∷ []) is, byte_is, refl)))

more_stop : (region : Region) (rest : List Token) (w : Expectation) (left : ℕ) → (rest ≡ [] → ⊥)
    → IsStuck region what.AnotherByte rest w left → IsStop region AreMoreRaw rest w left
more_stop region [] w left some stuck = absurd (some refl)
more_stop region (t ∷ rest) w left some stuck =
    subst (λ x. IsStop region AreMoreRaw (t ∷ rest) x left) (sym stuck.what_is)
    (record {
      before = [];
      rest = t ∷ rest;
      whole = refl;
      counted = stuck.counted;
      next = more_next region;
      none = stuck.none;
    })

pub raw_stop : (tokens rest : List Token) (message : Option (List ℕ)) (w : Expectation) (left : ℕ)
    → RawHeld tokens message rest → (rest ≡ [] → ⊥)
    → ((region : Region) → IsStuck region what.AnotherByte rest w left) → IsUntold head.Raw tokens w left
raw_stop tokens rest message w left is some stuck region =
    stop_behind region (Told region head.Raw) is.so.front tokens rest w left is.so.whole
    (same_stop region (λ l. Told region head.Raw (is.so.front ++ l)) AreMoreRaw rest w left
    (raw_same region is.so.front is.said is.so.are is.so.some) (more_stop region rest w left some (stuck region)))
