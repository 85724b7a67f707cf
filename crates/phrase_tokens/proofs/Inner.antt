-- What stands between quotes reads in one way.
use Rattle.std.proofs.Common.{◌≡◌, ◌≢◌, ℕ, ◌≤◌, List, [], ◌∷◌, ◌++◌, refl, sym, ap, ◌∙◌}
use Rattle.std.proofs.Common.{◌⊎◌, inl, inr, arith, length, length-append, append_assoc, append-nil, subst}
use Rattle.rds_text.specs.Quoted.{Spells, SpellsNone}
use Rattle.phrase_tokens.specs.Tokens.{SpellsEach}
use Rattle.rds_text.proofs.Public.{one_spelling}
use Rattle.phrase_tokens.proofs.Characters.{front_of, byte_begins, BeginsNot}

-- These bytes are spelled at the front of the text, and behind them stand a quote and then this.
pub record Inner (text bytes more : List ℕ) : Type 0 where
  pub inner : List ℕ
  pub whole : text ≡ inner ++ 0x22 ∷ more
  pub spelled : SpellsEach inner bytes

-- No bytes that a token may hold are.
abbrev pub InnerNone : List ℕ → Type 0
InnerNone text = (bytes more : List ℕ) → Inner text bytes more → length bytes ≤ 64 → ⊥

pub inner_none : (more : List ℕ) → Inner (0x22 ∷ more) [] more
inner_none more = record { inner = []; whole = refl; spelled = refl }

-- One byte in front of others.
pub inner_more : (text front rest bytes more : List ℕ) (byte : ℕ) → text ≡ front ++ rest → Spells front byte
    → Inner rest bytes more → Inner text (byte ∷ bytes) more
inner_more text front rest bytes more byte whole spells i = record {
  inner = front ++ i.inner;
  whole = whole ∙ ap (λ l. front ++ l) i.whole ∙ sym (append_assoc front i.inner (0x22 ∷ more));
  spelled = (front, i.inner, refl, spells, i.spelled);
}

-- Of the bytes that stand there these are the first, and the others stand in the rest.
pub record Behind (rest got bytes more : List ℕ) : Type 0 where
  pub others : List ℕ
  pub are : bytes ≡ got ++ others
  pub stand : Inner rest others more

pub inner_behind : (text front rest bytes more : List ℕ) (byte : ℕ) → text ≡ front ++ rest → Spells front byte
    → Inner text bytes more → Behind rest (byte ∷ []) bytes more
inner_behind text front rest [] more byte whole spells i =
    let begins : BeginsNot 0x22 front = byte_begins front byte spells in
    let none : i.inner ≡ [] = i.spelled in
    let same : begins.first ∷ (begins.more ++ rest) ≡ 0x22 ∷ more =
    sym (ap (λ l. l ++ rest) begins.is) ∙ sym whole ∙ i.whole ∙ ap (λ l. l ++ 0x22 ∷ more) none in
    absurd (begins.is_not (cc same))
inner_behind text front rest (b ∷ bytes) more byte whole spells i =
    let f = i.spelled.0 in
    let m = i.spelled.1 in
    let same : front ++ rest ≡ f ++ (m ++ 0x22 ∷ more) =
    sym whole ∙ i.whole ∙ ap (λ l. l ++ 0x22 ∷ more) i.spelled.2 ∙ append_assoc f m (0x22 ∷ more) in
    by (front_of front rest f (m ++ 0x22 ∷ more) same)
  where
    by : ((z : List ℕ) × (front ++ z ≡ i.spelled.0) × (rest ≡ z ++ (i.spelled.1 ++ 0x22 ∷ more)))
        ⊎ ((z : List ℕ) × (i.spelled.0 ++ z ≡ front) × ((i.spelled.1 ++ 0x22 ∷ more) ≡ z ++ rest))
        → Behind rest (byte ∷ []) (b ∷ bytes) more
    by (inl (z, p, q)) =
        let one = one_spelling front i.spelled.0 byte b z spells i.spelled.3 p in record {
          others = bytes;
          are = ap (λ x. x ∷ bytes) (sym one.0);
          stand = record {
            inner = i.spelled.1;
            whole = q ∙ ap (λ l. l ++ (i.spelled.1 ++ 0x22 ∷ more)) one.1;
            spelled = i.spelled.4;
          };
        }
    by (inr (z, p, q)) =
        let one = one_spelling i.spelled.0 front b byte z i.spelled.3 spells p in record {
          others = bytes;
          are = ap (λ x. x ∷ bytes) one.0;
          stand = record {
            inner = i.spelled.1;
            whole = ap (λ l. l ++ rest) (sym one.1) ∙ sym q;
            spelled = i.spelled.4;
          };
        }

-- Two readings of one text are the same.
pub one_inner : (bytes text more bytes' more' : List ℕ) → Inner text bytes more → Inner text bytes' more'
    → (bytes ≡ bytes') × (more ≡ more')
one_inner [] text more [] more' i j =
    let here : i.inner ≡ [] = i.spelled in
    let there : j.inner ≡ [] = j.spelled in
    let same : 0x22 ∷ more ≡ 0x22 ∷ more' =
    ap (λ l. l ++ 0x22 ∷ more) (sym here) ∙ sym i.whole ∙ j.whole ∙ ap (λ l. l ++ 0x22 ∷ more') there in
    (refl, cc same)
one_inner [] text more (b ∷ bytes') more' i j =
    let here : i.inner ≡ [] = i.spelled in
    let begins : BeginsNot 0x22 j.spelled.0 = byte_begins j.spelled.0 b j.spelled.3 in
    let same : 0x22 ∷ more ≡ begins.first ∷ (begins.more ++ (j.spelled.1 ++ 0x22 ∷ more')) =
    ap (λ l. l ++ 0x22 ∷ more) (sym here) ∙ sym i.whole ∙ j.whole ∙ ap (λ l. l ++ 0x22 ∷ more') j.spelled.2
    ∙ append_assoc j.spelled.0 j.spelled.1 (0x22 ∷ more')
    ∙ ap (λ l. l ++ (j.spelled.1 ++ 0x22 ∷ more')) begins.is in
    absurd (begins.is_not (cc same))
one_inner (b ∷ bytes) text more bytes' more' i j =
    let rest = i.spelled.1 ++ 0x22 ∷ more in
    let whole : text ≡ i.spelled.0 ++ (i.spelled.1 ++ 0x22 ∷ more) =
    i.whole ∙ ap (λ l. l ++ 0x22 ∷ more) i.spelled.2 ∙ append_assoc i.spelled.0 i.spelled.1 (0x22 ∷ more) in
    let behind : Behind rest (b ∷ []) bytes' more' =
    inner_behind text i.spelled.0 rest bytes' more' b whole i.spelled.3 j in
    let same = one_inner bytes rest more behind.others more'
    (record { inner = i.spelled.1; whole = refl; spelled = i.spelled.4 }) behind.stand in
    (ap (λ l. b ∷ l) same.0 ∙ sym behind.are, same.1)

-- The bytes so far were spelled in front of the rest of a text between quotes.
pub record Spelled (body left got : List ℕ) : Type 0 where
  pub onto : (bytes more : List ℕ) → Inner left bytes more → Inner body (got ++ bytes) more
  pub from : (bytes more : List ℕ) → Inner body bytes more → Behind left got bytes more
  pub before : List ℕ
  pub whole : body ≡ before ++ left

pub spelled_none : (body : List ℕ) → Spelled body body []
spelled_none body = record {
  onto = λ bytes more i. i;
  from = λ bytes more i. record { others = bytes; are = refl; stand = i };
  before = [];
  whole = refl;
}

pub spelled_more : (body left got front rest : List ℕ) (byte : ℕ) → Spelled body left got → left ≡ front ++ rest
    → Spells front byte → Spelled body rest (got ++ byte ∷ [])
spelled_more body left got front rest byte s whole spells = record {
  onto = λ bytes more i. subst (λ l. Inner body l more) (sym (append_assoc got (byte ∷ []) bytes))
      (s.onto (byte ∷ bytes) more (inner_more left front rest bytes more byte whole spells i));
  from = λ bytes more i.
      let b = s.from bytes more i in
      let c = inner_behind left front rest b.others more byte whole spells b.stand in record {
        others = c.others;
        are = b.are ∙ ap (λ l. got ++ l) c.are ∙ sym (append_assoc got (byte ∷ []) c.others);
        stand = c.stand;
      };
  before = s.before ++ front;
  whole = s.whole ∙ ap (λ l. s.before ++ l) whole ∙ sym (append_assoc s.before front rest);
}

-- At a quote these are the bytes.
pub spelled_end : (body left got more : List ℕ) → Spelled body left got → left ≡ 0x22 ∷ more → Inner body got more
spelled_end body left got more s is =
    subst (λ l. Inner body l more) (append-nil got)
    (s.onto [] more (subst (λ l. Inner l [] more) (sym is) (inner_none more)))

-- Where nothing stands behind, no quote closes them.
pub spelled_open : (body got : List ℕ) → Spelled body [] got → InnerNone body
spelled_open body got s = λ bytes more i few.
    let b = s.from bytes more i in by b.stand.inner more b.stand.whole
  where
    by : (inner more : List ℕ) → [] ≡ inner ++ 0x22 ∷ more → ⊥
    by [] more e = cc e
    by (c ∷ inner) more e = cc e

-- Where another character than a quote stands behind 64 of them, no quote closes so few.
pub spelled_full : (body left got : List ℕ) (first : ℕ) (more : List ℕ) → Spelled body left got → left ≡ first ∷ more
    → first ≢ 0x22 → 64 ≤ length got → InnerNone body
spelled_full body left got first more s is isnt full = λ bytes rest i few.
    let b = s.from bytes rest i in
    by b.others b.stand (omega (arith, ap length b.are, length-append got b.others))
  where
    by : (others : List ℕ) {rest : List ℕ} → Inner left others rest → length others ≤ 0 → ⊥
    by [] {rest} i few =
        let none : i.inner ≡ [] = i.spelled in
        let same : first ∷ more ≡ 0x22 ∷ rest = sym is ∙ i.whole ∙ ap (λ l. l ++ 0x22 ∷ rest) none in
        isnt (cc same)
    by (b ∷ others) {rest} i few = omega arith

-- Where another character than a quote stands behind them that spells no byte, they are not closed.
pub spelled_stuck : (body left got : List ℕ) (first : ℕ) (more : List ℕ) → Spelled body left got → left ≡ first ∷ more
    → first ≢ 0x22 → SpellsNone left → InnerNone body
spelled_stuck body left got first more s is isnt none = λ bytes rest i few.
    let b = s.from bytes rest i in by b.others b.stand
  where
    by : (others : List ℕ) {rest : List ℕ} → Inner left others rest → ⊥
    by [] {rest} i =
        let nothing : i.inner ≡ [] = i.spelled in
        let same : first ∷ more ≡ 0x22 ∷ rest = sym is ∙ i.whole ∙ ap (λ l. l ++ 0x22 ∷ rest) nothing in
        isnt (cc same)
    by (b ∷ others) {rest} i =
        none i.spelled.0 (i.spelled.1 ++ 0x22 ∷ rest) b
        (i.whole ∙ ap (λ l. l ++ 0x22 ∷ rest) i.spelled.2 ∙ append_assoc i.spelled.0 i.spelled.1 (0x22 ∷ rest))
        i.spelled.3
