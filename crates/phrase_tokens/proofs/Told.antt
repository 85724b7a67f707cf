-- What stands at the front of a text, and what is told of a text that no token begins.
use Rattle.std.proofs.Common.{◌≡◌, ◌≢◌, ℕ, ◌≤◌, List, [], ◌∷◌, ◌++◌, refl, sym, ap, ◌∙◌, arith, length}
use Rattle.std.proofs.Common.{append_assoc, subst}
use Rattle.rds_text.specs.Quoted.{SpellsNone, Plain}
use Rattle.phrase_tokens.specs.declared.tokens_read.Unread.{Unread as Reason}
use Rattle.phrase_tokens.specs.declared.tokens_read.Unread.TheVariants as why
use Rattle.phrase_tokens.specs.Tokens.{Word, Quoted, Semicolon}
use Rattle.phrase_tokens.specs.Fronts.{Front, FrontNone, WordNone, TellsOf, ToldAt}
use Rattle.phrase_tokens.proofs.Inner.{Inner, InnerNone}
use Rattle.phrase_tokens.proofs.Characters.{OfWord}
use Rattle.phrase_tokens.proofs.OneReading.{inner_of, word_begins}

-- A text between quotes.
pub front_quoted : (body bytes more : List ℕ) → Inner body bytes more → length bytes ≤ 64
    → Front (0x22 ∷ body) (Quoted bytes) more
front_quoted body bytes more i few = record {
  front = 0x22 ∷ (i.inner ++ 0x22 ∷ []);
  whole = ap (λ l. 0x22 ∷ l) (i.whole ∙ sym (append_assoc i.inner (0x22 ∷ []) more));
  spells = (i.inner, refl, i.spelled, few);
  ends = tt;
}

-- The first character of a word.
word_first : (w text more : List ℕ) → Front text (Word w) more → (c : ℕ) × (l : List ℕ) × OfWord c × (text ≡ c ∷ l)
word_first w text more f =
    let (c, l, is, e) = word_begins w f.front more f.spells.0 f.spells.1 in (c, l, is, f.whole ∙ e)

-- Where a quote begins no text between quotes, no token stands there.
pub none_quoted : (body : List ℕ) → InnerNone body → FrontNone (0x22 ∷ body)
none_quoted body none (Word w) more f =
    let (c, l, is, e) = word_first w (0x22 ∷ body) more f in is.no_quote (cc e)
none_quoted body none (Quoted bytes) more f =
    let (inside, e, i, few) = inner_of (0x22 ∷ body) bytes more f in
    let same : inside ≡ body = cc e in
    none bytes more (subst (λ b. Inner b bytes more) same i) few
none_quoted body none Semicolon more f =
    let e : 0x22 ∷ body ≡ 0x3B ∷ more = f.whole ∙ ap (λ l. l ++ more) f.spells in
    let here : ◌≡◌ {A = ℕ} 0x22 0x3B = cc e in
    omega arith

-- Where neither a quote nor a semicolon nor a word stands, no token does.
pub none_other : (text more : List ℕ) (c : ℕ) → text ≡ c ∷ more → c ≢ 0x22 → c ≢ 0x3B → WordNone text → FrontNone text
none_other text more c is no_quote no_semicolon none (Word w) behind f = none w behind f
none_other text more c is no_quote no_semicolon none (Quoted bytes) behind f =
    let (inside, e, i, few) = inner_of text bytes behind f in no_quote (cc (is, e))
none_other text more c is no_quote no_semicolon none Semicolon behind f =
    let e : text ≡ 0x3B ∷ behind = f.whole ∙ ap (λ l. l ++ behind) f.spells in no_semicolon (cc (is, e))

-- What is told of a text's first character.
pub told_first : (text more : List ℕ) (reason : Reason) (c left : ℕ) → text ≡ c ∷ more → left ≡ length text
    → TellsOf reason c → ToldAt text reason left
told_first text more reason c left is all tells = record {
  before = [];
  first = c;
  more = more;
  whole = is;
  counted = all ∙ ap length is;
  tells = tells;
}

-- What is told of a character between quotes.
pub told_inside : (body before rest more : List ℕ) (reason : Reason) (c : ℕ) → body ≡ before ++ rest → rest ≡ c ∷ more
    → TellsOf reason c → ToldAt (0x22 ∷ body) reason (length rest)
told_inside body before rest more reason c whole is tells = record {
  before = 0x22 ∷ before;
  first = c;
  more = more;
  whole = ap (λ l. 0x22 ∷ l) (whole ∙ ap (λ l. before ++ l) is);
  counted = ap length is;
  tells = tells;
}

-- A character that spells no byte as it stands is not in the set.
pub not_in_set : (rest more : List ℕ) (c : ℕ) → rest ≡ c ∷ more → c ≢ 0x22 → c ≢ 0x5C → SpellsNone rest
    → TellsOf why.NotInSet c
not_in_set rest more c is no_quote no_backslash none =
    λ byte stands. none (c ∷ []) more byte is (Plain c, refl, (no_quote, no_backslash, stands))
