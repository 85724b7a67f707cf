-- What tokens are not.
use Rattle.std.proofs.Common.{◌≡◌, ◌≢◌, ℕ, ◌-◌, ◌≤◌, List, [], ◌∷◌, ◌++◌, length, replicate, get_or}
use Rattle.std.proofs.Common.{arith, Some, None, Option, IfSome, IfNone, inl, inr, refl, sym, ◌∙◌, subst}
use Rattle.rds_text.specs.declared.programme_type.Region.{Region}
use Rattle.rds_text.specs.ProgrammeTypes.{HasName}
use Rattle.phrase_tokens.specs.Tokens.{Token, Word, Quoted}
use Rattle.uecp_phrases.specs.Phrases.{IsTrafficWord}
use Rattle.phrase_tokens.specs.View.{token_of, tokens_of}
use Rattle.phrase_tokens.specs.declared.token.Token.{Token as Held}
use Rattle.uecp_phrases.specs.Reading.{IsNamed, IsTypeNamed, traffic_word}
use Rattle.uecp_phrases.specs.declared.traffic_name.TrafficName.{TrafficName}
use Rattle.uecp_phrases.specs.declared.traffic_name.TrafficName.TheVariants as traffic

-- What follows where nothing was found.
pub if_none : {A : Type 0} (o : Option A) (P Q : Type 0) → (P → Q) → IfNone o P → IfNone o Q
if_none None P Q f p = f p
if_none (Some a) P Q f p = p

-- Nothing at all.
pub none_is : {A : Type 0} (o : Option A) (P : Type 0) → o ≡ None → P → IfNone o P
none_is None P is p = p
none_is (Some a) P is p = let e : Some a ≡ None = is in cc e

-- What is known of what was answered.
pub some_at : {A : Type 0} (o : Option A) (a : A) (P : A → Type 0) → o ≡ Some a → IfSome o P → P a
some_at None a P is p = let e : None ≡ Some a = is in absurd (cc e)
some_at (Some b) a P is p = let e : b ≡ a = cc is in subst P e p

pub none_at : {A : Type 0} (o : Option A) (P : Type 0) → o ≡ None → IfNone o P → P
none_at None P is p = p
none_at (Some a) P is p = let e : Some a ≡ None = is in absurd (cc e)

-- A word that names no number, and a token that is such a word.
pub named_none : (Named : List ℕ → ℕ → Type 0) (t : Token) (word : List ℕ) → t ≡ Word word
    → ((number : ℕ) → Named word number → ⊥) → (number : ℕ) → IsNamed Named t number → ⊥
named_none Named t word is none number (name, same, named) =
    let e : Word name ≡ Word word = sym same ∙ is in
    let one : name ≡ word = cc in none number (subst (λ w. Named w number) one named)

-- A text that names no programme type.
pub text_none : (region : Region) (t : Token) (text : List ℕ) → t ≡ Quoted text
    → ((number : ℕ) → HasName region number text → ⊥) → (number : ℕ) → IsTypeNamed region t number → ⊥
text_none region t text is none number (inl (name, same, named)) =
    let e : Quoted name ≡ Quoted text = sym same ∙ is in
    let one : name ≡ text = cc in none number (subst (λ w. HasName region number w) one named)
text_none region t text is none number (inr (w, same, decimal)) =
    let e : Word w ≡ Quoted text = sym same ∙ is in cc e

-- At most eight bytes, filled with spaces.
pub filled : (t : List ℕ) → length t ≤ 8
    → get_or t 0 32 ∷ get_or t 1 32 ∷ get_or t 2 32 ∷ get_or t 3 32 ∷ get_or t 4 32 ∷ get_or t 5 32 ∷ get_or t 6 32
    ∷ get_or t 7 32 ∷ [] ≡ t ++ replicate (8 - length t) 32
filled [] h = refl
filled (a ∷ []) h = refl
filled (a ∷ b ∷ []) h = refl
filled (a ∷ b ∷ c ∷ []) h = refl
filled (a ∷ b ∷ c ∷ d ∷ []) h = refl
filled (a ∷ b ∷ c ∷ d ∷ e ∷ []) h = refl
filled (a ∷ b ∷ c ∷ d ∷ e ∷ f ∷ []) h = refl
filled (a ∷ b ∷ c ∷ d ∷ e ∷ f ∷ g ∷ []) h = refl
filled (a ∷ b ∷ c ∷ d ∷ e ∷ f ∷ g ∷ i ∷ []) h = refl
filled (a ∷ b ∷ c ∷ d ∷ e ∷ f ∷ g ∷ i ∷ j ∷ t) h = absurd (omega arith)

-- Tokens are none only where there is none.
pub no_tokens : (tokens : List Held) → tokens_of tokens ≡ [] → length tokens ≡ 0
no_tokens [] is = refl
no_tokens (t ∷ ts) is = let e : token_of t ∷ tokens_of ts ≡ [] = is in cc e

-- No flags have another word than their own.
pub no_traffic_word : (word : List ℕ) → ((name : TrafficName) → word ≢ traffic_word name) → (raw : ℕ)
    → IsTrafficWord word raw → ⊥
no_traffic_word word none raw (inl (is, _)) = none traffic.None is
no_traffic_word word none raw (inr (inl (is, _))) = none traffic.Eon is
no_traffic_word word none raw (inr (inr (inl (is, _)))) = none traffic.Programme is
no_traffic_word word none raw (inr (inr (inr (is, _)))) = none traffic.Announcement is

-- There are no tokens where there are none.
pub no_items : (tokens : List Held) → length tokens ≡ 0 → tokens_of tokens ≡ []
no_items [] is = refl
no_items (t ∷ ts) is = absurd (omega arith)
