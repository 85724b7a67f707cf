-- Words that say no rule.
use Rattle.std.proofs.Common.{◌≡◌, ℕ, inl, inr, List, [], ◌∷◌, ◌+◌, ◌*◌, codes, refl, sym, ap, ◌∙◌, subst}
use Rattle.std.proofs.Common.{length}
use Rattle.std.proofs.Common.{get_or, eqb, eq-eqb, false, arith, Option, Some, None, IfNone}
use Rattle.std.proofs.lemmas.Bool.{false≢true}
use Rattle.std.proofs.lemmas.List.Splits.{length-slice_split}
use Rattle.bad_line.specs.declared.rules.rule.Way.{Way}
use Rattle.bad_line.specs.declared.rules.rule.Span.{Span}
use Rattle.bad_line.specs.declared.rules.rule.Rule.{Rule}
use Rattle.bad_line.specs.declared.rules.rule.Rule.TheVariants.{Lose, Repeat, Damage, BreakAfter, Delay, Pace}
use Rattle.bad_line.specs.declared.rules.rule.Rule.TheVariants.{RefuseConnections, LoseByChance, DamageByChance}
use Rattle.bad_line.specs.Rules.{name_of, Say, Tell, TellSpan, TellByte, TellBreak, TellChance, TellTime, TellFrom}
use Rattle.bad_line.specs.Rules.{TellFrame, IsCount}
use Rattle.bad_line.specs.Rules.{IsCountBefore}
use Rattle.bad_line.specs.Rules.{IsSpan, IsLongSpan, IsTime, IsChance, between_dots}

-- What follows where there is nothing, follows from what holds there.
pub none_follows : {A P Q : Type 0} (o : Option A) → (P → Q) → IfNone o P → IfNone o Q
none_follows None f p = f p
none_follows (Some x) f p = tt

-- Eight times the third byte of a word and its length together: no two names have the same.
abbrev mark : List ℕ → ℕ
mark word = 8 * get_or word 2 0 + length word

-- Lists of words with different names in front are different.
apart : (a b : List ℕ) (words others : List (List ℕ)) → eqb (mark a) (mark b) ≡ false → a ∷ words ≡ b ∷ others → ⊥
apart a b words others differ same =
    let first : a ≡ b = cc in
    false≢true (sym differ ∙ eq-eqb (mark a) (mark b) (ap mark first))

-- Lists of words that are the same have the same words after the first.
same_rest : (a b : List ℕ) (words others : List (List ℕ)) → a ∷ words ≡ b ∷ others → others ≡ words
same_rest a b words others same = cc

first_same : (a b : List ℕ) → a ∷ [] ≡ b ∷ [] → a ≡ b
first_same a b same = cc

second_same : (a b c d : List ℕ) → a ∷ b ∷ [] ≡ c ∷ d ∷ [] → b ≡ d
second_same a b c d same = cc

-- ---- Words that are not what a rule wants.

-- a word cut at three dots or more is not cut at two
pub more_parts : (word rest a b c : List ℕ) → between_dots word ≡ a ∷ b ∷ c ∷ between_dots rest → (first last : List ℕ)
    → between_dots word ≡ first ∷ [] ∷ last ∷ [] → ⊥
more_parts word rest a b c more first last two =
    let some = length-slice_split (λ byte. eqb byte 0x2E) rest in
    let long = ap length (sym more ∙ two) in
    absurd (omega (arith, some, long))

pub no_span_of : (word : List ℕ) (o : Option Span) → ((number : ℕ) → IsCount word number → ⊥)
    → IfNone o ((span : Span) → IsLongSpan word span → ⊥) → IfNone o ((span : Span) → IsSpan word span → ⊥)
no_span_of word o one long = none_follows o (λ none. both none) long
  where
    both : ((span : Span) → IsLongSpan word span → ⊥) → (span : Span) → IsSpan word span → ⊥
    both none span (inl single) = one span.first single.0
    both none span (inr ends) = none span ends

pub no_time : (word : List ℕ) → ((number : ℕ) → IsCountBefore (codes "ms") word number → ⊥)
    → ((number : ℕ) → IsCountBefore (codes "s") word number → ⊥) → (time : ℕ) → IsTime word time → ⊥
no_time word none no_seconds time (inl milliseconds) = none time milliseconds
no_time word none no_seconds time (inr seconds) = no_seconds seconds.0 seconds.1

-- No words tell from which segment on.
pub no_from_other : (words rest : List (List ℕ)) (word : List ℕ) → words ≡ word ∷ rest → (word ≡ codes "from" → ⊥)
    → (from : ℕ) → TellFrom words from → ⊥
no_from_other words rest word is other from told = other (subst (λ ws. TellFrom ws from) is told).0

pub no_from : (words rest : List (List ℕ)) (word : List ℕ) → words ≡ word ∷ rest
    → ((from : ℕ) → TellFrame rest from → ⊥) → (from : ℕ) → TellFrom words from → ⊥
no_from words rest word is other from told = other from (subst (λ ws. TellFrom ws from) is told).1

pub no_frame : (words : List (List ℕ)) (word : List ℕ) → words ≡ codes "frame" ∷ word ∷ []
    → ((number : ℕ) → IsCount word number → ⊥) → (from : ℕ) → TellFrame words from → ⊥
no_frame words word is other from told =
    other from (subst (λ w. IsCount w from)
    (second_same (codes "frame") told.0 (codes "frame") word (sym told.1 ∙ is)) told.2)

-- No words tell a chance, or a time.
pub no_chance : (words rest : List (List ℕ)) (word : List ℕ) → words ≡ word ∷ rest
    → ((percent : ℕ) → IsChance word percent → ⊥) → (percent from : ℕ) → TellChance words percent from → ⊥
no_chance words rest word is other percent from told =
    other percent (subst (λ ws. TellChance ws percent from) is told).0

pub no_chance_from : (words rest : List (List ℕ)) (word : List ℕ) → words ≡ word ∷ rest
    → ((from : ℕ) → TellFrom rest from → ⊥) → (percent from : ℕ) → TellChance words percent from → ⊥
no_chance_from words rest word is other percent from told =
    other from (subst (λ ws. TellChance ws percent from) is told).1

pub no_chance_at_all : (words : List (List ℕ)) → words ≡ [] → (percent from : ℕ) → TellChance words percent from → ⊥
no_chance_at_all words is percent from told = subst (λ ws. TellChance ws percent from) is told

pub no_time_told : (words rest : List (List ℕ)) (word : List ℕ) → words ≡ word ∷ rest
    → ((time : ℕ) → IsTime word time → ⊥) → (time from : ℕ) → TellTime words time from → ⊥
no_time_told words rest word is other time from told =
    other time (subst (λ ws. TellTime ws time from) is told).0

pub no_time_from : (words rest : List (List ℕ)) (word : List ℕ) → words ≡ word ∷ rest
    → ((from : ℕ) → TellFrom rest from → ⊥) → (time from : ℕ) → TellTime words time from → ⊥
no_time_from words rest word is other time from told =
    other from (subst (λ ws. TellTime ws time from) is told).1

pub no_time_at_all : (words : List (List ℕ)) → words ≡ [] → (time from : ℕ) → TellTime words time from → ⊥
no_time_at_all words is time from told = subst (λ ws. TellTime ws time from) is told

pub no_span : (words : List (List ℕ)) (first word : List ℕ) → words ≡ first ∷ word ∷ []
    → ((span : Span) → IsSpan word span → ⊥) → (way : Way) (span : Span) → TellSpan words way span → ⊥
no_span words first word is other way span told =
    other span (subst (λ w. IsSpan w span) (second_same _ told.0 first word (sym told.1 ∙ is)) told.2)

-- ---- Words behind a name that tell no rule of that name.

pub no_loss : (words : List (List ℕ)) → ((way : Way) (span : Span) → TellSpan words way span → ⊥)
    → ((percent from : ℕ) → TellChance words percent from → ⊥) → (rule : Rule) → Say (codes "lose" ∷ words) rule → ⊥
no_loss words no_span no_chance (Lose way span) said =
    no_span way span (subst (λ ws. TellSpan ws way span) (same_rest (codes "lose") (codes "lose") words said.0 said.1)
    said.2)
no_loss words no_span no_chance (LoseByChance percent from) said =
    no_chance percent from (subst (λ ws. TellChance ws percent from)
    (same_rest (codes "lose") (codes "lose") words said.0 said.1) said.2)
no_loss words no_span no_chance rule said = apart (codes "lose") (name_of rule) words said.0 refl said.1

pub no_repetition : (words : List (List ℕ)) → ((way : Way) (span : Span) → TellSpan words way span → ⊥)
    → (rule : Rule) → Say (codes "repeat" ∷ words) rule → ⊥
no_repetition words none (Repeat way span) said =
    none way span (subst (λ ws. TellSpan ws way span) (same_rest (codes "repeat") (codes "repeat") words said.0 said.1)
    said.2)
no_repetition words none rule said = apart (codes "repeat") (name_of rule) words said.0 refl said.1

pub no_damage : (words : List (List ℕ))
    → ((way : Way) (number place : ℕ) → TellByte words way number place → ⊥)
    → ((percent from : ℕ) → TellChance words percent from → ⊥) → (rule : Rule) → Say (codes "damage" ∷ words) rule → ⊥
no_damage words no_byte no_chance (Damage way number place) said =
    no_byte way number place (subst (λ ws. TellByte ws way number place)
    (same_rest (codes "damage") (codes "damage") words said.0 said.1) said.2)
no_damage words no_byte no_chance (DamageByChance percent from) said =
    no_chance percent from (subst (λ ws. TellChance ws percent from)
    (same_rest (codes "damage") (codes "damage") words said.0 said.1) said.2)
no_damage words no_byte no_chance rule said = apart (codes "damage") (name_of rule) words said.0 refl said.1

pub no_ending : (words : List (List ℕ)) → ((way : Way) (number : ℕ) → TellBreak words way number → ⊥)
    → (rule : Rule) → Say (codes "break" ∷ words) rule → ⊥
no_ending words none (BreakAfter way number) said =
    none way number (subst (λ ws. TellBreak ws way number)
    (same_rest (codes "break") (codes "break") words said.0 said.1) said.2)
no_ending words none rule said = apart (codes "break") (name_of rule) words said.0 refl said.1

pub no_delay : (words : List (List ℕ)) → ((time from : ℕ) → TellTime words time from → ⊥)
    → (rule : Rule) → Say (codes "delay" ∷ words) rule → ⊥
no_delay words none (Delay time from) said =
    none time from (subst (λ ws. TellTime ws time from) (same_rest (codes "delay") (codes "delay") words said.0 said.1)
    said.2)
no_delay words none rule said = apart (codes "delay") (name_of rule) words said.0 refl said.1

pub no_pace : (words : List (List ℕ)) → ((time from : ℕ) → TellTime words time from → ⊥)
    → (rule : Rule) → Say (codes "pace" ∷ words) rule → ⊥
no_pace words none (Pace time from) said =
    none time from (subst (λ ws. TellTime ws time from) (same_rest (codes "pace") (codes "pace") words said.0 said.1)
    said.2)
no_pace words none rule said = apart (codes "pace") (name_of rule) words said.0 refl said.1

pub no_refusal : (words : List (List ℕ)) → ((word : List ℕ) → words ≡ codes "connections" ∷ word ∷ [] → ⊥)
    → (rule : Rule) → Say (codes "refuse" ∷ words) rule → ⊥
no_refusal words none (RefuseConnections time) said =
    let told = subst (λ ws. Tell ws (RefuseConnections time))
    (same_rest (codes "refuse") (codes "refuse") words said.0 said.1) said.2 in
    none told.0 told.1
no_refusal words none rule said = apart (codes "refuse") (name_of rule) words said.0 refl said.1

pub no_refusal_time : (words : List (List ℕ)) (word : List ℕ) → words ≡ codes "connections" ∷ word ∷ []
    → ((time : ℕ) → IsTime word time → ⊥) → (rule : Rule) → Say (codes "refuse" ∷ words) rule → ⊥
no_refusal_time words word is none (RefuseConnections time) said =
    let told = subst (λ ws. Tell ws (RefuseConnections time))
    (same_rest (codes "refuse") (codes "refuse") words said.0 said.1) said.2 in
    none time (subst (λ w. IsTime w time)
    (second_same (codes "connections") told.0 (codes "connections") word (sym told.1 ∙ is)) told.2)
no_refusal_time words word is none rule said = apart (codes "refuse") (name_of rule) words said.0 refl said.1
