-- Phrases that say the same in other words.
use Rattle.std.proofs.Common.{◌≡◌, ◌||◌, ℕ, Bool, true, false, is_some, List, [], ◌∷◌, ◌++◌, codes, Option, Some}
use Rattle.std.proofs.Common.{None, refl, sym, ◌∙◌, ap, subst, inl, inr}
use Rattle.uecp_elements.specs.Grammar.{TaTp, spelling}
use Rattle.rds_text.specs.declared.programme_type.Region.{Region}
use Rattle.phrase_tokens.specs.Tokens.{Token, Word}
use Rattle.uecp_phrases.specs.declared.head.Head.{Head}
use Rattle.uecp_phrases.specs.declared.head.Head.TheVariants as head
use Rattle.uecp_phrases.specs.Phrases.{head_word, IsHead, set_said, IsInSet, IsForService, IsTrafficWord}
use Rattle.uecp_phrases.specs.Phrases.{switch_word, announcing, giving, Tells, IsPhrase}
use Rattle.uecp_phrases.specs.Lines.{AddsBytes, AddEach}
use Rattle.uecp_phrases.specs.Laws.{AreAlike, said, AreTrafficSwitches, IsAnyCase}
use Rattle.uecp_phrases.proofs.OneMeaning.{switch_one, traffic_one}
use Rattle.uecp_phrases.proofs.Phrasing.{behind_set, no_set_behind, no_service_behind, one_head, own_head}

-- A phrase that begins so, where it acts.
abbrev placed : (set service : Option (List ℕ)) → Token → List Token → List Token
placed set service t rest = set_said set ++ behind_set service t rest

placed_some : (set service : Option (List ℕ)) (t : Token) (rest : List Token) → placed set service t rest ≡ [] → ⊥
placed_some None None t rest e = cc e
placed_some None (Some w) t rest e = cc e
placed_some (Some w) service t rest e = cc e

-- ---- A phrase says its parts once.

record SameParts (set service own_set own_service : Option (List ℕ)) (t own : Token) (rest own_rest : List Token)
    : Type 0 where
  set_is : own_set ≡ set
  service_is : own_service ≡ service
  first_is : own ≡ t
  rest_is : own_rest ≡ rest

same_behind : (set service own_service : Option (List ℕ)) (t own : Token) (h k : Head) (rest own_rest : List Token)
    → IsHead t h → IsHead own k → behind_set service t rest ≡ behind_set own_service own own_rest
    → SameParts set service set own_service t own rest own_rest
same_behind set None None t own h k rest own_rest named own_named e =
    record { set_is = refl; service_is = refl; first_is = cc e; rest_is = cc e }
same_behind set None (Some w) t own h k rest own_rest named own_named e =
    absurd (no_service_behind t h rest named (Word w ∷ own ∷ own_rest, e))
same_behind set (Some v) None t own h k rest own_rest named own_named e =
    absurd (no_service_behind own k own_rest own_named (Word v ∷ t ∷ rest, sym e))
same_behind set (Some v) (Some w) t own h k rest own_rest named own_named e =
    record { set_is = refl; service_is = cc e; first_is = cc e; rest_is = cc e }

same_parts : (set service own_set own_service : Option (List ℕ)) (t own : Token) (h k : Head)
    (rest own_rest : List Token) → IsHead t h → IsHead own k
    → placed set service t rest ≡ placed own_set own_service own own_rest
    → SameParts set service own_set own_service t own rest own_rest
same_parts None service None own_service t own h k rest own_rest named own_named e =
    same_behind None service own_service t own h k rest own_rest named own_named e
same_parts None service (Some w) own_service t own h k rest own_rest named own_named e =
    absurd (no_set_behind service t h rest named (Word w ∷ behind_set own_service own own_rest, e))
same_parts (Some v) service None own_service t own h k rest own_rest named own_named e =
    absurd (no_set_behind own_service own k own_rest own_named (Word v ∷ behind_set service t rest, sym e))
same_parts (Some v) service (Some w) own_service t own h k rest own_rest named own_named e =
    let front : Some w ≡ Some v = cc e in
    let others : behind_set service t rest ≡ behind_set own_service own own_rest = cc e in
    let same = same_behind (Some v) service own_service t own h k rest own_rest named own_named others in
    record { set_is = front; service_is = same.service_is; first_is = same.first_is; rest_is = same.rest_is }

-- ---- What is told in other words.

abbrev Retells : Head → List Token → Head → List Token → Type 0
Retells h rest other changed =
    (region : Region) (is_placed : Bool) (dsn psn : ℕ) (bytes : List ℕ) → Tells region h is_placed dsn psn rest bytes
    → Tells region other is_placed dsn psn changed bytes

reworded : (region : Region) (set service : Option (List ℕ)) (t u : Token) (h k : Head) (rest changed : List Token)
    (bytes : List ℕ) → IsHead t h → IsHead u k → Retells h rest k changed
    → IsPhrase region (placed set service t rest) bytes → IsPhrase region (placed set service u changed) bytes
reworded region set service t u h k rest changed bytes named other retells p =
    let same = same_parts set service p.set p.service t p.first h p.head rest p.rest named p.named p.whole in
    let heads : p.head ≡ h = one_head t p.head h (subst (λ x. IsHead x p.head) same.first_is p.named) named in
    let is_placed : (is_some p.set || is_some p.service) ≡ (is_some set || is_some service) =
    ap (λ s. is_some s || is_some p.service) same.set_is ∙ ap (λ s. is_some set || is_some s) same.service_is in
    record {
      set = set;
      service = service;
      first = u;
      head = k;
      rest = changed;
      dsn = p.dsn;
      psn = p.psn;
      whole = refl;
      named = other;
      in_set = subst (λ s. IsInSet s p.dsn) same.set_is p.in_set;
      for_service = subst (λ s. IsForService s p.psn) same.service_is p.for_service;
      told = retells region (is_some set || is_some service) p.dsn p.psn bytes
          (subst (λ l. Tells region h (is_some set || is_some service) p.dsn p.psn l bytes) same.rest_is
          (subst (λ x. Tells region x (is_some set || is_some service) p.dsn p.psn p.rest bytes) heads
          (subst (λ b. Tells region p.head b p.dsn p.psn p.rest bytes) is_placed p.told)));
    }

-- ---- In a line.

adds_so : (region : Region) (set service : Option (List ℕ)) (t u : Token) (h k : Head) (rest changed : List Token)
    (bytes : List ℕ) → IsHead t h → IsHead u k → Retells h rest k changed
    → AddsBytes region (placed set service t rest) bytes → AddsBytes region (placed set service u changed) bytes
adds_so region set service t u h k rest changed bytes named other retells (inl none) =
    absurd (placed_some set service t rest none.0)
adds_so region set service t u h k rest changed bytes named other retells (inr p) =
    inr (reworded region set service t u h k rest changed bytes named other retells p)

each_so : (region : Region) (set service : Option (List ℕ)) (t u : Token) (h k : Head) (rest changed : List Token)
    (before behind : List (List Token)) (message : List ℕ) → IsHead t h → IsHead u k → Retells h rest k changed
    → AddEach region (before ++ placed set service t rest ∷ behind) message
    → AddEach region (before ++ placed set service u changed ∷ behind) message
each_so region set service t u h k rest changed [] behind message named other retells
    (first, others, is, adds, more) =
    (first, others, is, adds_so region set service t u h k rest changed first named other retells adds, more)
each_so region set service t u h k rest changed (phrase ∷ before) behind message named other retells
    (first, others, is, adds, more) = (
      first,
      others,
      is,
      adds,
      each_so region set service t u h k rest changed before behind others named other retells more,
    )

alike : (t u : Token) (h k : Head) (rest changed : List Token) → IsHead t h → IsHead u k → Retells h rest k changed
    → Retells k changed h rest → AreAlike (t ∷ rest) (u ∷ changed)
alike t u h k rest changed named other there back region line own before behind set service message line_is own_is = (
  λ says. subst (λ l. AddEach region l message) (sym own_is)
      (each_so region set service t u h k rest changed before behind message named other there
      (subst (λ l. AddEach region l message) line_is says)),
  λ says. subst (λ l. AddEach region l message) (sym line_is)
      (each_so region set service u t k h changed rest before behind message other named back
      (subst (λ l. AddEach region l message) own_is says)),
)

-- ---- In another case.

pub any_case : IsAnyCase
any_case h word rest is = alike (Word word) (Word (head_word h)) h h rest rest (word, refl, is) (own_head h)
    (λ region is_placed dsn psn bytes told. told) (λ region is_placed dsn psn bytes told. told)

-- ---- Switches.

announces : (on : Bool) (word : List ℕ) → IsTrafficWord word (announcing on)
    → AreAlike (said (codes "ta") (switch_word on)) (said (codes "traffic") word)
announces on word named =
    alike (Word (codes "ta")) (Word (codes "traffic")) head.Ta head.Traffic (Word (switch_word on) ∷ [])
    (Word word ∷ [])
    (own_head head.Ta) (own_head head.Traffic) there back
  where
    there : Retells head.Ta (Word (switch_word on) ∷ []) head.Traffic (Word word ∷ [])
    there region is_placed dsn psn bytes (other, is, spelled) = (
      announcing on,
      inl (word, refl, named),
      spelled
          ∙ ap (λ o. spelling (TaTp dsn psn (announcing o)))
          (switch_one (Word (switch_word on) ∷ []) other on is refl),
    )

    back : Retells head.Traffic (Word word ∷ []) head.Ta (Word (switch_word on) ∷ [])
    back region is_placed dsn psn bytes (raw, is, spelled) = (
      on,
      refl,
      spelled
          ∙ ap (λ r. spelling (TaTp dsn psn r))
          (traffic_one (Word word ∷ []) raw (announcing on) is (inl (word, refl, named))),
    )

gives : (on : Bool) (word : List ℕ) → IsTrafficWord word (giving on)
    → AreAlike (said (codes "tp") (switch_word on)) (said (codes "traffic") word)
gives on word named =
    alike (Word (codes "tp")) (Word (codes "traffic")) head.Tp head.Traffic (Word (switch_word on) ∷ [])
    (Word word ∷ [])
    (own_head head.Tp) (own_head head.Traffic) there back
  where
    there : Retells head.Tp (Word (switch_word on) ∷ []) head.Traffic (Word word ∷ [])
    there region is_placed dsn psn bytes (other, is, spelled) = (
      giving on,
      inl (word, refl, named),
      spelled
          ∙ ap (λ o. spelling (TaTp dsn psn (giving o))) (switch_one (Word (switch_word on) ∷ []) other on is refl),
    )

    back : Retells head.Traffic (Word word ∷ []) head.Tp (Word (switch_word on) ∷ [])
    back region is_placed dsn psn bytes (raw, is, spelled) = (
      on,
      refl,
      spelled
          ∙ ap (λ r. spelling (TaTp dsn psn r))
          (traffic_one (Word word ∷ []) raw (giving on) is (inl (word, refl, named))),
    )

pub traffic_switches : AreTrafficSwitches
traffic_switches = (
  announces true (codes "announcement") (inr (inr (inr (refl, refl)))),
  announces false (codes "programme") (inr (inr (inl (refl, refl)))),
  gives true (codes "programme") (inr (inr (inl (refl, refl)))),
  gives false (codes "none") (inl (refl, refl)),
)
