-- Tokens read one after another from the front of a text.
use Rattle.std.proofs.Common.{◌≡◌, ◌≢◌, ℕ, zero, suc, List, [], ◌∷◌, ◌++◌, refl, sym, ap, ◌∙◌, length, append_assoc}
use Rattle.std.proofs.Common.{append-nil, replicate, subst}
use Rattle.phrase_tokens.specs.Tokens.{Token, Lays, LaysNone}
use Rattle.phrase_tokens.specs.Fronts.{Front, FrontNone}
use Rattle.phrase_tokens.proofs.Characters.{BeginsNot, spaces_alone}
use Rattle.phrase_tokens.proofs.OneReading.{one_front, front_begins, none_there, one_place}

-- Spaces in front of tokens.
space_before : (ts : List Token) (more : List ℕ) → Lays ts more → Lays ts (0x20 ∷ more)
space_before [] more l = ap (λ x. 0x20 ∷ x) l
space_before (t ∷ ts) more (blanks, front, rest, whole, spells, ends, lays) =
    (suc blanks, front, rest, ap (λ x. 0x20 ∷ x) whole, spells, ends, lays)

pub space_after : (ts : List Token) (more : List ℕ) → Lays ts (0x20 ∷ more) → Lays ts more
space_after [] more l = cc l
space_after (t ∷ ts) more (zero, front, rest, whole, spells, ends, lays) =
    let begins : BeginsNot 0x20 (front ++ rest) = front_begins t front rest spells in
    let same : 0x20 ∷ more ≡ begins.first ∷ begins.more = whole ∙ begins.is in
    absurd (begins.is_not (cc same))
space_after (t ∷ ts) more (suc blanks, front, rest, whole, spells, ends, lays) =
    (blanks, front, rest, cc whole, spells, ends, lays)

-- What stands behind a token that stands at the front.
pub behind_front : (text : List ℕ) (t : Token) (more : List ℕ) (us : List Token) → Front text t more → Lays us text
    → (vs : List Token) × (us ≡ t ∷ vs) × Lays vs more
behind_front text t more [] f l =
    absurd (none_there t (length text) 0 f.front more f.spells (sym l ∙ f.whole))
behind_front text t more (u ∷ us) f (blanks, front, rest, whole, spells, ends, lays) =
    let place : f.front ++ more ≡ front ++ rest =
    one_place t u 0 blanks f.front more front rest f.spells spells (sym f.whole ∙ whole) in
    let one = one_front text t u more rest f
    (record { front = front; whole = f.whole ∙ place; spells = spells; ends = ends }) in
    (us, ap (λ x. x ∷ us) (sym one.0), subst (λ m. Lays us m) (sym one.1) lays)

-- The tokens so far stand in front of the rest of the text.
pub record LaysOn (text rest : List ℕ) (got : List Token) : Type 0 where
  pub onto : (us : List Token) → Lays us rest → Lays (got ++ us) text
  pub from : (ts : List Token) → Lays ts text → (us : List Token) × (ts ≡ got ++ us) × Lays us rest
  pub before : List ℕ
  pub whole : text ≡ before ++ rest

pub lays_start : (text : List ℕ) → LaysOn text text []
lays_start text = record { onto = λ us l. l; from = λ ts l. (ts, refl, l); before = []; whole = refl }

pub lays_space : (text rest more : List ℕ) (got : List Token) → LaysOn text rest got → rest ≡ 0x20 ∷ more
    → LaysOn text more got
lays_space text rest more got on is = record {
  onto = λ us l. on.onto us (subst (λ x. Lays us x) (sym is) (space_before us more l));
  from = λ ts l.
      let (us, same, lays) = on.from ts l in (us, same, space_after us more (subst (λ x. Lays us x) is lays));
  before = on.before ++ 0x20 ∷ [];
  whole = on.whole ∙ ap (λ x. on.before ++ x) is ∙ sym (append_assoc on.before (0x20 ∷ []) more);
}

pub lays_token : (text rest : List ℕ) (t : Token) (more : List ℕ) (got : List Token) → LaysOn text rest got
    → Front rest t more → LaysOn text more (got ++ t ∷ [])
lays_token text rest t more got on f = record {
  onto = λ us l. subst (λ x. Lays x text) (sym (append_assoc got (t ∷ []) us))
      (on.onto (t ∷ us) (0, f.front, more, f.whole, f.spells, f.ends, l));
  from = λ ts l.
      let (us, same, lays) = on.from ts l in
      let (vs, are, behind) = behind_front rest t more us f lays in
      (vs, same ∙ ap (λ x. got ++ x) are ∙ sym (append_assoc got (t ∷ []) vs), behind);
  before = on.before ++ f.front;
  whole = on.whole ∙ ap (λ x. on.before ++ x) f.whole ∙ sym (append_assoc on.before f.front more);
}

pub lays_end : (text : List ℕ) (got : List Token) → LaysOn text [] got → Lays got text
lays_end text got on = subst (λ x. Lays x text) (append-nil got) (on.onto [] refl)

-- Where no token stands at the front of what is no space, no tokens stand in the text.
pub none_at : (rest : List ℕ) (c : ℕ) (more : List ℕ) (us : List Token) → rest ≡ c ∷ more → c ≢ 0x20 → FrontNone rest
    → Lays us rest → ⊥
none_at rest c more [] is isnt none l = spaces_alone (length rest) 0 c more isnt (sym l ∙ is)
none_at rest c more (u ∷ us) is isnt none (zero, front, behind, whole, spells, ends, lays) =
    none u behind (record { front = front; whole = whole; spells = spells; ends = ends })
none_at rest c more (u ∷ us) is isnt none (suc blanks, front, behind, whole, spells, ends, lays) =
    let same : c ∷ more ≡ 0x20 ∷ (replicate blanks 0x20 ++ (front ++ behind)) = sym is ∙ whole in isnt (cc same)

pub lays_none : (text rest : List ℕ) (c : ℕ) (more : List ℕ) (got : List Token) → LaysOn text rest got
    → rest ≡ c ∷ more → c ≢ 0x20 → FrontNone rest → LaysNone text
lays_none text rest c more got on is isnt none = λ ts l.
    let (us, same, lays) = on.from ts l in none_at rest c more us is isnt none lays
