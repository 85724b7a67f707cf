-- Tokens that are wanted one after another.
use Rattle.std.proofs.Common.{◌≡◌, ℕ, List, [], ◌∷◌, codes, refl, subst, arith}
use Rattle.hex.specs.Hex.{decode_pairs}
use Rattle.uecp_text.specs.Words.{IsByte, IsNumber}
use Rattle.rds_text.specs.declared.programme_type.Region.{Region}
use Rattle.phrase_tokens.specs.Tokens.{Token, Word, Quoted}
use Rattle.uecp_phrases.specs.declared.expectation.Expectation.{Expectation}
use Rattle.uecp_phrases.specs.declared.expectation.Expectation.TheVariants as what
use Rattle.uecp_phrases.specs.Expecting.{MayStand, MayEnd, IsNext, IsStop}
use Rattle.uecp_phrases.specs.Reading.{IsFirstNamed, IsFirstText, IsFiveBits}
use Rattle.uecp_phrases.specs.Stops.{IsStuck, Each, IsByteWanted}
use Rattle.uecp_phrases.proofs.Stopping.{Same, behind_stop, stuck_stop}

-- Each can be met, and at none may the phrase end.
abbrev pub AreSlots : Region → List Expectation → Type 0
AreSlots region [] = Unit {0}
AreSlots region (w ∷ ws) = ((t : Token) × MayStand region w t) × (MayEnd w → ⊥) × AreSlots region ws

-- Tokens that fit each of them.
pub some_each : (region : Region) (ws : List Expectation) (P : List Token → Type 0) (l : List Token) → P l
    → AreSlots region ws → (tokens : List Token) × Each region ws P tokens
some_each region [] P l p slots = (l, p)
some_each region (w ∷ ws) P l p (one, _, others) =
    let more = some_each region ws P l p others in (one.0 ∷ more.0, (one.0, more.0, refl, one.1, more.1))

each_next : (region : Region) (w : Expectation) (ws : List Expectation) (P : List Token → Type 0) (l : List Token)
    → P l → AreSlots region (w ∷ ws) → IsNext region (Each region (w ∷ ws) P) [] w
each_next region w ws P l p (one, closed, others) = record {
  only = λ t more r.
      let e : t ∷ more ≡ r.0 ∷ r.1 = r.2 in
      let same : r.0 ≡ t = cc in subst (λ x. MayStand region w x) same r.3;
  may = λ t m. let more = some_each region ws P l p others in (more.0, (t, more.0, refl, m, more.1));
  ends = λ r. let e : [] ≡ r.0 ∷ r.1 = r.2 in absurd (cc e);
  may_end = λ m. absurd (closed m);
}

-- behind the first
each_behind : (region : Region) (w : Expectation) (ws : List Expectation) (P : List Token → Type 0) (t : Token)
    → MayStand region w t → Same (λ l. Each region (w ∷ ws) P (t ∷ l)) (Each region ws P)
each_behind region w ws P t m = record {
  to = λ l r.
      let e : t ∷ l ≡ r.0 ∷ r.1 = r.2 in
      let same : r.1 ≡ l = cc in subst (λ x. Each region ws P x) same r.4;
  from = λ l r. (t, l, refl, m, r);
}

-- ---- Where they stop.

-- The first of them does not stand there.
pub each_stuck : (region : Region) (w : Expectation) (ws : List Expectation) (P : List Token → Type 0)
    (l tokens : List Token) (v : Expectation) (left : ℕ) → P l → AreSlots region (w ∷ ws)
    → IsStuck region w tokens v left → IsStop region (Each region (w ∷ ws) P) tokens v left
each_stuck region w ws P l tokens v left p slots stuck =
    stuck_stop region (Each region (w ∷ ws) P) w tokens v left slots.1 (each_next region w ws P l p slots) stuck

-- It does, and what stands behind it stops.
each_on : (region : Region) (w : Expectation) (ws : List Expectation) (P : List Token → Type 0) (t : Token)
    (tokens rest : List Token) (v : Expectation) (left : ℕ) → tokens ≡ t ∷ rest → MayStand region w t
    → IsStop region (Each region ws P) rest v left → IsStop region (Each region (w ∷ ws) P) tokens v left
each_on region w ws P t tokens rest v left is m stop =
    behind_stop region (Each region (w ∷ ws) P) (Each region ws P) t tokens rest v left is
    (each_behind region w ws P t m) stop

pub byte_on : (region : Region) (ws : List Expectation) (P : List Token → Type 0) (tokens rest : List Token)
    (byte : ℕ) (v : Expectation) (left : ℕ) → IsFirstNamed IsByte tokens byte rest
    → IsStop region (Each region ws P) rest v left → IsStop region (Each region (what.TwoDigits ∷ ws) P) tokens v left
byte_on region ws P tokens rest byte v left (name, is, named) stop =
    each_on region what.TwoDigits ws P (Word name) tokens rest v left is (name, byte, refl, named) stop

pub number_on : (region : Region) (ws : List Expectation) (P : List Token → Type 0) (tokens rest : List Token)
    (number : ℕ) (v : Expectation) (left : ℕ) → IsFirstNamed IsNumber tokens number rest
    → IsStop region (Each region ws P) rest v left → IsStop region (Each region (what.FourDigits ∷ ws) P) tokens v left
number_on region ws P tokens rest number v left (name, is, named) stop =
    each_on region what.FourDigits ws P (Word name) tokens rest v left is (name, number, refl, named) stop

pub five_on : (region : Region) (ws : List Expectation) (P : List Token → Type 0) (tokens rest : List Token)
    (bits : ℕ) (v : Expectation) (left : ℕ) → IsFirstNamed IsFiveBits tokens bits rest
    → IsStop region (Each region ws P) rest v left → IsStop region (Each region (what.FiveBits ∷ ws) P) tokens v left
five_on region ws P tokens rest bits v left (name, is, (named, few)) stop =
    each_on region what.FiveBits ws P (Word name) tokens rest v left is (name, bits, refl, named, few) stop

pub text_on : (region : Region) (ws : List Expectation) (P : List Token → Type 0) (tokens rest : List Token)
    (text : List ℕ) (v : Expectation) (left : ℕ) → IsFirstText tokens text rest
    → IsStop region (Each region ws P) rest v left → IsStop region (Each region (what.Text ∷ ws) P) tokens v left
text_on region ws P tokens rest text v left is stop =
    each_on region what.Text ws P (Quoted text) tokens rest v left is (text, refl) stop

-- ---- Those of a phrase can be met.

pub zero_byte : IsByte (codes "00") 0
unfolding decode_pairs
zero_byte = refl

pub zero_number : IsNumber (codes "0000") 0
unfolding decode_pairs
zero_number = refl

a_byte : (region : Region) → (t : Token) × MayStand region what.TwoDigits t
a_byte region = (Word (codes "00"), (codes "00", 0, refl, zero_byte))

a_number : (region : Region) → (t : Token) × MayStand region what.FourDigits t
a_number region = (Word (codes "0000"), (codes "0000", 0, refl, zero_number))

five_bits : (region : Region) → (t : Token) × MayStand region what.FiveBits t
five_bits region = (Word (codes "00"), (codes "00", 0, refl, zero_byte, omega arith))

a_text : (region : Region) → (t : Token) × MayStand region what.Text t
a_text region = (Quoted [], ([], refl))

pub byte_slots : (region : Region) → AreSlots region (what.TwoDigits ∷ [])
byte_slots region = (a_byte region, λ e. e, tt)

pub text_slots : (region : Region) → AreSlots region (what.TwoDigits ∷ what.Text ∷ [])
text_slots region = (a_byte region, λ e. e, (a_text region, λ e. e, tt))

pub block_slots : (region : Region) → AreSlots region (what.FourDigits ∷ what.FourDigits ∷ [])
block_slots region = (a_number region, λ e. e, (a_number region, λ e. e, tt))

pub group_slots : (region : Region)
    → AreSlots region (what.TwoDigits ∷ what.TwoDigits ∷ what.FourDigits ∷ what.FourDigits ∷ [])
group_slots region = (a_byte region, λ e. e, (a_byte region, λ e. e, block_slots region))

pub called_slots : (region : Region) → AreSlots region (what.FiveBits ∷ what.FourDigits ∷ what.FourDigits ∷ [])
called_slots region = (five_bits region, λ e. e, block_slots region)

-- ---- A byte, wherever one is wanted.

pub byte_wanted : (region : Region) (wanted : Expectation) (t : Token) → IsByteWanted wanted
    → MayStand region wanted t → MayStand region what.TwoDigits t
byte_wanted region what.Service t is m = m
byte_wanted region what.TwoDigits t is m = m
byte_wanted region what.AnotherByte t is m = m
byte_wanted region wanted t is m = absurd is
