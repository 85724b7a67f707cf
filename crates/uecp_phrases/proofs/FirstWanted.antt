-- What may stand first behind a phrase's first word.
use Rattle.std.proofs.Common.{◌≡◌, ℕ, true, false, List, [], ◌∷◌, ◌++◌, codes, replicate, refl, sym, ◌∙◌, ap, inl}
use Rattle.std.proofs.Common.{inr, arith}
use Rattle.std.proofs.Common.{Result, IfErr}
use Rattle.uecp_elements.specs.Grammar.{NoText, Text, Pi, Ps, TaTp, Ms, Pty, Rt, Select, Group, Ack, spelling}
use Rattle.rds_text.specs.declared.programme_type.Region.{Region}
use Rattle.phrase_tokens.specs.Tokens.{Token, Word, Quoted}
use Rattle.uecp_phrases.specs.declared.head.Head.{Head}
use Rattle.uecp_phrases.specs.declared.head.Head.TheVariants as head
use Rattle.uecp_phrases.specs.declared.expectation.Expectation.{Expectation}
use Rattle.uecp_phrases.specs.declared.expectation.Expectation.TheVariants as what
use Rattle.uecp_phrases.specs.Phrases.{no_choice, IsTrafficWord, IsGroupType, announcing, giving}
use Rattle.uecp_phrases.specs.Reading.{IsNamed, IsTypeNamed}
use Rattle.uecp_phrases.specs.Expecting.{MayStand, MayEnd, IsNext, IsStop}
use Rattle.uecp_phrases.specs.Stops.{Told, IsUntold, IsStuck, Each, IsEnd, IsAddOrEnd}
use Rattle.uecp_phrases.proofs.OneMeaning.{bits_no_type}
use Rattle.uecp_phrases.specs.declared.stop.Stop.{Stop}
use Rattle.uecp_phrases.proofs.Stopping.{behind_stop, stuck_stop, if_err}
use Rattle.uecp_phrases.proofs.Slots.{AreSlots, some_each, zero_byte, zero_number, byte_slots, text_slots, group_slots}
use Rattle.uecp_phrases.proofs.Slots.{called_slots}
use Rattle.uecp_phrases.proofs.Behind.{IsBehind, pi_behind, ps_behind, set_behind, ack_behind, ms_bits, traffic_bits}
use Rattle.uecp_phrases.proofs.Behind.{traffic_other, pty_bits, rt_bits, rt_clear, rt_chosen, group_bits, group_other}
use Rattle.uecp_phrases.proofs.Behind.{bits_no_traffic}

-- Tokens that tell the contents of some phrase of this head.
pub some_told : (region : Region) (h : Head) → (l : List Token) × Told region h l
some_told region head.Pi = (
  Word (codes "0000") ∷ [],
  (spelling (Pi 0 0 0), (0, (codes "0000", refl, zero_number), refl)),
)
some_told region head.Ps = (
  Quoted [] ∷ [],
  (
    spelling (Ps 0 0 ([] ++ replicate 8 0x20)),
    ([] ++ replicate 8 0x20, ([], refl, omega arith, refl), refl),
  ),
)
some_told region head.Rt = (Word (codes "clear") ∷ [], (spelling (Rt 0 0 NoText), (NoText, refl, refl)))
some_told region head.Traffic =
    (Word (codes "none") ∷ [], (spelling (TaTp 0 0 0), (0, inl (codes "none", refl, inl (refl, refl)), refl)))
some_told region head.Ta =
    (Word (codes "on") ∷ [], (spelling (TaTp 0 0 (announcing true)), (true, refl, refl)))
some_told region head.Tp =
    (Word (codes "on") ∷ [], (spelling (TaTp 0 0 (giving true)), (true, refl, refl)))
some_told region head.Music = ([], (spelling (Ms 0 0 1), (refl, refl)))
some_told region head.Speech = ([], (spelling (Ms 0 0 0), (refl, refl)))
some_told region head.Ms = (
  Word (codes "bits") ∷ Word (codes "00") ∷ [],
  (spelling (Ms 0 0 0), (0, (codes "00", refl, zero_byte), refl)),
)
some_told region head.Pty = (
  Word (codes "bits") ∷ Word (codes "00") ∷ [],
  (spelling (Pty 0 0 0), (0, inr (inr (codes "00", refl, zero_byte)), refl)),
)
some_told region head.Set = (
  Word (codes "all") ∷ [],
  (spelling (Select 0xFF), (refl, (0xFF, (codes "all", refl, inl (refl, refl)), refl))),
)
some_told region head.Group = (
  Word (codes "bits") ∷ Word (codes "00") ∷ Word (codes "00") ∷ Word (codes "0000") ∷ Word (codes "0000") ∷ [],
  (
    spelling (Group 0 0 0 0),
    (
      refl,
      (
        0,
        0,
        0,
        0,
        inr (
          codes "00",
          codes "00",
          codes "0000",
          codes "0000",
          refl,
          zero_byte,
          zero_byte,
          zero_number,
          zero_number,
        ),
        refl,
      ),
    ),
  ),
)
some_told region head.Ack = (
  Word (codes "00") ∷ Word (codes "00") ∷ [],
  (spelling (Ack 0 0), (refl, (0, 0, (codes "00", codes "00", refl, zero_byte, zero_byte), refl))),
)
some_told region head.Raw = (
  Word (codes "00") ∷ [],
  (0 ∷ [], (refl, (codes "00", [], refl, zero_byte, refl), omega arith)),
)

-- What may stand first, and nothing else.
abbrev OnlyFirst : Region → Head → Expectation → Type 0
OnlyFirst region h w = (t : Token) (more : List Token) → Told region h (t ∷ more) → MayStand region w t

abbrev MayFirst : Region → Head → Expectation → Type 0
MayFirst region h w = (t : Token) → MayStand region w t → (more : List Token) × Told region h (t ∷ more)

only_pi : (region : Region) → OnlyFirst region head.Pi what.FourDigits
only_pi region t more (bytes, (pi, (w, e, number), _)) = (w, pi, cc, number)

only_ps : (region : Region) → OnlyFirst region head.Ps what.Name
only_ps region t more (_, (name, (bytes, e, few, _), _)) = (bytes, cc, few)

only_rt : (region : Region) → OnlyFirst region head.Rt what.RadioText
only_rt region t more (bytes, (NoText, e, _)) = inr (inl cc)
only_rt region t more (bytes, (Text number text, inl (choices, made, e, _, _), _)) = inl (text, cc)
only_rt region t more (bytes, (Text number text, inr (w, e, _), _)) = inr (inr cc)

only_traffic : (region : Region) → OnlyFirst region head.Traffic what.Traffic
only_traffic region t more (bytes, (raw, inl (w, e, named), _)) = inl (w, raw, cc, named)
only_traffic region t more (bytes, (raw, inr (w, e, _), _)) = inr cc

only_ms : (region : Region) → OnlyFirst region head.Ms what.Bits
only_ms region t more (bytes, (raw, (w, e, _), _)) = cc

only_pty : (region : Region) → OnlyFirst region head.Pty what.ProgrammeType
only_pty region t more (bytes, (raw, inl (name, e, named), _)) = inl (name, raw, cc, named)
only_pty region t more (bytes, (raw, inr (inl (w, e, number)), _)) = inr (inl (w, raw, cc, number))
only_pty region t more (bytes, (raw, inr (inr (w, e, _)), _)) = inr (inr cc)

only_set : (region : Region) → OnlyFirst region head.Set what.DataSet
only_set region t more (bytes, (_, (set, (w, e, named), _))) = (w, set, cc, named)

only_group : (region : Region) → OnlyFirst region head.Group what.GroupType
only_group region t more (
  bytes,
  (
    _,
    (
      kind,
      mode,
      block3,
      block4,
      inl (k, m, b, c, bits, adds, e, kind_is, _, _, _, _, _),
      _,
    ),
  ),
) = inl (k, kind, cc, kind_is)
only_group region t more (bytes, (_, (kind, mode, block3, block4, inr (k, m, b, c, e, _, _, _, _), _))) = inr cc

only_ack : (region : Region) → OnlyFirst region head.Ack what.TwoDigits
only_ack region t more (bytes, (_, (code, counter, (c, n, e, byte, _), _))) = (c, code, cc, byte)

only_raw : (region : Region) → OnlyFirst region head.Raw what.TwoDigits
only_raw region t more ([], (_, none, _)) = absurd (cc none)
only_raw region t more (b ∷ bytes, (_, (w, others, e, byte, _), _)) = (w, b, cc, byte)

-- Each goes on to tell something: what is wanted behind it can be met.
goes_on : (region : Region) (h : Head) (t : Token) (ws : List Expectation) (Rest : List Token → Type 0)
    → IsBehind region h t (Each region ws Rest) → Rest [] → AreSlots region ws
    → (more : List Token) × Told region h (t ∷ more)
goes_on region h t ws Rest same end slots =
    let found = some_each region ws Rest [] end slots in (found.0, same.from found.0 found.1)

ends : (region : Region) (h : Head) (t : Token) → IsBehind region h t IsEnd
    → (more : List Token) × Told region h (t ∷ more)
ends region h t same = ([], same.from [] refl)

ends_byte : (region : Region) (h : Head) (t : Token) → IsBehind region h t (Each region (what.TwoDigits ∷ []) IsEnd)
    → (more : List Token) × Told region h (t ∷ more)
ends_byte region h t same = goes_on region h t (what.TwoDigits ∷ []) IsEnd same refl (byte_slots region)

may_rt : (region : Region) → MayFirst region head.Rt what.RadioText
may_rt region t (inl (text, is)) = ([], (rt_chosen region t text is).from [] (no_choice, ([], refl, refl)))
may_rt region t (inr (inl is)) = ends region head.Rt t (rt_clear region t is)
may_rt region t (inr (inr is)) =
    goes_on region head.Rt t (what.TwoDigits ∷ what.Text ∷ []) IsEnd (rt_bits region t is) refl (text_slots region)

may_traffic : (region : Region) → MayFirst region head.Traffic what.Traffic
may_traffic region t (inl (w, raw, is, named)) =
    let other : t ≡ Word (codes "bits") → ⊥ = λ same.
    let e : Word w ≡ Word (codes "bits") = sym is ∙ same in
    let word : w ≡ codes "bits" = cc in bits_no_traffic w raw word named in
    ends region head.Traffic t (traffic_other region t other (inl (w, raw, is, named)))
may_traffic region t (inr is) = ends_byte region head.Traffic t (traffic_bits region t is)

may_pty : (region : Region) → MayFirst region head.Pty what.ProgrammeType
may_pty region t (inl (name, raw, is, named)) =
    ([], (spelling (Pty 0 0 raw), (raw, inl (name, ap (λ x. x ∷ []) is, named), refl)))
may_pty region t (inr (inl (w, raw, is, number))) =
    ([], (spelling (Pty 0 0 raw), (raw, inr (inl (w, ap (λ x. x ∷ []) is, number)), refl)))
may_pty region t (inr (inr is)) = ends_byte region head.Pty t (pty_bits region t is)

may_group : (region : Region) → MayFirst region head.Group what.GroupType
may_group region t (inl (w, kind, is, kind_is)) =
    let other : t ≡ Word (codes "bits") → ⊥ = λ same.
    let e : Word w ≡ Word (codes "bits") = sym is ∙ same in
    let word : w ≡ codes "bits" = cc in bits_no_type w kind word kind_is in
    goes_on region head.Group t (what.FiveBits ∷ what.FourDigits ∷ what.FourDigits ∷ []) IsAddOrEnd
    (group_other region t other (inl (w, kind, is, kind_is))) (inl refl) (called_slots region)
may_group region t (inr is) =
    goes_on region head.Group t (what.TwoDigits ∷ what.TwoDigits ∷ what.FourDigits ∷ what.FourDigits ∷ []) IsEnd
    (group_bits region t is) refl (group_slots region)

-- Nothing is told by no tokens, but behind music and speech.
abbrev Wants : Head → Type 0
Wants head.Music = ⊥
Wants head.Speech = ⊥
Wants h = Unit {0}

none_told : (region : Region) (h : Head) → Wants h → Told region h [] → ⊥
none_told region head.Pi wants (_, (_, (_, e, _), _)) = cc e
none_told region head.Ps wants (_, (_, (_, e, _, _), _)) = cc e
none_told region head.Rt wants (_, (NoText, e, _)) = cc e
none_told region head.Rt wants (_, (Text _ _, inl (_, _, e, _, _), _)) = cc e
none_told region head.Rt wants (_, (Text _ _, inr (_, e, _), _)) = cc e
none_told region head.Traffic wants (_, (_, inl (_, e, _), _)) = cc e
none_told region head.Traffic wants (_, (_, inr (_, e, _), _)) = cc e
none_told region head.Ta wants (_, (true, e, _)) = cc e
none_told region head.Ta wants (_, (false, e, _)) = cc e
none_told region head.Tp wants (_, (true, e, _)) = cc e
none_told region head.Tp wants (_, (false, e, _)) = cc e
none_told region head.Music wants told = absurd wants
none_told region head.Speech wants told = absurd wants
none_told region head.Ms wants (_, (_, (_, e, _), _)) = cc e
none_told region head.Pty wants (_, (_, inl (_, e, _), _)) = cc e
none_told region head.Pty wants (_, (_, inr (inl (_, e, _)), _)) = cc e
none_told region head.Pty wants (_, (_, inr (inr (_, e, _)), _)) = cc e
none_told region head.Set wants (_, (_, (_, (_, e, _), _))) = cc e
none_told region head.Group wants (_, (_, (_, _, _, _, inl (_, _, _, _, _, _, e, _, _, _, _, _, _), _))) = cc e
none_told region head.Group wants (_, (_, (_, _, _, _, inr (_, _, _, _, e, _, _, _, _), _))) = cc e
none_told region head.Ack wants (_, (_, (_, _, (_, _, e, _, _), _))) = cc e
none_told region head.Raw wants ([], (_, _, some)) = omega (arith, some)
none_told region head.Raw wants (_ ∷ _, (_, (_, _, e, _, _), _)) = cc e

is_next : (region : Region) (h : Head) (w : Expectation) → Wants h → (MayEnd w → ⊥) → OnlyFirst region h w
    → MayFirst region h w → IsNext region (Told region h) [] w
is_next region h w wants closed only may = record {
  only = only;
  may = may;
  ends = λ told. absurd (none_told region h wants told);
  may_end = λ m. absurd (closed m);
}

-- ---- Where nothing of it stands there.

-- The tokens stop in front, where they begin with nothing that is wanted.
untold : (h : Head) (wanted : Expectation) (tokens : List Token) (w : Expectation) (left : ℕ) → Wants h
    → (MayEnd wanted → ⊥)
    → ((region : Region) → OnlyFirst region h wanted) → ((region : Region) → MayFirst region h wanted)
    → ((region : Region) → IsStuck region wanted tokens w left) → IsUntold h tokens w left
untold h wanted tokens w left wants closed only may stuck region =
    stuck_stop region (Told region h) wanted tokens w left closed
    (is_next region h wanted wants closed (only region) (may region)) (stuck region)

pub no_pi : (tokens : List Token) (w : Expectation) (left : ℕ)
    → ((region : Region) → IsStuck region what.FourDigits tokens w left) → IsUntold head.Pi tokens w left
no_pi tokens w left stuck =
    untold head.Pi what.FourDigits tokens w left tt (λ m. m) only_pi
    (λ region t m. ends region head.Pi t (pi_behind region t m)) stuck

pub no_ps : (tokens : List Token) (w : Expectation) (left : ℕ)
    → ((region : Region) → IsStuck region what.Name tokens w left) → IsUntold head.Ps tokens w left
no_ps tokens w left stuck =
    untold head.Ps what.Name tokens w left tt (λ m. m) only_ps
    (λ region t m. ends region head.Ps t (ps_behind region t m)) stuck

pub no_rt : (tokens : List Token) (w : Expectation) (left : ℕ)
    → ((region : Region) → IsStuck region what.RadioText tokens w left) → IsUntold head.Rt tokens w left
no_rt tokens w left stuck = untold head.Rt what.RadioText tokens w left tt (λ m. m) only_rt may_rt stuck

pub no_traffic : (tokens : List Token) (w : Expectation) (left : ℕ)
    → ((region : Region) → IsStuck region what.Traffic tokens w left) → IsUntold head.Traffic tokens w left
no_traffic tokens w left stuck =
    untold head.Traffic what.Traffic tokens w left tt (λ m. m) only_traffic may_traffic stuck

pub no_ms : (tokens : List Token) (w : Expectation) (left : ℕ)
    → ((region : Region) → IsStuck region what.Bits tokens w left) → IsUntold head.Ms tokens w left
no_ms tokens w left stuck =
    untold head.Ms what.Bits tokens w left tt (λ m. m) only_ms
    (λ region t m. ends_byte region head.Ms t (ms_bits region t m)) stuck

pub no_pty : (region : Region) (tokens : List Token) (w : Expectation) (left : ℕ)
    → IsStuck region what.ProgrammeType tokens w left → IsStop region (Told region head.Pty) tokens w left
no_pty region tokens w left stuck =
    stuck_stop region (Told region head.Pty) what.ProgrammeType tokens w left (λ m. m)
    (is_next region head.Pty what.ProgrammeType tt (λ m. m) (only_pty region) (may_pty region)) stuck

pub no_set : (tokens : List Token) (w : Expectation) (left : ℕ)
    → ((region : Region) → IsStuck region what.DataSet tokens w left) → IsUntold head.Set tokens w left
no_set tokens w left stuck =
    untold head.Set what.DataSet tokens w left tt (λ m. m) only_set
    (λ region t m. ends region head.Set t (set_behind region t m)) stuck

pub no_group : (tokens : List Token) (w : Expectation) (left : ℕ)
    → ((region : Region) → IsStuck region what.GroupType tokens w left) → IsUntold head.Group tokens w left
no_group tokens w left stuck =
    untold head.Group what.GroupType tokens w left tt (λ m. m) only_group may_group stuck

pub no_ack : (tokens : List Token) (w : Expectation) (left : ℕ)
    → ((region : Region) → IsStuck region what.TwoDigits tokens w left) → IsUntold head.Ack tokens w left
no_ack tokens w left stuck =
    untold head.Ack what.TwoDigits tokens w left tt (λ m. m) only_ack
    (λ region t m. ends_byte region head.Ack t (ack_behind region t m)) stuck

pub no_raw : (tokens : List Token) (w : Expectation) (left : ℕ)
    → ((region : Region) → IsStuck region what.TwoDigits tokens w left) → IsUntold head.Raw tokens w left
no_raw tokens w left stuck =
    untold head.Raw what.TwoDigits tokens w left tt (λ m. m) only_raw
    (λ region t (word, byte, is, byte_is).
    ([], (byte ∷ [], (refl, (word, [], ap (λ x. x ∷ []) is, byte_is, refl), omega arith)))) stuck

-- ---- Where what stands behind the first stops.

pub behind_told : (h : Head) (t : Token) (Rest : Region → List Token → Type 0) (tokens rest : List Token)
    (w : Expectation) (left : ℕ) → tokens ≡ t ∷ rest → ((region : Region) → IsBehind region h t (Rest region))
    → ((region : Region) → IsStop region (Rest region) rest w left) → IsUntold h tokens w left
behind_told h t Rest tokens rest w left is same stops region =
    behind_stop region (Told region h) (Rest region) t tokens rest w left is (same region) (stops region)

-- What is passed on of it.
pub behind_err : {A : Type 0} (r : Result A Stop) (h : Head) (t : Token) (Rest : Region → List Token → Type 0)
    (tokens rest : List Token) → tokens ≡ t ∷ rest → ((region : Region) → IsBehind region h t (Rest region))
    → IfErr r (λ s. (region : Region) → IsStop region (Rest region) rest s.what s.left)
    → IfErr r (λ s. IsUntold h tokens s.what s.left)
behind_err r h t Rest tokens rest is same =
    if_err r (λ s. (region : Region) → IsStop region (Rest region) rest s.what s.left)
    (λ s. IsUntold h tokens s.what s.left) (λ s. behind_told h t Rest tokens rest s.what s.left is same)

-- ---- A token that is none of those.

pub not_traffic : (region : Region) (t : Token) → (t ≡ Word (codes "bits") → ⊥)
    → ((raw : ℕ) → IsNamed IsTrafficWord t raw → ⊥) → MayStand region what.Traffic t → ⊥
not_traffic region t other none (inl (w, raw, is, named)) = none raw (w, is, named)
not_traffic region t other none (inr is) = other is

pub not_type : (region : Region) (t : Token) → (t ≡ Word (codes "bits") → ⊥)
    → ((raw : ℕ) → IsTypeNamed region t raw → ⊥) → MayStand region what.ProgrammeType t → ⊥
not_type region t other none (inl (name, raw, is, named)) = none raw (inl (name, is, named))
not_type region t other none (inr (inl (w, raw, is, number))) = none raw (inr (w, is, number))
not_type region t other none (inr (inr is)) = other is

pub a_type : (region : Region) (t : Token) (raw : ℕ) → IsTypeNamed region t raw → MayStand region what.ProgrammeType t
a_type region t raw (inl (name, is, named)) = inl (name, raw, is, named)
a_type region t raw (inr (w, is, number)) = inr (inl (w, raw, is, number))

pub not_group : (region : Region) (t : Token) → (t ≡ Word (codes "bits") → ⊥)
    → ((kind : ℕ) → IsNamed IsGroupType t kind → ⊥) → MayStand region what.GroupType t → ⊥
not_group region t other none (inl (w, kind, is, named)) = none kind (w, is, named)
not_group region t other none (inr is) = other is

pub not_text : (region : Region) (t : Token) → ((text : List ℕ) → t ≡ Quoted text → ⊥)
    → (t ≡ Word (codes "clear") → ⊥) → (t ≡ Word (codes "bits") → ⊥) → MayStand region what.RadioText t → ⊥
not_text region t quoted clear bits (inl (text, is)) = quoted text is
not_text region t quoted clear bits (inr (inl is)) = clear is
not_text region t quoted clear bits (inr (inr is)) = bits is
