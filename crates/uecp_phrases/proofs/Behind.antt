-- What stands behind the first token behind a phrase's first word.
use Rattle.std.proofs.Common.{◌≡◌, ℕ, ◌+◌, ◌-◌, Bool, true, false, List, [], ◌∷◌, ◌++◌, length, get_or, codes, Some}
use Rattle.std.proofs.Common.{None, replicate, refl, sym, ◌∙◌, ap, subst, inl, inr, arith}
use Rattle.uecp_elements.specs.Grammar.{NoText, Text, Pi, Ps, TaTp, Ms, Pty, Rt, Select, Group, Ack, spelling}
use Rattle.uecp_text.specs.Words.{decimal_in, decimal_value}
use Rattle.rds_text.specs.declared.programme_type.Region.{Region}
use Rattle.phrase_tokens.specs.Tokens.{Token, Word, Quoted}
use Rattle.uecp_phrases.specs.declared.head.Head.{Head}
use Rattle.uecp_phrases.specs.declared.head.Head.TheVariants as head
use Rattle.uecp_phrases.specs.declared.expectation.Expectation.TheVariants as what
use Rattle.uecp_phrases.specs.Phrases.{IsTrafficWord, Make, no_choice, head_of, added_tokens}
use Rattle.uecp_phrases.specs.Expecting.{MayStand}
use Rattle.uecp_phrases.specs.Stops.{Told, Each, IsAddOrEnd, IsEnd, AreChosen}
use Rattle.uecp_phrases.proofs.OneMeaning.{bits_no_type}
use Rattle.uecp_phrases.proofs.Stopping.{Same}

-- no flags, no type and no number are called bits
pub bits_no_traffic : (word : List ℕ) (raw : ℕ) → word ≡ codes "bits" → IsTrafficWord word raw → ⊥
bits_no_traffic word raw is (inl (e, _)) = let f : 98 ≡ 110 = ap (λ l. get_or l 0 0) (sym is ∙ e) in
    omega (arith, f)
bits_no_traffic word raw is (inr (inl (e, _))) = let f : 98 ≡ 101 = ap (λ l. get_or l 0 0) (sym is ∙ e) in
    omega (arith, f)
bits_no_traffic word raw is (inr (inr (inl (e, _)))) = let f : 98 ≡ 112 = ap (λ l. get_or l 0 0) (sym is ∙ e) in
    omega (arith, f)
bits_no_traffic word raw is (inr (inr (inr (e, _)))) = let f : 98 ≡ 97 = ap (λ l. get_or l 0 0) (sym is ∙ e) in
    omega (arith, f)

no_bits_number : decimal_in 31 (codes "bits") ≡ None
unfolding decimal_in decimal_value
no_bits_number = refl

bits_no_number : (word : List ℕ) (raw : ℕ) → word ≡ codes "bits" → decimal_in 31 word ≡ Some raw → ⊥
bits_no_number word raw is e =
    let f : None ≡ Some raw = sym no_bits_number ∙ ap (λ w. decimal_in 31 w) (sym is) ∙ e in cc f

-- What stands behind the first token, by the rest of the tokens.
abbrev pub IsBehind : Region → Head → Token → (List Token → Type 0) → Type 0
IsBehind region h t Rest = Same (λ l. Told region h (t ∷ l)) Rest

pub pi_behind : (region : Region) (t : Token) → MayStand region what.FourDigits t
    → IsBehind region head.Pi t IsEnd
pi_behind region t (w, n, is, number) = record { to = to; from = from }
  where
    to : (l : List Token) → Told region head.Pi (t ∷ l) → l ≡ []
    to l (bytes, (pi, (word, e, _), _)) = cc

    from : (l : List Token) → l ≡ [] → Told region head.Pi (t ∷ l)
    from l e = (spelling (Pi 0 0 n), (n, (w, cc, number), refl))

pub ps_behind : (region : Region) (t : Token) → MayStand region what.Name t → IsBehind region head.Ps t IsEnd
ps_behind region t (bytes, is, few) = record { to = to; from = from }
  where
    to : (l : List Token) → Told region head.Ps (t ∷ l) → l ≡ []
    to l (_, (name, (own, e, _, _), _)) = cc

    from : (l : List Token) → l ≡ [] → Told region head.Ps (t ∷ l)
    from l e =
        let name = bytes ++ replicate (8 - length bytes) 0x20 in
        (spelling (Ps 0 0 name), (name, (bytes, cc, few, refl), refl))

pub set_behind : (region : Region) (t : Token) → MayStand region what.DataSet t → IsBehind region head.Set t IsEnd
set_behind region t (w, dsn, is, named) = record { to = to; from = from }
  where
    to : (l : List Token) → Told region head.Set (t ∷ l) → l ≡ []
    to l (bytes, (_, (dsn, (word, e, _), _))) = cc

    from : (l : List Token) → l ≡ [] → Told region head.Set (t ∷ l)
    from l e = (spelling (Select dsn), (refl, (dsn, (w, cc, named), refl)))

pub ack_behind : (region : Region) (t : Token) → MayStand region what.TwoDigits t
    → IsBehind region head.Ack t (Each region (what.TwoDigits ∷ []) IsEnd)
ack_behind region t (w, code, is, code_is) = record { to = to; from = from }
  where
    to : (l : List Token) → Told region head.Ack (t ∷ l) → Each region (what.TwoDigits ∷ []) IsEnd l
    to l (bytes, (_, (code, counter, (c, n, e, _, n_is), _))) = (Word n, [], cc, (n, counter, refl, n_is), refl)

    from : (l : List Token) → Each region (what.TwoDigits ∷ []) IsEnd l → Told region head.Ack (t ∷ l)
    from l (u, more, e, (n, counter, u_is, n_is), end) =
        (spelling (Ack code counter), (refl, (code, counter, (w, n, cc, code_is, n_is), refl)))

pub ms_bits : (region : Region) (t : Token) → t ≡ Word (codes "bits")
    → IsBehind region head.Ms t (Each region (what.TwoDigits ∷ []) IsEnd)
ms_bits region t is = record { to = to; from = from }
  where
    to : (l : List Token) → Told region head.Ms (t ∷ l) → Each region (what.TwoDigits ∷ []) IsEnd l
    to l (bytes, (raw, (w, e, byte), _)) = (Word w, [], cc, (w, raw, refl, byte), refl)

    from : (l : List Token) → Each region (what.TwoDigits ∷ []) IsEnd l → Told region head.Ms (t ∷ l)
    from l (u, more, e, (w, raw, u_is, byte), end) = (spelling (Ms 0 0 raw), (raw, (w, cc, byte), refl))

pub traffic_bits : (region : Region) (t : Token) → t ≡ Word (codes "bits")
    → IsBehind region head.Traffic t (Each region (what.TwoDigits ∷ []) IsEnd)
traffic_bits region t is = record { to = to; from = from }
  where
    to : (l : List Token) → Told region head.Traffic (t ∷ l) → Each region (what.TwoDigits ∷ []) IsEnd l
    to l (bytes, (raw, inl (word, e, named), _)) =
        let word_is : word ≡ codes "bits" = cc in absurd (bits_no_traffic word raw word_is named)
    to l (bytes, (raw, inr (w, e, byte), _)) = (Word w, [], cc, (w, raw, refl, byte), refl)

    from : (l : List Token) → Each region (what.TwoDigits ∷ []) IsEnd l → Told region head.Traffic (t ∷ l)
    from l (u, more, e, (w, raw, u_is, byte), end) = (spelling (TaTp 0 0 raw), (raw, inr (w, cc, byte), refl))

pub traffic_other : (region : Region) (t : Token) → (t ≡ Word (codes "bits") → ⊥) → MayStand region what.Traffic t
    → IsBehind region head.Traffic t IsEnd
traffic_other region t other (inr is) = absurd (other is)
traffic_other region t other (inl (w, raw, is, named)) = record { to = to; from = from }
  where
    to : (l : List Token) → Told region head.Traffic (t ∷ l) → l ≡ []
    to l (bytes, (_, inl (word, e, _), _)) = cc
    to l (bytes, (_, inr (word, e, byte), _)) = let is_bits : t ≡ Word (codes "bits") = cc in absurd (other is_bits)

    from : (l : List Token) → l ≡ [] → Told region head.Traffic (t ∷ l)
    from l e = (spelling (TaTp 0 0 raw), (raw, inl (w, cc, named), refl))

pub pty_bits : (region : Region) (t : Token) → t ≡ Word (codes "bits")
    → IsBehind region head.Pty t (Each region (what.TwoDigits ∷ []) IsEnd)
pty_bits region t is = record { to = to; from = from }
  where
    to : (l : List Token) → Told region head.Pty (t ∷ l) → Each region (what.TwoDigits ∷ []) IsEnd l
    to l (bytes, (raw, inl (name, e, named), _)) = absurd (cc e)
    to l (bytes, (raw, inr (inl (word, e, number)), _)) =
        let word_is : word ≡ codes "bits" = cc in absurd (bits_no_number word raw word_is number)
    to l (bytes, (raw, inr (inr (w, e, byte)), _)) = (Word w, [], cc, (w, raw, refl, byte), refl)

    from : (l : List Token) → Each region (what.TwoDigits ∷ []) IsEnd l → Told region head.Pty (t ∷ l)
    from l (u, more, e, (w, raw, u_is, byte), end) = (spelling (Pty 0 0 raw), (raw, inr (inr (w, cc, byte)), refl))

pub pty_other : (region : Region) (t : Token) → (t ≡ Word (codes "bits") → ⊥) → MayStand region what.ProgrammeType t
    → IsBehind region head.Pty t IsEnd
pty_other region t other m = record { to = to; from = λ l e. from l e m }
  where
    to : (l : List Token) → Told region head.Pty (t ∷ l) → l ≡ []
    to l (bytes, (_, inl (name, e, _), _)) = cc
    to l (bytes, (_, inr (inl (word, e, _)), _)) = cc
    to l (bytes, (_, inr (inr (word, e, byte)), _)) =
        let is_bits : t ≡ Word (codes "bits") = cc in absurd (other is_bits)

    from : (l : List Token) → l ≡ [] → MayStand region what.ProgrammeType t → Told region head.Pty (t ∷ l)
    from l e (inl (name, raw, is, named)) = (spelling (Pty 0 0 raw), (raw, inl (name, cc, named), refl))
    from l e (inr (inl (w, raw, is, number))) = (spelling (Pty 0 0 raw), (raw, inr (inl (w, cc, number)), refl))
    from l e (inr (inr is)) = absurd (other is)

pub rt_bits : (region : Region) (t : Token) → t ≡ Word (codes "bits")
    → IsBehind region head.Rt t (Each region (what.TwoDigits ∷ what.Text ∷ []) IsEnd)
rt_bits region t is = record { to = to; from = from }
  where
    to : (l : List Token) → Told region head.Rt (t ∷ l) → Each region (what.TwoDigits ∷ what.Text ∷ []) IsEnd l
    to l (bytes, (NoText, e, _)) = absurd (cc e)
    to l (bytes, (Text number text, inl (choices, made, e, _, _), _)) = absurd (cc e)
    to l (bytes, (Text number text, inr (w, e, byte), _)) =
        (Word w, Quoted text ∷ [], cc, (w, number, refl, byte), (Quoted text, [], refl, (text, refl), refl))

    from : (l : List Token) → Each region (what.TwoDigits ∷ what.Text ∷ []) IsEnd l → Told region head.Rt (t ∷ l)
    from l (u, more, e, (w, number, u_is, byte), (v, others, f, (text, v_is), end)) =
        (spelling (Rt 0 0 (Text number text)), (Text number text, inr (w, cc, byte), refl))

pub rt_clear : (region : Region) (t : Token) → t ≡ Word (codes "clear") → IsBehind region head.Rt t IsEnd
rt_clear region t is = record { to = to; from = from }
  where
    to : (l : List Token) → Told region head.Rt (t ∷ l) → l ≡ []
    to l (bytes, (NoText, e, _)) = cc
    to l (bytes, (Text number text, inl (choices, made, e, _, _), _)) = absurd (cc e)
    to l (bytes, (Text number text, inr (w, e, byte), _)) = absurd (cc e)

    from : (l : List Token) → l ≡ [] → Told region head.Rt (t ∷ l)
    from l e = (spelling (Rt 0 0 NoText), (NoText, cc, refl))

pub rt_chosen : (region : Region) (t : Token) (text : List ℕ) → t ≡ Quoted text
    → IsBehind region head.Rt t (AreChosen no_choice)
rt_chosen region t text is = record { to = to; from = from }
  where
    to : (l : List Token) → Told region head.Rt (t ∷ l) → AreChosen no_choice l
    to l (bytes, (NoText, e, _)) = absurd (cc e)
    to l (bytes, (Text number own, inl (choices, made, e, make, _), _)) =
        let same : choices ≡ l = cc in (made, subst (λ c. Make no_choice c made) same make)
    to l (bytes, (Text number own, inr (w, e, byte), _)) = absurd (cc e)

    from : (l : List Token) → AreChosen no_choice l → Told region head.Rt (t ∷ l)
    from l (made, make) = (
      spelling (Rt 0 0 (Text (head_of made) text)),
      (Text (head_of made) text, inl (l, made, ap (λ x. x ∷ l) is, make, refl), refl),
    )

abbrev pub GroupBits : Region → List Token → Type 0
GroupBits region l =
    Each region (what.TwoDigits ∷ what.TwoDigits ∷ what.FourDigits ∷ what.FourDigits ∷ []) IsEnd l

pub group_bits : (region : Region) (t : Token) → t ≡ Word (codes "bits")
    → IsBehind region head.Group t (GroupBits region)
group_bits region t is = record { to = to; from = from }
  where
    to : (l : List Token) → Told region head.Group (t ∷ l) → GroupBits region l
    to l (bytes, (_, (kind, mode, block3, block4, inl (k, m, b, c, bits, adds, e, kind_is, _, _, _, _, _), _))) =
        let word_is : k ≡ codes "bits" = cc in absurd (bits_no_type k kind word_is kind_is)
    to l (bytes, (_, (kind, mode, block3, block4, inr (k, m, b, c, e, k_is, m_is, b_is, c_is), _))) = (
      Word k,
      Word m ∷ Word b ∷ Word c ∷ [],
      cc,
      (k, kind, refl, k_is),
      (
        Word m,
        Word b ∷ Word c ∷ [],
        refl,
        (m, mode, refl, m_is),
        (
          Word b,
          Word c ∷ [],
          refl,
          (b, block3, refl, b_is),
          (Word c, [], refl, (c, block4, refl, c_is), refl),
        ),
      ),
    )

    from : (l : List Token) → GroupBits region l → Told region head.Group (t ∷ l)
    from l (
      u,
      u_more,
      e,
      (k, kind, u_is, k_is),
      (
        v,
        v_more,
        f,
        (m, mode, v_is, m_is),
        (
          x,
          x_more,
          g,
          (b, block3, x_is, b_is),
          (y, y_more, h, (c, block4, y_is, c_is), end),
        ),
      ),
    ) = (
      spelling (Group kind mode block3 block4),
      (refl, (kind, mode, block3, block4, inr (k, m, b, c, cc, k_is, m_is, b_is, c_is), refl)),
    )

abbrev pub GroupOther : Region → List Token → Type 0
GroupOther region l = Each region (what.FiveBits ∷ what.FourDigits ∷ what.FourDigits ∷ []) IsAddOrEnd l

pub group_other : (region : Region) (t : Token) → (t ≡ Word (codes "bits") → ⊥) → MayStand region what.GroupType t
    → IsBehind region head.Group t (GroupOther region)
group_other region t other (inr is) = absurd (other is)
group_other region t other (inl (w, kind, is, kind_is)) = record { to = to; from = from }
  where
    tail : (adds : Bool) → IsAddOrEnd (added_tokens adds)
    tail true = inr refl
    tail false = inl refl

    to : (l : List Token) → Told region head.Group (t ∷ l) → GroupOther region l
    to l (bytes, (_, (_, mode, block3, block4, inl (k, m, b, c, bits, adds, e, _, m_is, few, _, b_is, c_is), _))) = (
      Word m,
      Word b ∷ Word c ∷ added_tokens adds,
      cc,
      (m, bits, refl, m_is, few),
      (
        Word b,
        Word c ∷ added_tokens adds,
        refl,
        (b, block3, refl, b_is),
        (
          Word c,
          added_tokens adds,
          refl,
          (c, block4, refl, c_is),
          tail adds,
        ),
      ),
    )
    to l (bytes, (_, (_, mode, block3, block4, inr (k, m, b, c, e, _, _, _, _), _))) =
        let is_bits : t ≡ Word (codes "bits") = cc in absurd (other is_bits)

    from : (l : List Token) → GroupOther region l → Told region head.Group (t ∷ l)
    from l (
      u,
      u_more,
      e,
      (m, bits, u_is, m_is, few),
      (
        x,
        x_more,
        g,
        (b, block3, x_is, b_is),
        (
          y,
          y_more,
          h,
          (c, block4, y_is, c_is),
          inl end,
        ),
      ),
    ) = (
      spelling (Group kind (bits + 0x00) block3 block4),
      (
        refl,
        (
          kind,
          bits + 0x00,
          block3,
          block4,
          inl (w, m, b, c, bits, false, cc, kind_is, m_is, few, refl, b_is, c_is),
          refl,
        ),
      ),
    )
    from l (
      u,
      u_more,
      e,
      (m, bits, u_is, m_is, few),
      (
        x,
        x_more,
        g,
        (b, block3, x_is, b_is),
        (
          y,
          y_more,
          h,
          (c, block4, y_is, c_is),
          inr end,
        ),
      ),
    ) = (
      spelling (Group kind (bits + 0x40) block3 block4),
      (
        refl,
        (
          kind,
          bits + 0x40,
          block3,
          block4,
          inl (w, m, b, c, bits, true, cc, kind_is, m_is, few, refl, b_is, c_is),
          refl,
        ),
      ),
    )

-- Music or speech: nothing.
pub music_none : (region : Region) → Same (Told region head.Music) IsEnd
music_none region = record { to = λ l r. r.1.0; from = λ l e. (spelling (Ms 0 0 1), (e, refl)) }

pub speech_none : (region : Region) → Same (Told region head.Speech) IsEnd
speech_none region = record { to = λ l r. r.1.0; from = λ l e. (spelling (Ms 0 0 0), (e, refl)) }
