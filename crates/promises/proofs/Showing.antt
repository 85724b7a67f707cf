-- What is heard of a service that stays is the service's, whatever comes damaged.
use Rattle.std.proofs.Common.{◌≡◌, ℕ, ◌+◌, ◌*◌, ◌<◌, ◌≤◌, Bool, true, false, List, [], ◌∷◌, length, Option, Some, None}
use Rattle.std.proofs.Common.{refl, ap, sym, ◌∙◌}
use Rattle.std.proofs.Common.{subst, arith, inl, if◌then◌else◌, ◌&&◌}
use Rattle.std.specs.Prelude.{IfSome}
use Rattle.std.specs.List.{All}
use Rattle.rds_groups.specs.Groups.{pair, blocks}
use Rattle.rds_store.specs.Value.{Store, ServiceData, StoredText}
use Rattle.rds_groups.specs.Heard.{came}
use Rattle.rds_groups.specs.Shown.{Receiver, hears_own, placed, left_of, is_same, nothing, switched_on}
use Rattle.rds_groups.specs.Damage.{GroupDamage, IsGroupDamage, damaged}
use Rattle.rds_groups.specs.ReceiverLaws.{IsRightOrMissing}
use Rattle.carousel.specs.Carousel.{Carousel, blanks_left}
use Rattle.carousel.specs.Texts.{line_up}
use Rattle.carousel.specs.Service.{main_service}
use Rattle.carousel.specs.Next.{sent, name_next, name_group, text_group, send_name, next_group}
use Rattle.promises.specs.OnAir.{IsService, Has}
use Rattle.promises.specs.AirLaws.{ShowsNothingFalse}
use Rattle.promises.proofs.Words.{name_told, text_told}
use Rattle.promises.proofs.AirHearing.{MayHold, pair_may}
use Rattle.promises.proofs.Choice.{is_chosen, stays_started}
use Rattle.promises.proofs.Steps.{next_is, part_step, on_air, fine}
use Rattle.promises.proofs.TextRuns.{one_is_on}
use Rattle.promises.proofs.AirLines.{text_may_show}
use Rattle.promises.proofs.NamesInOrder.{HeardNames, names_by_name, kept_coming}

-- what was heard is the service's
pub record HeardOnly (s : ServiceData) (t : StoredText) (c : Carousel) (r : Receiver) : Type 0 where
  pub pi : IfSome r.pi (λ pi. pi ≡ s.pi)
  pub tp : IfSome r.tp (λ tp. tp ≡ s.tp)
  pub pty : IfSome r.pty (λ pty. pty ≡ s.pty)
  pub ta : IfSome r.ta (λ ta. ta ≡ s.ta)
  pub music : IfSome r.music (λ music. music ≡ s.music)
  pub names : HeardNames (λ name. name ≡ s.ps) c r
  pub long : r.is_short ≡ false
  pub text : (p : ℕ) → MayHold (r.text p) (sent t.bytes p)

-- a segment of the text of which each block came or is missing, and what is left of before
pub text_may : (s : ServiceData) (c : Carousel) (bytes : List ℕ) (block3 block4 : Option ℕ) (q : Receiver)
    → All (λ byte. byte < 256) c.text → c.text ≡ bytes
    → IsRightOrMissing (text_group s c).block3 block3 → IsRightOrMissing (text_group s c).block4 block4
    → ((p : ℕ) → MayHold (left_of c.flag false q p) (sent bytes p)) → (p : ℕ)
    → MayHold ((text_told s c block3 block4 q).text p) (sent bytes p)
text_may s c bytes block3 block4 q are_bytes same h3 h4 before p =
    let i = c.text_segment in
    let old = left_of c.flag false q in
    let left_now = subst (λ (xs : List ℕ). MayHold (old p) (sent xs p)) (sym same) (before p) in
    let first = pair_may c.text (2 * i) (4 * i) p block3 old are_bytes (omega arith) h3 left_now in
    let g2 : 4 * i + 2 ≡ 4 * i + 2 + 0 = omega arith in
    let g3 : 4 * i + 3 ≡ 4 * i + 2 + 1 = omega arith in
    let h4_now : IsRightOrMissing (pair (sent c.text (4 * i + 2 + 0)) (sent c.text (4 * i + 2 + 1))) block4 =
    subst (λ (n : ℕ). IsRightOrMissing (pair (sent c.text (4 * i + 2 + 0)) (sent c.text n)) block4) g3
    (subst (λ (n : ℕ). IsRightOrMissing (pair (sent c.text n) (sent c.text (4 * i + 3))) block4) g2 h4) in
    subst (λ (xs : List ℕ). MayHold ((text_told s c block3 block4 q).text p) (sent xs p)) same
    (pair_may c.text (2 * i + 1) (4 * i + 2) p block4 (placed (2 * i) block3 old) are_bytes (omega arith) h4_now first)

-- all that was heard, or nothing
pub left_or_nothing : (flag : Bool) (bytes : List ℕ) (q : Receiver) → ((p : ℕ) → MayHold (q.text p) (sent bytes p))
    → (p : ℕ) → MayHold (left_of flag false q p) (sent bytes p)
left_or_nothing flag bytes q before p = kept (is_same q.flag flag && is_same q.is_short false)
  where
    kept : (b : Bool) → MayHold ((if b then q.text else nothing) p) (sent bytes p)
    kept true = before p
    kept false = inl refl

pub by_name : (s : ServiceData) (t : StoredText) (c : Carousel) → IsService s → (block4 : Option ℕ)
    → IsRightOrMissing (name_group s (name_next s c)).block4 block4 → (q : Receiver) → HeardOnly s t c q
    → HeardOnly s t (send_name s c).1 (name_told s (name_next s c) block4 q)
by_name s t c ok block4 h q good = by block4 (names_by_name (λ name. name ≡ s.ps) s c ok refl block4 h q good.names)
  where
    by : (o : Option ℕ) → HeardNames (λ name. name ≡ s.ps) (send_name s c).1 (name_told s (name_next s c) o q)
        → HeardOnly s t (send_name s c).1 (name_told s (name_next s c) o q)
    by None names = record {
      pi = good.pi;
      tp = refl;
      pty = refl;
      ta = refl;
      music = refl;
      names = names;
      long = good.long;
      text = good.text;
    }
    by (Some word) names = record {
      pi = good.pi;
      tp = refl;
      pty = refl;
      ta = refl;
      music = refl;
      names = names;
      long = good.long;
      text = good.text;
    }

pub step : (s : ServiceData) (t : StoredText) → IsService s → line_up s.texts ≡ t ∷ []
    → (v : Store) (d : GroupDamage) (c : Carousel) (r : Receiver) → blanks_left c ≡ 0 → Has s v
    → IsGroupDamage d → HeardOnly s t c r → HeardOnly s t (next_group v c).1
    (hears_own (came (damaged d (blocks (next_group v c).0))) r)
step s t ok e v d c r none has damage good =
    part_step s v d c r (HeardOnly s t c) (HeardOnly s t) ok has damage good
    (λ q g. record {
      pi = refl;
      tp = g.tp;
      pty = g.pty;
      ta = g.ta;
      music = g.music;
      long = g.long;
      text = g.text;
      names = record { coming = g.names.coming; shown = g.names.shown };
    })
    (λ f q g. record {
      pi = g.pi;
      tp = g.tp;
      pty = g.pty;
      ta = g.ta;
      music = g.music;
      long = g.long;
      text = g.text;
      names = record { coming = inl refl; shown = g.names.shown };
    })
    (by_name s t c ok)
    (λ block3 block4 h3 h4 q g. record {
      pi = g.pi;
      tp = refl;
      pty = refl;
      ta = g.ta;
      music = g.music;
      long = refl;
      names = record { coming = kept_coming s c q.coming g.names.coming; shown = g.names.shown };
      text = text_may s (on_air s c) t.bytes block3 block4 q (fine s c ok).are_bytes (one_is_on s t e c none).text h3 h4
          (left_or_nothing (on_air s c).flag t.bytes q g.text);
    })
    (λ q g. record {
      pi = g.pi;
      tp = refl;
      pty = refl;
      ta = g.ta;
      music = g.music;
      long = g.long;
      text = g.text;
      names = record { coming = g.names.coming; shown = g.names.shown };
    })

pub still_started : (v : Store) (c : Carousel) → blanks_left c ≡ 0 → blanks_left (next_group v c).1 ≡ 0
still_started v c none =
    next_is v c (λ sent. blanks_left sent.1 ≡ 0) (λ h. none)
    (λ h. ap blanks_left (is_chosen (line_up (main_service v).texts) c none)
    ∙ stays_started (line_up (main_service v).texts) c none) (λ h g gs e. none)

-- what is shown then
pub shows_only : (s : ServiceData) (t : StoredText) (c : Carousel) (r : Receiver) → length t.bytes ≤ 64
    → HeardOnly s t c r → ShowsNothingFalse s t r
shows_only s t c r short heard = record {
  pi = heard.pi;
  tp = heard.tp;
  pty = heard.pty;
  ta = heard.ta;
  music = heard.music;
  name = heard.names.shown;
  text = text_may_show t.bytes r short heard.long heard.text;
}

-- a receiver that was switched on has heard nothing
pub nothing_heard : (s : ServiceData) (t : StoredText) (c : Carousel) → HeardOnly s t c switched_on
nothing_heard s t c = record {
  pi = tt;
  tp = tt;
  pty = tt;
  ta = tt;
  music = tt;
  names = record { coming = inl refl; shown = tt };
  long = refl;
  text = λ p. inl refl;
}
