-- A receiver that hears groups of another station.
use Rattle.std.proofs.Common.{◌≡◌, ℕ, Bool, true, false, not, Option, Some, None, refl, ap, sym, ◌∙◌, subst}
use Rattle.std.proofs.Common.{[], if◌then◌else◌}
use Rattle.std.specs.Prelude.{IfSome}
use Rattle.std.proofs.lemmas.Bool.{eq-eqb}
use Rattle.rds_groups.specs.declared.heard.HeardGroup.{HeardGroup}
use Rattle.rds_groups.specs.Shown.{Receiver, switched_on, is_another, holds, hears_own, hears_another, hears}
use Rattle.rds_groups.specs.Shown.{text_shown, identified, told, named, name_heard, text_heard, tuned}
use Rattle.rds_groups.specs.ReceiverLaws.{nothing_came, ShowsTheSame, BeginsAnew, OneChangesNothing}

abbrev alone : Receiver → Receiver
alone r = record r { held = None }

own : (g : HeardGroup) (r : Receiver) → is_another r.pi g.block1 ≡ false → hears g r ≡ hears_own g (alone r)
own g r e = ap (λ b. if b then hears_another r.held g r else hears_own g (alone r)) e

other_one : (g : HeardGroup) (r : Receiver) → is_another r.pi g.block1 ≡ true → hears g r ≡ hears_another r.held g r
other_one g r e = ap (λ b. if b then hears_another r.held g r else hears_own g (alone r)) e

-- it is held, where nothing was, or a group of a third station
held_so : (g : HeardGroup) (r : Receiver) → IfSome r.held (λ f. is_another f.block1 g.block1 ≡ true)
    → hears_another r.held g r ≡ holds g r
held_so g r third = by r.held third
  where
    by : (o : Option HeardGroup) → IfSome o (λ f. is_another f.block1 g.block1 ≡ true)
        → hears_another o g r ≡ holds g r
    by None none = refl
    by (Some f) is = ap (λ b. if b then holds g r else hears_own g (hears_own f switched_on)) is

-- the first group that a receiver hears leaves its PI, and nothing held
first_pi : (pi : ℕ) (g : HeardGroup) → g.block1 ≡ Some pi → (hears_own g switched_on).pi ≡ Some pi
first_pi pi g is = by g.block2 ∙ ap (λ (o : Option ℕ). (identified o switched_on).pi) is
  where
    segment : (n : ℕ) (block4 : Option ℕ) (r : Receiver) → (named n block4 r).pi ≡ r.pi
    segment n None r = refl
    segment n (Some word) r = refl

    typed : (name text : Bool) (block2 : ℕ) (r : Receiver)
        → (if name then name_heard block2 g.block4 r else if text then text_heard block2 g.block3 g.block4 r else r).pi
        ≡ r.pi
    typed true text block2 r = segment _ g.block4 _
    typed false true block2 r = refl
    typed false false block2 r = refl

    by : (block2 : Option ℕ) → (told block2 g (identified g.block1 switched_on)).pi
        ≡ (identified g.block1 switched_on).pi
    by None = refl
    by (Some block2) = typed _ _ block2 (tuned block2 (identified g.block1 switched_on))

first_held : (g : HeardGroup) → (hears_own g switched_on).held ≡ None
first_held g = by g.block2 ∙ at_first g.block1
  where
    segment : (n : ℕ) (block4 : Option ℕ) (r : Receiver) → (named n block4 r).held ≡ r.held
    segment n None r = refl
    segment n (Some word) r = refl

    typed : (name text : Bool) (block2 : ℕ) (r : Receiver)
        → (if name then name_heard block2 g.block4 r
        else if text then text_heard block2 g.block3 g.block4 r
        else r).held ≡ r.held
    typed true text block2 r = segment _ g.block4 _
    typed false true block2 r = refl
    typed false false block2 r = refl

    by : (block2 : Option ℕ) → (told block2 g (identified g.block1 switched_on)).held
        ≡ (identified g.block1 switched_on).held
    by None = refl
    by (Some block2) = typed _ _ block2 (tuned block2 (identified g.block1 switched_on))

    at_first : (block1 : Option ℕ) → (identified block1 switched_on).held ≡ None
    at_first None = refl
    at_first (Some pi) = refl

pub begins_anew : BeginsAnew
begins_anew pi one other r first second apart third =
    let same : is_another one.block1 other.block1 ≡ false =
    ap (λ (o : Option ℕ). is_another o other.block1) first ∙ ap (is_another (Some pi)) second
    ∙ ap not (eq-eqb pi pi refl) in
    let held : hears one r ≡ holds one r = other_one one r (ap (is_another r.pi) first ∙ apart)
    ∙ held_so one r (subst (λ (o : Option ℕ). IfSome r.held (λ g. is_another g.block1 o ≡ true)) (sym first) third) in
    let q = hears_own one switched_on in
    let alone_is : alone q ≡ q =
    ap (λ (o : Option HeardGroup). let p : Receiver = record q { held = o } in p) (sym (first_held one)) in
    let begun : hears other (hears one r) ≡ hears_own other q =
    ap (hears other) held ∙ other_one other (holds one r) (ap (is_another r.pi) second ∙ apart)
    ∙ ap (λ b. if b then holds other (holds one r) else hears_own other q) same in
    let new : hears other (hears one switched_on) ≡ hears_own other q =
    own other q (ap (λ (o : Option ℕ). is_another o other.block1) (first_pi pi one first)
    ∙ ap (is_another (Some pi)) second ∙ ap not (eq-eqb pi pi refl))
    ∙ ap (hears_own other) alone_is in
    begun ∙ sym new

nothing_heard : (r : Receiver) → is_another r.pi None ≡ false
nothing_heard r = by r.pi
  where
    by : (o : Option ℕ) → is_another o None ≡ false
    by None = refl
    by (Some pi) = refl

text_same : (g : HeardGroup) (r : Receiver) → text_shown (holds g r) ≡ text_shown r
unfolding text_shown
text_same g r = refl

pub one_changes_nothing : OneChangesNothing
one_changes_nothing = record {
  shown = λ g r apart none. subst (ShowsTheSame r) (sym (held_alone g r apart none)) (record {
    pi = refl;
    tp = refl;
    pty = refl;
    ta = refl;
    music = refl;
    name = refl;
    text = text_same g r;
  });
  dropped = λ g own_one r apart none same.
      ap (hears own_one) (held_alone g r apart none) ∙ own own_one (holds g r) same
      ∙ sym (ap (hears own_one) (own nothing_came r (nothing_heard r))
      ∙ own own_one (record r { coming = []; held = None }) same);
}
  where
    held_alone : (g : HeardGroup) (r : Receiver) → is_another r.pi g.block1 ≡ true → r.held ≡ None
        → hears g r ≡ holds g r
    held_alone g r apart none =
        other_one g r apart ∙ ap (λ (o : Option HeardGroup). hears_another o g r) none
