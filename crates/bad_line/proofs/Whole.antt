-- Laws of a whole stream.
use Rattle.std.proofs.Common.{◌≡◌, ◌≢◌, ◌<◌, ◌≤◌, ◌+◌, ◌-◌, ◌^◌, inl, inr, min, ℕ, zero, suc, Bool, true, false, ◌&&◌}
use Rattle.std.proofs.Common.{List, [], ◌∷◌, ◌++◌, length, refl, sym, ap, ◌∙◌, subst, arith}
use Rattle.std.proofs.Common.{Option, Some, None, IfSome, leb}
use Rattle.std.proofs.lemmas.Bool.{false≢true, cases_Bool}
use borrow.Author.Tests.{le-leb, lt-leb, leb-true}
use Rattle.std.specs.List.{list_any}
use Rattle.bad_line.specs.declared.rules.rule.Way.{Way}
use Rattle.bad_line.specs.declared.rules.rule.Way.TheVariants.{Frame, Reply}
use Rattle.bad_line.specs.declared.rules.rule.Rule.{Rule}
use Rattle.bad_line.specs.declared.rules.rule.Rule.TheVariants.{Lose}
use Rattle.bad_line.specs.declared.rules.fate.Fate.{Fate}
use Rattle.bad_line.specs.Fates.{Passing, MayCome, MayDo, Chance, loses, breaks, may_lose}
use Rattle.bad_line.specs.Fates.{may_damage, same_way}
use Rattle.bad_line.specs.Pieces.{Piece, Byte, Segment, bytes_of, out_of, out_of_segment, times, with_damage}
use Rattle.bad_line.specs.Crossing.{AreRuled, one_more}
use Rattle.bad_line.specs.Laws.{CrossesWhole, LosesOne, without}
use Rattle.bad_line.proofs.Room.{built}

-- The fate of a segment that comes as it is.
abbrev pub plain : Fate
plain = record { copies = 1; damaged = None; breaks = false }

pub built_plain : (l lost twice : Bool) (named drawn : Option ℕ) (breaks : Bool) → l ≡ false → lost ≡ false
    → twice ≡ false
    → named ≡ None → drawn ≡ None → breaks ≡ false → built l lost twice named drawn breaks ≡ plain
built_plain l lost twice named drawn breaks a b c d e f = rw (built, a, b, c, d, e, f)

-- Where no rule leaves anything to chance, chance does nothing.
pub nothing_lost : (rules : List Rule) (number size : ℕ) (chance : Chance) → MayDo rules number size chance
    → list_any (may_lose number) rules ≡ false → chance.lost ≡ false
nothing_lost rules number size chance may_do none =
    elim (cases_Bool chance.lost) [
      | inl lost ↦ absurd (false≢true (sym none ∙ may_do.lost lost))
      | inr kept ↦ kept
    ]

no_place : (drawn : Option ℕ) (damages : Bool) (size : ℕ)
    → IfSome drawn (λ place. (damages ≡ true) × (1 ≤ place) × (place ≤ size)) → damages ≡ false → drawn ≡ None
no_place None damages size may none = refl
no_place (Some place) damages size may none = absurd (false≢true (sym none ∙ may.0))

pub nothing_damaged : (rules : List Rule) (number size : ℕ) (chance : Chance) → MayDo rules number size chance
    → list_any (may_damage number) rules ≡ false → chance.place ≡ None
nothing_damaged rules number size chance may_do none =
    no_place chance.place (list_any (may_damage number) rules) size may_do.place none

pub out_of_plain : (fate : Fate) (segment : List ℕ) → fate ≡ plain → out_of_segment fate segment ≡ segment
out_of_plain fate segment is = ap (λ (f : Fate). out_of_segment f segment) is

-- ---- Without rules.
comes_plain : (way : Way) (number size : ℕ) (fate : Fate) → MayCome [] way number size fate → fate ≡ plain
comes_plain way number size fate (chance, may_do, is) =
    is ∙ built_plain false chance.lost false None chance.place false refl
    (nothing_lost [] number size chance may_do refl) refl refl (nothing_damaged [] number size chance may_do refl) refl

all_comes : (before after : Passing) (pieces : List Piece) → before.rules ≡ [] → AreRuled before pieces after
    → out_of pieces ≡ bytes_of pieces
all_comes before after [] none ruled = refl
all_comes before after (Byte byte ∷ pieces) none ruled =
    ap (λ (x : List ℕ). byte ∷ x) (all_comes before after pieces none ruled)
all_comes before after (Segment segment fate ∷ pieces) none ruled =
    let is = comes_plain before.way (one_more before).passed (length segment) fate
    (subst (λ rules. MayCome rules before.way (one_more before).passed (length segment) fate) none ruled.0) in
    ap (λ (x : List ℕ). x ++ out_of pieces) (out_of_plain fate segment is)
    ∙ ap (λ (x : List ℕ). segment ++ x) (all_comes (one_more before) after pieces none ruled.1)

pub whole_lem : CrossesWhole
whole_lem old new bytes out fates none crosses =
    ap (λ (x : List ℕ). x ++ new.held)
    (crosses.out_is ∙ all_comes old.faults new.faults crosses.pieces none crosses.are_ruled) ∙ crosses.joined

-- ---- With one rule that loses one segment.
abbrev only : Way → ℕ → List Rule
only way number = Lose way (record { first = number; last = number }) ∷ []

same_way-refl : (way : Way) → same_way way way ≡ true
same_way-refl Frame = refl
same_way-refl Reply = refl

is_lost : (way : Way) (number : ℕ) → list_any (loses way number) (only way number) ≡ true
is_lost way number =
    let here : leb number number ≡ true = le-leb number number (omega arith) in
    rw (loses, same_way-refl way, here)

elsewhere : (number other : ℕ) → other ≢ number → (leb number other && leb other number) ≡ false
elsewhere number other apart =
    elim (cases_Bool (leb number other)) [
      | inl below ↦ rw (below, lt-leb other number (omega (arith, leb-true number other below, apart)))
      | inr above ↦ rw above
    ]

is_kept : (way : Way) (number other : ℕ) → other ≢ number → list_any (loses way other) (only way number) ≡ false
is_kept way number other apart =
    let not_here : (leb number other && leb other number) ≡ false = elsewhere number other apart in
    rw (loses, same_way-refl way, not_here)

comes_lost : (way : Way) (number size : ℕ) (fate : Fate) → MayCome (only way number) way number size fate
    → fate.copies ≡ 0
comes_lost way number size fate (chance, may_do, is) =
    let gone : (l : Bool) → l ≡ true → (built l chance.lost false None chance.place false).copies ≡ 0 =
    λ l e. rw (built, e) in
    ap (λ (f : Fate). f.copies) is ∙ gone (list_any (loses way number) (only way number)) (is_lost way number)

comes_kept : (way : Way) (number other size : ℕ) (fate : Fate) → other ≢ number
    → MayCome (only way number) way other size fate → fate ≡ plain
comes_kept way number other size fate apart (chance, may_do, is) =
    is ∙ built_plain (list_any (loses way other) (only way number)) chance.lost false None chance.place false
    (is_kept way number other apart) (nothing_lost (only way number) other size chance may_do refl) refl refl
    (nothing_damaged (only way number) other size chance may_do refl) refl

-- Behind that segment all comes.
after_it : (way : Way) (number passed : ℕ) (after : Passing) (pieces : List Piece) → number < 2 ^ 32 → number ≤ passed
    → AreRuled (record { rules = only way number; way = way; passed = passed }) pieces after
    → out_of pieces ≡ bytes_of pieces
after_it way number passed after [] small behind ruled = refl
after_it way number passed after (Byte byte ∷ pieces) small behind ruled =
    ap (λ (x : List ℕ). byte ∷ x) (after_it way number passed after pieces small behind ruled)
after_it way number passed after (Segment segment fate ∷ pieces) small behind ruled =
    let next = min (passed + 1) (2 ^ 64 - 1) in
    let is = comes_kept way number next (length segment) fate
    (λ (e : min (passed + 1) (2 ^ 64 - 1) ≡ number). omega (arith, e)) ruled.0 in
    ap (λ (x : List ℕ). x ++ out_of pieces) (out_of_plain fate segment is)
    ∙ ap (λ (x : List ℕ). segment ++ x) (after_it way number next after pieces small (omega arith) ruled.1)

-- Before it all comes but that segment, which is so many segments ahead.
up_to_it : (way : Way) (number passed ahead : ℕ) (after : Passing) (pieces : List Piece) → number < 2 ^ 32
    → passed + suc ahead ≡ number
    → AreRuled (record { rules = only way number; way = way; passed = passed }) pieces after
    → out_of pieces ≡ bytes_of (without (suc ahead) pieces)
up_to_it way number passed ahead after [] small there ruled = refl
up_to_it way number passed ahead after (Byte byte ∷ pieces) small there ruled =
    ap (λ (x : List ℕ). byte ∷ x) (up_to_it way number passed ahead after pieces small there ruled)
up_to_it way number passed zero after (Segment segment fate ∷ pieces) small there ruled =
    let next = min (passed + 1) (2 ^ 64 - 1) in
    let here : next ≡ number = omega arith in
    let gone = comes_lost way number (length segment) fate
    (subst (λ n. MayCome (only way number) way n (length segment) fate) here ruled.0) in
    let behind : number ≤ next = omega (arith, here) in
    ap (λ (n : ℕ). times n (with_damage fate.damaged segment) ++ out_of pieces) gone
    ∙ after_it way number next after pieces small behind ruled.1
up_to_it way number passed (suc ahead) after (Segment segment fate ∷ pieces) small there ruled =
    let next = min (passed + 1) (2 ^ 64 - 1) in
    let is = comes_kept way number next (length segment) fate
    (λ (e : min (passed + 1) (2 ^ 64 - 1) ≡ number). omega (arith, e)) ruled.0 in
    ap (λ (x : List ℕ). x ++ out_of pieces) (out_of_plain fate segment is)
    ∙ ap (λ (x : List ℕ). segment ++ x) (up_to_it way number next ahead after pieces small (omega arith) ruled.1)

pub loses_one_lem : LosesOne
loses_one_lem way zero new bytes out fates some small crosses = absurd (omega arith)
loses_one_lem way (suc ahead) new bytes out fates some small crosses = (
  crosses.pieces,
  crosses.joined,
  crosses.are_cut,
  crosses.out_is ∙ up_to_it way (suc ahead) 0 ahead new.faults crosses.pieces small (omega arith) crosses.are_ruled,
)
