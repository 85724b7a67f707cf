-- What one byte does, by what the fields of the cutter are then.
use Rattle.std.proofs.Common.{◌≡◌, ◌≢◌, ◌<◌, ◌≤◌, ◌+◌, ℕ, List, [], ◌∷◌, ◌++◌, length, refl, sym, ap, ◌∙◌, subst}
use Rattle.std.proofs.lemmas.List.{append-nil, length-append}
use Rattle.std.proofs.Common.{true, false, eqb, arith}
use Rattle.std.proofs.Common.{Option, Some, None}
use Rattle.std.specs.Prelude.{is_some, option_to_list}
use Rattle.std.proofs.lemmas.Bool.{false≢true}
use borrow.Author.Tests.{true-eqb, false-eqb}
use Rattle.std.proofs.Common.{take, get_or, append_assoc}
use Rattle.bad_line.specs.Pieces.{Piece, Byte, Segment, AreCut}
use Rattle.bad_line.proofs.Parts.{in_parts_lem}
use Rattle.std.proofs.lemmas.List.{take_more}
use Rattle.bad_line.specs.declared.rules.fate.Fate.{Fate}
use Rattle.bad_line.specs.Fates.{Passing, MayCome}
use Rattle.bad_line.specs.Pieces.{IsHeld, out_of_segment}
use Rattle.bad_line.specs.Crossing.{Cutting, Crosses, one_more}
use Rattle.bad_line.proofs.Steps.{begins, outside, within, overlong, ends}

-- what was made of a byte
abbrev pub Made : (old new : Cutting) (byte : ℕ) (before after : List ℕ) (fates : List Fate) → Type 0
Made old new byte before after fates =
    (made : List ℕ) × (after ≡ before ++ made) × Crosses old new (byte ∷ []) made fates

like : (old old' new new' : Cutting) (bytes bytes' out : List ℕ) (fates : List Fate) → old ≡ old' → new ≡ new'
    → bytes ≡ bytes' → Crosses old new bytes out fates → Crosses old' new' bytes' out fates
like old old' new new' bytes bytes' out fates a b c crosses =
    subst (λ o. Crosses o new' bytes' out fates) a
    (subst (λ n. Crosses old n bytes' out fates) b (subst (λ x. Crosses old new x out fates) c crosses))

pub begins_by : (old : Cutting) (h h' : List ℕ) (f : Passing) (byte : ℕ) (before after : List ℕ)
    → record { held = h; faults = f } ≡ old → IsHeld h → byte ≡ 0xFE → h' ≡ 0xFE ∷ [] → after ≡ before ++ h
    → Made old (record { held = h'; faults = f }) byte before after []
begins_by old h h' f byte before after was is_held start now out = (
  h,
  out,
  like _ _ _ _ _ _ _ _ was (ap (λ (x : List ℕ). let c : Cutting = record { held = x; faults = f } in c) (sym now))
      (ap (λ (b : ℕ). b ∷ []) (sym start)) (begins h f is_held),
)

pub outside_by : (old : Cutting) (h : List ℕ) (f : Passing) (byte : ℕ) (before after : List ℕ)
    → record { held = h; faults = f } ≡ old → h ≡ [] → byte ≢ 0xFE → after ≡ before ++ byte ∷ []
    → Made old old byte before after []
outside_by old h f byte before after was none no_start out =
    let is : (let c : Cutting = record { held = []; faults = f } in c) ≡ old =
    ap (λ (x : List ℕ). let c : Cutting = record { held = x; faults = f } in c) (sym none) ∙ was in
    (byte ∷ [], out, like _ _ _ _ _ _ _ _ is is refl (outside f byte no_start))

pub within_by : (old : Cutting) (h h' : List ℕ) (f : Passing) (byte : ℕ) (before : List ℕ)
    → record { held = h; faults = f } ≡ old → IsHeld h' → h' ≡ h ++ byte ∷ []
    → Made old (record { held = h'; faults = f }) byte before before []
within_by old h h' f byte before was is_held now = (
  [],
  sym (append-nil before),
  like _ _ _ _ _ _ _ _ was
      (ap (λ (x : List ℕ). let c : Cutting = record { held = x; faults = f } in c) (sym now)) refl
      (within h f byte (subst IsHeld now is_held)),
)

pub overlong_by : (old : Cutting) (h h' : List ℕ) (f : Passing) (byte : ℕ) (before after : List ℕ)
    → record { held = h; faults = f } ≡ old → IsHeld h → 0 < length h → 1023 ≤ length h → byte ≢ 0xFE → byte ≢ 0xFF
    → h' ≡ [] → after ≡ before ++ (h ++ byte ∷ []) → Made old (record { held = h'; faults = f }) byte before after []
overlong_by old h h' f byte before after was is_held some long no_start no_end now out = (
  h ++ byte ∷ [],
  out,
  like _ _ _ _ _ _ _ _ was
      (ap (λ (x : List ℕ). let c : Cutting = record { held = x; faults = f } in c) (sym now)) refl
      (overlong h f byte is_held some long no_start no_end),
)

pub ends_by : (old : Cutting) (h h' : List ℕ) (f f' : Passing) (byte size : ℕ) (fate : Fate) (before after : List ℕ)
    → record { held = h; faults = f } ≡ old → IsHeld h → 0 < length h → byte ≡ 0xFF → f' ≡ one_more f
    → size ≡ length (h ++ byte ∷ []) → MayCome f.rules f.way f'.passed size fate → h' ≡ []
    → after ≡ before ++ out_of_segment fate (h ++ byte ∷ [])
    → Made old (record { held = h'; faults = f' }) byte before after (fate ∷ [])
ends_by old h h' f f' byte size fate before after was is_held some end count size_is may_come now out =
    let segment_is : h ++ byte ∷ [] ≡ h ++ 0xFF ∷ [] = ap (λ (b : ℕ). h ++ b ∷ []) end in
    let may : MayCome f.rules f.way (one_more f).passed (length (h ++ 0xFF ∷ [])) fate =
    subst (λ n. MayCome f.rules f.way n (length (h ++ 0xFF ∷ [])) fate) (ap (λ (p : Passing). p.passed) count)
    (subst (λ n. MayCome f.rules f.way f'.passed n fate) (size_is ∙ ap length segment_is) may_come) in (
      out_of_segment fate (h ++ 0xFF ∷ []),
      out ∙ ap (λ (s : List ℕ). before ++ out_of_segment fate s) segment_is,
      like _ _ _ _ _ _ _ _ was
          (ap (λ (x : List ℕ). let c : Cutting = record { held = x; faults = one_more f } in c) (sym now)
          ∙ ap (λ (p : Passing). let c : Cutting = record { held = h'; faults = p } in c) (sym count))
          (ap (λ (b : ℕ). b ∷ []) (sym end)) (ends h f fate is_held some may),
    )

-- nothing is held, or something
pub none_held : (h : List ℕ) → true ≡ eqb (length h) 0 → h ≡ []
none_held [] none = refl
none_held (byte ∷ h) none = absurd (let is = true-eqb (length (byte ∷ h)) 0 none in omega (arith, is))

pub some_held : (h : List ℕ) → false ≡ eqb (length h) 0 → 0 < length h
some_held h some = let other = false-eqb (length h) 0 some in omega (arith, other)

-- no byte came
pub nothing : (old : Cutting) (h : List ℕ) (f : Passing) → record { held = h; faults = f } ≡ old → IsHeld h
    → Crosses old old [] [] []
nothing old h f was is_held = like _ _ _ _ [] [] _ _ was was refl (record {
  pieces = [];
  joined = sym (append-nil h);
  are_cut = is_held;
  are_ruled = refl;
  out_is = refl;
  fates_are = refl;
})

-- What is held is short.
pub held_short : (pieces : List Piece) (held : List ℕ) → AreCut pieces held → length held ≤ 1023
held_short [] [] is_held = omega arith
held_short [] (byte ∷ inner) is_held = omega (arith, is_held.2)
held_short (Byte byte ∷ pieces) held cut = held_short pieces held cut.1
held_short (Segment segment fate ∷ pieces) held cut = held_short pieces held cut.1

-- A byte came behind others.
pub one_more_byte : (a b c : Cutting) (bytes : List ℕ) (place : ℕ) (start middle after : List ℕ) (fates : List Fate)
    → place < length bytes
    → (made : List ℕ) × (middle ≡ start ++ made) × Crosses a b (take place bytes) made []
    → Made b c (get_or bytes place 0) middle after fates
    → (made : List ℕ) × (after ≡ start ++ made) × Crosses a c (take (place + 1) bytes) made fates
one_more_byte a b c bytes place start middle after fates within (made, middle_is, first) (more, after_is, second) = (
  made ++ more,
  after_is ∙ ap (λ (x : List ℕ). x ++ more) middle_is ∙ append_assoc start made more,
  like _ _ _ _ _ _ _ _ refl refl (sym (take_more bytes place 0 within))
      (in_parts_lem a b c (take place bytes) (get_or bytes place 0 ∷ []) made more [] fates first second),
)

-- What is held has all of a segment's bytes but one, where one more fills it.
pub all_but_one : (h h' : List ℕ) (byte : ℕ) → h' ≡ h ++ byte ∷ [] → true ≡ eqb (length h') 1024 → 1023 ≤ length h
all_but_one h h' byte is full =
    let size = true-eqb (length h') 1024 full in
    let more : length h' ≡ length h + 1 = ap length is ∙ length-append h (byte ∷ []) in
    omega (arith, size, more)

-- where no segment ended, nothing came of one
pub none_told : (fate : Option Fate) → is_some fate ≡ false → option_to_list fate ≡ []
none_told None none = refl
none_told (Some fate) none = absurd (false≢true (sym none))
