-- What one byte does.
use Rattle.std.proofs.Common.{◌≡◌, ◌≢◌, ◌<◌, ◌≤◌, inl, inr, ℕ, List, [], ◌∷◌, ◌++◌, length, refl, sym, ap, ◌∙◌}
use Rattle.std.proofs.Common.{append-nil, false, true, Bool, arith, eqb, ◌||◌}
use Rattle.std.specs.List.{list_any}
use Rattle.std.proofs.lemmas.List.Folds.{list_any-append}
use Rattle.std.proofs.lemmas.Bool.{false≢true, ne_eqb}
use Rattle.std.proofs.lemmas.List.{length-append}
use Rattle.uecp_frame.specs.Stuffing.{is_delimiter}
use Rattle.bad_line.specs.declared.rules.fate.Fate.{Fate}
use Rattle.bad_line.specs.Fates.{Passing, MayCome}
use Rattle.bad_line.specs.Pieces.{Piece, Byte, Segment, bytes_of, fates_of, out_of, out_of_segment, AreCut}
use Rattle.bad_line.specs.Pieces.{IsHeld}
use Rattle.bad_line.specs.Crossing.{Crosses, AreRuled, one_more}

-- Bytes that are in no segment.
abbrev pub loose : List ℕ → List Piece
loose [] = []
loose (byte ∷ bytes) = Byte byte ∷ loose bytes

bytes_of-loose : (bytes : List ℕ) → bytes_of (loose bytes) ≡ bytes
bytes_of-loose [] = refl
bytes_of-loose (byte ∷ bytes) = ap (λ (x : List ℕ). byte ∷ x) (bytes_of-loose bytes)

out_of-loose : (bytes : List ℕ) → out_of (loose bytes) ≡ bytes
out_of-loose [] = refl
out_of-loose (byte ∷ bytes) = ap (λ (x : List ℕ). byte ∷ x) (out_of-loose bytes)

fates_of-loose : (bytes : List ℕ) → fates_of (loose bytes) ≡ []
fates_of-loose [] = refl
fates_of-loose (byte ∷ bytes) = fates_of-loose bytes

are_ruled-loose : (a : Passing) (bytes : List ℕ) → AreRuled a (loose bytes) a
are_ruled-loose a [] = refl
are_ruled-loose a (byte ∷ bytes) = are_ruled-loose a bytes

-- both parts of an or that is false
neither : (a b : Bool) → (a || b) ≡ false → (a ≡ false) × (b ≡ false)
neither false b none = (refl, none)
neither true b none = absurd (false≢true (sym none))

no_start : (byte : ℕ) → is_delimiter byte ≡ false → byte ≢ 0xFE
no_start byte none is = false≢true (sym none ∙ ap is_delimiter is)

-- bytes that are no delimiters begin no segment
are_cut-loose : (bytes held : List ℕ) → list_any is_delimiter bytes ≡ false → IsHeld held → AreCut (loose bytes) held
are_cut-loose [] held none is_held = is_held
are_cut-loose (byte ∷ bytes) held none is_held =
    let parts = neither (is_delimiter byte) (list_any is_delimiter bytes) none in
    (inl (no_start byte parts.0), are_cut-loose bytes held parts.1 is_held)

-- FE comes: what was held comes out, since it is no segment.
pub begins : (held : List ℕ) (faults : Passing) → IsHeld held
    → Crosses (record { held = held; faults = faults }) (record { held = 0xFE ∷ []; faults = faults }) (0xFE ∷ []) held
    []
begins [] faults is_held = record {
  pieces = [];
  joined = refl;
  are_cut = (refl, refl, omega arith);
  are_ruled = refl;
  out_is = refl;
  fates_are = refl;
}
begins (start ∷ inner) faults is_held = record {
  pieces = loose (start ∷ inner);
  joined = ap (λ (x : List ℕ). x ++ 0xFE ∷ []) (bytes_of-loose (start ∷ inner));
  are_cut = (
    inr (inner, 0xFE ∷ [], ap (λ (x : List ℕ). x ++ 0xFE ∷ []) (bytes_of-loose inner), is_held.1, inr ([], refl)),
    are_cut-loose inner (0xFE ∷ []) is_held.1 (refl, refl, omega arith),
  );
  are_ruled = are_ruled-loose faults (start ∷ inner);
  out_is = sym (out_of-loose (start ∷ inner));
  fates_are = sym (fates_of-loose (start ∷ inner));
}

-- A byte comes where nothing is held.
pub outside : (faults : Passing) (byte : ℕ) → byte ≢ 0xFE
    → Crosses (record { held = []; faults = faults }) (record { held = []; faults = faults }) (byte ∷ []) (byte ∷ []) []
outside faults byte other = record {
  pieces = Byte byte ∷ [];
  joined = refl;
  are_cut = (inl other, tt);
  are_ruled = refl;
  out_is = refl;
  fates_are = refl;
}

-- a byte that is neither FE nor FF
no_delimiter : (byte : ℕ) → byte ≢ 0xFE → byte ≢ 0xFF → is_delimiter byte ≡ false
no_delimiter byte no_start no_end =
    ap (λ (x : Bool). x || eqb byte 0xFF) (ne_eqb byte 0xFE no_start) ∙ ne_eqb byte 0xFF no_end

-- behind bytes that are no delimiters
one_behind : (inner : List ℕ) (byte : ℕ) → list_any is_delimiter inner ≡ false → is_delimiter byte ≡ false
    → list_any is_delimiter (inner ++ byte ∷ []) ≡ false
one_behind inner byte none other =
    list_any-append is_delimiter inner (byte ∷ []) ∙ ap (λ (x : Bool). x || (is_delimiter byte || false)) none
    ∙ ap (λ (x : Bool). x || false) other

-- what is held with one more byte is held
pub is_held-more : (held : List ℕ) (byte : ℕ) → IsHeld held → 0 < length held → length held < 1023 → byte ≢ 0xFE
    → byte ≢ 0xFF → IsHeld (held ++ byte ∷ [])
is_held-more [] byte is_held some room no_start no_end = absurd (omega arith)
is_held-more (start ∷ inner) byte is_held some room no_start no_end = (
  is_held.0,
  one_behind inner byte is_held.1 (no_delimiter byte no_start no_end),
  omega (arith, length-append inner (byte ∷ [])),
)

-- A byte comes within a segment.
pub within : (held : List ℕ) (faults : Passing) (byte : ℕ) → IsHeld (held ++ byte ∷ [])
    → Crosses (record { held = held; faults = faults }) (record { held = held ++ byte ∷ []; faults = faults })
    (byte ∷ []) [] []
within held faults byte is_held = record {
  pieces = [];
  joined = refl;
  are_cut = is_held;
  are_ruled = refl;
  out_is = refl;
  fates_are = refl;
}

-- A byte comes with which it is certain that what is held is no segment: all of it comes out.
pub overlong : (held : List ℕ) (faults : Passing) (byte : ℕ) → IsHeld held → 0 < length held → 1023 ≤ length held
    → byte ≢ 0xFE → byte ≢ 0xFF
    → Crosses (record { held = held; faults = faults }) (record { held = []; faults = faults }) (byte ∷ [])
    (held ++ byte ∷ []) []
overlong [] faults byte is_held some long no_start no_end = absurd (omega arith)
overlong (start ∷ inner) faults byte is_held some long no_start no_end =
    let none = one_behind inner byte is_held.1 (no_delimiter byte no_start no_end) in
    record {
      pieces = loose ((start ∷ inner) ++ byte ∷ []);
      joined = append-nil (bytes_of (loose ((start ∷ inner) ++ byte ∷ [])))
          ∙ bytes_of-loose ((start ∷ inner) ++ byte ∷ []);
      are_cut = (
        inr (
          inner ++ byte ∷ [],
          [],
          ap (λ (x : List ℕ). x ++ []) (bytes_of-loose (inner ++ byte ∷ [])),
          none,
          inl (omega (arith, length-append inner (byte ∷ []))),
        ),
        are_cut-loose (inner ++ byte ∷ []) [] none tt,
      );
      are_ruled = are_ruled-loose faults ((start ∷ inner) ++ byte ∷ []);
      out_is = sym (out_of-loose ((start ∷ inner) ++ byte ∷ []));
      fates_are = sym (fates_of-loose ((start ∷ inner) ++ byte ∷ []));
    }

-- FF comes behind what is held: it is a segment.
pub ends : (held : List ℕ) (faults : Passing) (fate : Fate) → IsHeld held → 0 < length held
    → MayCome faults.rules faults.way (one_more faults).passed (length (held ++ 0xFF ∷ [])) fate
    → Crosses (record { held = held; faults = faults }) (record { held = []; faults = one_more faults }) (0xFF ∷ [])
    (out_of_segment fate (held ++ 0xFF ∷ [])) (fate ∷ [])
ends [] faults fate is_held some may_come = absurd (omega arith)
ends (start ∷ inner) faults fate is_held some may_come = record {
  pieces = Segment ((start ∷ inner) ++ 0xFF ∷ []) fate ∷ [];
  joined = append-nil (((start ∷ inner) ++ 0xFF ∷ []) ++ []) ∙ append-nil ((start ∷ inner) ++ 0xFF ∷ []);
  are_cut = ((inner, ap (λ (x : ℕ). (x ∷ inner) ++ 0xFF ∷ []) is_held.0, is_held.1, is_held.2), tt);
  are_ruled = (may_come, refl);
  out_is = sym (append-nil (out_of_segment fate ((start ∷ inner) ++ 0xFF ∷ [])));
  fates_are = refl;
}
