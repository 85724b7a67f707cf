-- A stream in two parts.
use Rattle.std.proofs.Common.{◌≡◌, inl, inr, ℕ, List, [], ◌∷◌, ◌++◌, refl, sym, ap, ◌∙◌, subst}
use Rattle.std.proofs.Common.{append_assoc}
use Rattle.bad_line.specs.declared.rules.fate.Fate.{Fate}
use Rattle.bad_line.specs.Fates.{Passing}
use Rattle.bad_line.specs.Pieces.{Piece, Byte, Segment, bytes_of, fates_of, out_of, out_of_segment, AreCut}
use Rattle.bad_line.specs.Pieces.{BeginsNone}
use Rattle.bad_line.specs.Crossing.{AreRuled, one_more}
use Rattle.bad_line.specs.Laws.{CrossesInParts}

pub bytes_of-append : (ps qs : List Piece) → bytes_of (ps ++ qs) ≡ bytes_of ps ++ bytes_of qs
bytes_of-append [] qs = refl
bytes_of-append (Byte byte ∷ ps) qs = ap (λ (x : List ℕ). byte ∷ x) (bytes_of-append ps qs)
bytes_of-append (Segment segment fate ∷ ps) qs =
    ap (λ (x : List ℕ). segment ++ x) (bytes_of-append ps qs) ∙ sym (append_assoc segment (bytes_of ps) (bytes_of qs))

pub out_of-append : (ps qs : List Piece) → out_of (ps ++ qs) ≡ out_of ps ++ out_of qs
out_of-append [] qs = refl
out_of-append (Byte byte ∷ ps) qs = ap (λ (x : List ℕ). byte ∷ x) (out_of-append ps qs)
out_of-append (Segment segment fate ∷ ps) qs =
    ap (λ (x : List ℕ). out_of_segment fate segment ++ x) (out_of-append ps qs)
    ∙ sym (append_assoc (out_of_segment fate segment) (out_of ps) (out_of qs))

pub fates_of-append : (ps qs : List Piece) → fates_of (ps ++ qs) ≡ fates_of ps ++ fates_of qs
fates_of-append [] qs = refl
fates_of-append (Byte byte ∷ ps) qs = fates_of-append ps qs
fates_of-append (Segment segment fate ∷ ps) qs = ap (λ (x : List Fate). fate ∷ x) (fates_of-append ps qs)

pub are_ruled-append : (a b c : Passing) (ps qs : List Piece) → AreRuled a ps b → AreRuled b qs c
    → AreRuled a (ps ++ qs) c
are_ruled-append a b c [] qs first second = subst (λ from. AreRuled from qs c) first second
are_ruled-append a b c (Byte byte ∷ ps) qs first second = are_ruled-append a b c ps qs first second
are_ruled-append a b c (Segment segment fate ∷ ps) qs first second =
    (first.0, are_ruled-append (one_more a) b c ps qs first.1 second)

-- No segment begins with a byte, whatever comes behind the rest.
pub begins_none-append : (byte : ℕ) (rest more : List ℕ) → BeginsNone byte rest → BeginsNone byte (rest ++ more)
begins_none-append byte rest more (inl other) = inl other
begins_none-append byte rest more (inr (inner, after, is, none, inl long)) =
    inr (inner, after ++ more, ap (λ (x : List ℕ). x ++ more) is ∙ append_assoc inner after more, none, inl long)
begins_none-append byte rest more (inr (inner, after, is, none, inr again)) =
    inr (
      inner,
      after ++ more,
      ap (λ (x : List ℕ). x ++ more) is ∙ append_assoc inner after more,
      none,
      inr (again.0 ++ more, ap (λ (x : List ℕ). x ++ more) again.1),
    )

pub are_cut-append : (ps qs : List Piece) (held held' bytes : List ℕ) → AreCut ps held → AreCut qs held'
    → bytes_of qs ++ held' ≡ held ++ bytes → AreCut (ps ++ qs) held'
are_cut-append [] qs held held' bytes first second joined = second
are_cut-append (Byte byte ∷ ps) qs held held' bytes first second joined =
    let rest : (bytes_of ps ++ held) ++ bytes ≡ bytes_of (ps ++ qs) ++ held' =
    append_assoc (bytes_of ps) held bytes ∙ ap (λ (x : List ℕ). bytes_of ps ++ x) (sym joined)
    ∙ sym (append_assoc (bytes_of ps) (bytes_of qs) held')
    ∙ ap (λ (x : List ℕ). x ++ held') (sym (bytes_of-append ps qs)) in (
      subst (λ x. BeginsNone byte x) rest (begins_none-append byte (bytes_of ps ++ held) bytes first.0),
      are_cut-append ps qs held held' bytes first.1 second joined,
    )
are_cut-append (Segment segment fate ∷ ps) qs held held' bytes first second joined =
    (first.0, are_cut-append ps qs held held' bytes first.1 second joined)

pub in_parts_lem : CrossesInParts
in_parts_lem a b c first second out more fates others f s = record {
  pieces = f.pieces ++ s.pieces;
  joined = ap (λ (x : List ℕ). x ++ c.held) (bytes_of-append f.pieces s.pieces)
      ∙ append_assoc (bytes_of f.pieces) (bytes_of s.pieces) c.held
      ∙ ap (λ (x : List ℕ). bytes_of f.pieces ++ x) s.joined
      ∙ sym (append_assoc (bytes_of f.pieces) b.held second)
      ∙ ap (λ (x : List ℕ). x ++ second) f.joined
      ∙ append_assoc a.held first second;
  are_cut = are_cut-append f.pieces s.pieces b.held c.held second f.are_cut s.are_cut s.joined;
  are_ruled = are_ruled-append a.faults b.faults c.faults f.pieces s.pieces f.are_ruled s.are_ruled;
  out_is = ap (λ (x : List ℕ). x ++ more) f.out_is ∙ ap (λ (x : List ℕ). out_of f.pieces ++ x) s.out_is
      ∙ sym (out_of-append f.pieces s.pieces);
  fates_are = ap (λ (x : List Fate). x ++ others) f.fates_are
      ∙ ap (λ (x : List Fate). fates_of f.pieces ++ x) s.fates_are
      ∙ sym (fates_of-append f.pieces s.pieces);
}
