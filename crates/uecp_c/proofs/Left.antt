-- What is left of bytes whose first finding was told.
use Rattle.std.proofs.Common.{◌≡◌, ◌+◌, ℕ, List, [], ◌∷◌, ◌++◌, refl, ◌∙◌, ap, sym, subst, arith, Option, Some, None}
use Rattle.std.proofs.Common.{length, length-append, append_assoc, take, drop, inl, inr, take-append-drop}
use Rattle.std.specs.List.{list_any}
use Rattle.std.proofs.lemmas.Bool.{cases_Bool, cases_eq}
use Rattle.std.proofs.lemmas.List.{drop-append-le, length-take-le, drop_all}
use Rattle.std.proofs.Math.Seq.{drop-append_seam}
use Rattle.uecp_frame.specs.declared.fed.Fed.{Fed}
use Rattle.uecp_frame.specs.Stuffing.{is_delimiter}
use Rattle.uecp_frame.specs.Findings.{OpenPart, Closed, found, open_bytes, open_part, open_from}
use Rattle.uecp_frame.specs.Beyond.{found_beyond}
use Rattle.uecp_frame.specs.Feeding.{Feeds, findings_of}
use Rattle.uecp_frame.proofs.Public.{HasNone, open_bytes-here, open_bytes-later, open_bytes-other, open_bytes-nil}
use Rattle.uecp_frame.proofs.Public.{segment_found-none, found-nil, found-start, found-none, comes_after_lem}
use Rattle.uecp_frame.proofs.Public.{new_start_lem}
use Rattle.uecp_c.specs.Findings.{open_length, segment_length}

-- ---- a segment that has not ended, as the end of bytes
pub record Ends (s x : List ℕ) : Type 0 where
  pub front : List ℕ
  pub whole : s ≡ front ++ 254 ∷ x
  pub plain : HasNone x

no_some : {x : List ℕ} → None ≡ Some x → ⊥
no_some e = absurd (cc)

ends : (s x : List ℕ) → open_bytes s ≡ Some x → Ends s x
ends [] x e = absurd (no_some (sym open_bytes-nil ∙ e))
ends (b ∷ s) x e =
    elim (cases_Bool (list_any is_delimiter s)) [
      | inl t ↦ (let r = ends s x (sym (open_bytes-later b s t) ∙ e) in
          record { front = b ∷ r.front; whole = ap (λ s. b ∷ s) r.whole; plain = r.plain })
      | inr f ↦ elim (cases_eq b 254) [
        | inl is ↦ (let k : Some s ≡ Some x = sym (open_bytes-here b s f is) ∙ e in
            let same : s ≡ x = cc in
            record { front = []; whole = ap (λ n. n ∷ s) is ∙ ap (λ s. 254 ∷ s) same; plain = subst HasNone same f })
        | inr ne ↦ absurd (no_some (sym (open_bytes-other b s f ne) ∙ e))
      ]
    ]

-- bytes find nothing and leave the same open
pub record KeepsOpen (s t : List ℕ) : Type 0 where
  pub nothing : found t ≡ []
  pub same : open_part t ≡ open_part s

keeps_segment : (s t x : List ℕ) → open_bytes s ≡ Some x → HasNone x → t ≡ 254 ∷ x → KeepsOpen s t
keeps_segment s t x e h is = record {
  nothing =
      ap found is ∙ found-start 254 x refl ∙ ap (λ f. f ++ found x) (segment_found-none x h) ∙ found-none x h;
  same = ap open_part is ∙ ap open_from (open_bytes-here 254 x h refl ∙ sym e);
}

keeps_by : (s : List ℕ) (n : ℕ) (o : Option (List ℕ)) → open_bytes s ≡ o → n + segment_length o ≡ length s
    → KeepsOpen s (drop n s)
keeps_by s n None e all =
    let is : drop n s ≡ [] = drop_all n s (omega arith) in
    record {
      nothing = ap found is ∙ found-nil;
      same = ap open_part is ∙ ap open_from (open_bytes-nil ∙ sym e);
    }
keeps_by s n (Some x) e all =
    let r = ends s x e in
    let long = ap length r.whole ∙ length-append r.front (254 ∷ x) in
    let here : n ≡ length r.front = omega (arith, long) in
    keeps_segment s (drop n s) x e r.plain
    (ap (drop n) r.whole ∙ ap (λ k. drop k (r.front ++ 254 ∷ x)) here ∙ drop-append_seam r.front (254 ∷ x))

keeps_open : (s : List ℕ) (n : ℕ) → n + open_length s ≡ length s → KeepsOpen s (drop n s)
keeps_open s n all = keeps_by s n (open_bytes s) refl all

-- ---- what bytes and others behind them find
pub left_finds : (bytes : List ℕ) (fed : Fed) (left : OpenPart) (done : ℕ) → Feeds Closed bytes fed left
    → done + open_length (take fed.used bytes) ≡ fed.used
    → (more : List ℕ) → found (bytes ++ more) ≡ findings_of fed.found ++ found (drop done bytes ++ more)
left_finds bytes fed left done feeds kept more =
    let s = take fed.used bytes in
    let y = drop fed.used bytes ++ more in
    let whole = sym (take-append-drop fed.used bytes) in
    let long = length-take-le fed.used bytes feeds.used in
    let keeps = keeps_open s done (kept ∙ sym long) in
    let t = drop done s in
    let first : found s ≡ findings_of fed.found = sym (new_start_lem Closed s).found ∙ feeds.answer in
    let front : found (bytes ++ more) ≡ findings_of fed.found ++ found_beyond (open_part s) y =
    ap (λ b. found (b ++ more)) whole ∙ ap found (append_assoc s (drop fed.used bytes) more)
    ∙ (comes_after_lem s y).found ∙ ap (λ f. f ++ found_beyond (open_part s) y) first in
    let tail : drop done bytes ++ more ≡ t ++ y =
    ap (λ b. drop done b ++ more) whole
    ∙ ap (λ b. b ++ more) (drop-append-le done s (drop fed.used bytes) (omega (arith, long, kept)))
    ∙ append_assoc t (drop fed.used bytes) more in
    let others : found (drop done bytes ++ more) ≡ found_beyond (open_part s) y =
    ap found tail ∙ (comes_after_lem t y).found ∙ ap (λ f. f ++ found_beyond (open_part t) y) keeps.nothing
    ∙ ap (λ o. found_beyond o y) keeps.same in
    front ∙ ap (λ f. findings_of fed.found ++ f) (sym others)
