-- What bytes that come do to the findings and to the open part.
use Rattle.std.proofs.Common.{◌≡◌, ◌≢◌, ◌<◌, ◌≤◌, ◌+◌, ◌-◌, ◌==◌, ℕ, zero, suc, true, List, [], ◌∷◌, ◌++◌, refl, ◌∙◌}
use Rattle.std.proofs.Common.{ap, sym, length, take, drop, get_or, arith, None, inl, inr}
use Rattle.std.proofs.lemmas.Bool.{cases_eq, cases_lt, cases_Bool, ne_eqb, eqb-true, or_cases}
use Rattle.std.proofs.lemmas.List.{append-nil, length-drop}
use Rattle.std.proofs.Math.Seq.{take-add}
use Rattle.std.specs.List.{list_any}
use Rattle.uecp_frame.specs.declared.fed.Found.{Found}
use Rattle.uecp_frame.specs.declared.fed.Found.TheVariants.{Nothing}
use Rattle.uecp_frame.specs.declared.fed.Fed.{Fed}
use Rattle.uecp_frame.specs.Stuffing.{is_delimiter}
use Rattle.uecp_frame.specs.Findings.{OpenPart, Closed, Doomed, Part, progress, before_delimiter, found, open_bytes}
use Rattle.uecp_frame.specs.Findings.{open_from, open_part}
use Rattle.uecp_frame.specs.Beyond.{closing, closing_at, unended, found_beyond, open_beyond}
use Rattle.uecp_frame.specs.Feeding.{Feeds, FeedsAfter, findings_of}
use Rattle.uecp_frame.specs.OpenSegment.{Takes}
use Rattle.uecp_frame.proofs.Reading.{unstuffed-nil}
use Rattle.uecp_frame.proofs.Delimiters.{HasNone, from_delimiter-none, open_bytes-nil, open_bytes-here}
use Rattle.uecp_frame.proofs.Delimiters.{open_bytes-later, open_bytes-other, segment_found-none}
use Rattle.uecp_frame.proofs.Future.{beyond_is, open_beyond-one, found-nil, found-start, found-other, found-none}
use Rattle.uecp_frame.proofs.Future.{progress-part}
use Rattle.uecp_frame.proofs.Pieces.{found_beyond-nil, open_beyond-nil, found_beyond-closed, open_beyond-closed}
use Rattle.uecp_frame.proofs.Pieces.{found_beyond-append, open_beyond-append, comes_after_lem}

-- ---- an FE or an FF
found-fe : found (254 ∷ []) ≡ []
found-fe = found-start 254 [] refl ∙ ap (λ f. f ++ found []) (segment_found-none [] refl) ∙ found-nil

found-ff : found (255 ∷ []) ≡ []
found-ff = found-other 255 [] (λ e. absurd (omega arith)) ∙ found-nil

start_comes : (o : OpenPart) → found_beyond o (254 ∷ []) ≡ closing o [] 254
start_comes o = beyond_is o (254 ∷ []) ∙ ap (λ f. closing o [] 254 ++ f) found-fe ∙ append-nil (closing o [] 254)

pub end_comes : (o : OpenPart) → found_beyond o (255 ∷ []) ≡ closing o [] 255
end_comes o = beyond_is o (255 ∷ []) ∙ ap (λ f. closing o [] 255 ++ f) found-ff ∙ append-nil (closing o [] 255)

pub closing_unended : (o : OpenPart) → closing o [] 254 ≡ unended o
closing_unended Closed = refl
closing_unended (Doomed fault) = refl
closing_unended (Part y) = refl

pub start_found : (o : OpenPart) → found_beyond o (254 ∷ []) ≡ unended o
start_found o = start_comes o ∙ closing_unended o

pub start_opens : (o : OpenPart) → open_beyond o (254 ∷ []) ≡ Part (record { plain = []; rest = [] })
start_opens o =
    open_beyond-one o (254 ∷ []) refl ∙ ap open_from (open_bytes-here 254 [] refl refl) ∙ ap progress unstuffed-nil
    ∙ progress-part (record { plain = []; rest = [] }) refl refl

pub end_closes : (o : OpenPart) → open_beyond o (255 ∷ []) ≡ Closed
end_closes o = open_beyond-one o (255 ∷ []) refl
    ∙ ap open_from (open_bytes-other 255 [] refl (λ e. absurd (omega arith)))

-- after any bytes, an FE or FF ends what they leave open
pub ends_after : (s : List ℕ) (d : ℕ) → is_delimiter d ≡ true
    → found (s ++ d ∷ []) ≡ found s ++ closing (open_part s) [] d
ends_after s d h = (comes_after_lem s (d ∷ [])).found ∙ ap (λ f. found s ++ f) (comes (open_part s))
  where
    comes : (o : OpenPart) → found_beyond o (d ∷ []) ≡ closing o [] d
    comes o = elim (or_cases (d == 254) (d == 255) h) [
      | inl t ↦ (let is = eqb-true d 254 t in ap (λ (n : ℕ). found_beyond o (n ∷ [])) is ∙ start_comes o
          ∙ ap (closing o []) (sym is))
      | inr t ↦ (let is = eqb-true d 255 t in ap (λ (n : ℕ). found_beyond o (n ∷ [])) is ∙ end_comes o
          ∙ ap (closing o []) (sym is))
    ]

-- ---- bytes that are neither
pub none_found : (o : OpenPart) (z : List ℕ) → HasNone z → found_beyond o z ≡ []
none_found o z h = beyond_is o z ∙ ap (λ f. closing_at o (before_delimiter z) f ++ found z) (from_delimiter-none z h)
    ∙ found-none z h

pub other_finds : (s : List ℕ) (b : ℕ) → b ≢ 254 → b ≢ 255 → found (s ++ b ∷ []) ≡ found s
other_finds s b h4 h5 =
    (comes_after_lem s (b ∷ [])).found
    ∙ ap (λ f. found s ++ f) (none_found (open_part s) (b ∷ []) (rw (ne_eqb b 254 h4, ne_eqb b 255 h5)))
    ∙ append-nil (found s)

-- the first k bytes of those before place n
first_at : (z : List ℕ) (P : ℕ → Type 0) (n : ℕ) → ((k : ℕ) → k < n → P (get_or z k 0)) → n ≤ length z → (m : ℕ) → m ≤ n
    → (k : ℕ) → k < length (take m z) → P (get_or (take m z) k 0)
first_at [] P n h fits zero le k l = absurd (omega arith)
first_at [] P n h fits (suc m) le k l = absurd (omega arith)
first_at (b ∷ z) P n h fits zero le k l = absurd (omega arith)
first_at (b ∷ z) P n h fits (suc m) le zero l = h 0 (omega arith)
first_at (b ∷ z) P zero h fits (suc m) le (suc k) l = absurd (omega arith)
first_at (b ∷ z) P (suc n) h fits (suc m) le (suc k) l =
    first_at z P n (λ i below. h (suc i) (omega arith)) (omega arith) m (omega arith) k (omega arith)

none_below : (z : List ℕ) → ((k : ℕ) → k < length z → get_or z k 0 < 254) → HasNone z
none_below [] h = refl
none_below (b ∷ z) h =
    let below : b < 254 = h 0 (omega arith) in
    rw (ne_eqb b 254 (λ e. absurd (omega (arith, below, e))), ne_eqb b 255 (λ e. absurd (omega (arith, below, e))))
    (none_below z (λ k l. h (suc k) (omega arith)))

pub none_in_one : (b : ℕ) → b < 254 → HasNone (b ∷ [])
none_in_one b below =
    rw (ne_eqb b 254 (λ e. absurd (omega (arith, below, e))), ne_eqb b 255 (λ e. absurd (omega (arith, below, e)))) refl

pub none_before : (z : List ℕ) (n : ℕ) → ((k : ℕ) → k < n → get_or z k 0 < 254) → n ≤ length z → (m : ℕ) → m ≤ n
    → HasNone (take m z)
none_before z n h fits m le = none_below (take m z) (first_at z (λ b. b < 254) n h fits m le)

-- ---- where nothing is open, bytes but FE
no_start_found : (z : List ℕ) → ((k : ℕ) → k < length z → get_or z k 0 ≢ 254) → found z ≡ []
no_start_found [] h = found-nil
no_start_found (b ∷ z) h = found-other b z (h 0 (omega arith)) ∙ no_start_found z (λ k l. h (suc k) (omega arith))

no_start_opens : (z : List ℕ) → ((k : ℕ) → k < length z → get_or z k 0 ≢ 254) → open_bytes z ≡ None
no_start_opens [] h = open_bytes-nil
no_start_opens (b ∷ z) h = elim (cases_Bool (list_any is_delimiter z)) [
  | inl t ↦ open_bytes-later b z t ∙ no_start_opens z (λ k l. h (suc k) (omega arith))
  | inr f ↦ open_bytes-other b z f (h 0 (omega arith))
]

pub skipped_found : (z : List ℕ) (n : ℕ) → ((k : ℕ) → k < n → get_or z k 0 ≢ 254) → n ≤ length z → (m : ℕ) → m ≤ n
    → found_beyond Closed (take m z) ≡ []
skipped_found z n h fits m le = found_beyond-closed (take m z)
    ∙ no_start_found (take m z) (first_at z (λ b. b ≢ 254) n h fits m le)

pub skipped_left : (z : List ℕ) (n : ℕ) → ((k : ℕ) → k < n → get_or z k 0 ≢ 254) → n ≤ length z
    → open_beyond Closed (take n z) ≡ Closed
skipped_left z n h fits = open_beyond-closed (take n z)
    ∙ ap open_from (no_start_opens (take n z) (first_at z (λ b. b ≢ 254) n h fits n (omega arith)))

-- ---- one step
one_taken : (rest : List ℕ) → 0 < length rest → take 1 rest ≡ get_or rest 0 0 ∷ []
one_taken [] h = absurd (omega arith)
one_taken (b ∷ rest) h = refl

pub takes_one : (o : OpenPart) (rest : List ℕ) (answer : Found) (new : OpenPart) → 0 < length rest →
    found_beyond o (get_or rest 0 0 ∷ []) ≡ findings_of answer → open_beyond o (get_or rest 0 0 ∷ []) ≡ new
    → Takes o rest (record { used = 1; found = answer }) new
takes_one o rest answer new h finds leaves = record {
  some = omega arith;
  fits = omega arith;
  answer = ap (found_beyond o) (one_taken rest h) ∙ finds;
  first = λ k l. let e : k ≡ 0 = omega arith in ap (λ (n : ℕ). found_beyond o (take n rest)) e ∙ found_beyond-nil o;
  left = ap (open_beyond o) (one_taken rest h) ∙ leaves;
}

pub takes_run : (o : OpenPart) (rest : List ℕ) (used : ℕ) (new : OpenPart) → 0 < used → used ≤ length rest →
    ((k : ℕ) → k ≤ used → found_beyond o (take k rest) ≡ []) → open_beyond o (take used rest) ≡ new
    → Takes o rest (record { used = used; found = Nothing }) new
takes_run o rest used new some fits finds leaves = record {
  some = some;
  fits = fits;
  answer = finds used (omega arith);
  first = λ k l. finds k (omega arith);
  left = leaves;
}

-- a first step that uses the whole piece, or comes to a finding
pub feeds_step : (o : OpenPart) (piece : List ℕ) (fed : Fed) (new : OpenPart) → Takes o piece fed new →
    (fed.found ≡ Nothing → length piece ≤ fed.used) → Feeds o piece fed new
feeds_step o piece fed new takes all = record {
  used = takes.fits;
  answer = takes.answer;
  first = takes.first;
  all = λ none. omega (arith, takes.fits, all none);
  left = takes.left;
}

-- ---- a piece, step after step
-- Up to place i of the piece nothing was found.
pub record Quiet (o : OpenPart) (piece : List ℕ) (i : ℕ) (left : OpenPart) : Type 0 where
  pub fits : i ≤ length piece
  pub is_left : open_beyond o (take i piece) ≡ left
  pub nothing : (k : ℕ) → k ≤ i → found_beyond o (take k piece) ≡ []

on_found : (o : OpenPart) (piece : List ℕ) (i : ℕ) (left : OpenPart) → Quiet o piece i left → (k : ℕ)
    → found_beyond o (take (i + k) piece) ≡ found_beyond left (take k (drop i piece))
on_found o piece i left quiet k =
    ap (found_beyond o) (take-add i k piece) ∙ found_beyond-append o (take i piece) (take k (drop i piece))
    ∙ ap (λ f. f ++ found_beyond (open_beyond o (take i piece)) (take k (drop i piece))) (quiet.nothing i (omega arith))
    ∙ ap (λ p. found_beyond p (take k (drop i piece))) quiet.is_left

on_left : (o : OpenPart) (piece : List ℕ) (i : ℕ) (left : OpenPart) → Quiet o piece i left → (k : ℕ)
    → open_beyond o (take (i + k) piece) ≡ open_beyond left (take k (drop i piece))
on_left o piece i left quiet k =
    ap (open_beyond o) (take-add i k piece) ∙ open_beyond-append o (take i piece) (take k (drop i piece))
    ∙ ap (λ p. open_beyond p (take k (drop i piece))) quiet.is_left

before_on : (o : OpenPart) (piece : List ℕ) (i : ℕ) (left new : OpenPart) (fed : Fed) → Quiet o piece i left
    → Takes left (drop i piece) fed new →
    (k : ℕ) → k < i + fed.used → found_beyond o (take k piece) ≡ []
before_on o piece i left new fed quiet takes k l = elim (cases_lt i k) [
  | inr le ↦ quiet.nothing k le
  | inl gt ↦ (let e : k ≡ i + (k - i) = omega arith in
      ap (λ (n : ℕ). found_beyond o (take n piece)) e ∙ on_found o piece i left quiet (k - i)
      ∙ takes.first (k - i) (omega arith))
]

pub quiet_on : (o : OpenPart) (piece : List ℕ) (i : ℕ) (left new : OpenPart) (fed : Fed) → Quiet o piece i left
    → Takes left (drop i piece) fed new →
    fed.found ≡ Nothing → Quiet o piece (i + fed.used) new
quiet_on o piece i left new fed quiet takes none = record {
  fits = omega (arith, quiet.fits, takes.fits, length-drop i piece);
  is_left = on_left o piece i left quiet fed.used ∙ takes.left;
  nothing = λ k le. elim (cases_eq k (i + fed.used)) [
    | inl e ↦ ap (λ (n : ℕ). found_beyond o (take n piece)) e ∙ on_found o piece i left quiet fed.used ∙ takes.answer
        ∙ ap findings_of none
    | inr ne ↦ before_on o piece i left new fed quiet takes k (omega arith)
  ];
}

pub quiet_none : (o : OpenPart) (piece : List ℕ) → Quiet o piece 0 o
quiet_none o piece = record {
  fits = omega arith;
  is_left = open_beyond-nil o;
  nothing = λ k le. let e : k ≡ 0 = omega arith in ap (λ n. found_beyond o (take n piece)) e ∙ found_beyond-nil o;
}

pub feeds_nothing : (o : OpenPart) (piece : List ℕ) (used : ℕ) (new : OpenPart) → Quiet o piece used new
    → length piece ≤ used → Feeds o piece (record { used = used; found = Nothing }) new
feeds_nothing o piece used new quiet all = record {
  used = quiet.fits;
  answer = quiet.nothing used (omega arith);
  first = λ k h. quiet.nothing k (omega arith);
  all = λ h. omega (arith, quiet.fits);
  left = quiet.is_left;
}

pub feeds_on : (o : OpenPart) (piece : List ℕ) (i : ℕ) (left new : OpenPart) (fed : Fed) → Quiet o piece i left
    → Takes left (drop i piece) fed new →
    (fed.found ≡ Nothing → ⊥) → Feeds o piece (record { used = i + fed.used; found = fed.found }) new
feeds_on o piece i left new fed quiet takes some = record {
  used = omega (arith, quiet.fits, takes.fits, length-drop i piece);
  answer = on_found o piece i left quiet fed.used ∙ takes.answer;
  first = before_on o piece i left new fed quiet takes;
  all = λ e. absurd (some e);
  left = on_left o piece i left quiet fed.used ∙ takes.left;
}

-- from the open part alone to the bytes before it
pub feeds_after : (s piece : List ℕ) (o : OpenPart) (fed : Fed) (new : OpenPart) → open_part s ≡ o
    → Feeds o piece fed new → FeedsAfter s piece fed new
feeds_after s piece o fed new same feeds = record {
  used = feeds.used;
  answer = (comes_after_lem s (take fed.used piece)).found
      ∙ ap (λ p. found s ++ found_beyond p (take fed.used piece)) same ∙ ap (λ f. found s ++ f) feeds.answer;
  first = λ k h. (comes_after_lem s (take k piece)).found ∙ ap (λ p. found s ++ found_beyond p (take k piece)) same
      ∙ ap (λ f. found s ++ f) (feeds.first k h) ∙ append-nil (found s);
  all = feeds.all;
  left = (comes_after_lem s (take fed.used piece)).left ∙ ap (λ p. open_beyond p (take fed.used piece)) same
      ∙ feeds.left;
}
