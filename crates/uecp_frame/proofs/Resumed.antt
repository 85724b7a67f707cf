-- How the reading of a byte list goes on when more bytes come.
use Rattle.std.proofs.Common.{◌≡◌, ◌≢◌, ◌<◌, ◌≤◌, ◌+◌, ◌*◌, ◌==◌, ℕ, true, false, List, [], ◌∷◌, ◌++◌, refl, ◌∙◌, ap}
use Rattle.std.proofs.Common.{sym, subst, length, arith, append_assoc, length-append, inl, inr, lit<}
use Rattle.std.specs.List.{list_any}
use Rattle.std.proofs.lemmas.Bool.{cases_eq, cases_lt, eqb-false, or_parts}
use Rattle.uecp_frame.specs.Stuffing.{code, stuffed, unstuffed, Reading, Reads, after, IsNoCode, is_delimiter}
use Rattle.uecp_frame.specs.Findings.{has_two}
use Rattle.uecp_frame.specs.Beyond.{resumed}
use Rattle.uecp_frame.proofs.Codes.{stuffed-append, stuffed-nil, stuffed-one, stuffed-cons, code-plain, code-escaped}
use Rattle.uecp_frame.proofs.Codes.{length-code-le}
use Rattle.uecp_frame.proofs.Reading.{after-after, unstuffed-nil, unstuffed-plain, unstuffed-escaped, unstuffed-stuck}
use Rattle.uecp_frame.proofs.Delimiters.{HasNone}

-- an induction along the codes of a list
pub along_codes :
    (P : List ℕ → Type 0) → P [] →
    ((b : ℕ) (x : List ℕ) → b ≢ 253 → P x → P (b ∷ x)) →
    ((b c : ℕ) (x : List ℕ) → b ≡ 253 → c < 3 → P x → P (b ∷ c ∷ x)) →
    ((x : List ℕ) → IsNoCode x → P x) →
    (x : List ℕ) → P x
along_codes P nil plain escaped stuck [] = nil
along_codes P nil plain escaped stuck (b ∷ []) =
    elim (cases_eq b 253) [ inl e ↦ stuck (b ∷ []) e | inr ne ↦ plain b [] ne nil ]
along_codes P nil plain escaped stuck (b ∷ c ∷ x) =
    elim (cases_eq b 253) [
      | inl e ↦ elim (cases_lt c 3) [
        | inl small ↦ escaped b c x e small (along_codes P nil plain escaped stuck x)
        | inr large ↦ stuck (b ∷ c ∷ x) (e, large)
      ]
      | inr ne ↦ plain b (c ∷ x) ne (along_codes P nil plain escaped stuck (c ∷ x))
    ]

pub unstuffed-append : (x z : List ℕ) → unstuffed (x ++ z) ≡ resumed (unstuffed x) z
unstuffed-append x z =
    along_codes (λ x. unstuffed (x ++ z) ≡ resumed (unstuffed x) z)
    (sym (ap (λ y. resumed y z) unstuffed-nil))
    (λ b x ne so_far. unstuffed-plain b (x ++ z) ne ∙ ap (after (b ∷ [])) so_far
    ∙ sym (ap (λ y. resumed y z) (unstuffed-plain b x ne)))
    (λ b c x e small so_far. unstuffed-escaped b c (x ++ z) e small ∙ ap (after ((253 + c) ∷ [])) so_far
    ∙ sym (ap (λ y. resumed y z) (unstuffed-escaped b c x e small)))
    (λ x stuck. sym (ap (λ y. resumed y z) (unstuffed-stuck x stuck)))
    x

pub resumed-append : (y : Reading) (x z : List ℕ) → resumed y (x ++ z) ≡ resumed (resumed y x) z
resumed-append y x z =
    ap (λ s. after y.plain (unstuffed s)) (sym (append_assoc y.rest x z))
    ∙ ap (after y.plain) (unstuffed-append (y.rest ++ x) z)
    ∙ after-after y.plain (unstuffed (y.rest ++ x)).plain (unstuffed ((unstuffed (y.rest ++ x)).rest ++ z))

-- a reading stops where no code stands
pub rest_is_no_code : (x : List ℕ) → IsNoCode (unstuffed x).rest
rest_is_no_code x =
    along_codes (λ x. IsNoCode (unstuffed x).rest)
    (let P : Reading → Type 0 = λ y. IsNoCode y.rest in subst P (sym unstuffed-nil) tt)
    (λ b x ne so_far. let P : Reading → Type 0 = λ y. IsNoCode y.rest in subst P (sym (unstuffed-plain b x ne)) so_far)
    (λ b c x e small so_far. let P : Reading → Type 0 = λ y. IsNoCode y.rest in
    subst P (sym (unstuffed-escaped b c x e small)) so_far)
    (λ x stuck. let P : Reading → Type 0 = λ y. IsNoCode y.rest in subst P (sym (unstuffed-stuck x stuck)) stuck)
    x

-- two bytes with no code stay so
pub no_code_stays : (r z : List ℕ) → IsNoCode r → has_two r ≡ true → IsNoCode (r ++ z)
no_code_stays [] z h two = cc
no_code_stays (b ∷ []) z h two = absurd (cc)
no_code_stays (b ∷ c ∷ r) z h two = h

pub has_two-append : (r z : List ℕ) → has_two r ≡ true → has_two (r ++ z) ≡ true
has_two-append [] z two = cc
has_two-append (b ∷ []) z two = cc
has_two-append (b ∷ c ∷ r) z two = refl

-- ---- the parts of a reading, joined
code-is : (b : ℕ) → b ≢ 253 → is_delimiter b ≡ false → code b ≡ b ∷ []
code-is b ne h =
    let p = or_parts (b == 254) (b == 255) h in
    code-plain b ne (eqb-false b 254 p.0) (eqb-false b 255 p.1)

stuffed-after : (front : List ℕ) (y : Reading) → stuffed (after front y).plain ++ (after front y).rest ≡ stuffed front
    ++ (stuffed y.plain ++ y.rest)
stuffed-after front y = ap (λ s. s ++ y.rest) (stuffed-append front y.plain)
    ∙ append_assoc (stuffed front) (stuffed y.plain) y.rest

abbrev joined : Reading → List ℕ
joined y = stuffed y.plain ++ y.rest

pub unstuffed-joined : (x : List ℕ) → HasNone x → x ≡ joined (unstuffed x)
unstuffed-joined x =
    along_codes (λ x. HasNone x → x ≡ joined (unstuffed x))
    (λ h. sym (ap joined unstuffed-nil ∙ ap (λ s. s ++ []) stuffed-nil))
    (λ b x ne so_far h.
    let p = or_parts (is_delimiter b) (list_any is_delimiter x) h in
    ap (λ t. b ∷ t) (so_far p.1)
    ∙ sym (ap joined (unstuffed-plain b x ne) ∙ stuffed-after (b ∷ []) (unstuffed x)
    ∙ ap (λ s. s ++ joined (unstuffed x)) (stuffed-one b ∙ code-is b ne p.0)))
    (λ b c x e small so_far h.
    let p = or_parts (is_delimiter b) (list_any is_delimiter (c ∷ x)) h in
    let q = or_parts (is_delimiter c) (list_any is_delimiter x) p.1 in
    ap (λ n. n ∷ c ∷ x) e ∙ ap (λ t. 253 ∷ c ∷ t) (so_far q.1)
    ∙ sym (ap joined (unstuffed-escaped b c x e small) ∙ stuffed-after ((253 + c) ∷ []) (unstuffed x)
    ∙ ap (λ s. s ++ joined (unstuffed x)) (stuffed-one (253 + c) ∙ code-escaped c small)))
    (λ x stuck h. sym (ap joined (unstuffed-stuck x stuck) ∙ ap (λ s. s ++ x) stuffed-nil))
    x

-- what the codes of a byte give is that byte
unstuffed-code : (b : ℕ) (s : List ℕ) → unstuffed (code b ++ s) ≡ after (b ∷ []) (unstuffed s)
unstuffed-code b s =
    elim (cases_eq b 253) [
      | inl e ↦ ap (λ n. unstuffed (code n ++ s)) e ∙ ap (λ t. unstuffed (t ++ s)) (code-escaped 0 (lit< tt))
          ∙ unstuffed-escaped 253 0 s refl (lit< tt) ∙ ap (λ n. after (n ∷ []) (unstuffed s)) (sym e)
      | inr not_fd ↦ elim (cases_eq b 254) [
        | inl e ↦ ap (λ n. unstuffed (code n ++ s)) e ∙ ap (λ t. unstuffed (t ++ s)) (code-escaped 1 (lit< tt))
            ∙ unstuffed-escaped 253 1 s refl (lit< tt) ∙ ap (λ n. after (n ∷ []) (unstuffed s)) (sym e)
        | inr not_fe ↦ elim (cases_eq b 255) [
          | inl e ↦ ap (λ n. unstuffed (code n ++ s)) e ∙ ap (λ t. unstuffed (t ++ s)) (code-escaped 2 (lit< tt))
              ∙ unstuffed-escaped 253 2 s refl (lit< tt) ∙ ap (λ n. after (n ∷ []) (unstuffed s)) (sym e)
          | inr not_ff ↦ ap (λ t. unstuffed (t ++ s)) (code-plain b not_fd not_fe not_ff) ∙ unstuffed-plain b s not_fd
        ]
      ]
    ]

pub unstuffed-stuffed : (u r : List ℕ) → IsNoCode r → unstuffed (stuffed u ++ r) ≡ record { plain = u; rest = r }
unstuffed-stuffed [] r h = ap (λ s. unstuffed (s ++ r)) stuffed-nil ∙ unstuffed-stuck r h
unstuffed-stuffed (b ∷ u) r h =
    ap (λ s. unstuffed (s ++ r)) (stuffed-cons b u) ∙ ap unstuffed (append_assoc (code b) (stuffed u) r)
    ∙ unstuffed-code b (stuffed u ++ r) ∙ ap (after (b ∷ [])) (unstuffed-stuffed u r h)

-- the one reading
pub reads_unstuffed : (x : List ℕ) → HasNone x → Reads x (unstuffed x)
reads_unstuffed x h = record { joined = unstuffed-joined x h; stops = rest_is_no_code x }

pub reads_one : (x : List ℕ) (y : Reading) → Reads x y → unstuffed x ≡ y
reads_one x y reads = ap unstuffed reads.joined ∙ unstuffed-stuffed y.plain y.rest reads.stops

pub length-stuffed-le : (u : List ℕ) → length (stuffed u) ≤ 2 * length u
length-stuffed-le [] = rw stuffed-nil (omega arith)
length-stuffed-le (b ∷ u) =
    rw (stuffed-cons b u, length-append (code b) (stuffed u)) (omega (arith, length-code-le b, length-stuffed-le u))
