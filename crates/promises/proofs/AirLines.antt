-- What a text shows whose places are known, or may be.
use Rattle.std.proofs.Common.{◌≡◌, ℕ, zero, suc, ◌+◌, ◌<◌, ◌≤◌, Bool, true, false, List, [], ◌∷◌, length, get_or}
use Rattle.std.proofs.Common.{Option, Some, None, refl, ap, sym, ◌∙◌, subst, arith, inl, inr, if◌then◌else◌, ◌==◌}
use Rattle.std.specs.Prelude.{IfSome}
use Rattle.std.proofs.Math.ListN.{get_or-append}
use Rattle.std.proofs.Math.Seq.{get_or-append_seam}
use Rattle.std.proofs.lemmas.Grind.{get_or_default_zero}
use Rattle.rds_groups.specs.Shown.{Receiver, Heard, line, before, is_return, text_shown}
use Rattle.carousel.specs.Next.{sent}
use Rattle.promises.specs.AirLaws.{up_to_return}
use Rattle.promises.proofs.AirHearing.{MayHold}

-- ---- Known places.
abbrev Holds : Heard → (first : ℕ) → List ℕ → Type 0
Holds heard first xs = (p : ℕ) → p < length xs → heard (first + p) ≡ Some (get_or xs p 0)

head_holds : (heard : Heard) (first x : ℕ) (xs : List ℕ) → Holds heard first (x ∷ xs) → heard first ≡ Some x
head_holds heard first x xs h = ap heard (omega arith) ∙ h 0 (omega arith)

tail_holds : (heard : Heard) (first x : ℕ) (xs : List ℕ) → Holds heard first (x ∷ xs) → Holds heard (first + 1) xs
tail_holds heard first x xs h p within = ap heard (omega arith) ∙ h (suc p) (omega arith)

line_shown : (xs : List ℕ) (count first : ℕ) (heard : Heard) → length xs ≤ count → Holds heard first xs
    → (length xs < count → heard (first + length xs) ≡ Some 0x0D) → line count first heard ≡ Some (up_to_return xs)
line_shown [] zero first heard fits h end = refl
line_shown [] (suc count) first heard fits h end =
    let e : heard first ≡ Some 0x0D = ap heard (omega arith) ∙ end (omega arith) in
    ap (λ o. if is_return o then Some [] else before o (line count (first + 1) heard)) e
line_shown (x ∷ xs) zero first heard fits h end = absurd (omega arith)
line_shown (x ∷ xs) (suc count) first heard fits h end =
    ap (λ o. if is_return o then Some [] else before o (line count (first + 1) heard)) (head_holds heard first x xs h)
    ∙ ap (λ o. if x == 0x0D then Some [] else before (Some x) o)
    (line_shown xs count (first + 1) heard (omega arith) (tail_holds heard first x xs h)
    (λ more. ap heard (omega arith) ∙ end (omega arith)))
    ∙ shown (x == 0x0D)
  where
    shown : (b : Bool) → (if b then Some [] else Some (x ∷ up_to_return xs))
        ≡ Some (if b then [] else x ∷ up_to_return xs)
    shown true = refl
    shown false = refl

pub text_is_up_to_return : (bytes : List ℕ) (r : Receiver) → length bytes ≤ 64 → r.is_short ≡ false
    → ((p : ℕ) → p ≤ length bytes → p < 64 → r.text p ≡ Some (sent bytes p)) → text_shown r ≡ Some (up_to_return bytes)
unfolding text_shown
text_is_up_to_return bytes r short long at =
    ap (λ b. line (if b then 32 else 64) 0 r.text) long
    ∙ line_shown bytes 64 0 r.text short
    (λ p within.
    ap r.text (omega arith) ∙ at p (omega arith) (omega arith)
    ∙ ap (λ (n : ℕ). Some n) (get_or-append bytes (0x0D ∷ []) 0x20 p within ∙ get_or_default_zero bytes p 0x20 within))
    (λ more.
    ap r.text (omega arith) ∙ at (length bytes) (omega arith) more
    ∙ ap (λ (n : ℕ). Some n) (get_or-append_seam bytes 0x0D [] 0x20))

-- ---- Places that may be known.
shown_head : (x : ℕ) (o : Option (List ℕ)) (ys : List ℕ) (b : Bool) → IfSome o (λ text. text ≡ ys)
    → IfSome (if b then Some [] else before (Some x) o) (λ text. text ≡ (if b then [] else x ∷ ys))
shown_head x o ys true h = refl
shown_head x None ys false h = tt
shown_head x (Some zs) ys false h = ap (λ xs. x ∷ xs) h

part_shown : (xs : List ℕ) (count first : ℕ) (heard : Heard) → length xs ≤ count
    → ((p : ℕ) → p < length xs → MayHold (heard (first + p)) (get_or xs p 0))
    → (length xs < count → MayHold (heard (first + length xs)) 0x0D)
    → IfSome (line count first heard) (λ text. text ≡ up_to_return xs)
part_shown [] zero first heard fits h end = refl
part_shown [] (suc count) first heard fits h end =
    let at : first + 0 ≡ first = omega arith in
    let rest = line count (first + 1) heard in
    let step = λ (o : Option ℕ). if is_return o then Some [] else before o rest in
    elim (subst (λ (n : ℕ). MayHold (heard n) 0x0D) at (end (omega arith))) [
      | inl none ↦ subst (λ (o : Option ℕ). IfSome (step o) (λ text. text ≡ [])) (sym none) tt
      | inr some ↦ subst (λ (o : Option ℕ). IfSome (step o) (λ text. text ≡ [])) (sym some) refl
    ]
part_shown (x ∷ xs) zero first heard fits h end = absurd (omega arith)
part_shown (x ∷ xs) (suc count) first heard fits h end =
    let at : first + 0 ≡ first = omega arith in
    let rest = line count (first + 1) heard in
    let step = λ (o : Option ℕ). if is_return o then Some [] else before o rest in
    elim (subst (λ (n : ℕ). MayHold (heard n) x) at (h 0 (omega arith))) [
      | inl none ↦ subst (λ (o : Option ℕ). IfSome (step o) (λ text. text ≡ up_to_return (x ∷ xs))) (sym none) tt
      | inr some ↦ subst (λ (o : Option ℕ). IfSome (step o) (λ text. text ≡ up_to_return (x ∷ xs))) (sym some)
          (shown_head x rest (up_to_return xs) (x == 0x0D)
          (part_shown xs count (first + 1) heard (omega arith)
          (λ p within.
          let e : first + suc p ≡ first + 1 + p = omega arith in
          subst (λ (n : ℕ). MayHold (heard n) (get_or xs p 0)) e (h (suc p) (omega arith)))
          (λ more.
          let e : first + suc (length xs) ≡ first + 1 + length xs = omega arith in
          subst (λ (n : ℕ). MayHold (heard n) 0x0D) e (end (omega arith)))))
    ]

pub text_may_show : (bytes : List ℕ) (r : Receiver) → length bytes ≤ 64 → r.is_short ≡ false
    → ((p : ℕ) → MayHold (r.text p) (sent bytes p)) → IfSome (text_shown r) (λ text. text ≡ up_to_return bytes)
unfolding text_shown
text_may_show bytes r short long at =
    subst (λ b. IfSome (line (if b then 32 else 64) 0 r.text) (λ text. text ≡ up_to_return bytes)) (sym long)
    (part_shown bytes 64 0 r.text short
    (λ p within.
    let e : p ≡ 0 + p = omega arith in
    let f : sent bytes p ≡ get_or bytes p 0 =
    get_or-append bytes (0x0D ∷ []) 0x20 p within ∙ get_or_default_zero bytes p 0x20 within in
    subst (λ (n : ℕ). MayHold (r.text n) (get_or bytes p 0)) e (subst (MayHold (r.text p)) f (at p)))
    (λ more.
    let e : length bytes ≡ 0 + length bytes = omega arith in
    subst (λ (n : ℕ). MayHold (r.text n) 0x0D) e
    (subst (MayHold (r.text (length bytes))) (get_or-append_seam bytes 0x0D [] 0x20) (at (length bytes)))))
