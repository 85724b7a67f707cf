-- What a receiver is after a whole group of a service, and after a part of one.
use Rattle.std.proofs.Common.{◌≡◌, ◌≢◌, ◌⊎◌, ℕ, zero, suc, ◌+◌, ◌*◌, ◌/◌, ◌%◌, ◌<◌, Bool, true, false, not, List, []}
use Rattle.std.proofs.Common.{◌∷◌, Option, Some, None, refl, ap, sym, ◌∙◌, subst, arith, ◌&&◌, if◌then◌else◌, inl, inr}
use Rattle.std.specs.List.{All}
use Rattle.std.specs.Prelude.{slice_get}
use Rattle.std.proofs.lemmas.Bool.{cases_eq, eq-eqb, ne_eqb}
use Rattle.rds_groups.specs.Groups.{pair, characters, blocks}
use Rattle.rds_groups.specs.declared.group.Group.{Group}
use Rattle.rds_store.specs.Value.{ServiceData}
use Rattle.rds_store.specs.declared.group.Group.{Group as StoredGroup}
use Rattle.rds_groups.specs.declared.heard.HeardGroup.{HeardGroup}
use Rattle.rds_groups.specs.Heard.{whole, came}
use Rattle.rds_groups.specs.ReceiverLaws.{IsPartOf, IsRightOrMissing}
use Rattle.rds_groups.proofs.Public.{comes_whole}
use Rattle.rds_groups.specs.Shown.{Receiver, Heard, hears_own, told, identified, joined, shown_with, placed, left_of}
use Rattle.rds_groups.specs.Shown.{is_same, nothing}
use Rattle.carousel.specs.Carousel.{Carousel}
use Rattle.carousel.specs.Next.{name_group, text_group, free_group, sent}
use Rattle.promises.specs.OnAir.{IsService, IsOther}
use Rattle.promises.proofs.Words.{tuned_to, name_at, name_two, text_told, told_name, told_text, told_free, two_back}
use Rattle.promises.proofs.Words.{byte_at, sent_byte, name_words, text_words, free_words}

-- what block 1 and 2 of each group of the service tell
abbrev pub known : ServiceData → Receiver → Receiver
known s r = tuned_to s (record r { pi = Some s.pi })

abbrev pub named_now : ServiceData → ℕ → Receiver → Receiver
named_now s i r = shown_with (joined i r.coming (name_two s i))
    (record (known s r) { ta = Some s.ta; music = Some s.music })

abbrev pub texted_now : ServiceData → Carousel → Receiver → Receiver
texted_now s c r = text_told s c (Some (text_group s c).block3) (Some (text_group s c).block4)
    (record r { pi = Some s.pi })

-- ---- Whole groups.
pub hears_name : (s : ServiceData) (i : ℕ) (r : Receiver) → IsService s → i < 4
    → hears_own (came (blocks (name_group s i))) r ≡ named_now s i r
hears_name s i r ok small =
    ap (λ (h : HeardGroup). hears_own h r) (comes_whole (name_group s i) (name_words s i ok small))
    ∙ told_name s i (whole (name_group s i)) (record r { pi = Some s.pi }) ok small
    ∙ ap (λ two. shown_with (joined i r.coming two) (record (known s r) { ta = Some s.ta; music = Some s.music }))
    (two_back (name_at s (2 * i + 0)) (name_at s (2 * i + 1)) (byte_at s.ps 0 (2 * i + 1) (omega arith) ok.are_bytes))

pub hears_text : (s : ServiceData) (c : Carousel) (r : Receiver) → IsService s → c.text_segment < 16
    → All (λ byte. byte < 256) c.text → hears_own (came (blocks (text_group s c))) r ≡ texted_now s c r
hears_text s c r ok small are_bytes =
    ap (λ (h : HeardGroup). hears_own h r) (comes_whole (text_group s c) (text_words s c ok small are_bytes))
    ∙ told_text s c (whole (text_group s c)) (record r { pi = Some s.pi }) ok small

pub hears_free : (s : ServiceData) (g : StoredGroup) (r : Receiver) → IsService s → IsOther g
    → hears_own (came (blocks (free_group s g))) r ≡ known s r
hears_free s g r ok other =
    ap (λ (h : HeardGroup). hears_own h r) (comes_whole (free_group s g) (free_words s g ok other))
    ∙ told_free s g (whole (free_group s g)) (record r { pi = Some s.pi }) ok other

-- ---- A part of a group.
pub hears_part : (Before After : Receiver → Type 0) (g : Group) (h : HeardGroup) (r : Receiver) → IsPartOf g h
    → Before r
    → ((q : Receiver) → Before q → Before (record q { pi = Some g.block1 }))
    → ((q : Receiver) → Before q → After (record q { coming = [] }))
    → ((q : Receiver) → Before q → After (told (Some g.block2) h q))
    → After (hears_own h r)
hears_part Before After g h r part before identifies loses tells =
    let q = identified h.block1 r in
    let first : Before q = elim part.block1 [
      | inl e ↦ subst (λ (o : Option ℕ). Before (identified o r)) (sym e) (identifies r before)
      | inr e ↦ subst (λ (o : Option ℕ). Before (identified o r)) (sym e) before
    ] in
    elim part.block2 [
      | inl e ↦ subst (λ (o : Option ℕ). After (told o h q)) (sym e) (tells q first)
      | inr e ↦ subst (λ (o : Option ℕ). After (told o h q)) (sym e) (loses q first)
    ]

-- ---- The places of a text.
pub of_two : (f : ℕ → ℕ) (base p k : ℕ) → k < 2 → base + k ≡ p
    → slice_get (f (base + 0) ∷ f (base + 1) ∷ []) k ≡ Some (f p)
of_two f base p zero h e = ap (λ (n : ℕ). Some (f n)) e
of_two f base p (suc zero) h e = ap (λ (n : ℕ). Some (f n)) e
of_two f base p (suc (suc k)) h e = absurd (omega arith)

inside : (i : ℕ) (word : ℕ) (old : Heard) (p : ℕ) → p / 2 ≡ i
    → placed i (Some word) old p ≡ slice_get (characters word) (p % 2)
inside i word old p h = ap (λ b. if b then slice_get (characters word) (p % 2) else old p) (eq-eqb (p / 2) i h)

outside : (i : ℕ) (block : Option ℕ) (old : Heard) (p : ℕ) → p / 2 ≢ i → placed i block old p ≡ old p
outside i None old p h = refl
outside i (Some word) old p h = ap (λ b. if b then slice_get (characters word) (p % 2) else old p) (ne_eqb (p / 2) i h)

-- a pair of characters of a text, whose other places are as before
pair_comes : (bytes : List ℕ) (i base p : ℕ) (old : Heard) → All (λ byte. byte < 256) bytes → base ≡ 2 * i → p / 2 ≡ i
    → placed i (Some (pair (sent bytes (base + 0)) (sent bytes (base + 1)))) old p ≡ Some (sent bytes p)
pair_comes bytes i base p old are_bytes e h =
    inside i (pair (sent bytes (base + 0)) (sent bytes (base + 1))) old p h
    ∙ ap (λ two. slice_get two (p % 2)) (two_back (sent bytes (base + 0)) (sent bytes (base + 1))
    (sent_byte bytes (base + 1) are_bytes))
    ∙ of_two (sent bytes) base p (p % 2) (omega arith) (omega arith)

-- a place that was not heard, or holds this character
abbrev pub MayHold : Option ℕ → ℕ → Type 0
MayHold heard x = (heard ≡ None) ⊎ (heard ≡ Some x)

-- a pair that came or is missing brings nothing else
pub pair_may : (bytes : List ℕ) (i base p : ℕ) (block : Option ℕ) (old : Heard) → All (λ byte. byte < 256) bytes
    → base ≡ 2 * i
    → IsRightOrMissing (pair (sent bytes (base + 0)) (sent bytes (base + 1))) block → MayHold (old p) (sent bytes p)
    → MayHold (placed i block old p) (sent bytes p)
pair_may bytes i base p block old are_bytes e (inr missing) before =
    subst (λ (o : Option ℕ). MayHold (placed i o old p) (sent bytes p)) (sym missing) before
pair_may bytes i base p block old are_bytes e (inl right) before =
    subst (λ (o : Option ℕ). MayHold (placed i o old p) (sent bytes p)) (sym right)
    (elim (cases_eq (p / 2) i) [
      | inl here ↦ inr (pair_comes bytes i base p old are_bytes e here)
      | inr there ↦
          subst (λ (o : Option ℕ). MayHold o (sent bytes p))
          (sym (outside i (Some (pair (sent bytes (base + 0)) (sent bytes (base + 1)))) old p there)) before
    ])

-- what is at a place after a segment whose blocks came
pub text_comes : (s : ServiceData) (c : Carousel) (p : ℕ) (r : Receiver) → All (λ byte. byte < 256) c.text
    → p / 4 ≡ c.text_segment → (texted_now s c r).text p ≡ Some (sent c.text p)
text_comes s c p r are_bytes h =
    let i = c.text_segment in
    let old = left_of c.flag false r in
    let first = placed (2 * i) (Some (text_group s c).block3) old in
    elim (cases_eq (p / 2) (2 * i + 1)) [
      | inl second ↦
          let g2 : 4 * i + 2 ≡ 4 * i + 2 + 0 = omega arith in
          let g3 : 4 * i + 3 ≡ 4 * i + 2 + 1 = omega arith in
          ap (λ (n : ℕ). placed (2 * i + 1) (Some (pair (sent c.text n) (sent c.text (4 * i + 3)))) first p) g2
          ∙ ap (λ (n : ℕ). placed (2 * i + 1) (Some (pair (sent c.text (4 * i + 2 + 0)) (sent c.text n))) first p) g3
          ∙ pair_comes c.text (2 * i + 1) (4 * i + 2) p first are_bytes (omega arith) second
      | inr not_second ↦
          outside (2 * i + 1) (Some (text_group s c).block4) first p not_second
          ∙ pair_comes c.text (2 * i) (4 * i) p old are_bytes (omega arith) (omega arith)
    ]

pub text_stays : (s : ServiceData) (c : Carousel) (block3 block4 : Option ℕ) (p : ℕ) (r : Receiver)
    → p / 4 ≢ c.text_segment → (text_told s c block3 block4 r).text p ≡ left_of c.flag false r p
text_stays s c block3 block4 p r h =
    let i = c.text_segment in
    outside (2 * i + 1) block4 (placed (2 * i) block3 (left_of c.flag false r)) p (λ e. h (omega arith))
    ∙ outside (2 * i) block3 (left_of c.flag false r) p (λ e. h (omega arith))

same : (a b : Bool) → a ≡ b → is_same a b ≡ true
same true b h = sym h
same false b h = ap not (sym h)

-- what was heard of a text with this flag is left
pub left_same : (flag : Bool) (r : Receiver) → r.flag ≡ flag → r.is_short ≡ false → left_of flag false r ≡ r.text
left_same flag r e long =
    ap (λ b. if b && is_same r.is_short false then r.text else nothing) (same r.flag flag e)
    ∙ ap (λ b. if true && b then r.text else nothing) (same r.is_short false long)
