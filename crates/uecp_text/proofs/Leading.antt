-- Output that grows by parts, up to what is to be said in all.
use Rattle.std.proofs.Common.{◌≡◌, List, ℕ, [], ◌++◌, IsTrue, ◌∙◌, sym, ap, append_assoc, append-nil}
use Rattle.uecp_text.specs.Written.{Kept, Adds}

-- Where the output is whole, what is left leads to the whole that is to be added.
abbrev pub Leads : (before after : Kept) (left whole : List ℕ) → Type 0
Leads before after left whole = IsTrue after.is_whole
    → IsTrue before.is_whole × (after.bytes ++ left ≡ before.bytes ++ whole)

pub leads_on : (a b c : Kept) (x left rest whole : List ℕ) → Leads a b left whole → left ≡ x ++ rest → Adds b c x
    → Leads a c rest whole
leads_on a b c x left rest whole leads left_is adds = λ w.
    let more = adds w in
    let so_far = leads more.0 in (
      so_far.0,
      ap (λ bytes. bytes ++ rest) more.1 ∙ append_assoc b.bytes x rest ∙ ap (λ l. b.bytes ++ l) (sym left_is)
          ∙ so_far.1,
    )

pub leads_end : (a b : Kept) (left whole : List ℕ) → Leads a b left whole → left ≡ [] → Adds a b whole
leads_end a b left whole leads left_is = λ w.
    let so_far = leads w in
    (so_far.0, sym (append-nil b.bytes) ∙ ap (λ l. b.bytes ++ l) (sym left_is) ∙ so_far.1)

pub leads_from : (a b : Kept) (x left whole : List ℕ) → Adds a b x → whole ≡ x ++ left → Leads a b left whole
leads_from a b x left whole adds whole_is = λ w.
    let first = adds w in
    (first.0, ap (λ bytes. bytes ++ left) first.1 ∙ append_assoc a.bytes x left ∙ ap (λ l. a.bytes ++ l) (sym whole_is))

pub adds_then : (a b c : Kept) (x y : List ℕ) → Adds a b x → Adds b c y → Adds a c (x ++ y)
adds_then a b c x y p q = λ w.
    let second = q w in
    let first = p second.0 in
    (first.0, second.1 ∙ ap (λ bytes. bytes ++ y) first.1 ∙ append_assoc a.bytes x y)
