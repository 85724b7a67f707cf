-- The first item of a message's one reading.
use Rattle.std.proofs.Common.{◌≡◌, ℕ, List, [], ◌∷◌, ◌++◌, refl, ◌∙◌, ap, sym, subst, arith, Option, Some, None}
use Rattle.std.proofs.Common.{length, length-append, append_assoc, Ok, Err}
use Rattle.std.specs.Prelude.{flat_map}
use Rattle.uecp_elements.specs.declared.fault.ElementFault.{ElementFault}
use Rattle.uecp_elements.specs.Codes.{byte_of}
use Rattle.uecp_elements.specs.Grammar.{Element, spelling, IsElement, Spells, BeginsWithNone, Reads}
use Rattle.uecp_elements.specs.Reading.{Item, items_of, IsRead}
use Rattle.uecp_elements.proofs.Public.{spelling_some}
use Rattle.uecp_c.specs.Elements.{fault_byte}

-- what an element's spelling at the front is
pub record IsFirst (m : List ℕ) (e : Element) : Type 0 where
  pub element : IsElement e
  pub more : List ℕ
  pub whole : m ≡ spelling e ++ more

-- no item is both an element and a fault
no_fault : {fault : ElementFault} {e : Element} {a b : List Item} → Err fault ∷ a ≡ Ok e ∷ b → ⊥
no_fault e = absurd (cc)

no_items : {e : Item} {b : List Item} → [] ≡ e ∷ b → ⊥
no_items e = absurd (cc)

-- ---- an element
element_by : (m : List ℕ) (elements : List Element) (fault : Option ElementFault) (e : Element) (more : List Item)
    → Reads m (record { elements = elements; fault = fault })
    → items_of (record { elements = elements; fault = fault }) ≡ Ok e ∷ more → IsFirst m e
element_by m [] None e more reads is = absurd (no_items is)
element_by m [] (Some fault) e more reads is = absurd (no_fault is)
element_by m (d ∷ elements) fault e more reads is =
    let same : d ≡ e = cc in
    let rest = flat_map spelling elements ++ reads.rest in
    let first : IsFirst m d = record {
      element = reads.each.0;
      more = rest;
      whole = reads.joined ∙ append_assoc (spelling d) (flat_map spelling elements) reads.rest;
    } in
    subst (IsFirst m) same first

pub element_first : (m : List ℕ) (given : List Item) (e : Element) (more : List Item) → IsRead m given
    → given ≡ Ok e ∷ more → IsFirst m e
element_first m given e more read is =
    element_by m read.0.elements read.0.fault e more read.1 (sym read.2 ∙ is)

-- ---- a fault
pub record IsNone (m : List ℕ) (said : ℕ) : Type 0 where
  pub none : BeginsWithNone m
  pub code : said ≡ fault_byte m

fault_by : (m : List ℕ) (elements : List Element) (fault : Option ElementFault) (f : ElementFault) (more : List Item)
    → Reads m (record { elements = elements; fault = fault })
    → items_of (record { elements = elements; fault = fault }) ≡ Err f ∷ more → IsNone m (byte_of f.code)
fault_by m [] None f more reads is = absurd (no_items is)
fault_by m [] (Some fault) f more reads is =
    let same : fault ≡ f = cc in
    let end = reads.end in
    let first : IsNone reads.rest (byte_of fault.code) = record { none = end.1; code = ap byte_of end.3 } in
    subst (λ g. IsNone m (byte_of g.code)) same
    (subst (λ r. IsNone r (byte_of fault.code)) (sym reads.joined) first)
fault_by m (d ∷ elements) fault f more reads is = absurd (no_fault (sym is))

pub fault_first : (m : List ℕ) (given : List Item) (f : ElementFault) (more : List Item) → IsRead m given
    → given ≡ Err f ∷ more → IsNone m (byte_of f.code)
fault_first m given f more read is =
    fault_by m read.0.elements read.0.fault f more read.1 (sym read.2 ∙ is)

-- ---- nothing
nothing_by : (m : List ℕ) (elements : List Element) (fault : Option ElementFault)
    → Reads m (record { elements = elements; fault = fault })
    → items_of (record { elements = elements; fault = fault }) ≡ [] → m ≡ []
nothing_by m [] None reads is = reads.joined ∙ reads.end
nothing_by m [] (Some fault) reads is = absurd (no_items (sym is))
nothing_by m (d ∷ elements) fault reads is = absurd (no_items (sym is))

none_of_none : (e : Element) (bytes more : List ℕ) → Spells e bytes → [] ≡ bytes ++ more → ⊥
none_of_none e bytes more spells is =
    let long = ap length (is ∙ ap (λ b. b ++ more) spells.1) ∙ length-append (spelling e) more in
    absurd (omega (arith, long, spelling_some e))

pub nothing_first : (m : List ℕ) (given : List Item) → IsRead m given → given ≡ [] → IsNone m 3
nothing_first m given read is =
    let none : IsNone [] 3 = record { none = none_of_none; code = refl } in
    subst (λ m. IsNone m 3) (sym (nothing_by m read.0.elements read.0.fault read.1 (sym read.2 ∙ is))) none
