-- The items of a message, element by element.
use Rattle.std.proofs.Common.{◌≡◌, ◌≢◌, ◌<◌, ◌≤◌, ◌+◌, ◌-◌, ℕ, zero, suc, Bool, true, false, cond, List, [], ◌∷◌, ◌++◌}
use Rattle.std.proofs.Common.{refl, ◌∙◌, ap, sym, subst, length, drop, get_or, arith, append_assoc, length-append}
use Rattle.std.proofs.Common.{length-drop, Option, Some, None, Result, Ok, Err, inl, inr, ◌⊎◌, map, add-zero}
use Rattle.std.specs.Prelude.{flat_map}
use Rattle.std.specs.List.{AllByRecursion}
use Rattle.std.proofs.Math.Seq.{drop-nil}
use Rattle.std.proofs.lemmas.List.{drop_at, append-nil}
use Rattle.uecp_elements.specs.declared.code.Code.{Code}
use Rattle.uecp_elements.specs.declared.code.Code.TheVariants.{UnknownElement, ElementLength}
use Rattle.uecp_elements.specs.declared.fault.ElementFault.{ElementFault}
use Rattle.uecp_elements.specs.Grammar.{is_known, NoText, Text, Element, Pi, Ps, TaTp, Ms, Pty, Rt, Select, Group, Ack}
use Rattle.uecp_elements.specs.Grammar.{spelling, IsElement, IsPrefixFree, Reading, Reads, EndsWith, AreBytes}
use Rattle.uecp_elements.specs.Reading.{IsItem, first, with_item, items_at, items, items_of, fault_item, HasReading}
use Rattle.uecp_elements.specs.Reading.{HasOneReading}
use Rattle.uecp_elements.proofs.First.{ok, first-spelling, first_takes, first_fault, none_from_fault}

-- ---- equations of the items
pub items-nil : (place : ℕ) → items_at place 0 [] ≡ []
unfolding items_at
items-nil place = refl

items-skip : (place skip : ℕ) (r : List ℕ) → items_at place skip r ≡ items_at (place + skip) 0 (drop skip r)
unfolding items_at
items-skip place skip [] = rw (drop-nil skip) refl
items-skip place zero (b ∷ r) = rw (add-zero place) refl
items-skip place (suc skip) (b ∷ r) = items-skip (place + 1) skip r
    ∙ ap (λ n. items_at n 0 (drop skip r)) (let e : place + 1 + skip ≡ place + suc skip = omega arith in e)

pub spelling_some : (e : Element) → 0 < length (spelling e)
spelling_some (Pi d p n) = omega arith
spelling_some (Ps d p name) = omega arith
spelling_some (TaTp d p b) = omega arith
spelling_some (Ms d p b) = omega arith
spelling_some (Pty d p b) = omega arith
spelling_some (Rt d p NoText) = omega arith
spelling_some (Rt d p (Text head text)) = omega arith
spelling_some (Select d) = omega arith
spelling_some (Group t m x y) = omega arith
spelling_some (Ack c n) = omega arith

drop_behind : (n b : ℕ) (r : List ℕ) → 0 < n → drop (n - 1) r ≡ drop n (b ∷ r)
drop_behind zero b r h = absurd (omega arith)
drop_behind (suc n) b r h = ap (λ k. drop k r) (let e : suc n - 1 ≡ n = omega arith in e)

pub items-first : (place : ℕ) (r : List ℕ) (e : Element) → 0 < length r → first r ≡ Ok e →
    items_at place 0 r ≡ Ok e ∷ items_at (place + length (spelling e)) 0 (drop (length (spelling e)) r)
unfolding items_at
items-first place [] e some h = absurd (omega arith)
items-first place (b ∷ r) e some h =
    let n : ℕ = length (spelling e) in
    let next : place + 1 + (n - 1) ≡ place + n = omega (arith, spelling_some e) in
    ap (λ z. with_item place z (λ skip. items_at (place + 1) skip r)) h
    ∙ ap (λ t. Ok e ∷ t) (items-skip (place + 1) (n - 1) r ∙ ap (λ k. items_at k 0 (drop (n - 1) r)) next
    ∙ ap (items_at (place + n) 0) (drop_behind n b r (spelling_some e)))

pub items-fault : (place : ℕ) (r : List ℕ) (code : Code) → 0 < length r → first r ≡ Err code →
    items_at place 0 r ≡ Err (record { place = place; code = code }) ∷ []
unfolding items_at
items-fault place [] code some h = absurd (omega arith)
items-fault place (b ∷ r) code some h = ap (λ z. with_item place z (λ skip. items_at (place + 1) skip r)) h

-- ---- a message has a reading
-- the bytes r, the last ones of len, read so
pub record ReadsTo (len : ℕ) (r : List ℕ) (x : Reading) : Type 0 where
  pub rest : List ℕ
  pub each : AllByRecursion IsElement x.elements
  pub joined : r ≡ flat_map spelling x.elements ++ rest
  pub end : EndsWith len rest x.fault

bytes_behind : (a r : List ℕ) → AreBytes (a ++ r) → AreBytes r
bytes_behind [] r h = h
bytes_behind (b ∷ a) r h = bytes_behind a r h.1

read_cases : (z : Result Element Code) → ((e : Element) × (z ≡ Ok e)) ⊎ ((code : Code) × (z ≡ Err code))
read_cases (Ok e) = inl (e, refl)
read_cases (Err code) = inr (code, refl)

read_all : (n place len : ℕ) (r : List ℕ) → length r ≤ n → len ≡ place + length r → AreBytes r
    → (x : Reading) × ReadsTo len r x × (items_at place 0 r ≡ items_of x)
read_all n place len [] short at bytes = (
  record { elements = []; fault = None },
  record { rest = []; each = tt; joined = refl; end = refl },
  items-nil place,
)
read_all zero place len (b ∷ r) short at bytes = absurd (omega arith)
read_all (suc n) place len (b ∷ r) short at bytes =
    elim (read_cases (first (b ∷ r))) [
      | inl w ↦ (
          let e : Element = w.0 in
          let k : ℕ = length (spelling e) in
          let t = first_takes (b ∷ r) e bytes w.1 in
          let behind : List ℕ = drop k (b ∷ r) in
          let lens : length (b ∷ r) ≡ k + length behind = ap length t.front ∙ length-append (spelling e) behind in
          let some = spelling_some e in
          let bytes' : AreBytes (spelling e ++ behind) = subst AreBytes t.front bytes in
          let more = read_all n (place + k) len behind (omega arith) (omega arith)
          (bytes_behind (spelling e) behind bytes') in
          let x : Reading = record { elements = e ∷ more.0.elements; fault = more.0.fault } in
          let joined : b ∷ r ≡ flat_map spelling (e ∷ more.0.elements) ++ more.1.rest =
          t.front ∙ ap (λ s. spelling e ++ s) more.1.joined
          ∙ sym (append_assoc (spelling e) (flat_map spelling more.0.elements) more.1.rest) in (
            x,
            record { rest = more.1.rest; each = (t.is, more.1.each); joined = joined; end = more.1.end },
            items-first place (b ∷ r) e (omega arith) w.1 ∙ ap (λ s. Ok e ∷ s) more.2,
          ))
      | inr w ↦ (
          let fault : ElementFault = record { place = place; code = w.0 } in (
            record { elements = []; fault = Some fault },
            record {
              rest = b ∷ r;
              each = tt;
              joined = refl;
              end = ((λ q. absurd (cc)), none_from_fault (b ∷ r) w.0 w.1, omega arith, first_fault (b ∷ r) w.0 w.1);
            },
            items-fault place (b ∷ r) w.0 (omega arith) w.1,
          ))
    ]

pub has_reading : HasReading
has_reading m bytes =
    let all = read_all (length m) 0 (length m) m (omega arith) (omega arith) bytes in
    (all.0, record { rest = all.1.rest; each = all.1.each; joined = all.1.joined; end = all.1.end }, all.2)

-- ---- each item is one
known_cases : (b : Bool) (code : Code) → code ≡ cond b ElementLength UnknownElement
    → (code ≡ UnknownElement) ⊎ (code ≡ ElementLength)
known_cases true code h = inr h
known_cases false code h = inl h

items_each : (n place : ℕ) (r : List ℕ) → length r ≤ n → AreBytes r → AllByRecursion IsItem (items_at place 0 r)
items_each n place [] short bytes = subst (AllByRecursion IsItem) (sym (items-nil place)) tt
items_each zero place (b ∷ r) short bytes = absurd (omega arith)
items_each (suc n) place (b ∷ r) short bytes =
    elim (read_cases (first (b ∷ r))) [
      | inl w ↦ (
          let k : ℕ = length (spelling w.0) in
          let t = first_takes (b ∷ r) w.0 bytes w.1 in
          let behind : List ℕ = drop k (b ∷ r) in
          let lens : length (b ∷ r) ≡ k + length behind = ap length t.front ∙ length-append (spelling w.0) behind in
          let some = spelling_some w.0 in
          let bytes' : AreBytes (spelling w.0 ++ behind) = subst AreBytes t.front bytes in
          subst (AllByRecursion IsItem) (sym (items-first place (b ∷ r) w.0 (omega arith) w.1))
          (t.is, items_each n (place + k) behind (omega arith) (bytes_behind (spelling w.0) behind bytes')))
      | inr w ↦ (
          subst (AllByRecursion IsItem) (sym (items-fault place (b ∷ r) w.0 (omega arith) w.1))
          (known_cases (is_known b) w.0 (first_fault (b ∷ r) w.0 w.1), tt))
    ]

pub items_are : (m : List ℕ) → AreBytes m → AllByRecursion IsItem (items m)
items_are m bytes = items_each (length m) 0 m (omega arith) bytes

-- ---- and no other
some_from_ne : (r : List ℕ) → r ≢ [] → 0 < length r
some_from_ne [] h = absurd (h refl)
some_from_ne (b ∷ r) h = omega arith

fault_items : (place len : ℕ) (r : List ℕ) (fault : Option ElementFault) → len ≡ place + length r → AreBytes r
    → EndsWith len r fault → items_at place 0 r ≡ fault_item fault
fault_items place len r None at bytes end = ap (items_at place 0) end ∙ items-nil place
fault_items place len r (Some fault) at bytes end =
    elim (read_cases (first r)) [
      | inl w ↦ (
          let t = first_takes r w.0 bytes w.1 in
          absurd (end.1 w.0 (spelling w.0) (drop (length (spelling w.0)) r) (t.is, refl) t.front))
      | inr w ↦ (
          let here : place ≡ fault.place = omega (arith, end.2) in
          let same : w.0 ≡ fault.code = first_fault r w.0 w.1 ∙ sym end.3 in
          items-fault place r w.0 (some_from_ne r end.0) w.1
          ∙ ap (λ n. let f : ElementFault = record { place = n; code = w.0 } in Err f ∷ []) here
          ∙ ap (λ c. let f : ElementFault = record { place = fault.place; code = c } in Err f ∷ []) same)
    ]

items_read : (es : List Element) (fault : Option ElementFault) (rest : List ℕ) (place len : ℕ) (r : List ℕ)
    → AllByRecursion IsElement es →
    r ≡ flat_map spelling es ++ rest → EndsWith len rest fault → len ≡ place + length r → AreBytes r
    → items_at place 0 r ≡ map Ok es ++ fault_item fault
items_read [] fault rest place len r each joined end at bytes =
    fault_items place len r fault at bytes (let P : List ℕ → Type 0 = λ s. EndsWith len s fault in
    subst P (sym joined) end)
items_read (e ∷ es) fault rest place len r each joined end at bytes =
    let more : List ℕ = flat_map spelling es ++ rest in
    let front : r ≡ spelling e ++ more = joined ∙ append_assoc (spelling e) (flat_map spelling es) rest in
    let k : ℕ = length (spelling e) in
    let lens : length r ≡ k + length more = ap length front ∙ length-append (spelling e) more in
    let some = spelling_some e in
    let read : first r ≡ Ok e = ap first front ∙ first-spelling e more each.0 in
    let behind : drop k r ≡ more = ap (drop k) front ∙ drop_at (spelling e) more k refl in
    let bytes' : AreBytes more = bytes_behind (spelling e) more (subst AreBytes front bytes) in
    items-first place r e (omega arith) read
    ∙ ap (λ s. Ok e ∷ items_at (place + k) 0 s) behind
    ∙ ap (λ s. Ok e ∷ s) (items_read es fault rest (place + k) len more each.1 refl end (omega arith) bytes')

pub reads_items : (m : List ℕ) (x : Reading) → AreBytes m → Reads m x → items m ≡ items_of x
reads_items m x bytes reads = items_read x.elements x.fault reads.rest 0 (length m) m reads.each reads.joined reads.end
    (omega arith) bytes

items_one : (es ds : List Element) (e d : Option ElementFault) → map Ok es ++ fault_item e ≡ map Ok ds ++ fault_item d
    → (es ≡ ds) × (e ≡ d)
items_one [] [] None None h = (refl, refl)
items_one [] [] None (Some d) h = absurd (cc)
items_one [] [] (Some e) None h = absurd (cc)
items_one [] [] (Some e) (Some d) h = (refl, cc)
items_one [] (x ∷ ds) None d h = absurd (cc)
items_one [] (x ∷ ds) (Some e) d h = absurd (cc)
items_one (x ∷ es) [] e None h = absurd (cc)
items_one (x ∷ es) [] e (Some d) h = absurd (cc)
items_one (x ∷ es) (y ∷ ds) e d h =
    let head : x ≡ y = cc in
    let more = items_one es ds e d (let t : map Ok es ++ fault_item e ≡ map Ok ds ++ fault_item d = cc in t) in
    ((let both : x ∷ es ≡ y ∷ ds = ap (λ z. z ∷ es) head ∙ ap (λ z. y ∷ z) more.0 in both), more.1)

pub only_reading : HasOneReading
only_reading m bytes a b reads_a reads_b =
    let same = items_one a.elements b.elements a.fault b.fault
    (sym (reads_items m a bytes reads_a) ∙ reads_items m b bytes reads_b) in
    ap (λ es. let x : Reading = record { elements = es; fault = a.fault } in x) same.0
    ∙ ap (λ f. let x : Reading = record { elements = b.elements; fault = f } in x) same.1

-- ---- no spelling is a prefix of another
pub prefix_free_lem : IsPrefixFree
prefix_free_lem d e x y more spelled_d spelled_e q =
    let s : spelling d ++ more ≡ spelling e = ap (λ t. t ++ more) (sym spelled_d.1) ∙ q ∙ spelled_e.1 in
    let as_d : first (spelling e) ≡ Ok d = ap first (sym s) ∙ first-spelling d more spelled_d.0 in
    let as_e : first (spelling e) ≡ Ok e = ap first (sym (append-nil (spelling e))) ∙ first-spelling e [] spelled_e.0 in
    let one : ok d ≡ Ok e = sym as_d ∙ as_e in
    let same : d ≡ e = cc in
    let lens : length (spelling d) + length more ≡ length (spelling d) =
    sym (length-append (spelling d) more) ∙ ap length (s ∙ ap spelling (sym same)) in
    (same, empty more (omega arith))
  where
    empty : (s : List ℕ) → length s ≡ 0 → s ≡ []
    empty [] h = refl
    empty (b ∷ s) h = absurd (omega arith)

pub are_bytes : (r : List ℕ) → ((i : ℕ) → get_or r i 0 < 256) → AreBytes r
are_bytes [] h = tt
are_bytes (b ∷ r) h = (h 0, are_bytes r (λ i. h (suc i)))

-- ---- one call of next
pub items_none : (place : ℕ) (r : List ℕ) → length r ≡ 0 → items_at place 0 r ≡ []
items_none place [] h = items-nil place
items_none place (b ∷ r) h = absurd (omega arith)

pub items_step : (place : ℕ) (r : List ℕ) (e : Element) (s : List ℕ) → 0 < length r → first r ≡ Ok e
    → length (spelling e) ≤ length r → s ≡ drop (length (spelling e)) r →
    items_at place 0 r ≡ Ok e ∷ items_at (place + (length r - length s)) 0 s
items_step place r e s some h fits is =
    let n : ℕ = length (spelling e) in
    let taken : place + n ≡ place + (length r - length s) = omega (arith, ap length is ∙ length-drop n r) in
    items-first place r e some h ∙ ap (λ k. Ok e ∷ items_at k 0 (drop n r)) taken
    ∙ ap (λ t. Ok e ∷ items_at (place + (length r - length s)) 0 t) (sym is)

pub items_end : (place : ℕ) (r : List ℕ) (code : Code) → 0 < length r → first r ≡ Err code →
    items_at place 0 r ≡ Err (record { place = place; code = code }) ∷ items_at place 0 []
items_end place r code some h =
    let fault : ElementFault = record { place = place; code = code } in
    items-fault place r code some h ∙ ap (λ t. Err fault ∷ t) (sym (items-nil place))
