-- The laws of a store under messages.
use Rattle.std.proofs.Common.{◌≡◌, ◌≢◌, ℕ, List, [], ◌∷◌, ◌++◌, map, Ok, Bool, true, false, Option, Some, None, refl}
use Rattle.std.proofs.Common.{sym, ap, subst, ◌∙◌, slice_index, if◌then◌else◌}
use Rattle.std.specs.FinMap.{get}
use Rattle.uecp_elements.specs.declared.code.Code.{Code}
use Rattle.uecp_elements.specs.declared.code.Code.TheVariants.{Applied, UnknownElement, DataSet, Service, OutOfRange}
use Rattle.uecp_elements.specs.declared.code.Code.TheVariants.{ElementLength, NotHere, BufferFull}
use Rattle.uecp_elements.specs.declared.fault.ElementFault.{ElementFault}
use Rattle.uecp_elements.specs.Grammar.{Element, Reading, Reads, AreBytes, EndsWith, is_known}
use Rattle.uecp_elements.specs.Reading.{items, items_at, items_of, fault_item}
use Rattle.uecp_elements.specs.Folding.{is_applied, where_applied, folded}
use Rattle.uecp_elements.proofs.Public.{has_reading, only_reading}
use Rattle.rds_store.specs.Value.{Store}
use Rattle.rds_store.specs.Put.{put}
use Rattle.rds_store.specs.Step.{element_by_element, whole_or_none, step}
use Rattle.rds_store.proofs.LawProofs.{refusal_changes_nothing}
use Rattle.rds_store.specs.Laws.{IsAsBefore, RefusedMessageChangesNothing, PutsEach, AppliedMessageIsWhole}
use Rattle.rds_store.specs.Laws.{WholeMessageIsApplied, EmptyMessageChangesNothing}

-- ---- A refused message.
left_as_it_was : (before after : Store) (code : Code) → code ≢ Applied
    → (if is_applied code then after else before) ≡ before
left_as_it_was before after Applied h = absurd (h refl)
left_as_it_was before after UnknownElement h = refl
left_as_it_was before after DataSet h = refl
left_as_it_was before after Service h = refl
left_as_it_was before after OutOfRange h = refl
left_as_it_was before after ElementLength h = refl
left_as_it_was before after NotHere h = refl
left_as_it_was before after BufferFull h = refl

as_before : (before after : Store) → after ≡ before → IsAsBefore before after
as_before before after same = record {
  places = λ place. ap (λ v. get v.places place) same;
  current = ap (λ v. v.current) same;
  groups = ap (λ v. v.groups) same;
}

pub refused_message_changes_nothing : RefusedMessageChangesNothing
refused_message_changes_nothing v m h = as_before v (step v m).0
    (left_as_it_was v (element_by_element v m).0 (element_by_element v m).1 h)

-- one element is whole or none by itself
one_done : (v : Store) (done : Store × Code) → (done.1 ≢ Applied → done.0 ≡ v)
    → whole_or_none v (where_applied done (λ w. (w, Applied))) ≡ done
one_done v (w, Applied) h = refl
one_done v (w, UnknownElement) h = ap (λ x. (x, UnknownElement)) (sym (h (λ k. cc)))
one_done v (w, DataSet) h = ap (λ x. (x, DataSet)) (sym (h (λ k. cc)))
one_done v (w, Service) h = ap (λ x. (x, Service)) (sym (h (λ k. cc)))
one_done v (w, OutOfRange) h = ap (λ x. (x, OutOfRange)) (sym (h (λ k. cc)))
one_done v (w, ElementLength) h = ap (λ x. (x, ElementLength)) (sym (h (λ k. cc)))
one_done v (w, NotHere) h = ap (λ x. (x, NotHere)) (sym (h (λ k. cc)))
one_done v (w, BufferFull) h = ap (λ x. (x, BufferFull)) (sym (h (λ k. cc)))

pub one_element : (v : Store) (e : Element) → whole_or_none v (folded put v (Ok e ∷ [])) ≡ put v e
unfolding folded
one_element v e = one_done v (put v e) (refusal_changes_nothing v e)

-- ---- A message that is applied.
done_first : (done : Store × Code) (others : Store → Store × Code) → (where_applied done others).1 ≡ Applied
    → (done.1 ≡ Applied) × (where_applied done others ≡ others done.0)
done_first (w, Applied) others h = (refl, refl)
done_first (w, UnknownElement) others h = cc
done_first (w, DataSet) others h = cc
done_first (w, Service) others h = cc
done_first (w, OutOfRange) others h = cc
done_first (w, ElementLength) others h = cc
done_first (w, NotHere) others h = cc
done_first (w, BufferFull) others h = cc

puts_each : (v : Store) (es : List Element) (fault : Option ElementFault)
    → ((f : ElementFault) → fault ≡ Some f → f.code ≢ Applied)
    → (folded put v (map Ok es ++ fault_item fault)).1 ≡ Applied
    → (fault ≡ None) × PutsEach v es (folded put v (map Ok es ++ fault_item fault)).0
unfolding folded
puts_each v [] None codes h = (refl, refl)
puts_each v [] (Some f) codes h = absurd (codes f refl h)
puts_each v (e ∷ es) fault codes h =
    let first = done_first (put v e) (λ w. folded put w (map Ok es ++ fault_item fault)) h in
    let others = puts_each (put v e).0 es fault codes (ap (λ r. r.1) (sym first.1) ∙ h) in
    (others.0, (first.0, subst (PutsEach (put v e).0 es) (ap (λ r. r.0) (sym first.1)) others.1))

-- a fault has another code than 00
fault_code : (known : Bool) (c : Code) → c ≡ (if known then ElementLength else UnknownElement) → c ≢ Applied
fault_code true c h = λ k. cc
fault_code false c h = λ k. cc

end_code : (len : ℕ) (rest : List ℕ) (fault : Option ElementFault) → EndsWith len rest fault → (f : ElementFault)
    → fault ≡ Some f → f.code ≢ Applied
end_code len rest None h f e = cc
end_code len rest (Some g) h f e = by e
  where
    by : ◌≡◌ {A = Option ElementFault} (Some g) (Some f) → f.code ≢ Applied
    by e = let same : g ≡ f = cc in subst (λ x. x.code ≢ Applied) same
        (fault_code (is_known (slice_index rest 0)) g.code h.3)

the_items : (m : List ℕ) → AreBytes m → (reading : Reading) → Reads m reading → items m ≡ items_of reading
the_items m bytes reading reads =
    let one = has_reading m bytes in
    one.2 ∙ ap items_of (only_reading m bytes one.0 reading one.1 reads)

taken_whole : (v : Store) (done : Store × Code) → done.1 ≡ Applied → whole_or_none v done ≡ done
taken_whole v (w, Applied) h = refl
taken_whole v (w, UnknownElement) h = cc
taken_whole v (w, DataSet) h = cc
taken_whole v (w, Service) h = cc
taken_whole v (w, OutOfRange) h = cc
taken_whole v (w, ElementLength) h = cc
taken_whole v (w, NotHere) h = cc
taken_whole v (w, BufferFull) h = cc

pub applied_message_is_whole : AppliedMessageIsWhole
applied_message_is_whole v m reading bytes reads h =
    let same = the_items m bytes reading reads in
    let both = puts_each v reading.elements reading.fault (end_code _ _ reading.fault reads.end)
    (ap (λ is. (folded put v is).1) (sym same) ∙ h) in
    let left : (step v m).0 ≡ (folded put v (items_of reading)).0 =
    ap (λ r. r.0) (taken_whole v (element_by_element v m) h) ∙ ap (λ is. (folded put v is).0) same in
    (both.0, subst (PutsEach v reading.elements) (sym left) both.1)

-- the other way round
pub where_first : (done : Store × Code) (others : Store → Store × Code) → done.1 ≡ Applied
    → where_applied done others ≡ others done.0
where_first (w, Applied) others h = refl
where_first (w, UnknownElement) others h = cc
where_first (w, DataSet) others h = cc
where_first (w, Service) others h = cc
where_first (w, OutOfRange) others h = cc
where_first (w, ElementLength) others h = cc
where_first (w, NotHere) others h = cc
where_first (w, BufferFull) others h = cc

all_put : (v : Store) (es : List Element) (w : Store) → PutsEach v es w → folded put v (map Ok es ++ []) ≡ (w, Applied)
unfolding folded
all_put v [] w h = ap (λ x. (x, Applied)) (sym h)
all_put v (e ∷ es) w h = where_first (put v e) (λ x. folded put x (map Ok es ++ [])) h.0 ∙ all_put (put v e).0 es w h.1

pub whole_message_is_applied : WholeMessageIsApplied
whole_message_is_applied v m reading w bytes reads clean each =
    let same : items m ≡ map Ok reading.elements ++ [] =
    the_items m bytes reading reads ∙ ap (λ f. map Ok reading.elements ++ fault_item f) clean in
    let done : element_by_element v m ≡ (w, Applied) = ap (folded put v) same ∙ all_put v reading.elements w each in
    ap (whole_or_none v) done

pub empty_message_changes_nothing : EmptyMessageChangesNothing
unfolding items_at folded
empty_message_changes_nothing v = refl
