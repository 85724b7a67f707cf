-- What is shown of a control line is what the objects that name it make of it.
use Rattle.std.proofs.Common.{◌≡◌, ◌≢◌, ◌⊎◌, inl, inr, ℕ, ◌-◌, ◌==◌, Bool, true, false, cond, not, ◌||◌, ◌&&◌}
use Rattle.std.proofs.Common.{List, [], ◌∷◌, refl, ◌∙◌, ap, sym, arith, Option, Some, None}
use Rattle.std.specs.Prelude.{codes, find, option_map}
use Rattle.std.specs.Str.{bytes_eq}
use Rattle.std.proofs.lemmas.Slice.Eq.{bytes_eq-Decides}
use Rattle.serde_json.specs.Data.{Data}
use Rattle.page.specs.Members.{name_of, text_at, is_word, number_or_0, says}
use Rattle.page.specs.Counts.{Counts, counted, is_kind, is_sent, one_more}
use Rattle.page.specs.Air.{Air, air_after, after_store}
use Rattle.page.specs.ControlLine.{Arrived, Line, new_line, is_named, line_after, line_behind}
use Rattle.page.specs.State.{State, at_first, shown_of, told_line, has_place, after}
use Rattle.page.specs.CardLaws.{of_line, alone, card, AreDistinct}

same_name : (a b : List ℕ) → bytes_eq a b ≡ true → a ≡ b
same_name a b h = (bytes_eq-Decides a b).0 h

itself : (a : List ℕ) → bytes_eq a a ≡ true
itself a = (bytes_eq-Decides a a).1 refl

not_true : (b : Bool) → (b ≡ true → ⊥) → b ≡ false
not_true true h = absurd (h refl)
not_true false h = refl

true_not_false : (b : Bool) → b ≡ true → b ≡ false → ⊥
true_not_false b h h' = absurd (cc (h, h'))

turned : (a b : List ℕ) → bytes_eq a b ≡ false → bytes_eq b a ≡ false
turned a b h = not_true _ (λ t. true_not_false (bytes_eq a b)
    (ap (λ c. bytes_eq c b) (sym (same_name b a t)) ∙ itself b) h)

or_left : (a b : Bool) → a || b ≡ false → a ≡ false
or_left true b h = absurd (cc h)
or_left false b h = refl

or_right : (a b : Bool) → a || b ≡ false → b ≡ false
or_right true b h = absurd (cc h)
or_right false b h = h

neither : (a b : Bool) → a ≡ false → b ≡ false → a || b ≡ false
neither a b h h' = ap (λ t. t || b) h ∙ h'

named_other : (name other : List ℕ) (l : Line) → is_named other l ≡ true → bytes_eq other name ≡ false
    → is_named name l ≡ false
named_other name other l h differ = ap (λ n. bytes_eq n name) (same_name l.name other h) ∙ differ

-- one of another name that is told changes nothing under this one
other_end : (full : Bool) (name other : List ℕ) (d : Arrived) → bytes_eq other name ≡ false
    → find (is_named name) (cond full [] (line_after d (new_line other) ∷ [])) ≡ None
other_end true name other d differ = refl
other_end false name other d differ = ap (λ b. cond b (Some (line_after d (new_line other))) None) differ

other_first : (is : Bool) (room : ℕ) (name other : List ℕ) (d : Arrived) (l : Line) (ls : List Line)
    → is_named other l ≡ is → bytes_eq other name ≡ false
    → find (is_named name) (told_line (room - 1) other d ls) ≡ find (is_named name) ls
    → find (is_named name) (cond is (line_after d l ∷ ls) (l ∷ told_line (room - 1) other d ls))
    ≡ find (is_named name) (l ∷ ls)
other_first true room name other d l ls h differ rest =
    let no : is_named name l ≡ false = named_other name other l h differ in
    ap (λ b. cond b (Some (line_after d l)) (find (is_named name) ls)) no
    ∙ sym (ap (λ b. cond b (Some l) (find (is_named name) ls)) no)
other_first false room name other d l ls h differ rest = ap (λ r. cond (is_named name l) (Some l) r) rest

told_other : (room : ℕ) (name other : List ℕ) (d : Arrived) (ls : List Line) → bytes_eq other name ≡ false
    → find (is_named name) (told_line room other d ls) ≡ find (is_named name) ls
told_other room name other d [] differ = other_end (room == 0) name other d differ
told_other room name other d (l ∷ ls) differ =
    other_first (is_named other l) room name other d l ls refl differ (told_other (room - 1) name other d ls differ)

-- under its own name it is shown as it was told
shown_first : (is : Bool) (room : ℕ) (name : List ℕ) (d : Arrived) (l m : Line) (ls : List Line) → is_named name m ≡ is
    → cond is (Some m) (find (is_named name) ls) ≡ Some l
    → (find (is_named name) ls ≡ Some l → find (is_named name) (told_line (room - 1) name d ls)
    ≡ Some (line_after d l))
    → find (is_named name) (cond is (line_after d m ∷ ls) (m ∷ told_line (room - 1) name d ls))
    ≡ Some (line_after d l)
shown_first true room name d l m ls h found rest =
    ap (λ b. cond b (Some (line_after d m)) (find (is_named name) ls)) h ∙ ap (option_map (line_after d)) found
shown_first false room name d l m ls h found rest =
    ap (λ b. cond b (Some m) (find (is_named name) (told_line (room - 1) name d ls))) h ∙ rest found

told_shown : (room : ℕ) (name : List ℕ) (d : Arrived) (l : Line) (ls : List Line) → find (is_named name) ls ≡ Some l
    → find (is_named name) (told_line room name d ls) ≡ Some (line_after d l)
told_shown room name d l [] found = absurd (cc found)
told_shown room name d l (m ∷ ls) found =
    shown_first (is_named name m) room name d l m ls refl found (told_shown (room - 1) name d l ls)

-- where it has a place it is shown once it was told
new_end : (full : Bool) (name : List ℕ) (d : Arrived) → not full ≡ true
    → find (is_named name) (cond full [] (line_after d (new_line name) ∷ [])) ≡ Some (line_after d (new_line name))
new_end true name d h = absurd (cc h)
new_end false name d h = ap (λ b. cond b (Some (line_after d (new_line name))) None) (itself name)

new_first : (is : Bool) (room : ℕ) (name : List ℕ) (d : Arrived) (m : Line) (ls : List Line) → is_named name m ≡ is
    → cond is (Some m) (find (is_named name) ls) ≡ None → is || has_place (room - 1) name ls ≡ true
    → (find (is_named name) ls ≡ None → has_place (room - 1) name ls ≡ true
    → find (is_named name) (told_line (room - 1) name d ls) ≡ Some (line_after d (new_line name)))
    → find (is_named name) (cond is (line_after d m ∷ ls) (m ∷ told_line (room - 1) name d ls))
    ≡ Some (line_after d (new_line name))
new_first true room name d m ls h found place rest = absurd (cc found)
new_first false room name d m ls h found place rest =
    ap (λ b. cond b (Some m) (find (is_named name) (told_line (room - 1) name d ls))) h ∙ rest found place

told_new : (room : ℕ) (name : List ℕ) (d : Arrived) (ls : List Line) → find (is_named name) ls ≡ None
    → has_place room name ls ≡ true
    → find (is_named name) (told_line room name d ls) ≡ Some (line_after d (new_line name))
told_new room name d [] found place = new_end (room == 0) name d place
told_new room name d (m ∷ ls) found place =
    new_first (is_named name m) room name d m ls refl found place (told_new (room - 1) name d ls)

-- where it has none it is not there, and never is
no_place : (room : ℕ) (name : List ℕ) (ls : List Line) → has_place room name ls ≡ false
    → find (is_named name) ls ≡ None
no_place room name [] h = refl
no_place room name (l ∷ ls) h =
    ap (λ b. cond b (Some l) (find (is_named name) ls)) (or_left (is_named name l) (has_place (room - 1) name ls) h)
    ∙ no_place (room - 1) name ls (or_right (is_named name l) (has_place (room - 1) name ls) h)

never_end : (full : Bool) (room : ℕ) (name other : List ℕ) (d : Arrived) → room == 0 ≡ full → not full ≡ false
    → has_place room name (cond full [] (line_after d (new_line other) ∷ [])) ≡ false
never_end true room name other d is h = ap not is
never_end false room name other d is h = absurd (cc h)

never_first : (is : Bool) (room : ℕ) (name other : List ℕ) (d : Arrived) (l : Line) (ls : List Line)
    → is_named name l ≡ false → has_place (room - 1) name ls ≡ false
    → has_place (room - 1) name (told_line (room - 1) other d ls) ≡ false
    → has_place room name (cond is (line_after d l ∷ ls) (l ∷ told_line (room - 1) other d ls)) ≡ false
never_first true room name other d l ls differs nowhere rest =
    neither (is_named name l) (has_place (room - 1) name ls) differs nowhere
never_first false room name other d l ls differs nowhere rest =
    neither (is_named name l) (has_place (room - 1) name (told_line (room - 1) other d ls)) differs rest

never : (room : ℕ) (name other : List ℕ) (d : Arrived) (ls : List Line) → has_place room name ls ≡ false
    → has_place room name (told_line room other d ls) ≡ false
never room name other d [] h = never_end (room == 0) room name other d refl h
never room name other d (l ∷ ls) h =
    let differs = or_left (is_named name l) (has_place (room - 1) name ls) h in
    let nowhere = or_right (is_named name l) (has_place (room - 1) name ls) h in
    never_first (is_named other l) room name other d l ls differs nowhere (never (room - 1) name other d ls nowhere)

never_shown : (ds : List Arrived) (name : List ℕ) (s : State) → has_place 128 name s.lines ≡ false
    → card name (shown_of ds s) ≡ None
never_shown [] name s h = no_place 128 name s.lines h
never_shown (d ∷ ds) name s h = never_shown ds name (after d s) (never 128 name (name_of d.object) d s.lines h)

-- what is shown already goes on by the objects that name it
goes_first : (is : Bool) (d : Arrived) (ds : List Arrived) (name : List ℕ) (l : Line) (s : State)
    → bytes_eq (name_of d.object) name ≡ is → card name s ≡ Some l
    → ((m : Line) → card name (after d s) ≡ Some m
    → card name (shown_of ds (after d s)) ≡ Some (line_behind (of_line name ds) m))
    → card name (shown_of ds (after d s))
    ≡ Some (line_behind (cond is (d ∷ of_line name ds) (of_line name ds)) l)
goes_first true d ds name l s is found rest =
    rest (line_after d l) (ap (λ n. find (is_named name) (told_line 128 n d s.lines))
    (same_name (name_of d.object) name is)
    ∙ told_shown 128 name d l s.lines found)
goes_first false d ds name l s is found rest =
    rest l (told_other 128 name (name_of d.object) d s.lines is ∙ found)

goes_on : (ds : List Arrived) (name : List ℕ) (l : Line) (s : State) → card name s ≡ Some l
    → card name (shown_of ds s) ≡ Some (line_behind (of_line name ds) l)
goes_on [] name l s found = found
goes_on (d ∷ ds) name l s found =
    goes_first (bytes_eq (name_of d.object) name) d ds name l s refl found (λ m. goes_on ds name m (after d s))

-- one that was left out was counted, and that is not forgotten
some_more : (count : ℕ) → one_more true count ≢ 0
some_more count h = omega (arith, h)

none_before : (b : Bool) (count : ℕ) → one_more b count ≡ 0 → count ≡ 0
none_before true count h = absurd (some_more count h)
none_before false count h = h

counted_on : (ds : List Arrived) (s : State) → (shown_of ds s).further ≡ 0 → s.further ≡ 0
counted_on [] s h = h
counted_on (d ∷ ds) s h =
    none_before (not (has_place 128 (name_of d.object) s.lines)) s.further (counted_on ds (after d s) h)

left_out : (b : Bool) (count : ℕ) → b ≡ false → one_more (not b) count ≢ 0
left_out true count h = absurd (cc h)
left_out false count h = some_more count

abbrev Comes : (name : List ℕ) → List Arrived → (start : State) → Type 0
Comes name ds s = (card name (shown_of ds s) ≡ Some (alone name ds))
    ⊎ ((card name (shown_of ds s) ≡ None) × ((of_line name ds ≡ []) ⊎ ((shown_of ds s).further ≢ 0)))

-- one that was not shown yet comes with the first object that names it, if it has a place then
placed : (place : Bool) (d : Arrived) (ds : List Arrived) (name : List ℕ) (s : State) → name_of d.object ≡ name
    → card name s ≡ None → has_place 128 name s.lines ≡ place
    → (card name (shown_of ds (after d s)) ≡ Some (line_behind (d ∷ of_line name ds) (new_line name)))
    ⊎ ((card name (shown_of ds (after d s)) ≡ None) × ((shown_of ds (after d s)).further ≢ 0))
placed true d ds name s is none place =
    inl (goes_on ds name (line_after d (new_line name)) (after d s)
    (ap (λ n. find (is_named name) (told_line 128 n d s.lines)) is ∙ told_new 128 name d s.lines none place))
placed false d ds name s is none place =
    let there : has_place 128 (name_of d.object) s.lines ≡ false = ap (λ n. has_place 128 n s.lines) is ∙ place in
    inr (
      never_shown ds name (after d s) (never 128 name (name_of d.object) d s.lines place),
      λ h. left_out (has_place 128 (name_of d.object) s.lines) s.further there (counted_on ds (after d s) h),
    )

or_left_out : {A B C : Type 0} {P : Type 0} → A ⊎ (B × C) → A ⊎ (B × (P ⊎ C))
or_left_out (inl a) = inl a
or_left_out (inr (b, c)) = inr (b, inr c)

comes_with : (is : Bool) (d : Arrived) (ds : List Arrived) (name : List ℕ) (s : State)
    → bytes_eq (name_of d.object) name ≡ is
    → card name s ≡ None → (card name (after d s) ≡ None → Comes name ds (after d s))
    → (card name (shown_of ds (after d s)) ≡ Some (line_behind (cond is (d ∷ of_line name ds) (of_line name ds))
    (new_line name)))
    ⊎ ((card name (shown_of ds (after d s)) ≡ None)
    × ((cond is (d ∷ of_line name ds) (of_line name ds) ≡ []) ⊎ ((shown_of ds (after d s)).further ≢ 0)))
comes_with true d ds name s is none rest =
    or_left_out (placed (has_place 128 name s.lines) d ds name s (same_name (name_of d.object) name is) none refl)
comes_with false d ds name s is none rest = rest (told_other 128 name (name_of d.object) d s.lines is ∙ none)

comes : (ds : List Arrived) (name : List ℕ) (s : State) → card name s ≡ None → Comes name ds s
comes [] name s none = inr (none, inl refl)
comes (d ∷ ds) name s none =
    comes_with (bytes_eq (name_of d.object) name) d ds name s refl none (comes ds name (after d s))

pub line_alone : (ds : List Arrived) (name : List ℕ) → Comes name ds at_first
line_alone ds name = comes ds name at_first refl

-- none is there twice
distinct_end : (full : Bool) (name : List ℕ) (d : Arrived)
    → AreDistinct (cond full [] (line_after d (new_line name) ∷ []))
distinct_end true name d = tt
distinct_end false name d = (refl, tt)

distinct_first : (is : Bool) (room : ℕ) (name : List ℕ) (d : Arrived) (l : Line) (ls : List Line) → is_named name l ≡ is
    → AreDistinct (l ∷ ls) → AreDistinct (told_line (room - 1) name d ls)
    → AreDistinct (cond is (line_after d l ∷ ls) (l ∷ told_line (room - 1) name d ls))
distinct_first true room name d l ls is h rest = h
distinct_first false room name d l ls is h rest =
    (told_other (room - 1) l.name name d ls (turned l.name name is) ∙ h.0, rest)

told_distinct : (room : ℕ) (name : List ℕ) (d : Arrived) (ls : List Line) → AreDistinct ls
    → AreDistinct (told_line room name d ls)
told_distinct room name d [] h = distinct_end (room == 0) name d
told_distinct room name d (l ∷ ls) h =
    distinct_first (is_named name l) room name d l ls refl h (told_distinct (room - 1) name d ls h.1)

shown_distinct : (ds : List Arrived) (s : State) → AreDistinct s.lines → AreDistinct (shown_of ds s).lines
shown_distinct [] s h = h
shown_distinct (d ∷ ds) s h = shown_distinct ds (after d s) (told_distinct 128 (name_of d.object) d s.lines h)

pub line_once : (ds : List Arrived) → AreDistinct (shown_of ds at_first).lines
line_once ds = shown_distinct ds at_first tt

-- what is on the air comes of what was on the air alone
same_air : (ds : List Arrived) (l l' : Line) → l.air ≡ l'.air → (line_behind ds l).air ≡ (line_behind ds l').air
same_air [] l l' h = h
same_air (d ∷ ds) l l' h = same_air ds (line_after d l) (line_after d l') (ap (air_after d.object) h)

is_text : (told : Option (List ℕ)) (word : List ℕ) → is_word told word ≡ true → told ≡ Some word
is_text None word h = absurd (cc h)
is_text (Some text) word h = ap Some (same_name text word h)

cleared : (d : Data) (s : Air) → is_kind (codes "store") d ≡ true → air_after d s ≡ after_store d s
cleared d s h =
    let is : text_at (codes "kind") d ≡ Some (codes "store") = is_text (text_at (codes "kind") d) (codes "store") h in
    rw is refl

pub store_clears : (d : Arrived) (l l' : Line) → is_kind (codes "store") d.object ≡ true
    → l.air.answers ≡ l'.air.answers
    → ((line_after d l).air.services ≡ []) × ((line_after d l).air.frame ≡ None)
    × ((ds : List Arrived) → (line_behind (d ∷ ds) l).air ≡ (line_behind (d ∷ ds) l').air)
store_clears d l l' h same =
    let is = cleared d.object l.air h in
    let also = cleared d.object l'.air h in
    let alike : after_store d.object l.air ≡ after_store d.object l'.air = ap (λ b. record {
      current = number_or_0 (codes "current") d.object;
      services = [];
      answers = b;
      frame = None;
    }) same in (
      ap (λ (s : Air). s.services) is,
      ap (λ (s : Air). s.frame) is,
      λ ds. same_air ds (line_after d l) (line_after d l') (is ∙ alike ∙ sym also),
    )

-- no object is told as a message by both ends
either_end : (told : Option (List ℕ)) (full : Bool) (sent messages : ℕ)
    → (one_more (is_word told (codes "answer")) sent ≡ sent)
    ⊎ (one_more (is_word told (codes "frame") && full || is_word told (codes "reply")) messages ≡ messages)
either_end told full sent messages = either (is_word told (codes "answer")) refl
  where
    either : (is : Bool) → is_word told (codes "answer") ≡ is
        → (one_more is sent ≡ sent)
        ⊎ (one_more (is_word told (codes "frame") && full || is_word told (codes "reply")) messages ≡ messages)
    either true h = inr (rw (is_text told (codes "answer") h) refl)
    either false h = inl refl

pub counted_once : (d : Data) (c : Counts)
    → (((counted d c).sent ≡ c.sent) ⊎ ((counted d c).messages ≡ c.messages))
    × (is_sent d ≡ false → (counted d c).sent ≡ c.sent)
counted_once d c = (
  either_end (text_at (codes "kind") d) (not (says (codes "message") [] d)) c.sent c.messages,
  λ h. ap (λ b. one_more b c.sent) h,
)
