-- The history of a control line says all that was shown, and nothing that was not.
use Rattle.std.proofs.Common.{◌≡◌, ◌≢◌, ◌≤◌, ℕ, ◌==◌, Bool, true, false, cond, not, ◌||◌, ◌&&◌, List, [], ◌∷◌}
use Rattle.std.proofs.Common.{◌++◌}
use Rattle.std.proofs.Common.{length, refl, ◌∙◌, ap, sym, arith, Option, Some, None}
use Rattle.std.specs.Prelude.{flat_map, find, unwrap_or, option_map, All}
use Rattle.std.specs.List.{list_any}
use Rattle.std.proofs.lemmas.Slice.Eq.{bytes_eq-Decides}
use Rattle.std.proofs.lemmas.List.{append_assoc}
use Rattle.std.proofs.lemmas.List.Elements.{All-nil, All-cons, All-head, All-tail, All-append, All-weaker}
use Rattle.page.specs.declared.state.announced.Announcement.{Announcement}
use Rattle.page.specs.Members.{is_flag}
use Rattle.page.specs.Seen.{Seen, unseen, is_of, same_text, same_flag, is_same, is_nothing}
use Rattle.page.specs.Changes.{Change, has_it, was_so, changed, ended, changes, last_1000, history_after}
use Rattle.page.specs.Announced.{is_its, since_of, announcing, announced_after}
use Rattle.page.specs.ControlLine.{Arrived, Line, new_line, seen_on, taken, line_after, line_behind}
use Rattle.page.specs.HistoryLaws.{shown_in, shown_on, rows_of, all_rows, said, is_on, StaysOn}
use Rattle.page.proofs.Kept.{kept_more, kept_length, none_more}
use Rattle.page.proofs.Apart.{AreApart, AirsApart, of_turned, after_apart, behind_apart, new_apart_line, shown_apart}

-- ---- what is kept
history_length : (d : Arrived) (l : Line) → length (line_after d l).history ≤ 1000
unfolding history_after
history_length d l = kept_length (l.history ++ changes d.came (seen_on l) (seen_on (taken d l)))

history_once : (ds : List Arrived) (l : Line) → length l.history ≤ 1000
    → (line_behind ds l).history ≡ last_1000 (l.history ++ all_rows ds l)
unfolding history_after
history_once [] l few = none_more l.history few
history_once (d ∷ ds) l few =
    history_once ds (line_after d l) (history_length d l)
    ∙ kept_more (l.history ++ rows_of d l) (all_rows ds (line_after d l))
    ∙ ap last_1000 (append_assoc l.history (rows_of d l) (all_rows ds (line_after d l)))

-- ---- the same of a service
and_left : (a b : Bool) → a && b ≡ true → a ≡ true
and_left true b h = refl
and_left false b h = absurd (cc h)

and_right : (a b : Bool) → a && b ≡ true → b ≡ true
and_right true b h = h
and_right false b h = absurd (cc h)

or_left : (a b : Bool) → a || b ≡ false → a ≡ false
or_left true b h = absurd (cc h)
or_left false b h = refl

or_right : (a b : Bool) → a || b ≡ false → b ≡ false
or_right true b h = absurd (cc h)
or_right false b h = h

same_number : (a b : ℕ) → (a == b) ≡ true → a ≡ b
same_number a b h = grind (arith, h)

itself : (a : ℕ) → (a == a) ≡ true
itself a = grind arith

text_is : (a b : Option (List ℕ)) → same_text a b ≡ true → a ≡ b
text_is None None h = refl
text_is None (Some b) h = absurd (cc h)
text_is (Some a) None h = absurd (cc h)
text_is (Some a) (Some b) h = ap Some ((bytes_eq-Decides a b).0 h)

text_itself : (a : Option (List ℕ)) → same_text a a ≡ true
text_itself None = refl
text_itself (Some a) = (bytes_eq-Decides a a).1 refl

flag_is : (a b : Option Bool) → same_flag a b ≡ true → a ≡ b
flag_is None None h = refl
flag_is None (Some b) h = absurd (cc h)
flag_is (Some a) None h = absurd (cc h)
flag_is (Some true) (Some true) h = refl
flag_is (Some true) (Some false) h = absurd (cc h)
flag_is (Some false) (Some true) h = absurd (cc h)
flag_is (Some false) (Some false) h = refl

flag_itself : (a : Option Bool) → same_flag a a ≡ true
flag_itself None = refl
flag_itself (Some true) = refl
flag_itself (Some false) = refl

abbrev made : (a b : ℕ) → (rt : Option (List ℕ)) → (tp ta : Option Bool) → Seen
made a b rt tp ta = record { set = a; service = b; rt = rt; tp = tp; ta = ta }

seen_is : (s t : Seen) → s.set ≡ t.set → s.service ≡ t.service → s.rt ≡ t.rt → s.tp ≡ t.tp → s.ta ≡ t.ta → s ≡ t
seen_is s t h0 h1 h2 h3 h4 =
    ap (λ a. made a s.service s.rt s.tp s.ta) h0 ∙ ap (λ b. made t.set b s.rt s.tp s.ta) h1
    ∙ ap (λ rt. made t.set t.service rt s.tp s.ta) h2 ∙ ap (λ tp. made t.set t.service t.rt tp s.ta) h3
    ∙ ap (λ ta. made t.set t.service t.rt t.tp ta) h4

but_ta : (s t : Seen) → is_same s t ≡ true
    → (is_of s.set s.service t && same_text s.rt t.rt) && same_flag s.tp t.tp ≡ true
but_ta s t h =
    and_left ((is_of s.set s.service t && same_text s.rt t.rt) && same_flag s.tp t.tp) (same_flag s.ta t.ta) h

of_text : (s t : Seen) → is_same s t ≡ true → is_of s.set s.service t && same_text s.rt t.rt ≡ true
of_text s t h = and_left (is_of s.set s.service t && same_text s.rt t.rt) (same_flag s.tp t.tp) (but_ta s t h)

same_of : (s t : Seen) → is_same s t ≡ true → is_of s.set s.service t ≡ true
same_of s t h = and_left (is_of s.set s.service t) (same_text s.rt t.rt) (of_text s t h)

same_is : (s t : Seen) → is_same s t ≡ true → s ≡ t
same_is s t h =
    let key = same_of s t h in
    seen_is s t (sym (same_number t.set s.set (and_left (t.set == s.set) (t.service == s.service) key)))
    (sym (same_number t.service s.service (and_right (t.set == s.set) (t.service == s.service) key)))
    (text_is s.rt t.rt (and_right (is_of s.set s.service t) (same_text s.rt t.rt) (of_text s t h)))
    (flag_is s.tp t.tp
    (and_right (is_of s.set s.service t && same_text s.rt t.rt) (same_flag s.tp t.tp) (but_ta s t h)))
    (flag_is s.ta t.ta
    (and_right ((is_of s.set s.service t && same_text s.rt t.rt) && same_flag s.tp t.tp) (same_flag s.ta t.ta) h))

both : (a b : Bool) → a ≡ true → b ≡ true → a && b ≡ true
both a b h h' = ap (λ t. t && b) h ∙ h'

pub of_itself : (s : Seen) → is_of s.set s.service s ≡ true
of_itself s = both (s.set == s.set) (s.service == s.service) (itself s.set) (itself s.service)

same_itself : (s : Seen) → is_same s s ≡ true
same_itself s =
    both ((is_of s.set s.service s && same_text s.rt s.rt) && same_flag s.tp s.tp) (same_flag s.ta s.ta)
    (both (is_of s.set s.service s && same_text s.rt s.rt) (same_flag s.tp s.tp)
    (both (is_of s.set s.service s) (same_text s.rt s.rt) (of_itself s) (text_itself s.rt)) (flag_itself s.tp))
    (flag_itself s.ta)

of_set : (a b : ℕ) (s : Seen) → is_of a b s ≡ true → s.set ≡ a
of_set a b s h = same_number s.set a (and_left (s.set == a) _ h)

of_service : (a b : ℕ) (s : Seen) → is_of a b s ≡ true → s.service ≡ b
of_service a b s h = same_number s.service b (and_right (s.set == a) _ h)

-- ---- what is shown of one, among some
true_not_false : (b : Bool) → b ≡ true → b ≡ false → ⊥
true_not_false b h h' = absurd (cc (h, h'))

here : (a b : ℕ) (s : Seen) (ss : List Seen) → is_of a b s ≡ true → shown_in a b (s ∷ ss) ≡ s
here a b s ss h = ap (λ t. unwrap_or (cond t (Some s) (find (is_of a b) ss)) (unseen a b)) h

elsewhere : (a b : ℕ) (s : Seen) (ss : List Seen) → is_of a b s ≡ false → shown_in a b (s ∷ ss) ≡ shown_in a b ss
elsewhere a b s ss h = ap (λ t. unwrap_or (cond t (Some s) (find (is_of a b) ss)) (unseen a b)) h

nowhere : (a b : ℕ) (ss : List Seen) → has_it a b ss ≡ false → shown_in a b ss ≡ unseen a b
nowhere a b [] h = refl
nowhere a b (s ∷ ss) h =
    elsewhere a b s ss (or_left (is_of a b s) _ h) ∙ nowhere a b ss (or_right (is_of a b s) _ h)

-- one that stands among them is shown so, where none stands there twice
others : (ss : List Seen) (s : Seen) → has_it s.set s.service ss ≡ false
    → All (λ t. is_of t.set t.service s ≡ false) ss
others [] s h = All-nil (λ t. is_of t.set t.service s ≡ false)
others (t ∷ ss) s h =
    All-cons (λ u. is_of u.set u.service s ≡ false) t ss
    (of_turned t s ∙ or_left (is_of s.set s.service t) _ h) (others ss s (or_right (is_of s.set s.service t) _ h))

pub both_hold : {X : Type 0} (P Q : X → Type 0) (xs : List X) → All P xs → All Q xs → All (λ x. P x × Q x) xs
both_hold P Q xs h h' = λ k d lt. (h k d lt, h' k d lt)

each_found : (ss : List Seen) → AreApart ss → All (λ s. shown_in s.set s.service ss ≡ s) ss
each_found [] h = All-nil (λ s. shown_in s.set s.service [] ≡ s)
each_found (s ∷ ss) h =
    All-cons (λ t. shown_in t.set t.service (s ∷ ss) ≡ t) s ss (here s.set s.service s ss (of_itself s))
    (All-weaker (λ t. (is_of t.set t.service s ≡ false) × (shown_in t.set t.service ss ≡ t))
    (λ t. shown_in t.set t.service (s ∷ ss) ≡ t) (λ t k. elsewhere t.set t.service s ss k.0 ∙ k.1) ss
    (both_hold (λ t. is_of t.set t.service s ≡ false) (λ t. shown_in t.set t.service ss ≡ t) ss (others ss s h.0)
    (each_found ss h.1)))

-- ---- what was so before
late : (b c : Bool) → c ≡ true → b || c ≡ true
late true c h = refl
late false c h = h

has_first : (b : Bool) (s t : Seen) (ss : List Seen) → is_same s t ≡ b
    → is_same s t || list_any (is_same s) ss ≡ true
    → (list_any (is_same s) ss ≡ true → has_it s.set s.service ss ≡ true) → has_it s.set s.service (t ∷ ss) ≡ true
has_first true s t ss is h rest = ap (λ x. x || has_it s.set s.service ss) (same_of s t is)
has_first false s t ss is h rest =
    late (is_of s.set s.service t) (has_it s.set s.service ss)
    (rest (sym (ap (λ x. x || list_any (is_same s) ss) is) ∙ h))

same_has : (s : Seen) (ss : List Seen) → list_any (is_same s) ss ≡ true → has_it s.set s.service ss ≡ true
same_has s [] h = absurd (cc h)
same_has s (t ∷ ss) h = has_first (is_same s t) s t ss refl h (same_has s ss)

shown_first : (b c : Bool) (s t : Seen) (ss : List Seen) → AreApart (t ∷ ss) → is_same s t ≡ b
    → is_of s.set s.service t ≡ c → is_same s t || list_any (is_same s) ss ≡ true
    → (list_any (is_same s) ss ≡ true → shown_in s.set s.service ss ≡ s) → shown_in s.set s.service (t ∷ ss) ≡ s
shown_first true c s t ss h is of any rest = here s.set s.service t ss (same_of s t is) ∙ sym (same_is s t is)
shown_first false true s t ss h is of any rest =
    let more : list_any (is_same s) ss ≡ true = sym (ap (λ x. x || list_any (is_same s) ss) is) ∙ any in
    let a : t.set ≡ s.set = of_set s.set s.service t of in
    let b : t.service ≡ s.service = of_service s.set s.service t of in
    let none : has_it s.set s.service ss ≡ false =
    sym (ap (λ n. has_it n t.service ss) a ∙ ap (λ n. has_it s.set n ss) b) ∙ h.0 in
    absurd (true_not_false (has_it s.set s.service ss) (same_has s ss more) none)
shown_first false false s t ss h is of any rest =
    elsewhere s.set s.service t ss of ∙ rest (sym (ap (λ x. x || list_any (is_same s) ss) is) ∙ any)

same_shown : (s : Seen) (ss : List Seen) → AreApart ss → list_any (is_same s) ss ≡ true
    → shown_in s.set s.service ss ≡ s
same_shown s [] h any = absurd (cc any)
same_shown s (t ∷ ss) h any =
    shown_first (is_same s t) (is_of s.set s.service t) s t ss h refl refl any (same_shown s ss h.1)

not_true : (b : Bool) → not b ≡ true → b ≡ false
not_true true h = cc
not_true false h = refl

so_before : (before : List Seen) (s : Seen) → AreApart before → was_so before s ≡ true
    → shown_in s.set s.service before ≡ s
so_before before s h so = by (list_any (is_same s) before) refl
  where
    by : (b : Bool) → list_any (is_same s) before ≡ b → shown_in s.set s.service before ≡ s
    by true is = same_shown s before h is
    by false is =
        let rest : is_nothing s && not (has_it s.set s.service before) ≡ true =
        sym (ap (λ x. x || is_nothing s && not (has_it s.set s.service before)) is) ∙ so in
        nowhere s.set s.service before (not_true _ (and_right (is_nothing s) _ rest))
        ∙ same_is (unseen s.set s.service) s (and_left (is_nothing s) _ rest)

so_first : (b : Bool) (s t : Seen) (ss : List Seen) → is_of s.set s.service t ≡ b
    → is_of s.set s.service t || has_it s.set s.service ss ≡ true → shown_in s.set s.service (t ∷ ss) ≡ s
    → (has_it s.set s.service ss ≡ true → shown_in s.set s.service ss ≡ s → list_any (is_same s) ss ≡ true)
    → is_same s t || list_any (is_same s) ss ≡ true
so_first true s t ss of h is rest =
    let it : t ≡ s = sym (here s.set s.service t ss of) ∙ is in
    ap (λ b. b || list_any (is_same s) ss) (ap (is_same s) it ∙ same_itself s)
so_first false s t ss of h is rest =
    late (is_same s t) (list_any (is_same s) ss) (rest (sym (ap (λ b. b || has_it s.set s.service ss) of) ∙ h)
    (sym (elsewhere s.set s.service t ss of) ∙ is))

has_so : (ss : List Seen) (s : Seen) → has_it s.set s.service ss ≡ true → shown_in s.set s.service ss ≡ s
    → list_any (is_same s) ss ≡ true
has_so [] s h is = absurd (cc h)
has_so (t ∷ ss) s h is = so_first (is_of s.set s.service t) s t ss refl h is (has_so ss s)

not_so : (before : List Seen) (s : Seen) → was_so before s ≡ false → s ≢ shown_in s.set s.service before
not_so before s other is = by (has_it s.set s.service before) refl
  where
    by : (b : Bool) → has_it s.set s.service before ≡ b → ⊥
    by true has =
        true_not_false (list_any (is_same s) before) (has_so before s has (sym is))
        (or_left (list_any (is_same s) before) _ other)
    by false has =
        let nothing : s ≡ unseen s.set s.service = is ∙ nowhere s.set s.service before has in
        let none : is_nothing s ≡ true = ap (λ t. is_same t s) (sym nothing) ∙ same_itself s in
        true_not_false (is_nothing s && not (has_it s.set s.service before))
        (both (is_nothing s) (not (has_it s.set s.service before)) none (ap not has))
        (or_right (list_any (is_same s) before) _ other)

-- ---- what rows say
said_both : (a b : ℕ) (x : Seen) (cs ds : List Change) → said a b x (cs ++ ds) ≡ said a b (said a b x cs) ds
said_both a b x [] ds = refl
said_both a b x (c ∷ cs) ds = said_both a b (cond (is_of a b c.seen) c.seen x) cs ds

-- of another service rows say nothing
passed : (a b : ℕ) (so : Bool) (came : ℕ) (s : Seen) (x : Seen) (cs : List Change) → is_of a b s ≡ false
    → said a b x (cond so [] (record { came = came; seen = s } ∷ []) ++ cs) ≡ said a b x cs
passed a b true came s x cs h = refl
passed a b false came s x cs h = ap (λ t. said a b (cond t s x) cs) h

says_none : (a b came : ℕ) (before ss : List Seen) (x : Seen) → has_it a b ss ≡ false
    → said a b x (flat_map (changed came before) ss) ≡ x
says_none a b came before [] x h = refl
says_none a b came before (s ∷ ss) x h =
    passed a b (was_so before s) came s x (flat_map (changed came before) ss) (or_left (is_of a b s) _ h)
    ∙ says_none a b came before ss x (or_right (is_of a b s) _ h)

-- of a service that is shown they say what is shown
says_it : (so : Bool) (a b came : ℕ) (before : List Seen) (s : Seen) (ss : List Seen) (x : Seen)
    → was_so before s ≡ so → AreApart before → is_of a b s ≡ true → has_it a b ss ≡ false
    → x ≡ shown_in a b before
    → said a b x (cond so [] (record { came = came; seen = s } ∷ []) ++ flat_map (changed came before) ss) ≡ s
says_it true a b came before s ss x so h of none is =
    says_none a b came before ss x none ∙ is
    ∙ sym (ap (λ n. shown_in n s.service before) (of_set a b s of)
    ∙ ap (λ n. shown_in a n before) (of_service a b s of))
    ∙ so_before before s h so
says_it false a b came before s ss x so h of none is =
    ap (λ t. said a b (cond t s x) (flat_map (changed came before) ss)) of ∙ says_none a b came before ss s none

shown_next : (c : Bool) (a b came : ℕ) (before : List Seen) (s : Seen) (ss : List Seen) (x : Seen)
    → is_of a b s ≡ c → AreApart before → AreApart (s ∷ ss) → is_of a b s || has_it a b ss ≡ true
    → x ≡ shown_in a b before
    → (has_it a b ss ≡ true → said a b x (flat_map (changed came before) ss) ≡ shown_in a b ss)
    → said a b x (changed came before s ++ flat_map (changed came before) ss) ≡ shown_in a b (s ∷ ss)
shown_next true a b came before s ss x of h h' has is rest =
    let none : has_it a b ss ≡ false =
    sym (ap (λ n. has_it n s.service ss) (of_set a b s of) ∙ ap (λ n. has_it a n ss) (of_service a b s of)) ∙ h'.0 in
    says_it (was_so before s) a b came before s ss x refl h of none is ∙ sym (here a b s ss of)
shown_next false a b came before s ss x of h h' has is rest =
    passed a b (was_so before s) came s x (flat_map (changed came before) ss) of
    ∙ rest (sym (ap (λ t. t || has_it a b ss) of) ∙ has) ∙ sym (elsewhere a b s ss of)

says_shown : (a b came : ℕ) (before ss : List Seen) (x : Seen) → AreApart before → AreApart ss
    → has_it a b ss ≡ true → x ≡ shown_in a b before
    → said a b x (flat_map (changed came before) ss) ≡ shown_in a b ss
says_shown a b came before [] x h h' has is = absurd (cc has)
says_shown a b came before (s ∷ ss) x h h' has is =
    shown_next (is_of a b s) a b came before s ss x refl h h' has is
    (λ more. says_shown a b came before ss x h h'.1 more is)

-- of one that is shown no more they say nothing
ended_passed : (a b : ℕ) (over : Bool) (came : ℕ) (s : Seen) (x : Seen) (cs : List Change) → is_of a b s ≡ false
    → said a b x (cond over [] (record { came = came; seen = unseen s.set s.service } ∷ []) ++ cs) ≡ said a b x cs
ended_passed a b true came s x cs h = refl
ended_passed a b false came s x cs h = ap (λ t. said a b (cond t (unseen s.set s.service) x) cs) h

over_none : (a b came : ℕ) (behind ss : List Seen) (x : Seen) → has_it a b ss ≡ false
    → said a b x (flat_map (ended came behind) ss) ≡ x
over_none a b came behind [] x h = refl
over_none a b came behind (s ∷ ss) x h =
    ended_passed a b (has_it s.set s.service behind || is_nothing s) came s x (flat_map (ended came behind) ss)
    (or_left (is_of a b s) _ h)
    ∙ over_none a b came behind ss x (or_right (is_of a b s) _ h)

stays_next : (c : Bool) (a b came : ℕ) (behind : List Seen) (s : Seen) (ss : List Seen) (x : Seen)
    → is_of a b s ≡ c → has_it a b behind ≡ true → said a b x (flat_map (ended came behind) ss) ≡ x
    → said a b x (ended came behind s ++ flat_map (ended came behind) ss) ≡ x
stays_next true a b came behind s ss x of h rest =
    let has : has_it s.set s.service behind ≡ true =
    ap (λ n. has_it n s.service behind) (of_set a b s of) ∙ ap (λ n. has_it a n behind) (of_service a b s of) ∙ h in
    ap (λ t. said a b x (cond (t || is_nothing s) []
    (record { came = came; seen = unseen s.set s.service } ∷ []) ++ flat_map (ended came behind) ss)) has
    ∙ rest
stays_next false a b came behind s ss x of h rest =
    ended_passed a b (has_it s.set s.service behind || is_nothing s) came s x (flat_map (ended came behind) ss) of
    ∙ rest

over_stays : (a b came : ℕ) (behind ss : List Seen) (x : Seen) → has_it a b behind ≡ true
    → said a b x (flat_map (ended came behind) ss) ≡ x
over_stays a b came behind [] x h = refl
over_stays a b came behind (s ∷ ss) x h =
    stays_next (is_of a b s) a b came behind s ss x refl h (over_stays a b came behind ss x h)

over_it : (nothing : Bool) (a b came : ℕ) (behind : List Seen) (s : Seen) (ss : List Seen) (x : Seen)
    → is_nothing s ≡ nothing → is_of a b s ≡ true → has_it a b ss ≡ false → x ≡ s
    → said a b x (cond nothing [] (record { came = came; seen = unseen s.set s.service } ∷ [])
    ++ flat_map (ended came behind) ss) ≡ unseen a b
over_it true a b came behind s ss x empty of none is =
    over_none a b came behind ss x none ∙ is ∙ sym (same_is (unseen s.set s.service) s empty)
    ∙ ap (λ n. unseen n s.service) (of_set a b s of) ∙ ap (λ n. unseen a n) (of_service a b s of)
over_it false a b came behind s ss x empty of none is =
    ap (λ t. said a b (cond t (unseen s.set s.service) x) (flat_map (ended came behind) ss)) of
    ∙ over_none a b came behind ss (unseen s.set s.service) none
    ∙ ap (λ n. unseen n s.service) (of_set a b s of) ∙ ap (λ n. unseen a n) (of_service a b s of)

over_next : (c : Bool) (a b came : ℕ) (behind : List Seen) (s : Seen) (ss : List Seen) (x : Seen)
    → is_of a b s ≡ c → AreApart (s ∷ ss) → has_it a b behind ≡ false → x ≡ shown_in a b (s ∷ ss)
    → (x ≡ shown_in a b ss → said a b x (flat_map (ended came behind) ss) ≡ unseen a b)
    → said a b x (ended came behind s ++ flat_map (ended came behind) ss) ≡ unseen a b
over_next true a b came behind s ss x of h gone is rest =
    let none : has_it a b ss ≡ false =
    sym (ap (λ n. has_it n s.service ss) (of_set a b s of) ∙ ap (λ n. has_it a n ss) (of_service a b s of)) ∙ h.0 in
    let hasnt : has_it s.set s.service behind ≡ false =
    ap (λ n. has_it n s.service behind) (of_set a b s of) ∙ ap (λ n. has_it a n behind) (of_service a b s of)
    ∙ gone in
    ap (λ t. said a b x (cond (t || is_nothing s) []
    (record { came = came; seen = unseen s.set s.service } ∷ []) ++ flat_map (ended came behind) ss)) hasnt
    ∙ over_it (is_nothing s) a b came behind s ss x refl of none (is ∙ here a b s ss of)
over_next false a b came behind s ss x of h gone is rest =
    ended_passed a b (has_it s.set s.service behind || is_nothing s) came s x (flat_map (ended came behind) ss) of
    ∙ rest (is ∙ elsewhere a b s ss of)

over : (a b came : ℕ) (behind ss : List Seen) (x : Seen) → AreApart ss → has_it a b behind ≡ false
    → x ≡ shown_in a b ss → said a b x (flat_map (ended came behind) ss) ≡ unseen a b
over a b came behind [] x h gone is = is
over a b came behind (s ∷ ss) x h gone is =
    over_next (is_of a b s) a b came behind s ss x refl h gone is (λ so. over a b came behind ss x h.1 gone so)

object_said : (a b came : ℕ) (before behind : List Seen) → AreApart before → AreApart behind
    → said a b (shown_in a b before) (changes came before behind) ≡ shown_in a b behind
object_said a b came before behind h h' =
    said_both a b (shown_in a b before) (flat_map (changed came before) behind) (flat_map (ended came behind) before)
    ∙ by (has_it a b behind) refl
  where
    by : (has : Bool) → has_it a b behind ≡ has
        → said a b (said a b (shown_in a b before) (flat_map (changed came before) behind))
        (flat_map (ended came behind) before) ≡ shown_in a b behind
    by true has =
        over_stays a b came behind before _ has ∙ says_shown a b came before behind _ h h' has refl
    by false has =
        ap (λ y. said a b y (flat_map (ended came behind) before)) (says_none a b came before behind _ has)
        ∙ over a b came behind before (shown_in a b before) h has refl ∙ sym (nowhere a b behind has)

all_said : (a b : ℕ) (ds : List Arrived) (l : Line) → AirsApart l
    → said a b (shown_on a b l) (all_rows ds l) ≡ shown_on a b (line_behind ds l)
all_said a b [] l h = refl
all_said a b (d ∷ ds) l h =
    said_both a b (shown_on a b l) (rows_of d l) (all_rows ds (line_after d l))
    ∙ ap (λ y. said a b y (all_rows ds (line_after d l)))
    (object_said a b d.came (seen_on l) (seen_on (line_after d l)) (shown_apart l h)
    (shown_apart (line_after d l) (after_apart d l h)))
    ∙ all_said a b ds (line_after d l) (after_apart d l h)

pub history_exactly : (ds : List Arrived) (name : List ℕ) → let l = line_behind ds (new_line name) in
    (l.history ≡ last_1000 (all_rows ds (new_line name)))
    × ((set service : ℕ)
    → said set service (unseen set service) (all_rows ds (new_line name)) ≡ shown_on set service l)
history_exactly ds name = (
  history_once ds (new_line name) (omega arith),
  λ set service. all_said set service ds (new_line name) (new_apart_line name),
)

-- ---- no row without a change
abbrev IsChange : (before behind : List Seen) → Change → Type 0
IsChange before behind c =
    (c.seen ≡ shown_in c.seen.set c.seen.service behind) × (c.seen ≢ shown_in c.seen.set c.seen.service before)

changed_so : (so : Bool) (came : ℕ) (before behind : List Seen) (s : Seen) → was_so before s ≡ so
    → shown_in s.set s.service behind ≡ s
    → All (IsChange before behind) (cond so [] (record { came = came; seen = s } ∷ []))
changed_so true came before behind s so is = All-nil (IsChange before behind)
changed_so false came before behind s so is =
    All-cons (IsChange before behind) (record { came = came; seen = s }) [] (sym is, not_so before s so)
    (All-nil (IsChange before behind))

each_changed : (came : ℕ) (before behind ss : List Seen) → All (λ s. shown_in s.set s.service behind ≡ s) ss
    → All (IsChange before behind) (flat_map (changed came before) ss)
each_changed came before behind [] h = All-nil (IsChange before behind)
each_changed came before behind (s ∷ ss) h =
    All-append (IsChange before behind) (changed came before s) (flat_map (changed came before) ss)
    (changed_so (was_so before s) came before behind s refl
    (All-head (λ t. shown_in t.set t.service behind ≡ t) s ss h))
    (each_changed came before behind ss (All-tail (λ t. shown_in t.set t.service behind ≡ t) s ss h))

ended_so : (has nothing : Bool) (came : ℕ) (before behind : List Seen) (s : Seen)
    → has_it s.set s.service behind ≡ has → is_nothing s ≡ nothing → shown_in s.set s.service before ≡ s
    → All (IsChange before behind)
    (cond (has || nothing) [] (record { came = came; seen = unseen s.set s.service } ∷ []))
ended_so true nothing came before behind s has empty is = All-nil (IsChange before behind)
ended_so false true came before behind s has empty is = All-nil (IsChange before behind)
ended_so false false came before behind s has empty is =
    All-cons (IsChange before behind) (record { came = came; seen = unseen s.set s.service }) [] (
      sym (nowhere s.set s.service behind has),
      λ e. true_not_false (is_nothing s)
          (ap (λ t. is_same t s) (e ∙ is) ∙ same_itself s) empty,
    )
    (All-nil (IsChange before behind))

each_ended : (came : ℕ) (before behind ss : List Seen) → All (λ s. shown_in s.set s.service before ≡ s) ss
    → All (IsChange before behind) (flat_map (ended came behind) ss)
each_ended came before behind [] h = All-nil (IsChange before behind)
each_ended came before behind (s ∷ ss) h =
    All-append (IsChange before behind) (ended came behind s) (flat_map (ended came behind) ss)
    (ended_so (has_it s.set s.service behind) (is_nothing s) came before behind s refl refl
    (All-head (λ t. shown_in t.set t.service before ≡ t) s ss h))
    (each_ended came before behind ss (All-tail (λ t. shown_in t.set t.service before ≡ t) s ss h))

pub no_row_without_change : (ds : List Arrived) (name : List ℕ) (d : Arrived) →
    let l = line_behind ds (new_line name) in
    All (λ c. (c.seen ≡ shown_on c.seen.set c.seen.service (line_after d l))
    × (c.seen ≢ shown_on c.seen.set c.seen.service l)) (rows_of d l)
no_row_without_change ds name d =
    let l = line_behind ds (new_line name) in
    let h = behind_apart ds (new_line name) (new_apart_line name) in
    let before = seen_on l in
    let behind = seen_on (line_after d l) in
    All-append (IsChange before behind) (flat_map (changed d.came before) behind)
    (flat_map (ended d.came behind) before)
    (each_changed d.came before behind behind (each_found behind (shown_apart (line_after d l) (after_apart d l h))))
    (each_ended d.came before behind before (each_found before (shown_apart l h)))

-- ---- since when an announcement is on
abbrev its : (came : ℕ) → (before : List Announcement) → Seen → Announcement
its came before s = record {
  set = s.set;
  service = s.service;
  since = unwrap_or (since_of s.set s.service before) came;
}

skipped : (a b : ℕ) (on : Bool) (came : ℕ) (before : List Announcement) (s : Seen) (rest : List Announcement)
    → is_of a b s ≡ false → since_of a b (cond on (its came before s ∷ []) [] ++ rest) ≡ since_of a b rest
skipped a b true came before s rest h =
    ap (λ t. option_map (λ (x : Announcement). x.since) (cond t (Some (its came before s)) (find (is_its a b) rest))) h
skipped a b false came before s rest h = refl

counted : (a b : ℕ) (on : Bool) (came : ℕ) (before : List Announcement) (s : Seen) (rest : List Announcement)
    → is_of a b s ≡ true → since_of a b rest ≡ None
    → since_of a b (cond on (its came before s ∷ []) [] ++ rest)
    ≡ cond on (Some (unwrap_or (since_of a b before) came)) None
counted a b true came before s rest h none =
    ap (λ t. option_map (λ (x : Announcement). x.since) (cond t (Some (its came before s)) (find (is_its a b) rest))) h
    ∙ ap (λ n. Some (unwrap_or (since_of n s.service before) came)) (of_set a b s h)
    ∙ ap (λ n. Some (unwrap_or (since_of a n before) came)) (of_service a b s h)
counted a b false came before s rest h none = none

off : (a b came : ℕ) (before : List Announcement) (ss : List Seen) → has_it a b ss ≡ false
    → since_of a b (flat_map (announcing came before) ss) ≡ None
off a b came before [] h = refl
off a b came before (s ∷ ss) h =
    skipped a b (is_flag s.ta) came before s (flat_map (announcing came before) ss) (or_left (is_of a b s) _ h)
    ∙ off a b came before ss (or_right (is_of a b s) _ h)

-- behind an object one of a service is on where TA of that is shown as on: since when it was on, or since then
abbrev OnSince : (a b came : ℕ) → (before : List Announcement) → (shown : Seen) → (found : Option ℕ) → Type 0
OnSince a b came before shown found =
    found ≡ cond (is_flag shown.ta) (Some (unwrap_or (since_of a b before) came)) None

since_next : (c : Bool) (a b came : ℕ) (before : List Announcement) (s : Seen) (ss : List Seen) → is_of a b s ≡ c
    → AreApart (s ∷ ss)
    → OnSince a b came before (shown_in a b ss) (since_of a b (flat_map (announcing came before) ss))
    → OnSince a b came before (shown_in a b (s ∷ ss))
    (since_of a b (announcing came before s ++ flat_map (announcing came before) ss))
since_next true a b came before s ss of h rest =
    let none : has_it a b ss ≡ false =
    sym (ap (λ n. has_it n s.service ss) (of_set a b s of) ∙ ap (λ n. has_it a n ss) (of_service a b s of)) ∙ h.0 in
    counted a b (is_flag s.ta) came before s (flat_map (announcing came before) ss) of (off a b came before ss none)
    ∙ sym (ap (λ (t : Seen). cond (is_flag t.ta) (Some (unwrap_or (since_of a b before) came)) None)
    (here a b s ss of))
since_next false a b came before s ss of h rest =
    skipped a b (is_flag s.ta) came before s (flat_map (announcing came before) ss) of ∙ rest
    ∙ sym (ap (λ (t : Seen). cond (is_flag t.ta) (Some (unwrap_or (since_of a b before) came)) None)
    (elsewhere a b s ss of))

on_since : (a b came : ℕ) (before : List Announcement) (ss : List Seen) → AreApart ss
    → OnSince a b came before (shown_in a b ss) (since_of a b (flat_map (announcing came before) ss))
on_since a b came before [] h = refl
on_since a b came before (s ∷ ss) h =
    since_next (is_of a b s) a b came before s ss refl h (on_since a b came before ss h.1)

on_behind : (a b : ℕ) (d : Arrived) (l : Line) → AirsApart l
    → since_of a b (line_after d l).announced
    ≡ cond (is_on a b (line_after d l)) (Some (unwrap_or (since_of a b l.announced) d.came)) None
unfolding announced_after
on_behind a b d l h =
    on_since a b d.came l.announced (seen_on (line_after d l)) (shown_apart (line_after d l) (after_apart d l h))

-- where it is shown as off none is on
abbrev OffIsNone : (a b : ℕ) → Line → Type 0
OffIsNone a b l = is_on a b l ≡ false → since_of a b l.announced ≡ None

off_after : (a b : ℕ) (d : Arrived) (l : Line) → AirsApart l → OffIsNone a b (line_after d l)
off_after a b d l h is =
    on_behind a b d l h
    ∙ ap (λ t. cond t (Some (unwrap_or (since_of a b l.announced) d.came)) None) is

off_behind : (a b : ℕ) (ds : List Arrived) (l : Line) → AirsApart l → OffIsNone a b l
    → OffIsNone a b (line_behind ds l)
off_behind a b [] l h none = none
off_behind a b (d ∷ ds) l h none = off_behind a b ds (line_after d l) (after_apart d l h) (off_after a b d l h)

stays_on : (a b came : ℕ) (ds : List Arrived) (l : Line) → AirsApart l → since_of a b l.announced ≡ Some came
    → StaysOn a b ds l → since_of a b (line_behind ds l).announced ≡ Some came
stays_on a b came [] l h is stays = is
stays_on a b came (d ∷ ds) l h is stays =
    stays_on a b came ds (line_after d l) (after_apart d l h)
    (on_behind a b d l h
    ∙ ap (λ t. cond t (Some (unwrap_or (since_of a b l.announced) d.came)) None) stays.0
    ∙ ap (λ o. Some (unwrap_or o d.came)) is)
    stays.1

pub announced_exactly : (before : List Arrived) (name : List ℕ) (set service : ℕ) →
    let l = line_behind before (new_line name) in is_on set service l ≡ false
    → (since_of set service l.announced ≡ None)
    × ((d : Arrived) (ds : List Arrived) → StaysOn set service (d ∷ ds) l
    → since_of set service (line_behind (d ∷ ds) l).announced ≡ Some d.came)
announced_exactly before name set service is =
    let l = line_behind before (new_line name) in
    let h = behind_apart before (new_line name) (new_apart_line name) in
    let none = off_behind set service before (new_line name) (new_apart_line name) (λ _. refl) is in (
      none,
      λ d ds stays. stays_on set service d.came ds (line_after d l) (after_apart d l h)
          (on_behind set service d l h
          ∙ ap (λ t. cond t (Some (unwrap_or (since_of set service l.announced) d.came)) None) stays.0
          ∙ ap (λ o. Some (unwrap_or o d.came)) none)
          stays.1,
    )
