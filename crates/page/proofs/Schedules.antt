-- A browser is sent each event once, over every schedule.
use Rattle.std.proofs.Common.{◌≡◌, ℕ, zero, suc, ◌+◌, ◌-◌, ◌<◌, ◌≤◌, ◌⊎◌, inl, inr, Bool, true, false, cond, List, []}
use Rattle.std.proofs.Common.{◌∷◌, ◌++◌, length, take, drop, map, get_or, refl, ◌∙◌, ap, sym, subst, arith, Some}
use Rattle.std.specs.Prelude.{nat_lt, nat_le, max, option_map}
use Rattle.std.proofs.lemmas.Bool.{cases_lt}
use Rattle.std.specs.List.{slice_get}
use Rattle.std.proofs.lemmas.List.{append-nil, append_assoc, length_push, drop_all, length-map}
use Rattle.std.proofs.lemmas.Option.{same_Some, slice_get-map, slice_get_read}
use Rattle.page.specs.Events.{Event, Past, numbered, kept, next, surplus, with_line, from}
use Rattle.page.specs.Laws.{Step, comes, sends, World, waiting, IsLost, happens, run, lines_in, events_in}
use Rattle.page.specs.Laws.{begins, EachOnce, BeginningOnce, OwedNewer}

-- ---- events from a number on
event : ℕ → List ℕ → Event
event n l = record { number = n; line = l }

pub from_all : (d f : ℕ) (ls : List (List ℕ)) → d ≤ f → from d (numbered f ls) ≡ numbered f ls
from_all d f [] h = refl
from_all d f (l ∷ ls) h =
    let here : nat_le d f ≡ true = grind (arith, h) in
    ap (λ t. cond t (record { number = f; line = l } ∷ from d (numbered (f + 1) ls)) (from d (numbered (f + 1) ls)))
    here
    ∙ ap (λ es. record { number = f; line = l } ∷ es) (from_all d (f + 1) ls (omega arith))

from_later : (k f : ℕ) (ls : List (List ℕ)) → from (f + k) (numbered f ls) ≡ numbered (f + k) (drop k ls)
from_later zero f ls =
    let same : f ≡ f + 0 = omega arith in
    from_all (f + 0) f ls (omega arith) ∙ ap (λ n. numbered n ls) same
from_later (suc k) f [] = refl
from_later (suc k) f (l ∷ ls) =
    let here : nat_le (f + suc k) f ≡ false = grind arith in
    let same : f + suc k ≡ (f + 1) + k = omega arith in
    ap (λ t. cond t (record { number = f; line = l } ∷ from (f + suc k) (numbered (f + 1) ls))
    (from (f + suc k) (numbered (f + 1) ls))) here
    ∙ ap (λ n. from n (numbered (f + 1) ls)) same
    ∙ from_later k (f + 1) ls
    ∙ ap (λ n. numbered n (drop k ls)) (sym same)

-- the same for a number that is not less than the first
pub from_drop : (d f : ℕ) (ls : List (List ℕ)) → f ≤ d → from d (numbered f ls) ≡ numbered d (drop (d - f) ls)
from_drop d f ls h =
    let same : d ≡ f + (d - f) = omega (arith, h) in
    ap (λ n. from n (numbered f ls)) same ∙ from_later (d - f) f ls ∙ ap (λ n. numbered n (drop (d - f) ls)) (sym same)

-- ---- parts of lists
numbered-append : (f : ℕ) (xs ys : List (List ℕ)) → numbered f (xs ++ ys) ≡ numbered f xs ++ numbered (f + length xs) ys
numbered-append f [] ys =
    let same : f ≡ f + 0 = omega arith in
    ap (λ n. numbered n ys) same
numbered-append f (x ∷ xs) ys =
    let same : (f + 1) + length xs ≡ f + suc (length xs) = omega arith in
    ap (λ es. record { number = f; line = x } ∷ es) (numbered-append (f + 1) xs ys
    ∙ ap (λ n. numbered (f + 1) xs ++ numbered n ys) same)

pub length-numbered : (f : ℕ) (ls : List (List ℕ)) → length (numbered f ls) ≡ length ls
length-numbered f [] = refl
length-numbered f (l ∷ ls) = ap suc (length-numbered (f + 1) ls)

take-numbered : (n f : ℕ) (ls : List (List ℕ)) → take n (numbered f ls) ≡ numbered f (take n ls)
take-numbered zero f ls = refl
take-numbered (suc n) f [] = refl
take-numbered (suc n) f (l ∷ ls) = ap (λ es. record { number = f; line = l } ∷ es) (take-numbered n (f + 1) ls)

drop_nil : (n : ℕ) → drop n (let none : List (List ℕ) = [] in none) ≡ []
drop_nil zero = refl
drop_nil (suc n) = refl

-- what is taken of a front of a list, and what is behind it
taken_front : (n d : ℕ) (xs more : List (List ℕ))
    → drop d (xs ++ more) ≡ take n (drop d xs) ++ drop (d + length (take n (drop d xs))) (xs ++ more)
taken_front zero d xs more =
    let same : d ≡ d + 0 = omega arith in
    ap (λ k. drop k (xs ++ more)) same
taken_front (suc n) zero [] more = refl
taken_front (suc n) zero (x ∷ xs) more =
    let same : 0 + length (take n xs) ≡ length (take n xs) = omega arith in
    let more_same : suc (length (take n xs)) ≡ 0 + suc (length (take n xs)) = omega arith in
    ap (λ ys. x ∷ ys) (taken_front n 0 xs more ∙ ap (λ k. take n xs ++ drop k (xs ++ more)) same)
    ∙ ap (λ k. (x ∷ take n xs) ++ drop k (x ∷ (xs ++ more))) more_same
taken_front (suc n) (suc d) [] more =
    let same : suc d ≡ suc d + 0 = omega arith in
    ap (λ k. drop k more) same
taken_front (suc n) (suc d) (x ∷ xs) more =
    let same : suc (d + length (take (suc n) (drop d xs))) ≡ suc d + length (take (suc n) (drop d xs)) = omega arith in
    taken_front (suc n) d xs more ∙ ap (λ k. take (suc n) (drop d xs) ++ drop k (x ∷ (xs ++ more))) same

-- ---- a line comes
drop-drop_append : (k : ℕ) (xs ys : List (List ℕ)) (d : ℕ) → k ≤ length xs
    → drop d (drop k xs ++ ys) ≡ drop (k + d) (xs ++ ys)
drop-drop_append zero xs ys d h =
    let same : d ≡ 0 + d = omega arith in
    ap (λ n. drop n (xs ++ ys)) same
drop-drop_append (suc k) [] ys d h = absurd (omega (arith, h))
drop-drop_append (suc k) (x ∷ xs) ys d h =
    let same : suc (k + d) ≡ suc k + d = omega arith in
    let less : k ≤ length xs = omega (arith, h) in
    drop-drop_append k xs ys d less ∙ ap (λ n. drop n (x ∷ (xs ++ ys))) same

came : (past : Past) (line : List ℕ) (later : List (List ℕ)) (owed : ℕ) → (with_line past line).first ≤ owed
    → from owed (numbered (with_line past line).first ((with_line past line).lines ++ later))
    ≡ from owed (numbered past.first (past.lines ++ line ∷ later))
came past line later owed h =
    let gone = surplus (length past.lines + 1) in
    let all = past.lines ++ line ∷ [] in
    let long : length all ≡ length past.lines + 1 = length_push past.lines line in
    let few : gone ≤ length all = omega (arith, long) in
    let before : past.first ≤ owed = omega (arith, h) in
    let place : gone + (owed - (past.first + gone)) ≡ owed - past.first = omega (arith, h) in
    from_drop owed (past.first + gone) (drop gone all ++ later) h
    ∙ ap (numbered owed) (drop-drop_append gone all later (owed - (past.first + gone)) few
    ∙ ap (λ n. drop n (all ++ later)) place
    ∙ ap (drop (owed - past.first)) (append_assoc past.lines (line ∷ []) later))
    ∙ sym (from_drop owed past.first (past.lines ++ line ∷ later) before)

-- ---- a browser is sent some
sent_some : (n f d : ℕ) (xs more : List (List ℕ)) → f ≤ d → let events = take n (from d (numbered f xs)) in
    from d (numbered f (xs ++ more)) ≡ events ++ from (d + length events) (numbered f (xs ++ more))
sent_some n f d xs more h =
    let lines = take n (drop (d - f) xs) in
    let events = take n (from d (numbered f xs)) in
    let are : events ≡ numbered d lines = ap (take n) (from_drop d f xs h) ∙ take-numbered n d (drop (d - f) xs) in
    let long : length events ≡ length lines = ap length are ∙ length-numbered d lines in
    let later : f ≤ d + length events = omega (arith, h) in
    let place : (d - f) + length lines ≡ (d + length events) - f = omega (arith, h, long) in
    let same : d + length lines ≡ d + length events = omega (arith, long) in
    from_drop d f (xs ++ more) h
    ∙ ap (numbered d) (taken_front n (d - f) xs more)
    ∙ numbered-append d lines (drop ((d - f) + length lines) (xs ++ more))
    ∙ ap (λ es. es ++ numbered (d + length lines) (drop ((d - f) + length lines) (xs ++ more))) (sym are)
    ∙ ap (λ m. events ++ numbered m (drop ((d - f) + length lines) (xs ++ more))) same
    ∙ ap (λ m. events ++ numbered (d + length events) (drop m (xs ++ more))) place
    ∙ ap (λ es. events ++ es) (sym (from_drop (d + length events) f (xs ++ more) later))

-- ---- who is lost stays so, and is sent nothing
pub not_sent : (w : World) (n : ℕ) → IsLost w → happens w (sends n) ≡ w
not_sent w n h =
    let lost : nat_lt w.owed w.past.first ≡ true = grind (arith, h) in
    let events = take n (waiting w) in
    ap (λ t. cond t w (record w { owed = w.owed + length events; sent = w.sent ++ events })) lost

pub is_sent : (w : World) (n : ℕ) → w.past.first ≤ w.owed → let events = take n (waiting w) in
    happens w (sends n) ≡ record w { owed = w.owed + length events; sent = w.sent ++ events }
is_sent w n h =
    let holds : nat_lt w.owed w.past.first ≡ false = grind (arith, h) in
    let events = take n (waiting w) in
    ap (λ t. cond t w (record w { owed = w.owed + length events; sent = w.sent ++ events })) holds

stays_lost : (steps : List Step) (w : World) → IsLost w → IsLost (run w steps) × ((run w steps).sent ≡ w.sent)
stays_lost [] w h = (h, refl)
stays_lost (comes line ∷ steps) w h = stays_lost steps (happens w (comes line)) (omega (arith, h))
stays_lost (sends n ∷ steps) w h =
    let P : World → Type 0 = λ v. IsLost (run v steps) × ((run v steps).sent ≡ w.sent) in
    subst P (sym (not_sent w n h)) (stays_lost steps w h)

-- ---- the laws
Exact : World → List Step → Type 0
Exact w steps = IsLost (run w steps) ⊎ ((run w steps).sent ++ waiting (run w steps) ≡ w.sent
    ++ from w.owed (events_in w.past steps))

exact : (steps : List Step) (w : World) → Exact w steps
unfolding Exact
exact [] w = inr (ap (λ ls. w.sent ++ from w.owed (numbered w.past.first ls)) (sym (append-nil w.past.lines)))
exact (comes line ∷ steps) w =
    elim (cases_lt w.owed (with_line w.past line).first) [
      | inl lost ↦ inl (stays_lost steps (happens w (comes line)) lost).0
      | inr holds ↦ elim (exact steps (happens w (comes line))) [
        | inl lost ↦ inl lost
        | inr same ↦ inr (same ∙ ap (λ es. w.sent ++ es) (came w.past line (lines_in steps) w.owed holds))
      ]
    ]
exact (sends n ∷ steps) w =
    elim (cases_lt w.owed w.past.first) [
      | inl lost ↦ inl (let P : World → Type 0 = λ v. IsLost (run v steps) in
          subst P (sym (not_sent w n lost)) (stays_lost steps w lost).0)
      | inr holds ↦
          let events = take n (waiting w) in
          let v : World = record w { owed = w.owed + length events; sent = w.sent ++ events } in
          let P : World → Type 0 = λ u. IsLost (run u steps)
          ⊎ ((run u steps).sent ++ waiting (run u steps) ≡ w.sent ++ from w.owed (events_in w.past steps)) in
          subst P (sym (is_sent w n holds)) (elim (exact steps v) [
            | inl lost ↦ inl lost
            | inr same ↦ inr (same ∙ append_assoc w.sent events (from v.owed (events_in w.past steps))
                ∙ ap (λ es. w.sent ++ es) (sym (sent_some n w.past.first w.owed w.past.lines (lines_in steps) holds)))
          ])
    ]

pub each_once_lem : EachOnce
unfolding Exact
each_once_lem past owed steps = exact steps (begins past owed)

Begun : World → List Step → Type 0
Begun w steps = (rest : List Event) × ((run w steps).sent ++ rest ≡ w.sent ++ from w.owed (events_in w.past steps))

begun : (steps : List Step) (w : World) → Begun w steps
unfolding Begun
begun [] w = (from w.owed (events_in w.past []), refl)
begun (comes line ∷ steps) w =
    elim (cases_lt w.owed (with_line w.past line).first) [
      | inl lost ↦ (
        from w.owed (events_in w.past (comes line ∷ steps)),
        ap (λ s. s ++ from w.owed (events_in w.past (comes line ∷ steps)))
            (stays_lost steps (happens w (comes line)) lost).1,
      )
      | inr holds ↦ let h = begun steps (happens w (comes line)) in
          (h.0, h.1 ∙ ap (λ es. w.sent ++ es) (came w.past line (lines_in steps) w.owed holds))
    ]
begun (sends n ∷ steps) w =
    elim (cases_lt w.owed w.past.first) [
      | inl lost ↦
          let all = from w.owed (events_in w.past steps) in
          let P : World → Type 0 = λ v. (run v steps).sent ++ all ≡ w.sent ++ all in
          (all, subst P (sym (not_sent w n lost)) (ap (λ s. s ++ all) (stays_lost steps w lost).1))
      | inr holds ↦
          let events = take n (waiting w) in
          let v : World = record w { owed = w.owed + length events; sent = w.sent ++ events } in
          let P : World → Type 0 = λ u. (rest : List Event)
          × ((run u steps).sent ++ rest ≡ w.sent ++ from w.owed (events_in w.past steps)) in
          let h = begun steps v in
          subst P (sym (is_sent w n holds)) (
            h.0,
            h.1 ∙ append_assoc w.sent events (from v.owed (events_in w.past steps))
                ∙ ap (λ es. w.sent ++ es) (sym (sent_some n w.past.first w.owed w.past.lines (lines_in steps) holds)),
          )
    ]

pub beginning_once_lem : BeginningOnce
unfolding Begun
beginning_once_lem past owed steps = begun steps (begins past owed)

-- ---- what a browser is owed
newer : (last first : ℕ) (ls : List (List ℕ)) → from (max (last + 1) first) (numbered first ls)
    ≡ from (last + 1) (numbered first ls)
newer last first ls = elim (cases_lt last first) [
  | inl before ↦
      let same : max (last + 1) first ≡ first = omega (arith, before) in
      ap (λ n. from n (numbered first ls)) same ∙ from_all first first ls (omega arith)
      ∙ sym (from_all (last + 1) first ls (omega (arith, before)))
  | inr behind ↦
      let same : max (last + 1) first ≡ last + 1 = omega (arith, behind) in
      ap (λ n. from n (numbered first ls)) same
]

chosen : (b : Bool) (d first last : ℕ) (ls : List (List ℕ)) → d ≡ max (last + 1) first
    → from (cond b d first) (numbered first ls) ≡ cond b (from (last + 1) (numbered first ls)) (numbered first ls)
chosen true d first last ls h = ap (λ n. from n (numbered first ls)) h ∙ newer last first ls
chosen false d first last ls h = from_all first first ls (omega arith)

pub owed_newer_lem : OwedNewer
owed_newer_lem last past = (
  from_all past.first past.first past.lines (omega arith),
  chosen (nat_lt last (next past)) (max (last + 1) past.first) past.first last past.lines refl,
)

-- ---- one event
drop_get : (ls : List (List ℕ)) (k : ℕ) (l : List ℕ) → slice_get ls k ≡ Some l → drop k ls ≡ l ∷ drop (k + 1) ls
drop_get [] k l h = cc h
drop_get (x ∷ xs) zero l h = ap (λ y. y ∷ xs) (same_Some x l h)
drop_get (x ∷ xs) (suc k) l h =
    let same : suc (k + 1) ≡ suc k + 1 = omega arith in
    drop_get xs k l h ∙ ap (λ n. l ∷ drop n (x ∷ xs)) same

pub first_from : (f n : ℕ) (ls : List (List ℕ)) (l : List ℕ) → f ≤ n → slice_get ls (n - f) ≡ Some l
    → from n (numbered f ls) ≡ record { number = n; line = l } ∷ from (n + 1) (numbered f ls)
first_from f n ls l h is =
    let later : f ≤ n + 1 = omega (arith, h) in
    let place : (n - f) + 1 ≡ (n + 1) - f = omega (arith, h) in
    from_drop n f ls h ∙ ap (numbered n) (drop_get ls (n - f) l is)
    ∙ ap (λ es. record { number = n; line = l } ∷ es)
    (ap (λ k. numbered (n + 1) (drop k ls)) place ∙ sym (from_drop (n + 1) f ls later))

pub none_from : (f n : ℕ) (ls : List (List ℕ)) → f ≤ n → length ls ≤ n - f → from n (numbered f ls) ≡ []
none_from f n ls h past = from_drop n f ls h ∙ ap (numbered n) (drop_all (n - f) ls past)

-- the same of what is kept in another form
pub first_seen : {X : Type 0} (f : X → List ℕ) (first n : ℕ) (xs : List X) (x : X) (l : List ℕ) (past : Past)
    → record { first = first; lines = map f xs } ≡ past → first ≤ n → n - first < length xs
    → x ≡ get_or xs (n - first) x → l ≡ f x → (past.first ≤ n)
    × (from n (kept past) ≡ record { number = n; line = l } ∷ from (n + 1) (kept past))
first_seen f first n xs x l past view h within is line =
    let P : Past → Type 0 = λ p. (p.first ≤ n) × (from n (kept p) ≡ record { number = n; line = l }
    ∷ from (n + 1) (kept p)) in
    let read = slice_get-map f xs (n - first) ∙ ap (option_map f)
    (slice_get_read xs (length xs) (n - first) x refl within is) ∙ ap Some (sym line) in
    subst P view (h, first_from first n (map f xs) l h read)

pub none_seen : {X : Type 0} (f : X → List ℕ) (first n : ℕ) (xs : List X) (past : Past)
    → record { first = first; lines = map f xs } ≡ past → first ≤ n → length xs ≤ n - first → past.first ≤ n
    → from n (kept past) ≡ []
none_seen f first n xs past view h end =
    let P : Past → Type 0 = λ p. p.first ≤ n → from n (kept p) ≡ [] in
    let past_end : length (map f xs) ≤ n - first = rw length-map end in
    subst P view (λ _. none_from first n (map f xs) h past_end)
