-- How many messages were told in a minute.
use Rattle.std.proofs.Common.{◌≡◌, ◌≢◌, ◌≤◌, ◌<◌, ℕ, zero, suc, ◌+◌, ◌-◌, ◌/◌, ◌%◌, ◌^◌, ◌==◌, ◌&&◌, Bool, true, false}
use Rattle.std.proofs.Common.{cond}
use Rattle.std.proofs.Common.{List, [], ◌∷◌, length, map, refl, ◌∙◌, ap, sym, subst, arith}
use Rattle.std.specs.Prelude.{All, nat_lt, slice_index, slice_index_or, slice_set}
use Rattle.std.proofs.lemmas.Bool.Decides.{nat_tests}
use Rattle.std.proofs.lemmas.List.{get_or-set_same, get_or-set_other, length-set, length-replicate, get_or-replicate}
use Rattle.std.proofs.lemmas.Grind.{get_or-set_at}
use Rattle.std.proofs.lemmas.List.Elements.{All-head, All-tail}
use Rattle.page.specs.Counts.{is_told, one_more}
use Rattle.serde_json.specs.Data.{Data, number, unsigned, item}
use Rattle.serde_json.specs.View.{items_of}
use Rattle.page.specs.Texts.{numbers_data}
use Rattle.page.specs.Minutes.{Minutes, no_minutes, minute_of, count_in, one_more_in, count_before, counts_until}
use Rattle.page.specs.Minutes.{last_hour}
use Rattle.page.specs.ControlLine.{Arrived, Line, new_line, line_after, line_behind}
use Rattle.page.specs.MinuteLaws.{IsInOrder, told_in_minute}

-- there are 60 places
record Whole (m : Minutes) : Type 0 where
  numbers : length m.numbers ≡ 60
  counts : length m.counts ≡ 60

still_whole : (n : ℕ) (m : Minutes) → Whole m → Whole (one_more_in n m)
still_whole n m w = record {
  numbers = length-set m.numbers (n % 60) n ∙ w.numbers;
  counts = length-set m.counts (n % 60) (one_more true (count_in n m)) ∙ w.counts;
}

-- one more is counted in its minute
counted : (minute : ℕ) (m : Minutes) → Whole m → count_in minute (one_more_in minute m)
    ≡ one_more true (count_in minute m)
counted minute m w =
    let within : minute % 60 < length m.numbers = omega (arith, w.numbers) in
    let also : minute % 60 < length m.counts = omega (arith, w.counts) in
    let more = one_more true (count_in minute m) in
    let it : (minute == minute) ≡ true = grind arith in
    ap (λ n. cond (n == minute) (slice_index (slice_set m.counts (minute % 60) more) (minute % 60)) 0)
    (get_or-set_same m.numbers (minute % 60) minute 0 within)
    ∙ ap (λ b. cond b (slice_index (slice_set m.counts (minute % 60) more) (minute % 60)) 0) it
    ∙ get_or-set_same m.counts (minute % 60) more 0 also

-- in the place of another it changes nothing of this one
elsewhere : (n minute : ℕ) (m : Minutes) → minute % 60 ≢ n % 60
    → slice_index (one_more_in n m).numbers (minute % 60) ≡ slice_index m.numbers (minute % 60)
elsewhere n minute m h = get_or-set_other m.numbers (n % 60) (minute % 60) n 0 h

uncounted : (n minute : ℕ) (m : Minutes) → minute % 60 ≢ n % 60 → count_in minute (one_more_in n m) ≡ count_in minute m
uncounted n minute m h =
    let more = one_more true (count_in n m) in
    ap (λ k. cond (k == minute) (slice_index (slice_set m.counts (n % 60) more) (minute % 60)) 0)
    (elsewhere n minute m h)
    ∙ ap (λ k. cond (slice_index m.numbers (minute % 60) == minute) k 0)
    (get_or-set_other m.counts (n % 60) (minute % 60) more 0 h)

-- in its place another stands there
placed : (n minute : ℕ) (m : Minutes) → Whole m → minute % 60 ≡ n % 60
    → slice_index (one_more_in n m).numbers (minute % 60) ≡ n
placed n minute m w h =
    let within : n % 60 < length m.numbers = omega (arith, w.numbers) in
    get_or-set_at m.numbers (n % 60) (minute % 60) n 0 h within

not_there : (minute : ℕ) (m : Minutes) → slice_index m.numbers (minute % 60) ≢ minute → count_in minute m ≡ 0
not_there minute m h =
    let no : (slice_index m.numbers (minute % 60) == minute) ≡ false = grind (arith, h) in
    ap (λ b. cond b (slice_index m.counts (minute % 60)) 0) no

-- a later time is of no earlier minute
grows : (a b : ℕ) → a ≤ b → a / 60000 ≤ b / 60000
grows a b h = omega (arith, h)

comes_later : (d : Arrived) (ds : List Arrived) → All (λ e. d.came ≤ e.came) ds
    → All (λ e. minute_of d.came ≤ minute_of e.came) ds
comes_later d ds h = λ i e lt. grows d.came (slice_index_or ds i e).came (h i e lt)

-- the count behind the objects that are left
abbrev Goes : (minute : ℕ) → List Arrived → Type 0
Goes minute ds = (l : Line) (m : Minutes) (k : ℕ) → l.minutes ≡ m → Whole m
    → All (λ e. slice_index m.numbers (minute % 60) ≤ minute_of e.came) ds
    → count_in minute m ≡ k → k + length ds < 2 ^ 64
    → count_in minute (line_behind ds l).minutes ≡ k + length (told_in_minute minute ds)

one_up : (k n : ℕ) → k + suc n < 2 ^ 64 → one_more true k ≡ k + 1
one_up k n h = omega (arith, h)

in_it : (minute n : ℕ) (d : Arrived) (ds : List Arrived) (l : Line) (m : Minutes) (k : ℕ)
    → minute_of d.came ≡ n → n ≡ minute → l.minutes ≡ one_more_in n m → Whole m
    → All (λ e. minute_of d.came ≤ minute_of e.came) ds
    → count_in minute m ≡ k → k + length (d ∷ ds) < 2 ^ 64 → Goes minute ds
    → count_in minute (line_behind ds l).minutes ≡ k + length (d ∷ told_in_minute minute ds)
in_it minute n d ds l m k at is kept w after h few rest =
    let there : slice_index (one_more_in n m).numbers (minute % 60) ≡ minute_of d.came =
    placed n minute m w (ap (λ x. x % 60) (sym is)) ∙ sym at in
    let up : count_in minute (one_more_in n m) ≡ k + 1 =
    ap (λ x. count_in minute (one_more_in x m)) is ∙ counted minute m w ∙ ap (one_more true) h
    ∙ one_up k (length ds) few in
    let fewer : k + 1 + length ds < 2 ^ 64 = omega (arith, few) in
    rest l (one_more_in n m) (k + 1) kept (still_whole n m w)
    (subst (λ x. All (λ e. x ≤ minute_of e.came) ds) (sym there) after) up fewer
    ∙ omega arith

over_it : (minute n : ℕ) (d : Arrived) (ds : List Arrived) (l : Line) (m : Minutes) (k : ℕ)
    → minute_of d.came ≡ n → n ≢ minute → minute % 60 ≡ n % 60 → n < minute + 60
    → slice_index m.numbers (minute % 60) ≤ n → l.minutes ≡ one_more_in n m → Whole m
    → All (λ e. minute_of d.came ≤ minute_of e.came) ds
    → count_in minute m ≡ k → k + length (d ∷ ds) < 2 ^ 64 → Goes minute ds
    → count_in minute (line_behind ds l).minutes ≡ k + length (told_in_minute minute ds)
over_it minute n d ds l m k at other same near before kept w after h few rest =
    let there : slice_index (one_more_in n m).numbers (minute % 60) ≡ minute_of d.came =
    placed n minute m w same ∙ sym at in
    let less : n < minute = omega (arith, other, same, near) in
    let was : slice_index m.numbers (minute % 60) ≢ minute = λ e. omega (arith, e, before, less) in
    let none : k ≡ 0 = sym h ∙ not_there minute m was in
    let isnt : slice_index (one_more_in n m).numbers (minute % 60) ≢ minute =
    λ e. omega (arith, e, there, at, less) in
    let now : count_in minute (one_more_in n m) ≡ k = not_there minute (one_more_in n m) isnt ∙ sym none in
    let fewer : k + length ds < 2 ^ 64 = omega (arith, few) in
    rest l (one_more_in n m) k kept (still_whole n m w)
    (subst (λ x. All (λ e. x ≤ minute_of e.came) ds) (sym there) after) now fewer

beside_it : (minute n : ℕ) (d : Arrived) (ds : List Arrived) (l : Line) (m : Minutes) (k : ℕ)
    → minute % 60 ≢ n % 60 → l.minutes ≡ one_more_in n m → Whole m
    → All (λ e. slice_index m.numbers (minute % 60) ≤ minute_of e.came) ds
    → count_in minute m ≡ k → k + length (d ∷ ds) < 2 ^ 64 → Goes minute ds
    → count_in minute (line_behind ds l).minutes ≡ k + length (told_in_minute minute ds)
beside_it minute n d ds l m k other kept w after h few rest =
    let fewer : k + length ds < 2 ^ 64 = omega (arith, few) in
    rest l (one_more_in n m) k kept (still_whole n m w)
    (subst (λ x. All (λ e. x ≤ minute_of e.came) ds) (sym (elsewhere n minute m other)) after)
    (uncounted n minute m other ∙ h) fewer

passed : (minute : ℕ) (d : Arrived) (ds : List Arrived) (l : Line) (m : Minutes) (k : ℕ) → l.minutes ≡ m → Whole m
    → All (λ e. slice_index m.numbers (minute % 60) ≤ minute_of e.came) ds
    → count_in minute m ≡ k → k + length (d ∷ ds) < 2 ^ 64 → Goes minute ds
    → count_in minute (line_behind ds l).minutes ≡ k + length (told_in_minute minute ds)
passed minute d ds l m k kept w after h few rest =
    let fewer : k + length ds < 2 ^ 64 = omega (arith, few) in
    rest l m k kept w after h fewer

placed_by : (place : Bool) (minute n : ℕ) (d : Arrived) (ds : List Arrived) (l : Line) (m : Minutes) (k : ℕ)
    → (minute % 60 == n % 60) ≡ place → minute_of d.came ≡ n → n ≢ minute → n < minute + 60
    → l.minutes ≡ one_more_in n m → Whole m
    → All (λ e. slice_index m.numbers (minute % 60) ≤ minute_of e.came) (d ∷ ds)
    → All (λ e. minute_of d.came ≤ minute_of e.came) ds
    → count_in minute m ≡ k → k + length (d ∷ ds) < 2 ^ 64 → Goes minute ds
    → count_in minute (line_behind ds l).minutes ≡ k + length (told_in_minute minute ds)
placed_by true minute n d ds l m k place at other near kept w all after h few rest =
    let same : minute % 60 ≡ n % 60 = grind (arith, place) in
    let first : slice_index m.numbers (minute % 60) ≤ minute_of d.came =
    All-head (λ e. slice_index m.numbers (minute % 60) ≤ minute_of e.came) d ds all in
    over_it minute n d ds l m k at other same near
    (subst (λ x. slice_index m.numbers (minute % 60) ≤ x) at first) kept w after h few rest
placed_by false minute n d ds l m k place at other near kept w all after h few rest =
    let differ : minute % 60 ≢ n % 60 = grind (arith, place) in
    beside_it minute n d ds l m k differ kept w
    (All-tail (λ e. slice_index m.numbers (minute % 60) ≤ minute_of e.came) d ds all) h few rest

told_by : (is : Bool) (minute n : ℕ) (d : Arrived) (ds : List Arrived) (l : Line) (m : Minutes) (k : ℕ)
    → (n == minute) ≡ is → minute_of d.came ≡ n → n < minute + 60
    → l.minutes ≡ one_more_in n m → Whole m
    → All (λ e. slice_index m.numbers (minute % 60) ≤ minute_of e.came) (d ∷ ds)
    → All (λ e. minute_of d.came ≤ minute_of e.came) ds
    → count_in minute m ≡ k → k + length (d ∷ ds) < 2 ^ 64 → Goes minute ds
    → count_in minute (line_behind ds l).minutes
    ≡ k + length (cond is (d ∷ told_in_minute minute ds) (told_in_minute minute ds))
told_by true minute n d ds l m k is at near kept w all after h few rest =
    let it : n ≡ minute = grind (arith, is) in
    in_it minute n d ds l m k at it kept w after h few rest
told_by false minute n d ds l m k is at near kept w all after h few rest =
    let other : n ≢ minute = grind (arith, is) in
    placed_by (minute % 60 == n % 60) minute n d ds l m k refl at other near kept w all after h few rest

goes_first : (told : Bool) (minute : ℕ) (d : Arrived) (ds : List Arrived) (l : Line) (m : Minutes) (k : ℕ)
    → is_told d.object ≡ told → minute_of d.came < minute + 60 → l.minutes ≡ m → Whole m
    → All (λ e. slice_index m.numbers (minute % 60) ≤ minute_of e.came) (d ∷ ds)
    → All (λ e. minute_of d.came ≤ minute_of e.came) ds
    → count_in minute m ≡ k → k + length (d ∷ ds) < 2 ^ 64 → Goes minute ds
    → count_in minute (line_behind ds (line_after d l)).minutes
    ≡ k + length (cond (told && minute_of d.came == minute) (d ∷ told_in_minute minute ds) (told_in_minute minute ds))
goes_first true minute d ds l m k is near kept w all after h few rest =
    let n = minute_of d.came in
    let so : (line_after d l).minutes ≡ one_more_in n m =
    ap (λ b. cond b (one_more_in n l.minutes) l.minutes) is ∙ ap (one_more_in n) kept in
    told_by (n == minute) minute n d ds (line_after d l) m k refl refl near so w all after h few rest
goes_first false minute d ds l m k is near kept w all after h few rest =
    let so : (line_after d l).minutes ≡ m =
    ap (λ b. cond b (one_more_in (minute_of d.came) l.minutes) l.minutes) is ∙ kept in
    passed minute d ds (line_after d l) m k so w
    (All-tail (λ e. slice_index m.numbers (minute % 60) ≤ minute_of e.came) d ds all) h few rest

goes : (minute : ℕ) (ds : List Arrived) → IsInOrder ds → All (λ d. minute_of d.came < minute + 60) ds → Goes minute ds
goes minute [] order near l m k kept w all h few = ap (count_in minute) kept ∙ h ∙ omega arith
goes minute (d ∷ ds) order near l m k kept w all h few =
    goes_first (is_told d.object) minute d ds l m k refl
    (All-head (λ e. minute_of e.came < minute + 60) d ds near) kept w all (comes_later d ds order.0) h few
    (goes minute ds order.1 (All-tail (λ e. minute_of e.came < minute + 60) d ds near))

nothing : (minute : ℕ) → slice_index no_minutes.numbers (minute % 60) ≡ 0
nothing minute = get_or-replicate 60 (minute % 60) 0 0 (omega arith)

none_counted : (minute : ℕ) → count_in minute no_minutes ≡ 0
none_counted minute = by (slice_index no_minutes.numbers (minute % 60) == minute)
  where
    by : (b : Bool) → cond b (slice_index no_minutes.counts (minute % 60)) 0 ≡ 0
    by true = get_or-replicate 60 (minute % 60) 0 0 (omega arith)
    by false = refl

counted_exactly : (ds : List Arrived) (name : List ℕ) (minute : ℕ) → IsInOrder ds
    → All (λ d. minute_of d.came < minute + 60) ds → length ds < 2 ^ 64
    → count_in minute (line_behind ds (new_line name)).minutes ≡ length (told_in_minute minute ds)
counted_exactly ds name minute order near few =
    let first : All (λ e. slice_index no_minutes.numbers (minute % 60) ≤ minute_of e.came) ds =
    λ i e lt. omega (arith, nothing minute) in
    goes minute ds order near (new_line name) no_minutes 0 refl
    (record { numbers = length-replicate {A = ℕ} 60 0; counts = length-replicate {A = ℕ} 60 0 }) first
    (none_counted minute)
    (omega (arith, few))
    ∙ omega arith

-- of so many minutes the oldest, and the rest
pub oldest : (newest place : ℕ) (m : Minutes) → place < 60
    → counts_until newest (60 - place) m
    ≡ count_before newest (59 - place) m ∷ counts_until newest (60 - (place + 1)) m
oldest newest place m h =
    let more : 60 - place ≡ suc (59 - place) = omega (arith, h) in
    let fewer : 59 - place ≡ 60 - (place + 1) = omega (arith, h) in
    ap (λ n. counts_until newest n m) more
    ∙ ap (λ n. count_before newest (59 - place) m ∷ counts_until newest n m) fewer

pub all_left : (newest : ℕ) (m : Minutes) → counts_until newest 60 m ≡ last_hour newest m
unfolding last_hour
all_left newest m = refl

pub none_left : (newest place : ℕ) (m : Minutes) → 60 ≤ place → counts_until newest (60 - place) m ≡ []
none_left newest place m h =
    let none : 60 - place ≡ 0 = omega (arith, h) in
    ap (λ n. counts_until newest n m) none

-- numbers as values
abbrev pub told_as : ℕ → Data
told_as n = number (unsigned n)

pub each_number : (ns : List ℕ) → items_of (map told_as ns) ≡ numbers_data ns
each_number [] = refl
each_number (n ∷ ns) = ap (item (told_as n)) (each_number ns)

-- where a minute is told
told_at : (newest many k : ℕ) (m : Minutes) → k < many
    → slice_index (counts_until newest many m) k ≡ count_before newest (many - 1 - k) m
told_at newest zero k m h = absurd (omega (arith, h))
told_at newest (suc many) zero m h = ap (λ n. count_before newest n m) (omega arith)
told_at newest (suc many) (suc k) m h =
    told_at newest many k m (omega (arith, h)) ∙ ap (λ n. count_before newest n m) (omega arith)

told_ago : (newest ago : ℕ) (m : Minutes) → ago < 60
    → slice_index (last_hour newest m) (59 - ago) ≡ count_before newest ago m
told_ago newest ago m h =
    ap (λ ns. slice_index ns (59 - ago)) (sym (all_left newest m))
    ∙ told_at newest 60 (59 - ago) m (omega (arith, h)) ∙ ap (λ n. count_before newest n m) (omega (arith, h))

-- of those that came by now none came an hour behind a minute of the last hour
come_by : (now ago : ℕ) (ds : List Arrived) → All (λ d. d.came ≤ now) ds → ago < 60 → ago ≤ minute_of now
    → All (λ d. minute_of d.came < minute_of now - ago + 60) ds
come_by now ago ds by few within = λ i e lt.
    come (slice_index_or ds i e).came (by i e lt)
  where
    come : (came : ℕ) → came ≤ now → minute_of came < minute_of now - ago + 60
    come came h =
        let no_later : came / 60000 ≤ now / 60000 = grows came now h in
        omega (arith, no_later, few, within)

by_ago : (before : Bool) (ds : List Arrived) (name : List ℕ) (now ago : ℕ) → nat_lt (minute_of now) ago ≡ before
    → IsInOrder ds → All (λ d. d.came ≤ now) ds → length ds < 2 ^ 64 → ago < 60
    → cond before 0 (count_in (minute_of now - ago) (line_behind ds (new_line name)).minutes)
    ≡ cond before 0 (length (told_in_minute (minute_of now - ago) ds))
by_ago true ds name now ago is order by few hour = refl
by_ago false ds name now ago is order by few hour =
    let within : ago ≤ minute_of now = grind (arith, nat_tests, is) in
    counted_exactly ds name (minute_of now - ago) order (come_by now ago ds by hour within) few

pub minute_exactly : (ds : List Arrived) (name : List ℕ) (now ago : ℕ) → IsInOrder ds → All (λ d. d.came ≤ now) ds
    → length ds < 2 ^ 64 → ago < 60
    → slice_index (last_hour (minute_of now) (line_behind ds (new_line name)).minutes) (59 - ago)
    ≡ cond (nat_lt (minute_of now) ago) 0 (length (told_in_minute (minute_of now - ago) ds))
minute_exactly ds name now ago order by few hour =
    told_ago (minute_of now) ago (line_behind ds (new_line name)).minutes hour
    ∙ by_ago (nat_lt (minute_of now) ago) ds name now ago refl order by few hour
