-- What goes out, in the words of the store.
use Rattle.std.specs.Prelude.{ℕ, zero, suc, ◌+◌, ◌*◌, ◌<◌, ◌≡◌, false, Some, slice_get, List, [], ◌∷◌, ◌++◌}
use Rattle.std.specs.Prelude.{if◌then◌else◌}
use Rattle.rds_store.specs.Value.{Store, StoredText}
use Rattle.rds_store.specs.declared.group.Group.{Group as StoredGroup}
use Rattle.carousel.specs.Carousel.{Carousel, blanks_left}
use Rattle.carousel.specs.Texts.{segment_count, begun_at, next_place, text_next}
use Rattle.carousel.specs.Next.{is_queued, aired}

-- The free-format groups among the next so many, as they waited.
abbrev pub first_waiting : List StoredGroup → List StoredGroup
first_waiting [] = []
first_waiting (g ∷ gs) = g ∷ []

abbrev pub queued : (groups : ℕ) → Store → Carousel → List StoredGroup
queued zero v c = []
queued (suc groups) v c =
    (if is_queued v c then first_waiting v.groups else []) ++ queued groups (aired v c).1 (aired v c).2

-- The store after so many groups.
abbrev pub store_after : (groups : ℕ) → Store → Carousel → Store
store_after zero v c = v
store_after (suc groups) v c = store_after groups (aired v c).1 (aired v c).2

-- The free-format groups that went out, and then those that still wait, are those that waited: each goes out once, in
-- order.
abbrev pub EachQueuedGroupOnce : Type 0
EachQueuedGroupOnce = (groups : ℕ) (v : Store) (c : Carousel)
    → queued groups v c ++ (store_after groups v c).groups ≡ v.groups

-- ---- Texts that stay.
-- One turn of the text, and so many of them.
abbrev pub one_sent : Carousel → Carousel
one_sent c = record c { text_segment = c.text_segment + 1; is_other = false }

abbrev pub after_turns : (turns : ℕ) → List StoredText → Carousel → Carousel
after_turns zero texts c = c
after_turns (suc turns) texts c = after_turns turns texts (one_sent (text_next texts c))

-- A text begins: it stands at this place, and nothing of it has gone out. No empty one of a start is left.
pub record Begins (texts : List StoredText) (here : ℕ) (t : StoredText) (c : Carousel) : Type 0 where
  pub there : slice_get texts here ≡ Some t
  pub text : c.text ≡ t.bytes
  pub place : c.place ≡ here
  pub passes : c.passes ≡ 0
  pub segment : c.text_segment ≡ 0
  pub started : blanks_left c ≡ 0

-- So many turns are some whole passes over the text, and then the segments of one more that are over.
pub record IsInPass (here : ℕ) (t : StoredText) (turns : ℕ) (c : Carousel) : Type 0 where
  pub text : c.text ≡ t.bytes
  pub place : c.place ≡ here
  pub whole : (passes : ℕ) × (passes * segment_count t.bytes + c.text_segment ≡ turns)
  pub within : c.text_segment < segment_count t.bytes

-- A text that stays goes out in whole passes, segment by segment: without limit where its transmissions are 0, and else
-- as many passes as they say.
abbrev pub GoesOutInPasses : Type 0
GoesOutInPasses =
    (texts : List StoredText) (place : ℕ) (t : StoredText) (c : Carousel) (turns : ℕ) → Begins texts place t c
    → (0 < t.transmissions → turns < segment_count t.bytes * t.transmissions)
    → IsInPass place t turns (text_next texts (after_turns turns texts c))

-- And once that many are over the next text begins, after the last one the first.
abbrev pub NextTextFollows : Type 0
NextTextFollows =
    (texts : List StoredText) (place : ℕ) (t : StoredText) (c : Carousel) → Begins texts place t c → 0 < t.transmissions
    → let over = after_turns (segment_count t.bytes * t.transmissions) texts c in
    text_next texts over ≡ begun_at texts (next_place texts place) over
