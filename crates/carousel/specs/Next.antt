-- Which group is next: the name has every other turn, and a free-format group or else the text the turns between.
use Rattle.std.specs.Prelude.{ℕ, ◌+◌, ◌*◌, Bool, true, false, List, [], ◌∷◌, ◌++◌, slice_index, slice_index_or, nat_lt}
use Rattle.std.specs.Prelude.{bytes_eq, drop, if◌then◌else◌}
use Rattle.rds_groups.specs.Groups.{group, has_bit, name_a, text_a}
use Rattle.rds_groups.specs.declared.group.Group.{Group}
use Rattle.rds_groups.specs.declared.group.Head.{Head}
use Rattle.rds_groups.specs.declared.group.Segment.{Segment}
use Rattle.rds_store.specs.Value.{Store, ServiceData}
use Rattle.rds_store.specs.Step.{group_taken}
use Rattle.rds_store.specs.declared.group.Group.{Group as StoredGroup}
use Rattle.carousel.specs.Carousel.{Carousel}
use Rattle.carousel.specs.Texts.{line_up, text_next}
use Rattle.carousel.specs.Service.{main_service}

-- What each group tells of a service: its PI, TP and PTY (IEC 62106, groups).
abbrev pub head_of : ServiceData → Head
head_of s = record { pi = s.pi; tp = s.tp; pty = s.pty }

-- ---- The name.
-- The segment that comes next of so many, after the last one the first.
abbrev pub turn : (count next : ℕ) → ℕ
turn count next = if nat_lt next count then next else 0

-- The next segment of the name. A name that was not going out begins with its first. (profile)
abbrev pub name_next : ServiceData → Carousel → ℕ
name_next s c = if bytes_eq c.name s.ps then turn 4 c.name_segment else 0

-- A segment of the name: its two characters, with TA and MS (IEC 62106, type 0 groups).
abbrev pub segment_of : ServiceData → (segment : ℕ) → Segment
segment_of s segment = record {
  ta = s.ta;
  music = s.music;
  decoder = false;
  segment = segment;
  characters = slice_index s.ps (2 * segment + 0) ∷ slice_index s.ps (2 * segment + 1) ∷ [];
}

-- A 0A with a segment of the name; it says that there are no alternative frequencies. (IEC 62106, type 0 groups)
abbrev pub name_group : ServiceData → (segment : ℕ) → Group
name_group s segment = name_a (head_of s) (segment_of s segment) 0xE0E0

-- The name's next segment goes out, and the turn behind it is not the name's (profile).
abbrev pub send_name : ServiceData → Carousel → Group × Carousel
send_name s c =
    let segment = name_next s c in
    (name_group s segment, record c { name = s.ps; name_segment = segment + 1; is_other = true })

-- ---- The text.
-- The character that a text sends at a place: after its last byte 0D, and then spaces. (IEC 62106, RadioText)
abbrev pub sent : List ℕ → (place : ℕ) → ℕ
sent bytes place = slice_index_or (bytes ++ 0x0D ∷ []) place 0x20

-- The four characters of a segment of the text (IEC 62106, RadioText).
abbrev pub four_of : List ℕ → (segment : ℕ) → List ℕ
four_of bytes segment =
    sent bytes (4 * segment + 0) ∷ sent bytes (4 * segment + 1) ∷ sent bytes (4 * segment + 2)
    ∷ sent bytes (4 * segment + 3) ∷ []

-- A 2A with the next segment of the text that goes out. (IEC 62106, type 2 groups)
abbrev pub text_group : ServiceData → Carousel → Group
text_group s c = text_a (head_of s) c.flag c.text_segment (four_of c.text c.text_segment)

-- The next segment of the text goes out, and the name has the next turn (profile).
abbrev pub text_sent : ServiceData → Carousel → Group × Carousel
text_sent s c = (text_group s c, record c { text_segment = c.text_segment + 1; is_other = false })

-- Of the text that is next, of those of the service or of a start.
abbrev pub send_text : ServiceData → Carousel → Group × Carousel
send_text s c = text_sent s (text_next (line_up s.texts) c)

-- ---- Free-format groups.
-- Block 3 of a group: in each of version B, the last bit of the kind, it is the PI again, whatever was stored. (IEC
-- 62106, group type codes)
abbrev pub third_block : (pi kind stored : ℕ) → ℕ
third_block pi kind stored = if has_bit 1 kind then pi else stored

-- A group of the store has the service's PI, TP and PTY. (SPB 490, free-format group)
abbrev pub free_group : ServiceData → StoredGroup → Group
free_group s g = group g.kind (head_of s) g.bits (third_block s.pi g.kind g.block3) g.block4

-- The first group that waits goes out in the text's turn; where none waits, the text (profile).
abbrev pub send_other : ServiceData → (waiting : List StoredGroup) → Carousel → Group × Carousel
send_other s [] c = send_text s c
send_other s (g ∷ gs) c = (free_group s g, record c { is_other = false })

-- ---- The order.
-- The next group, and where the carousel stands then. (profile)
abbrev pub next_group : Store → Carousel → Group × Carousel
next_group v c = if c.is_other then send_other (main_service v) v.groups c else send_name (main_service v) c

-- Whether a group waits.
abbrev pub is_waiting : List StoredGroup → Bool
is_waiting [] = false
is_waiting (g ∷ gs) = true

-- Whether the group that goes out next is one that waited.
abbrev pub is_queued : Store → Carousel → Bool
is_queued v c = if c.is_other then is_waiting v.groups else false

-- The next group goes out: if it is one that waited, it waits no more.
abbrev pub aired : Store → Carousel → Group × Store × Carousel
aired v c =
    ((next_group v c).0, (if is_queued v c then (group_taken v).0 else v), (next_group v c).1)

-- ---- A store that stays.
-- The store without the first so many groups that wait.
abbrev pub behind : (taken : ℕ) → Store → Store
behind taken v = record v { groups = drop taken v.groups }
