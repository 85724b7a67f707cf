-- A receiver: what it has heard, and what it shows. (IEC 62106, type 0 and type 2 groups)
use Rattle.std.specs.Prelude.{ℕ, zero, suc, ◌+◌, ◌*◌, ◌/◌, ◌%◌, ◌==◌, Bool, true, false, not, ◌&&◌, List, [], ◌∷◌, ◌++◌}
use Rattle.std.specs.Prelude.{length, Option, Some, None, slice_get, if◌then◌else◌}
use Rattle.std.specs.Option.{option_map}
use Rattle.rds_groups.specs.Groups.{has_bit, pty, characters}
use Rattle.rds_groups.specs.declared.heard.HeardGroup.{HeardGroup}

-- The characters of a text by their places, where they were heard.
abbrev pub Heard : Type 0
Heard = ℕ → Option ℕ

-- No character was heard.
abbrev pub nothing : Heard
nothing place = None

-- What a receiver has heard. `coming` is what came of the name since its first segment, `name` the last name that came
-- whole. `flag` is the A/B flag of the RadioText that it collects, and `is_short` whether that comes by 2B, with 32
-- characters. `held` is the last group, where its PI is another than that of the station: it is held back.
pub record Receiver : Type 0 where
  pub pi : Option ℕ
  pub tp : Option Bool
  pub pty : Option ℕ
  pub ta : Option Bool
  pub music : Option Bool
  pub coming : List ℕ
  pub name : Option (List ℕ)
  pub flag : Bool
  pub is_short : Bool
  pub text : Heard
  pub held : Option HeardGroup

-- A receiver that has heard nothing.
abbrev pub switched_on : Receiver
switched_on = record {
  pi = None;
  tp = None;
  pty = None;
  ta = None;
  music = None;
  coming = [];
  name = None;
  flag = false;
  is_short = false;
  text = nothing;
  held = None;
}

-- ---- The name. (IEC 62106, programme service name)
-- The first segment begins a name, the next one goes on, and any other leaves nothing.
abbrev pub joined : (segment : ℕ) → (coming two : List ℕ) → List ℕ
joined segment coming two =
    if segment == 0 then two else if length coming == 2 * segment then coming ++ two else []

-- A name is shown once its four segments came in one pass.
abbrev pub shown_with : (coming : List ℕ) → Receiver → Receiver
shown_with coming r = record r { coming = coming; name = if length coming == 8 then Some coming else r.name }

-- A segment whose characters did not come ends the pass.
abbrev pub named : (segment : ℕ) → (block4 : Option ℕ) → Receiver → Receiver
named segment None r = record r { coming = [] }
named segment (Some word) r = shown_with (joined segment r.coming (characters word)) r

-- A group of type 0 tells TA, MS and a segment of the name. (IEC 62106, type 0 groups)
abbrev pub name_heard : (block2 : ℕ) → (block4 : Option ℕ) → Receiver → Receiver
name_heard block2 block4 r =
    named (block2 % 4) block4 (record r { ta = Some (has_bit 16 block2); music = Some (has_bit 8 block2) })

-- ---- RadioText. (IEC 62106, RadioText)
-- The two characters of a block take their places, if it came, and the other places keep theirs.
abbrev pub placed : (pair : ℕ) → (block : Option ℕ) → Heard → Heard
placed pair None heard = heard
placed pair (Some word) heard = λ place.
    if place / 2 == pair then slice_get (characters word) (place % 2) else heard place

-- A segment is two pairs of characters by 2A, and one by 2B.
abbrev pub text_placed : (is_short : Bool) → (segment : ℕ) → (block3 block4 : Option ℕ) → Heard → Heard
text_placed true segment block3 block4 heard = placed segment block4 heard
text_placed false segment block3 block4 heard = placed (2 * segment + 1) block4 (placed (2 * segment) block3 heard)

-- The two flags are the same.
abbrev pub is_same : Bool → Bool → Bool
is_same true b = b
is_same false b = not b

-- What is left of a text before a group: all of it, if the group has its flag and its version, and nothing elsewhere.
abbrev pub left_of : (flag is_short : Bool) → Receiver → Heard
left_of flag is_short r = if is_same r.flag flag && is_same r.is_short is_short then r.text else nothing

-- A group of type 2 tells a segment of the text; the text is empty first if the A/B flag is another than before, or the
-- version. (IEC 62106, type 2 groups)
abbrev pub text_heard : (block2 : ℕ) → (block3 block4 : Option ℕ) → Receiver → Receiver
text_heard block2 block3 block4 r =
    let flag = has_bit 16 block2 in
    let is_short = has_bit 2048 block2 in
    record r {
      flag = flag;
      is_short = is_short;
      text = text_placed is_short (block2 % 16) block3 block4 (left_of flag is_short r);
    }

-- ---- A group of the station.
-- Block 1 tells the PI.
abbrev pub identified : (block1 : Option ℕ) → Receiver → Receiver
identified None r = r
identified (Some pi) r = record r { pi = Some pi }

-- Block 2 tells TP and PTY.
abbrev pub tuned : (block2 : ℕ) → Receiver → Receiver
tuned block2 r = record r { tp = Some (has_bit 1024 block2); pty = Some (pty block2) }

-- Groups of other types than 0 and 2 tell no more.
abbrev pub by_type : (block2 : ℕ) → HeardGroup → Receiver → Receiver
by_type block2 g r =
    if block2 / 4096 == 0 then name_heard block2 g.block4 r
    else if block2 / 4096 == 2 then text_heard block2 g.block3 g.block4 r
    else r

-- A group without its block 2 may have been a segment of a name: it ends the pass.
abbrev pub told : (block2 : Option ℕ) → HeardGroup → Receiver → Receiver
told None g r = record r { coming = [] }
told (Some block2) g r = by_type block2 g (tuned block2 r)

-- What a receiver has heard after one more group of its station.
abbrev pub hears_own : HeardGroup → Receiver → Receiver
hears_own g r = told g.block2 g (identified g.block1 r)

-- ---- A group, of whichever station. Another PI is another station. (IEC 62106, programme identification)
-- The other PI is another than this one. A group without its block 1 is of the station that is tuned, and so is any
-- before a PI was heard.
abbrev pub is_another : (this other : Option ℕ) → Bool
is_another (Some this) (Some other) = not (this == other)
is_another (Some this) None = false
is_another None other = false

-- A group of another station is held back, in place of one that was. It may have been a segment of the name, so it ends
-- the pass; what is shown stays.
abbrev pub holds : HeardGroup → Receiver → Receiver
holds g r = record r { coming = []; held = Some g }

-- The second one with the same PI, right behind the first: the receiver begins anew, and hears both. (profile)
abbrev pub hears_another : (held : Option HeardGroup) → HeardGroup → Receiver → Receiver
hears_another None g r = holds g r
hears_another (Some first) g r =
    if is_another first.block1 g.block1 then holds g r else hears_own g (hears_own first switched_on)

-- What a receiver has heard after one more group. One of its own station drops one that was held back.
abbrev pub hears : HeardGroup → Receiver → Receiver
hears g r =
    if is_another r.pi g.block1 then hears_another r.held g r else hears_own g (record r { held = None })

-- ---- What is shown of a text.
-- A character before others; none where it, or one of them, was not heard.
abbrev pub before : Option ℕ → Option (List ℕ) → Option (List ℕ)
before None shown = None
before (Some character) shown = option_map (λ others. character ∷ others) shown

-- The character was heard, and is 0D.
abbrev pub is_return : Option ℕ → Bool
is_return None = false
is_return (Some character) = character == 0x0D

-- So many characters from a place on, up to the first 0D if there is one, once all of these were heard.
abbrev pub line : (count place : ℕ) → Heard → Option (List ℕ)
line zero place heard = Some []
line (suc count) place heard =
    if is_return (heard place) then Some [] else before (heard place) (line count (place + 1) heard)

-- The text that is shown: 64 characters, or 32 by 2B, or those before the first 0D. (IEC 62106, RadioText)
unfoldable pub text_shown : Receiver → Option (List ℕ)
text_shown r = line (if r.is_short then 32 else 64) 0 r.text
