-- Which text goes out: the texts of the service in their order, each as often as its transmissions say, round and
-- round.
use Rattle.std.specs.Prelude.{ℕ, ◌+◌, ◌/◌, ◌==◌, ◌-◌, min, true, false, not, ◌&&◌, ◌||◌, List, [], ◌∷◌, length, nat_lt}
use Rattle.std.specs.Prelude.{Some, None, is_some, slice_get, unwrap_or, bytes_eq, if◌then◌else◌}
use Rattle.std.specs.Option.{option_map_or}
use Rattle.rds_store.specs.Value.{StoredText}
use Rattle.carousel.specs.Carousel.{Carousel, blanks_left}

-- Where the service has no text an empty one goes out, so that a receiver does not keep the old one. (profile)
abbrev pub no_text : StoredText
no_text = record { toggle = true; transmissions = 0; bytes = [] }

-- The texts that go out: those of the service, or an empty one where it has none (profile).
abbrev pub line_up : List StoredText → List StoredText
line_up [] = no_text ∷ []
line_up (text ∷ texts) = text ∷ texts

-- How many segments of four characters hold a text with its 0D; one of 64 bytes fills all 16, without a 0D. (IEC 62106,
-- RadioText)
abbrev pub segment_count : (bytes : List ℕ) → ℕ
segment_count bytes = min 16 (length bytes / 4 + 1)

-- A text begins at a place. Where its toggle is set, or it is the first text behind a start, and it is another than the
-- one that went out, the A/B flag turns. (SPB 490, RadioText; another text, the first text: profile)
abbrev pub begun : (place : ℕ) → StoredText → Carousel → Carousel
begun place t c = record c {
  text = t.bytes;
  flag = if (t.toggle || is_some c.blanks) && not (bytes_eq c.text t.bytes) then not c.flag else c.flag;
  place = place;
  passes = 0;
  text_segment = 0;
  blanks = if bytes_eq c.text t.bytes then c.blanks else None;
}

-- The text at this place begins.
abbrev pub begun_at : List StoredText → (place : ℕ) → Carousel → Carousel
begun_at texts place c = begun place (unwrap_or (slice_get texts place) no_text) c

-- After the last text comes the first.
abbrev pub next_place : List StoredText → (place : ℕ) → ℕ
next_place texts place = if nat_lt (place + 1) (length texts) then place + 1 else 0

-- A pass over a text is over: it has another, if it goes out without limit or not often enough yet, and else the next
-- text begins. (SPB 490, number of transmissions)
abbrev pub pass_over : List StoredText → StoredText → Carousel → Carousel
pass_over texts t c =
    if t.transmissions == 0 then record c { passes = 0; text_segment = 0 }
    else if nat_lt (c.passes + 1) t.transmissions then record c { passes = c.passes + 1; text_segment = 0 }
    else begun_at texts (next_place texts c.place) c

-- The text at its place goes on, up to the end of a pass.
abbrev pub gone_on : List StoredText → StoredText → Carousel → Carousel
gone_on texts t c = if nat_lt c.text_segment (segment_count t.bytes) then c else pass_over texts t c

-- A text goes on while it stands at its place; where it does not any more, the first text begins, at once.
abbrev pub chosen : List StoredText → Carousel → Carousel
chosen texts c =
    option_map_or (λ t. if bytes_eq c.text t.bytes then gone_on texts t c else begun_at texts 0 c)
    (slice_get texts c.place) (begun_at texts 0 c)

-- ---- At a start.
-- An empty text goes out under flag 0, whatever texts the service has: a receiver that holds a text of before has none
-- then, and the first text is under the other flag. (profile)
abbrev pub blanked : Carousel → Carousel
blanked c = record c {
  text = [];
  flag = false;
  place = 0;
  passes = 0;
  text_segment = 0;
  blanks = Some (blanks_left c - 1);
}

-- The text of which a segment goes out next: an empty one while any is left of a start, and else the one that is
-- chosen.
abbrev pub text_next : List StoredText → Carousel → Carousel
text_next texts c = if nat_lt 0 (blanks_left c) then blanked c else chosen texts c
