-- The lines of replies: their digits as they are written, and none that was written yet.
use Rattle.std.proofs.Common.{◌≡◌, ℕ, ◌+◌, ◌/◌, ◌%◌, ◌<◌, List, [], ◌∷◌, ◌++◌, length, drop, slice_index, codes}
use Rattle.std.proofs.Common.{◌≤◌, ◌==◌, false, None, IfSome, inl, inr, refl, ap, sym, subst, append_assoc, append-nil}
use Rattle.std.proofs.Common.{arith}
use Rattle.std.proofs.lemmas.List.{drop_all}
use Rattle.std.specs.List.{All, slice_get}
use Rattle.std.proofs.lemmas.List.Elements.{All-get_or}
use Rattle.std.proofs.lemmas.Option.{slice_get_cases}
use Rattle.hex.specs.Hex.{encode_with, encode_upper}
use Rattle.hex.proofs.Pairs.{encode_with-drop}
use Rattle.uecp_frame.specs.declared.frame.Frame.{Frame}
use Rattle.uecp_frame.specs.Frame.{spelling}
use Rattle.uecp_text.specs.Digits.{row_word}
use Rattle.uecp_lines.specs.declared.reply_lines.ReplyLine.{ReplyLine}
use Rattle.uecp_lines.specs.ReplyLines.{IsReplyLine}

-- two digits more are written
pub one_byte_more : (t text once twice bytes whole : List ℕ) (i x y : ℕ) → i < length bytes
    → x ≡ slice_index t (slice_index bytes i / 16) → y ≡ slice_index t (slice_index bytes i % 16)
    → once ≡ text ++ x ∷ [] → twice ≡ once ++ y ∷ [] → text ++ encode_with t (drop i bytes) ≡ whole
    → twice ++ encode_with t (drop (i + 1) bytes) ≡ whole
one_byte_more t text once twice bytes whole i x y h ex ey first second inv =
    let rest = encode_with-drop t bytes i h in
    rw (second, first, append_assoc, append_assoc, ex, ey) (rw rest at inv)

-- all digits are written
pub all_written : (t text bytes whole : List ℕ) (i : ℕ) → length bytes ≤ i
    → text ++ encode_with t (drop i bytes) ≡ whole → text ≡ whole
unfolding encode_with
all_written t text bytes whole i h inv = rw (drop_all i bytes h, append-nil) at inv

-- the row of some bytes
row_of_some : (x : ℕ) (rest : List ℕ) → row_word (x ∷ rest) ≡ codes " " ++ encode_upper (x ∷ rest)
unfolding row_word
row_of_some x rest =
    let some : (length (x ∷ rest) == 0) ≡ false = grind arith in
    rw some refl

-- the digits of a frame's spelling are a row, since it has bytes
pub row_of_spelling : (bytes : List ℕ) (f : Frame) → bytes ≡ spelling f
    → codes "reply " ++ encode_upper bytes ≡ codes "reply" ++ row_word (spelling f)
unfolding spelling
row_of_spelling bytes f is = rw is (ap (λ (row : List ℕ). codes "reply" ++ row) (sym (row_of_some 0xFE _)))

-- a line that was not written is what it should be
unwritten_fits : (counter : ℕ) (line : ReplyLine) → line.code ≡ None → IsReplyLine counter line
unwritten_fits counter line is = rw is tt

-- and so are all
pub all_unwritten_fit : (counter : ℕ) (lines : List ReplyLine) (place : ℕ) → All (λ line. line.code ≡ None) lines
    → IfSome (slice_get lines place) (IsReplyLine counter)
all_unwritten_fit counter lines place all = elim (slice_get_cases lines place).1 [
  | inl there ↦
      rw there.2 (unwritten_fits counter there.0
      (subst (λ line. line.code ≡ None) there.3 (All-get_or (λ line. line.code ≡ None) lines place there.0 there.1
      all)))
  | inr past ↦ rw past.1 tt
]
