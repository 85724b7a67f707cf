-- The spelling of a frame that breaks off holds no frame.
use Rattle.std.proofs.Common.{◌≡◌, ◌≢◌, ◌≤◌, ◌∙◌, ℕ, false, List, [], ◌∷◌, ◌++◌, refl, ap, length, Ok, Err, inl, inr}
use Rattle.std.specs.List.{list_any}
use Rattle.std.proofs.lemmas.Bool.{or_parts}
use Rattle.std.proofs.lemmas.List.{append-nil}
use Rattle.uecp_frame.specs.declared.frame.Frame.{Frame}
use Rattle.uecp_frame.specs.declared.fault.FrameFault.TheVariants.{Unended}
use Rattle.uecp_frame.specs.Stuffing.{is_delimiter, stuffed, unstuffed}
use Rattle.uecp_frame.specs.Frame.{plain_bytes, spelling}
use Rattle.uecp_frame.specs.Findings.{OpenPart, found, open_from}
use Rattle.uecp_frame.specs.Beyond.{found_beyond, open_beyond, unended, BreaksOff, IsPassedOver}
use Rattle.uecp_frame.proofs.Spelling.{stuffed_none}
use Rattle.uecp_frame.proofs.Delimiters.{HasNone, segment_found-none, open_bytes-here}
use Rattle.uecp_frame.proofs.Resumed.{rest_is_no_code}
use Rattle.uecp_frame.proofs.Future.{beyond_is, found-start, found-none, open_beyond-one, progress_cases}
use Rattle.uecp_frame.proofs.Pieces.{in_pieces_lem}
use Rattle.uecp_frame.proofs.HeardLemmas.{always_heard_lem}
use Rattle.uecp_frame.proofs.Taking.{closing_unended}

-- what stands before the last byte of bytes that have an FE or FF there alone has none
front_none : (u rest w : List ℕ) (d : ℕ) → u ++ rest ≡ w ++ d ∷ [] → rest ≢ [] → HasNone w → HasNone u
front_none [] rest w d e more none = refl
front_none (b ∷ []) rest [] d e more none = absurd (more (let k : rest ≡ [] = cc in k))
front_none (b ∷ c ∷ u) rest [] d e more none = absurd (cc)
front_none (b ∷ u) rest (c ∷ w) d e more none =
    let p = or_parts (is_delimiter c) (list_any is_delimiter w) none in
    let same : b ≡ c = cc in
    let later : u ++ rest ≡ w ++ d ∷ [] = cc in
    let here : is_delimiter b ≡ false = ap is_delimiter same ∙ p.0 in
    rw here (front_none u rest w d later more p.1)

-- an FE with no FE and no FF after it
abbrev IsBegun : List ℕ → Type 0
IsBegun x = (u : List ℕ) × (x ≡ 254 ∷ u) × HasNone u

is_begun : (x : List ℕ) → BreaksOff x → IsBegun x
unfolding spelling
is_begun x b = go x b.joined b.begun
  where
    go : (x : List ℕ) → x ++ b.rest ≡ 254 ∷ stuffed (plain_bytes b.frame) ++ 255 ∷ [] → x ≢ [] → IsBegun x
    go [] e some = absurd (some refl)
    go (a ∷ u) e some =
        let first : a ≡ 254 = cc in
        let later : u ++ b.rest ≡ stuffed (plain_bytes b.frame) ++ 255 ∷ [] = cc in (
          u,
          ap (λ n. n ∷ u) first,
          front_none u b.rest (stuffed (plain_bytes b.frame)) 255 later b.unfinished
              (stuffed_none (plain_bytes b.frame)),
        )

begun_finds : (o : OpenPart) (u : List ℕ) → HasNone u → found_beyond o (254 ∷ u) ≡ unended o
begun_finds o u none =
    beyond_is o (254 ∷ u)
    ∙ ap (λ g. g ++ found (254 ∷ u)) (closing_unended o)
    ∙ ap (λ g. unended o ++ g) (found-start 254 u refl ∙ ap (λ g. g ++ found u) (segment_found-none u none)
    ∙ found-none u none)
    ∙ append-nil (unended o)

-- and leaves something open
begun_opens : (o : OpenPart) (u : List ℕ) → HasNone u → unended (open_beyond o (254 ∷ u)) ≡ Err Unended ∷ []
begun_opens o u none =
    ap unended (open_beyond-one o (254 ∷ u) refl ∙ ap open_from (open_bytes-here 254 u none refl))
    ∙ elim (progress_cases (unstuffed u) (rest_is_no_code u)) [
      | inl doomed ↦ ap unended doomed.1.now
      | inr part ↦ ap unended part
    ]

pub passed_over_lem : (o : OpenPart) (x : List ℕ) (next : Frame) → BreaksOff x → length next.message ≤ 255
    → IsPassedOver o x next
passed_over_lem o x next b small =
    let (u, is, none) = is_begun x b in
    let pieces = in_pieces_lem o x (spelling next) in
    let later = always_heard_lem (open_beyond o x) next small in
    let first : found_beyond o x ≡ unended o = ap (found_beyond o) is ∙ begun_finds o u none in
    let open_ : unended (open_beyond o x) ≡ Err Unended ∷ [] =
    ap (λ y. unended (open_beyond o y)) is ∙ begun_opens o u none in
    record {
      none = first;
      heard = pieces.found ∙ ap (λ f. f ++ found_beyond (open_beyond o x) (spelling next)) first
          ∙ ap (λ f. unended o ++ f) (later.found ∙ ap (λ f. f ++ Ok next ∷ []) open_);
      left = pieces.left ∙ later.left;
    }
