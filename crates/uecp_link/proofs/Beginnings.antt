-- Bytes that begin the spellings of frames, one after another: so many frames have come whole.
use Rattle.std.proofs.Common.{◌≡◌, ◌≢◌, ℕ, ◌≤◌, List, [], ◌∷◌, ◌++◌, length, map, Ok, refl, ◌∙◌, ap, sym}
use Rattle.std.specs.List.{concat}
use Rattle.uecp_frame.specs.declared.frame.Frame.{Frame}
use Rattle.uecp_frame.specs.Frame.{spelling}
use Rattle.uecp_frame.specs.Findings.{Finding, Closed}
use Rattle.uecp_frame.specs.Beyond.{found_beyond, open_beyond}
use Rattle.uecp_frame.proofs.Public.{in_pieces_lem, new_start_lem, always_heard_lem, passed_over_lem}

-- Bytes that are cut in two, and the same bytes cut elsewhere.
data Cut (x y a b : List ℕ) : Type 0 where
  Before : (z : List ℕ) → z ≢ [] → a ≡ x ++ z → Cut x y a b
  Behind : (z : List ℕ) → x ≡ a ++ z → b ≡ z ++ y → Cut x y a b

cut : (x y a b : List ℕ) → x ++ y ≡ a ++ b → Cut x y a b
cut x y [] b h = Behind x refl (sym h)
cut [] y (n ∷ a) b h = Before (n ∷ a) (λ e. cc) refl
cut (m ∷ x) y (n ∷ a) b h =
    let head : m ≡ n = cc in
    go (cut x y a b (let tail : x ++ y ≡ a ++ b = cc in tail)) head
  where
    go : Cut x y a b → m ≡ n → Cut (m ∷ x) y (n ∷ a) b
    go (Before z some is) head = Before z some (ap (λ l. n ∷ l) is ∙ ap (λ k. k ∷ x ++ z) (sym head))
    go (Behind z is rest) head = Behind z (ap (λ l. m ∷ l) is ∙ ap (λ k. k ∷ a ++ z) head) rest

abbrev pub Small : List Frame → Type 0
Small [] = Unit {0}
Small (f ∷ fs) = (length f.message ≤ 255) × Small fs

abbrev pub spelled : List Frame → List (List ℕ)
spelled fs = map (λ f. spelling f) fs

abbrev pub found_as : List Frame → List Finding
found_as fs = map (λ f. Ok f) fs

-- So many of these frames have come whole in x, and the rest is still to come in y.
pub record Begins (fs : List Frame) (x y : List ℕ) : Type 0 where
  pub come : List Frame
  pub to_come : List Frame
  pub all : fs ≡ come ++ to_come
  pub finds : found_beyond Closed x ≡ found_as come
  pub none_left : to_come ≡ [] → y ≡ []
  pub closed : to_come ≡ [] → open_beyond Closed x ≡ Closed

both_empty : (x y : List ℕ) → x ++ y ≡ [] → (x ≡ []) × (y ≡ [])
both_empty [] y h = (refl, h)
both_empty (n ∷ x) y h = absurd (cc)

pub second_empty : {A : Type 0} (x y : List A) → x ++ y ≡ [] → y ≡ []
second_empty [] y h = h
second_empty (n ∷ x) y h = absurd (cc)

broken_off : (x z : List ℕ) (f : Frame) → length f.message ≤ 255 → z ≢ [] → spelling f ≡ x ++ z
    → found_beyond Closed x ≡ []
broken_off [] z f small some is = (new_start_lem Closed []).nothing
broken_off (n ∷ x) z f small some is =
    (passed_over_lem Closed (n ∷ x) f (record {
      frame = f;
      rest = z;
      joined = sym is;
      begun = λ e. cc;
      unfinished = some;
    }) small).none

pub begins : (fs : List Frame) (x y : List ℕ) → Small fs → x ++ y ≡ concat (spelled fs) → Begins fs x y
begins [] x y small h =
    let e = both_empty x y h in
    record {
      come = [];
      to_come = [];
      all = refl;
      finds = ap (found_beyond Closed) e.0 ∙ (new_start_lem Closed []).nothing;
      none_left = λ _. e.1;
      closed = λ _. ap (open_beyond Closed) e.0 ∙ (new_start_lem Closed []).stays;
    }
begins (f ∷ fs) x y small h = go (cut x y (spelling f) (concat (spelled fs)) h) (λ z rest. begins fs z y small.1 rest)
  where
    go : Cut x y (spelling f) (concat (spelled fs)) → ((z : List ℕ) → z ++ y ≡ concat (spelled fs) → Begins fs z y)
        → Begins (f ∷ fs) x y
    go (Before z some is) on = record {
      come = [];
      to_come = f ∷ fs;
      all = refl;
      finds = broken_off x z f small.0 some is;
      none_left = λ e. absurd (cc);
      closed = λ e. absurd (cc);
    }
    go (Behind z is rest) on =
        let later : Begins fs z y = on z (sym rest) in
        let here = always_heard_lem Closed f small.0 in
        let pieces = in_pieces_lem Closed (spelling f) z in
        record {
          come = f ∷ later.come;
          to_come = later.to_come;
          all = ap (λ l. f ∷ l) later.all;
          finds =
              ap (found_beyond Closed) is ∙ pieces.found ∙ ap (λ fs. fs
              ++ found_beyond (open_beyond Closed (spelling f)) z) here.found
              ∙ ap (λ o. Ok f ∷ found_beyond o z) here.left ∙ ap (λ fs. Ok f ∷ fs) later.finds;
          none_left = later.none_left;
          closed = λ e. ap (open_beyond Closed) is ∙ pieces.left ∙ ap (λ o. open_beyond o z) here.left ∙ later.closed e;
        }
