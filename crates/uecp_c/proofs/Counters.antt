-- How far the replies to a pass have come, counter by counter and piece by piece.
use Rattle.std.proofs.Common.{◌≡◌, ℕ, ◌==◌, Bool, true, false, ◌&&◌, ◌||◌, List, [], ◌∷◌, ◌++◌, ◌⊎◌, inl, inr, refl, ap}
use Rattle.std.proofs.Common.{◌∙◌, sym, take, drop, Option, take-append-drop, option_to_list}
use Rattle.std.proofs.lemmas.Bool.{eqb-true}
use Rattle.uecp_frame.specs.Findings.{OpenPart}
use Rattle.uecp_frame.specs.Beyond.{open_beyond}
use Rattle.uecp_link.specs.Joining.{IsJoinedBy, reply_counters}
use Rattle.uecp_link.proofs.Public.{counters-append}
use Rattle.uecp_c.specs.declared.seen.Seen.{Seen}
use Rattle.uecp_c.specs.Joining.{seen_with, seen_after}

pub seen-append : (s : Seen) (xs ys : List ℕ) → seen_after s (xs ++ ys) ≡ seen_after (seen_after s xs) ys
seen-append s [] ys = refl
seen-append s (x ∷ xs) ys = seen-append (seen_with s x) xs ys

-- one of two holds
one_holds : (a b : Bool) → (a || b) ≡ true → (a ≡ true) ⊎ (b ≡ true)
one_holds true b h = inl refl
one_holds false b h = inr h

both_hold : (a b : Bool) → (a && b) ≡ true → (a ≡ true) × (b ≡ true)
both_hold true b h = (refl, h)
both_hold false b h = absurd (cc)

left_holds : (a b : Bool) → a ≡ true → (a || b) ≡ true
left_holds true b h = refl
left_holds false b h = absurd (cc)

right_holds : (a b : Bool) → b ≡ true → (a || b) ≡ true
right_holds true b h = refl
right_holds false b h = h

-- FF stands among these
record HasLast (cs : List ℕ) : Type 0 where
  pub between : List ℕ
  pub after : List ℕ
  pub are : cs ≡ between ++ 0xFF ∷ after

-- why both were seen: they were before, or the first was and FF came, or both came
abbrev Seen_by : Seen → List ℕ → Type 0
Seen_by s cs = (s.are_both ≡ true) ⊎ ((s.is_first ≡ true) × HasLast cs) ⊎ IsJoinedBy cs

one_more : (s : Seen) (c : ℕ) (cs : List ℕ) → Seen_by (seen_with s c) cs → Seen_by s (c ∷ cs)
one_more s c cs (inl both) = by (one_holds s.are_both (s.is_first && (c == 0xFF)) both)
  where
    by : ((s.are_both ≡ true) ⊎ ((s.is_first && (c == 0xFF)) ≡ true)) → Seen_by s (c ∷ cs)
    by (inl h) = inl h
    by (inr h) =
        let two = both_hold s.is_first (c == 0xFF) h in
        inr (inl (two.0, record { between = []; after = cs; are = ap (λ n. n ∷ cs) (eqb-true c 0xFF two.1) }))
one_more s c cs (inr (inl h)) = by (one_holds s.is_first (c == 0x81) h.0)
  where
    last : HasLast cs
    last = h.1

    by : ((s.is_first ≡ true) ⊎ ((c == 0x81) ≡ true)) → Seen_by s (c ∷ cs)
    by (inl first) =
        inr (inl (first, record { between = c ∷ last.between; after = last.after; are = ap (λ l. c ∷ l) last.are }))
    by (inr same) = inr (inr (record {
      before = [];
      between = last.between;
      after = last.after;
      are = ap (λ n. n ∷ cs) (eqb-true c 0x81 same) ∙ ap (λ l. 0x81 ∷ l) last.are;
    }))
one_more s c cs (inr (inr j)) = inr (inr (record {
  before = c ∷ j.before;
  between = j.between;
  after = j.after;
  are = ap (λ l. c ∷ l) j.are;
}))

why_seen : (s : Seen) (cs : List ℕ) → (seen_after s cs).are_both ≡ true → Seen_by s cs
why_seen s [] h = inl h
why_seen s (c ∷ cs) h = one_more s c cs (why_seen (seen_with s c) cs h)

abbrev pub unseen : Seen
unseen = record { is_first = false; are_both = false }

pub seen_joins : (cs : List ℕ) → (seen_after unseen cs).are_both ≡ true → IsJoinedBy cs
seen_joins cs h = by (why_seen unseen cs h)
  where
    by : Seen_by unseen cs → IsJoinedBy cs
    by (inl k) = absurd (cc)
    by (inr (inl k)) = (let no : false ≡ true = k.0 in absurd (cc))
    by (inr (inr j)) = j

first_stays : (s : Seen) (cs : List ℕ) → s.is_first ≡ true → (seen_after s cs).is_first ≡ true
first_stays s [] h = h
first_stays s (c ∷ cs) h = first_stays (seen_with s c) cs (left_holds s.is_first (c == 0x81) h)

both_stay : (s : Seen) (cs : List ℕ) → s.are_both ≡ true → (seen_after s cs).are_both ≡ true
both_stay s [] h = h
both_stay s (c ∷ cs) h =
    both_stay (seen_with s c) cs (left_holds s.are_both (s.is_first && (c == 0xFF)) h)

last_comes : (s : Seen) → s.is_first ≡ true → (seen_with s 0xFF).are_both ≡ true
last_comes s h = right_holds s.are_both (s.is_first && true) (ap (λ b. b && true) h)

pub joins_seen : (cs : List ℕ) → IsJoinedBy cs → (seen_after unseen cs).are_both ≡ true
joins_seen cs j =
    let s1 : Seen = seen_with (seen_after unseen j.before) 0x81 in
    let s2 : Seen = seen_after s1 j.between in
    let first : s2.is_first ≡ true =
    first_stays s1 j.between (right_holds (seen_after unseen j.before).is_first true refl) in
    ap (λ l. (seen_after unseen l).are_both) j.are
    ∙ ap (λ s. s.are_both) (seen-append unseen j.before (0x81 ∷ (j.between ++ 0xFF ∷ j.after)))
    ∙ ap (λ s. s.are_both) (seen-append s1 j.between (0xFF ∷ j.after))
    ∙ both_stay (seen_with s2 0xFF) j.after (last_comes s2 first)

-- a piece is heard up to its rest, which brings what is left
pub goes_on : (address : ℕ) (part part' : OpenPart) (s s' : Seen) (piece rest : List ℕ) (used : ℕ) (counter : Option ℕ)
    → reply_counters address part (take used piece) ≡ option_to_list counter
    → s' ≡ seen_after s (option_to_list counter)
    → part' ≡ open_beyond part (take used piece)
    → rest ≡ drop used piece
    → seen_after s' (reply_counters address part' rest) ≡ seen_after s (reply_counters address part piece)
goes_on address part part' s s' piece rest used counter heard is state left =
    let there : OpenPart = open_beyond part (take used piece) in
    let more : List ℕ = reply_counters address there (drop used piece) in
    ap (λ p. seen_after s' (reply_counters address p rest)) state
    ∙ ap (λ r. seen_after s' (reply_counters address there r)) left
    ∙ ap (λ t. seen_after t more) is
    ∙ sym (seen-append s (option_to_list counter) more)
    ∙ ap (λ l. seen_after s (l ++ more)) (sym heard)
    ∙ ap (seen_after s) (sym (counters-append address part (take used piece) (drop used piece)))
    ∙ ap (λ l. seen_after s (reply_counters address part l)) (take-append-drop used piece)
