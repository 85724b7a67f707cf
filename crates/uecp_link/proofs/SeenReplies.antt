-- What was read of the replies of a pass, piece by piece.
use Rattle.std.proofs.Common.{◌≡◌, ℕ, ◌==◌, Bool, true, false, List, [], ◌∷◌, ◌++◌, take, drop, Option, Some, None, Ok}
use Rattle.std.proofs.Common.{Err, refl, ◌∙◌, ap, sym, subst, inl, inr, ◌⊎◌, append_assoc, take-append-drop}
use Rattle.std.specs.Prelude.{filter_map}
use Rattle.std.proofs.lemmas.Bool.{cases_Bool, eqb-true}
use Rattle.std.proofs.lemmas.List.Elements.{filter_map-append}
use Rattle.uecp_frame.specs.Findings.{Finding, OpenPart}
use Rattle.uecp_frame.specs.Beyond.{found_beyond, open_beyond}
use Rattle.uecp_frame.proofs.Public.{in_pieces_lem, new_start_lem}
use Rattle.uecp_elements.specs.declared.code.Code.{Code}
use Rattle.uecp_link.specs.declared.joining.Replies.{Replies}
use Rattle.uecp_link.specs.declared.joining.Seen.{Seen}
use Rattle.uecp_link.specs.declared.joining.Seen.TheVariants.{Neither, First, Both}
use Rattle.uecp_link.specs.Server.{ServerState, acknowledges, freed, heard_finding, heard_findings, heard}
use Rattle.uecp_link.specs.Joining.{reply_counter, reply_counters, IsJoinedBy, highest_of, seen_with, seen_after}
use Rattle.uecp_link.specs.Joining.{replies_with, replies_after, HearsOn}
use Rattle.uecp_link.proofs.Answered.{idle_hears}
use Rattle.uecp_link.proofs.FeedingLemmas.{server_in_pieces}
use Rattle.uecp_link.proofs.Hearing.{heard-part}

-- ---- among counters

seen-append : (s : Seen) (xs ys : List ℕ) → seen_after s (xs ++ ys) ≡ seen_after (seen_after s xs) ys
seen-append s [] ys = refl
seen-append s (x ∷ xs) ys = seen-append (seen_with s x) xs ys

still_both : (cs : List ℕ) → seen_after Both cs ≡ Both
still_both [] = refl
still_both (c ∷ cs) = still_both cs

-- FF stands among these
record HasLast (cs : List ℕ) : Type 0 where
  pub between : List ℕ
  pub after : List ℕ
  pub are : cs ≡ between ++ 0xFF ∷ after

first_finds : (cs : List ℕ) → seen_after First cs ≡ Both → HasLast cs
first_finds [] h = absurd (cc)
first_finds (c ∷ cs) h =
    elim (cases_Bool (c == 0xFF)) [
      | inl same ↦ record { between = []; after = cs; are = ap (λ n. n ∷ cs) (eqb-true c 0xFF same) }
      | inr other ↦
          (let rest = first_finds cs (let k : seen_after First cs ≡ Both = rw other at h in k) in
          record { between = c ∷ rest.between; after = rest.after; are = ap (λ l. c ∷ l) rest.are })
    ]

pub neither_finds : (cs : List ℕ) → seen_after Neither cs ≡ Both → IsJoinedBy cs
neither_finds [] h = absurd (cc)
neither_finds (c ∷ cs) h =
    elim (cases_Bool (c == 0x81)) [
      | inl same ↦
          (let rest = first_finds cs (let k : seen_after First cs ≡ Both = rw same at h in k) in
          record {
            before = [];
            between = rest.between;
            after = rest.after;
            are = ap (λ n. n ∷ cs) (eqb-true c 0x81 same) ∙ ap (λ l. 0x81 ∷ l) rest.are;
          })
      | inr other ↦
          (let rest = neither_finds cs (let k : seen_after Neither cs ≡ Both = rw other at h in k) in
          record {
            before = c ∷ rest.before;
            between = rest.between;
            after = rest.after;
            are = ap (λ l. c ∷ l) rest.are;
          })
    ]

abbrev Begun : Seen → Type 0
Begun s = (s ≡ First) ⊎ (s ≡ Both)

begun : (s : Seen) → Begun (seen_with s 0x81)
begun Neither = inl refl
begun First = inl refl
begun Both = inr refl

begun_with : (s : Seen) (c : ℕ) → Begun s → Begun (seen_with s c)
begun_with Neither c (inl h) = absurd (cc)
begun_with Neither c (inr h) = absurd (cc)
begun_with First c h = by (c == 0xFF) refl
  where
    by : (b : Bool) → (c == 0xFF) ≡ b → Begun (seen_with First c)
    by true is = inr (rw is refl)
    by false is = inl (rw is refl)
begun_with Both c h = inr refl

begun_after : (s : Seen) (cs : List ℕ) → Begun s → Begun (seen_after s cs)
begun_after s [] h = h
begun_after s (c ∷ cs) h = begun_after (seen_with s c) cs (begun_with s c h)

ended_with : (s : Seen) → Begun s → seen_with s 0xFF ≡ Both
ended_with Neither (inl h) = absurd (cc)
ended_with Neither (inr h) = absurd (cc)
ended_with First h = refl
ended_with Both h = refl

pub joined_seen : (s : Seen) (cs : List ℕ) → IsJoinedBy cs → seen_after s cs ≡ Both
joined_seen s cs j =
    let s1 : Seen = seen_with (seen_after s j.before) 0x81 in
    let s2 : Seen = seen_after s1 j.between in
    ap (seen_after s) j.are ∙ seen-append s j.before (0x81 ∷ (j.between ++ 0xFF ∷ j.after))
    ∙ seen-append s1 j.between (0xFF ∷ j.after)
    ∙ ap (λ t. seen_after t j.after) (ended_with s2 (begun_after s1 j.between (begun (seen_after s j.before))))
    ∙ still_both j.after

-- ---- among bytes

pub counters_none : (address : ℕ) (o : OpenPart) → reply_counters address o [] ≡ []
counters_none address o = ap (filter_map (reply_counter address)) (new_start_lem o []).nothing

pub counters-append : (address : ℕ) (o : OpenPart) (x y : List ℕ)
    → reply_counters address o (x ++ y) ≡ reply_counters address o x ++ reply_counters address (open_beyond o x) y
counters-append address o x y = ap (filter_map (reply_counter address)) (in_pieces_lem o x y).found
    ∙ filter_map-append (reply_counter address) (found_beyond o x) (found_beyond (open_beyond o x) y)

pub heard-address : (s : ServerState) (x : List ℕ) → (heard s x).address ≡ s.address
heard-address s x = go (record s { part = open_beyond s.part x }) (found_beyond s.part x)
  where
    kept : (s : ServerState) (o : Option (ℕ × Code)) → (freed s o).address ≡ s.address
    kept s None = refl
    kept s (Some reply) = refl

    go : (s : ServerState) (fs : List Finding) → (heard_findings s fs).address ≡ s.address
    go s [] = refl
    go s (Err fault ∷ fs) = go (heard_finding s (Err fault)) fs
    go s (Ok f ∷ fs) = go (heard_finding s (Ok f)) fs ∙ kept s (acknowledges s f)

joined_more : (xs ys : List ℕ) → IsJoinedBy xs → IsJoinedBy (xs ++ ys)
joined_more xs ys j = record {
  before = j.before;
  between = j.between;
  after = j.after ++ ys;
  are = ap (λ l. l ++ ys) j.are ∙ append_assoc j.before (0x81 ∷ (j.between ++ 0xFF ∷ j.after)) ys
      ∙ ap (λ l. j.before ++ 0x81 ∷ l) (append_assoc j.between (0xFF ∷ j.after) ys);
}

pub brought_later : (address : ℕ) (o : OpenPart) (x y : List ℕ) → IsJoinedBy (reply_counters address o x)
    → IsJoinedBy (reply_counters address o (x ++ y))
brought_later address o x y j = subst IsJoinedBy (sym (counters-append address o x y))
    (joined_more (reply_counters address o x) (reply_counters address (open_beyond o x) y) j)

replies-append : (r : Replies) (xs ys : List ℕ) → replies_after r (xs ++ ys) ≡ replies_after (replies_after r xs) ys
replies-append r [] ys = refl
replies-append r (x ∷ xs) ys = replies-append (replies_with r x) xs ys

pub replies-seen : (r : Replies) (cs : List ℕ) → (replies_after r cs).seen ≡ seen_after r.seen cs
replies-seen r [] = refl
replies-seen r (c ∷ cs) = replies-seen (replies_with r c) cs

pub replies-highest : (r : Replies) (cs : List ℕ) → (replies_after r cs).highest ≡ highest_of r.highest cs
replies-highest r [] = refl
replies-highest r (c ∷ cs) = replies-highest (replies_with r c) cs

-- what a server after some bytes reads in more is what it reads in both
pub seen_on : (s0 s : ServerState) (x y : List ℕ) (replies0 replies : Replies) → s ≡ heard s0 x
    → replies ≡ replies_after replies0 (reply_counters s0.address s0.part x)
    → replies_after replies (reply_counters s.address s.part y)
    ≡ replies_after replies0 (reply_counters s0.address s0.part (x ++ y))
seen_on s0 s x y replies0 replies state is =
    ap (λ (t : ServerState). replies_after replies (reply_counters t.address t.part y)) state
    ∙ ap (λ a. replies_after replies (reply_counters a (heard s0 x).part y)) (heard-address s0 x)
    ∙ ap (λ o. replies_after replies (reply_counters s0.address o y)) (heard-part s0 x)
    ∙ ap (λ t. replies_after t (reply_counters s0.address (open_beyond s0.part x) y)) is
    ∙ sym (replies-append replies0 (reply_counters s0.address s0.part x)
    (reply_counters s0.address (open_beyond s0.part x) y))
    ∙ ap (replies_after replies0) (sym (counters-append s0.address s0.part x y))

-- one call of `hear_reply` more
pub hears_more : (s0 s s' : ServerState) (n : ℕ) (piece rest rest' : List ℕ) (replies0 replies replies' : Replies)
    → HearsOn s0 s piece rest replies0 replies → s' ≡ heard s (take n rest) → rest' ≡ drop n rest
    → replies' ≡ replies_after replies (reply_counters s.address s.part (take n rest))
    → HearsOn s0 s' piece rest' replies0 replies'
hears_more s0 s s' n piece rest rest' replies0 replies replies' so_far state left is =
    let x : List ℕ = take n rest in
    let y : List ℕ = drop n rest in
    let whole : x ++ y ≡ rest = take-append-drop n rest in
    record {
      state = ap (λ (t : ServerState). heard t rest') state ∙ ap (heard (heard s x)) left
          ∙ sym (server_in_pieces s x y).state ∙ ap (heard s) whole ∙ so_far.state;
      idle = ap (λ (t : ServerState). t.held) state ∙ idle_hears s x so_far.idle;
      replies_are =
          ap (λ bs. replies_after replies' (reply_counters s'.address s'.part bs)) left
          ∙ seen_on s s' x y replies replies' state is
          ∙ ap (λ bs. replies_after replies (reply_counters s.address s.part bs)) whole ∙ so_far.replies_are;
    }
