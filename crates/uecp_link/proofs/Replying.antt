-- Frames of which the counters rise, and the replies to them.
use Rattle.std.proofs.Common.{◌≡◌, ℕ, ◌+◌, ◌≤◌, ◌==◌, Bool, true, false, List, [], ◌∷◌, ◌++◌, map, Option, Some, None}
use Rattle.std.proofs.Common.{Ok, Err, refl, ◌∙◌, ap, sym, subst, arith, inl, inr, ◌⊎◌, append-nil, append_assoc}
use Rattle.std.specs.Prelude.{flat_map}
use Rattle.std.specs.List.{concat}
use Rattle.std.proofs.lemmas.List.{map-append}
use Rattle.std.proofs.lemmas.List.Folds.{concat-append}
use Rattle.uecp_elements.specs.declared.code.Code.{Code}
use Rattle.uecp_frame.specs.declared.frame.Frame.{Frame}
use Rattle.uecp_frame.specs.Frame.{spelling}
use Rattle.uecp_frame.specs.Address.{reaches}
use Rattle.reply_ring.specs.Ring.{kept_code}
use Rattle.uecp_encoder.specs.Target.{Step}
use Rattle.uecp_encoder.specs.State.{EncoderState, is_next, after_finding, after_findings}
use Rattle.uecp_encoder.specs.Answering.{reply_of, response_to, responses, bytes_sent}
use Rattle.uecp_encoder.specs.Laws.{Happening, Finds, Becomes, after_happening, after_happenings}
use Rattle.uecp_encoder.specs.Joining.{replied_in, counters_replied, value_without}
use Rattle.uecp_link.specs.Frames.{frame_under}
use Rattle.uecp_link.proofs.Beginnings.{spelled, found_as}

-- ---- counters that rise

abbrev pub Rises : (least most : ℕ) → List ℕ → Type 0
Rises least most [] = Unit {0}
Rises least most (c ∷ cs) = (least ≤ c) × (c ≤ most) × Rises (c + 1) most cs

pub no_more : (least : ℕ) (xs ys : List ℕ) → Rises least 255 (xs ++ 255 ∷ ys) → ys ≡ []
no_more least [] [] r = refl
no_more least [] (y ∷ ys) r = let a = r.2.0 in let b = r.2.1 in absurd (omega arith)
no_more least (x ∷ xs) ys r = no_more (x + 1) xs ys r.2

pub not_there : (least : ℕ) (xs ys : List ℕ) → Rises least 254 (xs ++ 255 ∷ ys) → ⊥
not_there least [] ys r = let a = r.1 in omega arith
not_there least (x ∷ xs) ys r = not_there (x + 1) xs ys r.2

-- ---- counters of which only the last may be FF

abbrev pub Low : List ℕ → Type 0
Low [] = Unit {0}
Low (c ∷ cs) = (c ≤ 254) × Low cs

abbrev pub LastHigh : List ℕ → Type 0
LastHigh [] = Unit {0}
LastHigh (c ∷ cs) = ((c ≤ 254) × LastHigh cs) ⊎ (cs ≡ [])

pub low_not : (xs ys : List ℕ) → Low (xs ++ 255 ∷ ys) → ⊥
low_not [] ys l = let a = l.0 in omega arith
low_not (x ∷ xs) ys l = low_not xs ys l.1

pub last_no_more : (xs ys : List ℕ) → LastHigh (xs ++ 255 ∷ ys) → ys ≡ []
last_no_more [] ys (inl (low, l)) = absurd (omega arith)
last_no_more [] ys (inr none) = none
last_no_more (x ∷ xs) ys (inl (low, l)) = last_no_more xs ys l
last_no_more (x ∷ []) ys (inr none) = absurd (cc)
last_no_more (x ∷ y ∷ xs) ys (inr none) = absurd (cc)

-- all before an end that is not empty
pub low_before : (xs ys cs : List ℕ) → cs ≡ xs ++ ys → (ys ≡ [] → ⊥) → LastHigh cs → Low xs
low_before [] ys cs is some l = tt
low_before (x ∷ xs) ys [] is some l = absurd (cc)
low_before (x ∷ xs) ys (c ∷ cs) is some (inl (low, l)) =
    let head : c ≡ x = cc in
    (omega (arith, low, head), low_before xs ys cs (let tail : cs ≡ xs ++ ys = cc in tail) some l)
low_before (x ∷ xs) ys (c ∷ cs) is some (inr none) =
    absurd (some (go xs (let tail : cs ≡ xs ++ ys = cc in sym tail ∙ none)))
  where
    go : (xs : List ℕ) → xs ++ ys ≡ [] → ys ≡ []
    go [] h = h
    go (x ∷ xs) h = absurd (cc)

-- Some of these, in their order.
abbrev pub Among : (some all : List ℕ) → Type 0
Among [] ys = Unit {0}
Among (x ∷ xs) [] = ⊥
Among (x ∷ xs) (y ∷ ys) = ((x ≡ y) × Among xs ys) ⊎ Among (x ∷ xs) ys

among_more : (xs : List ℕ) (y : ℕ) (ys : List ℕ) → Among xs ys → Among xs (y ∷ ys)
among_more [] y ys a = tt
among_more (x ∷ xs) y ys a = inr a

among_none : (xs : List ℕ) → Among xs [] → xs ≡ []
among_none [] a = refl
among_none (x ∷ xs) a = absurd a

pub among_low : (xs ys : List ℕ) → Among xs ys → Low ys → Low xs
among_low [] ys a l = tt
among_low (x ∷ xs) [] a l = absurd a
among_low (x ∷ xs) (y ∷ ys) (inl (same, a)) l = let low = l.0 in
    (omega (arith, low, same), among_low xs ys a l.1)
among_low (x ∷ xs) (y ∷ ys) (inr a) l = among_low (x ∷ xs) ys a l.1

pub among_last : (xs ys : List ℕ) → Among xs ys → LastHigh ys → LastHigh xs
among_last [] ys a l = tt
among_last (x ∷ xs) [] a l = absurd a
among_last (x ∷ xs) (y ∷ ys) (inl (same, a)) (inl (low, l)) =
    inl (omega (arith, low, same), among_last xs ys a l)
among_last (x ∷ xs) (y ∷ ys) (inl (same, a)) (inr none) = inr (among_none xs (subst (Among xs) none a))
among_last (x ∷ xs) (y ∷ ys) (inr a) (inl (low, l)) = among_last (x ∷ xs) ys a l
among_last (x ∷ xs) (y ∷ ys) (inr a) (inr none) = absurd (subst (Among (x ∷ xs)) none a)

-- ---- counters from one to another

abbrev pub Within : (least most : ℕ) → List ℕ → Type 0
Within least most [] = Unit {0}
Within least most (c ∷ cs) = (least ≤ c) × (c ≤ most) × Within least most cs

pub among_within : (least most : ℕ) (xs ys : List ℕ) → Among xs ys → Within least most ys → Within least most xs
among_within least most [] ys a w = tt
among_within least most (x ∷ xs) [] a w = absurd a
among_within least most (x ∷ xs) (y ∷ ys) (inl (same, a)) w =
    let low = w.0 in
    let high = w.1 in
    (omega (arith, low, same), omega (arith, high, same), among_within least most xs ys a w.2)
among_within least most (x ∷ xs) (y ∷ ys) (inr a) w = among_within least most (x ∷ xs) ys a w.2

-- ---- replies to frames

abbrev pub reply_as : ℕ → ℕ × Code → Frame
reply_as address r = reply_of address r.0 r.1

abbrev pub firsts : List (ℕ × Code) → List ℕ
firsts rs = map (λ r. r.0) rs

abbrev pub taken : {V : Type 0} → List Frame → List (Happening V)
taken fs = map (λ f. Finds (Ok f)) fs

module _ {V : Type 0} (step : Step V) where
  -- what one frame is answered
  pub record OneReply (e : EncoderState V) (f : Frame) : Type 0 where
    pub made : List (ℕ × Code)
    pub sent : bytes_sent (response_to step e (Ok f)) ≡ concat (spelled (map (reply_as e.address) made))
    pub counters : replied_in step e (Finds (Ok f)) ≡ firsts made
    pub one : (made ≡ []) ⊎ (firsts made ≡ f.counter ∷ [])
    pub address : (after_finding step e (Ok f)).address ≡ e.address

  pub one_reply : (e : EncoderState V) (f : Frame) → OneReply e f
  one_reply e f = go (reaches f.address e.address) (f.counter == 0) (kept_code e.ring f.counter) refl refl refl
    where
      go : (r z : Bool) (k : Option Code) → reaches f.address e.address ≡ r → (f.counter == 0) ≡ z
          → kept_code e.ring f.counter ≡ k → OneReply e f
      go false z k a b c = record { made = []; sent = rw a; counters = rw a; one = inl refl; address = rw a }
      go true true k a b c = record {
        made = [];
        sent = rw (a, b);
        counters = rw (a, b);
        one = inl refl;
        address = rw (a, b);
      }
      go true false (Some code) a b c = record {
        made = (f.counter, code) ∷ [];
        sent = rw (a, b, c) (sym (append-nil (spelling (reply_of e.address f.counter code))));
        counters = rw (a, b, c);
        one = inr refl;
        address = rw (a, b, c);
      }
      go true false None a b c = by (is_next e.ring f.counter) refl
        where
          by : (n : Bool) → is_next e.ring f.counter ≡ n → OneReply e f
          by true n = record {
            made = (f.counter, (step e.value f.message).1) ∷ [];
            sent = rw (a, b, c, n) (sym (append-nil (spelling
                (reply_of e.address f.counter (step e.value f.message).1))));
            counters = rw (a, b, c, n);
            one = inr refl;
            address = rw (a, b, c, n);
          }
          by false n = record {
            made = [];
            sent = rw (a, b, c, n);
            counters = rw (a, b, c, n);
            one = inl refl;
            address = rw (a, b, c, n);
          }

  -- what frames are answered, one after another
  pub record Replies (e : EncoderState V) (fs : List Frame) : Type 0 where
    pub made : List (ℕ × Code)
    pub sent : flat_map bytes_sent (responses step e (found_as fs)) ≡ concat (spelled (map (reply_as e.address) made))
    pub counters : counters_replied step e (taken fs) ≡ firsts made
    pub rise : (least most : ℕ) → Rises least most (map (λ f. f.counter) fs) → Rises least most (firsts made)
    pub among : Among (firsts made) (map (λ f. f.counter) fs)

  less : (low least most : ℕ) (cs : List ℕ) → low ≤ least → Rises least most cs → Rises low most cs
  less low least most [] le r = r
  less low least most (c ∷ cs) le r = let a = r.0 in (omega arith, r.1, r.2)

  rise_on : (f : Frame) (least most : ℕ) (now later : List (ℕ × Code)) → (now ≡ []) ⊎ (firsts now ≡ f.counter ∷ [])
      → least ≤ f.counter → f.counter ≤ most → Rises (f.counter + 1) most (firsts later)
      → Rises least most (firsts (now ++ later))
  rise_on f least most now later (inl none) low high rest =
      subst (λ (rs : List (ℕ × Code)). Rises least most (firsts (rs ++ later))) (sym none)
      (less least (f.counter + 1) most (firsts later) (omega arith) rest)
  rise_on f least most now later (inr one) low high rest =
      subst (Rises least most) (sym (map-append (λ (r : ℕ × Code). r.0) now later ∙ ap (λ cs. cs ++ firsts later) one))
      (low, high, rest)

  among_on : (f : Frame) (now later : List (ℕ × Code)) (cs : List ℕ)
      → (now ≡ []) ⊎ (firsts now ≡ f.counter ∷ []) → Among (firsts later) cs
      → Among (firsts (now ++ later)) (f.counter ∷ cs)
  among_on f now later cs (inl none) rest =
      subst (λ (rs : List (ℕ × Code)). Among (firsts (rs ++ later)) (f.counter ∷ cs)) (sym none)
      (among_more (firsts later) f.counter cs rest)
  among_on f now later cs (inr one) rest =
      subst (λ xs. Among xs (f.counter ∷ cs))
      (sym (map-append (λ (r : ℕ × Code). r.0) now later ∙ ap (λ xs. xs ++ firsts later) one)) (inl (refl, rest))

  pub replies : (e : EncoderState V) (fs : List Frame) → Replies e fs
  replies e [] = record { made = []; sent = refl; counters = refl; rise = λ least most r. r; among = tt }
  replies e (f ∷ fs) =
      let e1 : EncoderState V = after_finding step e (Ok f) in
      let here : OneReply e f = one_reply e f in
      let rest : Replies e1 fs = replies e1 fs in
      record {
        made = here.made ++ rest.made;
        sent =
            ap (λ bs. bs ++ flat_map bytes_sent (responses step e1 (found_as fs))) here.sent
            ∙ ap (λ bs. concat (spelled (map (reply_as e.address) here.made)) ++ bs)
            (rest.sent ∙ ap (λ (a : ℕ). concat (spelled (map (reply_as a) rest.made))) here.address)
            ∙ sym (concat-append (spelled (map (reply_as e.address) here.made))
            (spelled (map (reply_as e.address) rest.made)))
            ∙ ap concat (sym (map-append (λ (f : Frame). spelling f) (map (reply_as e.address) here.made)
            (map (reply_as e.address) rest.made)))
            ∙ ap (λ l. concat (spelled l)) (sym (map-append (reply_as e.address) here.made rest.made));
        counters =
            ap (λ cs. cs ++ counters_replied step e1 (taken fs)) here.counters
            ∙ ap (λ cs. firsts here.made ++ cs) rest.counters
            ∙ sym (map-append (λ (r : ℕ × Code). r.0) here.made rest.made);
        rise = λ least most r. rise_on f least most here.made rest.made here.one r.0 r.1
            (rest.rise (f.counter + 1) most r.2);
        among = among_on f here.made rest.made (map (λ f. f.counter) fs) here.one rest.among;
      }

  -- ---- an encoder that takes frames

  pub after_more : (e : EncoderState V) (xs ys : List (Happening V))
      → after_happenings step e (xs ++ ys) ≡ after_happenings step (after_happenings step e xs) ys
  after_more e [] ys = refl
  after_more e (x ∷ xs) ys = after_more (after_happening step e x) xs ys

  pub replied_more : (e : EncoderState V) (xs ys : List (Happening V)) → counters_replied step e (xs ++ ys)
      ≡ counters_replied step e xs ++ counters_replied step (after_happenings step e xs) ys
  replied_more e [] ys = refl
  replied_more e (x ∷ xs) ys = ap (λ cs. replied_in step e x ++ cs) (replied_more (after_happening step e x) xs ys)
      ∙ sym (append_assoc (replied_in step e x) (counters_replied step (after_happening step e x) xs)
      (counters_replied step (after_happenings step (after_happening step e x) xs) ys))

  -- an empty message changes no value
  empty_keeps : ((v : V) → (step v []).0 ≡ v) → (e : EncoderState V) (f : Frame) → f.message ≡ []
      → (after_finding step e (Ok f)).value ≡ e.value
  empty_keeps same e f empty = go (reaches f.address e.address) (f.counter == 0) (kept_code e.ring f.counter)
      (is_next e.ring f.counter) refl refl refl refl
    where
      go : (r z : Bool) (k : Option Code) (n : Bool) → reaches f.address e.address ≡ r → (f.counter == 0) ≡ z
          → kept_code e.ring f.counter ≡ k → is_next e.ring f.counter ≡ n
          → (after_finding step e (Ok f)).value ≡ e.value
      go false z k n a b c d = rw a refl
      go true true k n a b c d = rw (a, b) refl
      go true false (Some code) n a b c d = rw (a, b, c) refl
      go true false None true a b c d = rw (a, b, c, d) (ap (λ m. (step e.value m).0) empty ∙ same e.value)
      go true false None false a b c d = rw (a, b, c, d) refl

  pub empties_keep : ((v : V) → (step v []).0 ≡ v) → (address : ℕ) (e : EncoderState V) (cs : List ℕ)
      → (after_happenings step e (taken (map (λ counter. frame_under address (counter, [])) cs))).value ≡ e.value
  empties_keep same address e [] = refl
  empties_keep same address e (c ∷ cs) =
      empties_keep same address (after_finding step e (Ok (frame_under address (c, [])))) cs
      ∙ empty_keeps same e (frame_under address (c, [])) refl

  pub after_taken : (e : EncoderState V) (fs : List Frame)
      → after_happenings step e (taken fs) ≡ after_findings step e (found_as fs)
  after_taken e [] = refl
  after_taken e (f ∷ fs) = after_taken (after_finding step e (Ok f)) fs

  pub without_taken : (v : V) (fs : List Frame) → value_without v (taken {V = V} fs) ≡ v
  without_taken v [] = refl
  without_taken v (f ∷ fs) = without_taken v fs

  pub address_is : (e : EncoderState V) (hs : List (Happening V)) → (after_happenings step e hs).address ≡ e.address
  address_is e [] = refl
  address_is e (Finds (Err fault) ∷ hs) = address_is (after_finding step e (Err fault)) hs
  address_is e (Becomes value counts part ∷ hs) = address_is (after_happening step e (Becomes value counts part)) hs
  address_is e (Finds (Ok f) ∷ hs) = let here : OneReply e f = one_reply e f in
      address_is (after_finding step e (Ok f)) hs ∙ here.address
