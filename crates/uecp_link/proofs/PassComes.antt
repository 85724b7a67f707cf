-- The frames of a pass as they come, and the replies to them as they are read.
use Rattle.std.proofs.Common.{◌≡◌, ◌≢◌, ℕ, zero, suc, ◌+◌, ◌≤◌, true, List, [], ◌∷◌, ◌++◌, map, refl, ◌∙◌, ap, sym}
use Rattle.std.proofs.Common.{subst, arith, eq-eqb}
use Rattle.std.specs.Prelude.{filter_map}
use Rattle.std.specs.List.{concat}
use Rattle.std.proofs.lemmas.Bool.{ne_eqb}
use Rattle.uecp_elements.specs.declared.code.Code.{Code}
use Rattle.uecp_frame.specs.declared.frame.Frame.{Frame}
use Rattle.uecp_frame.specs.Frame.{spelling}
use Rattle.uecp_encoder.specs.Joining.{is_message_to, messages_to, IsPass, rising}
use Rattle.uecp_link.specs.Frames.{frame_under}
use Rattle.uecp_link.specs.Joining.{counters_behind, frames_behind, sent_behind, pass_sent, reply_counter}
use Rattle.uecp_link.proofs.Hearing.{reaches_self, code_of_byte-byte_of}
use Rattle.uecp_link.proofs.Beginnings.{Small, spelled, found_as, second_empty}
use Rattle.uecp_link.proofs.Replying.{Rises, reply_as, firsts, taken}

-- ---- the frames of a pass

abbrev pub empties : ℕ → List ℕ → List Frame
empties address cs = map (λ counter. frame_under address (counter, [])) cs

pub sent_is : (address behind : ℕ)
    → sent_behind address behind ≡ concat (spelled (empties address (counters_behind behind)))
unfolding frames_behind
sent_is address behind = ap concat (go (counters_behind behind))
  where
    go : (cs : List ℕ) → map (λ counter. spelling (frame_under address (counter, []))) cs ≡ spelled (empties address cs)
    go [] = refl
    go (c ∷ cs) = ap (λ l. spelling (frame_under address (c, [])) ∷ l) (go cs)

pub pass_is : (address : ℕ) → pass_sent address ≡ concat (spelled (empties address (rising 1 255)))
pass_is address = sent_is address 0

pub empties_small : (address : ℕ) (cs : List ℕ) → Small (empties address cs)
empties_small address [] = tt
empties_small address (c ∷ cs) = (omega arith, empties_small address cs)

pub is_message : (address counter : ℕ) → 1 ≤ counter → is_message_to address (frame_under address (counter, [])) ≡ true
is_message address counter some = rw (reaches_self address, ne_eqb counter 0 (λ e. omega arith)) refl

-- counters of which none is lower than the one before
abbrev pub Climbs : (least : ℕ) → List ℕ → Type 0
Climbs least [] = Unit {0}
Climbs least (c ∷ cs) = (least ≤ c) × Climbs c cs

pub climbs_pass : (V : Type 0) (address least : ℕ) (cs : List ℕ) → 1 ≤ least → Climbs least cs
    → IsPass least (messages_to address (taken {V = V} (empties address cs)))
climbs_pass V address least [] some climbs = tt
climbs_pass V address least (c ∷ cs) some climbs =
    let low = climbs.0 in
    let one : 1 ≤ c = omega (arith, some, low) in
    rw (is_message address c one) (refl, low, climbs_pass V address c cs one climbs.1)

-- the two last frames of a part are a pass by themselves
pub ends_pass : (V : Type 0) (address : ℕ)
    → IsPass 1 (messages_to address (taken {V = V} (empties address (0x81 ∷ 0xFF ∷ []))))
ends_pass V address = climbs_pass V address 1 (0x81 ∷ 0xFF ∷ []) (omega arith) (omega arith, (omega arith, tt))

-- What a beginning of a pass is.
pub record Passing (V : Type 0) (address first least : ℕ) (come to_come : List Frame) : Type 0 where
  pub pass : IsPass least (messages_to address (taken {V = V} come))
  pub rise : Rises first 255 (map (λ f. f.counter) come)
  pub fewer : to_come ≢ [] → Rises first 254 (map (λ f. f.counter) come)

pub passing : (V : Type 0) (address first many least : ℕ) (come to_come : List Frame) → first + many ≡ 256 → 1 ≤ first
    → least ≤ first → empties address (rising first many) ≡ come ++ to_come → Passing V address first least come to_come
passing V address first many least [] to_come whole some le is = record { pass = tt; rise = tt; fewer = λ _. tt }
passing V address first zero least (f ∷ come) to_come whole some le is = absurd (cc)
passing V address first (suc many) least (f ∷ come) to_come whole some le is =
    let this : f ≡ frame_under address (first, []) = cc in
    let rest : Passing V address (first + 1) first come to_come =
    passing V address (first + 1) many first come to_come (omega arith) (omega arith) (omega arith)
    (let tail : empties address (rising (first + 1) many) ≡ come ++ to_come = cc in tail) in
    let counter : f.counter ≡ first = ap (λ (f : Frame). f.counter) this in
    let message : f.message ≡ [] = ap (λ (f : Frame). f.message) this in
    let to : is_message_to address f ≡ true = ap (is_message_to address) this ∙ is_message address first some in
    record {
      pass = rw to (
        message,
        omega arith,
        subst (λ n. IsPass n (messages_to address (taken {V = V} come))) (sym counter)
            rest.pass,
      );
      rise = (
        omega arith,
        omega arith,
        subst (λ n. Rises (n + 1) 255 (map (λ f. f.counter) come)) (sym counter)
            rest.rise,
      );
      fewer = λ more. (
        omega arith,
        last many whole counter more
            (let tail : empties address (rising (first + 1) many) ≡ come ++ to_come = cc in tail),
        subst (λ n. Rises (n + 1) 254 (map (λ f. f.counter) come)) (sym counter) (rest.fewer more),
      );
    }
  where
    last : (many : ℕ) → first + suc many ≡ 256 → f.counter ≡ first → to_come ≢ []
        → empties address (rising (first + 1) many) ≡ come ++ to_come → f.counter ≤ 254
    last zero whole counter more is = absurd (more (second_empty come to_come (sym is)))
    last (suc many) whole counter more is = omega arith

-- ---- replies that are read

pub replies_small : (address : ℕ) (rs : List (ℕ × Code)) → Small (map (reply_as address) rs)
replies_small address [] = tt
replies_small address (r ∷ rs) = (omega arith, replies_small address rs)

-- a reply is heard as the reply to its counter
pub counters_of : (address : ℕ) (rs : List (ℕ × Code))
    → filter_map (reply_counter address) (found_as (map (reply_as address) rs)) ≡ firsts rs
counters_of address [] = refl
counters_of address (r ∷ rs) = rw (eq-eqb address address refl, code_of_byte-byte_of r.1)
    (ap (λ cs. r.0 ∷ cs) (counters_of address rs))

-- A list of which the images were cut in two.
pub record IsCut {A B : Type 0} (g : A → B) (xs : List A) (front back : List B) : Type 0 where
  pub first : List A
  pub second : List A
  pub all : xs ≡ first ++ second
  pub front_is : front ≡ map g first
  pub back_is : back ≡ map g second

pub cut_map : {A B : Type 0} (g : A → B) (xs : List A) (front back : List B) → map g xs ≡ front ++ back
    → IsCut g xs front back
cut_map g xs [] back h = record { first = []; second = xs; all = refl; front_is = refl; back_is = sym h }
cut_map g [] (b ∷ front) back h = absurd (cc)
cut_map g (x ∷ xs) (b ∷ front) back h =
    let head : g x ≡ b = cc in
    let rest : IsCut g xs front back = cut_map g xs front back (let tail : map g xs ≡ front ++ back = cc in tail) in
    record {
      first = x ∷ rest.first;
      second = rest.second;
      all = ap (λ l. x ∷ l) rest.all;
      front_is = ap (λ c. c ∷ front) (sym head) ∙ ap (λ l. g x ∷ l) rest.front_is;
      back_is = rest.back_is;
    }

pub none_of : (rs : List (ℕ × Code)) → firsts rs ≡ [] → rs ≡ []
none_of [] h = refl
none_of (r ∷ rs) h = absurd (cc)

pub is_none : (fs : List Frame) → (fs ≢ [] → ⊥) → fs ≡ []
is_none [] h = refl
is_none (f ∷ fs) h = absurd (h (λ e. cc))
