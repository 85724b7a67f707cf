-- The once-machine's value and codes are those that its history makes.
use Rattle.std.proofs.Common.{◌≡◌, ℕ, zero, suc, ◌+◌, ◌<◌, ◌≤◌, ◌==◌, Bool, true, false, cond, List, [], ◌∷◌, ◌++◌}
use Rattle.std.proofs.Common.{length, length-append, append-nil, Option, Some, None, refl, ap, sym, subst, ◌∙◌, arith}
use Rattle.std.proofs.Common.{inl, inr, eq-eqb}
use Rattle.std.specs.Prelude.{slice_get}
use Rattle.std.specs.List.{AllByRecursion}
use Rattle.std.proofs.lemmas.Bool.{cases_eq, eqb-true, ne_eqb}
use Rattle.uecp_elements.specs.declared.code.Code.{Code}
use Rattle.uecp_encoder.specs.Target.{Step, Taken}
use Rattle.uecp_link.specs.Once.{Event, Submit, FrameComes, ReplyComes, NoiseToEncoder, NoiseToServer, EncoderLost}
use Rattle.uecp_link.specs.Once.{ServerLost, EncoderRestart, ServerRestart, Take, Once, message_at, Delivered, NotNext}
use Rattle.uecp_link.specs.Once.{with_code, after, applied_once, delivered, delivery, answer_of}
use Rattle.uecp_link.specs.Once.{is_next as is_next_number}
use Rattle.uecp_link.specs.History.{Act, Message, Taking, act_of, messages_in, numbers_below}
use Rattle.uecp_link.specs.Fold.{value_after, codes_after}
use Rattle.uecp_link.proofs.Numbering.{message_at-before}
use Rattle.uecp_link.proofs.Steps.{one_more, applied_after}

-- ---- Numbers and messages of a history.
messages_in-append : (acts more : List Act) → messages_in (acts ++ more) ≡ messages_in acts ++ messages_in more
messages_in-append [] more = refl
messages_in-append (Message k ∷ acts) more = ap (λ ks. k ∷ ks) (messages_in-append acts more)
messages_in-append (Taking ∷ acts) more = messages_in-append acts more

length-numbers_below : (p : ℕ) → length (numbers_below p) ≡ p
length-numbers_below zero = refl
length-numbers_below (suc p) = length-append (numbers_below p) (p ∷ [])
    ∙ (let h = length-numbers_below p in omega (arith, h))

all_push : (P : ℕ → Type 0) (ks : List ℕ) (k : ℕ) → AllByRecursion P ks → P k → AllByRecursion P (ks ++ k ∷ [])
all_push P [] k all here = (here, tt)
all_push P (x ∷ ks) k all here = (all.0, all_push P ks k all.1 here)

all_below : (n p : ℕ) → p ≤ n → AllByRecursion (λ k. k < n) (numbers_below p)
all_below n zero le = tt
all_below n (suc p) le = all_push (λ k. k < n) (numbers_below p) p (all_below n p (omega arith)) (omega arith)

module _ {V : Type 0} (step : Step V) (taken : Taken V) where
  value_after-append : (sent : List (List ℕ)) (v : V) (acts more : List Act)
      → value_after step taken sent v (acts ++ more) ≡ value_after step taken sent (value_after step taken sent v acts)
      more
  value_after-append sent v [] more = refl
  value_after-append sent v (Message k ∷ acts) more = value_after-append sent (step v (message_at sent k)).0 acts more
  value_after-append sent v (Taking ∷ acts) more = value_after-append sent (taken v).0 acts more

  codes_after-append : (sent : List (List ℕ)) (v : V) (acts more : List Act)
      → codes_after step taken sent v (acts ++ more) ≡ codes_after step taken sent v acts
      ++ codes_after step taken sent (value_after step taken sent v acts) more
  codes_after-append sent v [] more = refl
  codes_after-append sent v (Message k ∷ acts) more =
      ap (λ cs. (step v (message_at sent k)).1 ∷ cs) (codes_after-append sent (step v (message_at sent k)).0 acts more)
  codes_after-append sent v (Taking ∷ acts) more = codes_after-append sent (taken v).0 acts more

  length-codes_after : (sent : List (List ℕ)) (v : V) (acts : List Act)
      → length (codes_after step taken sent v acts) ≡ length (messages_in acts)
  length-codes_after sent v [] = refl
  length-codes_after sent v (Message k ∷ acts) = ap suc (length-codes_after sent (step v (message_at sent k)).0 acts)
  length-codes_after sent v (Taking ∷ acts) = length-codes_after sent (taken v).0 acts

  -- a message more that is sent is none of the history's
  value_after-sent : (sent : List (List ℕ)) (m : List ℕ) (v : V) (acts : List Act)
      → AllByRecursion (λ k. k < length sent) (messages_in acts)
      → value_after step taken (sent ++ m ∷ []) v acts ≡ value_after step taken sent v acts
  value_after-sent sent m v [] all = refl
  value_after-sent sent m v (Message k ∷ acts) all =
      rw (message_at-before sent m k all.0) (value_after-sent sent m (step v (message_at sent k)).0 acts all.1)
  value_after-sent sent m v (Taking ∷ acts) all = value_after-sent sent m (taken v).0 acts all

  codes_after-sent : (sent : List (List ℕ)) (m : List ℕ) (v : V) (acts : List Act)
      → AllByRecursion (λ k. k < length sent) (messages_in acts)
      → codes_after step taken (sent ++ m ∷ []) v acts ≡ codes_after step taken sent v acts
  codes_after-sent sent m v [] all = refl
  codes_after-sent sent m v (Message k ∷ acts) all =
      rw (message_at-before sent m k all.0) (ap (λ cs. (step v (message_at sent k)).1 ∷ cs)
      (codes_after-sent sent m (step v (message_at sent k)).0 acts all.1))
  codes_after-sent sent m v (Taking ∷ acts) all = codes_after-sent sent m (taken v).0 acts all

-- one code more at the end is one entry more
slice_get-push_other : (cs : List Code) (c : Code) (j : ℕ) → (j ≡ length cs → ⊥)
    → slice_get (cs ++ c ∷ []) j ≡ slice_get cs j
slice_get-push_other [] c zero ne = absurd (ne refl)
slice_get-push_other [] c (suc j) ne = refl
slice_get-push_other (x ∷ cs) c zero ne = refl
slice_get-push_other (x ∷ cs) c (suc j) ne = slice_get-push_other cs c j (λ e. ne (ap suc e))

slice_get-push_end : (cs : List Code) (c : Code) → slice_get (cs ++ c ∷ []) (length cs) ≡ Some c
slice_get-push_end [] c = refl
slice_get-push_end (x ∷ cs) c = slice_get-push_end cs c

pub slice_get-push : (cs : List Code) (c : Code) (j : ℕ)
    → with_code (slice_get cs) (length cs) c j ≡ slice_get (cs ++ c ∷ []) j
slice_get-push cs c j =
    elim (cases_eq j (length cs)) [
      | inl e ↦ rw (eq-eqb j (length cs) e) (sym (ap (slice_get (cs ++ c ∷ [])) e ∙ slice_get-push_end cs c))
      | inr ne ↦ rw (ne_eqb j (length cs) ne) (sym (slice_get-push_other cs c j ne))
    ]

-- what the once-machine holds is what its history makes
pub record Folded {V : Type 0} (step : Step V) (taken : Taken V) (opening : V) (o : Once V) (p : ℕ)
    (acts : List Act) : Type 0 where
  pub order : messages_in acts ≡ numbers_below p
  pub value : o.value ≡ value_after step taken o.sent opening acts
  pub codes : (k : ℕ) → o.codes k ≡ slice_get (codes_after step taken o.sent opening acts) k

module _ {V : Type 0} (step : Step V) (taken : Taken V) (opening : V) where
  -- nothing more came
  folded_nothing : (o : Once V) (p : ℕ) (acts : List Act) → Folded step taken opening o p acts
      → Folded step taken opening o p (acts ++ [])
  folded_nothing o p acts f = subst (λ (h : List Act). Folded step taken opening o p h) (sym (append-nil acts)) f

  pub folded : (o : Once V) (p : ℕ) (acts : List Act) (event : Event)
      → ((k : ℕ) → is_next_number o.codes (length o.sent) k ≡ (k == p)) → p ≤ length o.sent
      → Folded step taken opening o p acts
      → Folded step taken opening (after step taken o event) (applied_after o event p)
      (acts ++ act_of event (answer_of step taken o event))
  folded o p acts (Submit m) next le f =
      let all : AllByRecursion (λ k. k < length o.sent) (messages_in acts) =
      subst (λ (ks : List ℕ). AllByRecursion (λ k. k < length o.sent) ks) (sym f.order)
      (all_below (length o.sent) p le) in
      folded_nothing (after step taken o (Submit m)) p acts (record {
        order = f.order;
        value = f.value ∙ sym (value_after-sent step taken o.sent m opening acts all);
        codes = λ k. f.codes k ∙ ap (λ cs. slice_get cs k)
            (sym (codes_after-sent step taken o.sent m opening acts all));
      })
  folded o p acts (FrameComes k) next le f = go (o.codes k)
    where
      nx : Bool
      nx = is_next_number o.codes (length o.sent) k

      m : List ℕ
      m = message_at o.sent k

      cs : List Code
      cs = codes_after step taken o.sent opening acts

      by : (b : Bool) → nx ≡ b
          → Folded step taken opening (cond b (applied_once step o k) (record o { to_encoder = [] })) (cond b (p + 1) p)
          (acts ++ act_of (FrameComes k) (cond b (Delivered true (step o.value m).1) NotNext))
      by false other = folded_nothing (record o { to_encoder = [] }) p acts
          (record { order = f.order; value = f.value; codes = f.codes })
      by true same =
          let e : k ≡ p = eqb-true k p (sym (next k) ∙ same) in
          let more : suc p ≡ p + 1 = omega arith in
          let len : length cs ≡ k = length-codes_after step taken o.sent opening acts
          ∙ (ap length f.order ∙ (length-numbers_below p ∙ sym e)) in
          record {
            order = messages_in-append acts (Message k ∷ [])
                ∙ (ap (λ ks. ks ++ k ∷ []) f.order ∙ (ap (λ j. numbers_below p ++ j ∷ []) e ∙ ap numbers_below more));
            value = ap (λ v. (step v m).0) f.value ∙ sym (value_after-append step taken o.sent opening acts
                (Message k ∷ []));
            codes = λ j.
                ap (λ v. with_code o.codes k (step v m).1 j) f.value
                ∙ (ap (λ x. cond (j == k) (Some (step (value_after step taken o.sent opening acts) m).1) x) (f.codes j)
                ∙ (ap (λ n. with_code (slice_get cs) n (step (value_after step taken o.sent opening acts) m).1 j)
                (sym len)
                ∙ (slice_get-push cs (step (value_after step taken o.sent opening acts) m).1 j
                ∙ ap (λ xs. slice_get xs j) (sym (codes_after-append step taken o.sent opening acts
                (Message k ∷ []))))));
          }

      go : (c : Option Code) → Folded step taken opening (delivered step o k c) (one_more p c nx)
          (acts ++ act_of (FrameComes k) (delivery step o k c))
      go (Some code) = folded_nothing (delivered step o k (Some code)) p acts
          (record { order = f.order; value = f.value; codes = f.codes })
      go None = by nx refl
  folded o p acts (ReplyComes k) next le f = folded_nothing (after step taken o (ReplyComes k)) p acts
      (record { order = f.order; value = f.value; codes = f.codes })
  folded o p acts (NoiseToEncoder x) next le f = folded_nothing (after step taken o (NoiseToEncoder x)) p acts
      (record { order = f.order; value = f.value; codes = f.codes })
  folded o p acts (NoiseToServer x) next le f = folded_nothing (after step taken o (NoiseToServer x)) p acts
      (record { order = f.order; value = f.value; codes = f.codes })
  folded o p acts EncoderLost next le f = folded_nothing (after step taken o EncoderLost) p acts
      (record { order = f.order; value = f.value; codes = f.codes })
  folded o p acts ServerLost next le f = folded_nothing (after step taken o ServerLost) p acts
      (record { order = f.order; value = f.value; codes = f.codes })
  folded o p acts EncoderRestart next le f = folded_nothing (after step taken o EncoderRestart) p acts
      (record { order = f.order; value = f.value; codes = f.codes })
  folded o p acts ServerRestart next le f = folded_nothing (after step taken o ServerRestart) p acts
      (record { order = f.order; value = f.value; codes = f.codes })
  folded o p acts Take next le f = record {
    order = messages_in-append acts (Taking ∷ []) ∙ (ap (λ ks. ks ++ []) f.order ∙ append-nil (numbers_below p));
    value = ap (λ v. (taken v).0) f.value ∙ sym (value_after-append step taken o.sent opening acts (Taking ∷ []));
    codes = λ k. f.codes k ∙ ap (λ cs. slice_get cs k)
        (sym (codes_after-append step taken o.sent opening acts (Taking ∷ [])
        ∙ append-nil (codes_after step taken o.sent opening acts)));
  }
