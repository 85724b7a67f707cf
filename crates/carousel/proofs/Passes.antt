-- A text goes out in whole passes, as many as its transmissions say.
use Rattle.std.proofs.Common.{◌≡◌, ℕ, zero, suc, ◌+◌, ◌*◌, ◌<◌, ◌≤◌, List, Option, Some, ap, sym, ◌∙◌, subst, arith}
use Rattle.std.proofs.Common.{inl, inr, if◌then◌else◌, nat_lt}
use Rattle.std.specs.Prelude.{slice_get, bytes_eq}
use Rattle.std.specs.Option.{option_map_or}
use Rattle.std.proofs.Math.Nat.{mul-le-mul_left}
use Rattle.std.proofs.lemmas.Bool.{cases_lt, cases_eq, eq-eqb, ne_eqb, lt-ltb, le-ltb}
use Rattle.std.proofs.lemmas.Slice.Eq.{bytes_eq-Decides}
use Rattle.rds_store.specs.Value.{StoredText}
use Rattle.carousel.specs.Carousel.{Carousel, blanks_left}
use Rattle.carousel.specs.Texts.{segment_count, begun_at, next_place, pass_over, gone_on, chosen, blanked, text_next}
use Rattle.carousel.specs.Laws.{one_sent, after_turns, Begins, GoesOutInPasses, NextTextFollows}

-- so far: whole passes, which the carousel counts where there is a limit, and some segments of one more
record IsKept (here : ℕ) (t : StoredText) (turns : ℕ) (c : Carousel) : Type 0 where
  text : c.text ≡ t.bytes
  place : c.place ≡ here
  passes : ℕ
  whole : passes * segment_count t.bytes + c.text_segment ≡ turns
  counted : 0 < t.transmissions → c.passes ≡ passes
  few : c.text_segment ≤ segment_count t.bytes
  some : 0 < turns → 0 < c.text_segment
  started : blanks_left c ≡ 0

some_segment : (t : StoredText) → 0 < segment_count t.bytes
some_segment t = omega arith

-- the text at its place goes on
goes_on : (texts : List StoredText) (place : ℕ) (t : StoredText) (c : Carousel) → slice_get texts place ≡ Some t
    → c.text ≡ t.bytes
    → c.place ≡ place → chosen texts c ≡ gone_on texts t c
goes_on texts place t c there text at =
    let step = λ (o : Option StoredText). option_map_or
    (λ u. if bytes_eq c.text u.bytes then gone_on texts u c else begun_at texts 0 c) o (begun_at texts 0 c) in
    ap step (ap (slice_get texts) at ∙ there)
    ∙ ap (λ b. if b then gone_on texts t c else begun_at texts 0 c) ((bytes_eq-Decides c.text t.bytes).1 text)

-- where nothing of a start is left
is_chosen : (texts : List StoredText) (c : Carousel) → blanks_left c ≡ 0 → text_next texts c ≡ chosen texts c
is_chosen texts c started = ap (λ n. if nat_lt 0 n then blanked c else chosen texts c) started

-- what the choice leaves, and the count of passes in it
record IsChosen (here : ℕ) (t : StoredText) (turns : ℕ) (c : Carousel) : Type 0 where
  text : c.text ≡ t.bytes
  place : c.place ≡ here
  passes : ℕ
  whole : passes * segment_count t.bytes + c.text_segment ≡ turns
  counted : 0 < t.transmissions → c.passes ≡ passes
  within : c.text_segment < segment_count t.bytes
  started : blanks_left c ≡ 0

-- a pass is over, and another begins
another : (texts : List StoredText) (place : ℕ) (t : StoredText) (turns : ℕ) (c : Carousel) → IsKept place t turns c
    → (0 < t.transmissions → turns < segment_count t.bytes * t.transmissions) → segment_count t.bytes ≤ c.text_segment
    → IsChosen place t turns (pass_over texts t c)
another texts place t turns c kept limit over =
    let n = segment_count t.bytes in
    let some = some_segment t in
    let few = kept.few in let whole = kept.whole in
    elim (cases_eq t.transmissions 0) [
      | inl none ↦
          subst (λ b. IsChosen place t turns (if b then record c { passes = 0; text_segment = 0 }
          else if nat_lt (c.passes + 1) t.transmissions then record c { passes = c.passes + 1; text_segment = 0 }
          else begun_at texts (next_place texts c.place) c)) (sym (eq-eqb t.transmissions 0 none))
          (record {
            text = kept.text;
            place = kept.place;
            passes = kept.passes + 1;
            whole = omega arith;
            counted = λ more. absurd (omega arith);
            within = some;
            started = kept.started;
          })
      | inr limited ↦
          let counted = kept.counted (omega arith) in
          let early = limit (omega arith) in
          let more : c.passes + 1 < t.transmissions = elim (cases_lt (c.passes + 1) t.transmissions) [
            | inl less ↦ less
            | inr done ↦ let p : t.transmissions ≤ kept.passes + 1 = omega arith in
                absurd (omega (arith, mul-le-mul_left n p))
          ] in
          subst (λ b. IsChosen place t turns (if b then record c { passes = 0; text_segment = 0 }
          else if nat_lt (c.passes + 1) t.transmissions then record c { passes = c.passes + 1; text_segment = 0 }
          else begun_at texts (next_place texts c.place) c)) (sym (ne_eqb t.transmissions 0 limited))
          (subst (λ b. IsChosen place t turns (if b then record c { passes = c.passes + 1; text_segment = 0 }
          else begun_at texts (next_place texts c.place) c)) (sym (lt-ltb (c.passes + 1) t.transmissions more))
          (record {
            text = kept.text;
            place = kept.place;
            passes = kept.passes + 1;
            whole = omega arith;
            counted = λ _. omega arith;
            within = some;
            started = kept.started;
          }))
    ]

choose : (texts : List StoredText) (place : ℕ) (t : StoredText) (turns : ℕ) (c : Carousel)
    → slice_get texts place ≡ Some t
    → IsKept place t turns c → (0 < t.transmissions → turns < segment_count t.bytes * t.transmissions)
    → IsChosen place t turns (text_next texts c)
choose texts place t turns c there kept limit =
    let n = segment_count t.bytes in
    subst (IsChosen place t turns) (sym (is_chosen texts c kept.started ∙ goes_on texts place t c there kept.text
    kept.place))
    (elim (cases_lt c.text_segment n) [
      | inl within ↦ subst (λ b. IsChosen place t turns (if b then c else pass_over texts t c))
          (sym (lt-ltb c.text_segment n within))
          (record {
            text = kept.text;
            place = kept.place;
            passes = kept.passes;
            whole = kept.whole;
            counted = kept.counted;
            within = within;
            started = kept.started;
          })
      | inr over ↦ subst (λ b. IsChosen place t turns (if b then c else pass_over texts t c))
          (sym (le-ltb c.text_segment n over))
          (another texts place t turns c kept limit over)
    ])

-- and the segment goes out
one_more : (place : ℕ) (t : StoredText) (turns : ℕ) (c : Carousel) → IsChosen place t turns c
    → IsKept place t (turns + 1) (one_sent c)
one_more place t turns c is =
    let whole = is.whole in let within = is.within in
    record {
      text = is.text;
      place = is.place;
      passes = is.passes;
      whole = omega arith;
      counted = is.counted;
      few = omega arith;
      some = λ _. omega arith;
      started = is.started;
    }

kept_after : (texts : List StoredText) (place : ℕ) (t : StoredText) (turns now after : ℕ) (c : Carousel)
    → slice_get texts place ≡ Some t
    → IsKept place t now c → now + turns ≡ after → (0 < t.transmissions
    → after ≤ segment_count t.bytes * t.transmissions)
    → IsKept place t after (after_turns turns texts c)
kept_after texts place t zero now after c there kept e limit =
    let same : now ≡ after = omega arith in subst (λ (n : ℕ). IsKept place t n c) same kept
kept_after texts place t (suc turns) now after c there kept e limit =
    kept_after texts place t turns (now + 1) after (one_sent (text_next texts c)) there
    (one_more place t now (text_next texts c) (choose texts place t now c there kept
    (λ some. let h = limit some in omega arith)))
    (omega arith) limit

at_start : (texts : List StoredText) (place : ℕ) (t : StoredText) (c : Carousel) → Begins texts place t c
    → IsKept place t 0 c
at_start texts place t c begins =
    let segment = begins.segment in record {
      text = begins.text;
      place = begins.place;
      passes = 0;
      whole = omega arith;
      counted = λ _. begins.passes;
      few = omega arith;
      some = λ more. absurd (omega arith);
      started = begins.started;
    }

pub goes_out_in_passes : GoesOutInPasses
goes_out_in_passes texts place t c turns begins limit =
    let kept = kept_after texts place t turns 0 turns c begins.there (at_start texts place t c begins) (omega arith)
    (λ some. let h = limit some in omega arith) in
    let is = choose texts place t turns (after_turns turns texts c) begins.there kept limit in
    record { text = is.text; place = is.place; whole = (is.passes, is.whole); within = is.within }

-- ---- The last pass is over.
last_over : (place : ℕ) (t : StoredText) (c : Carousel) → 0 < t.transmissions
    → IsKept place t (segment_count t.bytes * t.transmissions) c
    → (segment_count t.bytes ≤ c.text_segment) × (t.transmissions ≤ c.passes + 1)
last_over place t c limited kept =
    let n = segment_count t.bytes in
    let some = some_segment t in
    let counted = kept.counted limited in
    let whole = kept.whole in let few = kept.few in
    let one : 1 ≤ t.transmissions = omega arith in
    let turns : 0 < n * t.transmissions = omega (arith, mul-le-mul_left n one) in
    let sent = kept.some turns in
    let before : kept.passes + 1 ≤ t.transmissions = elim (cases_lt kept.passes t.transmissions) [
      | inl less ↦ omega arith
      | inr more ↦ absurd (omega (arith, mul-le-mul_left n more))
    ] in
    let after : t.transmissions ≤ kept.passes + 1 = elim (cases_lt (kept.passes + 1) t.transmissions) [
      | inl less ↦ let two : kept.passes + 2 ≤ t.transmissions = omega arith in
          absurd (omega (arith, mul-le-mul_left n two))
      | inr done ↦ done
    ] in
    (omega (arith, mul-le-mul_left n before), omega arith)

pub next_text_follows : NextTextFollows
next_text_follows texts place t c begins limited =
    let n = segment_count t.bytes in
    let over = after_turns (n * t.transmissions) texts c in
    let kept = kept_after texts place t (n * t.transmissions) 0 (n * t.transmissions) c begins.there
    (at_start texts place t c begins)
    (omega arith) (λ some. omega arith) in
    let last = last_over place t over limited kept in
    is_chosen texts over kept.started ∙ goes_on texts place t over begins.there kept.text kept.place
    ∙ ap (λ b. if b then over else pass_over texts t over) (le-ltb over.text_segment n last.0)
    ∙ ap (λ b. if b then record over { passes = 0; text_segment = 0 }
    else if nat_lt (over.passes + 1) t.transmissions then record over { passes = over.passes + 1; text_segment = 0 }
    else begun_at texts (next_place texts over.place) over) (ne_eqb t.transmissions 0 (omega arith))
    ∙ ap (λ b. if b then record over { passes = over.passes + 1; text_segment = 0 }
    else begun_at texts (next_place texts over.place) over) (le-ltb (over.passes + 1) t.transmissions last.1)
    ∙ ap (λ (k : ℕ). begun_at texts (next_place texts k) over) kept.place
