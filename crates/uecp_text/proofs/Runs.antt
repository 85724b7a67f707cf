-- Runs over texts, part by part.
use Rattle.std.proofs.Common.{◌≡◌, ℕ, ◌+◌, List, [], ◌∷◌, ◌++◌, Option, Some, None, Err, refl, sym, ap, ◌∙◌}
use Rattle.std.proofs.Common.{append_assoc, append-nil, inl, inr, subst, true, ◌⊎◌}
use Rattle.uecp_text.specs.declared.text_fault.TextFault.{TextFault}
use Rattle.uecp_text.specs.declared.text_fault.TextFault.TheVariants as flaw
use Rattle.uecp_text.specs.declared.run_fault.RunFault.{RunFault}
use Rattle.uecp_text.specs.declared.run_fault.RunFault.TheVariants as run
use Rattle.uecp_text.specs.declared.interpreter.Taken.{Taken}
use Rattle.uecp_text.specs.declared.interpreter.Taken.TheVariants as taken
use Rattle.uecp_text.specs.Input.{under, numbered, said, lines_of}
use Rattle.uecp_text.specs.Run.{Meaning, Brings, Refuses, Runs, RunsFirst, RunsOn, fault_at, outcome_of}
use Rattle.uecp_text.specs.Written.{Kept, Writes}

pub writes_then : (a b c : Kept) (x y : List ℕ) → Writes a b x → Writes b c y → Writes a c (x ++ y)
writes_then a b c x y p q = λ whole.
    let first = p whole in
    let second = q first.0 in
    (second.0, second.1 ∙ ap (λ bytes. bytes ++ y) first.1 ∙ append_assoc a.bytes x y)

pub writes_nothing : (a : Kept) → Writes a a []
writes_nothing a = λ whole. (whole, sym (append-nil a.bytes))

-- lines that were taken into an empty output, and then added
pub writes_added : (empty taken before after : Kept) (lines : List ℕ) → empty.bytes ≡ [] → empty.is_whole ≡ true
    → Writes empty taken lines → after.bytes ≡ before.bytes ++ taken.bytes → after.is_whole ≡ before.is_whole
    → Writes before after lines
writes_added empty taken before after lines none whole writes added same = λ w.
    (same ∙ w, added ∙ ap (λ bytes. before.bytes ++ bytes) ((writes whole).1 ∙ ap (λ bytes. bytes ++ lines) none))

-- ---- some first texts
pub first_none : {V : Type 0} (meaning : Meaning V) (v : V) (texts : List (ℕ × List ℕ)) → RunsFirst meaning v texts []
first_none meaning v texts = ([], texts, v, refl, (refl, refl, refl))

pub first_all : {V : Type 0} (meaning : Meaning V) (v v' : V) (texts : List (ℕ × List ℕ)) (lines : List ℕ)
    → Runs meaning v texts lines None v' → RunsFirst meaning v texts lines
first_all meaning v v' texts lines ran = (texts, [], v', sym (append-nil texts), ran)

-- memory was wanting before anything was added
pub wanting : {V : Type 0} (meaning : Meaning V) (v v' : V) (texts : List (ℕ × List ℕ)) (out : Kept)
    → RunsOn meaning v texts out (Err run.OutOfMemory) v' out
wanting meaning v v' texts out = inl (refl, ([], first_none meaning v texts, writes_nothing out))

-- after texts that were all taken, more texts
pub runs_on : {V : Type 0} (meaning : Meaning V) (v m v' : V) (now later : List (ℕ × List ℕ)) (first rest : List ℕ)
    (stop : Option RunFault) →
    Runs meaning v now first None m → Runs meaning m later rest stop v'
    → Runs meaning v (now ++ later) (first ++ rest) stop v'
runs_on meaning v m v' [] later first rest stop (first_is, none, same) more =
    subst (λ w. Runs meaning w later (first ++ rest) stop v') same
    (subst (λ lines. Runs meaning m later (lines ++ rest) stop v') (sym first_is) more)
runs_on meaning v m v' ((number, text) ∷ now) later first rest stop ran more = elim ran [
  | inl taken ↦ inl (
    taken.0,
    taken.1 ++ rest,
    taken.2,
    taken.3,
    ap (λ f. f ++ rest) taken.4 ∙ append_assoc taken.0 taken.1 rest,
    runs_on meaning taken.2 m v' now later taken.1 rest stop taken.5 more,
  )
  | inr (inl refused) ↦ absurd (let none : None ≡ Some (run.Text number refused.0) = refused.3 in cc)
  | inr (inr ended) ↦ absurd (let none : None ≡ Some run.Outstanding = ended.1 in cc)
]

-- texts up to one at which the run stops, and more behind it
pub runs_up_to : {V : Type 0} (meaning : Meaning V) (v v' : V) (now later : List (ℕ × List ℕ)) (lines : List ℕ)
    (stop : RunFault) →
    Runs meaning v now lines (Some stop) v' → Runs meaning v (now ++ later) lines (Some stop) v'
runs_up_to meaning v v' [] later lines stop (lines_are, some, same) = absurd (let none : Some stop ≡ None = some in cc)
runs_up_to meaning v v' ((number, text) ∷ now) later lines stop ran = elim ran [
  | inl taken ↦ inl (
    taken.0,
    taken.1,
    taken.2,
    taken.3,
    taken.4,
    runs_up_to meaning taken.2 v' now later taken.1 stop taken.5,
  )
  | inr stopped ↦ inr stopped
]

pub under-more : (number : ℕ) (text : Option (List ℕ)) (rest : List (ℕ × List ℕ))
    → under number text [] ++ rest ≡ under number text rest
under-more number None rest = refl
under-more number (Some text) rest = refl

-- ---- one text
pub takes_one : {V : Type 0} (meaning : Meaning V) (v v' : V) (number : ℕ) (text lines : List ℕ)
    → meaning v text (Brings lines) v' → Runs meaning v ((number, text) ∷ []) lines None v'
takes_one meaning v v' number text lines said = inl (lines, [], v', said, sym (append-nil lines), (refl, refl, refl))

refuses_one : {V : Type 0} (meaning : Meaning V) (v v' : V) (number : ℕ) (text : List ℕ) (fault : TextFault)
    → meaning v text (Refuses fault) v' → Runs meaning v ((number, text) ∷ []) [] (Some (run.Text number fault)) v'
refuses_one meaning v v' number text fault said = inr (inl (fault, said, refl, refl))

-- a text that was taken, and ends the run
pub ended_one : {V : Type 0} (meaning : Meaning V) (v v' : V) (number : ℕ) (text : Option (List ℕ)) (said : List ℕ)
    (turn : Taken) (before after : Kept) →
    text ≡ Some said → turn ≡ taken.Ends
    → (lines : List ℕ) × meaning v said (outcome_of turn lines) v' × Writes before after lines
    → (lines : List ℕ) × Runs meaning v (under number text []) lines (Some run.Outstanding) v'
    × Writes before after lines
ended_one meaning v v' number text said turn before after text_is ends (lines, came, wrote) = (
  lines,
  subst (λ t. Runs meaning v (under number t []) lines (Some run.Outstanding) v') (sym text_is)
      (inr (inr (subst (λ t. meaning v said (outcome_of t lines) v') ends came, refl))),
  wrote,
)

-- a text whose taking failed with this fault, which the run reports under the line's number
pub failed_one : {V : Type 0} (meaning : Meaning V) (v v' : V) (number : ℕ) (text : Option (List ℕ)) (said : List ℕ)
    (fault : TextFault) (reported : RunFault) (before after : Kept) →
    text ≡ Some said → reported ≡ fault_at number fault
    → (fault ≡ flaw.OutOfMemory) ⊎ (meaning v said (Refuses fault) v' × Writes before after [])
    → (reported ≡ run.OutOfMemory) ⊎ ((lines : List ℕ)
    × Runs meaning v (under number text []) lines (Some reported) v' × Writes before after lines)
failed_one {V} meaning v v' number text said fault reported before after text_is reported_is failed =
    subst (λ t. Failed t reported) (sym text_is) (subst (λ r. Failed (Some said) r) (sym reported_is)
    (by_fault fault failed))
  where
    Failed : Option (List ℕ) → RunFault → Type 0
    Failed text reported = (reported ≡ run.OutOfMemory) ⊎ ((lines : List ℕ)
        × Runs meaning v (under number text []) lines (Some reported) v' × Writes before after lines)

    named : (fault : TextFault) → meaning v said (Refuses fault) v' × Writes before after []
        → Failed (Some said) (run.Text number fault)
    named fault (refused, writes) = inr ([], refuses_one meaning v v' number said fault refused, writes)

    by_fault : (fault : TextFault) → (fault ≡ flaw.OutOfMemory)
        ⊎ (meaning v said (Refuses fault) v' × Writes before after [])
        → Failed (Some said) (fault_at number fault)
    by_fault flaw.OutOfMemory h = inl refl
    by_fault flaw.NotHex h = elim h [
      | inl e ↦ absurd (let n : flaw.NotHex ≡ flaw.OutOfMemory = e in cc)
      | inr s ↦ named flaw.NotHex s
    ]
    by_fault flaw.NotACommand h = elim h [
      | inl e ↦ absurd (let n : flaw.NotACommand ≡ flaw.OutOfMemory = e in cc)
      | inr s ↦ named flaw.NotACommand s
    ]
    by_fault flaw.NoFrame h = elim h [
      | inl e ↦ absurd (let n : flaw.NoFrame ≡ flaw.OutOfMemory = e in cc)
      | inr s ↦ named flaw.NoFrame s
    ]
    by_fault flaw.MessageTooLong h = elim h [
      | inl e ↦ absurd (let n : flaw.MessageTooLong ≡ flaw.OutOfMemory = e in cc)
      | inr s ↦ named flaw.MessageTooLong s
    ]
    by_fault (flaw.Unsaid unsaid) h = elim h [
      | inl e ↦ absurd (let n : flaw.Unsaid unsaid ≡ flaw.OutOfMemory = e in cc)
      | inr s ↦ named (flaw.Unsaid unsaid) s
    ]

-- ---- lines that are kept until there are many
-- What is kept once the lines are added to the output.
abbrev pub both : Kept → Kept → Kept
both output lines = record { bytes = output.bytes ++ lines.bytes; is_whole = output.is_whole }

-- more lines, behind those that are whole
pub both_more : (output before after : Kept) (more : List ℕ) → before.is_whole ≡ true → Writes before after more
    → Writes (both output before) (both output after) more
both_more output before after more whole wrote = λ w. (
  w,
  ap (λ bytes. output.bytes ++ bytes) (wrote whole).1 ∙ sym (append_assoc output.bytes before.bytes more),
)

pub still_whole : (before after : Kept) (more : List ℕ) → before.is_whole ≡ true → Writes before after more
    → after.is_whole ≡ true
still_whole before after more whole wrote = (wrote whole).0

-- they were added, and no line is kept
pub both_added : (output output' lines none : Kept) → output'.bytes ≡ output.bytes ++ lines.bytes
    → output'.is_whole ≡ output.is_whole → none.bytes ≡ [] → both output lines ≡ both output' none
both_added output output' lines none added same empty = λ i. record {
  bytes = (sym added ∙ sym (append-nil output'.bytes) ∙ ap (λ l. output'.bytes ++ l) (sym empty)) i;
  is_whole = sym same i;
}

pub both_out : (output output' lines : Kept) → output'.bytes ≡ output.bytes ++ lines.bytes
    → output'.is_whole ≡ output.is_whole → both output lines ≡ output'
both_out output output' lines added same = λ i. record { bytes = sym added i; is_whole = sym same i }

pub both_none : (output none : Kept) → none.bytes ≡ [] → both output none ≡ output
both_none output none empty = λ i. record {
  bytes = (ap (λ l. output.bytes ++ l) empty ∙ append-nil output.bytes) i;
  is_whole = output.is_whole;
}

-- ---- one line after another
-- The texts before these were taken, and what they brought is written.
abbrev pub Led : {V : Type 0} → Meaning V → V → List (ℕ × List ℕ) → Kept → V → List (ℕ × List ℕ) → Kept → Type 0
Led {V} meaning start texts first v left now =
    (so_far : List ℕ) × (done : List (ℕ × List ℕ)) × Writes first now so_far × (texts ≡ done ++ left)
    × Runs meaning start done so_far None v

pub led_at_first : {V : Type 0} (meaning : Meaning V) (v : V) (texts : List (ℕ × List ℕ)) (out : Kept)
    → Led meaning v texts out v texts out
led_at_first meaning v texts out = ([], [], writes_nothing out, refl, (refl, refl, refl))

-- the texts of the rest, by its first line and what follows
numbered-line : (number : ℕ) (line : List ℕ) (lines : List (List ℕ))
    → numbered number (line ∷ lines) ≡ under number (said line) (numbered (number + 1) lines)
unfolding numbered
numbered-line number line lines = refl

pub texts_by_line : (number : ℕ) (rest line more : List ℕ) → lines_of rest ≡ line ∷ lines_of more
    → numbered number (lines_of rest) ≡ under number (said line) [] ++ numbered (number + 1) (lines_of more)
texts_by_line number rest line more lines = ap (numbered number) lines ∙ numbered-line number line (lines_of more)
    ∙ sym (under-more number (said line) (numbered (number + 1) (lines_of more)))

no_texts : (number : ℕ) → numbered number (lines_of []) ≡ []
unfolding lines_of numbered
no_texts number = refl

module _ {V : Type 0} (meaning : Meaning V) (start v : V) (texts : List (ℕ × List ℕ)) (first out out' : Kept)
    (number : ℕ) (rest line more : List ℕ)
    (led : Led meaning start texts first v (numbered number (lines_of rest)) out)
    (lines_are : lines_of rest ≡ line ∷ lines_of more) where
  -- the texts by the line at hand
  abbrev now : List (ℕ × List ℕ)
  now = under number (said line) []

  abbrev later : List (ℕ × List ℕ)
  later = numbered (number + 1) (lines_of more)

  texts_are : texts ≡ led.1 ++ (now ++ later)
  texts_are = led.3 ∙ ap (λ left. led.1 ++ left) (texts_by_line number rest line more lines_are)

  pub led_on : (m : V) → (lines : List ℕ) × Runs meaning v now lines None m × Writes out out' lines
      → Led meaning start texts first m later out'
  led_on m (lines, ran, wrote) = (
    led.0 ++ lines,
    led.1 ++ now,
    writes_then first out out' led.0 lines led.2 wrote,
    texts_are ∙ sym (append_assoc led.1 now later),
    runs_on meaning start v m led.1 now led.0 lines None led.4 ran,
  )

  pub led_first : (lines : List ℕ) → RunsFirst meaning v now lines → RunsFirst meaning start texts (led.0 ++ lines)
  led_first lines (some, others, m, now_is, ran) = (
    led.1 ++ some,
    others ++ later,
    m,
    texts_are ∙ ap (λ left. led.1 ++ left) (ap (λ n. n ++ later) now_is ∙ append_assoc some others later)
        ∙ sym (append_assoc led.1 some (others ++ later)),
    runs_on meaning start v m led.1 some led.0 lines None led.4 ran,
  )

  pub led_stop : (lines : List ℕ) (stop : RunFault) (v' : V) → Runs meaning v now lines (Some stop) v'
      → Runs meaning start texts (led.0 ++ lines) (Some stop) v'
  led_stop lines stop v' ran =
      subst (λ texts. Runs meaning start texts (led.0 ++ lines) (Some stop) v') (sym texts_are)
      (runs_on meaning start v v' led.1 (now ++ later) led.0 lines (Some stop) led.4
      (runs_up_to meaning v v' now later lines stop ran))

  pub led_out : (v' : V) (fault : RunFault) → RunsOn meaning v now out (Err fault) v' out'
      → RunsOn meaning start texts first (Err fault) v' out'
  led_out v' fault failed = elim failed [
    | inl (is, (lines, some, wrote)) ↦ inl
        (is, (led.0 ++ lines, led_first lines some, writes_then first out out' led.0 lines led.2 wrote))
    | inr (lines, ran, wrote) ↦ inr (
      led.0 ++ lines,
      led_stop lines fault v' ran,
      writes_then first out out' led.0 lines led.2 wrote,
    )
  ]

-- so what was written is what some first texts bring
pub led_some : {V : Type 0} (meaning : Meaning V) (start v : V) (texts : List (ℕ × List ℕ)) (first : Kept)
    (left : List (ℕ × List ℕ)) (out : Kept) →
    Led meaning start texts first v left out
    → (lines : List ℕ) × RunsFirst meaning start texts lines × Writes first out lines
led_some meaning start v texts first left out (so_far, done, wrote, texts_are, ran) =
    (so_far, (done, left, v, texts_are, ran), wrote)

-- The texts so far were taken, and what they brought is written or kept in whole lines; what is written is what some
-- first texts bring.
abbrev pub Waits : {V : Type 0} → Meaning V → V → List (ℕ × List ℕ) → Kept → V → List (ℕ × List ℕ)
    → (output lines : Kept)
    → Type 0
Waits meaning start texts first v left output lines =
    (lines.is_whole ≡ true) × Led meaning start texts first v left (both output lines)
    × ((written : List ℕ) × RunsFirst meaning start texts written × Writes first output written)

-- the lines were added to the output
pub waits_added : {V : Type 0} (meaning : Meaning V) (start v : V) (texts left : List (ℕ × List ℕ))
    (first output output' lines none : Kept) →
    Waits meaning start texts first v left output lines → output'.bytes ≡ output.bytes ++ lines.bytes
    → output'.is_whole ≡ output.is_whole → none.bytes ≡ [] → none.is_whole ≡ true
    → Waits meaning start texts first v left output' none
waits_added meaning start v texts left first output output' lines none (whole, led, some) added same empty now_whole = (
  now_whole,
  subst (λ out. Led meaning start texts first v left out) (both_added output output' lines none added same empty) led,
  led_some meaning start v texts first left output'
      (subst (λ out. Led meaning start texts first v left out) (both_out output output' lines added same) led),
)

pub led_end : {V : Type 0} (meaning : Meaning V) (start v : V) (texts : List (ℕ × List ℕ)) (first out : Kept)
    (number : ℕ) (rest : List ℕ) →
    Led meaning start texts first v (numbered number (lines_of rest)) out → rest ≡ []
    → (lines : List ℕ) × Runs meaning start texts lines None v × Writes first out lines
led_end meaning start v texts first out number rest (so_far, done, wrote, texts_are, ran) rest_is = (
  so_far,
  subst (λ all. Runs meaning start all so_far None v)
      (sym (texts_are ∙ ap (λ left. done ++ left) none_left ∙ append-nil done)) ran,
  wrote,
)
  where
    none_left : numbered number (lines_of rest) ≡ []
    none_left = ap (λ r. numbered number (lines_of r)) rest_is ∙ no_texts number
