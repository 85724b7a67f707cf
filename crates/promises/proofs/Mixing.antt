-- Where each text has its toggle set, no text is mixed, nor over a start.
use Rattle.std.proofs.Common.{◌≡◌, ◌⊎◌, ℕ, zero, suc, ◌+◌, ◌/◌, ◌<◌, ◌≤◌, Bool, true, false, not, List, [], ◌∷◌}
use Rattle.std.proofs.Common.{length, Option, Some, None, refl, arith, ap, sym, ◌∙◌, subst, inl, inr, if◌then◌else◌}
use Rattle.std.proofs.Common.{◌&&◌}
use Rattle.std.specs.Prelude.{slice_get, unwrap_or, bytes_eq, is_some, IfSome, ◌||◌}
use Rattle.std.specs.List.{AllByRecursion}
use Rattle.std.proofs.lemmas.Bool.{cases_lt, cases_eq, cases_Bool, false≢true}
use Rattle.std.proofs.lemmas.Slice.Eq.{bytes_eq-Decides}
use Rattle.rds_groups.specs.Groups.{blocks}
use Rattle.rds_store.specs.Value.{Store, ServiceData, StoredText}
use Rattle.rds_groups.specs.Heard.{came}
use Rattle.rds_groups.specs.Shown.{Receiver, hears_own, left_of, is_same, nothing, text_shown, switched_on}
use Rattle.rds_groups.specs.Shown.{line, before, is_return}
use Rattle.carousel.specs.Carousel.{Carousel, blanks_left}
use Rattle.carousel.specs.Texts.{no_text, line_up, segment_count, begun, chosen}
use Rattle.carousel.specs.Service.{main_service}
use Rattle.carousel.specs.Next.{sent, send_text, text_sent, next_group}
use Rattle.promises.specs.OnAir.{IsService, IsStore, after, carousel_after}
use Rattle.promises.specs.AirLaws.{HasHeardNothing, HasHeardOnly, HasHeardBefore, Toggles, NoTextIsMixed}
use Rattle.promises.specs.AirLaws.{OthersToggle, TogglesBehind}
use Rattle.promises.specs.AirLaws.{NoTextIsMixedOverAStart, up_to_return}
use Rattle.promises.proofs.AirHearing.{texted_now, text_comes, text_stays, left_same, MayHold}
use Rattle.promises.proofs.Choice.{IsFine, any_choice, is_blanked, is_chosen}
use Rattle.promises.proofs.Steps.{step_is, on_air, fine}
use Rattle.promises.proofs.AirLines.{text_may_show, text_is_up_to_return}
use Rattle.promises.proofs.Tuning.{AllOk, Standing, Settled, Elsewhere, Anything, run}

-- ---- The text that goes out stays, or the flag turns.
pub record Stays (c d : Carousel) : Type 0 where
  pub text : d.text ≡ c.text
  pub flag : d.flag ≡ c.flag
  pub blanks : d.blanks ≡ c.blanks

abbrev pub StaysOrTurns : Carousel → Carousel → Type 0
StaysOrTurns c d = Stays c d ⊎ (d.flag ≡ not c.flag)

-- a text of these bytes, or one whose toggle is set
abbrev IsSet : (bytes : List ℕ) → StoredText → Type 0
IsSet bytes t = (t.bytes ≡ bytes) ⊎ (t.toggle ≡ true)

toggled : (bytes : List ℕ) (us : List StoredText) → AllByRecursion (IsSet bytes) us → (place : ℕ)
    → IsSet bytes (unwrap_or (slice_get us place) no_text)
toggled bytes [] all place = inr refl
toggled bytes (u ∷ us) all zero = all.0
toggled bytes (u ∷ us) all (suc place) = toggled bytes us all.1 place

line_toggled : (bytes : List ℕ) (ts : List StoredText) → AllByRecursion (IsSet bytes) ts
    → AllByRecursion (IsSet bytes) (line_up ts)
line_toggled bytes [] all = (inr refl, tt)
line_toggled bytes (t ∷ ts) all = all

no_turn : (turns flag : Bool) → (if turns && not true then not flag else flag) ≡ flag
no_turn true flag = refl
no_turn false flag = refl

sets : (toggle first : Bool) → (toggle ≡ true) ⊎ (first ≡ true) → (toggle || first) ≡ true
sets toggle first (inl set) = ap (λ b. b || first) set
sets true first (inr set) = refl
sets false first (inr set) = set

-- a text that begins: it is the one on the air, or turns the flag
begun_turns : (t : StoredText) (place : ℕ) (c : Carousel) → IsSet c.text t ⊎ (is_some c.blanks ≡ true)
    → StaysOrTurns c (begun place t c)
begun_turns t place c due =
    let turns = t.toggle || is_some c.blanks in
    let flag = λ (turns same : Bool). if turns && not same then not c.flag else c.flag in
    elim (cases_Bool (bytes_eq c.text t.bytes)) [
      | inl equal ↦ inl (record {
        text = sym ((bytes_eq-Decides c.text t.bytes).0 equal);
        flag = ap (flag turns) equal ∙ no_turn turns c.flag;
        blanks = ap (λ same. if same then c.blanks else None) equal;
      })
      | inr unlike ↦
          let set : turns ≡ true = elim due [
            | inl (inl same) ↦
                absurd (false≢true (sym unlike ∙ (bytes_eq-Decides c.text t.bytes).1 (sym same)))
            | inl (inr toggle) ↦ sets t.toggle (is_some c.blanks) (inl toggle)
            | inr first ↦ sets t.toggle (is_some c.blanks) (inr first)
          ] in
          inr (ap (flag turns) unlike ∙ ap (λ b. flag b false) set)
    ]

-- so is each text, or the first of a start is still to come
abbrev pub AreToTurn : ServiceData → Carousel → Type 0
AreToTurn s c = AllByRecursion (IsSet c.text) s.texts ⊎ (is_some c.blanks ≡ true)

pub stays_or_turns : (s : ServiceData) (c : Carousel) → AreToTurn s c → StaysOrTurns c (chosen (line_up s.texts) c)
stays_or_turns s c due =
    let us = line_up s.texts in
    any_choice (StaysOrTurns c) us c
    (λ place. begun_turns (unwrap_or (slice_get us place) no_text) place c (elim due [
      | inl all ↦ inl (toggled c.text us (line_toggled c.text s.texts all) place)
      | inr first ↦ inr first
    ]))
    (λ t e is within. inl (record { text = refl; flag = refl; blanks = refl }))
    (λ t e is passes. inl (record { text = refl; flag = refl; blanks = refl }))

-- ---- What was heard.
apart : (a b : Bool) → a ≡ not b → is_same b a ≡ false
apart a true h = h
apart a false h = ap not h

-- where the flag turned nothing is left
none_left : (c d : Carousel) (r : Receiver) → r.flag ≡ c.flag → d.flag ≡ not c.flag → (p : ℕ)
    → MayHold (left_of d.flag false r p) (sent d.text p)
none_left c d r flag turned p =
    let other : is_same r.flag d.flag ≡ false = ap (λ b. is_same b d.flag) flag ∙ apart d.flag c.flag turned in
    inl (ap (λ b. (if b && is_same r.is_short false then r.text else nothing) p) other)

-- what is left of the text that was heard, once the next text was chosen
left_may : (c d : Carousel) (r : Receiver) → HasHeardOnly c r → StaysOrTurns c d → (p : ℕ)
    → MayHold (left_of d.flag false r p) (sent d.text p)
left_may c d r only (inl same) p =
    subst (λ (o : Option ℕ). MayHold o (sent d.text p))
    (sym (ap (λ (heard : ℕ → Option ℕ). heard p) (left_same d.flag r (only.flag ∙ sym same.flag) only.long)))
    (subst (λ (bytes : List ℕ). MayHold (r.text p) (sent bytes p)) (sym same.text) (only.at p))
left_may c d r only (inr turned) p = none_left c d r only.flag turned p

-- a segment of a text, where all that is left is of it
only_now : (s : ServiceData) (d : Carousel) (r : Receiver) → IsFine d
    → ((p : ℕ) → MayHold (left_of d.flag false r p) (sent d.text p))
    → HasHeardOnly (text_sent s d).1 (texted_now s d r)
only_now s d r f left = record {
  flag = refl;
  long = refl;
  at = λ p. elim (cases_eq (p / 4) d.text_segment) [
    | inl here ↦ inr (text_comes s d p r f.are_bytes here)
    | inr there ↦
        subst (λ (o : Option ℕ). MayHold o (sent d.text p)) (sym (text_stays s d (Some _) (Some _) p r there))
        (left p)
  ];
  few = f.short;
}

-- ---- At a start.
-- an empty text is on the air, and the receiver heard its end
record IsEmptied (c : Carousel) (r : Receiver) : Type 0 where
  first : is_some c.blanks ≡ true
  empty : c.text ≡ []
  flag : r.flag ≡ c.flag
  long : r.is_short ≡ false
  end : r.text 0 ≡ Some 0x0D

emptied_now : (s : ServiceData) (d : Carousel) (r : Receiver) → IsFine d → is_some d.blanks ≡ true → d.text ≡ []
    → IsEmptied (text_sent s d).1 (texted_now s d r)
emptied_now s d r f first empty =
    let within = f.within in
    let one : segment_count d.text ≡ 1 = ap segment_count empty in
    record {
      first = first;
      empty = empty;
      flag = refl;
      long = refl;
      end = text_comes s d 0 r f.are_bytes (omega arith) ∙ ap (λ (bytes : List ℕ). Some (sent bytes 0)) empty;
    }

abbrev IsClear : Carousel → Receiver → Type 0
IsClear c r = HasHeardOnly c r ⊎ IsEmptied c r

-- whatever was heard before, once an empty text of a start came
blank_clears : (s : ServiceData) (c : Carousel) (r : Receiver) → IsService s → 0 < blanks_left c
    → IsClear (send_text s c).1 (texted_now s (on_air s c) r)
blank_clears s c r ok some =
    let is = is_blanked (line_up s.texts) c some in
    inr (emptied_now s (on_air s c) r (fine s c ok) (ap (λ (x : Carousel). is_some x.blanks) is)
    (ap (λ (x : Carousel). x.text) is))

-- and where none of them is left
stays_clear : (s : ServiceData) (c d : Carousel) (r : Receiver) → IsFine d → StaysOrTurns c d → IsClear c r
    → IsClear (text_sent s d).1 (texted_now s d r)
stays_clear s c d r f how (inl only) = inl (only_now s d r f (left_may c d r only how))
stays_clear s c d r f (inl same) (inr emptied) =
    inr (emptied_now s d r f (ap is_some same.blanks ∙ emptied.first) (same.text ∙ emptied.empty))
stays_clear s c d r f (inr turned) (inr emptied) = inl (only_now s d r f (none_left c d r emptied.flag turned))

clear_texted : (s : ServiceData) (c : Carousel) (r : Receiver) → IsService s → AreToTurn s c → IsClear c r
    → IsClear (send_text s c).1 (texted_now s (on_air s c) r)
clear_texted s c r ok due clear = elim (cases_lt 0 (blanks_left c)) [
  | inl some ↦ blank_clears s c r ok some
  | inr none ↦
      let is = is_chosen (line_up s.texts) c (omega arith) in
      stays_clear s c (on_air s c) r (fine s c ok) (subst (StaysOrTurns c) (sym is) (stays_or_turns s c due)) clear
]

due_of : (v : Store) (c : Carousel) → (c.blanks ≡ None → OthersToggle c v) → AreToTurn (main_service v) c
due_of v c toggles = by c.blanks refl
  where
    by : (o : Option ℕ) → c.blanks ≡ o → AreToTurn (main_service v) c
    by None e = inl (toggles e)
    by (Some left) e = inr (ap is_some e)

-- ---- Groups.
-- what a group of another kind leaves
clear_kept : (c d : Carousel) (r q : Receiver) → Stays c d → r.flag ≡ q.flag → r.is_short ≡ q.is_short → r.text ≡ q.text
    → IsClear c r → IsClear d q
clear_kept c d r q same flag long text clear = elim clear [
  | inl only ↦ inl (record {
    flag = sym flag ∙ only.flag ∙ sym same.flag;
    long = sym long ∙ only.long;
    at = λ p. subst (λ (bytes : List ℕ). MayHold (q.text p) (sent bytes p)) (sym same.text)
        (subst (λ (heard : ℕ → Option ℕ). MayHold (heard p) (sent c.text p)) text (only.at p));
    few = subst (λ (bytes : List ℕ). length bytes ≤ 64) (sym same.text) only.few;
  })
  | inr emptied ↦ inr (record {
    first = ap is_some same.blanks ∙ emptied.first;
    empty = same.text ∙ emptied.empty;
    flag = sym flag ∙ emptied.flag ∙ sym same.flag;
    long = sym long ∙ emptied.long;
    end = ap (λ (heard : ℕ → Option ℕ). heard 0) (sym text) ∙ emptied.end;
  })
]

clear_step : (v : Store) (c : Carousel) (r : Receiver) → IsStore v → (c.blanks ≡ None → OthersToggle c v) → IsClear c r
    → IsClear (next_group v c).1 (hears_own (came (blocks (next_group v c).0)) r)
clear_step v c r ok toggles clear =
    let s = main_service v in
    step_is s v c r IsClear ok.service (record { same = refl; first = ok.first })
    (λ h. clear_kept c _ r _ (record { text = refl; flag = refl; blanks = refl }) refl refl refl clear)
    (λ h. clear_texted s c r ok.service (due_of v c toggles) clear)
    (λ h w. clear_kept c _ r _ (record { text = refl; flag = refl; blanks = refl }) refl refl refl clear)

-- a group of a start: an empty text, or as many of them are left
blank_or_left : (v : Store) (c : Carousel) (r : Receiver) → IsStore v → 0 < blanks_left c
    → IsClear (next_group v c).1 (hears_own (came (blocks (next_group v c).0)) r)
    ⊎ (blanks_left (next_group v c).1 ≡ blanks_left c)
blank_or_left v c r ok some =
    step_is (main_service v) v c r (λ d q. IsClear d q ⊎ (blanks_left d ≡ blanks_left c)) ok.service
    (record { same = refl; first = ok.first })
    (λ h. inr refl) (λ h. inl (blank_clears (main_service v) c r ok.service some)) (λ h w. inr refl)

-- what a receiver holds of a text that began anew, or heard only of the one on the air: nothing, or that
abbrev HasHeardRight : Carousel → Receiver → Type 0
HasHeardRight c r = HasHeardNothing r ⊎ IsClear c r

nothing_left : (flag : Bool) (r : Receiver) → HasHeardNothing r → (p : ℕ) → left_of flag false r p ≡ None
nothing_left flag r none p = kept (is_same r.flag flag && is_same r.is_short false)
  where
    kept : (b : Bool) → (if b then r.text else nothing) p ≡ None
    kept true = none p
    kept false = refl

abbrev TogglesAt : Store → Carousel → Type 0
TogglesAt v c = c.blanks ≡ None → OthersToggle c v

right_step : (v : Store) (c : Carousel) (r : Receiver) → IsStore v → TogglesAt v c → HasHeardRight c r
    → HasHeardRight (next_group v c).1 (hears_own (came (blocks (next_group v c).0)) r)
right_step v c r ok toggles (inr clear) = inr (clear_step v c r ok toggles clear)
right_step v c r ok toggles (inl none) =
    let s = main_service v in
    step_is s v c r HasHeardRight ok.service (record { same = refl; first = ok.first })
    (λ h. inl (λ p. none p))
    (λ h. let d = on_air s c in
    inr (inl (only_now s d r (fine s c ok.service) (λ p. inl (nothing_left d.flag r none p)))))
    (λ h w. inl (λ p. none p))

right_anew : (v : Store) (c : Carousel) → IsStore v → TogglesAt v c
    → HasHeardRight (next_group v c).1 (hears_own (came (blocks (next_group v c).0)) switched_on)
right_anew v c ok toggles = right_step v c switched_on ok toggles (inl (λ p. refl))

toggles_at : (vs : List Store) (c : Carousel) → TogglesBehind vs c → AllOk TogglesAt vs c
toggles_at [] c all = tt
toggles_at (v ∷ vs) c all = (all.0, toggles_at vs (next_group v c).1 all.1)

-- ---- Over a start, of which so many empty texts are left.
abbrev HasHeardStart : (left : ℕ) → Carousel → Receiver → Type 0
HasHeardStart left c r = HasHeardRight c r ⊎ (blanks_left c ≡ left)

start_step : (left : ℕ) → 0 < left → (v : Store) (c : Carousel) (r : Receiver) → IsStore v → TogglesAt v c
    → HasHeardStart left c r
    → HasHeardStart left (next_group v c).1 (hears_own (came (blocks (next_group v c).0)) r)
start_step left some v c r ok toggles (inl right) = inl (right_step v c r ok toggles right)
start_step left some v c r ok toggles (inr are) = elim (blank_or_left v c r ok (omega arith)) [
  | inl clear ↦ inl (inr clear)
  | inr same ↦ inr (same ∙ are)
]

-- ---- What is shown.
shows_clear : (c : Carousel) (r : Receiver) → IsClear c r
    → IfSome (text_shown r) (λ shown. shown ≡ up_to_return c.text)
shows_clear c r (inl only) = text_may_show c.text r only.few only.long only.at
shows_clear c r (inr emptied) =
    let shown : text_shown r ≡ Some [] = text_is_up_to_return [] r (omega arith) emptied.long
    (λ p within few. let first : p ≡ 0 = omega arith in
    subst (λ (n : ℕ). r.text n ≡ Some (sent [] n)) (sym first) emptied.end) in
    subst (λ (o : Option (List ℕ)). IfSome o (λ shown. shown ≡ up_to_return c.text)) (sym shown)
    (ap up_to_return (sym emptied.empty))

pub all_behind : (vs : List Store) (c : Carousel) → AllByRecursion Toggles vs → TogglesBehind vs c
all_behind [] c all = tt
all_behind (v ∷ vs) c all = (λ begun. each (main_service v).texts all.0, all_behind vs (next_group v c).1 all.1)
  where
    each : (ts : List StoredText) → AllByRecursion (λ (t : StoredText). t.toggle ≡ true) ts
        → AllByRecursion (IsSet c.text) ts
    each [] set = tt
    each (t ∷ ts) set = (inr set.0, each ts set.1)

nothing_in : (count place : ℕ) (heard : ℕ → Option ℕ) → heard place ≡ None → line (suc count) place heard ≡ None
nothing_in count place heard none =
    ap (λ (o : Option ℕ). if is_return o then Some [] else before o (line count (place + 1) heard)) none

nothing_shown : (r : Receiver) → HasHeardNothing r → text_shown r ≡ None
unfolding text_shown
nothing_shown r none = by r.is_short
  where
    by : (b : Bool) → line (if b then 32 else 64) 0 r.text ≡ None
    by true = nothing_in 31 0 r.text (none 0)
    by false = nothing_in 63 0 r.text (none 0)

shows_right : (c : Carousel) (r : Receiver) → HasHeardRight c r
    → IfSome (text_shown r) (λ shown. shown ≡ up_to_return c.text)
shows_right c r (inr clear) = shows_clear c r clear
shows_right c r (inl none) =
    subst (λ (o : Option (List ℕ)). IfSome o (λ shown. shown ≡ up_to_return c.text)) (sym (nothing_shown r none)) tt

stands : (vs : List Store) (c : Carousel) (r : Receiver) → HasHeardBefore vs c r
    → Standing HasHeardRight vs r.pi c r
stands vs c r (inl (none, inl nothing)) = Settled refl none (inl nothing)
stands vs c r (inl (none, inr only)) = Settled refl none (inr (inl only))
stands vs c r (inr other) = Elsewhere refl other

pub no_text_is_mixed : NoTextIsMixed
no_text_is_mixed vs c r ok all stay heard shows =
    shows_right (carousel_after vs c) (after vs c r)
    (run TogglesAt HasHeardRight right_step right_anew vs r.pi c r ok (toggles_at vs c (all_behind vs c all)) stay
    (stands vs c r heard) shows)

pub no_text_is_mixed_over_a_start : NoTextIsMixedOverAStart
no_text_is_mixed_over_a_start vs c r ok toggles stay fewer shows =
    let left = blanks_left c in
    let some : 0 < left = omega arith in
    elim (run TogglesAt (HasHeardStart left) (start_step left some)
    (λ v d ok toggles. inl (right_anew v d ok toggles)) vs r.pi c r ok (toggles_at vs c toggles) stay
    (Anything refl (λ q. inr refl)) shows) [
      | inl right ↦ shows_right (carousel_after vs c) (after vs c r) right
      | inr same ↦ absurd (omega arith)
    ]
