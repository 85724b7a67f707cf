-- Which control lines are stale, and what is told of that.
use Rattle.std.proofs.Common.{◌≡◌, ◌↔◌, ℕ, ◌+◌, ◌-◌, ◌*◌, ◌/◌, ◌<◌, ◌≤◌, Bool, true, false, cond, List, [], ◌∷◌}
use Rattle.std.proofs.Common.{◌++◌, get_or, Some, None, refl, ◌∙◌, ap, sym, arith}
use Rattle.std.specs.Prelude.{nat_le, All, Any, codes}
use Rattle.std.specs.List.{list_any}
use Rattle.std.proofs.lemmas.List.Folds.{Any-from_list_any, list_any-from_Any, list_any_none, list_any_at}
use Rattle.std.proofs.lemmas.Bool.Decides.{nat_tests}
use Rattle.page.specs.declared.clients.request.Route.TheVariants.{Health}
use Rattle.page.specs.declared.state.silence.Moment.{Moment}
use Rattle.page.specs.ControlLine.{Arrived, Line, line_after, line_behind}
use Rattle.page.specs.Silence.{silent, is_too_long, is_stale}
use Rattle.page.specs.Texts.{stale_texts}
use Rattle.page.specs.Answers.{Source, answer_of, given, plain}

-- the last object says when
told_last : (ds : List Arrived) (d : Arrived) (l : Line) → (line_behind (ds ++ d ∷ []) l).told_at ≡ d.came
told_last [] d l = refl
told_last (e ∷ ds) d l = told_last ds d (line_after e l)

long_enough : (limit now came : ℕ) → 0 < limit → nat_le limit ((now - came) / 1000) ≡ true
    → came + 1000 * limit ≤ now
long_enough limit now came some h =
    let q : limit ≤ (now - came) / 1000 = grind (arith, nat_tests) in
    omega (arith, q)

too_short : (limit now came : ℕ) → came + 1000 * limit ≤ now → nat_le limit ((now - came) / 1000) ≡ true
too_short limit now came h =
    let q : limit ≤ (now - came) / 1000 = omega (arith, h) in
    grind (arith, nat_tests)

pub stale_exactly : (ds : List Arrived) (d : Arrived) (l : Line) (moment : Moment) (limit : ℕ) → 0 < limit
    → moment.stale ≡ Some limit
    → (is_stale moment (line_behind (ds ++ d ∷ []) l) ≡ true) ↔ (d.came + 1000 * limit ≤ moment.now)
stale_exactly ds d l moment limit some is =
    let test : is_stale moment (line_behind (ds ++ d ∷ []) l) ≡ nat_le limit ((moment.now - d.came) / 1000) =
    ap (λ o. is_too_long o ((moment.now - (line_behind (ds ++ d ∷ []) l).told_at) / 1000)) is
    ∙ ap (λ t. nat_le limit ((moment.now - t) / 1000)) (told_last ds d l) in (
      λ h. long_enough limit moment.now d.came some (sym test ∙ h),
      λ h. test ∙ too_short limit moment.now d.came h,
    )

not_true : (b : Bool) → (b ≡ true → ⊥) → b ≡ false
not_true true h = absurd (h refl)
not_true false h = refl

not_both : (b : Bool) → b ≡ true → b ≡ false → ⊥
not_both b h h' = absurd (cc (h, h'))

none_of : (p : Line → Bool) (ls : List Line) → list_any p ls ≡ false → All (λ l. p l ≡ false) ls
none_of p ls h k d lt = not_true _ (λ t. not_both (list_any p ls) (list_any_at p ls k d lt t) h)

-- the status is by the test
status_is : (b : Bool) (text : List ℕ) → ℕ
status_is b text =
    (cond b (plain 503 (codes "Service Unavailable") text)
    (given (codes "text/plain; charset=utf-8") (codes "ok\n"))).status

wrong : (b : Bool) (text : List ℕ) → (status_is b text ≡ 503) ↔ (b ≡ true)
unfolding status_is
wrong true text = (λ h. refl, λ h. refl)
wrong false text = (λ h. absurd (omega (arith, h)), λ h. absurd (cc h))

well : (b : Bool) (text : List ℕ) → (status_is b text ≡ 200) ↔ (b ≡ false)
unfolding status_is
well true text = (λ h. absurd (omega (arith, h)), λ h. absurd (cc h))
well false text = (λ h. refl, λ h. refl)

no_limit : (moment : Moment) (ls : List Line) → moment.stale ≡ None → list_any (is_stale moment) ls ≡ false
no_limit moment ls none =
    list_any_none (is_stale moment) ls
    (λ k d lt. ap (λ o. is_too_long o (silent moment.now (get_or ls k d))) none)

pub health_exactly : (source : Source) → let status = (answer_of source Health).status in
    ((status ≡ 503) ↔ Any (λ l. is_stale source.moment l ≡ true) source.shown.lines)
    × ((status ≡ 200) ↔ All (λ l. is_stale source.moment l ≡ false) source.shown.lines)
    × (source.moment.stale ≡ None → status ≡ 200)
unfolding status_is
health_exactly source =
    let p = is_stale source.moment in
    let ls = source.shown.lines in
    let b = list_any p ls in
    let text = stale_texts source.moment ls in (
      (
        λ h. Any-from_list_any p ls ((wrong b text).0 h),
        λ h. (wrong b text).1 (list_any-from_Any p ls h),
      ),
      (
        λ h. none_of p ls ((well b text).0 h),
        λ h. (well b text).1 (list_any_none p ls h),
      ),
      λ h. (well b text).1 (no_limit source.moment ls h),
    )
