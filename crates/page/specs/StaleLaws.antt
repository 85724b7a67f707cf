-- Laws of which control lines are stale, and of what is told of that.
use Rattle.std.specs.Prelude.{◌≡◌, ◌↔◌, ◌≤◌, ◌<◌, ◌+◌, ◌*◌, ℕ, true, false, List, [], ◌∷◌, ◌++◌, All, Any, Some, None}
use Rattle.page.specs.declared.clients.request.Route.TheVariants.{Health}
use Rattle.page.specs.declared.state.silence.Moment.{Moment}
use Rattle.page.specs.ControlLine.{Arrived, Line, line_behind}
use Rattle.page.specs.Silence.{is_stale}
use Rattle.page.specs.Answers.{Source, answer_of}

-- Law: a control line is stale exactly where as many seconds as the limit says have gone by since the last object that
-- names it came, whatever came before that.
abbrev pub StaleExactly : Type 0
StaleExactly = (ds : List Arrived) (d : Arrived) (l : Line) (moment : Moment) (limit : ℕ) → 0 < limit
    → moment.stale ≡ Some limit
    → (is_stale moment (line_behind (ds ++ d ∷ []) l) ≡ true) ↔ (d.came + 1000 * limit ≤ moment.now)

-- Law: to whoever asks for health it is told that something is wrong exactly where a control line that is shown is
-- stale, and that all is well exactly where none is; that always, where there is no limit.
abbrev pub HealthExactly : Type 0
HealthExactly = (source : Source) → let status = (answer_of source Health).status in
    ((status ≡ 503) ↔ Any (λ l. is_stale source.moment l ≡ true) source.shown.lines)
    × ((status ≡ 200) ↔ All (λ l. is_stale source.moment l ≡ false) source.shown.lines)
    × (source.moment.stale ≡ None → status ≡ 200)
