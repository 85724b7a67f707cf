-- The rows so far, and those of the services that are left, are all.
use Rattle.std.proofs.Common.{◌≡◌, ◌++◌, drop, map}
use Rattle.std.specs.Prelude.{flat_map}
use Rattle.page.specs.Changes.{changed, last_1000}
use Rattle.page.specs.StateView.{seen_of, history_of}
use Rattle.page.proofs.state.rows.Changes.note_shown.Given as goal

abbrev pub invariant-loop-one : goal.invariant-loop-one
invariant-loop-one l =
    last_1000 (history_of l.self
    ++ flat_map (changed l.came (map seen_of l.before)) (drop l.one-index (map seen_of l.behind)))
    ≡ last_1000 (history_of l.fn.self ++ flat_map (changed l.came (map seen_of l.before)) (map seen_of l.behind))
