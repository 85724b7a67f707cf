use Rattle.std.proofs.Common.{map}
use Rattle.std.specs.Prelude.{flat_map}
use Rattle.std.proofs.lemmas.Result.{on_ok_weaker}
use Rattle.page.specs.Changes.{changed, ended, history_after}
use Rattle.page.specs.StateView.{seen_of, history_of}
use Rattle.page.proofs.Kept.{in_turn}
use Rattle.page.proofs.state.rows.Changes.note.Goals as goal

pub returns : goal.returns
unfolding history_after
returns c =
    let before = map seen_of c.args.before.now in
    let behind = map seen_of c.args.behind.now in
    on_ok_weaker c.note_gone.result (λ told. in_turn (history_of c.args.self.now) (history_of c.note_shown.new.self)
    (history_of c.note_gone.new.self) (flat_map (changed c.args.came before) behind)
    (flat_map (ended c.args.came behind) before) c.in_ok-note_shown.ensures told) c.note_gone.ensures
