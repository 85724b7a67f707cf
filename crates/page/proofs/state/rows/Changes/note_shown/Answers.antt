use Rattle.std.proofs.Common.{◌≤◌, ◌<◌, length, map, rules}
use Rattle.std.proofs.lemmas.List.{length-map}
use Rattle.page.specs.Changes.{changed}
use Rattle.page.specs.StateView.{seen_of, history_of}
use Rattle.page.proofs.Kept.{each_more, each_done}
use Rattle.page.proofs.state.rows.Changes.note_shown.Goals as goal

pub loop-one-preserved : goal.loop-one-preserved
loop-one-preserved c =
    let within : c.loop-one.one-index < length c.args.behind.now = search rules in
    each_more seen_of (changed c.args.came (map seen_of c.args.before.now)) c.loop-one.one-index c.args.behind.now
    c.one-item.result (history_of c.loop-one.self) (history_of c.note_one.new.self) _ within c.one-item.is
    c.loop-one.invariant c.in_ok-note_one.ensures

pub returns : goal.returns
returns c =
    let end : length c.args.behind.now ≤ c.loop-one.one-index = search rules in
    let few : length (history_of c.loop-one.self) ≤ 1000 = rw length-map c.loop-one.self.few in
    each_done seen_of (changed c.args.came (map seen_of c.args.before.now)) c.loop-one.one-index c.args.behind.now
    (history_of c.loop-one.self) _ end few c.loop-one.invariant
