-- The control lines so far are others, and the rest is as it was.
use Rattle.std.proofs.Common.{◌≡◌, ◌-◌, drop, map}
use Rattle.serde_json.specs.View.{view}
use Rattle.page.specs.Members.{name_of}
use Rattle.page.specs.ControlLine.{is_named, line_after, new_line}
use Rattle.page.specs.State.{told_line, has_place}
use Rattle.page.specs.StateView.{line_of}
use Rattle.page.proofs.Among.{after_some}
use Rattle.page.proofs.state.page.Page.tell.Given as goal

abbrev pub invariant-loop-place : goal.invariant-loop-place
invariant-loop-place l = record {
  rest : told_line 128 (name_of (view l.value)) (record { object = view l.value; came = l.came })
      (map line_of l.fn.self.lines.items)
      ≡ after_some line_of (is_named (name_of (view l.value)))
      (line_after (record { object = view l.value; came = l.came })) (new_line (name_of (view l.value))) l.place
      l.self.lines.items;
  place : has_place 128 (name_of (view l.value)) (map line_of l.fn.self.lines.items)
      ≡ has_place (128 - l.place) (name_of (view l.value)) (drop l.place (map line_of l.self.lines.items));
  same : l.self ≡ l.fn.self;
}
