-- Of those so far each that is meant was told.
use Rattle.std.proofs.Common.{◌≡◌, length, map}
use Rattle.serde_json.specs.View.{view}
use Rattle.page.specs.Shown.{told_if}
use Rattle.page.specs.StateView.{service_of}
use Rattle.page.proofs.Among.{each}
use Rattle.page.proofs.state.services.tell_each.Given as goal

abbrev pub invariant-loop-place : goal.invariant-loop-place
invariant-loop-place l = record {
  told : map service_of l.rows.items
      ≡ each (told_if l.current l.set l.service (view l.value)) l.place (map service_of l.fn.rows.items);
  long : length l.rows.items ≡ length l.fn.rows.items;
}
