use Rattle.std.proofs.Common.{◌+◌, ℕ, List, ap, sym, ◌∙◌, subst, length}
use Rattle.rds_groups.specs.Shown.{text_shown}
use Rattle.rds_groups.specs.View.{receiver_of, heard_in}
use Rattle.rds_groups.proofs.Lines.{IsSoFar, begins, at_other}
use Rattle.rds_groups.proofs.receiver.Receiver.text_shown.Goals as goal

pub loop-place-init : goal.loop-place-init
loop-place-init c = record {
  few = c.text_room-count.ensures.few;
  long = ap length c.new-shown.ensures;
  so_far = begins (receiver_of c.args.self.now) c.text_room-count.result c.new-shown.result.items
      c.text_room-count.ensures.value c.new-shown.ensures;
}

pub loop-place-preserved : goal.loop-place-preserved
loop-place-preserved c =
    let whole = text_shown (receiver_of c.args.self.now) in
    let heard = heard_in c.args.self.now.text in
    let more = at_other whole c.loop-place.shown.items c.text_room-count.result c.loop-place.place c.in-Some.character
    heard
    c.loop-place-test.true c.loop-place.invariant.so_far c.in-Some.is c.if-character-eq13.false in record {
      few = c.loop-place.invariant.few;
      long = c.push.ensures.len ∙ ap (λ (n : ℕ). n + 1) c.loop-place.invariant.long;
      so_far = subst (λ (xs : List ℕ). IsSoFar whole xs c.text_room-count.result (c.loop-place.place + 1) heard)
          (sym c.push.ensures.items) more;
    }
