-- One control line after another is asked whether it is the one.
use Rattle.std.proofs.Common.{◌≡◌, ◌<◌, ◌≤◌, true, false, not, length, refl, ◌∙◌, ap, sym, rules}
use Rattle.std.proofs.lemmas.Result.{on_ok_weaker}
use Rattle.serde_json.specs.View.{view}
use Rattle.page.specs.declared.state.page.Page.{Page}
use Rattle.page.specs.Members.{name_of}
use Rattle.page.specs.Counts.{one_more}
use Rattle.page.specs.ControlLine.{Arrived, is_named, line_after, new_line}
use Rattle.page.specs.State.{has_place, told_in}
use Rattle.page.specs.StateView.{line_of, state_of}
use Rattle.page.proofs.Among.{none_yet, not_this, this, same_read, comes_last, no_room}
use Rattle.page.proofs.Placing.{place_here, place_behind, place_left, no_place_left, state_same}
use Rattle.page.proofs.state.page.Page.tell.Goals as goal

pub loop-place-init : goal.loop-place-init
loop-place-init c = record { rest = none_yet line_of _ _ _ _; place = refl; same = refl }

pub loop-place-preserved : goal.loop-place-preserved
loop-place-preserved c =
    let d = view c.args.value in
    let o : Arrived = record { object = d; came = c.args.came } in
    let within : c.loop-place.place < length c.loop-place.self.lines.items = search rules in
    let other : is_named (name_of d) (line_of c.index.result.now) ≡ false =
    sym (ap (λ n. is_named n (line_of c.index.result.now)) c.name_of.ensures) ∙ sym c.is_named.ensures
    ∙ c.if-is_named.false in
    record {
      rest = c.loop-place.invariant.rest
          ∙ not_this line_of (is_named (name_of d)) (line_after o) (new_line (name_of d)) c.loop-place.place
          c.loop-place.self.lines.items c.index.result.now within c.index.ensures other;
      place = c.loop-place.invariant.place
          ∙ place_behind line_of (name_of d) c.loop-place.place c.loop-place.self.lines.items c.index.result.now within
          c.index.ensures other;
      same = c.loop-place.invariant.same;
    }

pub returns-then-is_named : goal.returns-then-is_named
returns-then-is_named c =
    let d = view c.args.value in
    let o : Arrived = record { object = d; came = c.args.came } in
    let within : c.loop-place.place < length c.loop-place.self.lines.items = search rules in
    let is : is_named (name_of d) (line_of c.index.result.now) ≡ true =
    sym (ap (λ n. is_named n (line_of c.index.result.now)) c.name_of.ensures) ∙ sym c.is_named.ensures
    ∙ c.if-is_named.true in
    let same : c.index_mut.result.now ≡ c.index.result.now =
    same_read c.loop-place.self.lines.items c.loop-place.place c.index_mut.result.now c.index.result.now within
    c.index_mut.ensures.value c.index.ensures in
    let place : has_place 128 (name_of d) (state_of c.args.self.now).lines ≡ true =
    c.loop-place.invariant.place
    ∙ place_here line_of (name_of d) c.loop-place.place c.loop-place.self.lines.items c.index.result.now within
    c.index.ensures is in
    on_ok_weaker c.take.result (λ taken.
    state_same _ (told_in o (state_of c.args.self.now))
    (this line_of (is_named (name_of d)) (line_after o) (new_line (name_of d)) c.loop-place.place
    c.loop-place.self.lines.items _ c.index.result.now c.take.new.self within c.index.ensures is
    (taken ∙ ap (λ l. line_after o (line_of l)) same) refl ∙ sym c.loop-place.invariant.rest)
    (ap (λ (p : Page). p.others) c.loop-place.invariant.same)
    (ap (λ (p : Page). p.messages) c.loop-place.invariant.same)
    (ap (λ (p : Page). p.further) c.loop-place.invariant.same
    ∙ sym (ap (λ b. one_more (not b) c.args.self.now.further) place))) c.take.ensures

pub returns-then-len-lt-LINES_MAX : goal.returns-then-len-lt-LINES_MAX
returns-then-len-lt-LINES_MAX c =
    let d = view c.args.value in
    let o : Arrived = record { object = d; came = c.args.came } in
    let end : c.loop-place.place ≡ length c.loop-place.self.lines.items = search rules in
    let room : c.loop-place.place < 128 = search rules in
    let place : has_place 128 (name_of d) (state_of c.args.self.now).lines ≡ true =
    c.loop-place.invariant.place
    ∙ place_left line_of (name_of d) c.loop-place.place c.loop-place.self.lines.items end room in
    on_ok_weaker c.begin.result (λ begun.
    begun ∙ state_same _ (told_in o (state_of c.args.self.now))
    (comes_last line_of (is_named (name_of d)) (line_after o) (new_line (name_of d)) c.loop-place.place
    c.loop-place.self.lines.items end room ∙ sym c.loop-place.invariant.rest)
    (ap (λ (p : Page). p.others) c.loop-place.invariant.same)
    (ap (λ (p : Page). p.messages) c.loop-place.invariant.same)
    (ap (λ (p : Page). p.further) c.loop-place.invariant.same
    ∙ sym (ap (λ b. one_more (not b) c.args.self.now.further) place))) c.begin.ensures

pub returns : goal.returns
returns c =
    let d = view c.args.value in
    let o : Arrived = record { object = d; came = c.args.came } in
    let end : c.loop-place.place ≡ length c.loop-place.self.lines.items = search rules in
    let full : 128 ≤ c.loop-place.place = search rules in
    let place : has_place 128 (name_of d) (state_of c.args.self.now).lines ≡ false =
    c.loop-place.invariant.place
    ∙ no_place_left line_of (name_of d) c.loop-place.place c.loop-place.self.lines.items end full in
    state_same _ (told_in o (state_of c.args.self.now))
    (no_room line_of (is_named (name_of d)) (line_after o) (new_line (name_of d)) c.loop-place.place
    c.loop-place.self.lines.items end full ∙ sym c.loop-place.invariant.rest)
    (ap (λ (p : Page). p.others) c.loop-place.invariant.same)
    (ap (λ (p : Page). p.messages) c.loop-place.invariant.same)
    (c.add.ensures ∙ ap (λ (p : Page). one_more true p.further) c.loop-place.invariant.same
    ∙ sym (ap (λ b. one_more (not b) c.args.self.now.further) place))
