use Rattle.std.proofs.Common.{◌+◌, ◌++◌, ◌∷◌, [], List, ℕ, ap, ◌∙◌, sym, subst, append_assoc, append-nil, arith}
use Rattle.std.proofs.Common.{Some, None}
use Rattle.uecp_text.specs.Input.{numbered, lines_of}
use Rattle.bad_line.specs.Files.{AreSpelled}
use Rattle.bad_line.proofs.Filing.{one_more, next_line, none_left, nothing_left}
use Rattle.bad_line.proofs.rules.file.read_rules.Goals as goal

pub loop-rest-preserved-in-Ok-push : goal.loop-rest-preserved-in-Ok-push
loop-rest-preserved-in-Ok-push c =
    let inv = c.loop-rest.invariant in
    let line = c.first_input_line.result.0.now in
    let more = c.first_input_line.result.1.now in
    record {
      before = inv.before ++ (c.loop-rest.number + 1, c.in-Some.text.now) ∷ [];
      cut = next_line _ inv.before (c.loop-rest.number + 1) c.loop-rest.rest.now line more (Some c.in-Some.text.now)
          inv.cut c.first_input_line.ensures.lines (sym c.in-Some.ensures);
      spelled = subst (λ rules. AreSpelled (inv.before ++ (c.loop-rest.number + 1, c.in-Some.text.now) ∷ []) rules)
          (sym c.in-Ok-push.ensures.items)
          (one_more inv.before c.loop-rest.rules.items (c.loop-rest.number + 1, c.in-Some.text.now) c.in-Ok.rule
          inv.spelled
          c.in-Ok.ensures.spelled);
      within = omega (arith, inv.within, c.first_input_line.ensures.shorter);
    }

pub returns-in-Err-clause-refused : goal.returns-in-Err-clause-refused
returns-in-Err-clause-refused c =
    let inv = c.loop-rest.invariant in
    let line = c.first_input_line.result.0.now in
    let more = c.first_input_line.result.1.now in
    let behind : List (ℕ × List ℕ) = numbered (c.loop-rest.number + 1 + 1) (lines_of more) in (
      inv.before,
      c.in-Some.text.now,
      behind,
      c.loop-rest.rules.items,
      next_line _ inv.before (c.loop-rest.number + 1) c.loop-rest.rest.now line more (Some c.in-Some.text.now)
          inv.cut c.first_input_line.ensures.lines (sym c.in-Some.ensures)
          ∙ append_assoc inv.before ((c.loop-rest.number + 1, c.in-Some.text.now) ∷ []) behind,
      inv.spelled,
      c.in-Err.ensures.refused,
    )

pub loop-rest-preserved : goal.loop-rest-preserved
loop-rest-preserved c =
    let inv = c.loop-rest.invariant in
    let line = c.first_input_line.result.0.now in
    let more = c.first_input_line.result.1.now in
    record {
      before = inv.before;
      cut = next_line _ inv.before (c.loop-rest.number + 1) c.loop-rest.rest.now line more None
          inv.cut c.first_input_line.ensures.lines (sym c.in_default.ensures)
          ∙ ap (λ (x : List (ℕ × List ℕ)). x ++ numbered (c.loop-rest.number + 1 + 1) (lines_of more))
          (append-nil inv.before);
      spelled = inv.spelled;
      within = omega (arith, inv.within, c.first_input_line.ensures.shorter);
    }

pub returns-clause-spelled : goal.returns-clause-spelled
returns-clause-spelled c =
    let inv = c.loop-rest.invariant in
    none_left _ inv.before (c.loop-rest.number + 1) c.loop-rest.rest.now c.loop-rest.rules.items
    (nothing_left c.loop-rest.rest.now c.loop-rest-test.ensures) inv.cut inv.spelled
