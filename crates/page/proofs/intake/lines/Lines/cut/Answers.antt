use Rattle.std.proofs.Common.{◌≡◌, ◌+◌, ◌-◌, sym, subst, take, drop}
use Rattle.page.specs.declared.intake.open_line.Cut.TheVariants.{Nothing}
use Rattle.page.specs.Lines.{Cuts}
use Rattle.page.proofs.Cutting.{cut_is, none_is}
use Rattle.page.proofs.intake.lines.Lines.cut.Goals as goal

pub returns-in_ok-put-in-Some-clause-cuts : goal.returns-in_ok-put-in-Some-clause-cuts
returns-in_ok-put-in-Some-clause-cuts c =
    let made = c.in_ok-put-in-Some.ensures.ok in
    let found = c.in-Some.ensures in
    let same = c.as_slice.ensures.value in
    let l = c.self.inside in
    let viewed = subst (λ i. record { held = l.held; ahead = take (l.to - l.from) (drop l.from i) } ≡ c.args.self.now)
    (sym same) c.self.view_is in
    let next = l.from + (c.in-Some.place + 1) in
    subst (λ i. Cuts c.args.self.now (record { held = c.end.new.self; ahead = take (l.to - next) (drop next i) })
    c.end.result) same
    (cut_is c.args.self.now c.as_slice.result.now l.from l.to c.in-Some.place l.held c.put.new.self c.end.new.self
    c.end.result viewed found.0 found.1 made c.end.ensures)

pub returns-in_ok-put-in-None-clause-cuts : goal.returns-in_ok-put-in-None-clause-cuts
returns-in_ok-put-in-None-clause-cuts c =
    let made = c.in_ok-put-in-None.ensures.ok in
    let found = c.in-None.ensures in
    let same = c.as_slice.ensures.value in
    let l = c.self.inside in
    let viewed = subst (λ i. record { held = l.held; ahead = take (l.to - l.from) (drop l.from i) } ≡ c.args.self.now)
    (sym same) c.self.view_is in
    subst (λ i. Cuts c.args.self.now
    (record { held = c.put-in-None.new.self; ahead = take (l.to - l.to) (drop l.to i) }) Nothing) same
    (none_is c.args.self.now c.as_slice.result.now l.from l.to l.held c.put-in-None.new.self viewed found made)
