use Rattle.std.proofs.Common.{rules, arith}
use Rattle.line_batches.proofs.Growing.{none_taken, grows, is_done, gives_up}
use Rattle.line_batches.proofs.taking.take_batch.Goals as goal

pub loop-line-init : goal.loop-line-init
loop-line-init g c =
    let f = g.F.Feed in
    let how = c.args.reading.now in
    none_taken f.remaining f.takes f.says f.passes how.input how.size how.strict _ _ c.requires.empty c.requires.some

pub loop-line-preserved : goal.loop-line-preserved
loop-line-preserved g c =
    let f = g.F.Feed in
    let how = c.args.reading.now in
    grows f.remaining f.takes f.says f.passes how.input how.size how.strict _ _ _ _ c.loop-line.invariant _ _
    (search rules)

pub returns-in-Some : goal.returns-in-Some
returns-in-Some g c =
    let f = g.F.Feed in
    let how = c.args.reading.now in
    is_done f.remaining f.takes f.says f.passes how.input how.size how.strict _ _ _ _ c.loop-line.invariant _ _
    c.in-Some.after c.in-Some.ensures

pub returns : goal.returns
returns g c =
    let f = g.F.Feed in
    let how = c.args.reading.now in
    let most = c.loop-line.auto._line-end in
    let least = c.loop-line-test.false in
    gives_up f.remaining f.takes f.says f.passes how.input how.size how.strict _ _ _ _ c.loop-line.invariant
    (omega (arith, most, least))
