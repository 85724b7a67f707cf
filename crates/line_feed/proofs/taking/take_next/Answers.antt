use Rattle.std.proofs.Common.{subst}
use Rattle.std.specs.Io.KnownBytes.{prepend_known}
use Rattle.std.proofs.KnownBytes.{Keeps-refl}
use Rattle.line_feed.specs.Lines.{HasNoEnd}
use Rattle.line_feed.specs.Parts.{EndsFirst}
use Rattle.line_feed.proofs.Passing.{first_taken}
use Rattle.line_feed.proofs.Splitting.{no_line}
use Rattle.line_feed.proofs.taking.take_next.Goals as goal

pub returns-in-Some-clause-next : goal.returns-in-Some-clause-next
returns-in-Some-clause-next g c =
    let held = c.args.held.now in
    let before = prepend_known held c.args.source.now.left in
    let first : EndsFirst held c.in-Some.count =
    subst (λ l. EndsFirst l c.in-Some.count) c.as_slice.ensures c.in-Some.ensures in
    first_taken before c.args.source.now.left held c.take_first.new.held c.take_first.new.line.items c.in-Some.count
    c.take_first.result (Keeps-refl before) first c.take_first.ensures.taken

pub returns-in-None-clause-early : goal.returns-in-None-clause-early
returns-in-None-clause-early g c =
    λ line. absurd (no_line c.args.held.now (subst HasNoEnd c.as_slice.ensures c.in-None.ensures) line)
