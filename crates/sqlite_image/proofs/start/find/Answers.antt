use Rattle.std.proofs.Common.{inl, inr}
use Rattle.sqlite.specs.Held.{state}
use Rattle.sqlite_image.proofs.KeepLemmas.{found_is}
use Rattle.sqlite_image.proofs.TableLemmas.{refused_before}
use Rattle.sqlite_image.proofs.start.find.Goals as goal

pub returns-in-Ok-clause-found : goal.returns-in-Ok-clause-found
returns-in-Ok-clause-found g c image holds clean =
    let before = c.read.ensures.clean clean in
    let stands = c.in-Ok.ensures.ours before in
    found_is c.args.version image (state g.S.Store c.ready.new.conn) (state g.S.Store c.read.new.conn) c.read.result
    (c.read.ensures.found stands clean) (c.read.ensures.same stands clean)
    (c.in-Ok.ensures.same c.args.version image holds before)

pub returns-in-Ok-clause-left : goal.returns-in-Ok-clause-left
returns-in-Ok-clause-left g c clean rows may =
    let before = c.read.ensures.clean clean in
    elim ((c.read.ensures.crash (c.in-Ok.ensures.ours before)).crash clean rows may) [
      | inl left ↦ c.in-Ok.ensures.left
          c.args.version before rows left
      | inr none ↦ absurd none
    ]

pub returns-in-Err-clause-left : goal.returns-in-Err-clause-left
returns-in-Err-clause-left g c clean rows may = c.ready.ensures.left c.args.version clean rows may

pub returns-in-Ok-clause-refused : goal.returns-in-Ok-clause-refused
returns-in-Ok-clause-refused g c clean =
    let before = c.read.ensures.clean clean in
    refused_before c.args.version (state g.S.Store c.ready.new.conn).now (state g.S.Store c.args.conn.now).now
    c.read.result (c.in-Ok.ensures.made before) (c.read.ensures.refused (c.in-Ok.ensures.ours before) clean)

pub returns-in-Err-clause-refused : goal.returns-in-Err-clause-refused
returns-in-Err-clause-refused g c clean = c.in-Err.ensures.refused c.args.version
